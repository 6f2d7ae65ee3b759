use Rattle.std.proofs.Common.{List, ap, ◌∙◌}
use Rattle.rows_model.specs.declared.rows.Link.{Link}
use Rattle.rows_model.specs.Changes.{with_link, friendship}
use Rattle.rows_model.proofs.near.make_in.Goals as goal

pub returns-in-Invite-clause-items : goal.returns-in-Invite-clause-items
returns-in-Invite-clause-items c =
    rw c.in-Invite.is (c.put.ensures.items ∙ ap (λ (new : Link). with_link new c.args.links.now.items) c.invitation.ensures)

pub returns-in-Accept-clause-items : goal.returns-in-Accept-clause-items
returns-in-Accept-clause-items c =
    rw c.in-Accept.is (c.put-in-Accept.ensures.items ∙ (ap (λ (new : Link). with_link new c.take.new.links.items) c.friendship.ensures
    ∙ ap (λ (links : List Link). with_link (friendship c.in-Accept.a c.in-Accept.b) links) c.take.ensures.items))
