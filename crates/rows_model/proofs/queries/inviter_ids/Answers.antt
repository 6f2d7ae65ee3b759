use Rattle.std.proofs.Common.{filter, ap, ◌∙◌}
use Rattle.rows_model.specs.Query.{invites}
use Rattle.rows_model.proofs.IndexLemmas.{kept_in_list, inviter_is_end}
use Rattle.rows_model.proofs.queries.inviter_ids.Goals as goal

pub returns : goal.returns
returns c =
    let links = ap (filter (invites c.args.id)) c.links_of.ensures
    ∙ kept_in_list (invites c.args.id) c.args.id c.args.rows.now.links (inviter_is_end c.args.id) in
    rw (← links) c.inviters_among.ensures
