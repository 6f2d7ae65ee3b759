use Rattle.std.proofs.Common.{sym, ◌∙◌}
use Rattle.conn_server.specs.Clients.{grants_but}
use Rattle.conn_server.proofs.AnswerLemmas.{same_parts}
use Rattle.conn_server.proofs.GrantLemmas.{found_at, insert-remove, some_place}
use Rattle.conn_server.proofs.clients.Client.take_on.Goals as goal

pub unwrap-place-requires : goal.unwrap-place-requires
unwrap-place-requires c = rw c.place_on.ensures (some_place c.args.key.now c.args.self.now.grants.items c.requires.grant c.requires.is_first)

pub take-requires : goal.take-requires
take-requires c =
    let found = rw (← c.self.view_is) at c.place_on.ensures in
    (found_at c.args.key.now c.self.inside.grants.items c.unwrap-place.result c.requires.grant (sym found ∙ c.unwrap-place.ensures)).within

pub returns-clause-grant : goal.returns-clause-grant
returns-clause-grant c =
    let found = rw (← c.self.view_is) at c.place_on.ensures in
    let at = found_at c.args.key.now c.self.inside.grants.items c.unwrap-place.result c.requires.grant (sym found ∙ c.unwrap-place.ensures) in
    rw (← c.self.view_is) (sym at.grant ∙ c.take.ensures.grant)

pub returns-clause-others : goal.returns-clause-others
returns-clause-others c =
    let found = rw (← c.self.view_is) at c.place_on.ensures in
    let at = found_at c.args.key.now c.self.inside.grants.items c.unwrap-place.result c.requires.grant (sym found ∙ c.unwrap-place.ensures) in
    rw (← c.self.view_is) (same_parts (record { present = c.self.inside.present; grants = c.self.inside.grants }) c.take.new.self
    (grants_but c.args.key.now c.self.inside.grants.items) (c.take.ensures.items ∙ at.others) c.take.ensures.room)

pub returns-clause-back : goal.returns-clause-back
returns-clause-back c =
    rw (← c.self.view_is) (rw c.take.ensures.items (insert-remove c.self.inside.grants.items c.unwrap-place.result c.take.result c.take.ensures.grant))
