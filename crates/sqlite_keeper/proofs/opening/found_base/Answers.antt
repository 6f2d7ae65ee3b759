use Rattle.std.proofs.Common.{◌∙◌}
use Rattle.sqlite.specs.Held.{state}
use Rattle.sqlite_keeper.proofs.BaseLemmas.{all_clean}
use Rattle.sqlite_keeper.proofs.OpeningLemmas.{holds_counted}
use Rattle.sqlite_keeper.proofs.opening.found_base.Goals as goal

pub new-requires : goal.new-requires
new-requires g c = λ never.
    let new = c.settle.new.conn in
    let holds = c.in_ok-rows.ensures.held (all_clean g.S.Store never new) in
    holds_counted (state g.S.Store new).now c.in_ok-rows.rows c.tally_of-tally.result holds c.tally_of-tally.ensures.fit c.tally_of-tally.ensures.tallied

pub returns-clause-told : goal.returns-clause-told
returns-clause-told g c = λ never. c.new.ensures ∙ (c.in_ok-rows.ensures.held (all_clean g.S.Store never c.settle.new.conn)).rows_are

pub returns-clause-begun : goal.returns-clause-begun
returns-clause-begun g c = λ never. c.in_ok-rows.ensures.begun (all_clean g.S.Store never c.settle.new.conn)
