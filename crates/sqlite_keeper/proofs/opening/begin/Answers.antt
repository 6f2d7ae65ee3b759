use Rattle.std.proofs.Common.{List, subst}
use Rattle.rows_model.specs.declared.rows.Member.{Member}
use Rattle.sqlite.specs.Held.{state}
use Rattle.sqlite_tables.specs.Lists.{AreLists}
use Rattle.sqlite_keeper.specs.Openings.{members_alone}
use Rattle.sqlite_keeper.proofs.OpeningLemmas.{holds_start}
use Rattle.sqlite_keeper.proofs.opening.begin.Goals as goal

pub returns-clause-held : goal.returns-clause-held
returns-clause-held g c = λ clean blank.
    let now = (state g.S.Store c.make_rows.new.conn).now in
    let are = c.in_ok-make_rows.ensures.made clean blank in
    let here = subst (λ (ms : List Member). AreLists now (members_alone ms)) c.members.ensures.items are in
    holds_start now c.in_ok-rows.rows c.args.members c.in_ok-rows.ensures here
