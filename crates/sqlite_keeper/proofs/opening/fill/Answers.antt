use Rattle.std.proofs.Common.{List, subst, arith}
use Rattle.rows_model.specs.declared.rows.Member.{Member}
use Rattle.sqlite.specs.State.{HasCleanDisk}
use Rattle.sqlite.specs.Held.{state}
use Rattle.sqlite_tables.specs.Lists.{AreLists, no_lists}
use Rattle.sqlite_keeper.specs.Openings.{members_alone}
use Rattle.sqlite_keeper.proofs.OpeningLemmas.{holds_start}
use Rattle.sqlite_keeper.proofs.opening.fill.Goals as goal

pub returns-clause-held : goal.returns-clause-held
returns-clause-held g c clean tables none =
    let now = (state g.S.Store c.put_members.new.tx.conn.now).now in
    let early : HasCleanDisk (state g.S.Store c.add_index.new.tx.conn.now) = omega (arith, c.put_members.ensures.clean, clean) in
    let bare = c.in_ok-add_index.ensures.added early tables no_lists none in
    let are = c.in_ok-put_members.ensures.put clean bare in
    let here = subst (λ (ms : List Member). AreLists now (members_alone ms)) c.members.ensures.items are in
    holds_start now c.in_ok-rows.rows c.args.members c.in_ok-rows.ensures here
