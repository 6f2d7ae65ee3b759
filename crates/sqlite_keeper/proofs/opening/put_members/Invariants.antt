use Rattle.std.proofs.Common.{◌≡◌, ◌≤◌, take}
use Rattle.sqlite_trees.specs.View.{doubt}
use Rattle.sqlite.specs.State.{HasCleanDisk}
use Rattle.sqlite.specs.Held.{state}
use Rattle.sqlite_tables.specs.Lists.{AreLists, no_lists}
use Rattle.sqlite_keeper.specs.Openings.{members_alone}
use Rattle.sqlite_keeper.proofs.opening.put_members.Given as goal

abbrev pub invariant-loop-member : goal.invariant-loop-member
invariant-loop-member g l = record {
  same_reference : l.tx.conn.ghost_name ≡ l.initial.tx.conn.ghost_name;
  clean : doubt (state g.S.Store l.initial.tx.conn.now).is_clean ≤ doubt (state g.S.Store l.tx.conn.now).is_clean;
  put : HasCleanDisk (state g.S.Store l.tx.conn.now) → AreLists (state g.S.Store l.initial.tx.conn.now).now no_lists
      → AreLists (state g.S.Store l.tx.conn.now).now (members_alone (take l.member-index l.members));
}
