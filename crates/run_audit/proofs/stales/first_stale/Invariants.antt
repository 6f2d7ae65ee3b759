use Rattle.std.proofs.Common.{List, take, reverse}
use Rattle.rows_model.specs.Rows.{Tables}
use Rattle.sql_keeper.specs.declared.stores.Commit.{Commit}
use Rattle.sql_keeper.specs.Fresh.{IsFreshPast}
use Rattle.run_audit.specs.Notes.{AreNotes}
use Rattle.run_audit.specs.Numbers.{AreFloors}
use Rattle.run_audit.proofs.stales.first_stale.Given as goal

abbrev pub invariant-loop-place : goal.invariant-loop-place
invariant-loop-place l =
    (opening : Tables) (log : List Commit) → AreNotes opening log l.notes
    → IsFreshPast opening log (reverse (take l.place l.history)) × AreFloors log (reverse (take l.place l.history)) l.floors
