use Rattle.std.proofs.Common.{List, take}
use Rattle.rows_model.specs.Rows.{Tables}
use Rattle.sql_keeper.specs.declared.stores.Commit.{Commit}
use Rattle.sql_keeper.specs.Fresh.{Fresh}
use Rattle.run_audit.specs.Findings.{histories_in}
use Rattle.run_audit.specs.Notes.{AreNotes}
use Rattle.run_audit.proofs.audits.stale_or_clean.Given as goal

abbrev pub invariant-loop-no : goal.invariant-loop-no
invariant-loop-no l =
    (opening : Tables) (log : List Commit) → AreNotes opening log l.notes → Fresh opening log (histories_in (take l.no l.shards))
