use Rattle.std.proofs.Common.{◌≡◌, take}
use Rattle.sql_keeper.specs.Log.{rows_after}
use Rattle.run_audit.specs.Answers.{KnowsTheSame}
use Rattle.run_audit.specs.Notes.{AreNotes}
use Rattle.run_audit.proofs.notes.notes_of.Given as goal

abbrev pub invariant-loop-commit : goal.invariant-loop-commit
invariant-loop-commit l = record {
  rows_are : l.rows ≡ rows_after l.opening (take l.commit-index l.log);
  notes_are : AreNotes l.opening (take l.commit-index l.log) l.notes;
  same_keys : KnowsTheSame l.initial.notes.answers l.notes.answers;
}
