-- What an audit knows of a log.
use Rattle.std.specs.Prelude.{◌≡◌, Bool, true, false, List, length, All, Ok}
use Rattle.rows_model.specs.Rows.{Tables, Fit}
use Rattle.rows_model.specs.Changes.{HasIds, apply_all}
use Rattle.sql_keeper.specs.declared.stores.Commit.{Commit}
use Rattle.sql_keeper.specs.Log.{after_commit}
use Rattle.run_audit.specs.declared.notes.Notes.{Notes}
use Rattle.run_audit.specs.Answers.{AreAnswers}
use Rattle.run_audit.specs.Numbers.{AreNumbers}

-- A commit led from these rows to those: its transaction was made, or it doesn't apply and they are the same.
pub record IsLed (is_made : Bool) (commit : Commit) (before after : Tables) : Type 0 where
  pub led : after ≡ after_commit before commit
  pub fit : Fit before
  pub ids : All HasIds commit.txn
  pub made : is_made ≡ true → apply_all commit.txn before ≡ Ok after
  pub same : is_made ≡ false → after ≡ before

-- The notes are those of this log over these opening rows.
pub record AreNotes (opening : Tables) (log : List Commit) (notes : Notes) : Type 0 where
  pub answers : AreAnswers opening log notes.answers
  pub numbers : AreNumbers log notes.numbers
  pub count : notes.count ≡ length log
