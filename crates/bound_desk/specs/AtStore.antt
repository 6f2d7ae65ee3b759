-- What a reply from the store tells the desk that asked there.
use Rattle.std.specs.Prelude.{ℕ, ◌≡◌, ◌⊎◌, true, List, filter, Err, Ok}
use Rattle.rows_model.specs.declared.changes.Change.{Change}
use Rattle.rows_model.specs.declared.keys.Sid.{Sid}
use Rattle.rows_model.specs.Rows.{Tables}
use Rattle.key_shard.specs.Permit.{Permit}
use Rattle.sql_keeper.specs.declared.faults.CommitFault.{CommitFault}
use Rattle.sql_keeper.specs.declared.faults.CommitFault.TheVariants as causes
use Rattle.sql_keeper.specs.declared.faults.KeepFault.{KeepFault}
use Rattle.sql_keeper.specs.declared.faults.KeepFault.TheVariants as keep
use Rattle.sql_keeper.specs.Faults.{is_failure, staged_failed}
use Rattle.session_client.specs.declared.replies.Fault.{Fault}
use Rattle.session_client.specs.declared.replies.Fault.TheVariants as fault
use Rattle.session_client.specs.declared.replies.Reply.{Reply}
use Rattle.session_client.specs.declared.replies.Wanted.{Wanted}
use Rattle.session_client.specs.declared.replies.Wanted.TheVariants as wanted
use Rattle.log_word.specs.declared.seen.Seen.{Seen}
use Rattle.bound_hub.specs.Stores.{SeesFailure, ShowsAnswer, ShowsCommit, ShowsEnd, ShowsRefusal, ShowsStaged}
use Rattle.desk_book.specs.Apart.{is_held}
use Rattle.desk_book.specs.Books.{Book}

-- What a session is told of a question that the keeper didn't answer.
abbrev pub fault_of_keeper : KeepFault → Fault
fault_of_keeper keep.Failed = fault.Keep
fault_of_keeper keep.Memory = fault.Memory

-- A session didn't commit under these grants: for want of memory, or for a fault that the events show. A failed keeper is
-- told only where one more failed call is seen.
pub record IsUncommitted (opening : Tables) (cap : ℕ) (who : Sid) (txn : List Change) (held : List Permit) (cause : CommitFault) (old new : Seen) : Type 0 where
  pub refused : (cause ≡ causes.Memory) ⊎ ShowsRefusal opening cap who txn held new cause
  pub failed : SeesFailure (is_failure cause) old new

-- What a reply from the store tells, where this had been seen before the call and that is seen behind it. A commit stands
-- on those of its grants that the book holds.
abbrev pub ShowsAtStore : Tables → ℕ → Book → Sid → Wanted → Reply → Seen → Seen → Type 0
ShowsAtStore opening cap book who (wanted.Ask key) (Reply.Answer given) old new = ShowsAnswer opening key new given
ShowsAtStore opening cap book who (wanted.Ask key) (Reply.Fault fault.Keep) old new = SeesFailure true old new
ShowsAtStore opening cap book who (wanted.Staged key txn) (Reply.Staged value back) old new = ShowsStaged opening key txn new (Ok value)
ShowsAtStore opening cap book who (wanted.Staged key txn) (Reply.NotStaged cause back) old new =
    ShowsStaged opening key txn new (Err cause) × SeesFailure (staged_failed {A = List ℕ} (Err cause)) old new
ShowsAtStore opening cap book who (wanted.Commit txn grants) (Reply.Committed number changes back) old new =
    ShowsCommit opening cap who txn (filter (is_held book) grants.items) new number
ShowsAtStore opening cap book who (wanted.Commit txn grants) (Reply.NotCommitted cause changes back) old new =
    IsUncommitted opening cap who txn (filter (is_held book) grants.items) cause old new
ShowsAtStore opening cap book who wanted.End (Reply.End was) old new = ShowsEnd who new was
ShowsAtStore opening cap book who request reply old new = Unit {0}
