-- What a request makes of the store, and what its session is told.
use Rattle.std.specs.Prelude.{ℕ, ◌≡◌, ◌+◌, Bool, true, false, List, length, None, IsSome, Result, Ok, Err}
use Rattle.rows_model.specs.declared.changes.Change.{Change}
use Rattle.rows_model.specs.declared.keys.QKey.{QKey}
use Rattle.rows_model.specs.declared.keys.Sid.{Sid}
use Rattle.rows_model.specs.Changes.{apply_all}
use Rattle.rows_model.specs.Query.{answer}
use Rattle.rows_model.specs.Rows.{Tables}
use Rattle.key_shard.specs.Permit.{Permit}
use Rattle.sql_keeper.specs.declared.faults.AfterFault.{AfterFault}
use Rattle.sql_keeper.specs.declared.faults.CommitFault.{CommitFault}
use Rattle.sql_keeper.specs.declared.stores.Answer.{Answer}
use Rattle.sql_keeper.specs.Faults.{Counts, staged_failed, is_failure}
use Rattle.sql_keeper.specs.Keepers.{AnswersAfter}
use Rattle.sql_keeper.specs.Sessions.{is_open}
use Rattle.sql_keeper.specs.Stores.{Ledger, StoreView, rows_of, first_fault, with_call, with_commit, with_end, IsRefusal, IsTrueFault}
use Rattle.session_client.specs.Grants.{GrantsView}
use Rattle.session_client.specs.declared.replies.Fault.TheVariants as faults
use Rattle.session_client.specs.declared.replies.Reply.{Reply}
use Rattle.session_client.specs.declared.replies.Reply.TheVariants as Reply
use Rattle.session_client.specs.declared.replies.Wanted.{Wanted}
use Rattle.session_client.specs.declared.replies.Wanted.TheVariants as wanted

-- The request is one that the store makes.
abbrev pub IsAtStore : Wanted → Type 0
IsAtStore (wanted.Ask key) = Unit {0}
IsAtStore (wanted.Staged key txn) = Unit {0}
IsAtStore (wanted.Commit txn grants) = Unit {0}
IsAtStore wanted.End = Unit {0}
IsAtStore other = ⊥

-- The store has this ledger now. Its keeper failed in the call or it didn't, and
-- its count of faults tells which; where its rows are told now they were told before.
pub record Goes (failed : Bool) (ledger : Ledger) (old new : StoreView) : Type 0 where
  pub ledger_is : new.ledger ≡ ledger
  pub counted : Counts failed old.faults new.faults
  pub known_before : IsSome new.known_rows → IsSome old.known_rows

-- The answer is of that key, stamped with the number of commits, and where the rows are told it is that of the rows after these.
pub record IsAnswer (key : QKey) (old new : StoreView) (given : Answer) : Type 0 where
  pub of_key : given.key ≡ key
  pub stamped : given.stamp ≡ length old.ledger.log
  pub value_is : IsSome new.known_rows → given.value ≡ answer key (rows_of old.ledger)

-- What an ask makes of the store, and what is told.
abbrev pub TellsAnswer : QKey → StoreView → StoreView → Reply → Type 0
TellsAnswer key old new (Reply.Answer given) = Goes false old.ledger old new × IsAnswer key old new given
TellsAnswer key old new (Reply.Fault faults.Keep) = Goes true (with_call true old.ledger) old new
TellsAnswer key old new (Reply.Fault faults.Memory) = Goes false old.ledger old new
TellsAnswer key old new (Reply.Fault faults.Spent) = ⊥
TellsAnswer key old new other = ⊥

-- What an ask of the rows after a transaction makes of the store: nothing but the count of failed calls. Where the rows are told the answer is theirs after it.
pub record IsStaged (key : QKey) (txn : List Change) (old new : StoreView) (made : Result (List ℕ) AfterFault) : Type 0 where
  pub goes : Goes (staged_failed made) (with_call (staged_failed made) old.ledger) old new
  pub value_is : IsSome new.known_rows → AnswersAfter txn key (rows_of old.ledger) made

-- It is told so, and the transaction comes back.
abbrev pub TellsStaged : QKey → List Change → StoreView → StoreView → Reply → Type 0
TellsStaged key txn old new (Reply.Staged value back) = (back ≡ txn) × IsStaged key txn old new (Ok value)
TellsStaged key txn old new (Reply.NotStaged fault back) = (back ≡ txn) × IsStaged key txn old new (Err fault)
TellsStaged key txn old new other = ⊥

-- The session's transaction was committed under these grants, with this number: nothing
-- stood against it, the log has it last, and where the rows are told they took it.
pub record IsCommitted (who : Sid) (txn : List Change) (grants : List Permit) (old new : StoreView) (number : ℕ) : Type 0 where
  pub admitted : first_fault old.ledger who grants txn ≡ None
  pub goes : Goes false (with_commit who txn old.ledger) old new
  pub number_is : number ≡ length old.ledger.log + 1
  pub applied : IsSome new.known_rows → (after : Tables) × (apply_all txn (rows_of old.ledger) ≡ Ok after)

-- It was not committed for this fault: the first that is found before the keeper is asked, or else one of the keeper's. The log is as before.
pub record IsRefused (who : Sid) (txn : List Change) (grants : List Permit) (old new : StoreView) (fault : CommitFault) : Type 0 where
  pub refusal : IsRefusal (first_fault old.ledger who grants txn) fault
  pub goes : Goes (is_failure fault) (with_call (is_failure fault) old.ledger) old new
  pub true_place : IsSome new.known_rows → IsTrueFault txn (rows_of old.ledger) fault

-- What a commit makes of the store, and what is told: the transaction and the grants come back.
abbrev pub TellsCommit : Sid → List Change → GrantsView → StoreView → StoreView → Reply → Type 0
TellsCommit who txn grants old new (Reply.Committed number back kept) =
    (back ≡ txn) × (kept ≡ grants) × IsCommitted who txn grants.items old new number
TellsCommit who txn grants old new (Reply.NotCommitted fault back kept) =
    (back ≡ txn) × (kept ≡ grants) × IsRefused who txn grants.items old new fault
TellsCommit who txn grants old new other = ⊥

-- What an end makes of the store, and what is told: whether the session was open.
abbrev pub TellsEnd : Sid → StoreView → StoreView → Reply → Type 0
TellsEnd who old new (Reply.End was) =
    (was ≡ is_open who old.ledger.sessions) × Goes false (with_end who old.ledger) old new
TellsEnd who old new other = ⊥

-- What a session's request makes of the store, and what the session is told.
abbrev pub MakesAtStore : StoreView → Sid → Wanted → StoreView → Reply → Type 0
MakesAtStore old who (wanted.Ask key) new reply = TellsAnswer key old new reply
MakesAtStore old who (wanted.Staged key txn) new reply = TellsStaged key txn old new reply
MakesAtStore old who (wanted.Commit txn grants) new reply = TellsCommit who txn grants old new reply
MakesAtStore old who wanted.End new reply = TellsEnd who old new reply
MakesAtStore old who other new reply = ⊥
