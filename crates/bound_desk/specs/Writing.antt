-- What the pass has seen beside what the book says, for the releases that write a value: the quarantines that stood alone,
-- and the place of the commit.
use Rattle.std.specs.Prelude.{ℕ, ℤ, pos, ◌≡◌, ◌+◌, ◌<◌, true, false, List, length, take, All, Option}
use Rattle.std.specs.Option.{ForSome}
use Rattle.rows_model.specs.declared.keys.Sid.{Sid}
use Rattle.rows_model.specs.Placement.{shard_of}
use Rattle.rows_model.specs.Rows.{Tables}
use Rattle.lease_table.specs.declared.records.Mode.TheVariants as mode
use Rattle.key_shard.specs.declared.replies.QAnswer.{QAnswer}
use Rattle.key_shard.specs.declared.replies.QAnswer.TheVariants as quarantine
use Rattle.key_shard.specs.declared.replies.Raising.{Raising}
use Rattle.key_shard.specs.declared.replies.Raising.TheVariants as raising
use Rattle.key_shard.specs.declared.steps.Step.{Step}
use Rattle.sql_keeper.specs.declared.stores.Commit.{Commit}
use Rattle.log_word.specs.declared.events.Short.{Short}
use Rattle.log_word.specs.declared.seen.Seen.{Seen}
use Rattle.log_word.specs.Steps.{is_grant, IsSound, IsBeginning}
use Rattle.key_freshness.specs.Known.{StandsAt}
use Rattle.bound_hub.specs.Gets.{IsLastStep}
use Rattle.bound_hub.specs.Knowns.{commits_of}
use Rattle.bound_hub.specs.Olds.{IsOldHeld}
use Rattle.bound_hub.specs.Shorts.{is_alone}
use Rattle.bound_hub.specs.TrueLogs.{IsTrueLog}
use Rattle.bound_hub.specs.Writes.{IsAloneOn}
use Rattle.desk_book.specs.Books.{Book, Held}
use Rattle.desk_book.specs.declared.facts.Committed.{Committed}

-- The last step of the key's shard that is seen left the grant's quarantine alone on its key. One that is to shift was granted
-- by it, to shift by so much. The old value that came along is held by what is seen.
pub record StoodAlone (opening : Tables) (before : ℕ → List Step) (shards : ℕ) (seen : Seen) (one : Held) : Type 0 where
  pub step : Short
  pub last : IsLastStep (shard_of one.permit.key shards) step seen
  pub alone : IsAloneOn one.permit.key one.permit.sid.number one.permit.token step
  pub shifts : one.permit.mode ≡ mode.Delta → (is_grant step.kind ≡ true) × (step.by ≡ one.by)
  pub old : IsOldHeld opening (before (shard_of one.permit.key shards)) (shard_of one.permit.key shards) seen one.permit.key one.old

-- The pass had seen it so, before it saw the commit that is noted.
pub record IsAloneSeen (opening : Tables) (before : ℕ → List Step) (shards : ℕ) (commit : Option Committed) (seen : Seen) (one : Held) : Type 0 where
  pub earlier : Seen
  pub sound : IsSound shards earlier
  pub begins : IsBeginning earlier seen
  pub stood : StoodAlone opening before shards earlier one
  pub late : ForSome commit (λ done. length (commits_of earlier.events) < done.number)

-- A grant in a mode in which its quarantine stands alone was seen to do so.
abbrev pub IsHeldSeen : Tables → (ℕ → List Step) → ℕ → Option Committed → Seen → Held → Type 0
IsHeldSeen opening before shards commit seen one =
    is_alone one.permit.mode ≡ true → IsAloneSeen opening before shards commit seen one

-- The session's commit that is noted stands at its place among those that are seen. Up to it each transaction applied, unless it
-- is seen that the store has stopped telling its rows.
pub record IsPlaced (opening : Tables) (seen : Seen) (who : Sid) (done : Committed) : Type 0 where
  pub own : Commit
  pub place : ℕ
  pub at : StandsAt (commits_of seen.events) place own
  pub its_own : own.sid.number ≡ who.number
  pub txn_is : own.txn ≡ done.txn
  pub number_is : done.number ≡ place + 1
  pub applied : seen.stopped ≡ false → IsTrueLog opening (take done.number (commits_of seen.events))

-- The pass has seen all that.
pub record IsReadyToWrite (opening : Tables) (before : ℕ → List Step) (shards : ℕ) (book : Book) (seen : Seen) : Type 0 where
  pub held : All (IsHeldSeen opening before shards book.commit seen) book.held
  pub commit : ForSome book.present (λ present. ForSome book.commit (IsPlaced opening seen present.sid))

-- What a quarantine that is to shift by this much brings, where it stands alone.
abbrev pub IsGrantAlone : Tables → (ℕ → List Step) → ℕ → ℤ → Seen → QAnswer → Type 0
IsGrantAlone opening before shards by seen (quarantine.Granted grant old) =
    is_alone grant.mode ≡ true → StoodAlone opening before shards seen (record { permit = grant; old = old; by = by })
IsGrantAlone opening before shards by seen other = Unit {0}

-- What a raise brings, whose quarantine stands alone.
abbrev pub IsRaiseAlone : Tables → (ℕ → List Step) → ℕ → Seen → Raising → Type 0
IsRaiseAlone opening before shards seen (raising.Raised grant old) =
    StoodAlone opening before shards seen (record { permit = grant; old = old; by = pos 0 })
IsRaiseAlone opening before shards seen other = Unit {0}
