-- The laws of a key's freshness, over its marks and what is known of the store.
use Rattle.std.specs.Prelude.{ℕ, ◌≡◌, ◌⊎◌, ◌+◌, ◌≤◌, ◌<◌, true, List, [], ◌∷◌, ◌++◌, length, Option, None, Some}
use Rattle.rows_model.specs.declared.keys.QKey.{QKey}
use Rattle.rows_model.specs.declared.changes.Change.{Change}
use Rattle.rows_model.specs.Changes.{touches}
use Rattle.rows_model.specs.Query as query
use Rattle.rows_model.specs.Rows.{Tables}
use Rattle.lease_table.specs.declared.records.Quar.{Quar}
use Rattle.key_shard.specs.declared.steps.Step.{Step}
use Rattle.key_shard.specs.declared.steps.Step.TheVariants as step
use Rattle.key_shard.specs.declared.steps.Ended.TheVariants as ended
use Rattle.key_shard.specs.Past.{standing, entry}
use Rattle.sql_keeper.specs.declared.stores.Commit.{Commit}
use Rattle.sql_keeper.specs.Fresh.{IsFreshHit}
use Rattle.sql_keeper.specs.Log.{rows_after}
use Rattle.key_freshness.specs.Marks.{Mark, Ended, Wrote, Has, marks_of}
use Rattle.key_freshness.specs.Known.{Known, IsAmong, StandsAt, IsLogged, IsOver, IsMore, WasGranted, IsRuled}
use Rattle.key_freshness.specs.Moments.{IsMine, IsMoment, IsSince}
use Rattle.key_freshness.specs.Held.{IsHeld, IsRight, LeavesUntouched, MakesNext, IsEntryHeld, IsTied, IsStamped, stands_as}

-- A held entry stays held where more is known.
abbrev pub MoreIsHeld : Type 0
MoreIsHeld =
    (key : QKey) (marks : List Mark) (old new : Known) (stamp : ℕ) → IsMore old new → IsRuled key marks old → IsRuled key marks new
    → IsHeld key marks old stamp → IsHeld key marks new stamp

-- A right value stays right where more is known.
abbrev pub MoreIsRight : Type 0
MoreIsRight =
    (answer : List Commit → List ℕ) (old new : Known) (value : List ℕ) (stamp : ℕ) → IsMore old new → stamp ≤ length old.log
    → IsRight answer old.log value stamp → IsRight answer new.log value stamp

-- Since a moment each commit on the key that is known now is of the moment's session, or was known at the moment.
abbrev pub KnownThen : Type 0
KnownThen =
    (key : QKey) (mine : Option ℕ) (then_marks marks : List Mark) (then_known known : Known) → IsMoment key mine then_marks then_known
    → IsSince mine then_marks marks → IsMore then_known known → IsRuled key marks known
    → (place : ℕ) (commit : Commit) → StandsAt known.log place commit → touches commit.txn key ≡ true
    → IsMine mine commit.sid.number ⊎ (place < length then_known.log)

-- What is stored under a lease is held, where it was asked with at least what was known at the lease.
abbrev pub StoredIsHeld : Type 0
StoredIsHeld =
    (key : QKey) (then_marks marks : List Mark) (then_known asked known : Known) → IsMoment key None then_marks then_known
    → IsSince None then_marks marks → IsMore then_known asked → IsMore asked known → IsRuled key marks known
    → IsHeld key (Wrote (length asked.log) ∷ marks) known (length asked.log)

-- No commit that is known at the set and that the answer doesn't hold touches the key.
abbrev pub StoredIsLatest : Type 0
StoredIsLatest =
    (key : QKey) (then_marks marks : List Mark) (then_known known : Known) (stamp : ℕ) → IsMoment key None then_marks then_known
    → IsSince None then_marks marks → IsMore then_known known → IsRuled key marks known → length then_known.log ≤ stamp
    → (place : ℕ) (commit : Commit) → StandsAt known.log place commit → stamp ≤ place → touches commit.txn key ≡ true → ⊥

-- What is stored under a lease is right, where it was the answer when it was asked.
abbrev pub StoredIsRight : Type 0
StoredIsRight =
    (answer : List Commit → List ℕ) (asked known : Known) (value : List ℕ) → IsMore asked known → value ≡ answer asked.log
    → IsRight answer known.log value (length asked.log)

-- The session's own commit stands at this place, which wasn't known at the moment.
pub record IsOwn (then_known known : Known) (who place : ℕ) (own : Commit) : Type 0 where
  pub at : StandsAt known.log place own
  pub mine : own.sid.number ≡ who
  pub late : length then_known.log ≤ place

-- What a session puts in the place of the entry that it quarantined alone is held, with the number of its own commit as stamp.
abbrev pub PutIsHeld : Type 0
PutIsHeld =
    (key : QKey) (who token place : ℕ) (own : Commit) (then_marks marks : List Mark) (then_known known : Known)
    → IsMoment key (Some who) then_marks then_known → IsSince (Some who) then_marks marks → IsMore then_known known
    → IsRuled key marks known → IsOwn then_known known who place own
    → IsHeld key (Wrote (place + 1) ∷ Ended who token ∷ marks) known (place + 1)

-- And it is right where its own changes make it from the entry that was held and right at the moment.
abbrev pub PutIsRight : Type 0
PutIsRight =
    (key : QKey) (who place stamp : ℕ) (own : Commit) (then_marks marks : List Mark) (then_known known : Known)
    (answer : List Commit → List ℕ) (next : List Change → List ℕ → Option (List ℕ)) (old new : List ℕ)
    → IsMoment key (Some who) then_marks then_known → IsHeld key then_marks then_known stamp → IsRight answer then_known.log old stamp
    → IsSince (Some who) then_marks marks → IsMore then_known known → IsRuled key marks known → IsOwn then_known known who place own
    → LeavesUntouched key answer known.log → MakesNext next answer known.log → next own.txn old ≡ Some new
    → IsRight answer known.log new (place + 1)

-- The entry now is right after its own changes too, where it is held and was written before the moment.
abbrev pub ShiftIsRight : Type 0
ShiftIsRight =
    (key : QKey) (who place stamp : ℕ) (own : Commit) (then_marks marks : List Mark) (then_known known : Known)
    (answer : List Commit → List ℕ) (next : List Change → List ℕ → Option (List ℕ)) (old new : List ℕ)
    → IsMoment key (Some who) then_marks then_known → IsSince (Some who) then_marks marks → IsMore then_known known
    → IsRuled key marks known → IsHeld key marks known stamp → IsRight answer known.log old stamp → stamp ≤ length then_known.log
    → IsOwn then_known known who place own → LeavesUntouched key answer known.log → MakesNext next answer known.log
    → next own.txn old ≡ Some new → IsRight answer known.log new (place + 1)

-- An entry now was written before the moment where nothing was written since.
abbrev pub WrittenBefore : Type 0
WrittenBefore =
    (key : QKey) (mine start : Option ℕ) (then_marks more : List Mark) (then_known : Known) (value : List ℕ) (stamp : ℕ)
    → IsMoment key mine then_marks then_known → ((n : ℕ) → Has (Wrote n) more → ⊥) → IsStamped (more ++ then_marks) start (Some (value, stamp))
    → ((n : ℕ) → start ≡ Some n → n ≤ length then_known.log) → stamp ≤ length then_known.log

-- A hit on a held and right entry is fresh against what is known: the steps of the shard give the marks, the rows after the commits the answers.
abbrev pub HitIsFresh : Type 0
HitIsFresh =
    (key : QKey) (opening : Tables) (known : Known) (past : List Step) (value : List ℕ) (stamp : ℕ)
    → IsHeld key (marks_of key past) known stamp → IsRight (λ log. query.answer key (rows_after opening log)) known.log value stamp
    → IsFreshHit opening known.log past key value stamp

-- A commit that a held entry lacks has its session's quarantine standing.
abbrev pub LackingStands : Type 0
LackingStands =
    (key : QKey) (marks : List Mark) (known : Known) (start : Option ℕ) (quars : List Quar) (found : Option (List ℕ × ℕ)) (stamp : ℕ)
    → IsRuled key marks known → IsTied marks start quars found → IsHeld key marks known stamp
    → (place : ℕ) (commit : Commit) → StandsAt known.log place commit → stamp ≤ place → touches commit.txn key ≡ true
    → (token : ℕ) × (stands_as commit.sid.number token quars ≡ true)

-- What a step has to bring: what it writes is held, and one that ends a quarantine with the value kept is of a session that was ended without a commit.
abbrev pub IsHonest : Known → List Step → Step → Type 0
IsHonest known past (step.Stored on token now value stamp evicted) = IsHeld on (Wrote stamp ∷ marks_of on past) known stamp
IsHonest known past (step.Released on sid token ended.Keep) = IsAmong sid.number known.ended
IsHonest known past (step.Released on sid token ended.Drop) = IsOver known sid.number
IsHonest known past (step.Released on sid token (ended.Put value stamp evicted)) =
    IsOver known sid.number × IsHeld on (Wrote stamp ∷ Ended sid.number token ∷ marks_of on past) known stamp
IsHonest known past (step.Released on sid token (ended.Shift by stamp)) =
    IsOver known sid.number × IsHeld on (Wrote stamp ∷ Ended sid.number token ∷ marks_of on past) known stamp
IsHonest known past (step.Hit on sid floor value stamp) = Unit {0}
IsHonest known past (step.Lease on sid floor now token deadline) = Unit {0}
IsHonest known past (step.Again on sid floor now stands) = Unit {0}
IsHonest known past (step.Own on sid) = Unit {0}
IsHonest known past (step.Void on token now) = Unit {0}
IsHonest known past (step.Granted on sid mode shift now token deadline) = Unit {0}
IsHonest known past (step.Held on sid mode) = Unit {0}
IsHonest known past (step.Refused on sid mode holder held) = Unit {0}
IsHonest known past (step.Gone on sid token) = Unit {0}
IsHonest known past (step.Raised on sid token) = Unit {0}
IsHonest known past (step.Shared on sid token holder) = Unit {0}
IsHonest known past (step.Renewed on sid token now deadline) = Unit {0}

-- An honest step keeps the rule of each key, and each entry held or leaves none.
abbrev pub StepsKeep : Type 0
StepsKeep =
    (key : QKey) (known : Known) (past : List Step) (s : Step) → IsHonest known past s → IsRuled key (marks_of key past) known
    → IsEntryHeld key (marks_of key past) known (entry key past)
    → IsRuled key (marks_of key (s ∷ past)) known × IsEntryHeld key (marks_of key (s ∷ past)) known (entry key (s ∷ past))

-- A release that stands names the session of the quarantine of its token.
abbrev pub EndsItsOwn : List Step → Step → Type 0
EndsItsOwn past (step.Released on sid token how) =
    (who : ℕ) → stands_as who token (standing on past) ≡ true → who ≡ sid.number
EndsItsOwn past other = Unit {0}

-- A step keeps the tie of each key, where a release names the session of its token.
abbrev pub StepsTie : Type 0
StepsTie =
    (key : QKey) (start : Option ℕ) (past : List Step) (s : Step) → EndsItsOwn past s
    → IsTied (marks_of key past) start (standing key past) (entry key past)
    → IsTied (marks_of key (s ∷ past)) start (standing key (s ∷ past)) (entry key (s ∷ past))

-- What is known after one more commit, and after a session was ended without one.
abbrev pub with_commit : Known → Commit → Known
with_commit known commit = record { log = known.log ++ commit ∷ []; ended = known.ended }

abbrev pub with_end : Known → ℕ → Known
with_end known who = record { log = known.log; ended = who ∷ known.ended }

-- A commit of a session that isn't over, and that was granted a quarantine of the key if it touches it, keeps the rule.
abbrev pub CommitsKeep : Type 0
CommitsKeep =
    (key : QKey) (marks : List Mark) (known : Known) (commit : Commit) → (IsOver known commit.sid.number → ⊥)
    → (touches commit.txn key ≡ true → WasGranted marks commit.sid.number) → IsRuled key marks known
    → IsRuled key marks (with_commit known commit)

-- The end of a session that hasn't committed keeps the rule.
abbrev pub EndsKeep : Type 0
EndsKeep =
    (key : QKey) (marks : List Mark) (known : Known) (who : ℕ) → (IsLogged known.log who → ⊥) → IsRuled key marks known
    → IsRuled key marks (with_end known who)

-- The running case: what was known at the lease, asked with and known at the set may each be more than the one before, by commits of whichever sessions.
-- What was stored then is fresh for every hit later, against the most that is known,
-- where each quarantine that ended since is of a session that was ended without a commit.
abbrev pub RunningHitIsFresh : Type 0
RunningHitIsFresh =
    (key : QKey) (opening : Tables) (then_past past later : List Step) (then_known asked known later_known : Known) (value : List ℕ) (since : List Mark)
    → IsMoment key None (marks_of key then_past) then_known → IsSince None (marks_of key then_past) (marks_of key past)
    → IsMore then_known asked → IsMore asked known → IsRuled key (marks_of key past) known
    → value ≡ query.answer key (rows_after opening asked.log)
    → marks_of key later ≡ since ++ Wrote (length asked.log) ∷ marks_of key past
    → ((who token : ℕ) → Has (Ended who token) since → IsAmong who later_known.ended)
    → IsMore known later_known → IsRuled key (marks_of key later) later_known
    → IsFreshHit opening later_known.log later key value (length asked.log)
