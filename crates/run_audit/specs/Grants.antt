-- What was granted in histories, as a set of sessions with their keys, and what it covers.
use Rattle.std.specs.Prelude.{ℕ, ◌≡◌, ◌+◌, ◌==◌, ◌&&◌, ◌||◌, Bool, true, false, List, take, slice_get, Some}
use Rattle.std.specs.List.{list_any}
use Rattle.std.specs.declared.cmp.Ordering.{Ordering}
use Rattle.std.specs.BTreeSet.{BTreeSet, contains}
use Rattle.rows_model.specs.declared.keys.QKey.{QKey}
use Rattle.rows_model.specs.declared.keys.Sid.{Sid}
use Rattle.rows_model.specs.Key.{same_key}
use Rattle.rows_model.specs.Changes.{touches, is_key_before}
use Rattle.key_shard.specs.declared.steps.Step.{Step}
use Rattle.sql_keeper.specs.declared.stores.Commit.{Commit}
use Rattle.sql_keeper.specs.Fresh.{quarantines}
use Rattle.run_audit.specs.declared.holds.Hold.{Hold}
use Rattle.run_audit.specs.contracts.holds.HoldOrd.TheImpl as hold_order

-- The order of sessions with their keys: by session, then by key.
abbrev pub hold_cmp : Hold → Hold → Ordering
hold_cmp = (hold_order.ghosts).cmp

-- Whether two are one.
abbrev pub same_hold : Hold → Hold → Bool
same_hold a b = (a.sid.number == b.sid.number) && same_key a.key b.key

-- Whether the set has this session and key.
abbrev pub has_hold : Hold → BTreeSet Hold → Bool
has_hold hold grants = contains hold_cmp grants hold

-- Whether the set has this session with this key.
abbrev pub holds : BTreeSet Hold → Sid → QKey → Bool
holds grants who key = has_hold (record { sid = who; key = key }) grants

-- Whether some step grants this session a quarantine of this key.
abbrev pub grants_it : Hold → List Step → Bool
grants_it hold history = list_any (quarantines hold.key hold.sid) history

-- The set has what these steps grant, beside what it had.
abbrev pub AddsGrants : List Step → BTreeSet Hold → BTreeSet Hold → Type 0
AddsGrants steps old new = (hold : Hold) → has_hold hold new ≡ (has_hold hold old || grants_it hold steps)

-- The set has what is granted in these histories.
abbrev pub HasGrants : List (List Step) → BTreeSet Hold → Type 0
HasGrants histories grants = (hold : Hold) → has_hold hold grants ≡ list_any (grants_it hold) histories

-- Of each commit of the log, each key that it touches passes the test with its session.
abbrev pub AreCovered : (Sid → QKey → Bool) → List Commit → Type 0
AreCovered test log =
    (place : ℕ) (commit : Commit) (key : QKey) → slice_get log place ≡ Some commit → touches commit.txn key ≡ true → test commit.sid key ≡ true

-- The commit of this number, counted from 1, is the first of which a key that it touches fails the test, and this is the least such key.
pub record IsFirstGap (test : Sid → QKey → Bool) (log : List Commit) (number : ℕ) (key : QKey) : Type 0 where
  pub place : ℕ
  pub commit : Commit
  pub number_is : number ≡ place + 1
  pub there : slice_get log place ≡ Some commit
  pub touched : touches commit.txn key ≡ true
  pub fails : test commit.sid key ≡ false
  pub covered_before : AreCovered test (take place log)
  pub least : (other : QKey) → is_key_before key other ≡ true → touches commit.txn other ≡ true → test commit.sid other ≡ true
