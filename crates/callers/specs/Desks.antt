-- What a caller of a server's desk concludes of a hit.
use Rattle.std.specs.Prelude.{ℕ, ◌≡◌, ◌⊎◌, ◌≤◌, ◌<◌, ◌==◌, ◌&&◌, Bool, true, false, List, [], ◌∷◌, length, slice_get, Option, Some, None}
use Rattle.std.specs.List.{list_any}
use Rattle.rows_model.specs.declared.changes.Change.{Change}
use Rattle.rows_model.specs.declared.keys.QKey.{QKey}
use Rattle.rows_model.specs.declared.keys.Sid.{Sid}
use Rattle.rows_model.specs.Changes.{touches}
use Rattle.rows_model.specs.Delta.{is_count}
use Rattle.rows_model.specs.Key.{same_key}
use Rattle.rows_model.specs.Placement.{shard_of}
use Rattle.rows_model.specs.Query.{answer}
use Rattle.rows_model.specs.Rows.{Tables}
use Rattle.lease_table.specs.declared.records.Mode.TheVariants.{Refresh, Delta}
use Rattle.key_shard.specs.declared.replies.Got.TheVariants as got
use Rattle.key_shard.specs.declared.replies.Rel.TheVariants as rel
use Rattle.key_shard.specs.Permit.{Permit}
use Rattle.session_client.specs.declared.replies.Reply.TheVariants as Reply
use Rattle.session_client.specs.declared.replies.Wanted.{Wanted}
use Rattle.session_client.specs.declared.replies.Wanted.TheVariants as wanted
use Rattle.session_client.specs.Desks.{Exchange, Asked}
use Rattle.session_client.specs.Grants.{GrantsView}
use Rattle.sql_keeper.specs.declared.stores.Commit.{Commit}
use Rattle.sql_keeper.specs.Log.{state}
use Rattle.log_word.specs.declared.events.Short.{Short}
use Rattle.log_word.specs.declared.seen.Seen.{Seen}
use Rattle.log_word.specs.Lists.{steps_of}
use Rattle.log_word.specs.Steps.{is_release, IsBeginning}
use Rattle.bound_hub.specs.Knowns.{commits_of}

-- The step releases a quarantine of this session on this key.
abbrev pub releases : QKey → ℕ → Short → Bool
releases key who step = is_release step.kind && (same_key key step.key && (step.sid.number == who))

-- A hit that is told to a caller whose desk had seen this before the call and has seen that behind it. Its stamp is at least
-- the floor, and is a number of the commits that are seen behind it. It is the key's answer after so many of these. It holds
-- each commit on the key whose session's release of the key had been seen before the call. All but the floor is said where
-- what is seen behind it is so.
pub record IsServedFresh (sure : Seen → Type 0) (opening : Tables) (shards : ℕ) (before after : Seen) (key : QKey) (floor : ℕ) (value : List ℕ) (stamp : ℕ) : Type 0 where
  pub floor_met : floor ≤ stamp
  pub known : sure after → stamp ≤ length (commits_of after.events)
  pub right : sure after → value ≡ answer key (state opening (commits_of after.events) stamp)
  pub current : sure after → (place : ℕ) (commit : Commit) → slice_get (commits_of after.events) place ≡ Some commit
      → touches commit.txn key ≡ true → list_any (releases key commit.sid.number) (steps_of (shard_of key shards) before.steps) ≡ true
      → place < stamp

-- It isn't seen that the store has stopped telling its rows.
abbrev pub IsRunning : Seen → Type 0
IsRunning seen = seen.stopped ≡ false

-- Nothing is asked of what is seen.
abbrev pub Always : Seen → Type 0
Always seen = Unit {0}

-- A call told that this session's transaction was committed, with this number.
pub record ToldCommit (who : Sid) (number : ℕ) (txn : List Change) (call : Exchange) : Type 0 where
  pub grants : GrantsView
  pub changes : List Change
  pub back : GrantsView
  pub is : call ≡ Asked who (wanted.Commit txn grants) (Reply.Committed number changes back)

-- The request hands in the grant to be spent: with a new value one that is to refresh, and to shift a count one that is to
-- shift.
abbrev pub HandsIn : Permit → Wanted → Type 0
HandsIn grant (wanted.Dar one) = one ≡ grant
HandsIn grant (wanted.Sar one None stamp) = one ≡ grant
HandsIn grant (wanted.Sar one (Some value) stamp) = (one ≡ grant) × (grant.mode ≡ Refresh)
HandsIn grant (wanted.Apply one stamp) = (one ≡ grant) × (grant.mode ≡ Delta) × (is_count grant.key ≡ true)
HandsIn grant other = ⊥

-- A call told that this session's quarantine of this key was released: its value was dropped, or a new one was put in its
-- place, or it was shifted.
pub record ToldRelease (key : QKey) (who : Sid) (call : Exchange) : Type 0 where
  pub asking : Sid
  pub grant : Permit
  pub on : grant.key ≡ key
  pub of_session : grant.sid ≡ who
  pub evicted : Option QKey
  pub request : Wanted
  pub is : call ≡ Asked asking request (Reply.Rel (rel.Released evicted))
  pub releases_it : HandsIn grant request

-- One of these calls is so.
abbrev pub AnyCall : (Exchange → Type 0) → List Exchange → Type 0
AnyCall P [] = ⊥
AnyCall P (call ∷ calls) = P call ⊎ AnyCall P calls

-- A hit of this stamp holds what the desk was told itself: each commit on the key, of a session whose release of the key
-- was told too.
abbrev pub HoldsOwn : List Exchange → QKey → ℕ → Type 0
HoldsOwn calls key stamp =
    (who : Sid) (number : ℕ) (txn : List Change) → AnyCall (ToldCommit who number txn) calls → AnyCall (ToldRelease key who) calls
    → touches txn key ≡ true → number ≤ stamp

-- A hit of this stamp holds each commit on the key that one of the first stamp holds.
abbrev pub IsNoOlder : List Commit → QKey → ℕ → ℕ → Type 0
IsNoOlder log key first stamp =
    (place : ℕ) (commit : Commit) → slice_get log place ≡ Some commit → touches commit.txn key ≡ true → place < first → place < stamp

-- So it is of each hit on the key that one of these calls told.
abbrev pub IsNoOlderThan : List Exchange → List Commit → QKey → ℕ → Type 0
IsNoOlderThan [] log key stamp = Unit {0}
IsNoOlderThan (Asked who (wanted.Get on floor) (Reply.Got (got.Hit value first)) ∷ calls) log key stamp =
    (on ≡ key → IsNoOlder log key first stamp) × IsNoOlderThan calls log key stamp
IsNoOlderThan (call ∷ calls) log key stamp = IsNoOlderThan calls log key stamp

-- A hit behind these calls: it is fresh, a caller reads its own writes, and none reads back in time.
pub record IsServedHit (sure : Seen → Type 0) (opening : Tables) (shards : ℕ) (calls : List Exchange) (before after : Seen)
    (key : QKey) (floor : ℕ) (value : List ℕ) (stamp : ℕ) : Type 0 where
  pub fresh : IsServedFresh sure opening shards before after key floor value stamp
  pub own : sure after → HoldsOwn calls key stamp
  pub no_older : sure after → IsNoOlderThan calls (commits_of after.events) key stamp

-- So is each hit of these calls, the latest in front, by what had been seen when it was told: of that this is what is seen now.
abbrev pub AreServed : (Seen → Type 0) → Tables → ℕ → List Exchange → Seen → Type 0
AreServed sure opening shards [] seen = Unit {0}
AreServed sure opening shards (Asked who (wanted.Get key floor) (Reply.Got (got.Hit value stamp)) ∷ calls) seen =
    (before : Seen) × (after : Seen) × IsBeginning before after × IsBeginning after seen
    × IsServedHit sure opening shards calls before after key floor value stamp
    × AreServed sure opening shards calls before
AreServed sure opening shards (call ∷ calls) seen =
    (before : Seen) × IsBeginning before seen × AreServed sure opening shards calls before
