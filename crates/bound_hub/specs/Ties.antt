-- What ties a shard and the store to the pass beside it.
use Rattle.std.specs.Prelude.{ℕ, ◌≡◌, ◌+◌, ◌-◌, ◌^◌, ◌<◌, ◌≤◌, min, Bool, true, false, ◌==◌, if◌then◌else◌, is_none, List, [], ◌∷◌, ◌++◌, length, Option, None, Some}
use Rattle.rows_model.specs.declared.keys.QKey.{QKey}
use Rattle.rows_model.specs.declared.keys.Sid.{Sid}
use Rattle.rows_model.specs.Rows.{Tables}
use Rattle.rows_model.specs.Placement.{shard_of}
use Rattle.key_shard.specs.declared.steps.Step.{Step}
use Rattle.key_shard.specs.Past.{entry, next_token}
use Rattle.key_shard.specs.Permit.{Permit}
use Rattle.key_shard.specs.Shards.{ShardView, past_of, is_out}
use Rattle.sql_keeper.specs.declared.stores.Phase.{Phase}
use Rattle.sql_keeper.specs.declared.stores.Phase.TheVariants as phase
use Rattle.sql_keeper.specs.Sessions.{phase_of, is_open, first_phase}
use Rattle.sql_keeper.specs.Stores.{StoreView}
use Rattle.sql_keeper.specs.Fresh.{IsFreshPast}
use Rattle.bound_hub.specs.Knowns.{begin_count}
use Rattle.log_word.specs.declared.events.StoreEvent.{StoreEvent}
use Rattle.log_word.specs.declared.events.StoreEvent.TheVariants as event
use Rattle.log_word.specs.declared.seen.Seen.{Seen}
use Rattle.log_word.specs.Lists.{steps_of}
use Rattle.log_word.specs.Passes.{WordView, PassView, ShardPassView}
use Rattle.bound_hub.specs.Shorts.{shorts_of}
use Rattle.bound_hub.specs.Knowns.{commits_of}
use Rattle.bound_hub.specs.Facts.{HoldsFacts, IsFirst, IsQuiet, AreOfStampZero, WasGrantedOr}

-- What contracts see of a shard and the pass beside it.
pub record BoundShardView : Type 0 where
  pub shard : ShardView
  pub seen : Seen

-- What contracts see of the store and the pass beside it.
pub record BoundStoreView : Type 0 where
  pub store : StoreView
  pub seen : Seen

-- No event and no step was seen, and whether the store has stopped telling its rows.
pub record HasSeenOnly (stopped : Bool) (seen : Seen) : Type 0 where
  pub events : seen.events ≡ []
  pub steps : (shard : ℕ) → steps_of shard seen.steps ≡ []
  pub stopped_is : seen.stopped ≡ stopped

-- A shard and its pass belong together: the pass is the shard's, and has seen each step that the shard
-- made since the hub was made, which come after the steps before. Nothing stood at first, and each entry
-- was of stamp 0. Each grant that is out was granted since, or its token was drawn before. The facts hold
-- of each key of the shard. Each hit since is fresh, unless the pass has seen that the store has stopped telling
-- its rows.
pub record IsBoundShard (word : WordView) (opening : Tables) (before : ℕ → List Step) (shard : ShardView) (pass : ShardPassView) : Type 0 where
  pub word_is : pass.word ≡ word
  pub number : pass.shard ≡ shard.terms.no
  pub count : shard.terms.count ≡ word.shards
  pub from_one : 1 ≤ shard.terms.first
  pub quiet : IsQuiet (before shard.terms.no)
  pub stamps : AreOfStampZero (before shard.terms.no)
  pub more : List Step
  pub goes_on : past_of shard ≡ more ++ before shard.terms.no
  pub shorts_are : steps_of shard.terms.no pass.seen.steps ≡ shorts_of (before shard.terms.no) more
  pub outs : (permit : Permit) → is_out shard permit ≡ true → WasGrantedOr shard.terms (before shard.terms.no) more permit
  pub facts : (key : QKey) → shard_of key word.shards ≡ shard.terms.no → HoldsFacts opening (before shard.terms.no) more pass.seen key
  pub hits : pass.seen.stopped ≡ false → IsFreshPast opening (commits_of pass.seen.events) more

-- A shard is as it was when it was named: nothing stands, and each entry is of stamp 0, and right where
-- the store tells its rows. Its first token isn't 0, and the token of each grant that is out was drawn.
-- Each shard is so that was made, but a shard doesn't tell it.
pub record IsNewShard (opening : Tables) (before : ℕ → List Step) (stopped : Bool) (shard : ShardView) : Type 0 where
  pub from_one : 1 ≤ shard.terms.first
  pub past_is : past_of shard ≡ before shard.terms.no
  pub quiet : IsQuiet (before shard.terms.no)
  pub entries : (key : QKey) → IsFirst opening stopped key (entry key (before shard.terms.no))
  pub drawn : (permit : Permit) → is_out shard permit ≡ true → permit.token < next_token shard.terms (before shard.terms.no)

-- The shard is one of so many.
abbrev pub HasCount : ℕ → ShardView → Type 0
HasCount count shard = shard.terms.count ≡ count

-- Where a session stands by the store's events, if it has begun.
abbrev pub phase_by : ℕ → List StoreEvent → Option Phase
phase_by who [] = None
phase_by who (event.Begin sid worker writes ∷ events) =
    if sid.number == who then Some (first_phase writes) else phase_by who events
phase_by who (event.Commit sid txn ∷ events) =
    if sid.number == who then Some phase.Committed else phase_by who events
phase_by who (event.End sid ∷ events) =
    if sid.number == who then Some phase.Ended else phase_by who events

-- The sessions of the store are those by the events, but for so many that had begun before, of which
-- none is open, and of which no event is.
pub record AreSessions (begun : ℕ) (events : List StoreEvent) (sessions : List Phase) : Type 0 where
  pub many : length sessions ≡ begun + begin_count events
  pub since : (who : Sid) → begun < who.number → phase_of who sessions ≡ phase_by who.number events
  pub before : (who : Sid) → who.number ≤ begun → (is_open who sessions ≡ false) × (phase_by who.number events ≡ None)

-- The store and its pass belong together: the log is that of the events, and so are the sessions; the
-- pass has seen each call that the keeper failed since, and whether the store tells its rows.
pub record IsBoundStore (word : WordView) (begun failed : ℕ) (store : StoreView) (pass : PassView) : Type 0 where
  pub word_is : pass.word ≡ word
  pub log : store.ledger.log ≡ commits_of pass.seen.events
  pub sessions : AreSessions begun pass.seen.events store.ledger.sessions
  pub failures : store.ledger.failed ≡ min (failed + pass.seen.failures) (2 ^ 64 - 1)
  pub stopped : pass.seen.stopped ≡ is_none store.known_rows

-- A store is as it was when it was named: nothing is committed, and no session is open.
pub record IsNewStore (begun failed : ℕ) (store : StoreView) : Type 0 where
  pub none : store.ledger.log ≡ []
  pub begun_is : length store.ledger.sessions ≡ begun
  pub closed : (who : Sid) → is_open who store.ledger.sessions ≡ false
  pub failed_is : store.ledger.failed ≡ failed
  pub few : failed ≤ 2 ^ 64 - 1
