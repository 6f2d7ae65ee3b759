-- After which moves a core stands.
use Rattle.std.specs.Prelude.{ℕ, false, min, ◌≡◌, ◌+◌, ◌-◌, ◌^◌, ◌≤◌, ◌<◌, ◌⊎◌, List, [], length, map, reverse, count_by, Some, None, slice_get, IsSome, Option}
use Rattle.std.specs.Option.{ForSome}
use Rattle.rows_model.specs.declared.keys.QKey.{QKey}
use Rattle.rows_model.specs.declared.keys.Sid.{Sid}
use Rattle.rows_model.specs.Rows.{Tables, Fit}
use Rattle.rows_model.specs.Placement.{shard_of}
use Rattle.key_shard.specs.declared.steps.Step.{Step}
use Rattle.key_shard.specs.Past.{next_token}
use Rattle.key_shard.specs.Answers.{IsAtHome}
use Rattle.key_shard.specs.Shards.{ShardView, past_of}
use Rattle.sql_keeper.specs.declared.stores.Phase.{Phase}
use Rattle.sql_keeper.specs.Fresh.{Fresh}
use Rattle.sql_keeper.specs.Log.{rows_after}
use Rattle.sql_keeper.specs.Sessions.{is_open as may_commit}
use Rattle.sql_keeper.specs.Stores.{StoreView}
use Rattle.session_client.specs.declared.plans.Shape.{Shape}
use Rattle.session_client.specs.declared.plans.Turn.{Turn}
use Rattle.session_client.specs.declared.plans.Turn.TheVariants as turn
use Rattle.session_client.specs.declared.sessions.Session.{Session}
use Rattle.session_client.specs.Plans.{IsShape}
use Rattle.session_client.specs.Follows.{plan_of, sid_of, IsReady, Follows}
use Rattle.expiry_sweeper.specs.Follows.{shards_of, Follows as HasHeard}
use Rattle.expiry_sweeper.specs.declared.sweepers.Sweeper.{Sweeper}
use Rattle.core_history.specs.Events.{Event, steps_of, log_of, heard_by, sweeps_of, now_of}
use Rattle.core_history.specs.Freshness.{IsLawful, histories_of}
use Rattle.core_history.specs.Lines.{is_fault}
use Rattle.core_history.specs.Machine.{World, Move, world_of, HasPlans, terms_of, log_cap, out_of, is_open}
use Rattle.core_history.specs.Truth.{IsTruePast}

-- what a core was made with: its shape, the rows that its keeper started with, and what
-- was known of the keeper then, its rows, where it told them, and its count of faults
pub record Origin : Type 0 where
  pub shape : Shape
  pub opening : Tables
  pub known_rows : Option Tables
  pub faults : ℕ

-- what contracts see of a core
pub record CoreView : Type 0 where
  pub store : StoreView
  pub shards : List ShardView
  pub sessions : List Session
  pub sweeper : Sweeper
  pub clock : ℕ

-- what a core of this shape was made with, that is new
abbrev pub origin_of : Shape → CoreView → Origin
origin_of shape core =
    record { shape = shape; opening = core.store.ledger.opening; known_rows = core.store.known_rows; faults = core.store.faults }

-- the shard of this number after these events
abbrev pub shard_after : Shape → List Event → ℕ → ShardView
shard_after shape past place =
    record { terms = terms_of shape place; history = reverse (steps_of place past); out = out_of shape place past }

-- the shards are those of the shape, after these events
pub record HasShards (shards : List ShardView) (shape : Shape) (past : List Event) : Type 0 where
  pub fit : IsShape shape
  pub count : length shards ≡ shape.shards
  pub each : (place : ℕ) → place < shape.shards → slice_get shards place ≡ Some (shard_after shape past place)

-- each shard has all its steps in memory
abbrev pub KeepAll : List ShardView → Type 0
KeepAll shards = (place : ℕ) (shard : ShardView) → slice_get shards place ≡ Some shard → shard.terms.rolls ≡ false

-- a count of faults rose by at least so many, or it stands at the end of its type, where it may have begun
abbrev pub RoseBy : ℕ → ℕ → ℕ → Type 0
RoseBy count before after = (before + count ≤ after) ⊎ ((before ≤ 2 ^ 64 - 1) × (2 ^ 64 - 1 ≤ after))

-- the store began with the opening rows, its log is that of these events, each call that failed
-- was told as FAULT, the keeper's count of faults rose with it, and is as at first where none failed.
-- Where the keeper tells its rows, it told them from the start, and each of its replies was true
pub record HasStore (store : StoreView) (origin : Origin) (past : List Event) : Type 0 where
  pub opening : store.ledger.opening ≡ origin.opening
  pub log : store.ledger.log ≡ log_of past
  pub cap : store.ledger.cap ≡ log_cap
  pub failed : store.ledger.failed ≡ min (count_by is_fault past) (2 ^ 64 - 1)
  pub faults : RoseBy (count_by is_fault past) origin.faults store.faults
  pub quiet : count_by is_fault past ≡ 0 → store.faults ≡ origin.faults
  pub telling : IsSome store.known_rows → IsSome origin.known_rows
  pub truth : IsSome store.known_rows → IsTruePast origin.opening past

-- the shards and the store are those after these moves. So it is at every end
pub record HasKept (core : CoreView) (origin : Origin) (moves : List Move) : Type 0 where
  pub plans : HasPlans moves
  pub fit : Fit origin.opening
  pub shards : HasShards core.shards origin.shape (world_of origin.shape moves).past
  pub store : HasStore core.store origin (world_of origin.shape moves).past

-- the store knows each session that began, and has it open as the machine does
pub record HasPhases (phases : List Phase) (world : World) : Type 0 where
  pub count : length phases ≡ length world.plans
  pub opens : (who : Sid) → 1 ≤ who.number → may_commit who phases ≡ is_open world who

-- each session has its plan and its number, and follows what it was told
abbrev pub AreFollowing : List Session → List Event → Type 0
AreFollowing sessions past =
    (place : ℕ) (session : Session) → slice_get sessions place ≡ Some session
    → IsReady session × ((sid_of session).number ≡ place + 1) × Follows session false (heard_by (place + 1) past)

-- each session that began is there, and no other one was told anything: none of a later number, nor any of the number 0, which no session has
pub record HasSessions (sessions : List Session) (world : World) : Type 0 where
  pub plans : map plan_of sessions ≡ world.plans
  pub following : AreFollowing sessions world.past
  pub unbegun : (number : ℕ) → length sessions < number → heard_by number world.past ≡ []
  pub nobody : heard_by 0 world.past ≡ []

-- the sweeper sweeps the shards of the shape, and follows what it was told
pub record HasSweeper (sweeper : Sweeper) (shape : Shape) (past : List Event) : Type 0 where
  pub shards : shards_of sweeper ≡ shape.shards
  pub following : HasHeard sweeper (sweeps_of past)

-- the core stands after these moves, the latest first
pub record IsAt (core : CoreView) (origin : Origin) (moves : List Move) : Type 0 where
  pub kept : HasKept core origin moves
  pub clock : core.clock ≡ now_of (world_of origin.shape moves).past
  pub sweeper : HasSweeper core.sweeper origin.shape (world_of origin.shape moves).past
  pub phases : HasPhases core.store.ledger.sessions (world_of origin.shape moves)
  pub sessions : HasSessions core.sessions (world_of origin.shape moves)

-- what is so of the log and the histories of a core that stands after these moves, whatever its
-- keeper said. Where it tells its rows, they are the opening rows after the log, and no hit is stale
pub record IsSound (core : CoreView) (origin : Origin) (moves : List Move) : Type 0 where
  pub log : core.store.ledger.log ≡ log_of (world_of origin.shape moves).past
  pub histories : map (λ shard. shard.history) core.shards ≡ histories_of origin.shape (world_of origin.shape moves).past
  pub lawful : IsLawful origin.shape (world_of origin.shape moves).past
  pub rows : ForSome core.store.known_rows (λ rows. rows ≡ rows_after origin.opening (log_of (world_of origin.shape moves).past))
  pub fresh : IsSome core.store.known_rows
      → Fresh origin.opening (log_of (world_of origin.shape moves).past) (histories_of origin.shape (world_of origin.shape moves).past)

-- how many shards the core has
abbrev pub shards_in : CoreView → ℕ
shards_in core = length core.shards

-- the histories of the core's shards, in their order
abbrev pub histories_in : CoreView → List (List Step)
histories_in core = map (λ shard. shard.history) core.shards

-- the core stands somewhere, after fewer than 2^32 events
abbrev pub IsRunning : CoreView → Type 0
IsRunning core =
    (origin : Origin) × (moves : List Move) × IsAt core origin moves × (length (world_of origin.shape moves).past < 2 ^ 32)

-- the turn is that of a session that was begun, if it is one of a session
abbrev pub HasBegun : CoreView → Turn → Type 0
HasBegun core (turn.Session who) = (1 ≤ who.number) × (who.number ≤ length core.sessions)
HasBegun core (turn.Tick by) = Unit {0}
HasBegun core turn.Sweep = Unit {0}

-- the key's shard is there, and its tokens don't end
pub record HasHome (shards : List ShardView) (key : QKey) : Type 0 where
  pub some : 1 ≤ length shards
  pub few : length shards ≤ 64
  pub at_home : (shard : ShardView) → slice_get shards (shard_of key (length shards)) ≡ Some shard → IsAtHome shard.terms key
  pub unspent : (shard : ShardView) → slice_get shards (shard_of key (length shards)) ≡ Some shard → next_token shard.terms (past_of shard) < 2 ^ 64 - 1

-- each key's shard is there
abbrev pub HasHomes : List ShardView → Type 0
HasHomes shards = (key : QKey) → HasHome shards key
