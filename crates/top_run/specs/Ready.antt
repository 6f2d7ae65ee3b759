-- What is there before a run over a hub begins.
use Rattle.std.specs.Prelude.{ℕ, suc, ◌≡◌, ◌≤◌, Bool, List, [], ◌∷◌, length, map, All, Some, IfSome, vec_capacity}
use Rattle.std.specs.Option.{ForSome}
use Rattle.rows_model.specs.Changes.{IsTxn}
use Rattle.rows_model.specs.Rows.{Tables}
use Rattle.key_shard.specs.declared.steps.Step.{Step}
use Rattle.key_shard.specs.Past.{Terms}
use Rattle.session_client.specs.declared.plans.Plan.{Plan}
use Rattle.session_client.specs.declared.plans.Plan.TheVariants.{Read, Write}
use Rattle.session_client.specs.declared.plans.Shape.{Shape}
use Rattle.session_client.specs.Plans.{IsPlan}
use Rattle.shard_lock.specs.Names.{AreAll}
use Rattle.log_word.specs.declared.seen.Seen.{Seen}
use Rattle.log_word.specs.Passes.{PassView, WordView, blind_pass, blind_shard_passes}
use Rattle.bound_hub.specs.Ties.{IsNewShard}
use Rattle.bound_desk.specs.Bound.{BoundDeskView}
use Rattle.bound_desk.specs.Records.{IsRecordSeen}
use Rattle.gate_workers.specs.Rows.{DeskView, RowView, AllWork}
use Rattle.run_inputs.specs.declared.loads.WorkSpec.{WorkSpec}
use Rattle.run_inputs.specs.Loads.{load}
use Rattle.top_run.specs.declared.hubs.HubParts.{HubParts}
use Rattle.top_run.specs.declared.hubs.Parts.{Parts}
use Rattle.top_run.specs.declared.serves.Ready.{Ready as ServeReady}
use Rattle.top_run.specs.declared.works.Ready.{Ready}
use Rattle.top_run.specs.declared.serves.Begun.TheVariants as cache
use Rattle.run_words.specs.declared.words.ServeSpec.{ServeSpec}
use Rattle.run_words.specs.Words.{most_served}
use Rattle.top_run.specs.Serves.{serve_shape}
use Rattle.top_run.specs.Works.{work_shape}

-- A word for so many shards, with its passes, which have seen nothing.
pub record IsNewWord (shards : ℕ) (made : HubParts) : Type 0 where
  pub of_shards : made.word.0.shards ≡ shards
  pub store_pass : made.word.1 ≡ blind_pass made.word.0
  pub shard_passes : made.word.2.items ≡ blind_shard_passes made.word.0 shards
  pub caller : made.word.3 ≡ blind_pass made.word.0

-- There are as many shards as the shape says, with the terms that are named, which have made no step and let
-- no grant out, a ledger with a part for each, a word for so many shards whose passes have seen nothing, and room for
-- the histories.
pub record AreParts (shape : Shape) (terms : ℕ → Terms) (parts : Parts) : Type 0 where
  pub shards : AreAll terms parts.hub.shards.items
  pub as_many : length parts.hub.shards.items ≡ shape.shards
  pub new : All (λ shard. shard.history ≡ []) parts.hub.shards.items
  pub none_out : All (λ shard. shard.out ≡ []) parts.hub.shards.items
  pub one_each : parts.hub.ledger.parts ≡ shape.shards
  pub word : IsNewWord shape.shards parts.hub
  pub none : parts.histories.items ≡ []
  pub room : shape.shards ≤ vec_capacity parts.histories

-- The name of a hub names the parts that were made for it: their ledger and their word. By it the shards had made no step, and the
-- store had begun no session and failed no call.
pub record NamesParts (name parts : ℕ) (word : WordView) (before : ℕ → List Step) (begun failed : ℕ) (made : HubParts) : Type 0 where
  pub ledger : (made.ledger.name ≡ name) × (made.ledger.parts ≡ parts)
  pub word_is : made.word.0 ≡ word
  pub none_before : (place : ℕ) → before place ≡ []
  pub none_begun : begun ≡ 0
  pub none_failed : failed ≡ 0

-- These make a hub: at most 64 new shards with the terms that are named, a ledger that is named so, with a part for each shard,
-- and the word that is named, with passes that have seen nothing.
pub record MakeHub (terms : ℕ → Terms) (opening : Tables) (before : ℕ → List Step) (stopped : Bool) (name parts : ℕ) (word : WordView)
    (made : HubParts) : Type 0 where
  pub all : AreAll terms made.shards.items
  pub new : All (IsNewShard opening before stopped) made.shards.items
  pub few : length made.shards.items ≤ 64
  pub is_named : (made.ledger.name ≡ name) × (made.ledger.parts ≡ parts)
  pub one_each : made.ledger.parts ≡ length made.shards.items
  pub word_is : made.word.0 ≡ word
  pub of_shards : word.shards ≡ length made.shards.items
  pub store_pass : made.word.1 ≡ blind_pass word
  pub shard_passes : made.word.2.items ≡ blind_shard_passes word (length made.shards.items)
  pub caller : made.word.3 ≡ blind_pass word

-- Each desk has its place, from this one on, for its worker's number, and has answered no call.
abbrev pub AreNewDesks : ℕ → List BoundDeskView → Type 0
AreNewDesks place [] = Unit {0}
AreNewDesks place (desk ∷ desks) = (desk.worker ≡ place) × (desk.calls ≡ []) × AreNewDesks (suc place) desks

-- Each of these desks tells a record and a worker, and of each of those calls is seen what it left.
abbrev pub AreRecorded : (ℕ → Terms) → (ℕ → List Step) → ℕ → Seen → List DeskView → Type 0
AreRecorded terms before shards seen [] = Unit {0}
AreRecorded terms before shards seen (desk ∷ desks) =
    ForSome desk.calls (λ calls. ForSome desk.worker (λ worker. IsRecordSeen terms before shards worker calls seen))
    × AreRecorded terms before shards seen desks

-- These desks tell that they have answered no call, and places for their workers' numbers, from this one on.
abbrev pub AreNewViews : ℕ → List DeskView → Type 0
AreNewViews place [] = Unit {0}
AreNewViews place (desk ∷ desks) = (desk.calls ≡ Some []) × (desk.worker ≡ Some place) × AreNewViews (suc place) desks

-- Each worker has run its plans on a desk of its own, which was new, and one pass has seen what each desk's calls left.
pub record HaveWorked (terms : ℕ → Terms) (before : ℕ → List Step) (shards : ℕ) (plans : List (List Plan)) (transcripts : List (List RowView))
    (passes : List PassView) : Type 0 where
  pub olds : List DeskView
  pub news : List DeskView
  pub work : AllWork plans olds news transcripts
  pub new : AreNewViews 0 olds
  pub pass : PassView
  pub one : passes ≡ pass ∷ []
  pub recorded : AreRecorded terms before shards pass.seen news

-- A session of the plan asks for a key first: it reads one, or quarantines the first that its transaction touches.
abbrev pub AsksFirst : Plan → Type 0
AsksFirst (Read key floor) = Unit {0}
AsksFirst (Write mode txn) = IsTxn txn
AsksFirst other = ⊥

-- There are the plans of the load for each of its workers, and the parts of its hub.
pub record IsReady (spec : WorkSpec) (terms : ℕ → Terms) (ready : Ready) : Type 0 where
  pub plans : All (λ list. All IsPlan list.items) ready.plans.items
  pub are_load : map (λ list. list.items) ready.plans.items ≡ load spec
  pub workers : length ready.plans.items ≡ spec.workers
  pub parts : AreParts (work_shape spec) terms ready.parts

-- There are the parts of a server's hub, and room for the ends of all lines, where a number of them is served.
pub record IsServeReady (spec : ServeSpec) (terms : ℕ → Terms) (ready : ServeReady) : Type 0 where
  pub parts : AreParts (serve_shape spec) terms ready.parts
  pub none : ready.ends.items ≡ []
  pub room : IfSome (most_served spec.conns) (λ most. most ≤ vec_capacity ready.ends)
  pub begun : ready.begun ≡ cache.New
