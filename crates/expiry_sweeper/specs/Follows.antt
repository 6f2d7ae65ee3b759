-- How a sweeper's stage follows from what it was told. A sweeper keeps no list of that.
use Rattle.std.specs.Prelude.{ℕ, ◌≡◌, List}
use Rattle.expiry_sweeper.specs.declared.replies.SweepReply.{SweepReply}
use Rattle.expiry_sweeper.specs.declared.replies.SweepWanted.{SweepWanted}
use Rattle.expiry_sweeper.specs.declared.replies.SweepWanted.TheVariants as wanted
use Rattle.expiry_sweeper.specs.declared.sweepers.Stage.{Stage}
use Rattle.expiry_sweeper.specs.declared.sweepers.Stage.TheVariants as stages
use Rattle.expiry_sweeper.specs.declared.sweepers.Sweeper.{Sweeper}
use Rattle.expiry_sweeper.specs.Sweeps.{shard_at, drop_found, sweep_wants}

-- How many shards it sweeps.
abbrev pub shards_of : Sweeper → ℕ
shards_of sweeper = sweeper.shards

-- What is wanted at a stage, by the shard that is being swept.
abbrev pub wanted_at : ℕ → Stage → SweepWanted
wanted_at shard stages.Scanning = wanted.Scan shard
wanted_at shard (stages.Ending due) = wanted.End due.sid
wanted_at shard (stages.Dropping due) = wanted.Drop due.key due.token

-- What a sweeper wants.
abbrev pub wanted_of : Sweeper → SweepWanted
wanted_of sweeper = wanted_at sweeper.shard sweeper.stage

-- Where a session is to be ended, the drop that is wanted then is that of what was found.
abbrev pub DropsFound : ℕ → Stage → List SweepReply → Type 0
DropsFound shards stages.Scanning replies = Unit {0}
DropsFound shards (stages.Ending due) replies = drop_found shards replies ≡ wanted.Drop due.key due.token
DropsFound shards (stages.Dropping due) replies = Unit {0}

-- The sweeper may have been told this, the latest first.
pub record Follows (sweeper : Sweeper) (replies : List SweepReply) : Type 0 where
  pub shard : sweeper.shard ≡ shard_at (shards_of sweeper) replies
  pub wants : wanted_of sweeper ≡ sweep_wants (shards_of sweeper) replies
  pub drops : DropsFound (shards_of sweeper) sweeper.stage replies
