-- No quarantine is dropped before its session was ended.
use Rattle.std.specs.Prelude.{ℕ, ◌≡◌, List, ◌∷◌}
use Rattle.rows_model.specs.declared.keys.QKey.{QKey}
use Rattle.lease_table.specs.declared.records.Due.{Due}
use Rattle.sql_keeper.specs.declared.stores.Closed.{Closed}
use Rattle.expiry_sweeper.specs.declared.replies.SweepReply.{SweepReply}
use Rattle.expiry_sweeper.specs.declared.replies.SweepReply.TheVariants as SweepReply
use Rattle.expiry_sweeper.specs.declared.replies.SweepWanted.TheVariants as wanted
use Rattle.expiry_sweeper.specs.Sweeps.{sweep_wants, AreAnswers}

-- The last that was told: a scan of the shard that was swept found the quarantine of this token on this key, and then its session was ended.
pub record EndedFirst (shards : ℕ) (replies : List SweepReply) (key : QKey) (token : ℕ) : Type 0 where
  pub due : Due
  pub closed : Closed
  pub at : ℕ
  pub before : List SweepReply
  pub last : replies ≡ SweepReply.Ended closed ∷ SweepReply.Found at due ∷ before
  pub of_key : due.key ≡ key
  pub of_token : due.token ≡ token
  pub scanned : sweep_wants shards before ≡ wanted.Scan at
  pub ended : closed.sid ≡ due.sid

-- Whenever a drop is wanted, after replies that belong to what was wanted, that is so.
abbrev pub EndsBeforeDrops : Type 0
EndsBeforeDrops =
    (shards : ℕ) (replies : List SweepReply) (key : QKey) (token : ℕ)
    → AreAnswers shards replies → sweep_wants shards replies ≡ wanted.Drop key token → EndedFirst shards replies key token
