-- The step of a sweep, and what it leaves.
use Rattle.std.proofs.Common.{◌≡◌, ℕ, List, [], ◌∷◌, Option, Some, None, option_map, refl, sym, ap, subst, ◌∙◌}
use Rattle.std.proofs.lemmas.List.{reverse-append}
use Rattle.rows_model.specs.declared.keys.QKey.{QKey}
use Rattle.lease_table.specs.declared.records.Quar.{Quar}
use Rattle.key_shard.specs.declared.steps.Ended.TheVariants as ended
use Rattle.key_shard.specs.declared.steps.Step.{Step}
use Rattle.key_shard.specs.declared.steps.Step.TheVariants.{Released}
use Rattle.key_shard.specs.declared.replies.How.TheVariants as hows
use Rattle.key_shard.specs.Permit.{Permit}
use Rattle.key_shard.specs.Past.{Terms, quar_of}
use Rattle.key_shard.specs.Answers.{Answers, IsAtHome, OwesRelease, Release, release_by, sweep_step}
use Rattle.key_shard.specs.Shards.{ShardView, past_of, stepped, swept}
use Rattle.key_shard.proofs.PlaceLemmas.{ended-gone}

-- the step of a sweep, by the quarantine of the token
abbrev pub sweep_by : QKey → ℕ → Option Quar → Option Step
sweep_by key token found = option_map (λ quar. Released key quar.sid token ended.Drop) found

-- it answers the release, with Drop, that the quarantine's own session could ask for
pub sweep-answers : (terms : Terms) (past : List Step) (key : QKey) (token : ℕ) (quar : Quar)
    → IsAtHome terms key → quar_of key token past ≡ Some quar → Answers terms past (Released key quar.sid token ended.Drop)
sweep-answers terms past key token quar home stands = record {
  request = Release permit hows.Drop;
  at_home = home;
  owed = subst (OwesRelease past permit hows.Drop) (sym stands) (record { sid = refl; mode = refl }, tt);
  answer = sym (ap (release_by permit hows.Drop) stands);
}
  where
    permit : Permit
    permit = record { shard = terms.no; key = key; sid = quar.sid; mode = quar.mode; token = token }

-- the past behind a step
pub past-stepped : (shard : ShardView) (step : Step) → past_of (stepped shard step) ≡ step ∷ past_of shard
past-stepped shard step = reverse-append shard.history (step ∷ [])

-- after a sweep no quarantine of the token stands on the key
pub swept-gone : (shard : ShardView) (key : QKey) (token : ℕ) → quar_of key token (past_of (swept shard (sweep_step (past_of shard) key token))) ≡ None
swept-gone shard key token = by (quar_of key token (past_of shard)) refl
  where
    by : (found : Option Quar) → quar_of key token (past_of shard) ≡ found → quar_of key token (past_of (swept shard (sweep_by key token found))) ≡ None
    by None none = none
    by (Some quar) stands =
        ap (quar_of key token) (past-stepped shard (Released key quar.sid token ended.Drop)) ∙ ended-gone (past_of shard) key quar.sid token ended.Drop
