-- What a shard shows behind a set that came too late.
use Rattle.std.proofs.Common.{◌≡◌, ℕ, Bool, false, List, ◌∷◌, refl, sym, ap, ◌∙◌, subst}
use Rattle.std.specs.Prelude.{Result, Ok, Err, OnOk, OnErr, if◌then◌else◌}
use Rattle.rows_model.specs.declared.keys.QKey.{QKey}
use Rattle.lease_table.specs.Leases.{is_current}
use Rattle.key_shard.specs.declared.steps.Step.{Step}
use Rattle.key_shard.specs.declared.steps.Step.TheVariants.{Stored, Void}
use Rattle.key_shard.specs.Past.{recorded, evicts}
use Rattle.key_shard.specs.Answers.{set_step}
use Rattle.key_shard.specs.Shards.{ShardView, past_of, stepped}
use Rattle.key_shard.proofs.SweepLemmas.{past-stepped}
use Rattle.core_history.specs.Voids.{IsInert, VoidsAreInert}
use Rattle.callers.specs.Shards.{ShowsTheSame}

shown-same : (now : ℕ) (past : List Step) → ShowsTheSame now past past
shown-same now past = record {
  entries = λ key. refl;
  by_use = refl;
  quarantines = λ key. refl;
  seen = λ key who later after. refl;
  leases = λ key token later after. refl;
}

shown-inert : (now : ℕ) (past : List Step) (step : Step) → IsInert past now step → ShowsTheSame now past (step ∷ past)
shown-inert now past step h = record {
  entries = h.same_entry;
  by_use = h.same_order;
  quarantines = h.same_standing;
  seen = h.same_seen;
  leases = h.same_current;
}

-- a set under a token that stands no longer is void, unless it is refused
pub shown-late : {A B : Type 0} (shard new : ShardView) (key : QKey) (token : ℕ) (value : List ℕ) (stamp now : ℕ) (result : Result A B) → VoidsAreInert
    → is_current token now (recorded key (past_of shard)) ≡ false
    → OnOk result (new ≡ stepped shard (set_step shard.terms (past_of shard) key token value stamp now))
    → OnErr result (new ≡ shard)
    → ShowsTheSame now (past_of shard) (past_of new)
shown-late shard new key token value stamp now (Ok answer) inert late ok err =
    let past = past_of shard in
    let void : set_step shard.terms past key token value stamp now ≡ Void key token now =
    ap (λ (b : Bool). if b then Stored key token now value stamp (evicts shard.terms key past) else Void key token now) late in
    let is : past_of new ≡ Void key token now ∷ past =
    ap past_of ok ∙ past-stepped shard (set_step shard.terms past key token value stamp now) ∙ ap (λ (step : Step). step ∷ past) void in
    subst (ShowsTheSame now past) (sym is) (shown-inert now past (Void key token now) (inert key token now past))
shown-late shard new key token value stamp now (Err fault) inert late ok err =
    subst (λ (s : ShardView). ShowsTheSame now (past_of shard) (past_of s)) (sym err) (shown-same now (past_of shard))
