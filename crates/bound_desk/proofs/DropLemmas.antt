-- A shard stays but for its leases to read where none is dropped, where one is, and where several are.
use Rattle.std.proofs.Common.{◌≡◌, ℕ, Option, Some, None, List, [], ◌∷◌, refl, ap, ◌∙◌}
use Rattle.std.specs.Prelude.{IfSome, IfNone}
use Rattle.std.proofs.lemmas.List.{reverse-append}
use Rattle.lease_table.specs.declared.records.Lapse.{Lapse}
use Rattle.key_shard.specs.declared.steps.Step.{Step}
use Rattle.key_shard.specs.declared.steps.Step.TheVariants as step
use Rattle.key_shard.specs.Past.{entry, standing}
use Rattle.key_shard.specs.Shards.{ShardView, past_of, stepped}
use Rattle.log_word.specs.Steps.{IsBeginning}
use Rattle.log_word.proofs.ViewLemmas.{beginning_same, beginning_trans}
use Rattle.bound_hub.specs.Ties.{BoundShardView}
use Rattle.bound_desk.specs.Swept.{StaysButLeases}

pub stays_same : (v : BoundShardView) → StaysButLeases v v
stays_same v = record { terms = refl; entries = λ key. refl; quarantines = λ key. refl; seen = beginning_same v.seen }

pub stays_on : (first old new : BoundShardView) → StaysButLeases first old → StaysButLeases old new → StaysButLeases first new
stays_on first old new was next = record {
  terms = next.terms ∙ was.terms;
  entries = λ key. next.entries key ∙ was.entries key;
  quarantines = λ key. next.quarantines key ∙ was.quarantines key;
  seen = beginning_trans first.seen old.seen new.seen was.seen next.seen;
}

pub stays_alike : (old new : BoundShardView) → new.shard ≡ old.shard → IsBeginning old.seen new.seen → StaysButLeases old new
stays_alike old new same goes = record {
  terms = ap (λ (v : ShardView). v.terms) same;
  entries = λ key. ap (λ (v : ShardView). entry key (past_of v)) same;
  quarantines = λ key. ap (λ (v : ShardView). standing key (past_of v)) same;
  seen = goes;
}

stays_void : (old new : BoundShardView) (lapse : Lapse) (now : ℕ) → new.shard ≡ stepped old.shard (step.Void lapse.key lapse.token now)
    → IsBeginning old.seen new.seen → StaysButLeases old new
stays_void old new lapse now made goes =
    let s : Step = step.Void lapse.key lapse.token now in
    let past : past_of new.shard ≡ s ∷ past_of old.shard = ap (λ (v : ShardView). past_of v) made ∙ reverse-append old.shard.history (s ∷ []) in
    record {
      terms = ap (λ (v : ShardView). v.terms) made;
      entries = λ key. ap (λ (p : List Step). entry key p) past;
      quarantines = λ key. ap (λ (p : List Step). standing key p) past;
      seen = goes;
    }

pub stays_found : (found : Option Lapse) (old new : BoundShardView) (now : ℕ)
    → IfSome found (λ lapse. new.shard ≡ stepped old.shard (step.Void lapse.key lapse.token now)) → IfNone found (new.shard ≡ old.shard)
    → IsBeginning old.seen new.seen → StaysButLeases old new
stays_found (Some lapse) old new now made left goes = stays_void old new lapse now made goes
stays_found None old new now made left goes = stays_alike old new left goes
