use Rattle.std.proofs.Common.{refl, arith}
use Rattle.key_shard.specs.declared.steps.Step.TheVariants.{Void}
use Rattle.key_shard.proofs.OneStepLemmas.{next_by}
use Rattle.key_shard.proofs.VoidLemmas.{void-current, void-seen}
use Rattle.core_history.proofs.laws.voids_are_inert.Goals as goal

pub returns : goal.returns
returns c =
    λ key token now past. record {
      same_entry = λ k. refl;
      same_order = refl;
      same_standing = λ k. refl;
      same_seen = λ k who later after. void-seen k key who token now later past after;
      same_current = λ k its later after. void-current k key token now its later past after;
      same_token = λ terms. next_by terms (Void key token now) past;
    }
