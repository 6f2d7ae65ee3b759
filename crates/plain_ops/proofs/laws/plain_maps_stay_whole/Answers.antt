use Rattle.plain_ops.specs.Steps.{effect_of}
use Rattle.plain_ops.proofs.FitLemmas.{effect_fits}
use Rattle.plain_ops.proofs.DifferLemmas.{effect_differs}
use Rattle.plain_ops.proofs.laws.plain_maps_stay_whole.Goals as goal

pub returns : goal.returns
returns c = λ old new command reply h whole. record {
  differ = effect_differs old new (effect_of old.entries command) reply h whole.differ;
  fit = effect_fits old new (effect_of old.entries command) reply h whole.fit;
}
