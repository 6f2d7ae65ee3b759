use Rattle.key_shard.proofs.OneStepLemmas.{readers_by_one_step}
use Rattle.key_shard.proofs.readers.readers_by_one_step.Goals as goal

pub returns : goal.returns
returns c = readers_by_one_step
