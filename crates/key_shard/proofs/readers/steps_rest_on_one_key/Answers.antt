use Rattle.key_shard.proofs.SightLemmas.{step_by_sight}
use Rattle.key_shard.proofs.readers.steps_rest_on_one_key.Goals as goal

pub returns : goal.returns
returns c = step_by_sight
