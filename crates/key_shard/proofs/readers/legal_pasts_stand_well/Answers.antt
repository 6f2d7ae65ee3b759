use Rattle.key_shard.proofs.LegalLemmas.{legal_stands_well}
use Rattle.key_shard.proofs.readers.legal_pasts_stand_well.Goals as goal

pub returns : goal.returns
returns c = legal_stands_well
