use Rattle.key_shard.proofs.ModeLemmas.{answers_end_by_mode, legal_ends_by_mode}
use Rattle.key_shard.proofs.laws.quarantines_end_by_mode.Goals as goal

pub returns : goal.returns
returns c = record { answers = answers_end_by_mode; legal = legal_ends_by_mode }
