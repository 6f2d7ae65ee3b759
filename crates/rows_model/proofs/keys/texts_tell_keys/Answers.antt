use Rattle.rows_model.proofs.KeyLemmas.{key_text_injective, zero_has_no_text}
use Rattle.rows_model.proofs.keys.texts_tell_keys.Goals as goal

pub returns : goal.returns
returns c = record { keys = key_text_injective; zero = zero_has_no_text }
