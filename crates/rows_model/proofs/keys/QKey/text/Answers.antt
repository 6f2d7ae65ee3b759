use Rattle.std.proofs.Common.{arith}
use Rattle.std.proofs.lemmas.Grind.{common_steps}
use Rattle.rows_model.proofs.KeyLemmas.{key_text_is}
use Rattle.rows_model.proofs.keys.QKey.text.Goals as goal

pub returns : goal.returns
returns c = rw key_text_is (grind (arith, common_steps))
