use Rattle.std.proofs.Common.{arith}
use Rattle.std.proofs.lemmas.Grind.{common_steps}
use Rattle.rows_model.proofs.KeyLemmas.{key_text_is}
use Rattle.mc_text.proofs.replies.push_value_key.Goals as goal

pub returns-clause-ok : goal.returns-clause-ok
returns-clause-ok c = rw key_text_is (grind (arith, common_steps))
