use Rattle.log_word.proofs.ViewLemmas.{beginning_trans}
use Rattle.log_word.proofs.laws.beginnings_go_on.Goals as goal

pub returns : goal.returns
returns c = beginning_trans
