use Rattle.change_words.proofs.OnceLemmas.{words_tell}
use Rattle.change_words.proofs.laws.words_tell_txns.Goals as goal

pub returns : goal.returns
returns c = words_tell
