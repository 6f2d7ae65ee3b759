use Rattle.mc_text.proofs.SplitLemmas.{told_word}
use Rattle.mc_text.proofs.words.has_ended.Goals as goal

pub returns : goal.returns
returns c = told_word c.args.text.now c.word_start.result c.is_none.result c.word_start.ensures c.is_none.ensures
