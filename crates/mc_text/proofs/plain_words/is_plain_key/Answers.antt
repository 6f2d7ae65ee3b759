use Rattle.mc_text.proofs.PlainWordLemmas.{no_key_word}
use Rattle.mc_text.proofs.plain_words.is_plain_key.Goals as goal

pub returns-in-None-clause-none : goal.returns-in-None-clause-none
returns-in-None-clause-none c = no_key_word c.args.word.now c.in-None.ensures.none
