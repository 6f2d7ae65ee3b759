use Rattle.log_word.proofs.EventMoves.{opens}
use Rattle.log_word.proofs.words.LogWord.new.Goals as goal

pub of_words-requires : goal.of_words-requires
of_words-requires c = opens c.args.shards
