use Rattle.mc_text.specs.Words.{words_in}
use Rattle.mixed_lines.proofs.ReadLemmas.{no_verb}
use Rattle.mixed_lines.proofs.fronts.mixed_front.Goals as goal

pub returns-in_ok-front_by-in-Some-of_word : goal.returns-in_ok-front_by-in-Some-of_word
returns-in_ok-front_by-in-Some-of_word c =
    c.mixed.ensures c.args.stream.now
    (no_verb c.args.stream.now c.in-Some.long c.in-Some-next_word.word.now (words_in c.in-Some-next_word.args.now) c.in-Some.ensures.found
    c.in-Some-next_word.ensures.found c.in_default-plain_verb.ensures.none)
    c.in_ok-front_by-in-Some-of_word.ensures.front
