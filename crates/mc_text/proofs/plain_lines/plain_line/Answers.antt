use Rattle.mc_text.specs.Words.{words_in}
use Rattle.mc_text.specs.declared.plain_verb_words.PlainVerb.TheVariants as verb
use Rattle.mc_text.proofs.PlainLineLemmas.{whole_tells, no_incr_head, no_decr_head}
use Rattle.mc_text.proofs.plain_lines.plain_line.Goals as goal

pub returns-in_ok-incr_of-in-Incr-clause-tells : goal.returns-in_ok-incr_of-in-Incr-clause-tells
returns-in_ok-incr_of-in-Incr-clause-tells c =
    rw c.in-Incr.is
    (whole_tells verb.Incr (words_in c.args.args.now) c.in_ok-incr_of-in-Incr.field-0 c.whole-in-Incr.result
    c.in_ok-incr_of-in-Incr.ensures.found c.in_ok-incr_of-in-Incr.ensures.none c.whole-in-Incr.ensures (no_incr_head (words_in c.args.args.now)))

pub returns-in_ok-decr_of-in-Decr-clause-tells : goal.returns-in_ok-decr_of-in-Decr-clause-tells
returns-in_ok-decr_of-in-Decr-clause-tells c =
    rw c.in-Decr.is
    (whole_tells verb.Decr (words_in c.args.args.now) c.in_ok-decr_of-in-Decr.field-0 c.whole-in-Decr.result
    c.in_ok-decr_of-in-Decr.ensures.found c.in_ok-decr_of-in-Decr.ensures.none c.whole-in-Decr.ensures (no_decr_head (words_in c.args.args.now)))
