use Rattle.mc_text.specs.Words.{words_in}
use Rattle.mc_text.proofs.PlainWordLemmas.{plain_read, query_read, no_keys}
use Rattle.mc_text.proofs.plain_lines.keys_of.Goals as goal

pub returns-in-None : goal.returns-in-None
returns-in-None c = λ some all.
    no_keys (words_in c.args.args.now) c.loop-word.keys.items (words_in c.loop-word.rest.now) (words_in c.in-Some.behind.now) c.loop-word.are_plain
    c.in-Some.word.now c.loop-word.invariant c.in-Some.ensures.found c.in-None.ensures.none all

pub loop-word-preserved-in_ok-push-in-Some-true : goal.loop-word-preserved-in_ok-push-in-Some-true
loop-word-preserved-in_ok-push-in-Some-true c =
    rw (c.in_ok-push-in-Some-true.ensures.items, c.in_ok-of_plain-in-Some-true.ensures)
    (plain_read (words_in c.args.args.now) c.loop-word.keys.items (words_in c.loop-word.rest.now) (words_in c.in-Some.behind.now) c.loop-word.are_plain
    c.in-Some.word.now c.loop-word.invariant c.in-Some.ensures.found (rw c.in-Some-true.field-0-test at c.in-Some-true.ensures.found))

pub loop-word-preserved : goal.loop-word-preserved
loop-word-preserved c =
    query_read (words_in c.args.args.now) c.loop-word.keys.items (words_in c.loop-word.rest.now) (words_in c.in-Some.behind.now) c.loop-word.are_plain
    c.in-Some.word.now c.loop-word.invariant c.in-Some.ensures.found (rw c.in-Some-false.field-0-test at c.in-Some-false.ensures.found)
