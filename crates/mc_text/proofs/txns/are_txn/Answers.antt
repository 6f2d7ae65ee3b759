use Rattle.std.proofs.Common.{arith}
use Rattle.mc_text.specs.Words.{words_in}
use Rattle.mc_text.proofs.TxnLemmas.{none_read, read_on, read_all, read_none, read_no_plus, read_many}
use Rattle.mc_text.proofs.txns.are_txn.Goals as goal

pub loop-init : goal.loop-init
loop-init c = none_read (words_in c.args.words.now)

pub returns-in_default-clause-no : goal.returns-in_default-clause-no
returns-in_default-clause-no c = λ is.
    read_none (words_in c.args.words.now) (words_in c.loop.rest.now) c.loop.counter c.loop.invariant c.in_default.ensures.none

pub returns-in_default-next_word-clause-yes : goal.returns-in_default-next_word-clause-yes
returns-in_default-next_word-clause-yes c = λ is.
    read_all (words_in c.args.words.now) (words_in c.loop.rest.now) (words_in c.in-Some.behind.now) c.loop.counter c.in-Some._change
    (omega (arith, c.loop-test.true)) c.loop.invariant c.in-Some.ensures.found c.in_default-next_word.ensures.none

pub returns-then-not-is_plus-clause-no : goal.returns-then-not-is_plus-clause-no
returns-then-not-is_plus-clause-no c = λ is.
    read_no_plus (words_in c.args.words.now) (words_in c.loop.rest.now) (words_in c.in-Some.behind.now) (words_in c.in-Some-next_word.more.now)
    c.in-Some-next_word.word.now c.loop.counter c.in-Some._change c.loop.invariant c.in-Some.ensures.found c.in-Some-next_word.ensures.found
    (rw c.if-not-is_plus.true at c.is_plus.ensures)

pub loop-preserved : goal.loop-preserved
loop-preserved c =
    read_on (words_in c.args.words.now) (words_in c.loop.rest.now) (words_in c.in-Some.behind.now) (words_in c.in-Some-next_word.more.now)
    c.loop.counter c.in-Some._change c.loop.invariant c.in-Some.ensures.found
    (rw (rw c.if-not-is_plus.false at c.is_plus.ensures) at c.in-Some-next_word.ensures.found)

pub returns-clause-no : goal.returns-clause-no
returns-clause-no c = λ is.
    read_many (words_in c.args.words.now) (words_in c.loop.rest.now) c.loop.counter c.loop.invariant (omega (arith, c.loop-test.false))
