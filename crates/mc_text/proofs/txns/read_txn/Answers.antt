use Rattle.std.proofs.Common.{arith, ap, ◌∙◌, ◌∷◌, List, ℕ}
use Rattle.change_words.proofs.TakenLemmas.{taken_on, taken_all, no_change, no_more, no_plus}
use Rattle.mc_text.specs.Words.{words_in}
use Rattle.mc_text.proofs.txns.read_txn.Goals as goal

pub returns-in_default-clause-none : goal.returns-in_default-clause-none
returns-in_default-clause-none c =
    no_change (words_in c.args.words.now) c.loop.changes.items (words_in c.loop.rest.now) c.loop.invariant.taken c.in_default.ensures.none

pub whole_txn-requires : goal.whole_txn-requires
whole_txn-requires c =
    rw (c.as_slice.ensures.value, c.in_ok-push.ensures.items)
    (taken_all (words_in c.args.words.now) c.loop.changes.items (words_in c.loop.rest.now) (words_in c.in-Some.behind.now) c.in-Some.change
    (omega arith) c.loop.invariant.taken c.in-Some.ensures.found c.in_default-next_word.ensures.none).0

pub returns-then-not-is_plus-clause-none : goal.returns-then-not-is_plus-clause-none
returns-then-not-is_plus-clause-none c =
    no_more (words_in c.args.words.now) c.loop.changes.items (words_in c.loop.rest.now) (words_in c.in-Some.behind.now) c.in-Some.change
    c.loop.invariant.taken c.in-Some.ensures.found (λ more h. no_plus c.in-Some-next_word.word.now (words_in c.in-Some-next_word.more.now)
    (rw c.if-not-is_plus.true at c.is_plus.ensures) more (rw c.in-Some-next_word.ensures.found at h))

pub loop-preserved : goal.loop-preserved
loop-preserved c = record {
  taken = rw c.in_ok-push.ensures.items (taken_on (words_in c.args.words.now) c.loop.changes.items
      (words_in c.loop.rest.now) (words_in c.in-Some.behind.now) (words_in c.in-Some-next_word.more.now) c.in-Some.change
      c.loop.invariant.taken c.in-Some.ensures.found
      (c.in-Some-next_word.ensures.found
      ∙ ap (λ (word : List ℕ). word ∷ words_in c.in-Some-next_word.more.now) (rw c.if-not-is_plus.false at c.is_plus.ensures)));
  count = omega (arith, c.in_ok-push.ensures.len);
}
