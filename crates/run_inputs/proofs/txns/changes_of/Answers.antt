use Rattle.std.proofs.Common.{ℕ, List, ◌∷◌, ◌∙◌, take, arith, refl, sym, ap, subst, length-take-le}
use Rattle.std.specs.Option.{option_copied}
use Rattle.rows_model.specs.declared.changes.Change.{Change}
use Rattle.rows_model.specs.Changes.{IsTxn}
use Rattle.change_words.specs.Txns.{AreTxnWords}
use Rattle.change_words.proofs.TakenLemmas.{HasTaken, taken_on, taken_all, no_change, no_more, no_plus}
use Rattle.run_inputs.specs.Parsing.{words_behind}
use Rattle.run_inputs.proofs.TxnLemmas.{with_change, same_length, too_many}
use Rattle.run_inputs.proofs.txns.changes_of.Goals as goal

pub returns-in_default-clause-none : goal.returns-in_default-clause-none
returns-in_default-clause-none c =
    no_change _ (take c.loop-place.place c.loop-place.list) (words_behind (option_copied c.loop-place.rest)) c.loop-place.invariant.taken
    c.in_default.ensures.none

pub invariant_of-result : goal.invariant_of-result
invariant_of-result c =
    let size = c.loop-place.invariant.size in
    let below = c.loop-place-test.true in
    let front = length-take-le c.loop-place.place c.loop-place.list (omega arith) in
    let whole = taken_all _ (take c.loop-place.place c.loop-place.list) (words_behind (option_copied c.loop-place.rest)) _ c.in-Some.change
    (omega arith) c.loop-place.invariant.taken (rw c.in_default-behind.is at c.in-Some.ensures.found) refl in
    (omega arith, subst IsTxn (sym (with_change c.loop-place.list c.loop-place.place c.in-Some.change (omega arith))) whole.0)

pub returns-in_default-behind-clause-found : goal.returns-in_default-behind-clause-found
returns-in_default-behind-clause-found c =
    let size = c.loop-place.invariant.size in
    let below = c.loop-place-test.true in
    let front = length-take-le c.loop-place.place c.loop-place.list (omega arith) in
    let whole = taken_all _ (take c.loop-place.place c.loop-place.list) (words_behind (option_copied c.loop-place.rest)) _ c.in-Some.change
    (omega arith) c.loop-place.invariant.taken (rw c.in_default-behind.is at c.in-Some.ensures.found) refl in
    subst (λ (txn : List Change). AreTxnWords txn (words_behind (option_copied c.args.args)))
    (sym (with_change c.loop-place.list c.loop-place.place c.in-Some.change (omega arith))) whole

pub returns-then-not-is_plus-clause-none : goal.returns-then-not-is_plus-clause-none
returns-then-not-is_plus-clause-none c =
    no_more _ (take c.loop-place.place c.loop-place.list) (words_behind (option_copied c.loop-place.rest)) _ c.in-Some.change
    c.loop-place.invariant.taken (rw c.in-Some-behind.is at c.in-Some.ensures.found)
    (λ more h. no_plus c.cut.result.0.now _ (rw c.if-not-is_plus.true at c.is_plus.ensures) more (rw c.cut.ensures.parts at h))

pub loop-place-preserved : goal.loop-place-preserved
loop-place-preserved c =
    let size = c.loop-place.invariant.size in
    let below = c.loop-place-test.true in
    record {
      taken = subst (λ (changes : List Change). HasTaken (words_behind (option_copied c.args.args)) changes (words_behind (option_copied c.cut.result.1)))
          (sym (with_change c.loop-place.list c.loop-place.place c.in-Some.change (omega arith)))
          (taken_on _ (take c.loop-place.place c.loop-place.list) (words_behind (option_copied c.loop-place.rest)) _
          (words_behind (option_copied c.cut.result.1)) c.in-Some.change
          c.loop-place.invariant.taken (rw c.in-Some-behind.is at c.in-Some.ensures.found)
          (c.cut.ensures.parts
          ∙ ap (λ (word : List ℕ). word ∷ words_behind (option_copied c.cut.result.1)) (rw c.if-not-is_plus.false at c.is_plus.ensures)));
      size = same_length c.loop-place.list c.loop-place.place c.in-Some.change ∙ size;
    }

pub returns-clause-none : goal.returns-clause-none
returns-clause-none c =
    let size = c.loop-place.invariant.size in
    let end = c.loop-place.auto.place-end in
    let ended = c.loop-place-test.false in
    let front = length-take-le c.loop-place.place c.loop-place.list (omega arith) in
    too_many _ (take c.loop-place.place c.loop-place.list) (words_behind (option_copied c.loop-place.rest)) c.loop-place.invariant.taken (omega arith)
