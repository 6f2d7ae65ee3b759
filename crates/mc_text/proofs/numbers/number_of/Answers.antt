use Rattle.std.proofs.Common.{◌≡◌, ◌≤◌, ◌+◌, ◌^◌, true, get_or, length, take_all, arith, ap, ◌∙◌}
use Rattle.std.proofs.lemmas.Bool.Decides.{nat_tests}
use Rattle.rows_model.specs.Shift.{is_digit, number_from}
use Rattle.mc_text.proofs.NumberLemmas.{number_more, digits_more, too_great, numeral_whole}
use Rattle.mc_text.proofs.numbers.number_of.Goals as goal

pub returns-in_err-checked_mul-clause-none : goal.returns-in_err-checked_mul-clause-none
returns-in_err-checked_mul-clause-none c =
    let more = number_more c.args.word.now c.loop-byte.byte-index c.loop-byte-test.true in
    rw c.from_residual.ensures (λ number h. too_great c.args.word.now
    (c.loop-byte.byte-index + 1) (2 ^ 64) number (omega (arith, more, c.loop-byte.invariant.value, c.in_err-checked_mul.ensures)) h)

pub returns-in_err-number-clause-none : goal.returns-in_err-number-clause-none
returns-in_err-number-clause-none c =
    let more = number_more c.args.word.now c.loop-byte.byte-index c.loop-byte-test.true in
    let low : 48 ≤ get_or c.args.word.now c.loop-byte.byte-index 0 = grind (arith, nat_tests) in
    rw c.from_residual-in_err-number.ensures (λ number h. too_great c.args.word.now (c.loop-byte.byte-index + 1)
    (2 ^ 64) number (omega (arith, more, low, c.loop-byte.invariant.value, c.in_ok-checked_mul.ensures, c.in_err-number.ensures)) h)

pub loop-byte-preserved : goal.loop-byte-preserved
loop-byte-preserved c =
    let more = number_more c.args.word.now c.loop-byte.byte-index c.loop-byte-test.true in
    let low : 48 ≤ get_or c.args.word.now c.loop-byte.byte-index 0 = grind (arith, nat_tests) in
    let one : is_digit (get_or c.args.word.now c.loop-byte.byte-index 0) ≡ true = grind (arith, nat_tests) in
    record {
      value = omega (arith, more, low, c.loop-byte.invariant.value);
      digits = digits_more c.args.word.now c.loop-byte.byte-index c.loop-byte-test.true c.loop-byte.invariant.digits one;
      below = omega arith;
    }

pub returns-clause-found : goal.returns-clause-found
returns-clause-found c =
    let some : 1 ≤ length c.args.word.now = grind (arith, nat_tests) in
    record {
      form = numeral_whole c.args.word.now c.loop-byte.byte-index (omega arith) some (omega arith) c.loop-byte.invariant.digits;
      value = c.loop-byte.invariant.value ∙ ap (number_from 0) (take_all c.loop-byte.byte-index c.args.word.now (omega arith));
      below = c.loop-byte.invariant.below;
    }
