use Rattle.std.proofs.Common.{◌≡◌, ◌≤◌, true, get_or, arith}
use Rattle.std.proofs.lemmas.Bool.Decides.{nat_tests}
use Rattle.rows_model.specs.Shift.{is_digit}
use Rattle.mc_text.proofs.NumberLemmas.{number_more, digits_more}
use Rattle.mc_text.proofs.lookups.front_number.Goals as goal

pub loop-at-preserved : goal.loop-at-preserved
loop-at-preserved c =
    let text = c.args.text.now in
    let at = c.loop-at.at in
    let more = number_more text at c.loop-at-test.true in
    let low : 48 ≤ get_or text at 0 = grind (arith, nat_tests) in
    let one : is_digit (get_or text at 0) ≡ true = grind (arith, nat_tests) in
    record {
      within = omega arith;
      value = omega (arith, more, low, c.loop-at.invariant.value);
      digits = digits_more text at c.loop-at-test.true c.loop-at.invariant.digits one;
      below = omega arith;
    }
