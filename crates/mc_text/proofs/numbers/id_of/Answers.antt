use Rattle.std.proofs.Common.{arith}
use Rattle.mc_text.proofs.KindLemmas.{number_written, not_zero, member_number}
use Rattle.mc_text.proofs.NumberLemmas.{numeral_parts}
use Rattle.mc_text.proofs.numbers.id_of.Goals as goal

pub returns-in_default-clause-none : goal.returns-in_default-clause-none
returns-in_default-clause-none c = λ id h. let m = (numeral_parts c.args.digits.now (member_number c.args.digits.now id h).number.form).0 in absurd (omega arith)

pub returns-in_default-2-clause-none : goal.returns-in_default-2-clause-none
returns-in_default-2-clause-none c = λ id h. let m = (member_number _ id h).low in absurd (omega arith)

pub returns-in_default-3-clause-none : goal.returns-in_default-3-clause-none
returns-in_default-3-clause-none c = λ id h. let m = (member_number _ id h).high in absurd (omega arith)

pub returns-in_err-number-clause-none : goal.returns-in_err-number-clause-none
returns-in_err-number-clause-none c =
    rw c.from_residual.ensures (λ id h. c.in_err-number.ensures.none id (member_number c.args.digits.now id h).number)

pub returns-then-number-gt-LAST_ID-clause-none : goal.returns-then-number-gt-LAST_ID-clause-none
returns-then-number-gt-LAST_ID-clause-none c = λ id h.
    let m = (member_number c.args.digits.now id h).number.value in
    let n = c.in_ok-number.ensures.found.value in
    let to = h.id_to in
    let beyond = c.if-number-gt-LAST_ID.true in
    absurd (omega arith)

pub returns-clause-found : goal.returns-clause-found
returns-clause-found c =
    let n = c.in_ok-number.ensures.found in
    record {
      id_from = not_zero c.args.digits.now c.in_ok-number.number n (omega arith);
      id_to = omega arith;
      written = number_written c.args.digits.now c.in_ok-number.number n (omega arith);
    }
