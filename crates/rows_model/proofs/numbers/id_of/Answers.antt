use Rattle.std.proofs.Common.{arith}
use Rattle.std.specs.Result.{result_ok}
use Rattle.rows_model.proofs.NumberLemmas.{first_of_id, IsUtf8-from_id, id_parsed, found_part, none_part}
use Rattle.rows_model.proofs.numbers.id_of.Goals as goal

pub returns-in_default-clause-none : goal.returns-in_default-clause-none
returns-in_default-clause-none c = λ id h. let f = first_of_id _ id h in omega arith

pub returns-in_default-2-clause-none : goal.returns-in_default-2-clause-none
returns-in_default-2-clause-none c = λ id h. let f = first_of_id _ id h in omega arith

pub returns-in_default-3-clause-none : goal.returns-in_default-3-clause-none
returns-in_default-3-clause-none c = λ id h. let f = first_of_id _ id h in omega arith

pub returns-in_default-from_utf8-clause-none : goal.returns-in_default-from_utf8-clause-none
returns-in_default-from_utf8-clause-none c = λ id h. c.in_default-from_utf8.ensures.cases.0 (IsUtf8-from_id _ id h)

pub returns-clause-found : goal.returns-clause-found
returns-clause-found c =
    let digits = c.args.digits.now in
    let h = rw c.in-Ok.ensures.cases.0 at c.parse.ensures.value.0 in
    rw c.ok.ensures.value (found_part digits (result_ok c.parse.result) (id_parsed digits c.parse.result h (omega arith) (omega arith) (omega arith)))

pub returns-clause-none : goal.returns-clause-none
returns-clause-none c =
    let digits = c.args.digits.now in
    let h = rw c.in-Ok.ensures.cases.0 at c.parse.ensures.value.0 in
    rw c.ok.ensures.value (none_part digits (result_ok c.parse.result) (id_parsed digits c.parse.result h (omega arith) (omega arith) (omega arith)))
