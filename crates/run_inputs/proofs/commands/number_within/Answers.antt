use Rattle.std.proofs.Common.{◌≡◌, ◌≤◌, arith, sym}
use Rattle.rows_model.proofs.ShiftLemmas.{number_in-written}
use Rattle.run_inputs.proofs.WorkLemmas.{no_number, one_number}
use Rattle.run_inputs.proofs.commands.number_within.Goals.{then-number-from-via-then-number-from, then-number-from-via-else-number-from+then-number-from-2}
use Rattle.run_inputs.proofs.commands.number_within.Goals as goal

pub returns-in_err-number-clause-none : goal.returns-in_err-number-clause-none
returns-in_err-number-clause-none c =
    rw c.from_residual.ensures (no_number c.args.word.now c.args.least c.args.most (omega arith) (sym c.in_err-number.ensures))

pub returns-then-number-from-clause-none : goal.returns-then-number-from-clause-none
returns-then-number-from-clause-none c = λ number h.
    let same : number ≡ c.in_ok-number.number =
    one_number c.args.word.now c.args.least c.args.most c.in_ok-number.number number (omega arith) (sym c.in_ok-number.ensures) h in
    let from : c.args.least ≤ number = h.from in
    let to : number ≤ c.args.most = h.to in
    elim c.then-number-from.branch [
      | then-number-from-via-then-number-from w ↦ omega (arith, w)
      | then-number-from-via-else-number-from+then-number-from-2 w ↦ omega (arith, w)
    ]

pub returns-clause-found : goal.returns-clause-found
returns-clause-found c = record {
  written = (number_in-written c.args.word.now c.in_ok-number.number (sym c.in_ok-number.ensures)).0;
  from = omega arith;
  to = omega arith;
}
