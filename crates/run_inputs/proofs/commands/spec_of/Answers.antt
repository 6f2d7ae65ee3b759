use Rattle.std.proofs.Common.{sym}
use Rattle.rows_model.proofs.ShiftLemmas.{number_in-written}
use Rattle.run_inputs.proofs.WorkLemmas.{no_decimal}
use Rattle.run_inputs.proofs.commands.spec_of.Goals as goal

pub returns-in_err-number_of-clause-none : goal.returns-in_err-number_of-clause-none
returns-in_err-number_of-clause-none c =
    rw c.from_residual-in_err-number_of.ensures (λ spec h. no_decimal c.args.seed.now (sym c.in_err-number_of.ensures) spec.seed h.seed_below h.seed_is)

pub returns-clause-found : goal.returns-clause-found
returns-clause-found c =
    let seed = number_in-written c.args.seed.now c.in_ok-number_of.field-0 (sym c.in_ok-number_of.ensures) in
    record {
      members_are = c.in_ok-number_within.ensures.found;
      sessions_are = c.in_ok-number_within-2.ensures.found;
      workers_are = c.in_ok-number_within-3.ensures.found;
      shards_are = c.in_ok-number_within-4.ensures.found;
      seed_is = seed.0;
      seed_below = seed.1;
    }
