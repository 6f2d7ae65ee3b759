use Rattle.std.proofs.Common.{◌≡◌, ◌*◌, map}
use Rattle.run_inputs.specs.Loads.{generator_of, after_draws}
use Rattle.run_inputs.proofs.LoadLemmas.{dealt}
use Rattle.run_inputs.proofs.loads.make_plans.Given as goal

abbrev pub invariant-loop-session : goal.invariant-loop-session
invariant-loop-session l = record {
  dealt : map (λ plans. plans.items) l.workers.items ≡ dealt l.spec l.session;
  drawn : l.generator ≡ after_draws (4 * l.session) (generator_of l.spec.seed);
}
