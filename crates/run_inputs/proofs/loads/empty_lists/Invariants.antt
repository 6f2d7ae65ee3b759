use Rattle.std.proofs.Common.{◌≡◌, map, replicate, []}
use Rattle.run_inputs.proofs.loads.empty_lists.Given as goal

abbrev pub invariant-loop : goal.invariant-loop
invariant-loop l = map (λ plans. plans.items) l.lists.items ≡ replicate l.counter []
