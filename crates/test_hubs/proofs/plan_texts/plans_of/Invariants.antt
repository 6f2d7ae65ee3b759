use Rattle.std.proofs.Common.{All}
use Rattle.session_client.specs.Plans.{IsPlan}
use Rattle.test_hubs.proofs.plan_texts.plans_of.Given as goal

abbrev pub invariant-loop-act : goal.invariant-loop-act
invariant-loop-act g l = All IsPlan l.plans.items
