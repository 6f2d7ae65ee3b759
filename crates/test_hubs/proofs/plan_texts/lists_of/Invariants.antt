use Rattle.std.proofs.Common.{All}
use Rattle.session_client.specs.Plans.{IsPlan}
use Rattle.test_hubs.proofs.plan_texts.lists_of.Given as goal

abbrev pub invariant-loop-text : goal.invariant-loop-text
invariant-loop-text g l = All (λ list. All IsPlan list.items) l.lists.items
