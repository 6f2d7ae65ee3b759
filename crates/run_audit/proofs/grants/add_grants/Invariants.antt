use Rattle.std.proofs.Common.{◌≡◌, ◌||◌, take}
use Rattle.run_audit.specs.declared.holds.Hold.{Hold}
use Rattle.run_audit.specs.Grants.{has_hold, grants_it}
use Rattle.run_audit.proofs.grants.add_grants.Given as goal

abbrev pub invariant-loop-step : goal.invariant-loop-step
invariant-loop-step l =
    (hold : Hold) → has_hold hold l.grants ≡ (has_hold hold l.initial.grants || grants_it hold (take l.step-index l.history))
