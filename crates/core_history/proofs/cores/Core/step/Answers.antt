use Rattle.std.proofs.Common.{◌⊎◌, ◌∷◌, List, Result, IfOk, OnErr, subst, sym}
use Rattle.rows_model.specs.declared.refusals.Memory.{Memory}
use Rattle.session_client.specs.declared.plans.Turn.{Turn}
use Rattle.core_history.specs.declared.turn_lines.TurnLine.{TurnLine}
use Rattle.core_history.specs.Cores.{Origin, CoreView, HasBegun, HasKept, IsAt}
use Rattle.core_history.specs.Machine.{Move, Said, Take, world_of, turn_event}
use Rattle.core_history.specs.TurnLines.{IsLineOf}
use Rattle.core_history.proofs.cores.Core.step.Goals as goal

-- what a turn that was taken leaves, and what it leaves for want of memory
abbrev Taken : Origin → List Move → CoreView → Result TurnLine Memory → Turn → Type 0
Taken origin moves new result turn =
    IfOk result (λ printed. (said : Said) × IsAt new origin (Take turn said ∷ moves)
    × IsLineOf (turn_event origin.shape (world_of origin.shape moves) turn said) printed)

abbrev Left : Origin → List Move → CoreView → Result TurnLine Memory → Turn → Type 0
Left origin moves new result turn =
    OnErr result (HasKept new origin moves ⊎ ((said : Said) × HasKept new origin (Take turn said ∷ moves)))

pub step_of-requires-clause-begun : goal.step_of-requires-clause-begun
step_of-requires-clause-begun g c = subst (λ (t : Turn). HasBegun c.args.self.now t) c.in-Session.is c.requires.begun

pub returns-in-Session-clause-takes : goal.returns-in-Session-clause-takes
returns-in-Session-clause-takes g c origin moves at =
    subst (Taken origin moves c.step_of.new.self c.step_of.result) (sym c.in-Session.is) (c.step_of.ensures.takes origin moves at)

pub returns-in-Session-clause-err : goal.returns-in-Session-clause-err
returns-in-Session-clause-err g c origin moves at =
    subst (Left origin moves c.step_of.new.self c.step_of.result) (sym c.in-Session.is) (c.step_of.ensures.err origin moves at)

pub returns-in-Tick-clause-takes : goal.returns-in-Tick-clause-takes
returns-in-Tick-clause-takes g c origin moves at =
    subst (Taken origin moves c.tick.new.self c.tick.result) (sym c.in-Tick.is) (c.tick.ensures.takes origin moves at)

pub returns-in-Tick-clause-err : goal.returns-in-Tick-clause-err
returns-in-Tick-clause-err g c origin moves at =
    subst (Left origin moves c.tick.new.self c.tick.result) (sym c.in-Tick.is) (c.tick.ensures.err origin moves at)

pub returns-in-Sweep-clause-takes : goal.returns-in-Sweep-clause-takes
returns-in-Sweep-clause-takes g c origin moves at =
    subst (Taken origin moves c.sweep.new.self c.sweep.result) (sym c.in-Sweep.is) (c.sweep.ensures.takes origin moves at)

pub returns-in-Sweep-clause-err : goal.returns-in-Sweep-clause-err
returns-in-Sweep-clause-err g c origin moves at =
    subst (Left origin moves c.sweep.new.self c.sweep.result) (sym c.in-Sweep.is) (c.sweep.ensures.err origin moves at)
