use Rattle.std.proofs.Common.{sym, subst}
use Rattle.session_client.specs.declared.plans.Turn.TheVariants as turn
use Rattle.core_history.specs.Cores.{CoreView, IsAt, IsRunning}
use Rattle.core_history.proofs.CoresLemmas.{homes_there, sweep_taken, whole_taken, sweeper_all, sweeper_numbered, ok_of, err_of}
use Rattle.core_history.proofs.cores.Core.sweep.Goals as goal

pub sweep_turn-requires-clause-homes : goal.sweep_turn-requires-clause-homes
sweep_turn-requires-clause-homes g c = homes_there _ (subst IsRunning (sym c.self.view_is) c.requires.running)

pub sweep_turn-requires-clause-all : goal.sweep_turn-requires-clause-all
sweep_turn-requires-clause-all g c = sweeper_all _ (subst IsRunning (sym c.self.view_is) c.requires.running)

pub sweep_turn-requires-clause-numbered : goal.sweep_turn-requires-clause-numbered
sweep_turn-requires-clause-numbered g c = sweeper_numbered _ (subst IsRunning (sym c.self.view_is) c.requires.running)

pub invariant_of-self : goal.invariant_of-self
invariant_of-self g c =
    let running = subst IsRunning (sym c.self.view_is) c.requires.running in
    whole_taken _ running.0 running.1 turn.Sweep c.sweep_turn.result
    (sweep_taken _ _ _ _ running.0 running.1 c.sweep_turn.result running.2 c.sweep_turn.ensures.takes)

pub returns-clause-takes : goal.returns-clause-takes
returns-clause-takes g c origin moves before =
    let at = subst (λ (v : CoreView). IsAt v origin moves) (sym c.self.view_is) before in
    ok_of c.sweep_turn.result _ _ (sweep_taken _ _ _ _ origin moves c.sweep_turn.result at c.sweep_turn.ensures.takes)

pub returns-clause-err : goal.returns-clause-err
returns-clause-err g c origin moves before =
    let at = subst (λ (v : CoreView). IsAt v origin moves) (sym c.self.view_is) before in
    err_of c.sweep_turn.result _ _ (sweep_taken _ _ _ _ origin moves c.sweep_turn.result at c.sweep_turn.ensures.takes)
