use Rattle.std.proofs.Common.{sym, subst}
use Rattle.session_client.specs.declared.plans.Turn.TheVariants as turn
use Rattle.core_history.specs.Cores.{CoreView, HasBegun, IsAt, IsRunning}
use Rattle.core_history.proofs.CoresLemmas.{homes_there, waits_there, turn_taken, whole_taken, ok_of, err_of}
use Rattle.core_history.proofs.cores.Core.step_of.Goals as goal

pub session_turn-requires-clause-homes : goal.session_turn-requires-clause-homes
session_turn-requires-clause-homes g c = homes_there _ (subst IsRunning (sym c.self.view_is) c.requires.running)

pub session_turn-requires-clause-waits : goal.session_turn-requires-clause-waits
session_turn-requires-clause-waits g c session found =
    waits_there _ c.args.who session (subst IsRunning (sym c.self.view_is) c.requires.running) c.requires.begun.0 found

pub invariant_of-self : goal.invariant_of-self
invariant_of-self g c =
    let running = subst IsRunning (sym c.self.view_is) c.requires.running in
    let begun = subst (λ (v : CoreView). HasBegun v (turn.Session c.args.who)) (sym c.self.view_is) c.requires.begun in
    whole_taken _ running.0 running.1 (turn.Session c.args.who) c.session_turn.result
    (turn_taken _ _ _ _ running.0 running.1 c.args.who c.session_turn.result running.2 begun c.session_turn.ensures)

pub returns-clause-takes : goal.returns-clause-takes
returns-clause-takes g c origin moves before =
    let at = subst (λ (v : CoreView). IsAt v origin moves) (sym c.self.view_is) before in
    let begun = subst (λ (v : CoreView). HasBegun v (turn.Session c.args.who)) (sym c.self.view_is) c.requires.begun in
    ok_of c.session_turn.result _ _ (turn_taken _ _ _ _ origin moves c.args.who c.session_turn.result at begun c.session_turn.ensures)

pub returns-clause-err : goal.returns-clause-err
returns-clause-err g c origin moves before =
    let at = subst (λ (v : CoreView). IsAt v origin moves) (sym c.self.view_is) before in
    let begun = subst (λ (v : CoreView). HasBegun v (turn.Session c.args.who)) (sym c.self.view_is) c.requires.begun in
    err_of c.session_turn.result _ _ (turn_taken _ _ _ _ origin moves c.args.who c.session_turn.result at begun c.session_turn.ensures)
