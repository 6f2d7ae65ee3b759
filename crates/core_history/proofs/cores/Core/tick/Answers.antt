use Rattle.std.proofs.Common.{sym, subst, arith}
use Rattle.core_history.specs.Cores.{CoreView, IsAt}
use Rattle.core_history.proofs.CoresLemmas.{tick_taken, ok_of, err_of}
use Rattle.core_history.proofs.cores.Core.tick.Goals as goal

pub returns-clause-takes : goal.returns-clause-takes
returns-clause-takes g c origin moves before =
    let at = subst (λ (v : CoreView). IsAt v origin moves) (sym c.self.view_is) before in
    ok_of c.tick_line.result _ _ (tick_taken _ _ origin moves c.args.by c.tick_line.result at (omega arith) c.tick_line.ensures)

pub returns-clause-err : goal.returns-clause-err
returns-clause-err g c origin moves before =
    let at = subst (λ (v : CoreView). IsAt v origin moves) (sym c.self.view_is) before in
    err_of c.tick_line.result _ _ (tick_taken _ _ origin moves c.args.by c.tick_line.result at (omega arith) c.tick_line.ensures)
