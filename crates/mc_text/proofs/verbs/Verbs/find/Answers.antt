use Rattle.std.proofs.Common.{arith}
use Rattle.mc_text.proofs.TableLemmas.{no_verb}
use Rattle.mc_text.proofs.verbs.Verbs.find.Goals as goal

pub returns-clause-none : goal.returns-clause-none
returns-clause-none g c =
    rw (← c.self.view_is)
    (no_verb c.self.inside.rows c.args.word.now c.in_ok-which.which c.in_ok-which.ensures.found (λ i d h. c.loop-row.invariant i d (omega arith)))
