use Rattle.std.proofs.Common.{arith}
use Rattle.std.proofs.lemmas.List.{take_all}
use Rattle.run_audit.proofs.KnownLemmas.{knows-more, keeps-on}
use Rattle.run_audit.proofs.answers.note_hits.Goals as goal

pub loop-step-preserved : goal.loop-step-preserved
loop-step-preserved c =
    let made = c.in_ok-note_hit.ensures in (
      made.opening,
      keeps-on c.args.answers.now c.loop-step.answers c.note_hit.new.answers c.loop-step.invariant.1 made.keeps,
      knows-more c.loop-step.answers c.note_hit.new.answers c.args.history.now c.loop-step.step-index c.step-item.result
          (omega arith) c.step-item.is c.loop-step.invariant.2 made.keeps made.knows,
    )

pub returns-clause-knows : goal.returns-clause-knows
returns-clause-knows c =
    let all = take_all c.loop-step.step-index c.args.history.now (omega arith) in
    rw all at c.loop-step.invariant.2
