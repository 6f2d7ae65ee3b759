use Rattle.std.proofs.Common.{arith, refl}
use Rattle.std.proofs.lemmas.Bool.Decides.{nat_tests}
use Rattle.run_inputs.proofs.ScriptLemmas.{read_none, read_more, script_at}
use Rattle.run_inputs.proofs.FitLemmas.{playable}
use Rattle.run_inputs.proofs.scripts.Script.parse.Goals as goal

pub loop-rest-init : goal.loop-rest-init
loop-rest-init c =
    rw (c.new-acts.ensures.items, c.start-progress.ensures) (read_none c.args.text.now c.if-text-gt-LONGEST_TEXT.false)

pub loop-rest-preserved : goal.loop-rest-preserved
loop-rest-preserved c =
    rw (c.in-Ok-push_act.ensures.ok, c.in-Ok.ensures.act, c.after-progress.ensures)
    (read_more c.args.text.now c.loop-rest.acts.items c.loop-rest.progress
    c.loop-rest.number c.loop-rest.rest.now c.first_line.result.0.now c.first_line.result.1.now c.in-Ok.taken.0
    c.loop-rest.invariant c.first_line.ensures.lines c.first_line.ensures.shorter c.in-Ok.ensures.said)

pub returns-clause-playable : goal.returns-clause-playable
returns-clause-playable c =
    playable c.args.text.now c.loop-rest.progress.shape c.loop-rest.acts.items
    (script_at c.args.text.now c.loop-rest.acts.items c.loop-rest.progress c.loop-rest.number c.loop-rest.rest.now c.loop-rest.invariant
    (grind (arith, nat_tests)) (c.if-not-has_ended.ensures.0 refl))
