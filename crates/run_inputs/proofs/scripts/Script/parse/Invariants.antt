use Rattle.std.proofs.Common.{length}
use Rattle.run_inputs.proofs.ScriptLemmas.{HasRead}
use Rattle.run_inputs.proofs.scripts.Script.parse.Given as goal

abbrev pub invariant-loop-rest : goal.invariant-loop-rest
invariant-loop-rest l = HasRead l.text l.acts.items l.progress l.number l.rest

abbrev pub decreases-loop-rest : goal.decreases-loop-rest
decreases-loop-rest l = length l.rest
