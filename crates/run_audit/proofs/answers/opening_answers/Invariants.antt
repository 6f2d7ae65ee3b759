use Rattle.std.proofs.Common.{All, take}
use Rattle.run_audit.specs.Findings.{histories_in}
use Rattle.run_audit.specs.Answers.{AreOpening, Knows}
use Rattle.run_audit.proofs.answers.opening_answers.Given as goal

abbrev pub invariant-loop-shard : goal.invariant-loop-shard
invariant-loop-shard l =
    AreOpening l.opening l.answers × All (λ history. All (λ step. Knows l.answers step) history) (histories_in (take l.shard-index l.shards))
