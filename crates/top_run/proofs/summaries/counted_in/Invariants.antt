use Rattle.std.proofs.Common.{◌≡◌, ◌≤◌, ◌*◌, ◌-◌, ◌^◌, take}
use Rattle.core_history.specs.Lines.{count_in}
use Rattle.run_audit.specs.Findings.{histories_in}
use Rattle.top_run.specs.Works.{test_of}
use Rattle.top_run.proofs.summaries.counted_in.Given as goal

abbrev pub invariant-loop-shard : goal.invariant-loop-shard
invariant-loop-shard l =
    (l.count ≡ count_in (test_of l.counted) (histories_in (take l.shard-index l.shards)))
    × (l.count ≤ l.shard-index * (2 ^ 64 - 1))
