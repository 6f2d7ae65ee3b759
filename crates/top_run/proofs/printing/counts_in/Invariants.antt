use Rattle.std.proofs.Common.{◌≡◌, ◌≤◌, ◌*◌, ◌-◌, ◌^◌, take}
use Rattle.core_history.specs.Cores.{histories_in}
use Rattle.core_history.specs.Lines.{count_in, is_hit, is_stored, is_again}
use Rattle.top_run.proofs.printing.counts_in.Given as goal

abbrev pub invariant-loop-shard : goal.invariant-loop-shard
invariant-loop-shard g l =
    (l.counts.hits ≡ count_in is_hit (take l.shard (histories_in l.core)))
    × (l.counts.stores ≡ count_in is_stored (take l.shard (histories_in l.core)))
    × (l.counts.agains ≡ count_in is_again (take l.shard (histories_in l.core)))
    × (l.counts.hits ≤ l.shard * (2 ^ 64 - 1)) × (l.counts.stores ≤ l.shard * (2 ^ 64 - 1)) × (l.counts.agains ≤ l.shard * (2 ^ 64 - 1))
