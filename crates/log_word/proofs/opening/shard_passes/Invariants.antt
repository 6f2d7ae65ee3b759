use Rattle.std.proofs.Common.{◌≡◌, ◌≤◌}
use Rattle.log_word.specs.Views.{made_view}
use Rattle.log_word.specs.Passes.{Becomes, blind_shard_passes}
use Rattle.log_word.proofs.opening.shard_passes.Given as goal

-- so many shards have their seats, and nothing is seen yet
abbrev pub invariant-loop-number : goal.invariant-loop-number
invariant-loop-number l = record {
  few : l.number ≤ l.shards;
  seat : Becomes (made_view l.word.shards l.number) l.fn.seat l.seat;
  passes : l.passes.items ≡ blind_shard_passes l.word l.number;
}
