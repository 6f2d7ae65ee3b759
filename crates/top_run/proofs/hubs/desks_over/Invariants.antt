use Rattle.std.proofs.Common.{◌≡◌, ◌≤◌, length, vec_capacity}
use Rattle.top_run.specs.Ready.{AreNewDesks}
use Rattle.top_run.proofs.hubs.desks_over.Given as goal

abbrev pub invariant-loop-worker : goal.invariant-loop-worker
invariant-loop-worker g l = record {
  many : length l.desks.items ≡ l.worker;
  new : AreNewDesks 0 l.desks.items;
  room : l.workers ≤ vec_capacity l.desks;
  word : l.caller.word ≡ g.H.BoundName.word;
}
