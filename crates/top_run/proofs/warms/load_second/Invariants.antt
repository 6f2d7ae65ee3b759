use Rattle.std.proofs.Common.{false, None, length}
use Rattle.top_run.specs.Works.{work_shape, hub_terms}
use Rattle.top_run.specs.Warming.{before_of}
use Rattle.top_run.proofs.warms.load_second.Given as goal

-- what the shards are made with, the store as it was made anew, and the steps by which the dumps were loaded
abbrev pub ghosts-run_second-H-HubName : goal.ghosts-run_second-H-HubName
ghosts-run_second-H-HubName g a = record {
  terms = hub_terms (work_shape a.warming.now.spec.now) false;
  opening = a.half.store.ledger.opening;
  cap = a.half.store.ledger.cap;
  known_rows = a.half.store.known_rows;
  start = g.N.Start.count;
}

abbrev pub ghosts-run_second-H-Ledger : goal.ghosts-run_second-H-Ledger
ghosts-run_second-H-Ledger g a = record { name = a.ready.parts.hub.ledger.name; parts = a.ready.parts.hub.ledger.parts }

abbrev pub ghosts-run_second-H-BoundName : goal.ghosts-run_second-H-BoundName
ghosts-run_second-H-BoundName g a = record {
  word = a.ready.parts.hub.word.0;
  before = before_of a.ready.parts.hub.shards.items;
  begun = length a.half.store.ledger.sessions;
  failed = a.half.store.ledger.failed;
}
