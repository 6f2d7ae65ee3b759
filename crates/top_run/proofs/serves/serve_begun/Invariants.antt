use Rattle.std.proofs.Common.{length}
use Rattle.top_run.specs.Serves.{serve_shape, serve_rolls}
use Rattle.top_run.specs.Works.{hub_terms}
use Rattle.top_run.specs.Warming.{before_of}
use Rattle.top_run.proofs.serves.serve_begun.Given as goal

-- what the shards are made with, the store as it is handed in, and the steps by which rows were loaded
abbrev pub ghosts-serve_store-H-HubName : goal.ghosts-serve_store-H-HubName
ghosts-serve_store-H-HubName g a = record {
  terms = hub_terms (serve_shape a.server.now.spec.now) serve_rolls;
  opening = a.store.ledger.opening;
  cap = a.store.ledger.cap;
  known_rows = a.store.known_rows;
  start = g.N.Start.count;
}

abbrev pub ghosts-serve_store-H-Ledger : goal.ghosts-serve_store-H-Ledger
ghosts-serve_store-H-Ledger g a = record { name = a.ready.parts.hub.ledger.name; parts = a.ready.parts.hub.ledger.parts }

abbrev pub ghosts-serve_store-H-BoundName : goal.ghosts-serve_store-H-BoundName
ghosts-serve_store-H-BoundName g a = record {
  word = a.ready.parts.hub.word.0;
  before = before_of a.ready.parts.hub.shards.items;
  begun = length a.store.ledger.sessions;
  failed = a.store.ledger.failed;
}
