use Rattle.std.proofs.Common.{[], false, Some}
use Rattle.shard_lock.specs.Names.{terms_at}
use Rattle.test_hubs.proofs.runs.run_plans.Given as goal

-- what the shards are made with, and the store as it is handed in
abbrev pub ghosts-run_on-H-HubName : goal.ghosts-run_on-H-HubName
ghosts-run_on-H-HubName g a = record {
  terms = terms_at a.shape.now.shards a.shape.now.room a.shape.now.life false;
  opening = a.store.ledger.opening;
  cap = a.store.ledger.cap;
  known_rows = a.store.known_rows;
  start = Some a.store.faults;
}

abbrev pub ghosts-run_on-H-Ledger : goal.ghosts-run_on-H-Ledger
ghosts-run_on-H-Ledger g a = record { name = a.made.ledger.name; parts = a.made.ledger.parts }

abbrev pub ghosts-run_on-H-BoundName : goal.ghosts-run_on-H-BoundName
ghosts-run_on-H-BoundName g a = record { word = a.made.word.0; before = λ no. []; begun = 0; failed = 0 }
