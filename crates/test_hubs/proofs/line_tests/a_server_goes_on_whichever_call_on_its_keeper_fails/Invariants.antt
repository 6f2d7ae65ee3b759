use Rattle.std.proofs.Common.{[], false, Some}
use Rattle.shard_lock.specs.Names.{terms_at}
use Rattle.test_hubs.proofs.line_tests.a_server_goes_on_whichever_call_on_its_keeper_fails.Given as goal

-- what the shards are made with, and the store as it is handed in
abbrev pub ghosts-goes_well-H-HubName : goal.ghosts-goes_well-H-HubName
ghosts-goes_well-H-HubName g a = record {
  terms = terms_at a.shape.now.shards a.shape.now.room a.shape.now.life false;
  opening = a.store.ledger.opening;
  cap = a.store.ledger.cap;
  known_rows = a.store.known_rows;
  start = Some a.store.faults;
}

abbrev pub ghosts-goes_well-H-Ledger : goal.ghosts-goes_well-H-Ledger
ghosts-goes_well-H-Ledger g a = record { name = a.made.ledger.name; parts = a.made.ledger.parts }

abbrev pub ghosts-goes_well-H-BoundName : goal.ghosts-goes_well-H-BoundName
ghosts-goes_well-H-BoundName g a = record { word = a.made.word.0; before = λ no. []; begun = 0; failed = 0 }
