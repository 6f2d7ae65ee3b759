use Rattle.std.proofs.Common.{false, [], Some, None}
use Rattle.core_history.specs.Machine.{log_cap}
use Rattle.top_run.specs.Works.{work_shape, hub_terms}
use Rattle.top_run.proofs.warms.warm.Given as goal

-- what the shards are made with, and the store as it is handed in
abbrev pub ghosts-run_first-H-HubName : goal.ghosts-run_first-H-HubName
ghosts-run_first-H-HubName g a = record {
  terms = hub_terms (work_shape a.warming.now.spec.now) false;
  opening = a.store.ledger.opening;
  cap = log_cap;
  known_rows = a.store.known_rows;
  start = Some a.store.faults;
}

abbrev pub ghosts-run_first-H-Ledger : goal.ghosts-run_first-H-Ledger
ghosts-run_first-H-Ledger g a = record { name = a.ready.parts.hub.ledger.name; parts = a.ready.parts.hub.ledger.parts }

abbrev pub ghosts-run_first-H-BoundName : goal.ghosts-run_first-H-BoundName
ghosts-run_first-H-BoundName g a = record { word = a.ready.parts.hub.word.0; before = λ no. []; begun = 0; failed = 0 }
