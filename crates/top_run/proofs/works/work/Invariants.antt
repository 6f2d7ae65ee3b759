use Rattle.std.proofs.Common.{false, [], Some, None}
use Rattle.core_history.specs.Machine.{log_cap}
use Rattle.top_run.specs.Works.{work_shape, hub_terms}
use Rattle.top_run.proofs.works.work.Given as goal

-- what the shards are made with, and the store as it is handed in
abbrev pub ghosts-work_on-H-HubName : goal.ghosts-work_on-H-HubName
ghosts-work_on-H-HubName g a = record {
  terms = hub_terms (work_shape a.spec.now) false;
  opening = a.store.ledger.opening;
  cap = log_cap;
  known_rows = a.store.known_rows;
  start = Some a.store.faults;
}

abbrev pub ghosts-work_on-H-Ledger : goal.ghosts-work_on-H-Ledger
ghosts-work_on-H-Ledger g a = record { name = a.ready.parts.hub.ledger.name; parts = a.ready.parts.hub.ledger.parts }

abbrev pub ghosts-work_on-H-BoundName : goal.ghosts-work_on-H-BoundName
ghosts-work_on-H-BoundName g a = record { word = a.ready.parts.hub.word.0; before = λ no. []; begun = 0; failed = 0 }
