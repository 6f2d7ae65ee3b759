use Rattle.std.proofs.Common.{Some}
use Rattle.top_run.proofs.serves.serve.Given as goal

-- the keeper's count of faults as the store is handed in
abbrev pub ghosts-serve_begun : goal.ghosts-serve_begun
ghosts-serve_begun g a = record { count = Some a.store.faults }
