use Rattle.std.specs.Prelude.{is_none}
use Rattle.bound_hub.proofs.bound_stores.hear.Given as goal

abbrev pub ghosts-watch : goal.ghosts-watch
ghosts-watch g a = record { stopped = is_none a.store.now.known_rows }
