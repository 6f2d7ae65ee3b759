use Rattle.sqlite_tables.proofs.ChangeLemmas.{changes_are_made}
use Rattle.sqlite_tables.proofs.laws.changes_are_made.Goals as goal

pub returns : goal.returns
returns c = changes_are_made
