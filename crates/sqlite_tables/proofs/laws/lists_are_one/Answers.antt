use Rattle.sqlite_tables.proofs.WholeLemmas.{lists_are_one}
use Rattle.sqlite_tables.proofs.laws.lists_are_one.Goals as goal

pub returns : goal.returns
returns c = lists_are_one
