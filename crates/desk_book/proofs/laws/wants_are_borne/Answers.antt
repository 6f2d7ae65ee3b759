use Rattle.desk_book.proofs.LawLemmas.{wants_are_borne}
use Rattle.desk_book.proofs.laws.wants_are_borne.Goals as goal

pub returns : goal.returns
returns c = wants_are_borne
