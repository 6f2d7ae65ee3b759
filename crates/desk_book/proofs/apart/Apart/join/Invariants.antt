use Rattle.std.proofs.Common.{length}
use Rattle.desk_book.proofs.ApartLemmas.{IsJoined}
use Rattle.desk_book.proofs.apart.Apart.join.Given as goal

abbrev pub invariant-loop-place : goal.invariant-loop-place
invariant-loop-place l = IsJoined l.fn.self l.fn.grants l.others.items l.grants

abbrev pub decreases-loop-place : goal.decreases-loop-place
decreases-loop-place l = length l.others.items
