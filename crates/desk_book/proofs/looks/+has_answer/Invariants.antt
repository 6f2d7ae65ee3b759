use Rattle.std.proofs.Common.{length}
use Rattle.desk_book.proofs.looks.+has_answer.Given as goal

abbrev pub decreases-has_answer : goal.decreases-has_answer
decreases-has_answer l = length l.answers.now
