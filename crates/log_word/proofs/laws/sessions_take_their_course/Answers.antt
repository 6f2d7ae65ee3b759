use Rattle.log_word.proofs.LawLemmas.{begin_once, close_once}
use Rattle.log_word.proofs.laws.sessions_take_their_course.Goals as goal

pub returns-clause-begin : goal.returns-clause-begin
returns-clause-begin c = begin_once

pub returns-clause-close : goal.returns-clause-close
returns-clause-close c = close_once
