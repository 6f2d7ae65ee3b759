use Rattle.run_words.proofs.WordLemmas.{warm_found, warm_none}
use Rattle.run_words.proofs.reading.warm_of.Goals as goal

pub returns-clause-found : goal.returns-clause-found
returns-clause-found c = warm_found _ c.work_of.result c.work_of.ensures.found

pub returns-clause-none : goal.returns-clause-none
returns-clause-none c = warm_none _ c.work_of.result c.work_of.ensures.none
