use Rattle.rows_model.proofs.QueryLemmas.{answers_ascend_is}
use Rattle.rows_model.proofs.queries.answers_ascend.Goals as goal

pub returns : goal.returns
returns c = answers_ascend_is
