use Rattle.rows_model.proofs.RefreshLawLemmas.{refreshed_is}
use Rattle.rows_model.proofs.refreshing.refresh_is_answer.Goals as goal

pub returns : goal.returns
returns c = refreshed_is
