use Rattle.callers.proofs.StoreLemmas.{never-opens-again}
use Rattle.callers.proofs.stores.closed_sessions_never_commit.Goals as goal

pub returns : goal.returns
returns c = never-opens-again c.closed_stays_closed.ensures
