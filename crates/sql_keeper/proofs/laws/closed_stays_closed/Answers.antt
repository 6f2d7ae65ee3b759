use Rattle.sql_keeper.proofs.MoveLemmas.{closed-stays-closed}
use Rattle.sql_keeper.proofs.laws.closed_stays_closed.Goals as goal

pub returns : goal.returns
returns c = closed-stays-closed
