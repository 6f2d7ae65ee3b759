use Rattle.std.proofs.Common.{length}
use Rattle.core_history.proofs.cores.let_go.Given as goal

abbrev pub decreases-loop-session : goal.decreases-loop-session
decreases-loop-session l = length l.sessions.items
