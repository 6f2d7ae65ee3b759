use Rattle.std.proofs.Common.{length}
use Rattle.session_client.proofs.grant_lists.Grants.let_go.Given as goal

abbrev pub decreases-loop-grant : goal.decreases-loop-grant
decreases-loop-grant l = length l.items.items
