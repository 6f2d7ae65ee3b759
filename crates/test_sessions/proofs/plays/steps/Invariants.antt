use Rattle.session_client.specs.Follows.{IsReady}
use Rattle.test_sessions.proofs.plays.steps.Given as goal

-- the session has been told all that it asked for
abbrev pub invariant-loop-row : goal.invariant-loop-row
invariant-loop-row g l = IsReady l.session
