use Rattle.std.proofs.Common.{◌≡◌, drop}
use Rattle.std.specs.List.{position_from}
use Rattle.run_audit.specs.Findings.{histories_in}
use Rattle.top_run.specs.Works.{has_spent, first_spent}
use Rattle.top_run.proofs.works.first_spent.Given as goal

-- the least that is spent is the least of those that are left
abbrev pub invariant-loop-place : goal.invariant-loop-place
invariant-loop-place l =
    first_spent (histories_in l.shards) ≡ position_from has_spent l.place (histories_in (drop l.place l.shards))
