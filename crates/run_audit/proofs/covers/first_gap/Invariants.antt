use Rattle.std.proofs.Common.{take}
use Rattle.run_audit.specs.Grants.{holds, AreCovered}
use Rattle.run_audit.proofs.covers.first_gap.Given as goal

abbrev pub invariant-loop-place : goal.invariant-loop-place
invariant-loop-place l = AreCovered (holds l.grants) (take l.place l.log)
