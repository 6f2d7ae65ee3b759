use Rattle.std.proofs.Common.{rules, arith, sym}
use Rattle.std.specs.Prelude.{nat_le}
use Rattle.std.proofs.lemmas.List.Sorted.{IsPartitionPoint-from_clause, IsPartitionedBy-leb}
use Rattle.run_audit.specs.declared.answers.Version.{Version}
use Rattle.run_audit.proofs.VersionLemmas.{IsPoint, value_at-point_none, value_at-point_some}
use Rattle.run_audit.proofs.answers.value_after.Goals as goal

pub returns-then-place-eq0 : goal.returns-then-place-eq0
returns-then-place-eq0 c = λ turn.
    let count = c.args.count in
    let point : IsPoint count c.args.versions.now c.partition_point-place.result =
    IsPartitionPoint-from_clause (λ (one : Version). nat_le one.from count) _ _ c.partition_point-place.ensures.partitioned
    (IsPartitionedBy-leb (λ (one : Version). one.from) c.args.versions.now count turn) (λ a r q k. search rules) in
    sym (value_at-point_none count c.args.versions.now (rw c.if-place-eq0.true at point))

pub returns : goal.returns
returns c = λ turn.
    let count = c.args.count in
    let point : IsPoint count c.args.versions.now c.partition_point-place.result =
    IsPartitionPoint-from_clause (λ (one : Version). nat_le one.from count) _ _ c.partition_point-place.ensures.partitioned
    (IsPartitionedBy-leb (λ (one : Version). one.from) c.args.versions.now count turn) (λ a r q k. search rules) in
    sym (value_at-point_some count c.partition_point-place.result c.args.versions.now c.index-versions-place.result (omega arith) (omega arith) point)
