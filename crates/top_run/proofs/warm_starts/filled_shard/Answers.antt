use Rattle.std.proofs.Common.{◌≡◌, All, List, arith, subst, sym}
use Rattle.rows_model.specs.Query.{answer}
use Rattle.shard_dump.specs.declared.rows.DumpRow.{DumpRow}
use Rattle.top_run.proofs.warm_starts.filled_shard.Goals as goal

pub returns-in-Ok-false-clause-stopped : goal.returns-in-Ok-false-clause-stopped
returns-in-Ok-false-clause-stopped g c = λ some right.
    let all : All (λ (row : DumpRow). row.value ≡ answer row.key c.are_answers.new.store.ledger.opening) c.args.dump.rows =
    right 0 c.args.dump (omega arith) in
    let wrong = c.in-Ok-false.ensures.differ (cc) some in
    wrong (subst (λ (rows : List DumpRow). All (λ (row : DumpRow). row.value ≡ answer row.key c.are_answers.new.store.ledger.opening) rows)
    (sym c.as_slice-2.ensures) all)

pub returns-in-Err-Failed-clause-stopped : goal.returns-in-Err-Failed-clause-stopped
returns-in-Err-Failed-clause-stopped g c = c.in-Err-Failed.ensures.counted cc
