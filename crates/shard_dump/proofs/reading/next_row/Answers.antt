use Rattle.std.proofs.Common.{◌≡◌, ap, sym, ◌∙◌, true}
use Rattle.shard_dump.specs.declared.rows.DumpRow.{DumpRow}
use Rattle.shard_dump.specs.Listed.{has_row}
use Rattle.shard_dump.proofs.TextLemmas.{row_once}
use Rattle.shard_dump.proofs.ReadLemmas.{not_next}
use Rattle.shard_dump.proofs.reading.next_row.Goals as goal

pub returns-then-has-clause-none : goal.returns-then-has-clause-none
returns-then-has-clause-none c row rest next e =
    let same = row_once c.args.head row (record { key = c.in_ok-key.key; value = c.in_ok-key.value.now }) rest c.in_ok-key.rest.now next.right
    c.in_ok-key.ensures.right (sym e ∙ c.in_ok-key.ensures.found) in
    not_next c.args.head c.args.rows.now row (ap (λ (r : DumpRow). has_row r.key c.args.rows.now) same.0 ∙ (sym c.has.ensures ∙ c.if-has.true)) next
