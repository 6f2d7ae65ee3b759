use Rattle.std.proofs.Common.{◌≡◌, sym, ap, ◌∙◌, ◌++◌, [], List, length, reverse, append-nil, arith}
use Rattle.std.specs.List.{filter_map}
use Rattle.rows_model.specs.declared.keys.QKey.{QKey}
use Rattle.entry_table.specs.Entries.{Item, keys}
use Rattle.entry_table.proofs.EntriesLemmas.{length-keys}
use Rattle.key_shard.specs.Past.{order}
use Rattle.key_shard.specs.Shards.{past_of}
use Rattle.shard_dump.proofs.DumpLemmas.{row_by, rows_are, none_left}
use Rattle.shard_dump.proofs.dumps.rows_to_dump.Goals as goal

pub returns-clause-rows : goal.returns-clause-rows
returns-clause-rows c = λ log tells.
    let none : c.loop-key.entries.items ≡ [] = none_left c.loop-key.entries.items (omega (arith, c.in_default.ensures.cases.0)) in
    sym (append-nil c.loop-key.rows.items)
    ∙ ap (λ (left : List Item). c.loop-key.rows.items ++ filter_map (row_by log) (reverse left)) (sym none)
    ∙ c.loop-key.invariant.rows log tells
    ∙ rows_are log (past_of c.args.shard.now) c.in_ok-entries.entries.items c.in_ok-entries.ensures.entries c.in_ok-entries.ensures.order

pub returns-clause-few : goal.returns-clause-few
returns-clause-few c =
    let few = c.loop-key.invariant.few in
    let counted = length-keys c.in_ok-entries.entries.items in
    let same : length (keys c.in_ok-entries.entries.items) ≡ length (order (past_of c.args.shard.now)) =
    ap (λ (ks : List QKey). length ks) c.in_ok-entries.ensures.order in
    omega (arith, few, counted, same)
