use Rattle.std.proofs.Common.{ℕ, ◌≡◌, ap, ◌∙◌, ◌++◌, List}
use Rattle.shard_dump.proofs.WriteLemmas.{row_pushed}
use Rattle.shard_dump.proofs.texts.push_row.Goals as goal

pub returns : goal.returns
returns c =
    row_pushed c.args.row.now c.args.text.now.items c.extend_from_slice.new.self.items c.push.new.self.items c.push_number.new.text.items c.push_number-2.new.text.items
    c.extend_from_slice-2.new.self.items c.push-2.new.self.items c.bytes-value.result.now c.from.result c.bytes-value.ensures c.from.ensures
    (c.in_ok-extend_from_slice.ensures.items ∙ ap (λ (w : List ℕ). c.args.text.now.items ++ w) c.word.ensures)
    c.in_ok-push.ensures.items c.in_ok-push_number.ensures c.in_ok-push_number-2.ensures c.in_ok-extend_from_slice-2.ensures.items c.in_ok-push-2.ensures.items
