use Rattle.plain_ops.proofs.EntryLemmas.{taken, table_moved}
use Rattle.plain_ops.proofs.tables.Table.take_out.Goals as goal

pub overflow_sub-self : goal.overflow_sub-self
overflow_sub-self c =
    let t = taken c.args.key.now c.in-Some.item c.self.inside.items.entries c.self.inside.bytes c.in-Some.ensures.value c.self.invariant in
    rw (c.bytes.ensures.same, c.bytes-in-Some.ensures) t.enough

pub invariant_of-self : goal.invariant_of-self
invariant_of-self c =
    let t = taken c.args.key.now c.in-Some.item c.self.inside.items.entries c.self.inside.bytes c.in-Some.ensures.value c.self.invariant in
    rw (c.bytes.ensures.same, c.bytes-in-Some.ensures) (table_moved _ c.remove.new.self.entries _ c.in-Some.ensures.entries t.left)

pub invariant_of-self-in-Some-2 : goal.invariant_of-self-in-Some-2
invariant_of-self-in-Some-2 c =
    let t = taken c.args.key.now c.in-Some.item c.self.inside.items.entries c.self.inside.bytes c.in-Some.ensures.value c.self.invariant in
    rw (c.bytes.ensures.same, c.bytes-in-Some.ensures) (table_moved _ c.remove.new.self.entries _ c.in-Some.ensures.entries t.left)

pub invariant_of-self-in-Some-3 : goal.invariant_of-self-in-Some-3
invariant_of-self-in-Some-3 c =
    let t = taken c.args.key.now c.in-Some.item c.self.inside.items.entries c.self.inside.bytes c.in-Some.ensures.value c.self.invariant in
    rw (c.bytes.ensures.same, c.bytes-in-Some.ensures) (table_moved _ c.remove.new.self.entries _ c.in-Some.ensures.entries t.left)
