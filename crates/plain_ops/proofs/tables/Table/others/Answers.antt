use Rattle.std.proofs.Common.{arith, sym}
use Rattle.plain_ops.proofs.EntryLemmas.{taken, none_out}
use Rattle.plain_ops.proofs.tables.Table.others.Goals as goal

pub overflow_sub-result-in-Some : goal.overflow_sub-result-in-Some
overflow_sub-result-in-Some c =
    let t = taken c.args.key.now c.in-Some.item.now c.self.inside.items.entries c.self.inside.bytes c.in-Some.ensures.value c.self.invariant in
    rw (c.bytes.ensures.same, c.bytes-in-Some.ensures) t.enough

pub returns-in-Some : goal.returns-in-Some
returns-in-Some c =
    let t = taken c.args.key.now c.in-Some.item.now c.self.inside.items.entries c.self.inside.bytes c.in-Some.ensures.value c.self.invariant in
    rw (← c.self.view_is, c.bytes.ensures.same, c.bytes-in-Some.ensures)
    (record { count = omega (arith, c.len.ensures.len, t.count); bytes = t.left.sum; small = t.left })

pub returns-in-None : goal.returns-in-None
returns-in-None c =
    rw (← c.self.view_is, none_out c.args.key.now c.self.inside.items.entries (sym c.in-None.ensures.value))
    (record { count = c.len-in-None.ensures.len; bytes = c.self.invariant.sum; small = c.self.invariant })
