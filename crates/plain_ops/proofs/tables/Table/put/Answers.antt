use Rattle.std.proofs.Common.{arith}
use Rattle.plain_ops.specs.Entries.{item_of}
use Rattle.plain_ops.proofs.EntryLemmas.{taken, put_over, table_over, put_same, table_same, of_err}
use Rattle.plain_ops.proofs.tables.Table.put.Goals as goal

pub overflow_sub-rest : goal.overflow_sub-rest
overflow_sub-rest c =
    let t = taken c.args.key.now c.in-Some.item.now c.self.inside.items.entries c.self.inside.bytes c.in-Some.ensures.value c.self.invariant in
    rw c.bytes-own.ensures (omega (arith, t.enough))

pub invariant_of-self-in_err-put : goal.invariant_of-self-in_err-put
invariant_of-self-in_err-put c =
    table_same c.self.inside.items.entries _ c.self.inside.bytes
    (put_same c.args.key.now c.in-Some.item.now c.put.new.self c.self.inside.items.entries _ c.in-Some.ensures.value c.in_err-put.ensures.err
    (c.get_mut.follows.holds c.put.new.self).0) c.self.invariant

pub returns-in_err-put-clause-err : goal.returns-in_err-put-clause-err
returns-in_err-put-clause-err c =
    rw (← c.self.view_is)
    (of_err c.from_residual.result _
    (put_same c.args.key.now c.in-Some.item.now c.put.new.self c.self.inside.items.entries _ c.in-Some.ensures.value c.in_err-put.ensures.err
    (c.get_mut.follows.holds c.put.new.self).0))

pub invariant_of-self-2 : goal.invariant_of-self-2
invariant_of-self-2 c =
    let item = item_of c.args.flags c.args.value.now c.args.unique in
    rw (c.bytes-own.ensures, c.bytes.ensures)
    (table_over c.args.key.now c.in-Some.item.now item c.self.inside.items.entries _ c.self.inside.bytes c.in-Some.ensures.value c.self.invariant
    (rw c.self.view_is c.requires)
    (put_over c.args.key.now c.in-Some.item.now c.put.new.self item c.self.inside.items.entries _ c.in-Some.ensures.value c.in_ok-put.ensures.ok
    (c.get_mut.follows.holds c.put.new.self).0))

pub returns-clause-ok : goal.returns-clause-ok
returns-clause-ok c =
    let item = item_of c.args.flags c.args.value.now c.args.unique in
    rw (← c.self.view_is)
    (put_over c.args.key.now c.in-Some.item.now c.put.new.self item c.self.inside.items.entries _ c.in-Some.ensures.value c.in_ok-put.ensures.ok
    (c.get_mut.follows.holds c.put.new.self).0)
