use Rattle.plain_ops.specs.Entries.{item_of}
use Rattle.plain_ops.proofs.EntryLemmas.{put_in, added_in}
use Rattle.plain_ops.proofs.tables.Table.add.Goals as goal

pub invariant_of-self-2 : goal.invariant_of-self-2
invariant_of-self-2 c =
    rw (c.bytes.ensures.same, c.bytes-2.ensures)
    (added_in c.args.key.now (item_of c.args.flags c.args.value.now c.args.unique) c.self.inside.items.entries c.insert.new.self.entries
    c.self.inside.bytes c.in_ok-insert.field-0 (rw c.in_ok-copy.ensures at c.in_ok-insert.ensures.old)
    (rw (c.in_ok-copy.ensures, c.in_ok-of.ensures) at c.in_ok-insert.ensures.entries)
    (rw c.self.view_is c.requires.none) c.self.invariant (rw c.self.view_is c.requires.fit))

pub returns-clause-ok : goal.returns-clause-ok
returns-clause-ok c =
    rw (← c.self.view_is)
    (put_in c.args.key.now (item_of c.args.flags c.args.value.now c.args.unique) c.self.inside.items.entries c.insert.new.self.entries
    c.in_ok-insert.field-0 (rw c.in_ok-copy.ensures at c.in_ok-insert.ensures.old)
    (rw (c.in_ok-copy.ensures, c.in_ok-of.ensures) at c.in_ok-insert.ensures.entries))
