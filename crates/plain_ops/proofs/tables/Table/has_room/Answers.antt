use Rattle.std.proofs.Common.{sym, ◌∙◌}
use Rattle.plain_ops.proofs.EntryLemmas.{ample}
use Rattle.plain_ops.proofs.tables.Table.has_room.Goals as goal

pub returns-then-fits : goal.returns-then-fits
returns-then-fits c item is =
    let room = rw (c.bytes.ensures.same, c.bytes-2.ensures, c.len.ensures.len) at (sym c.fits.ensures ∙ c.if-fits.true) in
    rw (← c.self.view_is) (sym (ample c.args.key.now item c.self.inside.items.entries c.self.inside.bytes c.self.invariant (rw is room)))
