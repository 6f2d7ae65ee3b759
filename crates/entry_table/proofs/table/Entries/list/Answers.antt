use Rattle.std.proofs.Common.{arith, append_assoc}
use Rattle.std.proofs.lemmas.List.{append-nil}
use Rattle.entry_table.proofs.KeptLemmas.{shown_all-nil, shown_all-cons}
use Rattle.entry_table.proofs.table.Entries.list.Goals as goal

pub loop-key-preserved : goal.loop-key-preserved
loop-key-preserved c =
    let next = rw (c.in-Some.ensures.steps, shown_all-cons) at c.loop-key.invariant in
    rw (c.in_ok-push.ensures.items, append_assoc, c.in_ok-copy-2.ensures) next

pub returns : goal.returns
returns c =
    let done = rw (c.in-None.ensures.steps.0, shown_all-nil) at c.loop-key.invariant in
    grind (arith, done, append-nil)
