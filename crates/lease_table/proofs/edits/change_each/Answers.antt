use Rattle.std.proofs.Common.{◌<◌, List, length, add-one, subst}
use Rattle.lease_table.specs.declared.records.Quar.{Quar}
use Rattle.lease_table.specs.Standing.{changed}
use Rattle.lease_table.proofs.ListLemmas.{set-map_next}
use Rattle.lease_table.proofs.edits.change_each.Goals as goal

pub loop-quar-preserved : goal.loop-quar-preserved
loop-quar-preserved c =
    let within =
    subst (λ (quars : List Quar). c.loop-quar.quar-index < length quars) c.deref_mut-quar-items.ensures.value c.loop-quar-test.true in
    rw (add-one, c.made.ensures, c.loop-quar.invariant) (set-map_next (changed c.args.change c.args.token) c.args.quars.now.items c.loop-quar.quar-index _ within)
