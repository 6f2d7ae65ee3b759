use Rattle.lease_table.proofs.EmptiedLemmas.{PutsOn-same}
use Rattle.lease_table.proofs.edits.drop_quar.Goals as goal

pub returns : goal.returns
returns c =
    PutsOn-same c.args.key.now _ _ c.args.leases.now c.end_quar.new.leases c.free_emptied.new.leases c.end_quar.ensures c.free_emptied.ensures.same c.free_emptied.ensures.ordered

pub free_emptied-requires : goal.free_emptied-requires
free_emptied-requires c = c.end_quar.ensures.in_order
