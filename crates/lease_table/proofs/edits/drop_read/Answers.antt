use Rattle.lease_table.proofs.EmptiedLemmas.{PutsOn-same}
use Rattle.lease_table.proofs.edits.drop_read.Goals as goal

pub returns : goal.returns
returns c =
    PutsOn-same c.args.key.now _ _ c.args.leases.now c.take_out.new.leases c.free_emptied.new.leases c.take_out.ensures c.free_emptied.ensures.same c.free_emptied.ensures.ordered

pub free_emptied-requires : goal.free_emptied-requires
free_emptied-requires c = c.take_out.ensures.in_order
