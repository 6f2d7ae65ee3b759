use Rattle.lease_table.specs.Standing.{stands_in}
use Rattle.lease_table.proofs.IndexLemmas.{ListsEach-keeps}
use Rattle.lease_table.proofs.index.Index.list.Goals as goal

pub returns-clause-lists : goal.returns-clause-lists
returns-clause-lists c =
    ListsEach-keeps (stands_in c.args.leases.now) c.make_room.new.self c.put.new.self c.put.ensures.keeps c.make_room.ensures.lists
