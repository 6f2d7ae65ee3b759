use Rattle.lease_table.specs.Standing.{stands_in}
use Rattle.lease_table.proofs.IndexLemmas.{ListsEach-keeps}
use Rattle.lease_table.proofs.index.Index.make_room.Goals as goal

pub returns-clause-lists : goal.returns-clause-lists
returns-clause-lists c =
    ListsEach-keeps (stands_in c.args.leases.now) c.forget_ended.new.self c.grow.new.self c.grow.ensures.keeps c.forget_ended.ensures.lists
