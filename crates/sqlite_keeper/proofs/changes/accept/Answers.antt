use Rattle.sqlite_tables.specs.Lists.{without_pair}
use Rattle.sqlite_keeper.proofs.LeavesLemmas.{clean_before, leaves_then}
use Rattle.sqlite_keeper.proofs.changes.accept.Goals as goal

pub returns-clause-made : goal.returns-clause-made
returns-clause-made g c clean lists are free =
    let early = clean_before g.S.Store c.take_link.new.tx.conn.now c.put_link.new.tx.conn.now c.put_link.ensures.leaves clean in
    let here = c.in_ok-take_link.ensures.taken early lists are in
    let put = rw (c.paired.ensures, c.min.ensures, c.max.ensures) at (c.put_link.ensures.put clean (without_pair c.args.a c.args.b lists) here) in
    put free

pub returns-clause-leaves : goal.returns-clause-leaves
returns-clause-leaves g c =
    leaves_then g.S.Store c.args.tx.now.conn.now c.take_link.new.tx.conn.now c.put_link.new.tx.conn.now c.take_link.ensures.leaves
    (λ clean lists are. (without_pair c.args.a c.args.b lists, c.in_ok-take_link.ensures.taken clean lists are)) c.put_link.ensures.leaves
