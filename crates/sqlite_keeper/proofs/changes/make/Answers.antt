use Rattle.sqlite_keeper.proofs.changes.make.Goals as goal

pub returns-in-Invite-clause-made : goal.returns-in-Invite-clause-made
returns-in-Invite-clause-made g c clean lists are free =
    let put = rw c.paired.ensures at (c.put_link.ensures.put clean lists are) in
    rw c.in-Invite.is (put (rw c.in-Invite.is at free))

pub returns-in-Accept-clause-made : goal.returns-in-Accept-clause-made
returns-in-Accept-clause-made g c clean lists are free =
    rw c.in-Accept.is (c.accept.ensures.made clean lists are (rw c.in-Accept.is at free))

pub returns-in-Block-clause-made : goal.returns-in-Block-clause-made
returns-in-Block-clause-made g c clean lists are free =
    let put = rw c.paired-in-Block.ensures at (c.put_link-in-Block.ensures.put clean lists are) in
    rw c.in-Block.is (put (rw c.in-Block.is at free))
