use Rattle.test_connections.proofs.test_desk.TestDeskDesk.call.Goals as goal

pub returns-in-Ask-clause-belongs : goal.returns-in-Ask-clause-belongs
returns-in-Ask-clause-belongs c = rw c.in-Ask.is (c.ask.ensures c.args.who)

pub returns-in-Staged-clause-belongs : goal.returns-in-Staged-clause-belongs
returns-in-Staged-clause-belongs c = rw c.in-Staged.is (c.staged.ensures c.args.who)

pub returns-in-Set-clause-belongs : goal.returns-in-Set-clause-belongs
returns-in-Set-clause-belongs c = rw c.in-Set.is (c.set.ensures c.args.who)

pub returns-in-Commit-clause-belongs : goal.returns-in-Commit-clause-belongs
returns-in-Commit-clause-belongs c = rw c.in-Commit.is (c.commit.ensures c.args.who)

pub returns-in-Sar-clause-belongs : goal.returns-in-Sar-clause-belongs
returns-in-Sar-clause-belongs c = rw c.in-Sar.is (c.replace.ensures c.args.who)
