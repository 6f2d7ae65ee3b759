use Rattle.test_connections.proofs.test_desk.TestDesk.replace.Goals as goal

pub returns-in-Some : goal.returns-in-Some
returns-in-Some c = rw c.in-Some.is c.put.ensures
