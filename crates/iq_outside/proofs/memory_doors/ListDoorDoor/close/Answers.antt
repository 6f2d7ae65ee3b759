use Rattle.std.proofs.Common.{ap}
use Rattle.iq_outside.proofs.memory_doors.ListDoorDoor.close.Goals as goal

pub returns-then-len-self-clause-stays_fresh : goal.returns-then-len-self-clause-stays_fresh
returns-then-len-self-clause-stays_fresh c h = rw (ap (λ door. door.waiting) c.self.view_is) h

pub returns-else-len-self-clause-stays_fresh : goal.returns-else-len-self-clause-stays_fresh
returns-else-len-self-clause-stays_fresh c h = rw (ap (λ door. door.waiting) c.self.view_is) h
