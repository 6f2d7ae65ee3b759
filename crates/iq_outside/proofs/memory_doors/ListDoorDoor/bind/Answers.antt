use Rattle.std.proofs.Common.{ap}
use Rattle.iq_outside.proofs.memory_doors.ListDoorDoor.bind.Goals as goal

pub returns-in_err-count_call-clause-stays_fresh : goal.returns-in_err-count_call-clause-stays_fresh
returns-in_err-count_call-clause-stays_fresh c h = rw (ap (λ door. door.waiting) c.count_call.ensures.rest) h

pub returns-clause-stays_fresh : goal.returns-clause-stays_fresh
returns-clause-stays_fresh c h =
    rw (ap (λ door. door.waiting) c.self.view_is) (rw (ap (λ door. door.waiting) c.count_call.ensures.rest) h)
