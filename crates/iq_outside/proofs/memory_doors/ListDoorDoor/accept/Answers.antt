use Rattle.std.proofs.Common.{◌≡◌, ◌∙◌, ap, reverse}
use Rattle.std.specs.Prelude.{All, Some}
use Rattle.iq_outside.specs.MemoryForms.{IsUnused}
use Rattle.iq_outside.proofs.MemoryDoorLemmas.{All-next, All-after}
use Rattle.iq_outside.proofs.memory_doors.ListDoorDoor.accept.Goals as goal

pub returns-in_err-count_call-clause-stays_fresh : goal.returns-in_err-count_call-clause-stays_fresh
returns-in_err-count_call-clause-stays_fresh c h = rw (ap (λ door. door.waiting) c.count_call.ensures.rest) h

pub returns-in-Some-clause-unused : goal.returns-in-Some-clause-unused
returns-in-Some-clause-unused c h =
    let same : reverse c.self.inside.waiting.items ≡ c.args.self.now.waiting = ap (λ door. door.waiting) (c.self.view_is ∙ c.count_call.ensures.rest) in
    let each : All IsUnused (reverse c.self.inside.waiting.items) = rw same h in
    All-next IsUnused _ _ c.in-Some.line c.in-Some.ensures.items each

pub returns-in-Some-clause-stays_fresh : goal.returns-in-Some-clause-stays_fresh
returns-in-Some-clause-stays_fresh c h =
    let same : reverse c.self.inside.waiting.items ≡ c.args.self.now.waiting = ap (λ door. door.waiting) (c.self.view_is ∙ c.count_call.ensures.rest) in
    let each : All IsUnused (reverse c.self.inside.waiting.items) = rw same h in
    All-after IsUnused _ _ (Some c.in-Some.line) c.in-Some.ensures.items each
