use Rattle.std.proofs.Common.{arith}
use Rattle.run_audit.proofs.FloorLemmas.{floor-raised, floor-stays}
use Rattle.run_audit.proofs.floors.raise_floor.Goals as goal

pub returns-in_ok-insert : goal.returns-in_ok-insert
returns-in_ok-insert c =
    let above = c.floor_at.ensures in
    rw c.in-Released.is (floor-raised c.args.floors.now c.insert.new.self c.args.numbers.now c.in-Released.key c.in-Released.sid
    c.in-Released.token c.in-Released.how c.number_at-number.result c.in_ok-insert.ensures.updates.0 c.number_at-number.ensures (omega (arith, above)))

pub returns-else-floor_at-number : goal.returns-else-floor_at-number
returns-else-floor_at-number c =
    let below = c.floor_at.ensures in
    let number = c.number_at-number.ensures in
    rw c.in-Released.is
    (floor-stays c.args.floors.now c.args.numbers.now c.in-Released.key c.in-Released.sid c.in-Released.token c.in-Released.how (omega (arith, below, number)))
