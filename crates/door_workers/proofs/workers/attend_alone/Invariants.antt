use Rattle.std.proofs.Common.{ℕ, ◌≡◌, List, Option}
use Rattle.iq_outside.specs.Outside.{LineRecord}
use Rattle.door_workers.specs.Attending.{HaveComeWith, seen_at}
use Rattle.door_workers.specs.DoorSeen.{DoorSeen}
use Rattle.door_workers.specs.Ends.{AreServed}
use Rattle.door_workers.proofs.workers.attend_alone.Given as goal

-- it is the same door, and whatever stood at it when the caller began to work alone stands still
abbrev pub invariant-loop : goal.invariant-loop
invariant-loop g l =
    (l.at.lent.door.ghost_name ≡ l.initial.at.lent.door.ghost_name)
    × ((first : DoorSeen) (most : Option ℕ)
    → HaveComeWith first most (seen_at g.D.Door.bound g.D.Door.lines g.D.Door.faults g.D.Door.ended g.D.Door.closed l.initial.at.lent.door.now) l.initial.at.so_far 0
    → HaveComeWith first most (seen_at g.D.Door.bound g.D.Door.lines g.D.Door.faults g.D.Door.ended g.D.Door.closed l.at.lent.door.now) l.at.so_far 0)
    × (g.D.Door.fresh l.initial.at.lent.door.now → g.D.Door.fresh l.at.lent.door.now)
    × (g.D.Door.fresh l.initial.at.lent.door.now → (before : Option (List LineRecord))
    → AreServed l.initial.at.so_far.most l.initial.at.so_far.ends.items before (g.D.Door.closed l.initial.at.lent.door.now)
    → AreServed l.initial.at.so_far.most l.at.so_far.ends.items before (g.D.Door.closed l.at.lent.door.now))
    × (l.at.so_far.most ≡ l.initial.at.so_far.most)
