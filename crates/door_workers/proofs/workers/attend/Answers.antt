use Rattle.std.proofs.Common.{ℕ, Option, sym, subst}
use Rattle.door_workers.specs.Ends.{AreServed}
use Rattle.door_workers.proofs.workers.attend.Goals as goal

pub returns-clause-stands : goal.returns-clause-stands
returns-clause-stands g c =
    c.attend_alone.ensures.stands g.N.DoorName.first g.N.DoorName.most c.into_attending-at.ensures.stands

pub returns-clause-handed_back : goal.returns-clause-handed_back
returns-clause-handed_back g c = λ fresh.
    let at = c.into_attending-at.result in
    let is = c.into_attending-at.ensures.stands.1.most_is in
    subst (λ (most : Option ℕ). AreServed most c.attend_alone.new.at.so_far.ends.items g.N.DoorName.closed (g.D.Door.closed c.attend_alone.new.at.lent.door.now)) is
    (c.attend_alone.ensures.handed_back (c.into_attending-at.ensures.stays_fresh fresh) g.N.DoorName.closed
    (subst (λ (most : Option ℕ). AreServed most at.so_far.ends.items g.N.DoorName.closed (g.D.Door.closed at.lent.door.now)) (sym is)
    (c.into_attending-at.ensures.handed_back fresh)))
