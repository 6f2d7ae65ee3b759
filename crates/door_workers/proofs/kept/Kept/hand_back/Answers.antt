use Rattle.std.proofs.Common.{ℕ, ◌+◌, ◌≤◌, sym, subst, ◌∙◌}
use Rattle.std.specs.Prelude.{IfSome}
use Rattle.door_workers.specs.Attending.{HaveCome, seen_at}
use Rattle.door_workers.proofs.EndLemmas.{served-next}
use Rattle.door_workers.proofs.StandLemmas.{room-more}
use Rattle.door_workers.proofs.kept.Kept.hand_back.Goals as goal

pub hand_back-requires-clause-room : goal.hand_back-requires-clause-room
hand_back-requires-clause-room g c κs outlives =
    let stands = c.self.invariant.1.1 in
    room-more _ g.N.DoorName.most c.self.invariant.1.0 c.sub.new.self.total _ _ stands.most_is
    (subst (λ (out : ℕ). IfSome g.N.DoorName.most (λ most. c.self.invariant.1.0 + out ≤ most)) (sym c.sub.ensures.total) stands.few) stands.room
    stands.have_ends

pub invariant_of-self : goal.invariant_of-self
invariant_of-self g c =
    let stands = c.self.invariant.1 in (
      c.hand_back.ensures.same_door ∙ c.self.invariant.0,
      (
        stands.0 + 1,
        c.hand_back.ensures.stands g.N.DoorName.first g.N.DoorName.most stands.0 c.sub.new.self.total
            (subst
            (λ (out : ℕ). HaveCome g.N.DoorName.first g.N.DoorName.most
            (seen_at g.D.Door.bound g.D.Door.lines g.D.Door.faults g.D.Door.ended g.D.Door.closed c.self.inside.at.lent.door.now) c.self.inside.at.so_far stands.0 out)
            (sym c.sub.ensures.total) stands.1),
      ),
      (λ fresh. c.hand_back.ensures.stays_fresh (c.self.invariant.2 fresh)),
      λ fresh. served-next _ g.N.DoorName.most _ _ g.N.DoorName.closed _ _ _ _ stands.1.most_is c.hand_back.ensures.noted (c.self.invariant.3 fresh)
          c.hand_back.ensures.handed_back (c.requires.ended fresh),
    )
