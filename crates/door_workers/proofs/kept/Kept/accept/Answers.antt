use Rattle.std.proofs.Common.{ℕ, sym, subst, ◌∙◌}
use Rattle.door_workers.specs.Attending.{HaveCome, seen_at}
use Rattle.door_workers.proofs.EndLemmas.{served-same}
use Rattle.door_workers.proofs.kept.Kept.accept.Goals as goal

pub invariant_of-self : goal.invariant_of-self
invariant_of-self g c =
    let stands = c.self.invariant.1 in (
      c.accept.ensures.same_door ∙ c.self.invariant.0,
      (stands.0, c.in_err-line.ensures.none g.N.DoorName.first g.N.DoorName.most stands.0 c.self.inside.out.total stands.1),
      (λ fresh. c.accept.ensures.stays_fresh (c.self.invariant.2 fresh)),
      λ fresh. served-same g.N.DoorName.most _ _ g.N.DoorName.closed _ _ c.accept.ensures.keeps_ends c.accept.ensures.keeps_closed
          (c.self.invariant.3 fresh),
    )

pub invariant_of-self-2 : goal.invariant_of-self-2
invariant_of-self-2 g c =
    let stands = c.self.invariant.1 in (
      c.accept.ensures.same_door ∙ c.self.invariant.0,
      (
        stands.0,
        subst
            (λ (out : ℕ). HaveCome g.N.DoorName.first g.N.DoorName.most
            (seen_at g.D.Door.bound g.D.Door.lines g.D.Door.faults g.D.Door.ended g.D.Door.closed c.accept.new.self.lent.door.now) c.accept.new.self.so_far stands.0 out)
            (sym c.add.ensures.total)
            (c.in_ok-line.ensures.line g.N.DoorName.first g.N.DoorName.most stands.0 c.self.inside.out.total stands.1),
      ),
      (λ fresh. c.accept.ensures.stays_fresh (c.self.invariant.2 fresh)),
      λ fresh. served-same g.N.DoorName.most _ _ g.N.DoorName.closed _ _ c.accept.ensures.keeps_ends c.accept.ensures.keeps_closed
          (c.self.invariant.3 fresh),
    )
