use Rattle.door_workers.proofs.EndLemmas.{none-served, served-as, served-same}
use Rattle.door_workers.proofs.StandLemmas.{at-first, attended-as}
use Rattle.std.proofs.Common.{rules, ◌≡◌, refl, ap, subst, ◌∙◌}
use Rattle.door_workers.specs.Attending.{WasAttended, seen_at}
use Rattle.door_workers.specs.Ends.{AreServed}
use Rattle.door_workers.specs.declared.progress.Progress.{Progress}
use Rattle.door_workers.proofs.workers.serve_all.Goals as goal

pub attend-lent-requires-clause-first : goal.attend-lent-requires-clause-first
attend-lent-requires-clause-first g c κs outlives = at-first _ c.args.conns c.args.ends _ c.new-so_far.ensures c.requires.none c.requires.room

pub attend-lent-requires-clause-handed_back : goal.attend-lent-requires-clause-handed_back
attend-lent-requires-clause-handed_back g c κs outlives = λ fresh.
    served-same _ _ _ _ _ _ (ap (λ (p : Progress). p.ends.items) c.new-so_far.ensures ∙ c.requires.none) refl (none-served _ (g.D.Door.closed c.args.door.now))

pub returns-clause-attended : goal.returns-clause-attended
returns-clause-attended g c =
    let tells = seen_at g.D.Door.bound g.D.Door.lines g.D.Door.faults g.D.Door.ended g.D.Door.closed in
    let same : c.attend-lent.result.door.now ≡ c.door-1.given.0 = search rules in
    subst
    (λ door. WasAttended c.args.conns (tells c.args.door.now) (tells door) c.attend-lent.new.so_far.ends.items c.attend-lent.new.so_far.accepted
    c.attend-lent.new.so_far.failed)
    same
    (attended-as _ _ _ c.args.conns _ (ap (λ (p : Progress). p.most) c.new-so_far.ensures) c.attend-lent.ensures.stands c.attend-lent.ensures.over)

pub returns-clause-handed_back : goal.returns-clause-handed_back
returns-clause-handed_back g c = λ fresh.
    let same : c.attend-lent.result.door.now ≡ c.door-1.given.0 = search rules in
    subst (λ door. AreServed c.args.conns c.attend-lent.new.so_far.ends.items (g.D.Door.closed c.args.door.now) (g.D.Door.closed door)) same
    (served-as _ c.args.conns _ _ _ (ap (λ (p : Progress). p.most) c.new-so_far.ensures) (c.attend-lent.ensures.handed_back fresh))
