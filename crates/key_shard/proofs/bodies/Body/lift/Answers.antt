use Rattle.std.proofs.Common.{◌≤◌, refl, sym, ap, subst, ◌∙◌, arith, List, ◌++◌, ◌∷◌, []}
use Rattle.std.specs.List.{All}
use Rattle.key_shard.specs.declared.steps.Step.{Step}
use Rattle.key_shard.specs.declared.steps.Step.TheVariants.{Raised}
use Rattle.key_shard.specs.Kept.{AreHeld, IsOut, places_of, terms_of, steps_of}
use Rattle.key_shard.proofs.KeptLemmas.{IsKept-still, IsKept-after, terms-rolled}
use Rattle.key_shard.proofs.OutLemmas.{some-out}
use Rattle.key_shard.proofs.OutRaises.{IsOut-raised, held-raised, places-raised, raise-leaves, view-raised}
use Rattle.key_shard.proofs.TiesLemmas.{Ties-raised}
use Rattle.key_shard.proofs.bodies.Body.lift.Goals as goal

pub returns-in_default-make_room-clause-kept : goal.returns-in_default-make_room-clause-kept
returns-in_default-make_room-clause-kept c =
    IsKept-still c.args.self.now _ c.requires.kept (terms-rolled c.args.self.now c.make_room.ensures.rolls) c.make_room.ensures.items
    refl refl refl refl c.requires.kept.one_of c.requires.kept.promises c.make_room.ensures.kept

pub raise-requires-2 : goal.raise-requires-2
raise-requires-2 c = some-out c.args.self.now c.args.grant c.requires.out

pub returns-clause-kept : goal.returns-clause-kept
returns-clause-kept c =
    let old = c.args.self.now in
    let grant = c.args.grant in
    let step : Step = Raised grant.key grant.sid grant.token in
    let same = ap (λ k. Raised k c.sid-sid.result c.token-token.result) c.key-key.ensures
    ∙ ap (λ s. Raised grant.key s c.token-token.result) c.sid-sid.ensures ∙ ap (Raised grant.key grant.sid) c.token-token.ensures in
    let pushed = c.push.ensures.items
    ∙ ap (λ (h : List Step). h ++ Raised c.key-key.result c.sid-sid.result c.token-token.result ∷ []) c.make_room.ensures.items
    ∙ ap (λ (s : Step). old.history.steps ++ s ∷ []) same in
    let leaves = raise-leaves c.requires.kept.ties grant.key c.key-key.result grant.sid c.sid-sid.result grant.token c.token-token.result
    c.raise.result c.raise.new.self c.key-key.ensures c.sid-sid.ensures c.token-token.ensures c.raise.ensures.verdict c.raise.ensures.after c.requires.alone in
    let ties = Ties-raised (terms_of old) (steps_of old) old.entries.list old.leases c.raise.new.self old.next grant.key grant.sid grant.token
    leaves c.requires.answers c.requires.kept.ties in
    let outs = IsOut-raised (terms_of old) (steps_of old) grant.key grant.sid grant.token old.out c.requires.kept.outs in
    let held = held-raised (steps_of old) grant.key grant.sid grant.token old.out c.requires.kept.held in
    let places = places-raised (terms_of old) (steps_of old) grant.key grant.sid grant.token old.out c.requires.kept.outs in
    IsKept-after old _ step pushed (terms-rolled old (c.push.ensures.rolls ∙ c.make_room.ensures.rolls)) ties c.requires.kept.one_of
    (subst (All (IsOut (terms_of old) (step ∷ steps_of old))) (sym c.raise-2.ensures) outs)
    (subst (AreHeld (step ∷ steps_of old)) (sym c.raise-2.ensures) held)
    (subst (λ os. places_of (step ∷ steps_of old) os ≤ old.promised) (sym c.raise-2.ensures) (omega (arith, places, c.requires.kept.promises)))
    (omega (arith, c.in-Ok-make_room.ensures.ok, c.push.ensures.len, c.push.ensures.capacity))

pub returns-clause-step : goal.returns-clause-step
returns-clause-step c =
    let old = c.args.self.now in
    let grant = c.args.grant in
    let same = ap (λ k. Raised k c.sid-sid.result c.token-token.result) c.key-key.ensures
    ∙ ap (λ s. Raised grant.key s c.token-token.result) c.sid-sid.ensures ∙ ap (Raised grant.key grant.sid) c.token-token.ensures in
    let pushed = c.push.ensures.items
    ∙ ap (λ (h : List Step). h ++ Raised c.key-key.result c.sid-sid.result c.token-token.result ∷ []) c.make_room.ensures.items
    ∙ ap (λ (s : Step). old.history.steps ++ s ∷ []) same in
    view-raised old _ c.push.new.self.steps c.raise-2.new.self grant.key grant.sid grant.token
    (terms-rolled old (c.push.ensures.rolls ∙ c.make_room.ensures.rolls)) pushed c.raise-2.ensures
