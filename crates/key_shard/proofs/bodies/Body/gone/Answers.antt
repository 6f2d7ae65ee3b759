use Rattle.std.proofs.Common.{[], ◌∷◌, ◌++◌, ap, ◌∙◌, arith}
use Rattle.key_shard.specs.declared.steps.Step.{Step}
use Rattle.key_shard.specs.declared.steps.Step.TheVariants.{Gone}
use Rattle.key_shard.specs.Kept.{terms_of, steps_of}
use Rattle.key_shard.proofs.OutLemmas.{IsKept-returned, some-out, may-take-one, places-out, view-returned}
use Rattle.key_shard.proofs.TiesLemmas.{Ties-quiet}
use Rattle.key_shard.proofs.KeptLemmas.{terms-rolled}
use Rattle.key_shard.proofs.bodies.Body.gone.Goals as goal

pub overflow_sub-self : goal.overflow_sub-self
overflow_sub-self c =
    let kept = places-out c.args.self.now c.args.grant 1 (may-take-one c.args.self.now c.args.grant) c.requires.kept c.requires.out in
    omega (arith, kept)

pub push-requires : goal.push-requires
push-requires c =
    let kept = places-out c.args.self.now c.args.grant 1 (may-take-one c.args.self.now c.args.grant) c.requires.kept c.requires.out in
    omega (arith, kept, c.requires.kept.reserved)

pub returns-clause-kept : goal.returns-clause-kept
returns-clause-kept c =
    let old = c.args.self.now in
    let grant = c.args.grant in
    let step : Step = Gone grant.key grant.sid grant.token in
    let same = ap (λ k. Gone k c.sid.result c.token.result) c.key.ensures
    ∙ ap (λ s. Gone grant.key s c.token.result) c.sid.ensures ∙ ap (Gone grant.key grant.sid) c.token.ensures in
    let pushed = c.push.ensures.items ∙ ap (λ (s : Step). old.history.steps ++ s ∷ []) same in
    let ties = Ties-quiet (terms_of old) (steps_of old) old.entries.list old.leases old.next step tt c.requires.answers c.requires.kept.ties in
    let two = places-out old grant 1 (may-take-one old grant) c.requires.kept c.requires.out in
    IsKept-returned old _ step grant 1 (may-take-one old grant) (λ k t q e. e) c.requires.none
    c.requires.kept c.requires.out c.take.ensures pushed (terms-rolled old c.push.ensures.rolls) ties c.requires.kept.one_of (omega (arith, two)) (omega (arith, two, c.requires.kept.reserved))

pub returns-clause-step : goal.returns-clause-step
returns-clause-step c =
    let old = c.args.self.now in
    let grant = c.args.grant in
    let same = ap (λ k. Gone k c.sid.result c.token.result) c.key.ensures
    ∙ ap (λ s. Gone grant.key s c.token.result) c.sid.ensures ∙ ap (Gone grant.key grant.sid) c.token.ensures in
    let pushed = c.push.ensures.items ∙ ap (λ (s : Step). old.history.steps ++ s ∷ []) same in
    view-returned old _ c.push.new.self.steps c.take.new.self (Gone grant.key grant.sid grant.token) grant
    (terms-rolled old c.push.ensures.rolls) pushed c.take.ensures

pub take-requires : goal.take-requires
take-requires c = some-out c.args.self.now c.args.grant c.requires.out
