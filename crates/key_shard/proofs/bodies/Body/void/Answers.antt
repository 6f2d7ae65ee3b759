use Rattle.std.proofs.Common.{refl, ap, ◌∙◌, arith, List, ◌++◌, ◌∷◌, []}
use Rattle.key_shard.specs.declared.steps.Step.{Step}
use Rattle.key_shard.specs.declared.steps.Step.TheVariants.{Void}
use Rattle.key_shard.specs.Kept.{terms_of, steps_of}
use Rattle.key_shard.proofs.KeptLemmas.{IsKept-still, IsKept-step, terms-rolled}
use Rattle.key_shard.proofs.LapseLemmas.{Ties-void}
use Rattle.key_shard.proofs.bodies.Body.void.Goals as goal

pub returns-clause-kept : goal.returns-clause-kept
returns-clause-kept c =
    let old = c.args.self.now in
    let step : Step = Void c.args.key c.args.token c.args.now in
    let pushed = c.push.ensures.items ∙ ap (λ (h : List Step). h ++ step ∷ []) c.make_room.ensures.items in
    let ties = Ties-void (terms_of old) (steps_of old) old.entries.list old.leases c.end_lapsed.new.self old.next
    c.args.key c.args.token c.args.now c.end_lapsed.result c.end_lapsed.ensures.lapsed c.end_lapsed.ensures.after c.requires.answers c.requires.kept.ties in
    IsKept-step old _ step (λ k t q e. e) c.requires.kept
    pushed (terms-rolled old (c.push.ensures.rolls ∙ c.make_room.ensures.rolls)) ties c.requires.kept.one_of c.requires.kept.outs c.requires.kept.held c.requires.kept.promises (omega (arith, c.in_ok-make_room.ensures.ok))

pub returns-in_err-make_room-clause-kept : goal.returns-in_err-make_room-clause-kept
returns-in_err-make_room-clause-kept c =
    IsKept-still c.args.self.now _ c.requires.kept (terms-rolled c.args.self.now c.make_room.ensures.rolls) c.make_room.ensures.items
    refl refl refl refl c.requires.kept.one_of c.requires.kept.promises c.make_room.ensures.kept
