use Rattle.std.proofs.Common.{refl, ap, subst, sym, ◌∙◌, arith, List, ◌++◌, ◌∷◌, []}
use Rattle.entry_table.specs.Entries.{Item}
use Rattle.key_shard.specs.declared.steps.Step.{Step}
use Rattle.key_shard.specs.declared.steps.Step.TheVariants.{Again}
use Rattle.key_shard.specs.Kept.{Ties, terms_of, steps_of}
use Rattle.key_shard.proofs.KeptLemmas.{IsKept-still, IsKept-step, terms-kept, terms-rolled}
use Rattle.key_shard.proofs.TiesLemmas.{Ties-again}
use Rattle.key_shard.proofs.bodies.Body.again.Goals as goal

pub returns-clause-kept : goal.returns-clause-kept
returns-clause-kept c =
    let old = c.args.self.now in
    let step : Step = Again c.args.key c.args.who c.args.floor c.args.now c.args.standing in
    let pushed = c.push.ensures.items ∙ ap (λ (h : List Step). h ++ step ∷ []) c.make_room.ensures.items in
    let ties = Ties-again (terms_of old) (steps_of old) old.entries.list
    old.leases old.next c.args.key c.args.who c.args.floor c.args.now c.args.standing c.requires.answers c.requires.kept.ties in
    IsKept-step old _ step (λ k t q e. e) c.requires.kept pushed (terms-kept old c.drop_key.new.self.room _ c.drop_key.ensures.room (c.push.ensures.rolls ∙ c.make_room.ensures.rolls))
    (subst (λ (l : List Item). Ties (terms_of old) (step ∷ steps_of old) l old.leases old.next) (sym c.drop_key.ensures.list) ties)
    c.requires.kept.one_of c.requires.kept.outs c.requires.kept.held c.requires.kept.promises (omega (arith, c.in_ok-make_room.ensures.ok))

pub returns-in_err-make_room-clause-kept : goal.returns-in_err-make_room-clause-kept
returns-in_err-make_room-clause-kept c =
    IsKept-still c.args.self.now _ c.requires.kept (terms-rolled c.args.self.now c.make_room.ensures.rolls) c.make_room.ensures.items
    refl refl refl refl c.requires.kept.one_of c.requires.kept.promises c.make_room.ensures.kept
