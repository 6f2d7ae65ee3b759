use Rattle.std.proofs.Common.{ℕ, refl, ap, subst, sym, ◌∙◌, arith, List, [], ◌∷◌, ◌++◌}
use Rattle.entry_table.specs.Entries.{Table}
use Rattle.key_shard.specs.declared.steps.Step.{Step}
use Rattle.key_shard.specs.declared.steps.Step.TheVariants.{Hit}
use Rattle.key_shard.specs.Kept.{Ties, shown, terms_of, steps_of}
use Rattle.key_shard.proofs.KeptLemmas.{IsKept-still, IsKept-step, terms-kept, terms-rolled, view-after}
use Rattle.key_shard.proofs.TiesLemmas.{Ties-hit, room-promoted}
use Rattle.key_shard.proofs.bodies.Body.hit.Goals as goal

pub returns-clause-kept : goal.returns-clause-kept
returns-clause-kept c =
    let old = c.args.self.now in
    let found : List ℕ × ℕ = (c.args.value, c.args.stamp) in
    let step : Step = Hit c.args.key c.args.who c.args.floor c.args.value c.args.stamp in
    let pushed = c.in_ok-value.ensures.items ∙ ap (λ h. h ++ step ∷ []) c.make_room.ensures.items in
    let ties = Ties-hit (terms_of old) (steps_of old) old.entries.list
    old.leases old.next c.args.key c.args.who c.args.floor found c.requires.found c.requires.answers c.requires.kept.ties in
    let room = ap (λ (t : Table). t.room) c.promote.ensures.promotes ∙ room-promoted c.args.key old.entries in
    IsKept-step old _ step (λ k t q e. e) c.requires.kept pushed
    (terms-kept old c.promote.new.self.room _ room (c.push_hit.ensures.rolls ∙ c.make_room.ensures.rolls))
    (subst (λ (t : Table). Ties (terms_of old) (step ∷ steps_of old) t.list old.leases old.next) (sym c.promote.ensures.promotes) ties)
    c.requires.kept.one_of c.requires.kept.outs c.requires.kept.held c.requires.kept.promises
    (omega (arith, c.in_ok-make_room.ensures.ok, c.in_ok-value.ensures.len, c.push_hit.ensures.capacity))

pub returns-clause-step : goal.returns-clause-step
returns-clause-step c =
    let old = c.args.self.now in
    let step : Step = Hit c.args.key c.args.who c.args.floor c.args.value c.args.stamp in
    let pushed = c.in_ok-value.ensures.items ∙ ap (λ h. h ++ step ∷ []) c.make_room.ensures.items in
    let room = ap (λ (t : Table). t.room) c.promote.ensures.promotes ∙ room-promoted c.args.key old.entries in
    view-after (shown old) _ step (terms-kept old c.promote.new.self.room _ room (c.push_hit.ensures.rolls ∙ c.make_room.ensures.rolls)) pushed refl refl

pub returns-in_err-make_room-clause-kept : goal.returns-in_err-make_room-clause-kept
returns-in_err-make_room-clause-kept c =
    IsKept-still c.args.self.now _ c.requires.kept (terms-rolled c.args.self.now c.make_room.ensures.rolls) c.make_room.ensures.items
    refl refl refl refl c.requires.kept.one_of c.requires.kept.promises c.make_room.ensures.kept
