use Rattle.std.proofs.Common.{refl, ap, ◌∙◌, arith, List, ◌++◌, ◌∷◌, []}
use Rattle.key_shard.specs.declared.steps.Step.{Step}
use Rattle.key_shard.specs.Kept.{terms_of, steps_of}
use Rattle.key_shard.proofs.KeptLemmas.{IsKept-still, IsKept-step, terms-rolled}
use Rattle.key_shard.proofs.PlaceLemmas.{quiet-adds_none}
use Rattle.key_shard.proofs.TiesLemmas.{Ties-quiet}
use Rattle.key_shard.proofs.bodies.Body.note.Goals as goal

pub returns-clause-kept : goal.returns-clause-kept
returns-clause-kept c =
    let pushed = c.push.ensures.items ∙ ap (λ (h : List Step). h ++ c.args.step ∷ []) c.make_room.ensures.items in
    let ties = Ties-quiet (terms_of c.args.self.now) (steps_of c.args.self.now)
    c.args.self.now.entries.list c.args.self.now.leases c.args.self.now.next c.args.step c.requires.quiet c.requires.answers c.requires.kept.ties in
    IsKept-step c.args.self.now _ c.args.step (quiet-adds_none (steps_of c.args.self.now) c.args.step c.requires.quiet) c.requires.kept
    pushed (terms-rolled c.args.self.now (c.push.ensures.rolls ∙ c.make_room.ensures.rolls)) ties c.requires.kept.one_of c.requires.kept.outs c.requires.kept.held c.requires.kept.promises (omega (arith, c.in_ok-make_room.ensures.ok))

pub returns-in_err-make_room-clause-kept : goal.returns-in_err-make_room-clause-kept
returns-in_err-make_room-clause-kept c =
    IsKept-still c.args.self.now _ c.requires.kept (terms-rolled c.args.self.now c.make_room.ensures.rolls) c.make_room.ensures.items
    refl refl refl refl c.requires.kept.one_of c.requires.kept.promises c.make_room.ensures.kept
