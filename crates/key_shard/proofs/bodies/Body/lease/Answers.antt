use Rattle.std.proofs.Common.{◌≡◌, ◌+◌, ℕ, true, refl, ap, subst, sym, ◌∙◌, arith, List, Some, ◌++◌, ◌∷◌, []}
use Rattle.case_tables.specs.Compatibility.{verdict, read, is_given}
use Rattle.lease_table.specs.Leases.{Leaves, quars}
use Rattle.std.proofs.lemmas.Bool.{MatchBool-at_true}
use Rattle.entry_table.specs.Entries.{Item}
use Rattle.key_shard.specs.declared.steps.Step.{Step}
use Rattle.key_shard.specs.declared.steps.Step.TheVariants.{Lease}
use Rattle.key_shard.specs.Past.{next_token}
use Rattle.key_shard.specs.Answers.{Answers}
use Rattle.key_shard.specs.Kept.{Ties, terms_of, steps_of}
use Rattle.key_shard.proofs.KeptLemmas.{IsKept-still, IsKept-step, terms-kept, terms-rolled}
use Rattle.key_shard.proofs.LookLemmas.{holding-seen}
use Rattle.key_shard.proofs.TiesLemmas.{Ties-lease}
use Rattle.key_shard.proofs.bodies.Body.lease.Goals as goal

pub returns-clause-kept : goal.returns-clause-kept
returns-clause-kept c =
    let old = c.args.self.now in
    let token : ℕ = old.next in
    let deadline : ℕ = c.deadline-deadline.result in
    let step : Step = Lease c.args.key c.args.who c.args.floor c.args.now token deadline in
    let answers : Answers (terms_of old) (steps_of old) step =
    subst (λ t. Answers (terms_of old) (steps_of old) (Lease c.args.key c.args.who c.args.floor c.args.now t deadline)) (sym c.requires.kept.ties.counted)
    (subst (λ d. Answers (terms_of old) (steps_of old) (Lease c.args.key c.args.who c.args.floor c.args.now (next_token (terms_of old) (steps_of old)) d))
    (sym c.deadline-deadline.ensures) c.requires.answers) in
    let given : is_given c.in_ok-ask_i.field-0 ≡ true =
    ap is_given (c.in_ok-ask_i.ensures.verdict
    ∙ ap (λ h. verdict h read) (holding-seen c.requires.kept.ties c.args.key c.args.who c.args.now) ∙ c.requires.free) in
    let leaves = MatchBool-at_true (Leaves c.args.key (Some (record { sid = c.args.who; token = token; deadline = deadline }))
    (quars c.args.key old.leases) old.leases c.ask_i.new.self) (c.ask_i.new.self ≡ old.leases) given c.in_ok-ask_i.ensures.after in
    let pushed = c.push.ensures.items ∙ ap (λ (h : List Step). h ++ step ∷ []) c.make_room.ensures.items in
    let ties = Ties-lease (terms_of old) (steps_of old) old.entries.list
    old.leases c.ask_i.new.self old.next c.args.key c.args.who c.args.floor c.args.now token deadline leaves answers c.requires.kept.ties in
    IsKept-step old _ step (λ k t q e. e) c.requires.kept pushed (terms-kept old c.drop_key.new.self.room _ c.drop_key.ensures.room (c.push.ensures.rolls ∙ c.make_room.ensures.rolls))
    (subst (λ (l : List Item). Ties (terms_of old) (step ∷ steps_of old) l c.ask_i.new.self (old.next + 1)) (sym c.drop_key.ensures.list) ties)
    c.requires.kept.one_of c.requires.kept.outs c.requires.kept.held c.requires.kept.promises (omega (arith, c.in_ok-make_room.ensures.ok))

pub returns-in_err-make_room-clause-kept : goal.returns-in_err-make_room-clause-kept
returns-in_err-make_room-clause-kept c =
    IsKept-still c.args.self.now _ c.requires.kept (terms-rolled c.args.self.now c.make_room.ensures.rolls) c.make_room.ensures.items
    refl refl refl refl c.requires.kept.one_of c.requires.kept.promises c.make_room.ensures.kept

pub returns-in_err-ask_i-clause-kept : goal.returns-in_err-ask_i-clause-kept
returns-in_err-ask_i-clause-kept c =
    IsKept-still c.args.self.now _ c.requires.kept (terms-rolled c.args.self.now c.make_room.ensures.rolls) c.make_room.ensures.items
    refl c.in_err-ask_i.ensures.err refl refl c.requires.kept.one_of c.requires.kept.promises c.make_room.ensures.kept
