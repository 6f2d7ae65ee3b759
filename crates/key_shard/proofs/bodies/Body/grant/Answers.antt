use Rattle.std.proofs.Common.{◌≡◌, ◌<◌, ℕ, List, [], ◌∷◌, ◌++◌, None, refl, sym, ap, subst, ◌∙◌, arith}
use Rattle.std.specs.Prelude.{ℤ}
use Rattle.std.proofs.lemmas.Int.{to_z-of_z}
use mir.Syntax.{w32}
use Rattle.std.proofs.lemmas.List.Elements.{All-append, All-cons, All-nil, All-weaker}
use Rattle.std.specs.List.{All}
use Rattle.case_tables.specs.Compatibility.{verdict, quarantine, is_given}
use Rattle.lease_table.specs.declared.records.Quar.{Quar}
use Rattle.lease_table.specs.Leases.{Leaves, quars, way_of}
use Rattle.key_shard.specs.declared.outs.Out.{Out}
use Rattle.key_shard.specs.declared.steps.Step.{Step}
use Rattle.key_shard.specs.declared.steps.Step.TheVariants.{Granted}
use Rattle.key_shard.specs.Past.{next_token}
use Rattle.key_shard.specs.Answers.{Answers}
use Rattle.key_shard.specs.Kept.{IsOut, AreHeld, places_of, terms_of, steps_of}
use Rattle.key_shard.proofs.KeptLemmas.{IsKept-still, IsKept-after, IsOut-later, IsOut-granted, held-granted, terms-rolled}
use Rattle.key_shard.proofs.LookLemmas.{holding-seen}
use Rattle.key_shard.proofs.PlaceLemmas.{places-more, stood-granted}
use Rattle.key_shard.proofs.TiesLemmas.{Ties-granted}
use Rattle.key_shard.proofs.bodies.Body.grant.Goals as goal

pub overflow_add-self-2 : goal.overflow_add-self-2
overflow_add-self-2 c = omega (arith, c.in_ok-make_room.ensures.ok, c.make_room.ensures.fits)

pub returns-in_err-make_room-clause-kept : goal.returns-in_err-make_room-clause-kept
returns-in_err-make_room-clause-kept c =
    IsKept-still c.args.self.now _ c.requires.kept (terms-rolled c.args.self.now c.make_room.ensures.rolls) c.make_room.ensures.items
    refl refl refl refl c.requires.kept.one_of c.requires.kept.promises c.make_room.ensures.kept

pub returns-in_err-grant-clause-kept : goal.returns-in_err-grant-clause-kept
returns-in_err-grant-clause-kept c =
    IsKept-still c.args.self.now _ c.requires.kept (terms-rolled c.args.self.now c.make_room.ensures.rolls) c.make_room.ensures.items
    refl refl refl refl c.requires.kept.one_of c.requires.kept.promises c.make_room.ensures.kept

pub returns-in_default-clause-kept : goal.returns-in_default-clause-kept
returns-in_default-clause-kept c =
    IsKept-still c.args.self.now _ c.requires.kept (terms-rolled c.args.self.now c.make_room.ensures.rolls) c.make_room.ensures.items
    refl c.in_default.ensures.leases_left refl c.in_default.ensures.outs_left c.requires.kept.one_of c.requires.kept.promises c.make_room.ensures.kept

pub returns-clause-kept : goal.returns-clause-kept
returns-clause-kept c =
    let old = c.args.self.now in
    let token : ℕ = old.next in
    let deadline : ℕ = c.deadline-deadline.result in
    let fits = c.ranges.shift in
    let shift : ℤ = c.args.shift in
    let quar : Quar = record { sid = c.args.sid; mode = c.args.mode; token = token; deadline = deadline; shift = shift } in
    let out : Out = record { key = c.args.key; sid = c.args.sid; mode = c.args.mode; token = token } in
    let step : Step = Granted c.args.key c.args.sid c.args.mode shift c.args.now token deadline in
    let answers : Answers (terms_of old) (steps_of old) step =
    subst (λ t. Answers (terms_of old) (steps_of old) (Granted c.args.key c.args.sid c.args.mode shift c.args.now t deadline))
    (sym c.requires.kept.ties.counted)
    (subst (λ d. Answers (terms_of old) (steps_of old) (Granted c.args.key c.args.sid c.args.mode shift c.args.now
    (next_token (terms_of old) (steps_of old)) d)) (sym c.deadline-deadline.ensures) c.requires.answers) in
    let same : ℤ → Type 0 = λ s. Leaves c.args.key None (quars c.args.key old.leases
    ++ record { sid = c.args.sid; mode = c.args.mode; token = token; deadline = deadline; shift = s } ∷ []) old.leases c.stand.new.leases in
    let leaves = subst same (to_z-of_z w32 shift fits) c.in-Ok.ensures.stands in
    let pushed = subst (λ (s : ℤ). c.push.new.self.steps ≡ c.make_room.new.self.steps
    ++ Granted c.args.key c.args.sid c.args.mode s c.args.now token deadline ∷ []) (to_z-of_z w32 shift fits) c.push.ensures.items
    ∙ ap (λ (h : List Step). h ++ step ∷ []) c.make_room.ensures.items in
    let ties = Ties-granted (terms_of old) (steps_of old) old.entries.list
    old.leases c.stand.new.leases old.next c.args.key c.args.sid c.args.mode shift c.args.now token deadline refl leaves answers c.requires.kept.ties in
    let grown : c.stand.new.outs ≡ old.out ++ out ∷ [] = c.in-Ok.ensures.out in
    let drawn = c.requires.kept.ties.counted in
    let stood = stood-granted (terms_of old) (steps_of old) c.args.key c.args.sid c.args.mode shift c.args.now token deadline drawn in
    let before = IsOut-later (terms_of old) (steps_of old) step stood old.out c.requires.kept.outs in
    let after = All-append (IsOut (terms_of old) (step ∷ steps_of old)) old.out (out ∷ []) before
    (All-cons (IsOut (terms_of old) (step ∷ steps_of old)) out []
    (IsOut-granted (terms_of old) (steps_of old) out shift c.args.now deadline c.requires.home drawn (c.requires.kept.ties.below c.args.key))
    (All-nil (IsOut (terms_of old) (step ∷ steps_of old)))) in
    let fits = places-more (terms_of old) (steps_of old) step stood old.out out c.requires.kept.outs in
    let places = ap (places_of (step ∷ steps_of old)) grown in
    let held = held-granted (steps_of old) old.out out shift c.args.now deadline c.requires.kept.held in
    IsKept-after old _ step pushed (terms-rolled old (c.push.ensures.rolls ∙ c.make_room.ensures.rolls)) ties c.requires.kept.one_of (subst (All (IsOut (terms_of old) (step ∷ steps_of old))) (sym grown) after)
    (subst (AreHeld (step ∷ steps_of old)) (sym grown) held) (omega (arith, fits, places, c.requires.kept.promises))
    (omega (arith, c.in_ok-make_room.ensures.ok))

pub stand-requires-clause-last_out : goal.stand-requires-clause-last_out
stand-requires-clause-last_out c =
    let old = c.args.self.now in
    let next = c.requires.kept.ties.counted in
    All-weaker (IsOut (terms_of old) (steps_of old)) (λ (out : Out). out.token
    < old.next) (λ out was. omega (arith, next, was.drawn)) old.out c.requires.kept.outs

pub stand-requires-clause-given : goal.stand-requires-clause-given
stand-requires-clause-given c =
    ap (λ h. is_given (verdict h (quarantine (way_of c.args.mode)))) (holding-seen c.requires.kept.ties c.args.key c.args.sid c.args.now) ∙ c.requires.given
