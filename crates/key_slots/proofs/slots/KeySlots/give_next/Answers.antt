use Rattle.std.proofs.Common.{ℕ, ◌≡◌, ◌<◌, ◌++◌, ◌∷◌, [], ◌∙◌, List, length, Option, Some, cond, ap, sym, subst, arith}
use Rattle.key_slots.specs.Slots.{Slots, IsSound, is_same, slot_of}
use Rattle.key_slots.specs.Kept.{found_at}
use Rattle.key_slots.proofs.KeptLemmas.{kept_sound, kept_next, found_changed}
use Rattle.key_slots.proofs.slots.KeySlots.give_next.Goals as goal

pub invariant_of-self-2 : goal.invariant_of-self-2
invariant_of-self-2 c =
    let long : c.self.inside.holders.len ≡ length c.self.inside.holders.items = omega (arith, c.self.inside.holders.ok.0) in
    let found = found_changed c.args.own.items (Some (length c.self.inside.holders.items)) c.self.inside.places.entries c.insert.new.self.entries
    (c.in_ok-insert.ensures.updates.1 ∙ ap (λ (n : ℕ). Some n) (c.len-next.ensures ∙ long)) c.in_ok-insert.ensures.updates.3 in
    let at_name = subst (λ (n : List ℕ). (k : List ℕ) → found_at k c.insert.new.self.entries
    ≡ cond (is_same n k) (Some (length c.self.inside.holders.items)) (found_at k c.self.inside.places.entries)) c.requires.same found in
    let none = ap (λ (s : Slots). slot_of s c.args.name) c.self.view_is ∙ c.requires.none in
    let some = subst (λ (s : Slots). length s.holders < s.room) (sym c.self.view_is) c.requires.room in
    let next = c.len-next.ensures in
    let wide = c.in_ok-reserve-2.ensures.ok in
    let kept = kept_next c.self.invariant c.args.name c.reserve-2.new.self.cap c.requires.fit none some (omega (arith, wide, next, long)) at_name in
    rw (c.push_reserved.ensures.items, c.reserve.ensures.items, c.reserve-2.ensures.items) kept

pub returns-in_err-reserve-clause-sound : goal.returns-in_err-reserve-clause-sound
returns-in_err-reserve-clause-sound c = subst (λ (hs : List (Option (List ℕ))). IsSound (record { room = c.self.inside.room; holders = hs })) (sym c.reserve.ensures.items) (kept_sound c.self.invariant)

pub returns-in_err-reserve-2-clause-sound : goal.returns-in_err-reserve-2-clause-sound
returns-in_err-reserve-2-clause-sound c = subst (λ (hs : List (Option (List ℕ))). IsSound (record { room = c.self.inside.room; holders = hs })) (sym c.reserve.ensures.items) (kept_sound c.self.invariant)

pub returns-in_err-insert-clause-sound : goal.returns-in_err-insert-clause-sound
returns-in_err-insert-clause-sound c = subst (λ (hs : List (Option (List ℕ))). IsSound (record { room = c.self.inside.room; holders = hs })) (sym c.reserve.ensures.items) (kept_sound c.self.invariant)

pub returns-clause-sound : goal.returns-clause-sound
returns-clause-sound c =
    let long : c.self.inside.holders.len ≡ length c.self.inside.holders.items = omega (arith, c.self.inside.holders.ok.0) in
    let found = found_changed c.args.own.items (Some (length c.self.inside.holders.items)) c.self.inside.places.entries c.insert.new.self.entries
    (c.in_ok-insert.ensures.updates.1 ∙ ap (λ (n : ℕ). Some n) (c.len-next.ensures ∙ long)) c.in_ok-insert.ensures.updates.3 in
    let at_name = subst (λ (n : List ℕ). (k : List ℕ) → found_at k c.insert.new.self.entries
    ≡ cond (is_same n k) (Some (length c.self.inside.holders.items)) (found_at k c.self.inside.places.entries)) c.requires.same found in
    let none = ap (λ (s : Slots). slot_of s c.args.name) c.self.view_is ∙ c.requires.none in
    let some = subst (λ (s : Slots). length s.holders < s.room) (sym c.self.view_is) c.requires.room in
    let next = c.len-next.ensures in
    let wide = c.in_ok-reserve-2.ensures.ok in
    let kept = kept_next c.self.invariant c.args.name c.reserve-2.new.self.cap c.requires.fit none some (omega (arith, wide, next, long)) at_name in
    subst (λ (hs : List (Option (List ℕ))). IsSound (record { room = c.self.inside.room; holders = hs }))
    (sym (c.push_reserved.ensures.items ∙ ap (λ (hs : List (Option (List ℕ))). hs ++ Some c.args.name ∷ []) c.reserve.ensures.items)) (kept_sound kept)
