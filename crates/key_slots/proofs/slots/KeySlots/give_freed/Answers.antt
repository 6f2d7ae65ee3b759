use Rattle.std.proofs.Common.{ℕ, ◌≡◌, ◌<◌, ◌∙◌, List, length, Some, None, cond, set, ap, sym, subst, arith}
use Rattle.std.specs.Prelude.{◌-◌, slice_get}
use Rattle.std.specs.Option.{option_copied}
use Rattle.key_slots.specs.Slots.{Slots, is_same, slot_of, key_of, with_key}
use Rattle.key_slots.specs.Kept.{IsKept, found_at}
use Rattle.key_slots.proofs.KeptLemmas.{kept_sound, found_changed, last_stands, last_free, kept_given, slots_of, with_set}
use Rattle.key_slots.proofs.slots.KeySlots.give_freed.Goals as goal

pub index_mut-requires : goal.index_mut-requires
index_mut-requires c =
    let stands = last_stands c.self.inside.free.items c.pop.new.self.items c.self.inside.free.len c.unwrap-slot.result.now c.pop.result
    (omega (arith, c.self.inside.free.ok.0)) c.pop.ensures.items c.pop.ensures.value
    (subst (λ (lent : List ℕ). slice_get lent (length lent - 1) ≡ Some c.unwrap-slot.result.now) c.deref.ensures.value
    (sym c.last.ensures.value ∙ ap option_copied c.unwrap-slot.ensures)) in
    let last = last_free c.self.invariant c.pop.new.self.items c.unwrap-slot.result.now stands in
    let long = c.self.inside.holders.ok.0 in
    let short = last.0 in
    omega (arith, short, long)

pub invariant_of-self-2 : goal.invariant_of-self-2
invariant_of-self-2 c =
    let stands = last_stands c.self.inside.free.items c.pop.new.self.items c.self.inside.free.len c.unwrap-slot.result.now c.pop.result
    (omega (arith, c.self.inside.free.ok.0)) c.pop.ensures.items c.pop.ensures.value
    (subst (λ (lent : List ℕ). slice_get lent (length lent - 1) ≡ Some c.unwrap-slot.result.now) c.deref.ensures.value
    (sym c.last.ensures.value ∙ ap option_copied c.unwrap-slot.ensures)) in
    let last = last_free c.self.invariant c.pop.new.self.items c.unwrap-slot.result.now stands in
    let found = found_changed c.args.own.items (Some c.unwrap-slot.result.now) c.self.inside.places.entries c.insert.new.self.entries
    c.in_ok-insert.ensures.updates.1 c.in_ok-insert.ensures.updates.3 in
    let at_name = subst (λ (n : List ℕ). (k : List ℕ) → found_at k c.insert.new.self.entries
    ≡ cond (is_same n k) (Some c.unwrap-slot.result.now) (found_at k c.self.inside.places.entries)) c.requires.same found in
    let none = ap (λ (s : Slots). slot_of s c.args.name) c.self.view_is ∙ c.requires.none in
    let kept = kept_given c.self.invariant c.pop.new.self.items c.unwrap-slot.result.now c.args.name stands c.requires.fit none at_name in
    subst (λ (n : ℕ). IsKept c.self.inside.room c.insert.new.self.entries (set c.self.inside.holders.items c.unwrap-slot.result.now (Some c.args.name)) c.pop.new.self.items n) (sym c.pop.ensures.capacity) kept

pub returns-clause-free : goal.returns-clause-free
returns-clause-free c =
    let stands = last_stands c.self.inside.free.items c.pop.new.self.items c.self.inside.free.len c.unwrap-slot.result.now c.pop.result
    (omega (arith, c.self.inside.free.ok.0)) c.pop.ensures.items c.pop.ensures.value
    (subst (λ (lent : List ℕ). slice_get lent (length lent - 1) ≡ Some c.unwrap-slot.result.now) c.deref.ensures.value
    (sym c.last.ensures.value ∙ ap option_copied c.unwrap-slot.ensures)) in
    let last = last_free c.self.invariant c.pop.new.self.items c.unwrap-slot.result.now stands in
    subst (λ (s : Slots). key_of s c.unwrap-slot.result.now ≡ None) c.self.view_is last.1

pub returns-clause-next : goal.returns-clause-next
returns-clause-next c =
    let stands = last_stands c.self.inside.free.items c.pop.new.self.items c.self.inside.free.len c.unwrap-slot.result.now c.pop.result
    (omega (arith, c.self.inside.free.ok.0)) c.pop.ensures.items c.pop.ensures.value
    (subst (λ (lent : List ℕ). slice_get lent (length lent - 1) ≡ Some c.unwrap-slot.result.now) c.deref.ensures.value
    (sym c.last.ensures.value ∙ ap option_copied c.unwrap-slot.ensures)) in
    let last = last_free c.self.invariant c.pop.new.self.items c.unwrap-slot.result.now stands in
    subst (λ (s : Slots). c.unwrap-slot.result.now < length s.holders) c.self.view_is last.0

pub returns-clause-given : goal.returns-clause-given
returns-clause-given c =
    let stands = last_stands c.self.inside.free.items c.pop.new.self.items c.self.inside.free.len c.unwrap-slot.result.now c.pop.result
    (omega (arith, c.self.inside.free.ok.0)) c.pop.ensures.items c.pop.ensures.value
    (subst (λ (lent : List ℕ). slice_get lent (length lent - 1) ≡ Some c.unwrap-slot.result.now) c.deref.ensures.value
    (sym c.last.ensures.value ∙ ap option_copied c.unwrap-slot.ensures)) in
    let last = last_free c.self.invariant c.pop.new.self.items c.unwrap-slot.result.now stands in
    subst (λ (s : Slots). slots_of c.self.inside.room (set c.self.inside.holders.items c.unwrap-slot.result.now (Some c.args.name)) ≡ with_key s c.unwrap-slot.result.now c.args.name)
    c.self.view_is (with_set c.self.inside.room c.self.inside.holders.items c.unwrap-slot.result.now c.args.name last.0)

pub returns-in_err-insert-clause-sound : goal.returns-in_err-insert-clause-sound
returns-in_err-insert-clause-sound c = kept_sound c.self.invariant

pub returns-clause-sound : goal.returns-clause-sound
returns-clause-sound c =
    let stands = last_stands c.self.inside.free.items c.pop.new.self.items c.self.inside.free.len c.unwrap-slot.result.now c.pop.result
    (omega (arith, c.self.inside.free.ok.0)) c.pop.ensures.items c.pop.ensures.value
    (subst (λ (lent : List ℕ). slice_get lent (length lent - 1) ≡ Some c.unwrap-slot.result.now) c.deref.ensures.value
    (sym c.last.ensures.value ∙ ap option_copied c.unwrap-slot.ensures)) in
    let last = last_free c.self.invariant c.pop.new.self.items c.unwrap-slot.result.now stands in
    let found = found_changed c.args.own.items (Some c.unwrap-slot.result.now) c.self.inside.places.entries c.insert.new.self.entries
    c.in_ok-insert.ensures.updates.1 c.in_ok-insert.ensures.updates.3 in
    let at_name = subst (λ (n : List ℕ). (k : List ℕ) → found_at k c.insert.new.self.entries
    ≡ cond (is_same n k) (Some c.unwrap-slot.result.now) (found_at k c.self.inside.places.entries)) c.requires.same found in
    let none = ap (λ (s : Slots). slot_of s c.args.name) c.self.view_is ∙ c.requires.none in
    let kept = kept_given c.self.invariant c.pop.new.self.items c.unwrap-slot.result.now c.args.name stands c.requires.fit none at_name in
    kept_sound kept
