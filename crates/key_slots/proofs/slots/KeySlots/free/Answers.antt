use Rattle.std.proofs.Common.{ℕ, ◌≡◌, ◌<◌, ◌∙◌, List, length, Option, None, cond, set, sym, subst, arith}
use Rattle.std.proofs.lemmas.List.{get_or_default}
use Rattle.key_slots.specs.Slots.{IsSound, is_same, holder_at}
use Rattle.key_slots.specs.Kept.{found_at}
use Rattle.key_slots.proofs.KeptLemmas.{kept_sound, kept_nobody, kept_freed, found_changed}
use Rattle.key_slots.proofs.slots.KeySlots.free.Goals as goal

pub returns-then-place-len-clause-sound : goal.returns-then-place-len-clause-sound
returns-then-place-len-clause-sound c = subst IsSound c.self.view_is (kept_sound c.self.invariant)

pub invariant_of-self : goal.invariant_of-self
invariant_of-self c =
    let no = c.if-place-len.false in
    let long = c.self.inside.holders.ok.0 in
    let short : c.args.slot < length c.self.inside.holders.items = omega (arith, no, long) in
    let was : holder_at c.self.inside.holders.items c.args.slot ≡ c.replace.result =
    get_or_default c.self.inside.holders.items c.args.slot None c.index_mut.result.now short ∙ sym c.index_mut.ensures.value ∙ sym c.replace.ensures.value in
    let found = found_changed c.bytes.result.now None c.self.inside.places.entries c.remove.new.self.entries c.remove.ensures.updates.1 c.remove.ensures.updates.3 in
    let at_name = subst (λ (n : List ℕ). (k : List ℕ) → found_at k c.remove.new.self.entries
    ≡ cond (is_same n k) None (found_at k c.self.inside.places.entries)) c.bytes.ensures found in
    let kept = kept_freed c.self.invariant c.args.slot c.in-Some.name short (was ∙ c.in-Some.is) at_name in
    rw (c.replace.ensures.after, c.push_reserved.ensures.items, c.push_reserved.ensures.capacity) kept

pub returns-in-Some-clause-sound : goal.returns-in-Some-clause-sound
returns-in-Some-clause-sound c =
    let no = c.if-place-len.false in
    let long = c.self.inside.holders.ok.0 in
    let short : c.args.slot < length c.self.inside.holders.items = omega (arith, no, long) in
    let was : holder_at c.self.inside.holders.items c.args.slot ≡ c.replace.result =
    get_or_default c.self.inside.holders.items c.args.slot None c.index_mut.result.now short ∙ sym c.index_mut.ensures.value ∙ sym c.replace.ensures.value in
    let found = found_changed c.bytes.result.now None c.self.inside.places.entries c.remove.new.self.entries c.remove.ensures.updates.1 c.remove.ensures.updates.3 in
    let at_name = subst (λ (n : List ℕ). (k : List ℕ) → found_at k c.remove.new.self.entries
    ≡ cond (is_same n k) None (found_at k c.self.inside.places.entries)) c.bytes.ensures found in
    let kept = kept_freed c.self.invariant c.args.slot c.in-Some.name short (was ∙ c.in-Some.is) at_name in
    subst (λ (o : Option (List ℕ)). IsSound (record { room = c.self.inside.room; holders = set c.self.inside.holders.items c.args.slot o })) (sym c.replace.ensures.after)
    (kept_sound kept)

pub returns-in-None-clause-sound : goal.returns-in-None-clause-sound
returns-in-None-clause-sound c =
    let no = c.if-place-len.false in
    let long = c.self.inside.holders.ok.0 in
    let short : c.args.slot < length c.self.inside.holders.items = omega (arith, no, long) in
    let was : holder_at c.self.inside.holders.items c.args.slot ≡ c.replace.result =
    get_or_default c.self.inside.holders.items c.args.slot None c.index_mut.result.now short ∙ sym c.index_mut.ensures.value ∙ sym c.replace.ensures.value in
    subst (λ (o : Option (List ℕ)). IsSound (record { room = c.self.inside.room; holders = set c.self.inside.holders.items c.args.slot o })) (sym c.replace.ensures.after)
    (subst (λ (hs : List (Option (List ℕ))). IsSound (record { room = c.self.inside.room; holders = hs })) (sym (kept_nobody c.self.invariant c.args.slot (was ∙ c.in-None.is)))
    (kept_sound c.self.invariant))
