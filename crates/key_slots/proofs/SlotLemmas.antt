-- Who has each slot, and which slot is a key's.
use Rattle.std.proofs.Common.{ℕ, zero, suc, ◌+◌, ◌≡◌, ◌≤◌, ◌<◌, Bool, true, false, cond, List, [], ◌∷◌, ◌++◌, length, length-append, Option, Some, None, option_map, is_some, get_or, set, add-one, refl, sym, ap, ◌∙◌, inl, inr, arith}
use Rattle.std.specs.Prelude.{nat_eq, nat_lt, ◌↔◌, ◌⊎◌}
use Rattle.std.specs.Cmp.Lexicographic.{bytes_decides}
use Rattle.std.proofs.lemmas.Bool.{false≢true, cases_eq, cases_lt, cases_order, eq-eqb, ne_eqb, lt-ltb, le-ltb, cond-true, cond-false, false_from_ne_true}
use Rattle.std.proofs.lemmas.List.{get_or-set_same, get_or-set_other, get_or_at, get_or_append_left, get_or_past, set_past}
use Rattle.std.proofs.lemmas.Option.{same_Some}
use Rattle.key_slots.specs.Slots.{EachOnce, is_same, is_held, holder_at, place_of, held_with}
use Rattle.key_slots.specs.Laws.{EachSlotIsOneKeys, GivenSlotsAreOneKeys, FreedSlotsAreNobodys}

pub same_bytes : (key other : List ℕ) → is_same key other ≡ true → key ≡ other
same_bytes key other same = (bytes_decides key other).0 same

pub same_itself : (key : List ℕ) → is_same key key ≡ true
same_itself key = (bytes_decides key key).1 refl

pub same_not : (key other : List ℕ) → (key ≡ other → ⊥) → is_same key other ≡ false
same_not key other apart = false_from_ne_true (is_same key other) (λ same. apart (same_bytes key other same))

pub not_none : {A : Type 0} (x : A) → Some x ≡ None → ⊥
not_none x none = false≢true (sym (ap is_some none))

held_by : (key : List ℕ) (holder : Option (List ℕ)) → is_held key holder ≡ true → holder ≡ Some key
held_by key None held = absurd (false≢true held)
held_by key (Some other) held = ap (λ (k : List ℕ). Some k) (sym (same_bytes key other held))

-- what an element is after a write
pub set_at : {X : Type 0} (xs : List X) (i j : ℕ) (y d : X) → i < length xs → get_or (set xs i y) j d ≡ cond (nat_eq j i) y (get_or xs j d)
set_at xs i j y d short = by (cases_eq j i)
  where
    by : (j ≡ i) ⊎ (j ≡ i → ⊥) → get_or (set xs i y) j d ≡ cond (nat_eq j i) y (get_or xs j d)
    by (inl same) = ap (λ (n : ℕ). get_or (set xs i y) n d) same ∙ get_or-set_same xs i y d short ∙ sym (cond-true (nat_eq j i) y (get_or xs j d) (eq-eqb j i same))
    by (inr apart) = get_or-set_other xs i j y d apart ∙ sym (cond-false (nat_eq j i) y (get_or xs j d) (ne_eqb j i apart))

-- what an element is once one stands behind
pub add_at : {X : Type 0} (xs : List X) (j : ℕ) (y d : X) → get_or (xs ++ y ∷ []) j d ≡ cond (nat_eq j (length xs)) y (get_or xs j d)
add_at xs j y d = by (cases_order j (length xs))
  where
    by : (j ≡ length xs) ⊎ ((j < length xs) ⊎ (length xs < j)) → get_or (xs ++ y ∷ []) j d ≡ cond (nat_eq j (length xs)) y (get_or xs j d)
    by (inl same) = get_or_at xs y [] d j (sym same) ∙ sym (cond-true (nat_eq j (length xs)) y (get_or xs j d) (eq-eqb j (length xs) same))
    by (inr (inl below)) =
        get_or_append_left xs (y ∷ []) d j below
        ∙ sym (cond-false (nat_eq j (length xs)) y (get_or xs j d) (ne_eqb j (length xs) (λ same. omega (arith, same, below))))
    by (inr (inr above)) =
        let long = length-append xs (y ∷ []) in
        get_or_past (xs ++ y ∷ []) j d (omega (arith, long, above))
        ∙ sym (get_or_past xs j d (omega (arith, above)))
        ∙ sym (cond-false (nat_eq j (length xs)) y (get_or xs j d) (ne_eqb j (length xs) (λ same. omega (arith, same, above))))

-- who has the slot that a key's place is
pub place_held : (key : List ℕ) (holders : List (Option (List ℕ))) (slot : ℕ) → place_of key holders ≡ Some slot → holder_at holders slot ≡ Some key
place_held key [] slot h = absurd (false≢true (ap is_some h))
place_held key (holder ∷ holders) slot h = by (is_held key holder) (place_of key holders) (held_by key holder) (place_held key holders) h
  where
    by : (b : Bool) (o : Option ℕ) → (b ≡ true → holder ≡ Some key) → ((s : ℕ) → o ≡ Some s → holder_at holders s ≡ Some key)
        → cond b (Some 0) (option_map (λ (s : ℕ). s + 1) o) ≡ Some slot → holder_at (holder ∷ holders) slot ≡ Some key
    by true o held later is = rw (sym (same_Some 0 slot is)) (held refl)
    by false None held later is = absurd (false≢true (ap is_some is))
    by false (Some s) held later is = rw (sym (same_Some (s + 1) slot is) ∙ add-one s) (later s refl)

-- a key that has a slot has a place
pub held_placed : (key : List ℕ) (holders : List (Option (List ℕ))) (slot : ℕ) → holder_at holders slot ≡ Some key → place_of key holders ≡ None → ⊥
held_placed key [] slot held none = false≢true (ap is_some held)
held_placed key (holder ∷ holders) zero held none = first (is_held key holder) (ap (is_held key) held ∙ same_itself key) none
  where
    first : (b : Bool) → b ≡ true → cond b (Some 0) (option_map (λ (s : ℕ). s + 1) (place_of key holders)) ≡ None → ⊥
    first true is some = not_none 0 some
    first false is some = false≢true is
held_placed key (holder ∷ holders) (suc slot) held none = rest (is_held key holder) (place_of key holders) (held_placed key holders slot held) none
  where
    rest : (b : Bool) (o : Option ℕ) → (o ≡ None → ⊥) → cond b (Some 0) (option_map (λ (s : ℕ). s + 1) o) ≡ None → ⊥
    rest true o some is = not_none 0 is
    rest false None some is = some refl
    rest false (Some s) some is = not_none (s + 1) is

-- what finds each slot of a key finds its place
pub place_is : (key : List ℕ) (holders : List (Option (List ℕ))) (found : Option ℕ)
    → ((slot : ℕ) → (found ≡ Some slot) ↔ (holder_at holders slot ≡ Some key)) → found ≡ place_of key holders
place_is key holders found agree = by (place_of key holders) refl
  where
    lost : (o : Option ℕ) → found ≡ o → place_of key holders ≡ None → found ≡ None
    lost None is none = is
    lost (Some slot) is none = absurd (held_placed key holders slot ((agree slot).0 is) none)

    by : (place : Option ℕ) → place_of key holders ≡ place → found ≡ place
    by None none = lost found refl none
    by (Some slot) is = (agree slot).1 (place_held key holders slot is)

-- the place of a key that has a slot
pub held_place : (key : List ℕ) (holders : List (Option (List ℕ))) (slot : ℕ) → EachOnce holders → holder_at holders slot ≡ Some key
    → place_of key holders ≡ Some slot
held_place key holders slot once held = by (place_of key holders) refl
  where
    by : (place : Option ℕ) → place_of key holders ≡ place → place ≡ Some slot
    by None none = absurd (held_placed key holders slot held none)
    by (Some s) is = ap (λ (n : ℕ). Some n) (once key s slot (place_held key holders s is) held)

pub each_slot : EachSlotIsOneKeys
each_slot slots sound key slot = (place_held key slots.holders slot, held_place key slots.holders slot sound.once)

-- who has each slot once one is given
pub holder_given : (holders : List (Option (List ℕ))) (slot : ℕ) (key : List ℕ) (other : ℕ) → slot ≤ length holders
    → holder_at (held_with holders slot key) other ≡ cond (nat_eq other slot) (Some key) (holder_at holders other)
holder_given holders slot key other near = by (cases_lt slot (length holders))
  where
    by : (slot < length holders) ⊎ (length holders ≤ slot)
        → holder_at (held_with holders slot key) other ≡ cond (nat_eq other slot) (Some key) (holder_at holders other)
    by (inl below) =
        ap (λ (hs : List (Option (List ℕ))). holder_at hs other)
        (cond-true (nat_lt slot (length holders)) (set holders slot (Some key)) (holders ++ Some key ∷ []) (lt-ltb slot (length holders) below))
        ∙ set_at holders slot other (Some key) None below
    by (inr past) =
        let same : slot ≡ length holders = omega (arith, near, past) in
        ap (λ (hs : List (Option (List ℕ))). holder_at hs other)
        (cond-false (nat_lt slot (length holders)) (set holders slot (Some key)) (holders ++ Some key ∷ []) (le-ltb slot (length holders) past))
        ∙ add_at holders other (Some key) None
        ∙ ap (λ (n : ℕ). cond (nat_eq other n) (Some key) (holder_at holders other)) (sym same)

-- who has each slot once one is freed
pub holder_freed : (holders : List (Option (List ℕ))) (slot other : ℕ)
    → holder_at (set holders slot None) other ≡ cond (nat_eq other slot) None (holder_at holders other)
holder_freed holders slot other = by (cases_lt slot (length holders)) (cases_eq other slot)
  where
    by : (slot < length holders) ⊎ (length holders ≤ slot) → (other ≡ slot) ⊎ (other ≡ slot → ⊥)
        → holder_at (set holders slot None) other ≡ cond (nat_eq other slot) None (holder_at holders other)
    by (inl below) any = set_at holders slot other None None below
    by (inr past) (inl same) =
        ap (λ (hs : List (Option (List ℕ))). holder_at hs other) (set_past holders slot None past)
        ∙ get_or_past holders other None (omega (arith, past, same))
        ∙ sym (cond-true (nat_eq other slot) None (holder_at holders other) (eq-eqb other slot same))
    by (inr past) (inr apart) =
        ap (λ (hs : List (Option (List ℕ))). holder_at hs other) (set_past holders slot None past)
        ∙ sym (cond-false (nat_eq other slot) None (holder_at holders other) (ne_eqb other slot apart))

-- A map of keys and one of slots agree: what the one has is what the other has.
abbrev pub Agree : (List ℕ → Option ℕ) → (ℕ → Option (List ℕ)) → Type 0
Agree place holder = (key : List ℕ) (slot : ℕ) → (place key ≡ Some slot) ↔ (holder slot ≡ Some key)

-- they agree once a slot that was nobody's is given to a key that had none
pub agree_given : (place placed : List ℕ → Option ℕ) (holder held : ℕ → Option (List ℕ)) (key : List ℕ) (slot : ℕ)
    → Agree place holder → place key ≡ None → holder slot ≡ None
    → ((k : List ℕ) → placed k ≡ cond (is_same key k) (Some slot) (place k))
    → ((s : ℕ) → held s ≡ cond (nat_eq s slot) (Some key) (holder s)) → Agree placed held
agree_given place placed holder held key slot agree out nobody places holds k s = by (is_same key k) refl (cases_eq s slot)
  where
    by : (b : Bool) → is_same key k ≡ b → (s ≡ slot) ⊎ (s ≡ slot → ⊥) → (placed k ≡ Some s) ↔ (held s ≡ Some k)
    by true same (inl is) =
        let k_is = same_bytes key k same in (
          λ _. holds s ∙ cond-true (nat_eq s slot) (Some key) (holder s) (eq-eqb s slot is) ∙ ap (λ (n : List ℕ). Some n) k_is,
          λ _. places k ∙ cond-true (is_same key k) (Some slot) (place k) same ∙ ap (λ (n : ℕ). Some n) (sym is),
        )
    by true same (inr apart) =
        let k_is = same_bytes key k same in (
          λ p. absurd (apart (sym (same_Some slot s (sym (places k ∙ cond-true (is_same key k) (Some slot) (place k) same) ∙ p)))),
          λ h. absurd (not_none s (sym ((agree key s).1 (sym (holds s ∙ cond-false (nat_eq s slot) (Some key) (holder s) (ne_eqb s slot apart)) ∙ h
              ∙ ap (λ (n : List ℕ). Some n) (sym k_is))) ∙ out)),
        )
    by false other (inl is) = (
      λ p. absurd (not_none k (sym ((agree k slot).0 (sym (places k ∙ cond-false (is_same key k) (Some slot) (place k) other) ∙ p ∙ ap (λ (n : ℕ). Some n) is)) ∙ nobody)),
      λ h. absurd (false≢true (sym other ∙ ap (is_same key) (sym (same_Some key k (sym (holds s ∙ cond-true (nat_eq s slot) (Some key) (holder s) (eq-eqb s slot is)) ∙ h))) ∙ same_itself key)),
    )
    by false other (inr apart) =
        let was = places k ∙ cond-false (is_same key k) (Some slot) (place k) other in
        let had = holds s ∙ cond-false (nat_eq s slot) (Some key) (holder s) (ne_eqb s slot apart) in
        (λ p. had ∙ (agree k s).0 (sym was ∙ p), λ h. was ∙ (agree k s).1 (sym had ∙ h))

-- they agree once the slot of a key is freed
pub agree_freed : (place placed : List ℕ → Option ℕ) (holder held : ℕ → Option (List ℕ)) (key : List ℕ) (slot : ℕ)
    → Agree place holder → holder slot ≡ Some key
    → ((k : List ℕ) → placed k ≡ cond (is_same key k) None (place k))
    → ((s : ℕ) → held s ≡ cond (nat_eq s slot) None (holder s)) → Agree placed held
agree_freed place placed holder held key slot agree had places holds k s = by (is_same key k) refl (cases_eq s slot)
  where
    by : (b : Bool) → is_same key k ≡ b → (s ≡ slot) ⊎ (s ≡ slot → ⊥) → (placed k ≡ Some s) ↔ (held s ≡ Some k)
    by true same (inl is) = (
      λ p. absurd (not_none s (sym p ∙ places k ∙ cond-true (is_same key k) None (place k) same)),
      λ h. absurd (not_none k (sym h ∙ holds s ∙ cond-true (nat_eq s slot) None (holder s) (eq-eqb s slot is))),
    )
    by true same (inr apart) =
        let k_is = same_bytes key k same in (
          λ p. absurd (not_none s (sym p ∙ places k ∙ cond-true (is_same key k) None (place k) same)),
          λ h. absurd (apart (same_Some s slot (sym ((agree key s).1 (sym (holds s ∙ cond-false (nat_eq s slot) None (holder s) (ne_eqb s slot apart)) ∙ h
              ∙ ap (λ (n : List ℕ). Some n) (sym k_is))) ∙ (agree key slot).1 had))),
        )
    by false other (inl is) = (
      λ p. absurd (false≢true (sym other ∙ ap (is_same key) (sym (same_Some key k (sym had
          ∙ (agree k slot).0 (sym (places k ∙ cond-false (is_same key k) None (place k) other) ∙ p ∙ ap (λ (n : ℕ). Some n) is)))) ∙ same_itself key)),
      λ h. absurd (not_none k (sym h ∙ holds s ∙ cond-true (nat_eq s slot) None (holder s) (eq-eqb s slot is))),
    )
    by false other (inr apart) =
        let was = places k ∙ cond-false (is_same key k) None (place k) other in
        let held_was = holds s ∙ cond-false (nat_eq s slot) None (holder s) (ne_eqb s slot apart) in
        (λ p. held_was ∙ (agree k s).0 (sym was ∙ p), λ h. was ∙ (agree k s).1 (sym held_was ∙ h))

-- where they agree, no key has two slots
pub agree_once : (place : List ℕ → Option ℕ) (holders : List (Option (List ℕ))) → Agree place (holder_at holders) → EachOnce holders
agree_once place holders agree key slot other here there = same_Some slot other (sym ((agree key slot).1 here) ∙ (agree key other).1 there)

-- each slot of a key is its place
pub places_agree : (holders : List (Option (List ℕ))) → EachOnce holders → Agree (λ key. place_of key holders) (holder_at holders)
places_agree holders once key slot = (place_held key holders slot, held_place key holders slot once)

pub given : GivenSlotsAreOneKeys
given slots slot key sound near nobody out =
    let place : List ℕ → Option ℕ = λ k. place_of k slots.holders in
    let placed : List ℕ → Option ℕ = λ k. cond (is_same key k) (Some slot) (place k) in
    let now = held_with slots.holders slot key in
    let agree = agree_given place placed (holder_at slots.holders) (holder_at now) key slot (places_agree slots.holders sound.once) out nobody (λ _. refl)
    (λ s. holder_given slots.holders slot key s near) in
    record { keys = λ other. holder_given slots.holders slot key other near; places = λ other. sym (place_is other now (placed other) (agree other)) }

pub freed : FreedSlotsAreNobodys
freed slots slot sound = record { keys = λ other. holder_freed slots.holders slot other; places = λ other. places other (holder_at slots.holders slot) refl }
  where
    now : List (Option (List ℕ))
    now = set slots.holders slot None

    places : (other : List ℕ) (o : Option (List ℕ)) → holder_at slots.holders slot ≡ o
        → place_of other now ≡ cond (is_held other o) None (place_of other slots.holders)
    places other None nobody = sym (place_is other now (place_of other slots.holders) same)
      where
        same : (s : ℕ) → (place_of other slots.holders ≡ Some s) ↔ (holder_at now s ≡ Some other)
        same s =
            let is = holder_freed slots.holders slot s in
            let stays : holder_at now s ≡ holder_at slots.holders s = is ∙ kept s (cases_eq s slot) in
            let before = places_agree slots.holders sound.once other s in
            (λ p. stays ∙ before.0 p, λ h. before.1 (sym stays ∙ h))
          where
            kept : (s : ℕ) → (s ≡ slot) ⊎ (s ≡ slot → ⊥) → cond (nat_eq s slot) None (holder_at slots.holders s) ≡ holder_at slots.holders s
            kept s (inl e) = cond-true (nat_eq s slot) None (holder_at slots.holders s) (eq-eqb s slot e) ∙ sym nobody ∙ ap (holder_at slots.holders) (sym e)
            kept s (inr n) = cond-false (nat_eq s slot) None (holder_at slots.holders s) (ne_eqb s slot n)
    places other (Some key) had =
        let placed : List ℕ → Option ℕ = λ k. cond (is_same key k) None (place_of k slots.holders) in
        let agree = agree_freed (λ k. place_of k slots.holders) placed (holder_at slots.holders) (holder_at now) key slot (places_agree slots.holders sound.once) had
        (λ _. refl) (λ s. holder_freed slots.holders slot s) in
        sym (place_is other now (placed other) (agree other)) ∙ turned (is_same key other) refl
      where
        turned : (b : Bool) → is_same key other ≡ b → cond b None (place_of other slots.holders) ≡ cond (is_same other key) None (place_of other slots.holders)
        turned true same = sym (cond-true (is_same other key) None (place_of other slots.holders) (ap (λ (k : List ℕ). is_same k key) (sym (same_bytes key other same)) ∙ same_itself key))
        turned false apart = sym (cond-false (is_same other key) None (place_of other slots.holders)
            (same_not other key (λ same. false≢true (sym apart ∙ ap (is_same key) same ∙ same_itself key))))
