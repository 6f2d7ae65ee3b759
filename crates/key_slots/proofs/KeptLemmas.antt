-- How slots are kept in memory, and that they stay so.
use Rattle.std.proofs.Common.{ℕ, ◌+◌, ◌≡◌, ◌≤◌, ◌<◌, ◌^◌, Bool, true, false, cond, List, [], ◌∷◌, ◌++◌, length, length-append, Option, Some, None, is_some, get_or, set, refl, sym, ap, subst, ◌∙◌, inl, inr, arith}
use Rattle.std.specs.Prelude.{nat_eq, nat_lt, Vec, ◌-◌, ◌⊎◌, count_by, slice_get, option_to_list}
use Rattle.std.specs.Map.{KeepsOthers}
use Rattle.std.proofs.lemmas.Bool.{false≢true, cases_eq, cases_lt, eq-eqb, ne_eqb, lt-ltb, cond-true, cond-false}
use Rattle.std.proofs.lemmas.List.{length-set, get_or_default, get_or_past, set-get_or}
use Rattle.std.proofs.lemmas.List.Sums.{sum_by-cons, sum_by-append, sum_by-set}
use Rattle.std.proofs.lemmas.Option.{same_Some, slice_get_within, get_or_from_slice_get}
use Rattle.key_slots.specs.Slots.{Slots, IsSlotKey, IsSound, is_same, holder_at, place_of, with_key}
use Rattle.key_slots.specs.Kept.{found_at, vacancy, vacancy_at, IsKept}
use Rattle.key_slots.proofs.SlotLemmas.{same_bytes, same_itself, same_not, not_none, set_at, add_at, place_is, agree_given, agree_freed, agree_once}

-- whether two names are the same bytes
abbrev pub same_names : {A : Type 0} → Vec ℕ A → Vec ℕ A → Bool
same_names x y = is_same x.items y.items

pub kept_new : {A : Type 0} (room cap : ℕ) → room < 2 ^ 32 → IsKept {A = A} room [] [] [] cap
kept_new room cap low = record {
  agree = λ key slot. (λ p. absurd (false≢true (ap is_some p)), λ h. absurd (false≢true (ap is_some h)));
  fit = λ key slot h. absurd (false≢true (ap is_some h));
  freed = λ slot. refl;
  counted = refl;
  within = omega arith;
  spare = omega arith;
  low = low;
}

module _ {A : Type 0} {room : ℕ} {places : List (Vec ℕ A × ℕ)} {holders : List (Option (List ℕ))} {free : List ℕ} {cap : ℕ} (kept : IsKept room places holders free cap) where
  pub kept_sound : IsSound (record { room = room; holders = holders })
  kept_sound = record { once = agree_once (λ key. found_at key places) holders kept.agree; fit = kept.fit; within = kept.within }

  -- what the map has for a key is its place
  pub kept_found : (key : List ℕ) → found_at key places ≡ place_of key holders
  kept_found key = place_is key holders (found_at key places) (kept.agree key)

  -- a slot that nobody has stays as it is when it is freed
  pub kept_nobody : (slot : ℕ) → holder_at holders slot ≡ None → set holders slot None ≡ holders
  kept_nobody slot nobody = ap (λ (o : Option (List ℕ)). set holders slot o) (sym nobody) ∙ set-get_or holders slot None

  -- slots that are all taken are as many as the room, where none was freed and the last is at the room
  pub kept_full : length free ≡ 0 → length holders ≡ room → count_by is_some holders ≡ room
  kept_full none all = omega (arith, kept.counted, none, all)

  pub kept_not_full : (length free ≡ 0 → length holders ≡ room → ⊥) → count_by is_some holders ≡ room → ⊥
  kept_not_full some full =
      let counted = kept.counted in
      let within = kept.within in
      some (omega (arith, counted, within, full)) (omega (arith, counted, within, full))

-- what a map finds once a key's slot has changed
pub found_changed : {A : Type 0} (key : List ℕ) (o : Option ℕ) (old new : List (Vec ℕ A × ℕ)) → found_at key new ≡ o
    → KeepsOthers same_names (λ name. is_same key name.items) old new
    → (k : List ℕ) → found_at k new ≡ cond (is_same key k) o (found_at k old)
unfolding KeepsOthers
found_changed {A} key o old new is others k = by (is_same key k) refl
  where
    by : (b : Bool) → is_same key k ≡ b → found_at k new ≡ cond b o (found_at k old)
    by true same = ap (λ (n : List ℕ). found_at n new) (sym (same_bytes key k same)) ∙ is
    by false apart =
        others (λ name. is_same k name.items)
        (λ x y found. ap (λ (n : List ℕ). is_same n y.items) (same_bytes k x.items found))
        (λ x found. same_not k x.items (λ e.
        false≢true (sym apart ∙ ap (is_same key) (e ∙ sym (same_bytes key x.items found)) ∙ same_itself key)))

-- a slot that stands among the freed ones is nobody's
pub vacant_slot : (holders : List (Option (List ℕ))) (slot : ℕ) → 1 ≤ vacancy_at holders slot → (slot < length holders) × (holder_at holders slot ≡ None)
vacant_slot holders slot once = by (get_or holders slot (Some [])) refl (cases_lt slot (length holders))
  where
    by : (o : Option (List ℕ)) → get_or holders slot (Some []) ≡ o → (slot < length holders) ⊎ (length holders ≤ slot)
        → (slot < length holders) × (holder_at holders slot ≡ None)
    by None is (inl short) = (short, get_or_default holders slot None (Some []) short ∙ is)
    by None is (inr past) = absurd (not_none [] (sym (get_or_past holders slot (Some []) past) ∙ is))
    by (Some key) is any =
        let none : vacancy_at holders slot ≡ 0 = ap vacancy is in
        absurd (omega (arith, none, once))

-- how often a slot stands in a list with one more
pub count_behind : (slot : ℕ) (free : List ℕ) (last : ℕ) → count_by (nat_eq slot) (free ++ last ∷ []) ≡ count_by (nat_eq slot) free + cond (nat_eq slot last) 1 0
count_behind slot free last =
    let whole = sum_by-append (λ (n : ℕ). cond (nat_eq slot n) 1 0) free (last ∷ []) in
    let one = sum_by-cons (λ (n : ℕ). cond (nat_eq slot n) 1 0) last [] in
    omega (arith, whole, one)

-- how many slots are taken after a change
pub count_set : (holders : List (Option (List ℕ))) (slot : ℕ) (o : Option (List ℕ)) → slot < length holders
    → count_by is_some (set holders slot o) + cond (is_some (holder_at holders slot)) 1 0 ≡ count_by is_some holders + cond (is_some o) 1 0
count_set holders slot o short = sum_by-set (λ (h : Option (List ℕ)). cond (is_some h) 1 0) holders slot o None short

pub count_add : (holders : List (Option (List ℕ))) (key : List ℕ) → count_by is_some (holders ++ Some key ∷ []) ≡ count_by is_some holders + 1
count_add holders key =
    let whole = sum_by-append (λ (h : Option (List ℕ)). cond (is_some h) 1 0) holders (Some key ∷ []) in
    let one = sum_by-cons (λ (h : Option (List ℕ)). cond (is_some h) 1 0) (Some key) [] in
    omega (arith, whole, one)

-- who may have a slot once one is given
fit_given : (holders now : List (Option (List ℕ))) (slot : ℕ) (key : List ℕ) → IsSlotKey key
    → ((k : List ℕ) (s : ℕ) → holder_at holders s ≡ Some k → IsSlotKey k)
    → ((s : ℕ) → holder_at now s ≡ cond (nat_eq s slot) (Some key) (holder_at holders s))
    → (k : List ℕ) (s : ℕ) → holder_at now s ≡ Some k → IsSlotKey k
fit_given holders now slot key fit fits holds k s held = by (nat_eq s slot) (sym (holds s) ∙ held)
  where
    by : (b : Bool) → cond b (Some key) (holder_at holders s) ≡ Some k → IsSlotKey k
    by true is = rw (sym (same_Some key k is)) fit
    by false is = fits k s is

fit_freed : (holders now : List (Option (List ℕ))) (slot : ℕ)
    → ((k : List ℕ) (s : ℕ) → holder_at holders s ≡ Some k → IsSlotKey k)
    → ((s : ℕ) → holder_at now s ≡ cond (nat_eq s slot) None (holder_at holders s))
    → (k : List ℕ) (s : ℕ) → holder_at now s ≡ Some k → IsSlotKey k
fit_freed holders now slot fits holds k s held = by (nat_eq s slot) (sym (holds s) ∙ held)
  where
    by : (b : Bool) → cond b None (holder_at holders s) ≡ Some k → IsSlotKey k
    by true is = absurd (not_none k (sym is))
    by false is = fits k s is

-- the slot that stands last among the freed ones
pub last_free : {A : Type 0} {room cap : ℕ} {places : List (Vec ℕ A × ℕ)} {holders : List (Option (List ℕ))} {free : List ℕ}
    → IsKept room places holders free cap → (rest : List ℕ) (slot : ℕ) → free ≡ rest ++ slot ∷ []
    → (slot < length holders) × (holder_at holders slot ≡ None)
last_free {holders = holders} {free = free} kept rest slot is =
    let freed = kept.freed slot in
    let whole = ap (λ (l : List ℕ). count_by (nat_eq slot) l) is ∙ count_behind slot rest slot in
    let one : ◌≡◌ {A = ℕ} (cond (nat_eq slot slot) 1 0) 1 = cond-true (nat_eq slot slot) 1 0 (eq-eqb slot slot refl) in
    vacant_slot holders slot (omega (arith, freed, whole, one))

-- a slot that was freed is given
pub kept_given : {A : Type 0} {room cap : ℕ} {places placed : List (Vec ℕ A × ℕ)} {holders : List (Option (List ℕ))} {free : List ℕ}
    → IsKept room places holders free cap → (rest : List ℕ) (slot : ℕ) (key : List ℕ) → free ≡ rest ++ slot ∷ [] → IsSlotKey key
    → place_of key holders ≡ None
    → ((k : List ℕ) → found_at k placed ≡ cond (is_same key k) (Some slot) (found_at k places))
    → IsKept room placed (set holders slot (Some key)) rest cap
kept_given {A} {room} {cap} {places} {placed} {holders} {free} kept rest slot key is fit none found =
    let last = last_free kept rest slot is in
    let holds : (s : ℕ) → holder_at (set holders slot (Some key)) s ≡ cond (nat_eq s slot) (Some key) (holder_at holders s) =
    λ s. set_at holders slot s (Some key) None last.0 in
    let long = length-set holders slot (Some key) in
    let grown = ap (λ (l : List ℕ). length l) is ∙ length-append rest (slot ∷ []) in
    let set_one = count_set holders slot (Some key) last.0 in
    let before : ◌≡◌ {A = ℕ} (cond (is_some (holder_at holders slot)) 1 0) 0 = ap (λ (o : Option (List ℕ)). cond (is_some o) 1 0) last.1 in
    record {
      agree = agree_given (λ k. found_at k places) (λ k. found_at k placed) (holder_at holders) (holder_at (set holders slot (Some key))) key slot kept.agree
          (kept_found kept key ∙ none) last.1 found holds;
      fit = fit_given holders (set holders slot (Some key)) slot key fit kept.fit holds;
      freed = λ s. left s (cases_eq s slot) last.0;
      counted = omega (arith, kept.counted, grown, set_one, before, long);
      within = omega (arith, kept.within, long);
      spare = omega (arith, kept.spare, long);
      low = kept.low;
    }
  where
    left : (s : ℕ) → (s ≡ slot) ⊎ (s ≡ slot → ⊥) → slot < length holders
        → count_by (nat_eq s) rest ≡ vacancy_at (set holders slot (Some key)) s
    left s (inl same) short =
        let whole = ap (λ (l : List ℕ). count_by (nat_eq s) l) is ∙ count_behind s rest slot in
        let one : ◌≡◌ {A = ℕ} (cond (nat_eq s slot) 1 0) 1 = cond-true (nat_eq s slot) 1 0 (eq-eqb s slot same) in
        let most : vacancy_at holders s ≤ 1 = at_most (get_or holders s (Some [])) in
        let now : vacancy_at (set holders slot (Some key)) s ≡ 0 =
        ap vacancy (set_at holders slot s (Some key) (Some []) short ∙ cond-true (nat_eq s slot) (Some key) (get_or holders s (Some [])) (eq-eqb s slot same)) in
        omega (arith, kept.freed s, whole, one, most, now)
      where
        at_most : (o : Option (List ℕ)) → vacancy o ≤ 1
        at_most None = omega arith
        at_most (Some k) = omega arith
    left s (inr apart) short =
        let whole = ap (λ (l : List ℕ). count_by (nat_eq s) l) is ∙ count_behind s rest slot in
        let none : ◌≡◌ {A = ℕ} (cond (nat_eq s slot) 1 0) 0 = cond-false (nat_eq s slot) 1 0 (ne_eqb s slot apart) in
        let now : vacancy_at (set holders slot (Some key)) s ≡ vacancy_at holders s =
        ap vacancy (set_at holders slot s (Some key) (Some []) short ∙ cond-false (nat_eq s slot) (Some key) (get_or holders s (Some [])) (ne_eqb s slot apart)) in
        omega (arith, kept.freed s, whole, none, now)

-- the first slot that no key has had is given
pub kept_next : {A : Type 0} {room cap : ℕ} {places placed : List (Vec ℕ A × ℕ)} {holders : List (Option (List ℕ))} {free : List ℕ}
    → IsKept room places holders free cap → (key : List ℕ) (now : ℕ) → IsSlotKey key → place_of key holders ≡ None
    → length holders < room → length holders + 1 ≤ now
    → ((k : List ℕ) → found_at k placed ≡ cond (is_same key k) (Some (length holders)) (found_at k places))
    → IsKept room placed (holders ++ Some key ∷ []) free now
kept_next {A} {room} {cap} {places} {placed} {holders} {free} kept key now fit none some wide found =
    let holds : (s : ℕ) → holder_at (holders ++ Some key ∷ []) s ≡ cond (nat_eq s (length holders)) (Some key) (holder_at holders s) =
    λ s. add_at holders s (Some key) None in
    let long = length-append holders (Some key ∷ []) in
    let one = count_add holders key in
    record {
      agree = agree_given (λ k. found_at k places) (λ k. found_at k placed) (holder_at holders) (holder_at (holders ++ Some key ∷ [])) key (length holders) kept.agree
          (kept_found kept key ∙ none) (get_or_past holders (length holders) None (omega arith)) found holds;
      fit = fit_given holders (holders ++ Some key ∷ []) (length holders) key fit kept.fit holds;
      freed = λ s. kept.freed s ∙ sym (left s (cases_eq s (length holders)));
      counted = omega (arith, kept.counted, one, long);
      within = omega (arith, some, long);
      spare = omega (arith, wide, long);
      low = kept.low;
    }
  where
    left : (s : ℕ) → (s ≡ length holders) ⊎ (s ≡ length holders → ⊥) → vacancy_at (holders ++ Some key ∷ []) s ≡ vacancy_at holders s
    left s (inl same) =
        ap vacancy (add_at holders s (Some key) (Some [])
        ∙ cond-true (nat_eq s (length holders)) (Some key) (get_or holders s (Some [])) (eq-eqb s (length holders) same))
        ∙ sym (ap vacancy (get_or_past holders s (Some []) (omega (arith, same))))
    left s (inr apart) =
        ap vacancy (add_at holders s (Some key) (Some [])
        ∙ cond-false (nat_eq s (length holders)) (Some key) (get_or holders s (Some [])) (ne_eqb s (length holders) apart))

-- there is room among the freed slots for one that a key has
pub room_to_free : {A : Type 0} {room cap : ℕ} {places : List (Vec ℕ A × ℕ)} {holders : List (Option (List ℕ))} {free : List ℕ}
    → IsKept room places holders free cap → (slot : ℕ) (key : List ℕ) → slot < length holders → holder_at holders slot ≡ Some key → length free < cap
room_to_free {holders = holders} kept slot key short had =
    let one = count_set holders slot None short in
    let before : ◌≡◌ {A = ℕ} (cond (is_some (holder_at holders slot)) 1 0) 1 = ap (λ (o : Option (List ℕ)). cond (is_some o) 1 0) had in
    omega (arith, kept.counted, kept.spare, one, before)

-- a slot is freed
pub kept_freed : {A : Type 0} {room cap : ℕ} {places placed : List (Vec ℕ A × ℕ)} {holders : List (Option (List ℕ))} {free : List ℕ}
    → IsKept room places holders free cap → (slot : ℕ) (key : List ℕ) → slot < length holders → holder_at holders slot ≡ Some key
    → ((k : List ℕ) → found_at k placed ≡ cond (is_same key k) None (found_at k places))
    → IsKept room placed (set holders slot None) (free ++ slot ∷ []) cap
kept_freed {A} {room} {cap} {places} {placed} {holders} {free} kept slot key short had found =
    let holds : (s : ℕ) → holder_at (set holders slot None) s ≡ cond (nat_eq s slot) None (holder_at holders s) =
    λ s. set_at holders slot s None None short in
    let long = length-set holders slot None in
    let grown = length-append free (slot ∷ []) in
    let one = count_set holders slot None short in
    let before : ◌≡◌ {A = ℕ} (cond (is_some (holder_at holders slot)) 1 0) 1 = ap (λ (o : Option (List ℕ)). cond (is_some o) 1 0) had in
    record {
      agree = agree_freed (λ k. found_at k places) (λ k. found_at k placed) (holder_at holders) (holder_at (set holders slot None)) key slot kept.agree had found holds;
      fit = fit_freed holders (set holders slot None) slot kept.fit holds;
      freed = λ s. left s (cases_eq s slot);
      counted = omega (arith, kept.counted, grown, one, before, long);
      within = omega (arith, kept.within, long);
      spare = omega (arith, kept.spare, long);
      low = kept.low;
    }
  where
    left : (s : ℕ) → (s ≡ slot) ⊎ (s ≡ slot → ⊥) → count_by (nat_eq s) (free ++ slot ∷ []) ≡ vacancy_at (set holders slot None) s
    left s (inl same) =
        let whole = count_behind s free slot in
        let one : ◌≡◌ {A = ℕ} (cond (nat_eq s slot) 1 0) 1 = cond-true (nat_eq s slot) 1 0 (eq-eqb s slot same) in
        let was : vacancy_at holders s ≡ 0 =
        ap (λ (n : ℕ). vacancy_at holders n) same ∙ ap vacancy (get_or_default holders slot (Some []) None short ∙ had) in
        let now : vacancy_at (set holders slot None) s ≡ 1 =
        ap vacancy (set_at holders slot s None (Some []) short ∙ cond-true (nat_eq s slot) None (get_or holders s (Some [])) (eq-eqb s slot same)) in
        omega (arith, kept.freed s, whole, one, was, now)
    left s (inr apart) =
        let whole = count_behind s free slot in
        let none : ◌≡◌ {A = ℕ} (cond (nat_eq s slot) 1 0) 0 = cond-false (nat_eq s slot) 1 0 (ne_eqb s slot apart) in
        let now : vacancy_at (set holders slot None) s ≡ vacancy_at holders s =
        ap vacancy (set_at holders slot s None (Some []) short ∙ cond-false (nat_eq s slot) None (get_or holders s (Some [])) (ne_eqb s slot apart)) in
        omega (arith, kept.freed s, whole, none, now)

-- what is taken from the end is what stood there
pub last_stands : (free rest : List ℕ) (len slot : ℕ) (o : Option ℕ) → length free ≡ len → free ≡ rest ++ option_to_list o
    → ((d : ℕ) → 0 < len → o ≡ Some (get_or free (len - 1) d)) → slice_get free (length free - 1) ≡ Some slot → free ≡ rest ++ slot ∷ []
last_stands free rest len slot o long items value read =
    let here = subst (λ (n : ℕ). slice_get free (n - 1) ≡ Some slot) long read in
    let within = slice_get_within free (len - 1) slot here in
    items
    ∙ ap (λ (p : Option ℕ). rest ++ option_to_list p)
    (value 0 (omega (arith, within, long)) ∙ ap (λ (n : ℕ). Some n) (get_or_from_slice_get free (len - 1) slot 0 here))

-- the slots with these holders
abbrev pub slots_of : ℕ → List (Option (List ℕ)) → Slots
slots_of room holders = record { room = room; holders = holders }

-- a slot that was freed is written where it stands
pub with_set : (room : ℕ) (holders : List (Option (List ℕ))) (slot : ℕ) (key : List ℕ) → slot < length holders
    → slots_of room (set holders slot (Some key)) ≡ with_key (slots_of room holders) slot key
with_set room holders slot key short =
    ap (slots_of room)
    (sym (cond-true (nat_lt slot (length holders)) (set holders slot (Some key)) (holders ++ Some key ∷ []) (lt-ltb slot (length holders) short)))
