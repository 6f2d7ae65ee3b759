-- No two keys of a plain map are the same.
use Rattle.std.proofs.Common.{ℕ, ◌≡◌, Bool, true, false, List, [], ◌∷◌, cond, subst, ⊎_elim, refl, sym}
use Rattle.std.specs.List.{AllByRecursion, IsDistinct}
use Rattle.std.specs.List.Sorted.{IsPermutation}
use Rattle.std.specs.Map.{keys_of}
use Rattle.std.specs.Cmp.Lexicographic.{nat_list_eq_equiv}
use Rattle.std.proofs.lemmas.List.Sorted.{IsPermutation-map}
use Rattle.std.proofs.lemmas.Map.Keys.{IsDistinct-head, IsDistinct-tail, IsDistinct-cons, IsDistinct-IsPermutation}
use Rattle.mc_text.specs.declared.plain_replies.PlainReply.{PlainReply}
use Rattle.plain_ops.specs.declared.items.Item.{Item}
use Rattle.plain_ops.specs.Entries.{is_same, without}
use Rattle.plain_ops.specs.Steps.{PlainMap, Effect, tells, drops, stores, IsStored, IsRefused, ComesOf}
use Rattle.plain_ops.proofs.EntryLemmas.{same_bytes}

-- what holds of all keys holds of those that are left
all_without : (P : List ℕ → Type 0) (key : List ℕ) (entries : List (List ℕ × Item)) → AllByRecursion P (keys_of entries)
    → AllByRecursion P (keys_of (without entries key))
all_without P key [] all = all
all_without P key (e ∷ es) all = by (is_same key e.0) (all_without P key es all.1)
  where
    by : (b : Bool) → AllByRecursion P (keys_of (without es key)) → AllByRecursion P (keys_of (cond b es (e ∷ without es key)))
    by true later = all.1
    by false later = (all.0, later)

-- keys that are left differ
distinct_without : (key : List ℕ) (entries : List (List ℕ × Item)) → IsDistinct is_same (keys_of entries) → IsDistinct is_same (keys_of (without entries key))
distinct_without key [] d = d
distinct_without key (e ∷ es) d = by (is_same key e.0) (distinct_without key es (IsDistinct-tail is_same e.0 (keys_of es) d))
  where
    by : (b : Bool) → IsDistinct is_same (keys_of (without es key)) → IsDistinct is_same (keys_of (cond b es (e ∷ without es key)))
    by true later = IsDistinct-tail is_same e.0 (keys_of es) d
    by false later =
        IsDistinct-cons is_same e.0 (keys_of (without es key)) (all_without _ key es (IsDistinct-head is_same e.0 (keys_of es) d)) later

-- and none of them is the key that goes
others_differ : (key : List ℕ) (entries : List (List ℕ × Item)) → IsDistinct is_same (keys_of entries)
    → AllByRecursion (λ other. is_same key other ≡ false) (keys_of (without entries key))
others_differ key [] d = tt
others_differ key (e ∷ es) d = by (is_same key e.0) refl (others_differ key es (IsDistinct-tail is_same e.0 (keys_of es) d))
  where
    by : (b : Bool) → is_same key e.0 ≡ b → AllByRecursion (λ other. is_same key other ≡ false) (keys_of (without es key))
        → AllByRecursion (λ other. is_same key other ≡ false) (keys_of (cond b es (e ∷ without es key)))
    by true is later =
        subst (λ (k : List ℕ). AllByRecursion (λ other. is_same k other ≡ false) (keys_of es)) (sym (same_bytes key e.0 is))
        (IsDistinct-head is_same e.0 (keys_of es) d)
    by false is later = (is, later)

differ_moved : (old new : List (List ℕ × Item)) → IsPermutation old new → IsDistinct is_same (keys_of old) → IsDistinct is_same (keys_of new)
differ_moved old new moved d =
    IsDistinct-IsPermutation is_same nat_list_eq_equiv.symm (keys_of old) (keys_of new) (IsPermutation-map (λ (e : List ℕ × Item). e.0) old new moved) d

pub effect_differs : (old new : PlainMap) (effect : Effect) (reply : PlainReply) → ComesOf old effect new reply → IsDistinct is_same (keys_of old.entries)
    → IsDistinct is_same (keys_of new.entries)
effect_differs old new (tells wanted) reply h d = rw h.1 d
effect_differs old new (drops key) reply h d = differ_moved (without old.entries key) new.entries h.1 (distinct_without key old.entries d)
effect_differs old new (stores key flags value wanted) reply h d =
    ⊎_elim (λ (s : IsStored old key flags value new × (reply ≡ wanted)). differ_moved _ new.entries s.0.entries
    (IsDistinct-cons is_same key (keys_of (without old.entries key)) (others_differ key old.entries d) (distinct_without key old.entries d)))
    (λ (r : IsRefused old key flags value reply × (new ≡ old)). rw r.1 d) h
