-- What the end of a quarantine leaves of the key's entry.
use Rattle.std.proofs.Common.{◌≡◌, ℕ, Bool, true, false, not, cond, List, filter, Option, Some, None, is_some, option_map, refl, sym, ap, ◌∙◌, inl, inr}
use Rattle.std.specs.Prelude.{ℤ, decimal}
use Rattle.std.proofs.lemmas.Bool.{cases_Bool}
use Rattle.rows_model.specs.declared.keys.QKey.{QKey}
use Rattle.rows_model.specs.Key.{same_key}
use Rattle.rows_model.specs.Shift.{shifted}
use Rattle.rows_model.proofs.SameKey.{same_key-true, same_key-swap}
use Rattle.entry_table.specs.Entries.{Item, Table, IsSound, lookup, without, replaced, keys}
use Rattle.entry_table.proofs.EntriesLemmas.{lookup-without, lookup-replaced, without-absent, keys-replaced}
use Rattle.key_shard.specs.declared.steps.Ended.{Ended}
use Rattle.key_shard.specs.declared.steps.Ended.TheVariants.{Keep, Drop, Shift}
use Rattle.key_shard.specs.Past.{entry_ended, entry_shifted}
use Rattle.key_shard.specs.Kept.{Ends}
use Rattle.key_shard.proofs.PutLemmas.{keys-without_key}

-- what stands where the test of keys passes may be that of the key itself
at_key : (f : QKey → Option (List ℕ × ℕ)) (key other : QKey) (found : Option (List ℕ × ℕ)) (else_ : Option (List ℕ × ℕ))
    → f key ≡ found → cond (same_key other key) (f other) else_ ≡ cond (same_key other key) found else_
at_key f key other found else_ e =
    elim (cases_Bool (same_key other key)) [
      | inl same ↦ ap (λ x. cond (same_key other key) (f x) else_) (same_key-true other key same) ∙ ap (λ o. cond (same_key other key) o else_) e
      | inr apart ↦ ap (λ b. cond b (f other) else_) apart ∙ sym (ap (λ b. cond b found else_) apart)
    ]

Ends-by : (key : QKey) (how : Ended) (old new : Table) (found : Option (List ℕ × ℕ)) → entry_ended how (lookup key old.list) ≡ found
    → ((other : QKey) → lookup other new.list ≡ cond (same_key other key) found (lookup other old.list))
    → keys new.list ≡ cond (is_some found) (keys old.list) (filter (λ other. not (same_key key other)) (keys old.list))
    → new.room ≡ old.room → IsSound new → Ends key how old new
Ends-by key how old new found e entries in_order room sound = record {
  entries = λ other. entries other ∙ sym (at_key (λ k. entry_ended how (lookup k old.list)) key other found (lookup other old.list) e);
  in_order = in_order ∙ ap (λ o. cond (is_some o) (keys old.list) (filter (λ other. not (same_key key other)) (keys old.list))) (sym e);
  same_room = room;
  sound = sound;
}

-- where a key has no entry, the keys are those less it
none-there : (key : QKey) (list : List Item) → lookup key list ≡ None → keys list ≡ filter (λ other. not (same_key key other)) (keys list)
none-there key list none = sym (ap keys (without-absent key list none)) ∙ keys-without_key key list

kept-order : (key : QKey) (list : List Item) (found : Option (List ℕ × ℕ))
    → lookup key list ≡ found → keys list ≡ cond (is_some found) (keys list) (filter (λ other. not (same_key key other)) (keys list))
kept-order key list None none = none-there key list none
kept-order key list (Some f) there = refl

same_entries : (key : QKey) (list : List Item) (found : Option (List ℕ × ℕ))
    → lookup key list ≡ found → (other : QKey) → lookup other list ≡ cond (same_key other key) found (lookup other list)
same_entries key list found e other =
    both (same_key other key) (lookup other list) ∙ at_key (λ k. lookup k list) key other found (lookup other list) e
  where
    both : (b : Bool) (o : Option (List ℕ × ℕ)) → o ≡ cond b o o
    both true o = refl
    both false o = refl

pub Ends-keep : (key : QKey) (table : Table) → IsSound table → Ends key Keep table table
Ends-keep key table sound =
    Ends-by key Keep table table (lookup key table.list) refl (same_entries key table.list (lookup key table.list) refl)
    (kept-order key table.list (lookup key table.list) refl) refl sound

lost : (key : QKey) (old : Table) (new : List Item) → new ≡ without key old.list
    → (other : QKey) → lookup other new ≡ cond (same_key other key) None (lookup other old.list)
lost key old new e other =
    ap (lookup other) e ∙ lookup-without key other old.list ∙ ap (λ b. cond b None (lookup other old.list)) (same_key-swap key other)

pub Ends-drop : (key : QKey) (old new : Table) → new.list ≡ without key old.list → new.room ≡ old.room → IsSound new → Ends key Drop old new
Ends-drop key old new e room sound =
    Ends-by key Drop old new None refl (lost key old new.list e) (ap keys e ∙ keys-without_key key old.list) room sound

-- a shift where there is no entry
pub Ends-none : (key : QKey) (by : ℤ) (stamp : ℕ) (table : Table) → None ≡ lookup key table.list → IsSound table → Ends key (Shift by stamp) table table
Ends-none key by stamp table none sound =
    Ends-by key (Shift by stamp) table table None (ap (entry_shifted by stamp) (sym none))
    (same_entries key table.list None (sym none)) (none-there key table.list (sym none)) refl sound

-- a shift of what is no number
pub Ends-lost : (key : QKey) (by : ℤ) (stamp : ℕ) (old new : Table) (found : List ℕ × ℕ) → Some found ≡ lookup key old.list
    → None ≡ shifted found.0 by → new.list ≡ without key old.list → new.room ≡ old.room → IsSound new → Ends key (Shift by stamp) old new
Ends-lost key by stamp old new found there none e room sound =
    Ends-by key (Shift by stamp) old new None (ap (entry_shifted by stamp) (sym there)
    ∙ ap (option_map (λ n. (decimal n, stamp))) (sym none)) (lost key old new.list e) (ap keys e ∙ keys-without_key key old.list) room sound

-- a shift of a number
pub Ends-moved : (key : QKey) (by : ℤ) (stamp : ℕ) (old new : Table) (found : List ℕ × ℕ) (number : ℕ) → Some found ≡ lookup key old.list
    → Some number ≡ shifted found.0 by → new.list ≡ replaced key (decimal number) stamp old.list
    → new.room ≡ old.room → IsSound new → Ends key (Shift by stamp) old new
Ends-moved key by stamp old new found number there some e room sound =
    let moved : Option (List ℕ × ℕ) = Some (decimal number, stamp) in
    Ends-by key (Shift by stamp) old new moved (ap (entry_shifted by stamp) (sym there) ∙ ap (option_map (λ n. (decimal n, stamp))) (sym some))
    (λ other. ap (lookup other) e ∙ lookup-replaced key other (decimal number) stamp old.list
    ∙ ap (λ b. cond b (option_map (λ _. (decimal number, stamp)) (lookup other old.list)) (lookup other old.list)) (same_key-swap key other)
    ∙ at_key (λ k. option_map (λ _. (decimal number, stamp)) (lookup k old.list)) key other moved (lookup other old.list)
    (ap (option_map (λ _. (decimal number, stamp))) (sym there))) (ap keys e ∙ keys-replaced key (decimal number) stamp old.list) room sound
