-- The keys of one change, by kind and member.
use Rattle.std.proofs.Common.{ℕ, ◌+◌, ◌<◌, ◌≤◌, ◌≡◌, Bool, List, [], ◌∷◌, ◌++◌, length, drop, get_or, fold, refl, sym, ap, ◌∙◌}
use Rattle.std.specs.Prelude.{◌||◌}
use Rattle.std.specs.List.{list_any, flat_map}
use Rattle.std.proofs.lemmas.List.{at_drop_more, at_drop_all}
use Rattle.std.proofs.lemmas.List.Folds.{list_any-append}
use Rattle.rows_model.specs.declared.keys.Kind.{Kind}
use Rattle.rows_model.specs.declared.keys.QKey.{QKey}
use Rattle.rows_model.specs.declared.changes.Change.{Change}
use Rattle.rows_model.specs.Key.{same_key}
use Rattle.rows_model.specs.Changes.{keys_of, foot_of, has_key, with_key}

-- a key is one of a member's by its kind
pub has_keys_of : (key : QKey) (id : ℕ) (kinds : List Kind)
    → has_key key (keys_of id kinds) ≡ list_any (λ kind. same_key key (record { kind = kind; id = id })) kinds
has_keys_of key id [] = refl
has_keys_of key id (kind ∷ kinds) = ap (λ (b : Bool). same_key key (record { kind = kind; id = id }) || b) (has_keys_of key id kinds)

-- the keys of two members
pub has_both : (key : QKey) (a b : ℕ) (of_a of_b : List Kind) → has_key key (keys_of a of_a ++ keys_of b of_b)
    ≡ (list_any (λ kind. same_key key (record { kind = kind; id = a })) of_a || list_any (λ kind. same_key key (record { kind = kind; id = b })) of_b)
has_both key a b of_a of_b =
    list_any-append (same_key key) (keys_of a of_a) (keys_of b of_b)
    ∙ (ap (λ (x : Bool). x || has_key key (keys_of b of_b)) (has_keys_of key a of_a)
    ∙ ap (λ (x : Bool). list_any (λ kind. same_key key (record { kind = kind; id = a })) of_a || x) (has_keys_of key b of_b))

-- one more key of a member
pub keys_more : (keys next : List QKey) (id : ℕ) (kinds : List Kind) (i : ℕ) (kind : Kind) → i < length kinds → kind ≡ get_or kinds i kind
    → next ≡ with_key keys (record { kind = kind; id = id })
    → fold with_key next (keys_of id (drop (i + 1) kinds)) ≡ fold with_key keys (keys_of id (drop i kinds))
keys_more keys next id kinds i kind l is put =
    let step : fold with_key keys (keys_of id (drop i kinds))
    ≡ fold with_key (with_key keys (record { kind = get_or kinds i kind; id = id })) (keys_of id (drop (i + 1) kinds)) =
    at_drop_more (λ rest. fold with_key keys (keys_of id rest)) kinds i kind l in
    ap (λ (ks : List QKey). fold with_key ks (keys_of id (drop (i + 1) kinds))) (put ∙ ap (λ (k : Kind). with_key keys (record { kind = k; id = id })) is)
    ∙ sym step

pub keys_all : (keys : List QKey) (id : ℕ) (kinds : List Kind) (i : ℕ) → length kinds ≤ i → fold with_key keys (keys_of id (drop i kinds)) ≡ keys
keys_all keys id kinds i l = at_drop_all (λ rest. fold with_key keys (keys_of id rest)) kinds i l

fold_on : (keys : List QKey) (xs ys : List QKey) → fold with_key keys (xs ++ ys) ≡ fold with_key (fold with_key keys xs) ys
fold_on keys [] ys = refl
fold_on keys (x ∷ xs) ys = fold_on (with_key keys x) xs ys

-- the keys of one more change
pub foot_more : (keys mid next : List QKey) (changes : List Change) (i : ℕ) (change : Change) (a b : ℕ) (of_a of_b : List Kind) → i < length changes
    → change ≡ get_or changes i change → keys_of a of_a ++ keys_of b of_b ≡ foot_of change → mid ≡ fold with_key keys (keys_of a of_a)
    → next ≡ fold with_key mid (keys_of b of_b)
    → fold with_key next (flat_map foot_of (drop (i + 1) changes)) ≡ fold with_key keys (flat_map foot_of (drop i changes))
foot_more keys mid next changes i change a b of_a of_b l is foot first second =
    let rest = flat_map foot_of (drop (i + 1) changes) in
    let step : fold with_key keys (flat_map foot_of (drop i changes)) ≡ fold with_key keys (foot_of (get_or changes i change) ++ rest) =
    at_drop_more (λ cs. fold with_key keys (flat_map foot_of cs)) changes i change l in
    let whole : next ≡ fold with_key keys (foot_of (get_or changes i change)) =
    second ∙ (ap (λ (ks : List QKey). fold with_key ks (keys_of b of_b)) first
    ∙ (sym (fold_on keys (keys_of a of_a) (keys_of b of_b))
    ∙ (ap (λ (ks : List QKey). fold with_key keys ks) foot ∙ ap (λ (c : Change). fold with_key keys (foot_of c)) is))) in
    ap (λ (ks : List QKey). fold with_key ks rest) whole ∙ (sym (fold_on keys (foot_of (get_or changes i change)) rest) ∙ sym step)

pub foot_all : (keys : List QKey) (changes : List Change) (i : ℕ) → length changes ≤ i → fold with_key keys (flat_map foot_of (drop i changes)) ≡ keys
foot_all keys changes i l = at_drop_all (λ cs. fold with_key keys (flat_map foot_of cs)) changes i l
