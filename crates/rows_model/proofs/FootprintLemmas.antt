-- A footprint has just the keys that are touched, in order and each once.
use Rattle.std.proofs.Common.{◌≡◌, Bool, true, false, List, [], ◌∷◌, get_or, fold, AllPairs, refl, ap, ◌∙◌, arith}
use Rattle.std.specs.Prelude.{count_by, ◌||◌, if◌then◌else◌}
use Rattle.std.specs.List.{flat_map, insert}
use Rattle.std.proofs.lemmas.Bool.{false≢true}
use Rattle.std.proofs.lemmas.Bool.Decides.{nat_tests}
use Rattle.std.proofs.lemmas.List.Folds.{list_any-append}
use Rattle.rows_model.specs.declared.keys.QKey.{QKey}
use Rattle.rows_model.specs.declared.changes.Change.{Change}
use Rattle.rows_model.specs.Key.{same_key}
use Rattle.rows_model.specs.Changes.{foot_of, has_key, touches, is_key_before, with_key}
use Rattle.rows_model.specs.Footprint.{FootprintsAreExact}
use Rattle.rows_model.proofs.SameKey.{same_key-true}
use Rattle.rows_model.proofs.FitLemmas.{pairs_insert, none_passes, any-insert}

-- `||` in another order
pub or_assoc : (t s d : Bool) → ((t || s) || d) ≡ (t || (s || d))
or_assoc true s d = refl
or_assoc false s d = refl

or_absorbed : (t s : Bool) → (s ≡ true → t ≡ true) → t ≡ (t || s)
or_absorbed true s h = refl
or_absorbed false true h = absurd (false≢true (h refl))
or_absorbed false false h = refl

-- a key is among the keys with one more where it is among them or is that one
has_go : (key new : QKey) (keys : List QKey) (b : Bool) → has_key new keys ≡ b
    → has_key key (if b then keys else insert keys (count_by (is_key_before new) keys) new) ≡ (has_key key keys || same_key key new)
has_go key new keys true e =
    or_absorbed (has_key key keys) (same_key key new) (λ same. ap (λ (k : QKey). has_key k keys) (same_key-true key new same) ∙ e)
has_go key new keys false e =
    any-insert (same_key key) keys (count_by (is_key_before new) keys) new

has_with : (key new : QKey) (keys : List QKey) → has_key key (with_key keys new) ≡ (has_key key keys || same_key key new)
has_with key new keys = has_go key new keys (has_key new keys) refl

has_all : (key : QKey) (keys more : List QKey) → has_key key (fold with_key keys more) ≡ (has_key key keys || has_key key more)
has_all key keys [] = or_absorbed (has_key key keys) false (λ e. absurd (false≢true e))
has_all key keys (new ∷ more) =
    has_all key (with_key keys new) more
    ∙ (ap (λ b. b || has_key key more) (has_with key new keys) ∙ or_assoc (has_key key keys) (same_key key new) (has_key key more))

has_touched : (key : QKey) (changes : List Change) → has_key key (flat_map foot_of changes) ≡ touches changes key
has_touched key [] = refl
has_touched key (change ∷ changes) =
    list_any-append (same_key key) (foot_of change) (flat_map foot_of changes) ∙ ap (λ b. has_key key (foot_of change) || b) (has_touched key changes)

-- the keys with one more ascend
stops : (new key later : QKey) → is_key_before later key ≡ true → is_key_before new key ≡ false → is_key_before new later ≡ false
stops new key later h e = grind (arith, nat_tests)

comes_after : (new key : QKey) → same_key new key ≡ false → is_key_before new key ≡ false → is_key_before key new ≡ true
comes_after new key other e = grind (arith, nat_tests)

ascends_go : (new : QKey) (keys : List QKey) (b : Bool) → has_key new keys ≡ b → AllPairs (λ key later. is_key_before later key ≡ true) keys
    → AllPairs (λ key later. is_key_before later key ≡ true) (if b then keys else insert keys (count_by (is_key_before new) keys) new)
ascends_go new keys true e pairs = pairs
ascends_go new keys false e pairs =
    let others = none_passes (same_key new) keys e in
    pairs_insert (λ key later. is_key_before later key ≡ true) (is_key_before new) new keys pairs
    (stops new) (λ k d l before. before) (λ k d l after. comes_after new (get_or keys k d) (others k d l) after)

ascends_all : (keys more : List QKey) → AllPairs (λ key later. is_key_before later key ≡ true) keys
    → AllPairs (λ key later. is_key_before later key ≡ true) (fold with_key keys more)
ascends_all keys [] pairs = pairs
ascends_all keys (new ∷ more) pairs = ascends_all (with_key keys new) more (ascends_go new keys (has_key new keys) refl pairs)

pub footprints_are_exact_is : FootprintsAreExact
footprints_are_exact_is changes = record {
  ascends = ascends_all [] (flat_map foot_of changes) (λ i j d low l. absurd (omega arith));
  exact = λ key. has_all key [] (flat_map foot_of changes) ∙ has_touched key changes;
}
