-- The keys that a commit touches, in order.
use Rattle.std.proofs.Common.{◌≡◌, ℕ, zero, suc, ◌+◌, ◌<◌, ◌≤◌, ◌||◌, true, false, List, [], ◌∷◌, ◌++◌, length, take, get_or, refl, ap, ◌∙◌, arith}
use Rattle.std.proofs.lemmas.Bool.Decides.{nat_tests}
use Rattle.std.proofs.lemmas.List.{take_more}
use Rattle.rows_model.specs.declared.keys.QKey.{QKey}
use Rattle.rows_model.specs.declared.changes.Change.{Change}
use Rattle.rows_model.specs.Key.{same_key}
use Rattle.rows_model.specs.Changes.{touches, footprint, has_key, is_key_before}
use Rattle.rows_model.proofs.FootprintLemmas.{footprints_are_exact_is}
use Rattle.run_audit.specs.Answers.{InOrder}
use Rattle.run_audit.proofs.ListLemmas.{any-push}

pub foot-exact : (txn : List Change) (key : QKey) → has_key key (footprint txn) ≡ touches txn key
foot-exact txn key = (footprints_are_exact_is txn).exact key

pub foot-in_order : (txn : List Change) → InOrder (footprint txn)
foot-in_order txn = (footprints_are_exact_is txn).ascends

-- a key doesn't stand before itself
before-apart : (a b : QKey) → is_key_before b a ≡ true → same_key b a ≡ false
before-apart a b before = grind (arith, nat_tests)

-- among keys in order none stands before its own place
none-before : (keys : List QKey) (i n : ℕ) (d : QKey) → n ≤ i → i < length keys → InOrder keys → has_key (get_or keys i d) (take n keys) ≡ false
none-before keys i zero d le in' order = refl
none-before keys i (suc n) d le in' order =
    let apart : same_key (get_or keys i d) (get_or keys n d) ≡ false = before-apart (get_or keys n d) (get_or keys i d) (order n i d (omega arith) in') in
    let rest = none-before keys i n d (omega arith) in' order in
    let next : suc n ≡ n + 1 = omega arith in
    let more : take (suc n) keys ≡ take n keys ++ get_or keys n d ∷ [] = ap (λ m. take m keys) next ∙ take_more keys n d (omega arith) in
    ap (has_key (get_or keys i d)) more ∙ any-push (same_key (get_or keys i d)) (take n keys) (get_or keys n d) ∙ rw (apart, rest) refl

pub none-twice : (keys : List QKey) (i : ℕ) (d : QKey) → i < length keys → InOrder keys → has_key (get_or keys i d) (take i keys) ≡ false
none-twice keys i d in' order = none-before keys i i d (omega arith) in' order

-- one key more
pub has_key-more : (keys : List QKey) (i : ℕ) (d key : QKey)
    → i < length keys → has_key key (take (i + 1) keys) ≡ (same_key key (get_or keys i d) || has_key key (take i keys))
has_key-more keys i d key in' = ap (has_key key) (take_more keys i d in') ∙ any-push (same_key key) (take i keys) (get_or keys i d)
