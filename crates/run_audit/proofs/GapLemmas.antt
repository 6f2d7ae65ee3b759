-- The first commit that isn't covered, and the least of its keys.
use Rattle.std.proofs.Common.{◌≡◌, ℕ, suc, ◌+◌, ◌<◌, ⊎_elim, ◌||◌, not, find, Bool, true, false, List, [], ◌∷◌, ◌++◌, length, take, get_or}
use Rattle.std.proofs.Common.{Option, Some, None, refl, sym, ap, subst, ◌∙◌, arith}
use Rattle.std.proofs.lemmas.Bool.Decides.{nat_tests}
use Rattle.std.proofs.lemmas.List.{take_more}
use Rattle.std.proofs.lemmas.Option.{get_or_from_slice_get, slice_get_within, slice_get_read}
use Rattle.rows_model.specs.declared.keys.QKey.{QKey}
use Rattle.rows_model.specs.declared.keys.Sid.{Sid}
use Rattle.rows_model.specs.Key.{same_key}
use Rattle.rows_model.specs.Changes.{touches, footprint, has_key, is_key_before}
use Rattle.rows_model.proofs.SameKey.{same_key-true, same_key-refl}
use Rattle.sql_keeper.specs.declared.stores.Commit.{Commit}
use Rattle.run_audit.specs.Answers.{InOrder}
use Rattle.run_audit.specs.Grants.{AreCovered, IsFirstGap}
use Rattle.run_audit.proofs.ListLemmas.{or_true, place-of, push-place}
use Rattle.run_audit.proofs.FootLemmas.{foot-exact, foot-in_order}

before-itself : (key : QKey) → is_key_before key key ≡ true → ⊥
before-itself key before = grind (arith, nat_tests)

before-both : (a b : QKey) → is_key_before b a ≡ true → is_key_before a b ≡ true → ⊥
before-both a b one other = grind (arith, nat_tests)

-- keys in order, without the first
order-tail : (key : QKey) (keys : List QKey) → InOrder (key ∷ keys) → InOrder keys
order-tail key keys order i j d lt in' = order (suc i) (suc j) d (omega arith) (omega arith)

-- the first stands before each other
order-head : (key other : QKey) (keys : List QKey) → InOrder (key ∷ keys) → has_key other keys ≡ true → is_key_before other key ≡ true
order-head key other keys order there =
    let found = place-of (same_key other) keys there in
    let same : other ≡ found.1 = same_key-true other found.1 found.3 in
    let at : get_or keys found.0 key ≡ found.1 = get_or_from_slice_get keys found.0 found.1 key found.2 in
    let in' = slice_get_within keys found.0 found.1 found.2 in
    let before : is_key_before (get_or keys found.0 key) key ≡ true = order 0 (suc found.0) key (omega arith) (omega (arith, in')) in
    rw (same, sym at) before

-- the first of keys in order that fails a test
pub record IsLeast (test : QKey → Bool) (keys : List QKey) (key : QKey) : Type 0 where
  pub fails : test key ≡ false
  pub there : has_key key keys ≡ true
  pub least : (other : QKey) → is_key_before key other ≡ true → has_key other keys ≡ true → test other ≡ true

pub found-least : (test : QKey → Bool) (keys : List QKey) (key : QKey) → InOrder keys → find (λ k. not (test k)) keys ≡ Some key → IsLeast test keys key
found-least test [] key order found = cc
found-least test (one ∷ keys) key order found = by (test one) refl (found-least test keys key (order-tail one keys order))
  where
    by : (b : Bool) → test one ≡ b → (find (λ k. not (test k)) keys ≡ Some key → IsLeast test keys key) → IsLeast test (one ∷ keys) key
    by false fails later =
        let here : Some one ≡ Some key = rw fails at found in
        let same : one ≡ key = cc in
        record {
          fails = ap test (sym same) ∙ fails;
          there = rw (same, same_key-refl key) refl;
          least = λ other before there. absurd (first_is_least same other before (same_key other one) refl there);
        }
      where
        first_is_least : one ≡ key → (other : QKey) → is_key_before key other ≡ true
            → (b : Bool) → same_key other one ≡ b → (b || has_key other keys) ≡ true → ⊥
        first_is_least same other before true at there =
            let one' : other ≡ key = same_key-true other one at ∙ same in
            before-itself key (subst (λ k. is_key_before key k ≡ true) one' before)
        first_is_least same other before false at there =
            let later' : is_key_before other key ≡ true = subst (λ k. is_key_before other k ≡ true) same (order-head one other keys order there) in
            before-both key other later' before
    by true passes later =
        let rest : find (λ k. not (test k)) keys ≡ Some key = rw passes at found in
        let h = later rest in
        record {
          fails = h.fails;
          there = rw h.there (or_true (same_key key one));
          least = λ other before there. each h other before (same_key other one) refl there;
        }
      where
        each : IsLeast test keys key → (other : QKey) → is_key_before key other ≡ true
            → (b : Bool) → same_key other one ≡ b → (b || has_key other keys) ≡ true → test other ≡ true
        each h other before true at there = ap test (same_key-true other one at) ∙ passes
        each h other before false at there = h.least other before there

-- where none fails, each passes
pub found-none : (test : QKey → Bool) (keys : List QKey) → find (λ k. not (test k)) keys ≡ None → (key : QKey) → has_key key keys ≡ true → test key ≡ true
found-none test [] none key there = cc
found-none test (one ∷ keys) none key there = by (test one) refl (found-none test keys)
  where
    by : (b : Bool) → test one ≡ b → (find (λ k. not (test k)) keys ≡ None → (k : QKey) → has_key k keys ≡ true → test k ≡ true) → test key ≡ true
    by false fails later = let here : Some one ≡ None = rw fails at none in cc
    by true passes later = within (same_key key one) refl there
      where
        within : (b : Bool) → same_key key one ≡ b → (b || has_key key keys) ≡ true → test key ≡ true
        within true at there' = ap test (same_key-true key one at) ∙ passes
        within false at there' = let rest : find (λ k. not (test k)) keys ≡ None = rw passes at none in later rest key there'

-- ---- the commits of a log

-- one commit more is covered
pub covered-more : (test : Sid → QKey → Bool) (log : List Commit) (i : ℕ) (commit : Commit) → i < length log → commit ≡ get_or log i commit
    → AreCovered test (take i log) → find (λ key. not (test commit.sid key)) (footprint commit.txn) ≡ None → AreCovered test (take (i + 1) log)
covered-more test log i commit in' is covered none place one key there touched =
    ⊎_elim
    (λ old. covered place one key old touched)
    (λ same. subst (λ (made : Commit). touches made.txn key ≡ true → test made.sid key ≡ true) same
    (λ here. found-none (test commit.sid) (footprint commit.txn) none key (foot-exact commit.txn key ∙ here)) touched)
    (push-place (take i log) commit place one (rw more at there))
  where
    more : take (i + 1) log ≡ take i log ++ commit ∷ []
    more = take_more log i commit in' ∙ ap (λ x. take i log ++ x ∷ []) (sym is)

-- the first commit of which a key fails
pub gap-found : (test : Sid → QKey → Bool) (log : List Commit) (i : ℕ) (commit : Commit) (key : QKey) → i < length log → commit ≡ get_or log i commit
    → AreCovered test (take i log) → find (λ k. not (test commit.sid k)) (footprint commit.txn) ≡ Some key → IsFirstGap test log (i + 1) key
gap-found test log i commit key in' is covered found =
    let h = found-least (test commit.sid) (footprint commit.txn) key (foot-in_order commit.txn) found in
    record {
      place = i;
      commit = commit;
      number_is = refl;
      there = slice_get_read log (length log) i commit refl in' is;
      touched = sym (foot-exact commit.txn key) ∙ h.there;
      fails = h.fails;
      covered_before = covered;
      least = λ other before touched. h.least other before (foot-exact commit.txn other ∙ touched);
    }

-- what is nothing that may be found is none
pub none-found : {X : Type 0} (found : Option X) → ((x : X) → found ≡ Some x → ⊥) → found ≡ None
none-found None not_some = refl
none-found (Some x) not_some = absurd (not_some x refl)
