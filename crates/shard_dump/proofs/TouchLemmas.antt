-- The numbers of the last commits, as a log grows.
use Rattle.std.proofs.Common.{◌≡◌, ℕ, zero, suc, ◌+◌, ◌<◌, ◌≤◌, ◌||◌, nat_lt, nat_le, Bool, true, false, cond, List, [], ◌∷◌, ◌++◌, length, drop}
use Rattle.std.proofs.Common.{Some, refl, sym, ap, ◌∙◌, arith}
use Rattle.std.specs.Map.{lookup}
use Rattle.std.specs.Option.{unwrap_or}
use Rattle.std.specs.List.{list_any}
use Rattle.std.specs.BTreeMap.{BTreeMap, get, is_at}
use Rattle.std.proofs.Math.Seq.{drop-nil}
use Rattle.std.proofs.lemmas.List.{drop_all, length-append}
use Rattle.std.proofs.lemmas.List.Folds.{list_any-append}
use Rattle.std.proofs.lemmas.Bool.{lt-ltb, le-ltb, leb-true, leb-false}
use Rattle.rows_model.specs.declared.keys.QKey.{QKey}
use Rattle.rows_model.specs.Key.{same_key}
use Rattle.rows_model.specs.Changes.{touches, footprint, has_key}
use Rattle.rows_model.proofs.SameKey.{same_key-swap}
use Rattle.rows_model.proofs.FootprintLemmas.{footprints_are_exact_is}
use Rattle.lease_table.specs.Standing.{key_cmp}
use Rattle.lease_table.proofs.KeyLemmas.{is_at-key}
use Rattle.sql_keeper.specs.declared.stores.Commit.{Commit}
use Rattle.shard_dump.specs.Dumps.{is_touched}
use Rattle.shard_dump.specs.Touches.{number_of, TellsTouches}

-- ---- the map of the numbers

pub number-get : (numbers : BTreeMap QKey ℕ) (key : QKey) → unwrap_or (get key_cmp numbers key) 0 ≡ number_of key numbers.entries
number-get numbers key = λ i. unwrap_or (lookup (λ k. is_at-key key k i) numbers.entries) 0

-- a key that was put has its number, and each other one keeps its own
pub number-put : (old new : BTreeMap QKey ℕ) (key : QKey) (number : ℕ)
    → ((other : QKey) → get key_cmp new other ≡ cond (is_at (key_cmp key) other) (Some number) (get key_cmp old other))
    → (other : QKey) → number_of other new.entries ≡ cond (same_key other key) number (number_of other old.entries)
number-put old new key number put other =
    let at : is_at (key_cmp key) other ≡ same_key other key = is_at-key key other ∙ same_key-swap key other in
    sym (number-get new other) ∙ ap (λ o. unwrap_or o 0) (put other ∙ ap (λ b. cond b (Some number) (get key_cmp old other)) at)
    ∙ by (same_key other key) (number-get old other)
  where
    by : (b : Bool) → unwrap_or (get key_cmp old other) 0 ≡ number_of other old.entries
        → unwrap_or (cond b (Some number) (get key_cmp old other)) 0 ≡ cond b number (number_of other old.entries)
    by true same = refl
    by false same = same

-- ---- a log that grows

-- no commit touches a key
pub tells-none : (numbers : BTreeMap QKey ℕ) → numbers.entries ≡ [] → TellsTouches [] numbers.entries
tells-none numbers none key stamp =
    ap (λ (entries : List (QKey × ℕ)). nat_lt stamp (number_of key entries)) none
    ∙ le-ltb stamp 0 (omega arith)
    ∙ ap (list_any (λ (commit : Commit). touches commit.txn key)) (sym (drop-nil stamp))

or_false : (b : Bool) → (b || false) ≡ b
or_false true = refl
or_false false = refl

or_true : (b : Bool) → (b || true) ≡ true
or_true true = refl
or_true false = refl

-- above a stamp within the log there is one commit more
any-push : (test : Commit → Bool) (stamp : ℕ) (log : List Commit) (commit : Commit) → stamp ≤ length log
    → list_any test (drop stamp (log ++ commit ∷ [])) ≡ (list_any test (drop stamp log) || test commit)
any-push test zero log commit within =
    list_any-append test log (commit ∷ []) ∙ ap (λ b. list_any test log || b) (or_false (test commit))
any-push test (suc stamp) [] commit within = absurd (omega arith)
any-push test (suc stamp) (one ∷ log) commit within = any-push test stamp log commit (omega arith)

-- a commit that touches a key gives it its number, and each other key keeps its own
pub tells-push : (log : List Commit) (commit : Commit) (old new : List (QKey × ℕ)) (number : ℕ)
    → TellsTouches log old → number ≡ length log + 1
    → ((key : QKey) → number_of key new ≡ cond (has_key key (footprint commit.txn)) number (number_of key old))
    → TellsTouches (log ++ commit ∷ []) new
tells-push log commit old new number tells number_is noted key stamp = by (touches commit.txn key) refl (nat_le stamp (length log)) refl
  where
    test : Commit → Bool
    test = λ one. touches one.txn key

    given : number_of key new ≡ cond (touches commit.txn key) number (number_of key old)
    given = noted key ∙ ap (λ b. cond b number (number_of key old)) ((footprints_are_exact_is commit.txn).exact key)

    none : (cs : List Commit) → length cs ≤ stamp → list_any test (drop stamp cs) ≡ false
    none cs few = ap (list_any test) (drop_all stamp cs few)

    by : (t : Bool) → touches commit.txn key ≡ t → (w : Bool) → nat_le stamp (length log) ≡ w
        → nat_lt stamp (number_of key new) ≡ is_touched (log ++ commit ∷ []) key stamp
    by true touched true within =
        let inside : stamp ≤ length log = leb-true stamp (length log) within in
        let noted_is : number_of key new ≡ number = given ∙ ap (λ b. cond b number (number_of key old)) touched in
        lt-ltb stamp (number_of key new) (omega (arith, noted_is, number_is, inside))
        ∙ sym (any-push test stamp log commit inside ∙ ap (λ b. list_any test (drop stamp log) || b) touched ∙ or_true (list_any test (drop stamp log)))
    by true touched false beyond =
        let outside : length log < stamp = leb-false stamp (length log) beyond in
        let noted_is : number_of key new ≡ number = given ∙ ap (λ b. cond b number (number_of key old)) touched in
        le-ltb stamp (number_of key new) (omega (arith, noted_is, number_is, outside))
        ∙ sym (none (log ++ commit ∷ []) (omega (arith, length-append log (commit ∷ []), outside)))
    by false apart true within =
        let inside : stamp ≤ length log = leb-true stamp (length log) within in
        ap (nat_lt stamp) (given ∙ ap (λ b. cond b number (number_of key old)) apart) ∙ tells key stamp
        ∙ sym (any-push test stamp log commit inside ∙ ap (λ b. list_any test (drop stamp log) || b) apart ∙ or_false (list_any test (drop stamp log)))
    by false apart false beyond =
        let outside : length log < stamp = leb-false stamp (length log) beyond in
        ap (nat_lt stamp) (given ∙ ap (λ b. cond b number (number_of key old)) apart) ∙ tells key stamp
        ∙ none log (omega (arith, outside)) ∙ sym (none (log ++ commit ∷ []) (omega (arith, length-append log (commit ∷ []), outside)))
