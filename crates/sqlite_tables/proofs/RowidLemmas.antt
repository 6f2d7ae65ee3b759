-- Rows whose rowids are apart: what keeps them so, and that one rowid tells one row.
use Rattle.std.proofs.Common.{◌≡◌, inl, inr, ◌≤◌, ℤ, Bool, true, false, List, [], ◌∷◌, filter, length}
use Rattle.std.proofs.Common.{Ordering, Less, Equal, Greater, is_eq, IsTrue, refl, sym, ap, subst, ◌∙◌, arith, true≢false, IsPermutation}
use Rattle.std.specs.List.{list_any}
use Rattle.std.specs.Ordering.{match_ordering, int_cmp}
use Rattle.std.proofs.lemmas.Bool.{cases_Bool, or_parts}
use Rattle.std.proofs.lemmas.Cmp.{tied_itself}
use Rattle.std.proofs.lemmas.Int.{ints}
use Rattle.std.proofs.lemmas.List.Sorted.{length_permutation, IsPermutation-refl, IsPermutation-trans, IsPermutation-cons, IsPermutation-middle}
use Rattle.sqlite.specs.declared.types.Value.TheVariants.{Int}
use Rattle.sqlite.specs.Order.{Row}
use Rattle.sqlite_value.specs.Order.{value_cmp}
use Rattle.sqlite_value.proofs.OrderLemmas.{value_cmp-Int, value_cmp_total}
use Rattle.sqlite_trees.specs.Tree.{rowid, has_rowid, put_row}
use Rattle.sqlite_trees.specs.View.{is_int}
use Rattle.sqlite_trees.proofs.ListLemmas.{IsPermutation-filter}
use Rattle.sqlite_trees.proofs.TreeLemmas.{all-put_row}
use Rattle.sqlite_rules.specs.Edit.{is_taken, id_in}
use Rattle.sqlite_rules.specs.Lists.{Has}
use Rattle.sqlite_rules.proofs.ListLemmas.{all_has, all_from, has_filtered, has_kept}
use Rattle.sqlite_rules.proofs.TableLemmas.{int_is, taken_is}
use Rattle.sqlite_tables.specs.Lists.{HaveRowids}

-- a row whose rowid is free is put among the others
pub put_mixes : (new : Row) (rows : List Row) → is_taken rows new ≡ false → IsPermutation (new ∷ rows) (put_row new rows)
put_mixes new [] free = IsPermutation-refl (new ∷ [])
put_mixes new (r ∷ rows) free = go (value_cmp (rowid r) (rowid new)) (or_parts _ _ free).0 (put_mixes new rows (or_parts _ _ free).1)
  where
    go : (o : Ordering) → is_eq o ≡ false → IsPermutation (new ∷ rows) (put_row new rows) → IsPermutation (new ∷ r ∷ rows) (match_ordering o (r ∷ put_row new rows) (new ∷ rows) (new ∷ r ∷ rows))
    go Less other later = IsPermutation-trans (new ∷ r ∷ rows) (r ∷ new ∷ rows) (r ∷ put_row new rows) (IsPermutation-middle (new ∷ []) r rows)
        (IsPermutation-cons r (new ∷ rows) (put_row new rows) later)
    go Equal other later = absurd (true≢false other)
    go Greater other later = IsPermutation-refl (new ∷ r ∷ rows)

equal_is : (o : Ordering) → is_eq o ≡ true → o ≡ Equal
equal_is Less h = absurd (cc)
equal_is Equal h = refl
equal_is Greater h = absurd (cc)

tied_ints : (m n : ℤ) → is_eq (int_cmp m n) ≡ true → m ≡ n
tied_ints m n h = grind (arith, ints)

same_int : (m n : ℤ) → is_eq (value_cmp (Int m) (Int n)) ≡ true → m ≡ n
same_int m n h = tied_ints m n (ap is_eq (sym (value_cmp-Int m n)) ∙ h)

-- the rowid of a row is this number
pub number_is : (row : Row) (id : ℤ) → IsTrue (is_int (rowid row)) → has_rowid id row ≡ true → id_in (rowid row) ≡ id
number_is row id keyed has = same_int (id_in (rowid row)) id (subst (λ v. is_eq (value_cmp v (Int id)) ≡ true) (int_is (rowid row) keyed) has)

-- and a row has its own
pub own_rowid : (row : Row) → IsTrue (is_int (rowid row)) → has_rowid (id_in (rowid row)) row ≡ true
own_rowid row keyed = subst (λ v. is_eq (value_cmp (rowid row) v) ≡ true) (int_is (rowid row) keyed) (ap is_eq (tied_itself value_cmp_total (rowid row)))

none_kept : {X : Type 0} (p : X → Bool) (xs : List X) → list_any p xs ≡ false → filter p xs ≡ []
none_kept p [] none = refl
none_kept p (x ∷ xs) none = let parts = or_parts (p x) (list_any p xs) none in rw (parts.0, none_kept p xs parts.1) refl

pub rowids_put : (new : Row) (rows : List Row) → HaveRowids rows → IsTrue (is_int (rowid new)) → is_taken rows new ≡ false → HaveRowids (put_row new rows)
rowids_put new rows have keyed free = record {
  numbers = all-put_row (λ row. IsTrue (is_int (rowid row))) new rows keyed have.numbers;
  apart = λ id.
      let count : length (filter (has_rowid id) (put_row new rows)) ≡ length (filter (has_rowid id) (new ∷ rows)) =
      length_permutation _ _ (IsPermutation-filter (has_rowid id) (new ∷ rows) (put_row new rows) (put_mixes new rows free)) in
      let few : length (filter (has_rowid id) (new ∷ rows)) ≤ 1 = elim (cases_Bool (has_rowid id new)) [
        | inl has ↦
            let none : filter (has_rowid id) rows ≡ [] = none_kept (has_rowid id) rows (ap (λ n. list_any (has_rowid n) rows) (sym (number_is new id keyed has))
            ∙ sym (taken_is rows new keyed) ∙ free) in
            rw (has, none) (omega arith)
        | inr other ↦ rw other (have.apart id)
      ] in
      omega (arith, count, few);
}

fewer : {X : Type 0} (p q : X → Bool) (xs : List X) → length (filter p (filter q xs)) ≤ length (filter p xs)
fewer p q [] = omega arith
fewer p q (x ∷ xs) =
    let rest = fewer p q xs in
    elim (cases_Bool (q x)) [
      | inl kept ↦ elim (cases_Bool (p x)) [ inl passes ↦ rw (kept, passes) (omega (arith, rest)) | inr fails ↦ rw (kept, fails) rest ]
      | inr out ↦ elim (cases_Bool (p x)) [ inl passes ↦ rw (out, passes) (omega (arith, rest)) | inr fails ↦ rw (out, fails) rest ]
    ]

pub rowids_filter : (p : Row → Bool) (rows : List Row) → HaveRowids rows → HaveRowids (filter p rows)
rowids_filter p rows have = record {
  numbers = all_from _ (filter p rows) (λ r h. all_has (λ row. IsTrue (is_int (rowid row))) rows r have.numbers (has_filtered p rows r h).0);
  apart = λ id. (let less = fewer (has_rowid id) p rows in let few = have.apart id in omega (arith, less, few));
}

only_one : {X : Type 0} (xs : List X) (a b : X) → length xs ≤ 1 → Has xs a → Has xs b → a ≡ b
only_one [] a b few h k = absurd h
only_one (x ∷ []) a b few (inl h) (inl k) = h ∙ sym k
only_one (x ∷ []) a b few (inl h) (inr k) = absurd k
only_one (x ∷ []) a b few (inr h) k = absurd h
only_one (x ∷ y ∷ xs) a b few h k = absurd (omega (arith, few))

-- rows of one rowid are one
pub same_row : (rows : List Row) (a b : Row) → HaveRowids rows → Has rows a → Has rows b → value_cmp (rowid a) (rowid b) ≡ Equal → a ≡ b
same_row rows a b have h k tie =
    let keyed = all_has (λ row. IsTrue (is_int (rowid row))) rows a have.numbers h in
    let other = all_has (λ row. IsTrue (is_int (rowid row))) rows b have.numbers k in
    let n = id_in (rowid b) in
    let tied : has_rowid n a ≡ true = subst (λ v. is_eq (value_cmp (rowid a) v) ≡ true) (int_is (rowid b) other) (ap is_eq tie) in
    only_one (filter (has_rowid n) rows) a b (have.apart n) (has_kept (has_rowid n) rows a h tied) (has_kept (has_rowid n) rows b k (own_rowid b other))
