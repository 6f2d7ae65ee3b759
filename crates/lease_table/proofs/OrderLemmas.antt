-- What stands in front of a heap comes first.
use Rattle.std.proofs.Common.{◌≡◌, ℕ, ◌<◌, ◌≤◌, Bool, true, false, cond, List, [], ◌∷◌, sym, refl, ◌∙◌, ap, length, get_or, Option, Some, None, arith, subst, is_some, IfSome}
use Rattle.std.specs.List.Sorted.{IsPermutation}
use Rattle.std.specs.Prelude.{◌==◌, ◌&&◌, ◌||◌, nat_lt, IsFalse}
use Rattle.std.specs.List.{All}
use Rattle.std.specs.BinaryHeap.{IsUpperBound}
use Rattle.std.specs.declared.cmp.Reverse.{Reverse}
use Rattle.std.specs.declared.cmp.Ordering.{Ordering}
use Rattle.std.specs.declared.cmp.Ordering.TheVariants.{Less, Equal, Greater}
use Rattle.std.specs.Ordering.{ordering_then, nat_cmp, is_eq, is_lt}
use Rattle.std.specs.Cmp.{unsigned_tied}
use Rattle.std.proofs.lemmas.Bool.{or_parts, ltb-false, false≢true}
use Rattle.std.proofs.lemmas.List.Elements.{All-from_recursion, All-weaker}
use Rattle.rows_model.specs.declared.keys.QKey.{QKey}
use Rattle.rows_model.specs.Key.{kind_number}
use Rattle.lease_table.specs.declared.index.Term.{Term}
use Rattle.lease_table.specs.declared.index.Found.{Found}
use Rattle.lease_table.specs.Leases.{first}
use Rattle.lease_table.specs.Expiry.{key_before}
use Rattle.lease_table.specs.Standing.{key_cmp}
use Rattle.lease_table.specs.Index.{term_cmp, found_cmp, later_back, found_back, found_before}
use Rattle.lease_table.proofs.KeyLemmas.{key_cmp-rank, is_at-key}

-- less is less in the first, or equal there and less in the second
is_lt-then : (o p : Ordering) → is_lt (ordering_then o p) ≡ (is_lt o || (is_eq o && is_lt p))
is_lt-then Less p = refl
is_lt-then Equal p = refl
is_lt-then Greater p = refl

is_lt-cond : (less tied : Bool) → is_lt (cond less Less (cond tied Equal Greater)) ≡ less
is_lt-cond true tied = refl
is_lt-cond false true = refl
is_lt-cond false false = refl

is_lt-nat : (m n : ℕ) → is_lt (nat_cmp m n) ≡ nat_lt m n
is_lt-nat m n = is_lt-cond (nat_lt m n) (m == n)

-- the order of keys says which comes before
is_lt-key : (a b : QKey) → is_lt (key_cmp a b) ≡ key_before a b
is_lt-key a b =
    ap is_lt (key_cmp-rank a b)
    ∙ is_lt-then (nat_cmp (kind_number a.kind) (kind_number b.kind)) (nat_cmp a.id b.id)
    ∙ (λ i. is_lt-nat (kind_number a.kind) (kind_number b.kind) i || (unsigned_tied (kind_number a.kind) (kind_number b.kind) i && is_lt-nat a.id b.id i))

-- the order of what is found does
is_lt-found : (a b : Found) → is_lt (found_cmp a b) ≡ found_before a b
is_lt-found a b =
    is_lt-then (key_cmp a.key b.key) (nat_cmp a.token b.token)
    ∙ (λ i. is_lt-key a.key b.key i || (is_at-key a.key b.key i && is_lt-nat a.token b.token i))

-- the order of terms goes by their deadlines
not_less-term : (a b : Term) → is_lt (term_cmp a b) ≡ false → b.deadline ≤ a.deadline
not_less-term a b e =
    let parts = or_parts (is_lt (nat_cmp a.deadline b.deadline)) _ (sym (is_lt-then (nat_cmp a.deadline b.deadline) _) ∙ e) in
    ltb-false a.deadline b.deadline (sym (is_lt-nat a.deadline b.deadline) ∙ parts.0)

-- no term has an earlier deadline than the one in front
pub later-front : (x : Reverse Term) (xs : List (Reverse Term)) → IsUpperBound later_back x xs → All (λ y. x.0.deadline ≤ y.0.deadline) xs
later-front x xs bound =
    All-weaker (λ y. is_lt (later_back x y) ≡ false) (λ y. x.0.deadline ≤ y.0.deadline) (λ y e. not_less-term y.0 x.0 e) xs
    (All-from_recursion (λ y. is_lt (later_back x y) ≡ false) xs bound)

-- nothing that is found comes before what is in front
pub found-front : (x : Reverse Found) (xs : List (Reverse Found)) → IsUpperBound found_back x xs → All (λ y. IsFalse (found_before y.0 x.0)) xs
found-front x xs bound =
    All-weaker (λ y. is_lt (found_back x y) ≡ false) (λ y. IsFalse (found_before y.0 x.0)) (λ y e. sym (is_lt-found y.0 x.0) ∙ e) xs
    (All-from_recursion (λ y. is_lt (found_back x y) ≡ false) xs bound)

-- what is read in front is the first
pub first-read : {X : Type 0} (xs : List X) (x : X) → 0 < length xs → x ≡ get_or xs 0 x → first xs ≡ Some x
first-read [] x within read = absurd (omega arith)
first-read (y ∷ ys) x within read = ap Some (sym read)

-- what comes out of a heap was the first
pub popped-first : {X : Type 0} (xs ys : List X) (r : Option X) → 0 < length xs → is_some r ≡ true → IfSome r (λ x. x ≡ get_or xs 0 x)
    → IfSome r (λ x. IsPermutation xs (x ∷ ys)) → IfSome (first xs) (λ x. IsPermutation xs (x ∷ ys))
popped-first xs ys None within some read same = absurd (false≢true some)
popped-first xs ys (Some x) within some read same =
    subst (λ o. IfSome o (λ y. IsPermutation xs (y ∷ ys))) (sym (first-read xs x within read)) same
