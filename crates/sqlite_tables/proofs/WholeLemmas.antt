-- A database holds one pair of lists, if any: what is put in place one by one is what was in order.
use Rattle.std.proofs.Common.{◌≡◌, ◌<◌, Bool, true, false, List, [], ◌∷◌, ◌++◌, append-nil, map, insert, count_by, fold, get_or, refl, sym, ap, ap₂, subst, ◌∙◌, arith, IsPermutation}
use Rattle.std.specs.List.{AllPairs}
use Rattle.std.proofs.lemmas.Bool.Decides.{nat_tests}
use Rattle.std.proofs.lemmas.List.Sorted.{IsPermutation-refl, IsPermutation-trans, IsPermutation-map, IsPermutation-insert, IsPermutation-middle, IsPermutation-append_left}
use Rattle.rows_model.specs.declared.rows.Member.{Member}
use Rattle.rows_model.proofs.FitLemmas.{pairs_insert}
use Rattle.sqlite.specs.Effect.{Database}
use Rattle.sqlite_trees.proofs.ListLemmas.{map-map}
use Rattle.sqlite_tables.specs.declared.pairs.Pair.{Pair}
use Rattle.sqlite_tables.specs.declared.pairs.PairState.{PairState}
use Rattle.sqlite_tables.specs.declared.pairs.PairState.TheVariants.{Pending, Friend, Block}
use Rattle.sqlite_tables.specs.Lists.{Lists, AreLists, member_values, pair_values, shown_member, shown_pair, state_number}
use Rattle.sqlite_tables.specs.Lists.{state_of, member_of, pair_of, IsPairBefore, is_pair_before, is_member_before, lists_of}
use Rattle.sqlite_tables.proofs.ListLemmas.{same_order, ascending_from}

module _ {X : Type 0} (before : X → X → Bool) (stops : (new x y : X) → before x y ≡ false → before new x ≡ false → before new y ≡ false)
    (not_both : (new x : X) → before new x ≡ true → before x new ≡ false) (not_itself : (x : X) → before x x ≡ false) where
  abbrev put : List X → X → List X
  put xs new = insert xs (count_by (before new) xs) new

  -- what is put in is all there
  put_mixes : (news xs : List X) → IsPermutation (xs ++ news) (fold put xs news)
  put_mixes [] xs = subst (λ l. IsPermutation l xs) (sym (append-nil xs)) (IsPermutation-refl xs)
  put_mixes (new ∷ news) xs =
      IsPermutation-trans (xs ++ new ∷ news) (new ∷ xs ++ news) _ (IsPermutation-middle xs new news)
      (IsPermutation-trans (new ∷ xs ++ news) (put xs new ++ news) _
      (IsPermutation-append_left news (new ∷ xs) (put xs new) (IsPermutation-insert xs (count_by (before new) xs) new))
      (put_mixes news (put xs new)))

  -- and none stands before an earlier one
  put_level : (news xs : List X) → AllPairs (λ x y. before x y ≡ false) xs → AllPairs (λ x y. before x y ≡ false) (fold put xs news)
  put_level [] xs level = level
  put_level (new ∷ news) xs level =
      put_level news (put xs new)
      (pairs_insert (λ x y. before x y ≡ false) (before new) new xs level (stops new) (λ k d low. not_both new (get_or xs k d)) (λ k d low past. past))

  pub in_place : (xs news : List X) → AllPairs (λ x z. before z x ≡ true) xs → IsPermutation xs news → fold put [] news ≡ xs
  in_place xs news up same =
      same_order (λ x y. before y x) not_itself xs (fold put [] news)
      (ascending_from (λ x z. before z x ≡ true) xs up)
      (ascending_from (λ y w. before y w ≡ false) _ (put_level news [] (λ i j d low high. absurd (omega arith))))
      (IsPermutation-trans xs news _ same (put_mixes news []))

state_back : (state : PairState) → state_of (state_number state) ≡ state
state_back Pending = refl
state_back Friend = refl
state_back Block = refl

pair_back : (pair : Pair) → pair_of (pair_values pair) ≡ pair
pair_back pair = ap (λ s. record { a = pair.a; b = pair.b; state = s }) (state_back pair.state)

map_back : {X : Type 0} (f : X → X) → ((x : X) → f x ≡ x) → (xs : List X) → map f xs ≡ xs
map_back f back [] = refl
map_back f back (x ∷ xs) = ap₂ ◌∷◌ (back x) (map_back f back xs)

pair_stops : (new x y : Pair) → is_pair_before x y ≡ false → is_pair_before new x ≡ false → is_pair_before new y ≡ false
pair_stops new x y level past = grind (arith, nat_tests)

pair_not_both : (new x : Pair) → is_pair_before new x ≡ true → is_pair_before x new ≡ false
pair_not_both new x before = grind (arith, nat_tests)

pair_not_itself : (pair : Pair) → is_pair_before pair pair ≡ false
pair_not_itself pair = grind (arith, nat_tests)

before_is : (pair later : Pair) → IsPairBefore pair later → is_pair_before later pair ≡ true
before_is pair later h = grind (arith, nat_tests, h.0, h.1)

member_stops : (new x y : Member) → is_member_before x y ≡ false → is_member_before new x ≡ false → is_member_before new y ≡ false
member_stops new x y level past = grind (arith, nat_tests)

member_not_both : (new x : Member) → is_member_before new x ≡ true → is_member_before x new ≡ false
member_not_both new x before = grind (arith, nat_tests)

member_not_itself : (member : Member) → is_member_before member member ≡ false
member_not_itself member = grind (arith, nat_tests)

lower_is : (member later : Member) → member.id < later.id → is_member_before later member ≡ true
lower_is member later h = grind (arith, nat_tests)

pub lists_are_one : (db : Database) (lists : Lists) → AreLists db lists → lists_of db ≡ lists
unfolding lists_of
lists_are_one db lists are =
    let ms : map member_of (map member_values lists.members) ≡ lists.members = map-map member_of member_values lists.members ∙ map_back _ (λ m. refl) lists.members in
    let ps : map pair_of (map pair_values lists.pairs) ≡ lists.pairs = map-map pair_of pair_values lists.pairs ∙ map_back _ pair_back lists.pairs in
    let members = subst (λ l. IsPermutation l (map member_of (map shown_member (db.trees 0)))) ms (IsPermutation-map member_of _ _ are.members) in
    let pairs = subst (λ l. IsPermutation l (map pair_of (map shown_pair (db.trees 1)))) ps (IsPermutation-map pair_of _ _ are.pairs) in
    ap₂ (λ ms ps. record { members = ms; pairs = ps })
    (in_place is_member_before member_stops member_not_both member_not_itself lists.members _
    (λ i j d low high. lower_is (get_or lists.members i d) (get_or lists.members j d) (are.members_ascend i j d low high)) members)
    (in_place is_pair_before pair_stops pair_not_both pair_not_itself lists.pairs _
    (λ i j d low high. before_is (get_or lists.pairs i d) (get_or lists.pairs j d) (are.pairs_ascend i j d low high)) pairs)
