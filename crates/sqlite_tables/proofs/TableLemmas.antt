-- What becomes of the store's rows where a pair is put or taken out.
use Rattle.std.proofs.Common.{◌≡◌, ◌⊎◌, inl, inr, ℕ, suc, ◌+◌, Bool, true, false, cond, List, [], ◌∷◌, ◌++◌}
use Rattle.std.proofs.Common.{filter, flat_map, take, drop, insert, count_by, get_or, refl, sym, ap, ap₂, ◌∙◌, arith, append_assoc, take-append-drop}
use Rattle.std.specs.List.{AllPairs, All}
use Rattle.std.proofs.lemmas.Bool.{cases_Bool}
use Rattle.std.proofs.lemmas.Bool.Decides.{nat_tests}
use Rattle.std.proofs.lemmas.List.Elements.{All-head, All-tail, All-cons}
use Rattle.rows_model.specs.declared.rows.Link.{Link}
use Rattle.rows_model.specs.declared.rows.LinkState.TheVariants as link
use Rattle.rows_model.specs.Rows.{BlockRow}
use Rattle.rows_model.specs.Changes.{is_before, with_link, is_block_before, with_block}
use Rattle.rows_model.proofs.FitLemmas.{pairs_head, pairs_tail, count_cons, count_none}
use Rattle.sqlite_tables.specs.declared.pairs.Pair.{Pair}
use Rattle.sqlite_tables.specs.declared.pairs.PairState.TheVariants.{Pending, Friend, Block}
use Rattle.sqlite_tables.specs.Lists.{Lists, IsPairBefore, is_pair_before, with_pair, link_in, block_in, tables_of}

-- where a pair that isn't counted comes, no later one is counted
abbrev pub Stops : {X : Type 0} → (X → Bool) → List X → Type 0
Stops p xs = AllPairs (λ x y. p x ≡ false → p y ≡ false) xs

module _ {X : Type 0} (p : X → Bool) (new x : X) (xs : List X) where
  -- behind one that is counted
  insert_past : p x ≡ true → insert (x ∷ xs) (count_by p (x ∷ xs)) new ≡ x ∷ insert xs (count_by p xs) new
  insert_past here =
      let one : 1 + count_by p xs ≡ suc (count_by p xs) = omega arith in
      let n : count_by p (x ∷ xs) ≡ suc (count_by p xs) = count_cons p x xs ∙ (ap (λ b. cond b 1 0 + count_by p xs) here ∙ one) in
      ap (λ n. insert (x ∷ xs) n new) n

-- in front of those of which none is counted
insert_first : {X : Type 0} (p : X → Bool) (new : X) (xs : List X) → All (λ x. p x ≡ false) xs → insert xs (count_by p xs) new ≡ new ∷ xs
insert_first p new xs none = ap (λ n. insert xs n new) (count_none p xs none)

-- each element is told as nothing, or as one that is counted alike
abbrev pub TellsAlike : {X Y : Type 0} → (X → Bool) → (Y → Bool) → (X → List Y) → Type 0
TellsAlike {X} {Y} p q f = (x : X) → (f x ≡ []) ⊎ ((y : Y) × (f x ≡ y ∷ []) × (q y ≡ p x))

module _ {X Y : Type 0} (p : X → Bool) (q : Y → Bool) (f : X → List Y) (alike : TellsAlike p q f) where
  none_told : (xs : List X) → All (λ x. p x ≡ false) xs → All (λ y. q y ≡ false) (flat_map f xs)
  none_told [] none = λ k d low. absurd (omega arith)
  none_told (x ∷ xs) none = elim (alike x) [
    | inl nothing ↦ rw nothing (none_told xs (All-tail (λ z. p z ≡ false) x xs none))
    | inr one ↦ rw one.1 (All-cons (λ y. q y ≡ false) one.0 (flat_map f xs) (one.2 ∙ All-head (λ z. p z ≡ false) x xs none) (none_told xs (All-tail (λ z. p z ≡ false) x xs none)))
  ]

  -- one that is told stands in its place among those that are told
  pub insert_told : (new : X) (image : Y) → f new ≡ image ∷ [] → (xs : List X) → Stops p xs
      → flat_map f (insert xs (count_by p xs) new) ≡ insert (flat_map f xs) (count_by q (flat_map f xs)) image
  insert_told new image is [] stops = rw is refl
  insert_told new image is (x ∷ xs) stops = elim (cases_Bool (p x)) [
    | inl counted ↦
        let later = insert_told new image is xs (pairs_tail (λ x y. p x ≡ false → p y ≡ false) x xs stops) in
        ap (flat_map f) (insert_past p new x xs counted) ∙ ap (λ l. f x ++ l) later
        ∙ elim (alike x) [
          | inl nothing ↦ rw nothing refl
          | inr one ↦ rw one.1 (sym (insert_past q image one.0 (flat_map f xs) (one.2 ∙ counted)))
        ]
    | inr not_counted ↦
        let none : All (λ z. p z ≡ false) (x ∷ xs) = All-cons (λ z. p z ≡ false) x xs not_counted (λ k d low. pairs_head (λ x y. p x ≡ false → p y ≡ false) x xs stops k d low not_counted) in
        ap (flat_map f) (insert_first p new (x ∷ xs) none) ∙ ap (λ l. l ++ flat_map f (x ∷ xs)) is ∙ sym (insert_first q image (flat_map f (x ∷ xs)) (none_told (x ∷ xs) none))
  ]

flat_append : {X Y : Type 0} (f : X → List Y) (xs ys : List X) → flat_map f (xs ++ ys) ≡ flat_map f xs ++ flat_map f ys
flat_append f [] ys = refl
flat_append f (x ∷ xs) ys = ap (λ l. f x ++ l) (flat_append f xs ys) ∙ sym (append_assoc (f x) (flat_map f xs) (flat_map f ys))

-- one that isn't told changes nothing
insert_untold : {X Y : Type 0} (f : X → List Y) (new : X) → f new ≡ [] → (xs : List X) (n : ℕ) → flat_map f (insert xs n new) ≡ flat_map f xs
insert_untold f new is xs n =
    flat_append f (take n xs) (new ∷ drop n xs) ∙ ap (λ l. flat_map f (take n xs) ++ (l ++ flat_map f (drop n xs))) is
    ∙ sym (flat_append f (take n xs) (drop n xs)) ∙ ap (flat_map f) (take-append-drop n xs)

-- what is told of those that stay
pub filter_told : {X Y : Type 0} (p : X → Bool) (q : Y → Bool) (f : X → List Y) (xs : List X) → All (λ x. (f x ≡ []) ⊎ ((y : Y) × (f x ≡ y ∷ []) × (q y ≡ p x))) xs
    → flat_map f (filter p xs) ≡ filter q (flat_map f xs)
filter_told p q f [] all = refl
filter_told {X} {Y} p q f (x ∷ xs) all =
    let rest = filter_told p q f xs (λ k d low. all (suc k) d (omega arith)) in
    elim (all 0 x (omega arith)) [
      | inl nothing ↦ elim (cases_Bool (p x)) [ inl stays ↦ rw (stays, nothing, rest) refl | inr goes ↦ rw (goes, nothing, rest) refl ]
      | inr one ↦ elim (cases_Bool (p x)) [
        | inl stays ↦ let kept : q one.0 ≡ true = one.2 ∙ stays in rw (stays, one.1, kept, rest) refl
        | inr goes ↦ let gone : q one.0 ≡ false = one.2 ∙ goes in rw (goes, one.1, gone, rest) refl
      ]
    ]

as_link : Pair → List Link
as_link pair = link_in pair.a pair.b pair.state

as_block : Pair → List BlockRow
as_block pair = block_in pair.a pair.b pair.state

links_alike : (new : Pair) (link : Link) → link.a ≡ new.a → link.b ≡ new.b → TellsAlike (is_pair_before new) (is_before link) (λ pair. link_in pair.a pair.b pair.state)
links_alike new its_link a b pair = elim pair.state as (λ s. (link_in pair.a pair.b s ≡ []) ⊎ ((y : Link) × (link_in pair.a pair.b s ≡ y ∷ []) × (is_before its_link y ≡ is_pair_before new pair))) [
  | Pending ↦ inr (record { a = pair.a; b = pair.b; state = link.Pending }, refl, rw (a, b) refl)
  | Friend ↦ inr (record { a = pair.a; b = pair.b; state = link.Friend }, refl, rw (a, b) refl)
  | Block ↦ inl refl
]

blocks_alike : (new : Pair) (block : BlockRow) → block.blocker ≡ new.a → block.blocked ≡ new.b → TellsAlike (is_pair_before new) (is_block_before block) (λ pair. block_in pair.a pair.b pair.state)
blocks_alike new block a b pair = elim pair.state as (λ s. (block_in pair.a pair.b s ≡ []) ⊎ ((y : BlockRow) × (block_in pair.a pair.b s ≡ y ∷ []) ×
    (is_block_before block y ≡ is_pair_before new pair))) [
      | Pending ↦ inl refl
      | Friend ↦ inl refl
      | Block ↦ inr (record { blocker = pair.a; blocked = pair.b }, refl, rw (a, b) refl)
    ]

stop : (new x y : Pair) → IsPairBefore x y → is_pair_before new x ≡ false → is_pair_before new y ≡ false
stop new x y before past = grind (arith, nat_tests)

stops_of : (new : Pair) (pairs : List Pair) → AllPairs IsPairBefore pairs → Stops (is_pair_before new) pairs
stops_of new pairs up = λ i j d low high. stop new (get_or pairs i d) (get_or pairs j d) (up i j d low high)

-- a link that is put stands in its place among the links, and the blocks stay
pub link_put : (new : Pair) (link : Link) (lists : Lists) → link_in new.a new.b new.state ≡ link ∷ [] → link.a ≡ new.a → link.b ≡ new.b
    → block_in new.a new.b new.state ≡ [] → AllPairs IsPairBefore lists.pairs
    → tables_of (with_pair new lists) ≡ record { members = lists.members; links = with_link link (tables_of lists).links; blocks = (tables_of lists).blocks }
link_put new link lists is a b no_block up =
    ap₂ (λ ls bs. record { members = lists.members; links = ls; blocks = bs })
    (insert_told (is_pair_before new) (is_before link) _ (links_alike new link a b) new link is lists.pairs (stops_of new lists.pairs up))
    (insert_untold (λ pair. block_in pair.a pair.b pair.state) new no_block lists.pairs _)

-- a block that is put stands in its place among the blocks, and the links stay
pub block_put : (a b : ℕ) (lists : Lists) → AllPairs IsPairBefore lists.pairs
    → tables_of (with_pair (record { a = a; b = b; state = Block }) lists) ≡ record {
      members = lists.members;
      links =
          (tables_of lists).links;
      blocks = with_block (record { blocker = a; blocked = b }) (tables_of lists).blocks;
    }
block_put a b lists up =
    let new : Pair = record { a = a; b = b; state = Block } in
    let block : BlockRow = record { blocker = a; blocked = b } in
    ap₂ (λ ls bs. record { members = lists.members; links = ls; blocks = bs })
    (insert_untold (λ pair. link_in pair.a pair.b pair.state) new refl lists.pairs _)
    (insert_told (is_pair_before new) (is_block_before block) _ (blocks_alike new block refl refl) new block refl lists.pairs (stops_of new lists.pairs up))
