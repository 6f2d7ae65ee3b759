-- What a change that applies makes of the lists, and of the store's rows.
use Rattle.std.proofs.Common.{◌≡◌, ◌⊎◌, inl, inr, ℕ, ◌==◌, ◌&&◌, ◌||◌, ◌<◌, ◌≤◌, not, nat_lt, min, max, Bool, true, false, List, [], ◌∷◌, flat_map, refl, sym, ap, ap₂, subst, ◌∙◌, arith, true≢false}
use Rattle.std.specs.List.{AllPairs, AllByRecursion, list_any}
use Rattle.std.proofs.lemmas.Bool.{cases_Bool, cases_lt, and_parts, false_from_ne_true, not-true}
use Rattle.std.proofs.lemmas.Bool.Decides.{nat_tests}
use Rattle.std.proofs.lemmas.List.Elements.{All-from_recursion, recursion_from_All}
use Rattle.rows_model.specs.declared.changes.Change.TheVariants as change
use Rattle.rows_model.specs.declared.rows.Link.{Link}
use Rattle.rows_model.specs.declared.rows.LinkState.TheVariants as link
use Rattle.rows_model.specs.Rows.{Tables, BlockRow, Fit, IsLink, IsBlock, joins, is_pending, is_friend}
use Rattle.rows_model.specs.Changes.{is_linked, is_invited, are_friends, has_blocked, without_link, with_link, invitation, friendship}
use Rattle.rows_model.proofs.FitLemmas.{InPlace, in_place, invite_parts, block_parts}
use Rattle.rows_model.proofs.UntouchedLemmas.{invited_only, friends_only, pending_joins}
use Rattle.sqlite_rules.specs.Lists.{Has}
use Rattle.sqlite_rules.proofs.ListLemmas.{all_has, all_from, some_has, some_from, has_left, has_right, has_filtered}
use Rattle.sqlite_tables.specs.declared.pairs.Pair.{Pair}
use Rattle.sqlite_tables.specs.declared.pairs.PairState.{PairState}
use Rattle.sqlite_tables.specs.declared.pairs.PairState.TheVariants.{Pending, Friend, Block}
use Rattle.sqlite_tables.specs.Lists.{Lists, IsPairBefore, is_pair, has_pair, with_pair, without_pair, link_in, block_in, tables_of}
use Rattle.sqlite_tables.specs.Changes.{ChangesAreMade, paired, friends}
use Rattle.sqlite_tables.proofs.DeleteLemmas.{filter_all}
use Rattle.sqlite_tables.proofs.TableLemmas.{filter_told, link_put, block_put}
use Rattle.std.proofs.lemmas.List.Kept.{AllPairs-filter}

-- what is told of one is among what is told of all
told_has : {X Y : Type 0} (f : X → List Y) (xs : List X) (x : X) (y : Y) → Has xs x → Has (f x) y → Has (flat_map f xs) y
told_has f [] x y h k = absurd h
told_has f (z ∷ xs) x y (inl same) k = has_left (f z) (flat_map f xs) y (subst (λ w. Has (f w) y) same k)
told_has f (z ∷ xs) x y (inr later) k = has_right (f z) (flat_map f xs) y (told_has f xs x y later k)

module _ (lists : Lists) where
  abbrev t : Tables
  t = tables_of lists

  -- the link of a pair is a link of the rows, and its block a block
  link_has : (pair : Pair) (l : Link) → Has lists.pairs pair → link_in pair.a pair.b pair.state ≡ l ∷ [] → Has t.links l
  link_has pair l h is = told_has (λ p. link_in p.a p.b p.state) lists.pairs pair l h (subst (λ ls. Has ls l) (sym is) (inl refl))

  block_has : (pair : Pair) (l : BlockRow) → Has lists.pairs pair → block_in pair.a pair.b pair.state ≡ l ∷ [] → Has t.blocks l
  block_has pair l h is = told_has (λ p. block_in p.a p.b p.state) lists.pairs pair l h (subst (λ ls. Has ls l) (sym is) (inl refl))

  module _ (x y a b : ℕ) (links : AllByRecursion (λ (l : Link). joins a b l ≡ ((l.a == x) && (l.b == y))) t.links) (blocks : AllByRecursion (λ (l : BlockRow).
      ((l.blocker == x) && (l.blocked == y)) ≡ false) t.blocks) where
    LinkGoes : Pair → PairState → Type 0
    LinkGoes pair s = (link_in pair.a pair.b s ≡ []) ⊎ ((l : Link) × (link_in pair.a pair.b s ≡ l ∷ []) × (not (joins a b l) ≡ not (is_pair x y pair)))

    link_goes : (pair : Pair) → Has lists.pairs pair → (s : PairState) → pair.state ≡ s → LinkGoes pair s
    unfolding LinkGoes
    link_goes pair h Pending e =
        let l : Link = record { a = pair.a; b = pair.b; state = link.Pending } in
        inr (l, refl, ap not (all_has _ t.links l links (link_has pair l h (ap (link_in pair.a pair.b) e))))
    link_goes pair h Friend e =
        let l : Link = record { a = pair.a; b = pair.b; state = link.Friend } in
        inr (l, refl, ap not (all_has _ t.links l links (link_has pair l h (ap (link_in pair.a pair.b) e))))
    link_goes pair h Block e = inl refl

    BlockStays : Pair → PairState → Type 0
    BlockStays pair s = (block_in pair.a pair.b s ≡ []) ⊎ ((l : BlockRow) × (block_in pair.a pair.b s ≡ l ∷ []) × (true ≡ not (is_pair x y pair)))

    block_stays : (pair : Pair) → Has lists.pairs pair → (s : PairState) → pair.state ≡ s → BlockStays pair s
    unfolding BlockStays
    block_stays pair h Pending e = inl refl
    block_stays pair h Friend e = inl refl
    block_stays pair h Block e =
        let l : BlockRow = record { blocker = pair.a; blocked = pair.b } in
        inr (l, refl, sym (ap not (all_has _ t.blocks l blocks (block_has pair l h (ap (block_in pair.a pair.b) e)))))

    -- the link of two members goes, with the pair that it is
    pub link_taken : tables_of (without_pair x y lists) ≡ record { members = lists.members; links = without_link a b t.links; blocks = t.blocks }
    unfolding LinkGoes BlockStays
    link_taken =
        ap₂ (λ ls bs. record { members = lists.members; links = ls; blocks = bs })
        (filter_told (λ p. not (is_pair x y p)) (λ l. not (joins a b l)) (λ p. link_in p.a p.b p.state) lists.pairs
        (All-from_recursion _ lists.pairs (all_from (λ (p : Pair). LinkGoes p p.state) lists.pairs (λ p h. link_goes p h p.state refl))))
        (filter_told (λ p. not (is_pair x y p)) (λ l. true) (λ p. block_in p.a p.b p.state) lists.pairs
        (All-from_recursion _ lists.pairs (all_from (λ (p : Pair). BlockStays p p.state) lists.pairs (λ p h. block_stays p h p.state refl)))
        ∙ filter_all t.blocks)

  -- a pair with these ids is a link or a block of theirs
  pair_found : (x y : ℕ) → has_pair x y lists ≡ true → ((l : Link) × Has t.links l × (((l.a == x) && (l.b == y)) ≡ true)) ⊎ ((l : BlockRow) × Has t.blocks l ×
      (((l.blocker == x) && (l.blocked == y)) ≡ true))
  pair_found x y some =
      let found = some_has (is_pair x y) lists.pairs some in go found.0 found.1 found.2 found.0.state refl
    where
      go : (pair : Pair) → Has lists.pairs pair → is_pair x y pair ≡ true → (s : PairState) → pair.state ≡ s
          → ((l : Link) × Has t.links l × (((l.a == x) && (l.b == y)) ≡ true)) ⊎ ((l : BlockRow) × Has t.blocks l × (((l.blocker == x) && (l.blocked == y)) ≡ true))
      go pair h is Pending e = let l : Link = record { a = pair.a; b = pair.b; state = link.Pending } in inl (l, link_has pair l h (ap (link_in pair.a pair.b) e), is)
      go pair h is Friend e = let l : Link = record { a = pair.a; b = pair.b; state = link.Friend } in inl (l, link_has pair l h (ap (link_in pair.a pair.b) e), is)
      go pair h is Block e = let l : BlockRow = record { blocker = pair.a; blocked = pair.b } in inr (l, block_has pair l h (ap (block_in pair.a pair.b) e), is)

-- where two members aren't linked and the one hasn't blocked the other, no pair has their ids in this order
free_pair : (lists : Lists) (a b : ℕ) → is_linked a b (tables_of lists) ≡ false → has_blocked a b (tables_of lists) ≡ false → has_pair a b lists ≡ false
free_pair lists a b unlinked unblocked = false_from_ne_true _ (λ some. elim (pair_found lists a b some) [
  | inl l ↦ true≢false (sym (some_from (joins a b) (tables_of lists).links l.0 l.1 (as_joined a b l.0 l.2)) ∙ unlinked)
  | inr l ↦ true≢false (sym (some_from (λ (block : BlockRow). (block.blocker == a) && (block.blocked == b)) (tables_of lists).blocks l.0 l.1 l.2) ∙ unblocked)
])
  where
    as_joined : (a b : ℕ) (l : Link) → ((l.a == a) && (l.b == b)) ≡ true → joins a b l ≡ true
    as_joined a b l e = grind (arith, nat_tests)

joins_back : (a b : ℕ) (l : Link) → joins b a l ≡ joins a b l
joins_back a b l = or_comm ((l.a == b) && (l.b == a)) ((l.a == a) && (l.b == b))
  where
    or_comm : (p q : Bool) → (p || q) ≡ (q || p)
    or_comm true true = refl
    or_comm true false = refl
    or_comm false true = refl
    or_comm false false = refl

-- the smaller and the larger of two ids are the two
pub sorted_ids : (a b : ℕ) → ((min a b ≡ a) × (max a b ≡ b)) ⊎ ((min a b ≡ b) × (max a b ≡ a))
sorted_ids a b = elim (cases_lt a b) [ inl below ↦ inl (omega arith, omega arith) | inr above ↦ inr (omega arith, omega arith) ]

joins_sorted : (a b : ℕ) (l : Link) → joins (min a b) (max a b) l ≡ joins a b l
joins_sorted a b l = elim (sorted_ids a b) [
  | inl same ↦ ap₂ (λ x y. joins x y l) same.0 same.1
  | inr turned ↦ ap₂ (λ x y. joins x y l) turned.0 turned.1 ∙ joins_back a b l
]

none_any : {X : Type 0} (p : X → Bool) (xs : List X) → AllByRecursion (λ x. p x ≡ false) xs → list_any p xs ≡ false
none_any p [] all = refl
none_any p (x ∷ xs) all = rw (all.0, none_any p xs all.1) refl

-- no block stands beside a link
no_block_beside : (t : Tables) → Fit t → (x y : ℕ) → list_any (joins x y) t.links ≡ true → AllByRecursion (λ (l : BlockRow). ((l.blocker == x) && (l.blocked == y)) ≡ false) t.blocks
no_block_beside t fit x y linked =
    all_from _ t.blocks (λ (l : BlockRow) h. false_from_ne_true _ (λ is.
    let block : IsBlock t l = all_has (IsBlock t) t.blocks l (recursion_from_All (IsBlock t) t.blocks fit.blocks_join) h in
    let parts = and_parts (l.blocker == x) (l.blocked == y) is in
    let one : l.blocker ≡ x = grind (arith, nat_tests) in
    let other : l.blocked ≡ y = grind (arith, nat_tests) in
    true≢false (sym linked ∙ sym (ap₂ (λ p q. list_any (joins p q) t.links) one other) ∙ block.unlinked)))

-- who is invited or a friend is linked
invited_linked : (a b : ℕ) (t : Tables) → is_invited a b t ≡ true → list_any (joins a b) t.links ≡ true
invited_linked a b t invited =
    let one = some_has (λ (l : Link). is_pending l.state && (l.a == a) && (l.b == b)) t.links invited in some_from (joins a b) t.links one.0 one.1 (pending_joins a b one.0 one.2)

friends_linked : (a b : ℕ) (t : Tables) → are_friends a b t ≡ true → list_any (joins a b) t.links ≡ true
friends_linked a b t friends =
    let one = some_has (λ (l : Link). is_friend l.state && joins a b l) t.links friends in some_from (joins a b) t.links one.0 one.1 (and_parts (is_friend one.0.state) _ one.2).1

-- a link of the two is the invitation
invited_is : (a b : ℕ) (l : Link) → (joins a b l ≡ true → (is_pending l.state && (l.a == a) && (l.b == b)) ≡ true) → joins a b l ≡ ((l.a == a) && (l.b == b))
invited_is a b l only = elim (cases_Bool (joins a b l)) [
  | inl joined ↦ joined ∙ sym (last_two (is_pending l.state) (l.a == a) (l.b == b) (only joined))
  | inr apart ↦ apart ∙ sym (first_fails ((l.a == a) && (l.b == b)) _ apart)
]
  where
    last_two : (p q r : Bool) → (p && q && r) ≡ true → (q && r) ≡ true
    last_two true true true e = refl
    last_two true true false e = e
    last_two true false r e = cc
    last_two false q r e = cc

    first_fails : (p q : Bool) → (p || q) ≡ false → p ≡ false
    first_fails true q e = absurd (true≢false e)
    first_fails false q e = refl

-- a link of the two friends names the smaller first
friends_is : (a b : ℕ) (l : Link) → (joins a b l ≡ true → l.a < l.b) → joins a b l ≡ ((l.a == min a b) && (l.b == max a b))
friends_is a b l smaller = elim (cases_Bool (joins a b l)) [
  | inl joined ↦
      let low = smaller joined in
      elim (sorted_ids a b) [
        | inl same ↦ rw (same.0, same.1) (let above : a ≤ b = omega (arith, same.0) in grind (arith, nat_tests))
        | inr turned ↦ rw (turned.0, turned.1) (let above : b ≤ a = omega (arith, turned.0) in grind (arith, nat_tests))
      ]
  | inr apart ↦ elim (sorted_ids a b) [
    | inl same ↦ rw (same.0, same.1) (grind (arith, nat_tests))
    | inr turned ↦ rw (turned.0, turned.1) (grind (arith, nat_tests))
  ]
]

module _ (lists : Lists) (fit : Fit (tables_of lists)) (a b : ℕ) where
  abbrev rows : Tables
  rows = tables_of lists

  places : AllPairs InPlace rows.links
  places = in_place rows.links fit.links_ascend fit.one_link

  -- an invitation is taken out
  pub rejected : is_invited a b rows ≡ true → tables_of (without_pair a b lists) ≡ record { members = lists.members; links = without_link a b rows.links; blocks = rows.blocks }
  rejected invited =
      let only = recursion_from_All _ rows.links (invited_only a b rows places invited) in
      link_taken lists a b a b
      (all_from _ rows.links (λ (l : Link) h. invited_is a b l (all_has (λ (k : Link). joins a b k ≡ true → (is_pending k.state && (k.a == a) && (k.b == b)) ≡ true) rows.links l only h)))
      (no_block_beside rows fit a b (invited_linked a b rows invited))

  -- a friendship is taken out
  pub thawed : are_friends a b rows ≡ true → tables_of (without_pair (min a b) (max a b) lists) ≡ record { members = lists.members; links = without_link a b rows.links; blocks = rows.blocks }
  thawed are =
      let only = recursion_from_All _ rows.links (friends_only a b rows places are) in
      let each = recursion_from_All (IsLink rows) rows.links fit.links_join in
      let linked : list_any (joins (min a b) (max a b)) rows.links ≡ true = (λ i. list_any (λ (l : Link). joins_sorted a b l i) rows.links) ∙ friends_linked a b rows are in
      link_taken lists (min a b) (max a b) a b
      (all_from _ rows.links (λ (l : Link) h. friends_is a b l (λ joined. (all_has (IsLink rows) rows.links l each h).smaller_first
      (all_has (λ (k : Link). joins a b k ≡ true → is_friend k.state ≡ true) rows.links l only h joined))))
      (no_block_beside rows fit (min a b) (max a b) linked)

  -- what is left of the links joins the two no more
  parted : AllByRecursion (λ (l : Link). joins a b l ≡ false) (without_link a b rows.links)
  parted = all_from _ (without_link a b rows.links) (λ (l : Link) h. not-true _ (has_filtered (λ k. not (joins a b k)) rows.links l h).1)

  -- and so the pair of the friends is free
  friends_free : is_invited a b rows ≡ true → has_pair (min a b) (max a b) (without_pair a b lists) ≡ false
  friends_free invited =
      let is = rejected invited in
      let linked : list_any (joins (min a b) (max a b)) rows.links ≡ true = (λ i. list_any (λ (l : Link). joins_sorted a b l i) rows.links) ∙ invited_linked a b rows invited in
      free_pair (without_pair a b lists) (min a b) (max a b)
      (ap (λ (u : Tables). is_linked (min a b) (max a b) u) is ∙ (λ i. list_any (λ (l : Link). joins_sorted a b l i) (without_link a b rows.links)) ∙ none_any (joins a b) _ parted)
      (ap (λ (u : Tables). has_blocked (min a b) (max a b) u) is ∙ none_any _ rows.blocks (no_block_beside rows fit (min a b) (max a b) linked))

  friendship_is : (its_link : Link) → its_link ≡ record { a = min a b; b = max a b; state = link.Friend } → its_link ≡ friendship a b
  friendship_is its_link is = elim (cases_lt a b) [
    | inl below ↦
        let low : min a b ≡ a = omega arith in
        let high : max a b ≡ b = omega arith in
        let first : nat_lt a b ≡ true = grind (arith, nat_tests) in
        is ∙ rw (low, high, first) refl
    | inr above ↦
        let low : min a b ≡ b = omega arith in
        let high : max a b ≡ a = omega arith in
        let second : nat_lt a b ≡ false = grind (arith, nat_tests) in
        is ∙ rw (low, high, second) refl
  ]

  -- an invitation becomes a friendship
  pub accepted : AllPairs IsPairBefore lists.pairs → is_invited a b rows ≡ true
      → tables_of (with_pair (friends a b) (without_pair a b lists)) ≡ record { members = lists.members; links = with_link (friendship a b) (without_link a b rows.links); blocks = rows.blocks }
  accepted up invited =
      let its_link : Link = record { a = min a b; b = max a b; state = link.Friend } in
      let left = without_pair a b lists in
      link_put (friends a b) its_link left refl refl refl refl (AllPairs-filter IsPairBefore (λ p. not (is_pair a b p)) lists.pairs up)
      ∙ ap (λ (u : Tables). record { members = lists.members; links = with_link its_link u.links; blocks = u.blocks }) (rejected invited)
      ∙ ap (λ (l : Link). record { members = lists.members; links = with_link l (without_link a b rows.links); blocks = rows.blocks }) (friendship_is its_link refl)

-- what applies is made
pub changes_are_made : ChangesAreMade
changes_are_made (change.Invite a b) lists up fit can =
    let h = invite_parts a b (tables_of lists) can in
    (free_pair lists a b h.free h.unblocked, link_put (paired a b Pending) (invitation a b) lists refl refl refl refl up)
changes_are_made (change.Accept a b) lists up fit can = (friends_free lists fit a b can, accepted lists fit a b up can)
changes_are_made (change.Reject a b) lists up fit can = (tt, rejected lists fit a b can)
changes_are_made (change.Thaw a b) lists up fit can = (tt, thawed lists fit a b can)
changes_are_made (change.Rename a name) lists up fit can = (tt, refl)
changes_are_made (change.Block a b) lists up fit can =
    let h = block_parts a b (tables_of lists) can in (free_pair lists a b h.free h.unblocked, block_put a b lists up)
