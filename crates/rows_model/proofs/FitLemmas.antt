-- A change that applies leaves fit rows fit.
use Rattle.std.proofs.Common.{ℕ, zero, suc, ◌+◌, ◌<◌, ◌≤◌, ◌≡◌, ◌≢◌, Bool, true, false, not, List, [], ◌∷◌, length, get_or, take, drop, map}
use Rattle.std.proofs.Common.{filter, find, All, AllPairs, IsSome, Some, refl, sym, ap, subst, zero-add, take-append-drop, ◌∙◌, arith}
use Rattle.std.specs.Prelude.{count_by, ◌==◌, ◌&&◌, ◌||◌, nat_lt, cond, if◌then◌else◌}
use Rattle.std.specs.List.{list_any, insert}
use Rattle.std.proofs.lemmas.Bool.{false≢true, and_parts, eqb-true, eq-eqb}
use Rattle.std.proofs.lemmas.List.Folds.{Any-from_list_any, list_any_none, list_any-append}
use borrow.Author.Tests.{ltb-true}
use Rattle.std.proofs.lemmas.Bool.Decides.{nat_tests}
use Rattle.std.proofs.lemmas.List.{get_or-map, length-map}
use Rattle.std.proofs.lemmas.List.Edits.{length-insert}
use Rattle.std.proofs.lemmas.List.Sums.{count_by-le-length, length-filter, sum_by-cons}
use Rattle.std.proofs.lemmas.List.Elements.{All-nil, All-cons, All-head, All-tail, All-append, All-take, All-drop, All-filter, filter_passes}
use Rattle.std.proofs.lemmas.List.Kept.{AllPairs-cons, AllPairs-filter}
use Rattle.rows_model.specs.declared.rows.LinkState.TheVariants.{Friend}
use Rattle.rows_model.specs.declared.rows.Link.{Link}
use Rattle.rows_model.specs.declared.rows.Member.{Member}
use Rattle.rows_model.specs.Name.{IsName}
use Rattle.rows_model.specs.Rows.{Tables, BlockRow, Fit, IsLink, IsBlock, IsBefore, IsBlockBefore, IsMember, joins, is_pending}
use Rattle.rows_model.specs.Changes.{is_before, with_link, without_link, invitation, friendship, is_block_before, with_block, block_of, renamed}
use Rattle.rows_model.specs.Changes.{is_member, is_linked, is_invited, has_blocked, applies}
use Rattle.rows_model.specs.declared.changes.Change.TheVariants.{Invite, Accept, Block}

All-insert : {X : Type 0} (P : X → Type 0) (xs : List X) (i : ℕ) (new : X) → All P xs → P new → All P (insert xs i new)
All-insert P xs i new all here =
    All-append P (take i xs) (new ∷ drop i xs) (All-take P i xs all) (All-cons P new (drop i xs) here (All-drop P i xs all))

pub pairs_head : {X : Type 0} (R : X → X → Type 0) (x : X) (xs : List X) → AllPairs R (x ∷ xs) → All (R x) xs
pairs_head R x xs h = λ k d l. h 0 (suc k) d (omega arith) (omega arith)

pub pairs_tail : {X : Type 0} (R : X → X → Type 0) (x : X) (xs : List X) → AllPairs R (x ∷ xs) → AllPairs R xs
pairs_tail R x xs h = λ i j d low l. h (suc i) (suc j) d (omega arith) (omega arith)

pub count_cons : {X : Type 0} (p : X → Bool) (x : X) (xs : List X) → count_by p (x ∷ xs) ≡ cond (p x) 1 0 + count_by p xs
count_cons p x xs = sum_by-cons (λ y. cond (p y) 1 0) x xs

pub count_none : {X : Type 0} (p : X → Bool) (xs : List X) → All (λ x. p x ≡ false) xs → count_by p xs ≡ 0
count_none p [] all = refl
count_none p (x ∷ xs) all =
    let e : p x ≡ false = All-head (λ y. p y ≡ false) x xs all in
    let rest : count_by p xs ≡ 0 = count_none p xs (All-tail (λ y. p y ≡ false) x xs all) in
    let n : count_by p (x ∷ xs) ≡ count_by p xs = count_cons p x xs ∙ ap (λ b. cond b 1 0 + count_by p xs) e ∙ zero-add (count_by p xs) in
    n ∙ rest

-- a new element, put behind those that stand before it
go_insert : {X : Type 0} (R : X → X → Type 0) (p : X → Bool) (new x : X) (xs : List X) (b : Bool) → p x ≡ b → AllPairs R (x ∷ xs)
    → ((x y : X) → R x y → p x ≡ false → p y ≡ false) → All (λ x. p x ≡ true → R x new) (x ∷ xs)
    → All (λ x. p x ≡ false → R new x) (x ∷ xs) → AllPairs R (insert xs (count_by p xs) new) → AllPairs R (insert (x ∷ xs) (count_by p (x ∷ xs)) new)
go_insert R p new x xs true e pairs stop before after rest =
    let n : count_by p (x ∷ xs) ≡ suc (count_by p xs) = count_cons p x xs ∙ (ap (λ b. cond b 1 0 + count_by p xs) e ∙ omega arith) in
    let P : ℕ → Type 0 = λ k. AllPairs R (insert (x ∷ xs) k new) in
    let here : R x new = All-head (λ y. p y ≡ true → R y new) x xs before e in
    subst P (sym n) (AllPairs-cons R x (insert xs (count_by p xs) new) (All-insert (R x) xs (count_by p xs) new (pairs_head R x xs pairs) here) rest)
go_insert R p new x xs false e pairs stop before after rest =
    let later : All (λ y. p y ≡ false) xs = λ k d l. stop x (get_or xs k d) (pairs_head R x xs pairs k d l) e in
    let none : All (λ y. p y ≡ false) (x ∷ xs) = All-cons (λ y. p y ≡ false) x xs e later in
    let n : count_by p (x ∷ xs) ≡ 0 = count_none p (x ∷ xs) none in
    let P : ℕ → Type 0 = λ k. AllPairs R (insert (x ∷ xs) k new) in
    let first : All (R new) (x ∷ xs) = λ k d l. after k d l (none k d l) in
    subst P (sym n) (AllPairs-cons R new (x ∷ xs) first pairs)

pub pairs_insert : {X : Type 0} (R : X → X → Type 0) (p : X → Bool) (new : X) (xs : List X) → AllPairs R xs → ((x y : X) → R x y → p x ≡ false → p y ≡ false)
    → All (λ x. p x ≡ true → R x new) xs → All (λ x. p x ≡ false → R new x) xs → AllPairs R (insert xs (count_by p xs) new)
pairs_insert R p new [] pairs stop before after = AllPairs-cons R new [] (All-nil (R new)) pairs
pairs_insert R p new (x ∷ xs) pairs stop before after =
    go_insert R p new x xs (p x) refl pairs stop before after (pairs_insert R p new xs
    (pairs_tail R x xs pairs) stop (All-tail (λ y. p y ≡ true → R y new) x xs before) (All-tail (λ y. p y ≡ false → R new y) x xs after))

-- two links in their places, which don't join the same members
pub record InPlace (link later : Link) : Type 0 where
  pub low : link.a ≤ later.a
  pub tied : link.a ≡ later.a → link.b < later.b
  pub apart : joins later.a later.b link ≡ false

pub in_place : (links : List Link) → AllPairs IsBefore links → AllPairs (λ link later. joins later.a later.b link ≡ false) links → AllPairs InPlace links
in_place links before apart = λ i j d low l. record { low = (before i j d low l).0; tied = (before i j d low l).1; apart = apart i j d low l }

stops : (new link later : Link) → InPlace link later → is_before new link ≡ false → is_before new later ≡ false
stops new link later h e = grind (arith, nat_tests)

goes_before : (new link : Link) → joins new.a new.b link ≡ false → is_before new link ≡ true → InPlace link new
goes_before new link free e = record { low = grind (arith, nat_tests); tied = grind (arith, nat_tests); apart = free }

comes_after : (new link : Link) → joins new.a new.b link ≡ false → is_before new link ≡ false → InPlace new link
comes_after new link free e = record { low = grind (arith, nat_tests); tied = grind (arith, nat_tests); apart = grind (arith, nat_tests) }

-- the links with one more are in their places
pub with_in_place : (new : Link) (links : List Link) → AllPairs InPlace links
    → All (λ link. joins new.a new.b link ≡ false) links → AllPairs InPlace (with_link new links)
with_in_place new links pairs free =
    pairs_insert InPlace (is_before new) new links pairs (stops new)
    (λ k d l e. goes_before new (get_or links k d) (free k d l) e) (λ k d l e. comes_after new (get_or links k d) (free k d l) e)

-- a member that a test finds is there
found_go : {X : Type 0} (p : X → Bool) (x : X) (xs : List X) (b : Bool)
    → (b || list_any p xs) ≡ true → (list_any p xs ≡ true → IsSome (find p xs)) → IsSome (cond b (Some x) (find p xs))
found_go p x xs true e rest = refl
found_go p x xs false e rest = rest e

pub found_some : {X : Type 0} (p : X → Bool) (xs : List X) → list_any p xs ≡ true → IsSome (find p xs)
found_some p [] e = absurd (false≢true e)
found_some p (x ∷ xs) e = found_go p x xs (p x) e (found_some p xs)

-- no element passes
pub none_go : (b c : Bool) → (b || c) ≡ false → (b ≡ false) × (c ≡ false)
none_go true c e = absurd (false≢true (sym e))
none_go false c e = (refl, e)

pub none_passes : {X : Type 0} (p : X → Bool) (xs : List X) → list_any p xs ≡ false → All (λ x. p x ≡ false) xs
none_passes p [] e = All-nil (λ x. p x ≡ false)
none_passes p (x ∷ xs) e =
    let parts = none_go (p x) (list_any p xs) e in
    All-cons (λ y. p y ≡ false) x xs parts.0 (none_passes p xs parts.1)

pub not_true : (b : Bool) → not b ≡ true → b ≡ false
not_true true e = absurd (false≢true e)
not_true false e = refl

-- `||` in another order
or_last : (t s d : Bool) → (t || (s || d)) ≡ ((t || d) || s)
or_last true s d = refl
or_last false true true = refl
or_last false true false = refl
or_last false false true = refl
or_last false false false = refl

-- one more element, wherever it is put
pub any-insert : {X : Type 0} (p : X → Bool) (xs : List X) (i : ℕ) (new : X) → list_any p (insert xs i new) ≡ (list_any p xs || p new)
any-insert p xs i new =
    let whole : list_any p xs ≡ (list_any p (take i xs) || list_any p (drop i xs)) =
    ap (list_any p) (sym (take-append-drop i xs)) ∙ list_any-append p (take i xs) (drop i xs) in
    list_any-append p (take i xs) (new ∷ drop i xs)
    ∙ (or_last (list_any p (take i xs)) (p new) (list_any p (drop i xs)) ∙ ap (λ b. b || p new) (sym whole))

no_more : {X : Type 0} (p : X → Bool) (xs : List X) (i : ℕ) (new : X) → list_any p xs ≡ false → p new ≡ false → list_any p (insert xs i new) ≡ false
no_more p xs i new none here = any-insert p xs i new ∙ (ap (λ b. b || p new) none ∙ here)

no_fewer : {X : Type 0} (p q : X → Bool) (xs : List X) → list_any p xs ≡ false → list_any p (filter q xs) ≡ false
no_fewer p q xs none = list_any_none p (filter q xs) (All-filter q (λ x. p x ≡ false) xs (none_passes p xs none))

-- a link is one of the same members' tables with other links and blocks
link_kept : (members : List Member) (links others : List Link) (blocks bars : List BlockRow) (link : Link)
    → IsLink (record { members = members; links = links; blocks = blocks }) link
    → IsLink (record { members = members; links = others; blocks = bars }) link
link_kept members links others blocks bars link h =
    record { from = h.from; to = h.to; different = h.different; smaller_first = h.smaller_first }

-- and a block is one of the same members' tables with other links, of which none joins its two
block_kept : (members : List Member) (links others : List Link) (blocks bars : List BlockRow) (block : BlockRow)
    → IsBlock (record { members = members; links = links; blocks = blocks }) block
    → list_any (joins block.blocker block.blocked) others ≡ false
    → IsBlock (record { members = members; links = others; blocks = bars }) block
block_kept members links others blocks bars block h none = record { from = h.from; to = h.to; different = h.different; unlinked = none }

-- one more link, between two of whom none has blocked the other
pub Fit-with_link : (members : List Member) (links : List Link) (blocks : List BlockRow) (new : Link)
    → Fit (record { members = members; links = links; blocks = blocks })
    → IsLink (record { members = members; links = links; blocks = blocks }) new → All (λ link. joins new.a new.b link ≡ false) links
    → All (λ block. joins block.blocker block.blocked new ≡ false) blocks → length links < 1000000
    → Fit (record { members = members; links = with_link new links; blocks = blocks })
Fit-with_link members links blocks new fit here free clear few =
    let pairs = with_in_place new links (in_place links fit.links_ascend fit.one_link) free in
    let after : Tables = record { members = members; links = with_link new links; blocks = blocks } in
    let kept : All (λ link. IsLink after link) links =
    λ k d l. link_kept members links (with_link new links) blocks blocks (get_or links k d) (fit.links_join k d l) in
    let n : length (with_link new links) ≡ length links + 1 =
    length-insert links (count_by (is_before new) links) new (count_by-le-length (is_before new) links) in
    record {
      ids = fit.ids;
      names = fit.names;
      members_ascend = fit.members_ascend;
      links_join =
          All-insert (λ link. IsLink after link) links (count_by (is_before new) links) new kept
          (link_kept members links (with_link new links) blocks blocks new here);
      links_ascend = λ i j d low l. let h = pairs i j d low l in (h.low, h.tied);
      one_link = λ i j d low l. (pairs i j d low l).apart;
      few_links = omega (arith, n);
      blocks_join = λ k d l.
          let block = get_or blocks k d in
          let h : IsBlock (record { members = members; links = links; blocks = blocks }) block = fit.blocks_join k d l in
          block_kept members links (with_link new links) blocks blocks block h
          (no_more (joins block.blocker block.blocked) links (count_by (is_before new) links) new h.unlinked (clear k d l));
      blocks_ascend = fit.blocks_ascend;
      few_blocks = fit.few_blocks;
    }

-- one link less
pub Fit-without_link : (members : List Member) (links : List Link) (blocks : List BlockRow) (a b : ℕ)
    → Fit (record { members = members; links = links; blocks = blocks })
    → Fit (record { members = members; links = without_link a b links; blocks = blocks })
Fit-without_link members links blocks a b fit =
    let p : Link → Bool = λ link. not (joins a b link) in
    let after : Tables = record { members = members; links = without_link a b links; blocks = blocks } in
    let kept : All (λ link. IsLink after link) links =
    λ k d l. link_kept members links (without_link a b links) blocks blocks (get_or links k d) (fit.links_join k d l) in
    let n : length (filter p links) ≡ count_by p links = length-filter p links in
    let le : count_by p links ≤ length links = count_by-le-length p links in
    let most : length links ≤ 1000000 = fit.few_links in
    record {
      ids = fit.ids;
      names = fit.names;
      members_ascend = fit.members_ascend;
      links_join = All-filter p (λ link. IsLink after link) links kept;
      links_ascend = AllPairs-filter IsBefore p links fit.links_ascend;
      one_link = AllPairs-filter (λ link later. joins later.a later.b link ≡ false) p links fit.one_link;
      few_links = omega (arith, n, le, most);
      blocks_join = λ k d l.
          let block = get_or blocks k d in
          let h : IsBlock (record { members = members; links = links; blocks = blocks }) block = fit.blocks_join k d l in
          block_kept members links (without_link a b links) blocks blocks block h (no_fewer (joins block.blocker block.blocked) p links h.unlinked);
      blocks_ascend = fit.blocks_ascend;
      few_blocks = fit.few_blocks;
    }

-- what an invitation that applies asked
pub record CanInvite (t : Tables) (a b : ℕ) : Type 0 where
  pub differ : a ≢ b
  pub from : IsMember a t
  pub to : IsMember b t
  pub free : is_linked a b t ≡ false
  pub unblocked : has_blocked a b t ≡ false
  pub unblocked_back : has_blocked b a t ≡ false
  pub few : length t.links < 1000000

pub invite_parts : (a b : ℕ) (t : Tables) → applies (Invite a b) t ≡ true → CanInvite t a b
invite_parts a b t e =
    let p6 =
    and_parts (not (a == b) && is_member a t && is_member b t && not (is_linked a b t) && not (has_blocked a b t) && not (has_blocked b a t))
    (nat_lt (length t.links) 1000000) e in
    let p5 =
    and_parts (not (a == b) && is_member a t && is_member b t && not (is_linked a b t) && not (has_blocked a b t)) (not (has_blocked b a t)) p6.0 in
    let p4 = and_parts (not (a == b) && is_member a t && is_member b t && not (is_linked a b t)) (not (has_blocked a b t)) p5.0 in
    let p3 = and_parts (not (a == b) && is_member a t && is_member b t) (not (is_linked a b t)) p4.0 in
    let p2 = and_parts (not (a == b) && is_member a t) (is_member b t) p3.0 in
    let p1 = and_parts (not (a == b)) (is_member a t) p2.0 in
    record {
      differ = λ same. false≢true (sym (not_true (a == b) p1.0) ∙ eq-eqb a b same);
      from = found_some (λ member. member.id == a) t.members p1.1;
      to = found_some (λ member. member.id == b) t.members p2.1;
      free = not_true (is_linked a b t) p3.1;
      unblocked = not_true (has_blocked a b t) p4.1;
      unblocked_back = not_true (has_blocked b a t) p5.1;
      few = ltb-true _ _ p6.1;
    }

-- what a block that applies asked
pub record CanBlock (t : Tables) (a b : ℕ) : Type 0 where
  pub differ : a ≢ b
  pub from : IsMember a t
  pub to : IsMember b t
  pub free : is_linked a b t ≡ false
  pub unblocked : has_blocked a b t ≡ false
  pub few : length t.blocks < 1000000

pub block_parts : (a b : ℕ) (t : Tables) → applies (Block a b) t ≡ true → CanBlock t a b
block_parts a b t e =
    let p5 =
    and_parts (not (a == b) && is_member a t && is_member b t && not (is_linked a b t) && not (has_blocked a b t)) (nat_lt (length t.blocks) 1000000) e in
    let p4 = and_parts (not (a == b) && is_member a t && is_member b t && not (is_linked a b t)) (not (has_blocked a b t)) p5.0 in
    let p3 = and_parts (not (a == b) && is_member a t && is_member b t) (not (is_linked a b t)) p4.0 in
    let p2 = and_parts (not (a == b) && is_member a t) (is_member b t) p3.0 in
    let p1 = and_parts (not (a == b)) (is_member a t) p2.0 in
    record {
      differ = λ same. false≢true (sym (not_true (a == b) p1.0) ∙ eq-eqb a b same);
      from = found_some (λ member. member.id == a) t.members p1.1;
      to = found_some (λ member. member.id == b) t.members p2.1;
      free = not_true (is_linked a b t) p3.1;
      unblocked = not_true (has_blocked a b t) p4.1;
      few = ltb-true _ _ p5.1;
    }

-- a link between two is none between those of a block of neither by the other
unjoined : (a b : ℕ) (block : BlockRow) → ((block.blocker == a) && (block.blocked == b)) ≡ false
    → ((block.blocker == b) && (block.blocked == a)) ≡ false → joins block.blocker block.blocked (invitation a b) ≡ false
unjoined a b block one other = grind (arith, nat_tests)

-- after an invitation that applies
pub Fit-invited : (members : List Member) (links : List Link) (blocks : List BlockRow) (a b : ℕ)
    → Fit (record { members = members; links = links; blocks = blocks })
    → applies (Invite a b) (record { members = members; links = links; blocks = blocks }) ≡ true
    → Fit (record { members = members; links = with_link (invitation a b) links; blocks = blocks })
Fit-invited members links blocks a b fit e =
    let t : Tables = record { members = members; links = links; blocks = blocks } in
    let h = invite_parts a b t e in
    let here : IsLink t (invitation a b) =
    record { from = h.from; to = h.to; different = h.differ; smaller_first = λ friend. absurd (false≢true friend) } in
    let free : All (λ link. joins a b link ≡ false) links = none_passes (joins a b) links h.free in
    let one = none_passes (λ block. (block.blocker == a) && (block.blocked == b)) blocks h.unblocked in
    let other = none_passes (λ block. (block.blocker == b) && (block.blocked == a)) blocks h.unblocked_back in
    let clear : All (λ block. joins block.blocker block.blocked (invitation a b) ≡ false) blocks =
    λ k d l. unjoined a b (get_or blocks k d) (one k d l) (other k d l) in
    Fit-with_link members links blocks (invitation a b) fit here free clear h.few

-- a friendship of two members
pub friend_link : (t : Tables) (a b : ℕ) (first : Bool) → nat_lt a b ≡ first
    → IsMember a t → IsMember b t → a ≢ b → IsLink t (if first then record { a = a; b = b; state = Friend } else record { a = b; b = a; state = Friend })
friend_link t a b true e from to differ = record { from = from; to = to; different = differ; smaller_first = λ _. ltb-true a b e }
friend_link t a b false e from to differ =
    let less : b < a = grind (arith, nat_tests) in
    record { from = to; to = from; different = λ same. differ (sym same); smaller_first = λ _. less }

joins_swap : (a b : ℕ) (link : Link) → joins a b link ≡ false → joins b a link ≡ false
joins_swap a b link e = grind (arith, nat_tests)

pub friend_free : (a b : ℕ) (first : Bool) (link : Link) → joins a b link ≡ false
    → (let new : Link = if first then record { a = a; b = b; state = Friend } else record { a = b; b = a; state = Friend } in joins new.a new.b link ≡ false)
friend_free a b true link e = e
friend_free a b false link e = joins_swap a b link e

pub cond_le : (b : Bool) → cond b 1 0 ≤ 1
cond_le true = omega arith
cond_le false = omega arith

-- fewer pass than there are, where one doesn't
count_less : {X : Type 0} (p : X → Bool) (xs : List X) (k : ℕ) (d : X) → k < length xs → p (get_or xs k d) ≡ false → count_by p xs < length xs
count_less p [] k d l e = absurd (omega arith)
count_less p (x ∷ xs) zero d l e =
    let n : count_by p (x ∷ xs) ≡ 0 + count_by p xs = count_cons p x xs ∙ ap (λ b. cond b 1 0 + count_by p xs) e in
    omega (arith, n, count_by-le-length p xs)
count_less p (x ∷ xs) (suc k) d l e =
    let rest : count_by p xs < length xs = count_less p xs k d (omega arith) e in
    omega (arith, count_cons p x xs, cond_le (p x), rest)

-- the two members of an invitation
pub record IsInvited (t : Tables) (a b : ℕ) : Type 0 where
  pub from : IsMember a t
  pub to : IsMember b t
  pub differ : a ≢ b
  fewer : count_by (λ link. not (joins a b link)) t.links < length t.links

pub invited_parts : (t : Tables) (a b : ℕ) → Fit t → is_invited a b t ≡ true → IsInvited t a b
invited_parts t a b fit e =
    let w = Any-from_list_any (λ link. is_pending link.state && (link.a == a) && (link.b == b)) t.links e in
    let k = w.0 in
    let link = w.1 in
    let at : IsLink t (get_or t.links k link) = fit.links_join k link w.2 in
    let h : IsLink t link = subst (IsLink t) w.3 at in
    let both = and_parts (is_pending link.state && (link.a == a)) (link.b == b) w.4 in
    let front = and_parts (is_pending link.state) (link.a == a) both.0 in
    let ea : link.a ≡ a = eqb-true _ _ front.1 in
    let eb : link.b ≡ b = eqb-true _ _ both.1 in
    let joined : not (joins a b link) ≡ false = rw (front.1, both.1) refl in
    record {
      from = subst (λ (n : ℕ). IsMember n t) ea h.from;
      to = subst (λ (n : ℕ). IsMember n t) eb h.to;
      differ = λ same. h.different (ea ∙ (same ∙ sym eb));
      fewer = count_less (λ l. not (joins a b l)) t.links k link w.2 (ap (λ l. not (joins a b l)) w.3 ∙ joined);
    }

-- an invitation that waits isn't between those of a block
invited_apart : (x y a b : ℕ) (link : Link) → (is_pending link.state && (link.a == a) && (link.b == b)) ≡ true → joins x y link ≡ false
    → joins x y (invitation a b) ≡ false
invited_apart x y a b link e none = grind (arith, nat_tests)

invited_unjoined : (x y a b : ℕ) (t : Tables) → is_invited a b t ≡ true → list_any (joins x y) t.links ≡ false → joins x y (invitation a b) ≡ false
invited_unjoined x y a b t e none =
    let w = Any-from_list_any (λ link. is_pending link.state && (link.a == a) && (link.b == b)) t.links e in
    let at : joins x y (get_or t.links w.0 w.1) ≡ false = none_passes (joins x y) t.links none w.0 w.1 w.2 in
    invited_apart x y a b w.1 w.4 (ap (joins x y) (sym w.3) ∙ at)

friend_apart : (x y a b : ℕ) (first : Bool) → joins x y (invitation a b) ≡ false
    → joins x y (if first then record { a = a; b = b; state = Friend } else record { a = b; b = a; state = Friend }) ≡ false
friend_apart x y a b true e = e
friend_apart x y a b false e = grind (arith, nat_tests)

-- after an invitation was accepted
pub Fit-accepted : (members : List Member) (links : List Link) (blocks : List BlockRow) (a b : ℕ)
    → Fit (record { members = members; links = links; blocks = blocks })
    → applies (Accept a b) (record { members = members; links = links; blocks = blocks }) ≡ true
    → Fit (record { members = members; links = with_link (friendship a b) (without_link a b links); blocks = blocks })
Fit-accepted members links blocks a b fit e =
    let t : Tables = record { members = members; links = links; blocks = blocks } in
    let h = invited_parts t a b fit e in
    let p : Link → Bool = λ link. not (joins a b link) in
    let kept = Fit-without_link members links blocks a b fit in
    let passes = filter_passes p links in
    let free : All (λ link. joins (friendship a b).a (friendship a b).b link ≡ false) (without_link a b links) =
    λ k d l. friend_free a b (nat_lt a b) (get_or (without_link a b links) k d) (not_true _ (passes k d l)) in
    let here : IsLink (record { members = members; links = without_link a b links; blocks = blocks }) (friendship a b) =
    link_kept members links (without_link a b links) blocks blocks (friendship a b) (friend_link t a b (nat_lt a b) refl h.from h.to h.differ) in
    let clear : All (λ block. joins block.blocker block.blocked (friendship a b) ≡ false) blocks = λ k d l.
    let block = get_or blocks k d in
    let is : IsBlock t block = fit.blocks_join k d l in
    friend_apart block.blocker block.blocked a b (nat_lt a b) (invited_unjoined block.blocker block.blocked a b t e is.unlinked) in
    let n : length (without_link a b links) ≡ count_by p links = length-filter p links in
    let most : length links ≤ 1000000 = fit.few_links in
    let fewer : count_by p links < length links = h.fewer in
    Fit-with_link members (without_link a b links) blocks (friendship a b) kept here free clear (omega (arith, n, most, fewer))

-- blocks in order
block_stops : (new block later : BlockRow) → IsBlockBefore block later → is_block_before new block ≡ false → is_block_before new later ≡ false
block_stops new block later h e =
    let low : block.blocker ≤ later.blocker = h.0 in
    let tied : block.blocker ≡ later.blocker → block.blocked < later.blocked = h.1 in
    grind (arith, nat_tests)

block_before : (new block : BlockRow) → is_block_before new block ≡ true → IsBlockBefore block new
block_before new block e = (grind (arith, nat_tests), grind (arith, nat_tests))

block_after : (new block : BlockRow) → ((block.blocker == new.blocker) && (block.blocked == new.blocked)) ≡ false → is_block_before new block ≡ false
    → IsBlockBefore new block
block_after new block other e = (grind (arith, nat_tests), grind (arith, nat_tests))

-- after a block that applies
pub Fit-blocked : (members : List Member) (links : List Link) (blocks : List BlockRow) (a b : ℕ)
    → Fit (record { members = members; links = links; blocks = blocks })
    → applies (Block a b) (record { members = members; links = links; blocks = blocks }) ≡ true
    → Fit (record { members = members; links = links; blocks = with_block (block_of a b) blocks })
Fit-blocked members links blocks a b fit e =
    let t : Tables = record { members = members; links = links; blocks = blocks } in
    let new = block_of a b in
    let h = block_parts a b t e in
    let after : Tables = record { members = members; links = links; blocks = with_block new blocks } in
    let here : IsBlock after new = record { from = h.from; to = h.to; different = h.differ; unlinked = h.free } in
    let kept : All (λ block. IsBlock after block) blocks = λ k d l.
    let is : IsBlock t (get_or blocks k d) = fit.blocks_join k d l in
    block_kept members links links blocks (with_block new blocks) (get_or blocks k d) is is.unlinked in
    let others = none_passes (λ block. (block.blocker == a) && (block.blocked == b)) blocks h.unblocked in
    let n : length (with_block new blocks) ≡ length blocks + 1 =
    length-insert blocks (count_by (is_block_before new) blocks) new (count_by-le-length (is_block_before new) blocks) in
    let few : length blocks < 1000000 = h.few in
    record {
      ids = fit.ids;
      names = fit.names;
      members_ascend = fit.members_ascend;
      links_join = λ k d l. link_kept members links links blocks (with_block new blocks) (get_or links k d) (fit.links_join k d l);
      links_ascend = fit.links_ascend;
      one_link = fit.one_link;
      few_links = fit.few_links;
      blocks_join = All-insert (λ block. IsBlock after block) blocks (count_by (is_block_before new) blocks) new kept here;
      blocks_ascend = pairs_insert IsBlockBefore (is_block_before new) new blocks fit.blocks_ascend (block_stops new)
          (λ k d l before. block_before new (get_or blocks k d) before) (λ k d l later. block_after new (get_or blocks k d) (others k d l) later);
      few_blocks = omega (arith, n, few);
    }

same_id_go : (member : Member) (b : Bool) (name : List ℕ) → (let m : Member = if b then record { id = member.id; name = name } else member in m.id ≡ member.id)
same_id_go member true name = refl
same_id_go member false name = refl

-- a member keeps its id
pub same_id : (id : ℕ) (name : List ℕ) (member : Member) → (renamed id name member).id ≡ member.id
same_id id name member = same_id_go member (member.id == id) name

is_name_go : (member : Member) (b : Bool) (name : List ℕ) → IsName name
    → IsName member.name → (let m : Member = if b then record { id = member.id; name = name } else member in IsName m.name)
is_name_go member true name new old = new
is_name_go member false name new old = old

find_go : (i : ℕ) (x y : Member) (xs ys : List Member) (b c : Bool) → b ≡ c → (IsSome (find (λ m. m.id == i) xs) → IsSome (find (λ m. m.id == i) ys))
    → IsSome (cond c (Some x) (find (λ m. m.id == i) xs)) → IsSome (cond b (Some y) (find (λ m. m.id == i) ys))
find_go i x y xs ys true c e rest h = refl
find_go i x y xs ys false true e rest h = absurd (false≢true e)
find_go i x y xs ys false false e rest h = rest h

find_kept : (id : ℕ) (name : List ℕ) (i : ℕ) (members : List Member)
    → IsSome (find (λ m. m.id == i) members) → IsSome (find (λ m. m.id == i) (map (renamed id name) members))
find_kept id name i [] h = h
find_kept id name i (x ∷ xs) h =
    find_go i x (renamed id name x) xs (map (renamed id name) xs)
    ((renamed id name x).id == i) (x.id == i) (ap (λ (n : ℕ). n == i) (same_id id name x)) (find_kept id name i xs) h

-- after a member has another name
pub Fit-renamed : (members : List Member) (links : List Link) (blocks : List BlockRow) (id : ℕ) (name : List ℕ)
    → Fit (record { members = members; links = links; blocks = blocks }) → IsName name
    → Fit (record { members = map (renamed id name) members; links = links; blocks = blocks })
Fit-renamed members links blocks id name fit new =
    let f = renamed id name in
    let n : length (map f members) ≡ length members = length-map members f in
    record {
      ids = λ k d l.
          let within : k < length members = omega (arith, n) in
          let at : get_or (map f members) k d ≡ f (get_or members k d) = get_or-map f members k d d within in
          let same = same_id id name (get_or members k d) in
          let h = fit.ids k d within in
          let P : Member → Type 0 = λ m. (1 ≤ m.id) × (m.id ≤ 100000) in
          subst P (sym at) (omega (arith, same, h.0), omega (arith, same, h.1));
      names = λ k d l.
          let within : k < length members = omega (arith, n) in
          let at : get_or (map f members) k d ≡ f (get_or members k d) = get_or-map f members k d d within in
          let member = get_or members k d in
          subst (λ (m : Member). IsName m.name) (sym at) (is_name_go member (member.id == id) name new (fit.names k d within));
      members_ascend = λ i j d low l.
          let within : j < length members = omega (arith, n) in
          let at_i : (get_or (map f members) i d).id ≡ (get_or members i d).id =
          ap (λ (m : Member). m.id) (get_or-map f members i d d (omega arith)) ∙ same_id id name (get_or members i d) in
          let at_j : (get_or (map f members) j d).id ≡ (get_or members j d).id =
          ap (λ (m : Member). m.id) (get_or-map f members j d d within) ∙ same_id id name (get_or members j d) in
          let up = fit.members_ascend i j d low within in
          omega (arith, at_i, at_j, up);
      links_join = λ k d l.
          let h = fit.links_join k d l in
          record {
            from = find_kept id name (get_or links k d).a members h.from;
            to = find_kept id name (get_or links k d).b members h.to;
            different = h.different;
            smaller_first = h.smaller_first;
          };
      links_ascend = fit.links_ascend;
      one_link = fit.one_link;
      few_links = fit.few_links;
      blocks_join = λ k d l.
          let h = fit.blocks_join k d l in
          record {
            from = find_kept id name (get_or blocks k d).blocker members h.from;
            to = find_kept id name (get_or blocks k d).blocked members h.to;
            different = h.different;
            unlinked = h.unlinked;
          };
      blocks_ascend = fit.blocks_ascend;
      few_blocks = fit.few_blocks;
    }
