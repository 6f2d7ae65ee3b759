-- The ids in an answer ascend, since links and blocks are in order.
use Rattle.std.proofs.Common.{ℕ, ◌+◌, ◌<◌, ◌≤◌, ◌≡◌, Bool, true, List, length, map, filter, AllPairs, arith}
use Rattle.std.specs.List.Sorted.{IsStrictlyIncreasing}
use Rattle.std.proofs.lemmas.List.{get_or-map, length-map}
use Rattle.std.proofs.lemmas.List.Elements.{filter_passes}
use Rattle.std.proofs.lemmas.List.Kept.{AllPairs-filter}
use Rattle.std.proofs.lemmas.Bool.Decides.{nat_tests}
use Rattle.rows_model.specs.declared.rows.LinkState.TheVariants.{Friend}
use Rattle.rows_model.specs.declared.rows.Link.{Link}
use Rattle.rows_model.specs.Rows.{Tables, BlockRow, Fit, IsBlockBefore, is_friend}
use Rattle.rows_model.specs.Changes.{block_of}
use Rattle.rows_model.specs.Query.{befriends, invites, is_by, other_end, AnswersAscend}

-- one link stands before another, and each names the smaller friend first
record InOrder (link later : Link) : Type 0 where
  smaller : is_friend link.state ≡ true → link.a < link.b
  later_smaller : is_friend later.state ≡ true → later.a < later.b
  before : link.a ≤ later.a
  tied : link.a ≡ later.a → link.b < later.b

in_order : (tables : Tables) → Fit tables → AllPairs InOrder tables.links
in_order tables fit = λ i j d low l. record {
  smaller = (fit.links_join i d (omega arith)).smaller_first;
  later_smaller = (fit.links_join j d l).smaller_first;
  before = (fit.links_ascend i j d low l).0;
  tied = (fit.links_ascend i j d low l).1;
}

-- of two friendships of a member, the one before has the smaller other end
friends_rise : (id : ℕ) (link later : Link) → InOrder link later → befriends id link ≡ true → befriends id later ≡ true → other_end id link < other_end id later
friends_rise id link later h one two = grind (arith, nat_tests)

-- of two invitations to a member, the one before is by the smaller
inviters_rise : (id : ℕ) (link later : Link) → InOrder link later → invites id link ≡ true → invites id later ≡ true → link.a < later.a
inviters_rise id link later h one two = grind (arith, nat_tests)

-- of two blocks by a member, the one before is of the smaller
blocked_rise : (id : ℕ) (block later : BlockRow) → IsBlockBefore block later → is_by id block ≡ true → is_by id later ≡ true
    → block.blocked < later.blocked
blocked_rise id block later h one two =
    let tied : block.blocker ≡ later.blocker → block.blocked < later.blocked = h.1 in
    let same : block.blocker ≡ later.blocker = grind (arith, nat_tests) in
    tied same

-- what rises along the elements that pass is a strictly increasing list
rising : {X : Type 0} (R : X → X → Type 0) (d : X) (p : X → Bool) (f : X → ℕ) (xs : List X) → AllPairs R xs
    → ((x y : X) → R x y → p x ≡ true → p y ≡ true → f x < f y) → IsStrictlyIncreasing (map f (filter p xs))
rising R d p f xs order rise = λ k l.
    let kept = filter p xs in
    let in_range : k + 1 < length kept = omega (arith, length-map kept f) in
    let pair = AllPairs-filter R p xs order k (k + 1) d (omega arith) in_range in
    let one = filter_passes p xs k d (omega arith) in
    let two = filter_passes p xs (k + 1) d in_range in
    rw (get_or-map f kept k d 0 (omega arith), get_or-map f kept (k + 1) d 0 in_range) (rise _ _ pair one two)

-- on fit tables the ids of an answer ascend
pub answers_ascend_is : AnswersAscend
answers_ascend_is tables id fit =
    let d : Link = record { a = 0; b = 0; state = Friend } in
    record {
      friends = rising InOrder d (befriends id) (other_end id) tables.links (in_order tables fit) (friends_rise id);
      inviters = rising InOrder d (invites id) (λ link. link.a) tables.links (in_order tables fit) (inviters_rise id);
      blocked = rising IsBlockBefore (block_of 0 0) (is_by id) (λ block. block.blocked) tables.blocks fit.blocks_ascend (blocked_rise id);
    }
