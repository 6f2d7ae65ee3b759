-- Whether a change applies, by the pairs of the two members that it names.
use Rattle.std.proofs.Common.{ℕ, ◌<◌, ◌≤◌, ◌≡◌, Bool, true, false, not, List, [], ◌∷◌, ◌++◌, filter, find, All, Result, Ok, Err, IfOk, refl, sym, ap, ◌∙◌, arith}
use Rattle.std.specs.Prelude.{◌==◌, ◌&&◌, ◌||◌, option_map}
use Rattle.std.specs.List.{list_any}
use Rattle.std.specs.Option.{is_some}
use Rattle.std.proofs.Math.Bool.{and-false}
use Rattle.std.proofs.lemmas.Bool.Decides.{nat_tests}
use Rattle.std.proofs.lemmas.List.Elements.{All-head, All-tail}
use Rattle.rows_model.specs.declared.rows.Link.{Link}
use Rattle.rows_model.specs.declared.rows.Member.{Member}
use Rattle.rows_model.specs.Rows.{joins, is_pending, is_friend}
use Rattle.rows_model.specs.Changes.{is_member, is_linked, are_friends, has_blocked}
use Rattle.sqlite_tables.specs.declared.pairs.Pair.{Pair}
use Rattle.sqlite_tables.specs.declared.pairs.PairState.{PairState}
use Rattle.sqlite_tables.specs.declared.pairs.PairState.TheVariants.{Pending, Friend, Block}
use Rattle.sqlite_tables.specs.Lists.{Lists, tables_of, link_in, block_in, name_in, pairs_between, is_pair}
use Rattle.sqlite_keeper.specs.Texts.{has_state}
use Rattle.sqlite_keeper.specs.Bonds.{reaches, reaches_as, reaches_linked, paired_as}
use Rattle.sqlite_keeper.proofs.AnswerLemmas.{links_in, blocks_in, IsSmaller}

-- a member has a name
named_go : (id : ℕ) (m : Member) (ms : List Member) (c : Bool) → (m.id == id) ≡ c
    → is_some (option_map (λ (n : Member). n.name) (find (λ n. n.id == id) ms)) ≡ list_any (λ n. n.id == id) ms
    → is_some (option_map (λ (n : Member). n.name) (find (λ n. n.id == id) (m ∷ ms))) ≡ list_any (λ n. n.id == id) (m ∷ ms)
named_go id m ms true e rest = rw e refl
named_go id m ms false e rest = rw e rest

named : (id : ℕ) (ms : List Member) → is_some (option_map (λ (n : Member). n.name) (find (λ n. n.id == id) ms)) ≡ list_any (λ n. n.id == id) ms
named id [] = refl
named id (m ∷ ms) = named_go id m ms (m.id == id) refl (named id ms)

pub member_named : (id : ℕ) (lists : Lists) → is_some (name_in id lists) ≡ is_member id (tables_of lists)
member_named id lists = named id lists.members

-- a test of the pairs that pass another
among_go : (q test : Pair → Bool) (p : Pair) (ps : List Pair) (c : Bool) → q p ≡ c
    → list_any test (filter q ps) ≡ list_any (λ x. q x && test x) ps → list_any test (filter q (p ∷ ps)) ≡ list_any (λ x. q x && test x) (p ∷ ps)
among_go q test p ps true e rest = rw e (ap (λ b. test p || b) rest)
among_go q test p ps false e rest = rw e rest

among : (q test : Pair → Bool) (ps : List Pair) → list_any test (filter q ps) ≡ list_any (λ x. q x && test x) ps
among q test [] = refl
among q test (p ∷ ps) = among_go q test p ps (q p) refl (among q test ps)

-- whether some pair of the two, in this order, is a link
abbrev pub paired_linked : ℕ → ℕ → List Pair → Bool
paired_linked a b ps = list_any (λ p. (p.a == a) && (not (has_state Block p) && (p.b == b))) ps

abbrev pub paired : ℕ → ℕ → List Pair → Bool
paired a b ps = list_any (λ p. (p.a == a) && (p.b == b)) ps

-- a test that was made already
twice : (x y : Bool) → ((x && y) && y) ≡ (x && y)
twice true true = refl
twice true false = refl
twice false y = refl

twice_behind : (x y s : Bool) → ((x && y) && (s && y)) ≡ (x && (s && y))
twice_behind true true s = refl
twice_behind true false s = sym (and-false s)
twice_behind false y s = refl

pub reaches_is : (a b : ℕ) (lists : Lists) → reaches b (pairs_between a b lists) ≡ paired a b lists.pairs
reaches_is a b lists =
    among (is_pair a b) (λ p. p.b == b) lists.pairs ∙ (λ i. list_any (λ (p : Pair). twice (p.a == a) (p.b == b) i) lists.pairs)

pub reaches_as_is : (state : PairState) (a b : ℕ) (lists : Lists) → reaches_as state b (pairs_between a b lists) ≡ paired_as state a b lists.pairs
reaches_as_is state a b lists =
    among (is_pair a b) (λ p. has_state state p && (p.b == b)) lists.pairs
    ∙ (λ i. list_any (λ (p : Pair). twice_behind (p.a == a) (p.b == b) (has_state state p) i) lists.pairs)

pub reaches_linked_is : (a b : ℕ) (lists : Lists) → reaches_linked b (pairs_between a b lists) ≡ paired_linked a b lists.pairs
reaches_linked_is a b lists =
    among (is_pair a b) (λ p. not (has_state Block p) && (p.b == b)) lists.pairs
    ∙ (λ i. list_any (λ (p : Pair). twice_behind (p.a == a) (p.b == b) (not (has_state Block p)) i) lists.pairs)

-- an invitation is a pending pair
invited_go : (a b x y : ℕ) (s : PairState) (ps : List Pair)
    → list_any (λ l. is_pending l.state && (l.a == a) && (l.b == b)) (links_in ps) ≡ paired_as Pending a b ps
    → list_any (λ l. is_pending l.state && (l.a == a) && (l.b == b)) (link_in x y s ++ links_in ps) ≡ paired_as Pending a b (record { a = x; b = y; state = s } ∷ ps)
invited_go a b x y Pending ps rest = ap (λ c. ((x == a) && (y == b)) || c) rest
invited_go a b x y Friend ps rest = rest ∙ sym (ap (λ c. c || paired_as Pending a b ps) (and-false (x == a)))
invited_go a b x y Block ps rest = rest ∙ sym (ap (λ c. c || paired_as Pending a b ps) (and-false (x == a)))

pub invited_is : (a b : ℕ) (ps : List Pair) → list_any (λ l. is_pending l.state && (l.a == a) && (l.b == b)) (links_in ps) ≡ paired_as Pending a b ps
invited_is a b [] = refl
invited_is a b (p ∷ ps) = invited_go a b p.a p.b p.state ps (invited_is a b ps)

-- a block is a pair that is one
barred_go : (a b x y : ℕ) (s : PairState) (ps : List Pair)
    → list_any (λ k. (k.blocker == a) && (k.blocked == b)) (blocks_in ps) ≡ paired_as Block a b ps
    → list_any (λ k. (k.blocker == a) && (k.blocked == b)) (block_in x y s ++ blocks_in ps) ≡ paired_as Block a b (record { a = x; b = y; state = s } ∷ ps)
barred_go a b x y Block ps rest = ap (λ c. ((x == a) && (y == b)) || c) rest
barred_go a b x y Pending ps rest = rest ∙ sym (ap (λ c. c || paired_as Block a b ps) (and-false (x == a)))
barred_go a b x y Friend ps rest = rest ∙ sym (ap (λ c. c || paired_as Block a b ps) (and-false (x == a)))

pub barred_is : (a b : ℕ) (ps : List Pair) → list_any (λ k. (k.blocker == a) && (k.blocked == b)) (blocks_in ps) ≡ paired_as Block a b ps
barred_is a b [] = refl
barred_is a b (p ∷ ps) = barred_go a b p.a p.b p.state ps (barred_is a b ps)

-- two tests, each with the rest behind it
four : (p q m n : Bool) → ((p || q) || (m || n)) ≡ ((p || m) || (q || n))
four true q m n = refl
four false true true n = refl
four false true false n = refl
four false false m n = refl

-- a link joins the two where they are paired by one, in either order
joined_go : (a b x y : ℕ) (s : PairState) (ps : List Pair)
    → list_any (joins a b) (links_in ps) ≡ (paired_linked a b ps || paired_linked b a ps)
    → list_any (joins a b) (link_in x y s ++ links_in ps)
    ≡ (paired_linked a b (record { a = x; b = y; state = s } ∷ ps) || paired_linked b a (record { a = x; b = y; state = s } ∷ ps))
joined_go a b x y Pending ps rest =
    ap (λ c. (((x == a) && (y == b)) || ((x == b) && (y == a))) || c) rest ∙ four ((x == a) && (y == b)) ((x == b) && (y == a)) (paired_linked a b ps) (paired_linked b a ps)
joined_go a b x y Friend ps rest =
    ap (λ c. (((x == a) && (y == b)) || ((x == b) && (y == a))) || c) rest ∙ four ((x == a) && (y == b)) ((x == b) && (y == a)) (paired_linked a b ps) (paired_linked b a ps)
joined_go a b x y Block ps rest =
    rest ∙ (sym (ap (λ c. (c || paired_linked a b ps) || paired_linked b a ps) (and-false (x == a)))
    ∙ sym (ap (λ c. (((x == a) && false) || paired_linked a b ps) || (c || paired_linked b a ps)) (and-false (x == b))))

pub joined_is : (a b : ℕ) (ps : List Pair) → list_any (joins a b) (links_in ps) ≡ (paired_linked a b ps || paired_linked b a ps)
joined_is a b [] = refl
joined_is a b (p ∷ ps) = joined_go a b p.a p.b p.state ps (joined_is a b ps)

-- two ids are paired by a link or by a block
split_go : (u v k m n : Bool) → ((u && v) || (m || n)) ≡ (((u && (not k && v)) || m) || ((u && (k && v)) || n))
split_go false v k m n = refl
split_go true true true true n = refl
split_go true true true false n = refl
split_go true true false m n = refl
split_go true false true m n = refl
split_go true false false m n = refl

pub paired_is : (a b : ℕ) (ps : List Pair) → paired a b ps ≡ (paired_linked a b ps || paired_as Block a b ps)
paired_is a b [] = refl
paired_is a b (p ∷ ps) =
    ap (λ c. ((p.a == a) && (p.b == b)) || c) (paired_is a b ps)
    ∙ split_go (p.a == a) (p.b == b) (has_state Block p) (paired_linked a b ps) (paired_as Block a b ps)

-- a friendship is a pair that is one, with the smaller id first
low_first : (lo hi x y : ℕ) → lo ≤ hi → x < y → (((x == lo) && (y == hi)) || ((x == hi) && (y == lo))) ≡ ((x == lo) && (y == hi))
low_first lo hi x y order less = grind (arith, nat_tests)

friends_go : (lo hi x y : ℕ) (s : PairState) (ps : List Pair) → lo ≤ hi → (has_state Friend (record { a = x; b = y; state = s }) ≡ true → x < y)
    → list_any (λ l. is_friend l.state && joins lo hi l) (links_in ps) ≡ paired_as Friend lo hi ps
    → list_any (λ l. is_friend l.state && joins lo hi l) (link_in x y s ++ links_in ps) ≡ paired_as Friend lo hi (record { a = x; b = y; state = s } ∷ ps)
friends_go lo hi x y Friend ps order smaller rest =
    ap (λ c. (((x == lo) && (y == hi)) || ((x == hi) && (y == lo))) || c) rest ∙ ap (λ c. c || paired_as Friend lo hi ps) (low_first lo hi x y order (smaller refl))
friends_go lo hi x y Pending ps order smaller rest = rest ∙ sym (ap (λ c. c || paired_as Friend lo hi ps) (and-false (x == lo)))
friends_go lo hi x y Block ps order smaller rest = rest ∙ sym (ap (λ c. c || paired_as Friend lo hi ps) (and-false (x == lo)))

is_one : (s : PairState) (a b : ℕ) → has_state Friend (record { a = a; b = b; state = s }) ≡ true → IsSmaller (record { a = a; b = b; state = s }) → a < b
is_one Friend a b e smaller = smaller refl
is_one Pending a b e smaller = absurd (cc)
is_one Block a b e smaller = absurd (cc)

pub friends_is : (lo hi : ℕ) (ps : List Pair) → lo ≤ hi → All IsSmaller ps
    → list_any (λ l. is_friend l.state && joins lo hi l) (links_in ps) ≡ paired_as Friend lo hi ps
friends_is lo hi [] order smaller = refl
friends_is lo hi (p ∷ ps) order smaller =
    friends_go lo hi p.a p.b p.state ps order (λ e. is_one p.state p.a p.b e (All-head IsSmaller p ps smaller)) (friends_is lo hi ps order (All-tail IsSmaller p ps smaller))

-- what an invitation asks of the pairs of the two
invite_bool : (l m b c : Bool) → (not (l || b) && not (m || c)) ≡ (not (l || m) && not b && not c)
invite_bool true m b c = refl
invite_bool false true true c = refl
invite_bool false true false c = refl
invite_bool false false true c = refl
invite_bool false false false c = refl

pub may_invite : (a b : ℕ) (lists : Lists) → (not (reaches b (pairs_between a b lists)) && not (reaches a (pairs_between b a lists)))
    ≡ (not (is_linked a b (tables_of lists)) && not (has_blocked a b (tables_of lists)) && not (has_blocked b a (tables_of lists)))
may_invite a b lists =
    rw (reaches_is a b lists, reaches_is b a lists, paired_is a b lists.pairs, paired_is b a lists.pairs, joined_is a b lists.pairs, barred_is a b lists.pairs, barred_is b a lists.pairs)
    (invite_bool (paired_linked a b lists.pairs) (paired_linked b a lists.pairs) (paired_as Block a b lists.pairs) (paired_as Block b a lists.pairs))

-- what a block asks of the pairs of the two
block_bool : (l m b : Bool) → (not (l || b) && not m) ≡ (not (l || m) && not b)
block_bool true m b = refl
block_bool false true true = refl
block_bool false true false = refl
block_bool false false true = refl
block_bool false false false = refl

pub may_block : (a b : ℕ) (lists : Lists) → (not (reaches b (pairs_between a b lists)) && not (reaches_linked a (pairs_between b a lists)))
    ≡ (not (is_linked a b (tables_of lists)) && not (has_blocked a b (tables_of lists)))
may_block a b lists =
    rw (reaches_is a b lists, reaches_linked_is b a lists, paired_is a b lists.pairs, joined_is a b lists.pairs, barred_is a b lists.pairs)
    (block_bool (paired_linked a b lists.pairs) (paired_linked b a lists.pairs) (paired_as Block a b lists.pairs))

-- what an answer is known by, known otherwise
pub if_ok : {V E : Type 0} {P Q : V → Type 0} (r : Result V E) → ((v : V) → P v → Q v) → IfOk r P → IfOk r Q
if_ok (Ok v) step h = step v h
if_ok (Err e) step h = h

or_swap : (p q : Bool) → (p || q) ≡ (q || p)
or_swap true true = refl
or_swap true false = refl
or_swap false true = refl
or_swap false false = refl

-- friends are friends in either order
friends_back : (a b : ℕ) (ls : List Link) → list_any (λ l. is_friend l.state && joins a b l) ls ≡ list_any (λ l. is_friend l.state && joins b a l) ls
friends_back a b [] = refl
friends_back a b (l ∷ ls) =
    ap (λ c. (is_friend l.state && c) || list_any (λ k. is_friend k.state && joins a b k) ls) (or_swap ((l.a == a) && (l.b == b)) ((l.a == b) && (l.b == a)))
    ∙ ap (λ c. (is_friend l.state && joins b a l) || c) (friends_back a b ls)

pub friends_low : (a b : ℕ) (lists : Lists) → a ≤ b → All IsSmaller lists.pairs → paired_as Friend a b lists.pairs ≡ are_friends a b (tables_of lists)
friends_low a b lists order smaller = sym (friends_is a b lists.pairs order smaller)

pub friends_high : (a b : ℕ) (lists : Lists) → b ≤ a → All IsSmaller lists.pairs → paired_as Friend b a lists.pairs ≡ are_friends a b (tables_of lists)
friends_high a b lists order smaller = sym (friends_back a b (links_in lists.pairs) ∙ friends_is b a lists.pairs order smaller)
