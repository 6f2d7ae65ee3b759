-- Each member's list against the list of all links: what it keeps, and that all lists make the whole.
use Rattle.std.proofs.Common.{ℕ, suc, ◌+◌, ◌<◌, ◌≤◌, ◌≡◌, Bool, true, false, not, List, [], ◌∷◌, ◌++◌, length, get_or, filter, All}
use Rattle.std.proofs.Common.{AllPairs, refl, sym, ap, inl, inr, ◌∙◌, arith}
use Rattle.std.specs.Prelude.{count_by, ◌==◌, ◌||◌, nat_lt, cond, if◌then◌else◌}
use Rattle.std.specs.List.{list_any, insert, flat_map}
use Rattle.std.proofs.lemmas.Bool.{false≢true, and_parts, or_parts, or_right, false_from_ne_true, cases_eq}
use Rattle.std.proofs.lemmas.Bool.Decides.{nat_tests}
use Rattle.std.proofs.lemmas.List.Elements.{All-head, All-tail, All-filter}
use Rattle.std.proofs.lemmas.List.Folds.{Any-from_list_any}
use Rattle.std.proofs.lemmas.List.Sums.{length-filter}
use Rattle.std.proofs.lemmas.Map.Views.{any-filter_same}
use Rattle.std.proofs.lemmas.List.Kept.{AllPairs-filter}
use Rattle.rows_model.specs.declared.rows.LinkState.TheVariants.{Friend}
use Rattle.rows_model.specs.declared.rows.Link.{Link}
use Rattle.rows_model.specs.declared.near.Near.{Near}
use Rattle.rows_model.specs.declared.changes.Change.{Change}
use Rattle.rows_model.specs.declared.changes.Change.TheVariants.{Invite, Accept, Reject, Thaw, Rename, Block}
use Rattle.rows_model.specs.declared.judging.Bond.{Bond}
use Rattle.rows_model.specs.declared.judging.Bond.TheVariants.{Any, Invitation, Friendship}
use Rattle.rows_model.specs.Rows.{IsBefore, joins, is_pending, is_friend}
use Rattle.rows_model.specs.Query.{befriends, invites}
use Rattle.rows_model.specs.Judge.{bonds}
use Rattle.rows_model.specs.Changes.{is_before, with_link, without_link, invitation, friendship}
use Rattle.rows_model.specs.Near.{is_end, firsts, whole, NearAscend, IsIndex, links_after, near_after}
use Rattle.rows_model.proofs.FitLemmas.{pairs_head, pairs_tail, count_cons, count_none}
use Rattle.rows_model.proofs.UntouchedLemmas.{filter_with, filter_both, filter_without, pending_joins}

-- links that stand in order
abbrev pub InOrder : List Link → Type 0
InOrder links = AllPairs IsBefore links

-- two filters, in whichever order
comm_go : (p q : Link → Bool) (x : Link) (xs : List Link) (b c : Bool) → p x ≡ b → q x ≡ c
    → filter p (filter q xs) ≡ filter q (filter p xs) → filter p (cond c (x ∷ filter q xs) (filter q xs)) ≡ filter q (cond b (x ∷ filter p xs) (filter p xs))
comm_go p q x xs true true ep eq rest =
    ap (λ b. cond b (x ∷ filter p (filter q xs)) (filter p (filter q xs))) ep
    ∙ (ap (λ (ys : List Link). x ∷ ys) rest ∙ sym (ap (λ b. cond b (x ∷ filter q (filter p xs)) (filter q (filter p xs))) eq))
comm_go p q x xs true false ep eq rest =
    rest ∙ sym (ap (λ b. cond b (x ∷ filter q (filter p xs)) (filter q (filter p xs))) eq)
comm_go p q x xs false true ep eq rest =
    ap (λ b. cond b (x ∷ filter p (filter q xs)) (filter p (filter q xs))) ep ∙ rest
comm_go p q x xs false false ep eq rest = rest

filter_comm : (p q : Link → Bool) (xs : List Link) → filter p (filter q xs) ≡ filter q (filter p xs)
filter_comm p q [] = refl
filter_comm p q (x ∷ xs) = comm_go p q x xs (p x) (q x) refl refl (filter_comm p q xs)

-- a filter that no element passes
pub filter_none : {X : Type 0} (p : X → Bool) (xs : List X) → All (λ x. p x ≡ false) xs → filter p xs ≡ []
filter_none p [] all = refl
filter_none p (x ∷ xs) all =
    ap (λ b. cond b (x ∷ filter p xs) (filter p xs)) (All-head (λ y. p y ≡ false) x xs all) ∙ filter_none p xs (All-tail (λ y. p y ≡ false) x xs all)

-- a link put in front of those that don't stand before it
with_first : (new : Link) (xs : List Link) → All (λ x. is_before new x ≡ false) xs → with_link new xs ≡ new ∷ xs
with_first new xs none = ap (λ (k : ℕ). insert xs k new) (count_none (is_before new) xs none)

-- and behind one that does
with_later : (new x : Link) (xs : List Link) → is_before new x ≡ true → with_link new (x ∷ xs) ≡ x ∷ with_link new xs
with_later new x xs e =
    let n : count_by (is_before new) (x ∷ xs) ≡ suc (count_by (is_before new) xs) =
    count_cons (is_before new) x xs ∙ (ap (λ b. cond b 1 0 + count_by (is_before new) xs) e ∙ omega arith) in
    ap (λ (k : ℕ). insert (x ∷ xs) k new) n

stops : (new link later : Link) → IsBefore link later → is_before new link ≡ false → is_before new later ≡ false
stops new link later h e =
    let low : link.a ≤ later.a = h.0 in
    let tied : link.a ≡ later.a → link.b < later.b = h.1 in
    grind (arith, nat_tests)

all_stop : (new x : Link) (xs : List Link) → InOrder (x ∷ xs) → is_before new x ≡ false → All (λ y. is_before new y ≡ false) (x ∷ xs)
all_stop new x xs order e =
    λ k d l. elim (cases_eq k 0) [
      | inl first ↦ rw first e
      | inr later ↦ stops new x (get_or (x ∷ xs) k d) (order 0 k d (omega arith) l) e
    ]

-- a link that passes, put among those that pass
put_go : (p : Link → Bool) (new x : Link) (xs : List Link) (b c : Bool) → is_before new x ≡ b → p x ≡ c → p new ≡ true → InOrder (x ∷ xs)
    → filter p (with_link new xs) ≡ with_link new (filter p xs) → filter p (with_link new (x ∷ xs)) ≡ with_link new (cond c (x ∷ filter p xs) (filter p xs))
put_go p new x xs true true eb ec en order rest =
    ap (filter p) (with_later new x xs eb) ∙ (ap (λ b. cond b (x ∷ filter p (with_link new xs)) (filter p (with_link new xs))) ec
    ∙ (ap (λ (ys : List Link). x ∷ ys) rest ∙ sym (with_later new x (filter p xs) eb)))
put_go p new x xs true false eb ec en order rest =
    ap (filter p) (with_later new x xs eb) ∙ (ap (λ b. cond b (x ∷ filter p (with_link new xs)) (filter p (with_link new xs))) ec ∙ rest)
put_go p new x xs false c eb ec en order rest =
    let none = all_stop new x xs order eb in
    let passed : cond c (x ∷ filter p xs) (filter p xs) ≡ filter p (x ∷ xs) = sym (ap (λ b. cond b (x ∷ filter p xs) (filter p xs)) ec) in
    ap (filter p) (with_first new (x ∷ xs) none)
    ∙ (ap (λ b. cond b (new ∷ filter p (x ∷ xs)) (filter p (x ∷ xs))) en
    ∙ (sym (with_first new (filter p (x ∷ xs)) (All-filter p (λ y. is_before new y ≡ false) (x ∷ xs) none))
    ∙ sym (ap (with_link new) passed)))

filter_put : (p : Link → Bool) (new : Link) (xs : List Link) → p new ≡ true → InOrder xs → filter p (with_link new xs) ≡ with_link new (filter p xs)
filter_put p new [] e order = ap (λ b. cond b (new ∷ []) []) e
filter_put p new (x ∷ xs) e order =
    put_go p new x xs (is_before new x) (p x) refl refl e order (filter_put p new xs e (pairs_tail IsBefore x xs order))

-- a member's links after a link was put
put_in_list : (id : ℕ) (new : Link) (links : List Link) (b : Bool) → is_end id new ≡ b
    → InOrder links → filter (is_end id) (with_link new links) ≡ (if b then with_link new (filter (is_end id) links) else filter (is_end id) links)
put_in_list id new links true e order = filter_put (is_end id) new links e order
put_in_list id new links false e order = filter_with (is_end id) new links e

other_end_joins : (id a b : ℕ) (link : Link) → ((a == id) || (b == id)) ≡ false → joins a b link ≡ true → is_end id link ≡ false
other_end_joins id a b link e f = grind (arith, nat_tests)

-- and after one was taken
taken_from_list : (id a b : ℕ) (links : List Link) (c : Bool) → ((a == id) || (b == id)) ≡ c
    → filter (is_end id) (without_link a b links) ≡ (if c then without_link a b (filter (is_end id) links) else filter (is_end id) links)
taken_from_list id a b links true e = filter_comm (is_end id) (λ link. not (joins a b link)) links
taken_from_list id a b links false e =
    filter_without (is_end id) a b links (λ k d l f. other_end_joins id a b (get_or links k d) e f)

friend_ends : (id a b : ℕ) (first : Bool)
    → (let new : Link = if first then record { a = a; b = b; state = Friend } else record { a = b; b = a; state = Friend } in
    is_end id new ≡ ((a == id) || (b == id)))
friend_ends id a b true = refl
friend_ends id a b false = grind (arith, nat_tests)

moved_go : (id a b : ℕ) (links : List Link) (c : Bool) → ((a == id) || (b == id)) ≡ c → InOrder links
    → filter (is_end id) (with_link (friendship a b) (without_link a b links))
    ≡ (if c then with_link (friendship a b) (without_link a b (filter (is_end id) links)) else filter (is_end id) links)
moved_go id a b links true e order =
    put_in_list id (friendship a b) (without_link a b links) true (friend_ends id a b (nat_lt a b)
    ∙ e) (AllPairs-filter IsBefore (λ link. not (joins a b link)) links order)
    ∙ ap (with_link (friendship a b)) (taken_from_list id a b links true e)
moved_go id a b links false e order =
    put_in_list id (friendship a b) (without_link a b links) false (friend_ends id a b (nat_lt a b)
    ∙ e) (AllPairs-filter IsBefore (λ link. not (joins a b link)) links order)
    ∙ taken_from_list id a b links false e

-- a change of the whole is one of the lists of the members that it names
pub near_changed : (id : ℕ) (change : Change) (links : List Link)
    → InOrder links → filter (is_end id) (links_after links change) ≡ near_after id (filter (is_end id) links) change
near_changed id (Invite a b) links order = put_in_list id (invitation a b) links ((a == id) || (b == id)) refl order
near_changed id (Accept a b) links order = moved_go id a b links ((a == id) || (b == id)) refl order
near_changed id (Reject a b) links order = taken_from_list id a b links ((a == id) || (b == id)) refl
near_changed id (Thaw a b) links order = taken_from_list id a b links ((a == id) || (b == id)) refl
near_changed id (Rename a name) links order = refl
near_changed id (Block a b) links order = refl

-- what stands under a member's id, member by member
abbrev pub by_first : {X : Type 0} → (X → ℕ) → List X → Near → List X
by_first f xs one = filter (λ x. f x == one.id) xs

none_by_first : {X : Type 0} (f : X → ℕ) (near : List Near) → flat_map (by_first f []) near ≡ []
none_by_first f [] = refl
none_by_first f (one ∷ near) = none_by_first f near

-- an element that stands under the id of none behind
others_go : {X : Type 0} (f : X → ℕ) (l : X) (ls : List X) (one : Near) (near : List Near) (b : Bool) → (f l == one.id) ≡ b → b ≡ false
    → flat_map (by_first f (l ∷ ls)) near ≡ flat_map (by_first f ls) near
    → cond b (l ∷ by_first f ls one) (by_first f ls one) ++ flat_map (by_first f (l ∷ ls)) near ≡ by_first f ls one ++ flat_map (by_first f ls) near
others_go {X} f l ls one near b e apart rest =
    rw apart (ap (λ (xs : List X). by_first f ls one ++ xs) rest)

others : {X : Type 0} (f : X → ℕ) (l : X) (ls : List X) (near : List Near) → All (λ one. (f l == one.id) ≡ false) near
    → flat_map (by_first f (l ∷ ls)) near ≡ flat_map (by_first f ls) near
others f l ls [] all = refl
others f l ls (one ∷ near) all =
    others_go f l ls one near (f l == one.id) refl (All-head (λ other. (f l == other.id) ≡ false) one near all)
    (others f l ls near (All-tail (λ other. (f l == other.id) ≡ false) one near all))

-- whether a list stands for this member
abbrev pub has_list : ℕ → List Near → Bool
has_list id near = list_any (λ one. one.id == id) near

later_id : (one : Near) (near : List Near) (id : ℕ) → NearAscend (one ∷ near) → has_list id near ≡ true → one.id < id
later_id one near id up e =
    let w = Any-from_list_any (λ other. other.id == id) near e in
    let h : one.id < (get_or near w.0 w.1).id = pairs_head (λ x y. x.id < y.id) one near up w.0 w.1 w.2 in
    let same : (get_or near w.0 w.1).id ≡ w.1.id = ap (λ (x : Near). x.id) w.3 in
    let is : (w.1.id == id) ≡ true = w.4 in
    grind (arith, nat_tests)

-- the first of all stands in front
first_go : {X : Type 0} (f : X → ℕ) (l : X) (ls : List X) (one : Near) (near : List Near) (b : Bool)
    → (one.id == f l) ≡ b → NearAscend (one ∷ near) → All (λ m. f l ≤ f m) ls → (b || has_list (f l) near) ≡ true
    → (has_list (f l) near ≡ true → flat_map (by_first f (l ∷ ls)) near ≡ l ∷ flat_map (by_first f ls) near)
    → by_first f (l ∷ ls) one ++ flat_map (by_first f (l ∷ ls)) near ≡ l ∷ (by_first f ls one ++ flat_map (by_first f ls) near)
first_go {X} f l ls one near true e up low has rest =
    let here : (f l == one.id) ≡ true = grind (arith, nat_tests) in
    let same : one.id ≡ f l = grind (arith, nat_tests) in
    let apart : All (λ other. (f l == other.id) ≡ false) near =
    λ k d m. (let h : one.id < (get_or near k d).id = pairs_head (λ x y. x.id < y.id) one near up k d m in grind (arith, nat_tests)) in
    ap (λ b. cond b (l ∷ by_first f ls one) (by_first f ls one) ++ flat_map (by_first f (l ∷ ls)) near) here
    ∙ ap (λ (xs : List X). l ∷ (by_first f ls one ++ xs)) (others f l ls near apart)
first_go {X} f l ls one near false e up low has rest =
    let below : one.id < f l = later_id one near (f l) up has in
    let none : All (λ m. (f m == one.id) ≡ false) ls = λ k d m. (let h : f l ≤ f (get_or ls k d) = low k d m in grind (arith, nat_tests)) in
    let here : (f l == one.id) ≡ false = grind (arith, nat_tests) in
    let empty : by_first f ls one ≡ [] = filter_none (λ x. f x == one.id) ls none in
    ap (λ b. cond b (l ∷ by_first f ls one) (by_first f ls one) ++ flat_map (by_first f (l ∷ ls)) near) here
    ∙ (ap (λ (xs : List X). xs ++ flat_map (by_first f (l ∷ ls)) near) empty
    ∙ (rest has ∙ sym (ap (λ (xs : List X). l ∷ (xs ++ flat_map (by_first f ls) near)) empty)))

first_of_all : {X : Type 0} (f : X → ℕ) (l : X) (ls : List X) (near : List Near)
    → NearAscend near → All (λ m. f l ≤ f m) ls → has_list (f l) near ≡ true → flat_map (by_first f (l ∷ ls)) near ≡ l ∷ flat_map (by_first f ls) near
first_of_all f l ls [] up low has = absurd (false≢true has)
first_of_all f l ls (one ∷ near) up low has =
    first_go f l ls one near (one.id == f l) refl up low has (first_of_all f l ls near (pairs_tail (λ x y. x.id < y.id) one near up) low)

-- what stands in order under ids that all have lists is had member by member
pub gathered : {X : Type 0} (f : X → ℕ) (near : List Near) (xs : List X) → NearAscend near
    → AllPairs (λ x y. f x ≤ f y) xs → All (λ x. has_list (f x) near ≡ true) xs → flat_map (by_first f xs) near ≡ xs
gathered f near [] up order has = none_by_first f near
gathered {X} f near (l ∷ ls) up order has =
    let later = pairs_head (λ x y. f x ≤ f y) l ls order in
    first_of_all f l ls near up later (All-head (λ m. has_list (f m) near ≡ true) l ls has)
    ∙ ap (λ (xs : List X). l ∷ xs)
    (gathered f near ls up (pairs_tail (λ x y. f x ≤ f y) l ls order) (All-tail (λ m. has_list (f m) near ≡ true) l ls has))

first_is_end : (id : ℕ) (link : Link) → is_end id link ≡ false → (link.a == id) ≡ false
first_is_end id link e = (or_parts (link.a == id) (link.b == id) e).0

-- the first end of a link
abbrev first_end : Link → ℕ
first_end link = link.a

whole_by_first : (near : List Near) (links : List Link) → IsIndex near links → whole near ≡ flat_map (by_first first_end links) near
whole_by_first [] links index = refl
whole_by_first (one ∷ near) links index =
    let P : Near → Type 0 = λ other. other.links.items ≡ filter (is_end other.id) links in
    let here : one.links.items ≡ filter (is_end one.id) links = All-head P one near index in
    let p : Link → Bool = λ link. link.a == one.id in
    let same : firsts one ≡ by_first first_end links one =
    ap (filter p) here ∙ filter_both p (is_end one.id) links (λ k d l e. first_is_end one.id (get_or links k d) e) in
    ap (λ (xs : List Link). xs ++ whole near) same
    ∙ ap (λ (xs : List Link). by_first first_end links one ++ xs) (whole_by_first near links (All-tail P one near index))

-- the lists of an index make the whole
pub whole_is : (near : List Near) (links : List Link) → IsIndex near links
    → NearAscend near → InOrder links → All (λ l. has_list l.a near ≡ true) links → whole near ≡ links
whole_is near links index up order has =
    whole_by_first near links index ∙ gathered first_end near links up (λ i j d low l. (order i j d low l).0) has

-- what a test finds among a member's links, where it passes no others
pub kept_in_list : (p : Link → Bool) (id : ℕ) (links : List Link)
    → ((link : Link) → p link ≡ true → is_end id link ≡ true) → filter p (filter (is_end id) links) ≡ filter p links
kept_in_list p id links ends =
    filter_both p (is_end id) links (λ k d l e. false_from_ne_true (p (get_or links k d)) (λ t. false≢true (sym e ∙ ends (get_or links k d) t)))

pub counted_in_list : (p : Link → Bool) (id : ℕ) (links : List Link)
    → ((link : Link) → p link ≡ true → is_end id link ≡ true) → count_by p (filter (is_end id) links) ≡ count_by p links
counted_in_list p id links ends =
    sym (length-filter p (filter (is_end id) links)) ∙ (ap length (kept_in_list p id links ends) ∙ length-filter p links)

pub any_in_list : (p : Link → Bool) (id : ℕ) (links : List Link)
    → ((link : Link) → p link ≡ true → is_end id link ≡ true) → list_any p (filter (is_end id) links) ≡ list_any p links
any_in_list p id links ends = any-filter_same p (is_end id) true ends links

pub friend_is_end : (id : ℕ) (link : Link) → befriends id link ≡ true → is_end id link ≡ true
friend_is_end id link e = (and_parts (is_friend link.state) (is_end id link) e).1

pub inviter_is_end : (id : ℕ) (link : Link) → invites id link ≡ true → is_end id link ≡ true
inviter_is_end id link e = or_right (link.a == id) (link.b == id) (and_parts (is_pending link.state) (link.b == id) e).1

joined_is_end : (a b : ℕ) (link : Link) → joins a b link ≡ true → is_end a link ≡ true
joined_is_end a b link e = grind (arith, nat_tests)

pub bond_joins : (bond : Bond) (a b : ℕ) (link : Link) → bonds bond a b link ≡ true → joins a b link ≡ true
bond_joins Any a b link e = e
bond_joins Invitation a b link e = pending_joins a b link e
bond_joins Friendship a b link e = (and_parts (is_friend link.state) (joins a b link) e).1

pub bond_is_end : (bond : Bond) (a b : ℕ) (link : Link) → bonds bond a b link ≡ true → is_end a link ≡ true
bond_is_end bond a b link e = joined_is_end a b link (bond_joins bond a b link e)
