-- What a change that applies does to the ids of a circle, and to a member's name.
use Rattle.std.proofs.Common.{ℕ, ◌≤◌, ◌≡◌, ◌≢◌, Bool, true, false, not, List, [], ◌∷◌, length, get_or, map, filter, AllPairs, Some, refl}
use Rattle.std.proofs.Common.{sym, ap, subst, ◌∙◌, arith}
use Rattle.std.specs.Prelude.{◌==◌, ◌&&◌, ◌||◌, nat_lt, cond, count_by, if◌then◌else◌}
use Rattle.std.specs.List.{list_any}
use Rattle.std.proofs.lemmas.Bool.{false≢true, and_parts, eqb-true, eq-eqb}
use Rattle.std.proofs.lemmas.Bool.Decides.{nat_tests}
use Rattle.std.proofs.lemmas.List.{length-map}
use Rattle.std.proofs.lemmas.List.Folds.{Any-from_list_any}
use Rattle.std.proofs.lemmas.List.Sums.{length-filter, count_by-le-length}
use Rattle.std.proofs.lemmas.List.Kept.{AllPairs-from_increasing}
use Rattle.std.proofs.lemmas.Map.Views.{any-filter_same}
use Rattle.rows_model.specs.declared.rows.LinkState.TheVariants.{Friend}
use Rattle.rows_model.specs.declared.rows.Link.{Link}
use Rattle.rows_model.specs.declared.changes.Change.{Change}
use Rattle.rows_model.specs.declared.changes.Change.TheVariants.{Invite, Accept, Reject, Thaw, Rename, Block}
use Rattle.rows_model.specs.declared.refreshing.IdStep.TheVariants.{Stay, Put, Take}
use Rattle.rows_model.specs.declared.refreshing.Circle.{Circle}
use Rattle.rows_model.specs.declared.refreshing.Circle.TheVariants.{Befriended, Inviting, Barred}
use Rattle.rows_model.specs.Rows.{Tables, BlockRow, Fit, joins, is_pending, is_friend}
use Rattle.rows_model.specs.Query.{befriends, invites, is_by, friend_count, pending_count, friend_ids, inviter_ids, blocked_ids, other_end}
use Rattle.rows_model.specs.Changes.{without_link, invitation, friendship, is_block_before, block_of, applies, changed}
use Rattle.rows_model.specs.Changes.{is_linked, is_invited, are_friends, has_blocked, is_before, HasIds}
use Rattle.rows_model.specs.Refresh.{step_in, has_id, listed, counted}
use Rattle.rows_model.proofs.FitLemmas.{InPlace, in_place, any-insert, invite_parts, block_parts}
use Rattle.rows_model.proofs.QueryLemmas.{answers_ascend_is}
use Rattle.rows_model.proofs.StayFitLemmas.{Fit-changed}
use Rattle.rows_model.proofs.UntouchedLemmas.{invite_friends, invite_invites, reject_friends, invited_invites, accept_friends}
use Rattle.rows_model.proofs.UntouchedLemmas.{parted_friends, thaw_invites, filter_with, friendship_invites, friends_only, pending_joins, block_others}
use Rattle.rows_model.proofs.RefreshListLemmas.{Ascend, listed_put, listed_take, counted_listed}

-- the ids of a circle, and how many there are
abbrev pub ids_of : Circle → ℕ → Tables → List ℕ
ids_of Befriended id t = friend_ids id t
ids_of Inviting id t = inviter_ids id t
ids_of Barred id t = blocked_ids id t

abbrev pub count_of : Circle → ℕ → Tables → ℕ
count_of Befriended id t = friend_count id t
count_of Inviting id t = pending_count id t
count_of Barred id t = count_by (is_by id) t.blocks

pub ids_ascend : (circle : Circle) (id : ℕ) (t : Tables) → Fit t → Ascend (ids_of circle id t)
ids_ascend Befriended id t fit = AllPairs-from_increasing (friend_ids id t) (answers_ascend_is t id fit).friends
ids_ascend Inviting id t fit = AllPairs-from_increasing (inviter_ids id t) (answers_ascend_is t id fit).inviters
ids_ascend Barred id t fit = AllPairs-from_increasing (blocked_ids id t) (answers_ascend_is t id fit).blocked

pub length-ids_of : (circle : Circle) (id : ℕ) (t : Tables) → length (ids_of circle id t) ≡ count_of circle id t
length-ids_of Befriended id t = length-map (filter (befriends id) t.links) (other_end id) ∙ length-filter (befriends id) t.links
length-ids_of Inviting id t = length-map (filter (invites id) t.links) (λ link. link.a) ∙ length-filter (invites id) t.links
length-ids_of Barred id t = length-map (filter (is_by id) t.blocks) (λ block. block.blocked) ∙ length-filter (is_by id) t.blocks

pub few_ids : (circle : Circle) (id : ℕ) (t : Tables) → Fit t → count_of circle id t ≤ 1000000
few_ids Befriended id t fit = let le = count_by-le-length (befriends id) t.links in let most = fit.few_links in omega (arith, le, most)
few_ids Inviting id t fit = let le = count_by-le-length (invites id) t.links in let most = fit.few_links in omega (arith, le, most)
few_ids Barred id t fit = let le = count_by-le-length (is_by id) t.blocks in let most = fit.few_blocks in omega (arith, le, most)

-- which ids are there, told by the rows
mapped_go : {X : Type 0} (f : X → ℕ) (x : ℕ) (l : X) (ls : List X) (b c : Bool)
    → has_id x (cond b (f l ∷ map f ls) (map f ls)) ≡ ((b && (f l == x)) || has_id x (map f ls))
mapped_go f x l ls true c = refl
mapped_go f x l ls false c = refl

cond_map : {X : Type 0} (f : X → ℕ) (b : Bool) (l : X) (ls : List X) → map f (cond b (l ∷ ls) ls) ≡ cond b (f l ∷ map f ls) (map f ls)
cond_map f true l ls = refl
cond_map f false l ls = refl

pub has_mapped : {X : Type 0} (f : X → ℕ) (p : X → Bool) (x : ℕ) (ls : List X) → has_id x (map f (filter p ls)) ≡ list_any (λ l. p l && (f l == x)) ls
has_mapped f p x [] = refl
has_mapped f p x (l ∷ ls) =
    ap (has_id x) (cond_map f (p l) l (filter p ls))
    ∙ (mapped_go f x l (filter p ls) (p l) true ∙ ap (λ (b : Bool). (p l && (f l == x)) || b) (has_mapped f p x ls))

-- a link of a member's friendship with this one, and an invitation of the member by this one
abbrev befriends_by : ℕ → ℕ → Link → Bool
befriends_by id x link = befriends id link && (other_end id link == x)

abbrev invites_from : ℕ → ℕ → Link → Bool
invites_from id x link = invites id link && (link.a == x)

any_implied_go : {X : Type 0} (p q : X → Bool) (x : X) (xs : List X) (b c : Bool) → p x ≡ b → q x ≡ c → (p x ≡ true → q x ≡ true)
    → (b || list_any p xs) ≡ true → (list_any p xs ≡ true → list_any q xs ≡ true) → (c || list_any q xs) ≡ true
any_implied_go p q x xs b true ep eq h e rest = refl
any_implied_go p q x xs true false ep eq h e rest = absurd (false≢true (sym eq ∙ h ep))
any_implied_go p q x xs false false ep eq h e rest = rest e

-- what is found by one test is found by a wider one
pub any_implied : {X : Type 0} (p q : X → Bool) (xs : List X) → ((x : X) → p x ≡ true → q x ≡ true) → list_any p xs ≡ true → list_any q xs ≡ true
any_implied p q [] h e = absurd (false≢true e)
any_implied p q (x ∷ xs) h e = any_implied_go p q x xs (p x) (q x) refl refl (h x) e (any_implied p q xs h)

never_true : (b : Bool) → (b ≡ true → ⊥) → b ≡ false
never_true true h = absurd (h refl)
never_true false h = refl

-- invitations
inv_joins : (a b : ℕ) (link : Link) → invites_from b a link ≡ true → joins a b link ≡ true
inv_joins a b link e = grind (arith, nat_tests)

inv_is : (a b : ℕ) (link : Link) → (is_pending link.state && (link.a == a) && (link.b == b)) ≡ true → invites_from b a link ≡ true
inv_is a b link e = grind (arith, nat_tests)

inv_gone : (a b x : ℕ) (same : Bool) → (x == a) ≡ same → (link : Link) → invites_from b x link ≡ true → not (joins a b link) ≡ not same
inv_gone a b x true e link h = grind (arith, nat_tests)
inv_gone a b x false e link h = grind (arith, nat_tests)

-- one inviter less
take_inviter : (a id : ℕ) (t : Tables) → Fit t → Fit (changed (Reject a id) t) → is_invited a id t ≡ true
    → listed (Take a) (inviter_ids id t) ≡ Some (inviter_ids id (changed (Reject a id) t))
take_inviter a id t fit fit_after takes =
    let u = changed (Reject a id) t in
    let some : has_id a (inviter_ids id t) ≡ true =
    has_mapped (λ link. link.a) (invites id) a t.links
    ∙ any_implied (λ link. is_pending link.state && (link.a == a) && (link.b == id)) (invites_from id a) t.links (inv_is a id) takes in
    listed_take a (inviter_ids id t) (inviter_ids id u) (ids_ascend Inviting id t fit)
    (ids_ascend Inviting id u fit_after) some (λ x. has_mapped (λ link. link.a) (invites id) x u.links
    ∙ (any-filter_same (invites_from id x) (λ link. not (joins a id link)) (not (x == a)) (inv_gone a id x (x == a) refl) t.links
    ∙ ap (λ (b : Bool). not (x == a) && b) (sym (has_mapped (λ link. link.a) (invites id) x t.links))))

inv_new : (a id x : ℕ) → invites_from id x (invitation a id) ≡ (a == x)
inv_new a id x = ap (λ (b : Bool). b && (a == x)) (eq-eqb id id refl)

-- one inviter more
put_inviter : (a id : ℕ) (t : Tables) → Fit t → Fit (changed (Invite a id) t)
    → is_linked a id t ≡ false → listed (Put a) (inviter_ids id t) ≡ Some (inviter_ids id (changed (Invite a id) t))
put_inviter a id t fit fit_after free =
    let u = changed (Invite a id) t in
    let none : has_id a (inviter_ids id t) ≡ false =
    never_true _ (λ e. false≢true
    (sym free ∙ any_implied (invites_from id a) (joins a id) t.links (inv_joins a id)
    (sym (has_mapped (λ link. link.a) (invites id) a t.links) ∙ e))) in
    listed_put a (inviter_ids id t) (inviter_ids id u) (ids_ascend Inviting id t fit)
    (ids_ascend Inviting id u fit_after) none (λ x. has_mapped (λ link. link.a) (invites id) x u.links
    ∙ (any-insert (invites_from id x) t.links (count_by (is_before (invitation a id)) t.links) (invitation a id)
    ∙ (ap (λ (b : Bool). list_any (invites_from id x) t.links || b) (inv_new a id x)
    ∙ ap (λ (b : Bool). b || (a == x)) (sym (has_mapped (λ link. link.a) (invites id) x t.links)))))

-- friendships, from either side
first_is : (a b : ℕ) (link : Link) → (is_friend link.state && joins a b link) ≡ true → befriends_by a b link ≡ true
first_is a b link e = grind (arith, nat_tests)

second_is : (a b : ℕ) (link : Link) → (is_friend link.state && joins a b link) ≡ true → befriends_by b a link ≡ true
second_is a b link e = grind (arith, nat_tests)

first_joins : (a b : ℕ) (link : Link) → befriends_by a b link ≡ true → (is_friend link.state && joins a b link) ≡ true
first_joins a b link e = grind (arith, nat_tests)

second_joins : (a b : ℕ) (link : Link) → befriends_by b a link ≡ true → (is_friend link.state && joins a b link) ≡ true
second_joins a b link e = grind (arith, nat_tests)

first_gone : (a b x : ℕ) (same : Bool) → (x == b) ≡ same → (link : Link) → befriends_by a x link ≡ true → not (joins a b link) ≡ not same
first_gone a b x true e link h = grind (arith, nat_tests)
first_gone a b x false e link h = grind (arith, nat_tests)

second_gone : (a b x : ℕ) (same : Bool) → (x == a) ≡ same → (link : Link) → befriends_by b x link ≡ true → not (joins a b link) ≡ not same
second_gone a b x true e link h = grind (arith, nat_tests)
second_gone a b x false e link h = grind (arith, nat_tests)

first_new : (a b x : ℕ) (first : Bool)
    → befriends_by a x (if first then record { a = a; b = b; state = Friend } else record { a = b; b = a; state = Friend }) ≡ (b == x)
first_new a b x true = grind (arith, nat_tests)
first_new a b x false = grind (arith, nat_tests)

second_new : (a b x : ℕ) (first : Bool)
    → befriends_by b x (if first then record { a = a; b = b; state = Friend } else record { a = b; b = a; state = Friend }) ≡ (a == x)
second_new a b x true = grind (arith, nat_tests)
second_new a b x false = grind (arith, nat_tests)

-- one friend less
take_friend : (a b me other : ℕ) (t : Tables) → Fit t → Fit (changed (Thaw a b) t)
    → ((link : Link) → (is_friend link.state && joins a b link) ≡ true → befriends_by me other link ≡ true)
    → ((x : ℕ) (link : Link) → befriends_by me x link ≡ true → not (joins a b link) ≡ not (x == other)) → are_friends a b t ≡ true
    → listed (Take other) (friend_ids me t) ≡ Some (friend_ids me (changed (Thaw a b) t))
take_friend a b me other t fit fit_after is gone takes =
    let u = changed (Thaw a b) t in
    let some : has_id other (friend_ids me t) ≡ true =
    has_mapped (other_end me) (befriends me) other t.links
    ∙ any_implied (λ link. is_friend link.state && joins a b link) (befriends_by me other) t.links is takes in
    listed_take other (friend_ids me t) (friend_ids me u) (ids_ascend Befriended me t fit) (ids_ascend Befriended me u fit_after) some
    (λ x. has_mapped (other_end me) (befriends me) x u.links
    ∙ (any-filter_same (befriends_by me x) (λ link. not (joins a b link)) (not (x == other)) (gone x) t.links
    ∙ ap (λ (c : Bool). not (x == other) && c) (sym (has_mapped (other_end me) (befriends me) x t.links))))

both_states : (link : Link) → is_pending link.state ≡ true → is_friend link.state ≡ true → ⊥
both_states link e f = grind (arith, nat_tests)

-- those who aren't friends yet are no friends
not_friends : (a b : ℕ) (t : Tables) → AllPairs InPlace t.links → is_invited a b t ≡ true → are_friends a b t ≡ true → ⊥
not_friends a b t pairs invited friends =
    let p : Link → Bool = λ link. is_pending link.state && (link.a == a) && (link.b == b) in
    let w = Any-from_list_any p t.links invited in
    let joined : joins a b (get_or t.links w.0 w.1) ≡ true = ap (joins a b) w.3 ∙ pending_joins a b w.1 w.4 in
    let friend : is_friend w.1.state ≡ true = ap (λ (l : Link). is_friend l.state) (sym w.3) ∙ friends_only a b t pairs friends w.0 w.1 w.2 joined in
    let parts = and_parts (is_pending w.1.state && (w.1.a == a)) (w.1.b == b) w.4 in
    both_states w.1 (and_parts (is_pending w.1.state) (w.1.a == a) parts.0).0 friend

-- one friend more
put_friend : (a b me other : ℕ) (t : Tables) → Fit t → Fit (changed (Accept a b) t)
    → ((link : Link) → befriends_by me other link ≡ true → (is_friend link.state && joins a b link) ≡ true)
    → ((x : ℕ) → befriends_by me x (friendship a b) ≡ (other == x)) → is_invited a b t ≡ true
    → listed (Put other) (friend_ids me t) ≡ Some (friend_ids me (changed (Accept a b) t))
put_friend a b me other t fit fit_after joined new takes =
    let u = changed (Accept a b) t in
    let pairs = in_place t.links fit.links_ascend fit.one_link in
    let left = without_link a b t.links in
    let none : has_id other (friend_ids me t) ≡ false =
    never_true _ (λ e. not_friends a b t pairs takes
    (any_implied (befriends_by me other) (λ link. is_friend link.state && joins a b link) t.links joined
    (sym (has_mapped (other_end me) (befriends me) other t.links) ∙ e))) in
    let same : map (other_end me) (filter (befriends me) left) ≡ friend_ids me t = ap (map (other_end me)) (reject_friends me a b t pairs takes) in
    listed_put other (friend_ids me t) (friend_ids me u) (ids_ascend Befriended me t fit)
    (ids_ascend Befriended me u fit_after) none (λ x. has_mapped (other_end me) (befriends me) x u.links
    ∙ (any-insert (befriends_by me x) left (count_by (is_before (friendship a b)) left) (friendship a b)
    ∙ (ap (λ (c : Bool). list_any (befriends_by me x) left || c) (new x)
    ∙ ap (λ (c : Bool). c || (other == x)) (sym (has_mapped (other_end me) (befriends me) x left) ∙ ap (has_id x) same))))

-- the same links, the same ids
same_friends : (id : ℕ) (t u : Tables) → filter (befriends id) u.links ≡ filter (befriends id) t.links → Some (friend_ids id t) ≡ Some (friend_ids id u)
same_friends id t u e = ap (λ (ls : List Link). Some (map (other_end id) ls)) (sym e)

same_inviters : (id : ℕ) (t u : Tables) → filter (invites id) u.links ≡ filter (invites id) t.links → Some (inviter_ids id t) ≡ Some (inviter_ids id u)
same_inviters id t u e = ap (λ (ls : List Link). Some (map (λ link. link.a) ls)) (sym e)

differ : (m n : ℕ) → (m == n) ≡ false → m ≢ n
differ m n e = λ same. false≢true (sym e ∙ eq-eqb m n same)

invite_go : (id a b : ℕ) (t : Tables) (c : Bool) → (b == id) ≡ c → Fit t → Fit (changed (Invite a b) t) → is_linked a b t ≡ false
    → listed (if c then Put a else Stay) (inviter_ids id t) ≡ Some (inviter_ids id (changed (Invite a b) t))
invite_go id a b t true e fit fit_after free =
    let P : ℕ → Type 0 = λ n. listed (Put a) (inviter_ids n t) ≡ Some (inviter_ids n (changed (Invite a b) t)) in
    subst P (eqb-true b id e) (put_inviter a b t fit fit_after free)
invite_go id a b t false e fit fit_after free = same_inviters id t (changed (Invite a b) t) (invite_invites id a b t (differ b id e))

reject_go : (id a b : ℕ) (t : Tables) (c : Bool) → (b == id) ≡ c → Fit t → Fit (changed (Reject a b) t) → is_invited a b t ≡ true
    → listed (if c then Take a else Stay) (inviter_ids id t) ≡ Some (inviter_ids id (changed (Reject a b) t))
reject_go id a b t true e fit fit_after takes =
    let P : ℕ → Type 0 = λ n. listed (Take a) (inviter_ids n t) ≡ Some (inviter_ids n (changed (Reject a b) t)) in
    subst P (eqb-true b id e) (take_inviter a b t fit fit_after takes)
reject_go id a b t false e fit fit_after takes =
    same_inviters id t (changed (Reject a b) t) (invited_invites id a b t (in_place t.links fit.links_ascend fit.one_link) takes (differ b id e))

accepted_inviters : (id a b : ℕ) (t : Tables) → Some (inviter_ids id (changed (Reject a b) t)) ≡ Some (inviter_ids id (changed (Accept a b) t))
accepted_inviters id a b t =
    same_inviters id (changed (Reject a b) t) (changed (Accept a b) t)
    (filter_with (invites id) (friendship a b) (without_link a b t.links) (friendship_invites a b id (nat_lt a b)))

accept_go : (id a b : ℕ) (t : Tables) (c e : Bool) → (a == id) ≡ c → (b == id) ≡ e → Fit t → Fit (changed (Accept a b) t) → is_invited a b t ≡ true
    → listed (if c then Put b else (if e then Put a else Stay)) (friend_ids id t) ≡ Some (friend_ids id (changed (Accept a b) t))
accept_go id a b t true e ea eb fit fit_after takes =
    let P : ℕ → Type 0 = λ n. listed (Put b) (friend_ids n t) ≡ Some (friend_ids n (changed (Accept a b) t)) in
    subst P (eqb-true a id ea) (put_friend a b a b t fit fit_after (first_joins a b) (λ x. first_new a b x (nat_lt a b)) takes)
accept_go id a b t false true ea eb fit fit_after takes =
    let P : ℕ → Type 0 = λ n. listed (Put a) (friend_ids n t) ≡ Some (friend_ids n (changed (Accept a b) t)) in
    subst P (eqb-true b id eb) (put_friend a b b a t fit fit_after (second_joins a b) (λ x. second_new a b x (nat_lt a b)) takes)
accept_go id a b t false false ea eb fit fit_after takes =
    same_friends id t (changed (Accept a b) t) (accept_friends id a b t (differ a id ea) (differ b id eb))

thaw_go : (id a b : ℕ) (t : Tables) (c e : Bool) → (a == id) ≡ c → (b == id) ≡ e → Fit t → Fit (changed (Thaw a b) t) → are_friends a b t ≡ true
    → listed (if c then Take b else (if e then Take a else Stay)) (friend_ids id t) ≡ Some (friend_ids id (changed (Thaw a b) t))
thaw_go id a b t true e ea eb fit fit_after takes =
    let P : ℕ → Type 0 = λ n. listed (Take b) (friend_ids n t) ≡ Some (friend_ids n (changed (Thaw a b) t)) in
    subst P (eqb-true a id ea) (take_friend a b a b t fit fit_after (first_is a b) (λ x. first_gone a b x (x == b) refl) takes)
thaw_go id a b t false true ea eb fit fit_after takes =
    let P : ℕ → Type 0 = λ n. listed (Take a) (friend_ids n t) ≡ Some (friend_ids n (changed (Thaw a b) t)) in
    subst P (eqb-true b id eb) (take_friend a b b a t fit fit_after (second_is a b) (λ x. second_gone a b x (x == a) refl) takes)
thaw_go id a b t false false ea eb fit fit_after takes =
    same_friends id t (changed (Thaw a b) t) (parted_friends id a b t (differ a id ea) (differ b id eb))

-- one more whom a member has blocked
put_blocked : (a b : ℕ) (t : Tables) → Fit t → Fit (changed (Block a b) t) → has_blocked a b t ≡ false
    → listed (Put b) (blocked_ids a t) ≡ Some (blocked_ids a (changed (Block a b) t))
put_blocked a b t fit fit_after free =
    let u = changed (Block a b) t in
    let f : BlockRow → ℕ = λ block. block.blocked in
    let none : has_id b (blocked_ids a t) ≡ false = has_mapped f (is_by a) b t.blocks ∙ free in
    listed_put b (blocked_ids a t) (blocked_ids a u) (ids_ascend Barred a t fit)
    (ids_ascend Barred a u fit_after) none (λ x. has_mapped f (is_by a) x u.blocks
    ∙ (any-insert (λ block. is_by a block && (block.blocked == x)) t.blocks (count_by (is_block_before (block_of a b)) t.blocks) (block_of a b)
    ∙ (ap (λ (c : Bool). list_any (λ block. is_by a block && (block.blocked == x)) t.blocks || (c && (b == x))) (eq-eqb a a refl)
    ∙ ap (λ (c : Bool). c || (b == x)) (sym (has_mapped f (is_by a) x t.blocks)))))

block_go : (id a b : ℕ) (t : Tables) (c : Bool) → (a == id) ≡ c → Fit t → Fit (changed (Block a b) t) → has_blocked a b t ≡ false
    → listed (if c then Put b else Stay) (blocked_ids id t) ≡ Some (blocked_ids id (changed (Block a b) t))
block_go id a b t true e fit fit_after free =
    let P : ℕ → Type 0 = λ n. listed (Put b) (blocked_ids n t) ≡ Some (blocked_ids n (changed (Block a b) t)) in
    subst P (eqb-true a id e) (put_blocked a b t fit fit_after free)
block_go id a b t false e fit fit_after free =
    ap (λ (bs : List BlockRow). Some (map (λ block. block.blocked) bs)) (sym (block_others id a b t e))

-- an invitation that applies joins two whom no link joined
pub invite_free : (a b : ℕ) (t : Tables) → applies (Invite a b) t ≡ true → is_linked a b t ≡ false
invite_free a b t takes =
    (invite_parts a b t takes).free

-- a change that applies makes its step in the ids of each circle
pub step_listed : (circle : Circle) (id : ℕ) (change : Change) (t : Tables) → Fit t → HasIds change → applies change t ≡ true
    → listed (step_in circle id change) (ids_of circle id t) ≡ Some (ids_of circle id (changed change t))
step_listed Befriended id (Invite a b) t fit ids takes = same_friends id t (changed (Invite a b) t) (invite_friends id a b t)
step_listed Befriended id (Accept a b) t fit ids takes = accept_go id a b t (a == id) (b == id) refl refl fit (Fit-changed (Accept a b) t fit ids takes) takes
step_listed Befriended id (Reject a b) t fit ids takes =
    same_friends id t (changed (Reject a b) t) (reject_friends id a b t (in_place t.links fit.links_ascend fit.one_link) takes)
step_listed Befriended id (Thaw a b) t fit ids takes = thaw_go id a b t (a == id) (b == id) refl refl fit (Fit-changed (Thaw a b) t fit ids takes) takes
step_listed Befriended id (Rename a name) t fit ids takes = refl
step_listed Befriended id (Block a b) t fit ids takes = refl
step_listed Inviting id (Invite a b) t fit ids takes =
    invite_go id a b t (b == id) refl fit (Fit-changed (Invite a b) t fit ids takes) (invite_free a b t takes)
step_listed Inviting id (Accept a b) t fit ids takes =
    reject_go id a b t (b == id) refl fit (Fit-changed (Reject a b) t fit ids takes) takes ∙ accepted_inviters id a b t
step_listed Inviting id (Reject a b) t fit ids takes = reject_go id a b t (b == id) refl fit (Fit-changed (Reject a b) t fit ids takes) takes
step_listed Inviting id (Thaw a b) t fit ids takes =
    same_inviters id t (changed (Thaw a b) t) (thaw_invites id a b t (in_place t.links fit.links_ascend fit.one_link) takes)
step_listed Inviting id (Rename a name) t fit ids takes = refl
step_listed Inviting id (Block a b) t fit ids takes = refl
step_listed Barred id (Invite a b) t fit ids takes = refl
step_listed Barred id (Accept a b) t fit ids takes = refl
step_listed Barred id (Reject a b) t fit ids takes = refl
step_listed Barred id (Thaw a b) t fit ids takes = refl
step_listed Barred id (Rename a name) t fit ids takes = refl
step_listed Barred id (Block a b) t fit ids takes =
    block_go id a b t (a == id) refl fit (Fit-changed (Block a b) t fit ids takes) (block_parts a b t takes).unblocked

-- and in their counts
pub step_counted : (circle : Circle) (id : ℕ) (change : Change) (t : Tables) → Fit t → HasIds change → applies change t ≡ true
    → counted (step_in circle id change) (count_of circle id t) ≡ Some (count_of circle id (changed change t))
step_counted circle id change t fit ids takes =
    let u = changed change t in
    let n = length-ids_of circle id t in
    let m = length-ids_of circle id u in
    let few = few_ids circle id u (Fit-changed change t fit ids takes) in
    let h = counted_listed (step_in circle id change) (ids_of circle id t) (ids_of circle id u) (ids_ascend circle id t fit) (omega (arith, m, few))
    (step_listed circle id change t fit ids takes) in
    ap (counted (step_in circle id change)) (sym n) ∙ (h ∙ ap (λ (k : ℕ). Some k) m)
