-- A key that no change touches keeps its answer.
use Rattle.std.proofs.Common.{ℕ, ◌+◌, ◌<◌, ◌≡◌, ◌≢◌, Bool, true, false, not, List, [], ◌∷◌, ◌++◌, length, get_or, take, drop, map, filter}
use Rattle.std.proofs.Common.{find, decimal, All, AllPairs, Option, Some, Ok, Err, inl, inr, refl, sym, ap, ◌∙◌, arith, take-append-drop}
use Rattle.std.specs.Prelude.{count_by, ◌==◌, ◌&&◌, ◌||◌, nat_lt, cond, if◌then◌else◌}
use Rattle.std.specs.List.{insert}
use Rattle.std.proofs.lemmas.Bool.{false≢true, and_parts, eq-eqb, cases_order}
use Rattle.std.proofs.lemmas.Bool.Decides.{nat_tests}
use Rattle.std.proofs.lemmas.List.{get_or_default}
use Rattle.std.proofs.lemmas.List.Folds.{Any-from_list_any}
use Rattle.std.proofs.lemmas.List.Sums.{length-filter}
use Rattle.std.proofs.lemmas.List.Elements.{filter-append, All-head, All-tail, filter_passes}
use Rattle.std.proofs.lemmas.List.Kept.{AllPairs-filter}
use Rattle.rows_model.specs.declared.keys.Kind.{Kind}
use Rattle.rows_model.specs.declared.keys.Kind.TheVariants.{Profile, Friends, Pending, NFriends, NPending, Blocked}
use Rattle.rows_model.specs.declared.rows.LinkState.{LinkState}
use Rattle.rows_model.specs.declared.rows.LinkState.TheVariants.{Pending as Waiting, Friend}
use Rattle.rows_model.specs.declared.rows.Link.{Link}
use Rattle.rows_model.specs.declared.rows.Member.{Member}
use Rattle.rows_model.specs.declared.changes.Change.{Change}
use Rattle.rows_model.specs.declared.changes.Change.TheVariants.{Invite, Accept, Reject, Thaw, Rename, Block}
use Rattle.rows_model.specs.Rows.{Tables, BlockRow, joins, member_of, is_pending, is_friend}
use Rattle.rows_model.specs.Query.{befriends, invites, is_by, answer, answer_of, friend_count, pending_count, other_end, id_list, profile_text}
use Rattle.rows_model.specs.Changes.{with_link, without_link, invitation, friendship, renamed, applies, changed, apply_from, apply_all}
use Rattle.rows_model.specs.Changes.{foot_of, has_key, touches, is_invited, are_friends, is_before, is_block_before, block_of}
use Rattle.rows_model.specs.Untouched.{UntouchedKeepsItsAnswer}
use Rattle.rows_model.proofs.FitLemmas.{InPlace, in_place, with_in_place, none_go, none_passes, not_true, friend_free, invite_parts}

-- an element that doesn't pass, wherever it is put, leaves those that do
pub filter_insert : {X : Type 0} (p : X → Bool) (xs : List X) (k : ℕ) (new : X) → p new ≡ false → filter p (insert xs k new) ≡ filter p xs
filter_insert {X} p xs k new e =
    let back : filter p (new ∷ drop k xs) ≡ filter p (drop k xs) = ap (λ b. cond b (new ∷ filter p (drop k xs)) (filter p (drop k xs))) e in
    filter-append p (take k xs) (new ∷ drop k xs)
    ∙ (ap (λ (rest : List X). filter p (take k xs) ++ rest) back
    ∙ (sym (filter-append p (take k xs) (drop k xs)) ∙ ap (filter p) (take-append-drop k xs)))

pub filter_with : (p : Link → Bool) (new : Link) (links : List Link) → p new ≡ false → filter p (with_link new links) ≡ filter p links
filter_with p new links e = filter_insert p links (count_by (is_before new) links) new e

both_go : (p q : Link → Bool) (x : Link) (xs : List Link) (b c : Bool) → q x ≡ b → p x ≡ c → (q x ≡ false → p x ≡ false)
    → filter p (filter q xs) ≡ filter p xs → filter p (cond b (x ∷ filter q xs) (filter q xs)) ≡ cond c (x ∷ filter p xs) (filter p xs)
both_go p q x xs true c eq ep h rest = ap (λ b. cond b (x ∷ filter p (filter q xs)) (filter p (filter q xs))) ep
    ∙ ap (λ (ys : List Link). cond c (x ∷ ys) ys) rest
both_go p q x xs false true eq ep h rest = absurd (false≢true (sym (h eq) ∙ ep))
both_go p q x xs false false eq ep h rest = rest

-- nor does taking out links that don't pass
pub filter_both : (p q : Link → Bool) (xs : List Link) → All (λ x. q x ≡ false → p x ≡ false) xs → filter p (filter q xs) ≡ filter p xs
filter_both p q [] all = refl
filter_both p q (x ∷ xs) all =
    both_go p q x xs (q x) (p x) refl refl (All-head (λ y. q y ≡ false → p y ≡ false) x xs all)
    (filter_both p q xs (All-tail (λ y. q y ≡ false → p y ≡ false) x xs all))

pub not_false : (b : Bool) → not b ≡ false → b ≡ true
not_false true e = refl
not_false false e = absurd (false≢true (sym e))

pub filter_without : (p : Link → Bool) (a b : ℕ) (links : List Link)
    → All (λ link. joins a b link ≡ true → p link ≡ false) links → filter p (without_link a b links) ≡ filter p links
filter_without p a b links all =
    filter_both p (λ link. not (joins a b link)) links (λ k d l e. all k d l (not_false (joins a b (get_or links k d)) e))

-- two links that join the same members
pub clash : (a b : ℕ) (link later : Link) → joins a b link ≡ true → joins a b later ≡ true → joins later.a later.b link ≡ true
clash a b link later e f = grind (arith, nat_tests)

-- only one link joins two members
only_link : (a b : ℕ) (links : List Link) (k : ℕ) (x : Link)
    → AllPairs InPlace links → k < length links → get_or links k x ≡ x → joins a b x ≡ true → All (λ link. joins a b link ≡ true → link ≡ x) links
only_link a b links k x pairs l is e j d m f = elim (cases_order j k) [
  | inl same ↦ ap (λ (i : ℕ). get_or links i d) same ∙ (get_or_default links k d x l ∙ is)
  | inr other ↦ elim other [
    | inl below ↦
        let at : get_or links k d ≡ x = get_or_default links k d x l ∙ is in
        let ek : joins a b (get_or links k d) ≡ true = ap (joins a b) at ∙ e in
        absurd (false≢true (sym (pairs j k d below l).apart ∙ clash a b (get_or links j d) (get_or links k d) f ek))
    | inr above ↦
        let at : get_or links k d ≡ x = get_or_default links k d x l ∙ is in
        let ek : joins a b (get_or links k d) ≡ true = ap (joins a b) at ∙ e in
        absurd (false≢true (sym (pairs k j d above m).apart ∙ clash a b (get_or links k d) (get_or links j d) ek f))
  ]
]

pub pending_joins : (a b : ℕ) (link : Link) → (is_pending link.state && (link.a == a) && (link.b == b)) ≡ true → joins a b link ≡ true
pending_joins a b link e = grind (arith, nat_tests)

-- the one link of an invitation
pub invited_only : (a b : ℕ) (t : Tables) → AllPairs InPlace t.links
    → is_invited a b t ≡ true → All (λ link. joins a b link ≡ true → (is_pending link.state && (link.a == a) && (link.b == b)) ≡ true) t.links
invited_only a b t pairs e =
    let p : Link → Bool = λ link. is_pending link.state && (link.a == a) && (link.b == b) in
    let w = Any-from_list_any p t.links e in
    let joined : joins a b w.1 ≡ true = pending_joins a b w.1 w.4 in
    λ j d m f. ap p (only_link a b t.links w.0 w.1 pairs w.2 w.3 joined j d m f) ∙ w.4

-- the one link of a friendship
pub friends_only : (a b : ℕ) (t : Tables) → AllPairs InPlace t.links
    → are_friends a b t ≡ true → All (λ link. joins a b link ≡ true → is_friend link.state ≡ true) t.links
friends_only a b t pairs e =
    let p : Link → Bool = λ link. is_friend link.state && joins a b link in
    let w = Any-from_list_any p t.links e in
    let parts = and_parts (is_friend w.1.state) (joins a b w.1) w.4 in
    λ j d m f. ap (λ (l : Link). is_friend l.state) (only_link a b t.links w.0 w.1 pairs w.2 w.3 parts.1 j d m f) ∙ parts.0

-- what the answers read
other_invites : (a b id : ℕ) (link : Link) → (is_pending link.state && (link.a == a) && (link.b == b)) ≡ true → b ≢ id → invites id link ≡ false
other_invites a b id link e n = grind (arith, nat_tests)

other_befriends : (a b id : ℕ) (link : Link) → joins a b link ≡ true → a ≢ id → b ≢ id → befriends id link ≡ false
other_befriends a b id link e n m = grind (arith, nat_tests)

state_go : (state : LinkState) (b : Bool) → is_friend state ≡ true → (is_pending state && b) ≡ false
state_go Waiting b e = absurd (false≢true e)
state_go Friend b e = refl

friend_invites : (id : ℕ) (link : Link) → is_friend link.state ≡ true → invites id link ≡ false
friend_invites id link e = state_go link.state (link.b == id) e

pending_befriends : (a b id : ℕ) (link : Link) → (is_pending link.state && (link.a == a) && (link.b == b)) ≡ true → befriends id link ≡ false
pending_befriends a b id link e = grind (arith, nat_tests)

friendship_befriends : (a b id : ℕ) (first : Bool) → a ≢ id → b ≢ id
    → befriends id (if first then record { a = a; b = b; state = Friend } else record { a = b; b = a; state = Friend }) ≡ false
friendship_befriends a b id true n m = grind (arith, nat_tests)
friendship_befriends a b id false n m = grind (arith, nat_tests)

pub friendship_invites : (a b id : ℕ) (first : Bool)
    → invites id (if first then record { a = a; b = b; state = Friend } else record { a = b; b = a; state = Friend }) ≡ false
friendship_invites a b id true = refl
friendship_invites a b id false = refl

-- a member with another id
other_go : (id : ℕ) (name : List ℕ) (i : ℕ) (x : Member) (xs ys : List Member) (b : Bool) → x.id == id ≡ b → id ≢ i
    → find (λ m. m.id == i) ys ≡ find (λ m. m.id == i) xs → (let y : Member = if b then record { id = x.id; name = name } else x in
    cond (y.id == i) (Some y) (find (λ m. m.id == i) ys) ≡ cond (x.id == i) (Some x) (find (λ m. m.id == i) xs))
other_go id name i x xs ys true e n rest =
    let none : (x.id == i) ≡ false = grind (arith, nat_tests) in
    ap (λ b. cond b (Some (record { id = x.id; name = name })) (find (λ m. m.id == i) ys)) none
    ∙ (rest ∙ sym (ap (λ b. cond b (Some x) (find (λ m. m.id == i) xs)) none))
other_go id name i x xs ys false e n rest = ap (λ (o : Option Member). cond (x.id == i) (Some x) o) rest

other_member : (id : ℕ) (name : List ℕ) (i : ℕ) (xs : List Member) → id ≢ i → find (λ m. m.id == i) (map (renamed id name) xs) ≡ find (λ m. m.id == i) xs
other_member id name i [] n = refl
other_member id name i (x ∷ xs) n = other_go id name i x xs (map (renamed id name) xs) (x.id == id) refl n (other_member id name i xs n)

-- the rows that an answer reads are the same
abbrev SameFriends : ℕ → Tables → Tables → Type 0
SameFriends id t u = filter (befriends id) u.links ≡ filter (befriends id) t.links

abbrev SameInvites : ℕ → Tables → Tables → Type 0
SameInvites id t u = filter (invites id) u.links ≡ filter (invites id) t.links

abbrev SameBlocks : ℕ → Tables → Tables → Type 0
SameBlocks id t u = filter (is_by id) u.blocks ≡ filter (is_by id) t.blocks

abbrev SameRows : Kind → ℕ → Tables → Tables → Type 0
SameRows Profile id t u = (member_of id u ≡ member_of id t) × SameFriends id t u × SameInvites id t u
SameRows Friends id t u = SameFriends id t u
SameRows Pending id t u = SameInvites id t u
SameRows NFriends id t u = SameFriends id t u
SameRows NPending id t u = SameInvites id t u
SameRows Blocked id t u = SameBlocks id t u

same_count : (p : Link → Bool) (xs ys : List Link) → filter p xs ≡ filter p ys → count_by p xs ≡ count_by p ys
same_count p xs ys e = sym (length-filter p xs) ∙ (ap length e ∙ length-filter p ys)

same_answer : (kind : Kind) (id : ℕ) (t u : Tables) → SameRows kind id t u → answer_of kind id u ≡ answer_of kind id t
same_answer Profile id t u h =
    ap (λ (o : Option Member). profile_text o (friend_count id u) (pending_count id u)) h.0
    ∙ (ap (λ (n : ℕ). profile_text (member_of id t) n (pending_count id u)) (same_count (befriends id) u.links t.links h.1)
    ∙ ap (λ (n : ℕ). profile_text (member_of id t) (friend_count id t) n) (same_count (invites id) u.links t.links h.2))
same_answer Friends id t u h = ap (λ (ls : List Link). id_list (map (other_end id) ls)) h
same_answer Pending id t u h = ap (λ (ls : List Link). id_list (map (λ link. link.a) ls)) h
same_answer NFriends id t u h = ap decimal (same_count (befriends id) u.links t.links h)
same_answer NPending id t u h = ap decimal (same_count (invites id) u.links t.links h)
same_answer Blocked id t u h = ap (λ (bs : List BlockRow). id_list (map (λ block. block.blocked) bs)) h

-- a key that isn't in a footprint is of another member
apart : (id b : ℕ) (rest : Bool) → ((id == b) || rest) ≡ false → b ≢ id
apart id b rest e = λ same. false≢true (sym (none_go (id == b) rest e).0 ∙ eq-eqb id b (sym same))

apart_two : (id a b : ℕ) (rest : Bool) → ((id == a) || ((id == b) || rest)) ≡ false → (a ≢ id) × (b ≢ id)
apart_two id a b rest e =
    let parts = none_go (id == a) ((id == b) || rest) e in
    (apart id a ((id == b) || rest) e, apart id b rest parts.1)

unequal : (m n : ℕ) → m ≢ n → (m == n) ≡ false
unequal m n h = grind (arith, nat_tests)

pub invite_friends : (id a b : ℕ) (t : Tables) → SameFriends id t (changed (Invite a b) t)
invite_friends id a b t = filter_with (befriends id) (invitation a b) t.links refl

pub invite_invites : (id a b : ℕ) (t : Tables) → b ≢ id → SameInvites id t (changed (Invite a b) t)
invite_invites id a b t n = filter_with (invites id) (invitation a b) t.links (unequal b id n)

pub parted_friends : (id a b : ℕ) (t : Tables) → a ≢ id → b ≢ id → filter (befriends id) (without_link a b t.links) ≡ filter (befriends id) t.links
parted_friends id a b t n m = filter_without (befriends id) a b t.links (λ k d l e. other_befriends a b id (get_or t.links k d) e n m)

pub invited_invites : (id a b : ℕ) (t : Tables) → AllPairs InPlace t.links
    → is_invited a b t ≡ true → b ≢ id → filter (invites id) (without_link a b t.links) ≡ filter (invites id) t.links
invited_invites id a b t pairs takes n =
    filter_without (invites id) a b t.links (λ k d l e. other_invites a b id (get_or t.links k d) (invited_only a b t pairs takes k d l e) n)

pub reject_friends : (id a b : ℕ) (t : Tables) → AllPairs InPlace t.links → is_invited a b t ≡ true → SameFriends id t (changed (Reject a b) t)
reject_friends id a b t pairs takes =
    filter_without (befriends id) a b t.links (λ k d l e. pending_befriends a b id (get_or t.links k d) (invited_only a b t pairs takes k d l e))

pub accept_friends : (id a b : ℕ) (t : Tables) → a ≢ id → b ≢ id → SameFriends id t (changed (Accept a b) t)
accept_friends id a b t n m =
    filter_with (befriends id) (friendship a b) (without_link a b t.links) (friendship_befriends a b id (nat_lt a b) n m) ∙ parted_friends id a b t n m

pub accept_invites : (id a b : ℕ) (t : Tables) → AllPairs InPlace t.links → is_invited a b t ≡ true → b ≢ id → SameInvites id t (changed (Accept a b) t)
accept_invites id a b t pairs takes n =
    filter_with (invites id) (friendship a b) (without_link a b t.links) (friendship_invites a b id (nat_lt a b)) ∙ invited_invites id a b t pairs takes n

pub thaw_invites : (id a b : ℕ) (t : Tables) → AllPairs InPlace t.links → are_friends a b t ≡ true → SameInvites id t (changed (Thaw a b) t)
thaw_invites id a b t pairs takes =
    filter_without (invites id) a b t.links (λ k d l e. friend_invites id (get_or t.links k d) (friends_only a b t pairs takes k d l e))

pub block_others : (id a b : ℕ) (t : Tables) → (a == id) ≡ false → SameBlocks id t (changed (Block a b) t)
block_others id a b t e = filter_insert (is_by id) t.blocks (count_by (is_block_before (block_of a b)) t.blocks) (block_of a b) e

-- a change leaves the rows that the answer to an untouched key reads
rows_kept : (change : Change) (kind : Kind) (id : ℕ) (t : Tables) → AllPairs InPlace t.links
    → applies change t ≡ true → has_key (record { kind = kind; id = id }) (foot_of change) ≡ false → SameRows kind id t (changed change t)
rows_kept (Invite a b) Profile id t pairs takes e = (refl, invite_friends id a b t, invite_invites id a b t (apart id b _ e))
rows_kept (Invite a b) Friends id t pairs takes e = invite_friends id a b t
rows_kept (Invite a b) Pending id t pairs takes e = invite_invites id a b t (apart id b _ e)
rows_kept (Invite a b) NFriends id t pairs takes e = invite_friends id a b t
rows_kept (Invite a b) NPending id t pairs takes e = invite_invites id a b t (apart id b _ e)
rows_kept (Invite a b) Blocked id t pairs takes e = refl
rows_kept (Accept a b) Profile id t pairs takes e =
    let n = apart_two id a b _ e in (refl, accept_friends id a b t n.0 n.1, accept_invites id a b t pairs takes n.1)
rows_kept (Accept a b) Friends id t pairs takes e = let n = apart_two id a b _ e in accept_friends id a b t n.0 n.1
rows_kept (Accept a b) Pending id t pairs takes e = accept_invites id a b t pairs takes (apart id b _ e)
rows_kept (Accept a b) NFriends id t pairs takes e = let n = apart_two id a b _ e in accept_friends id a b t n.0 n.1
rows_kept (Accept a b) NPending id t pairs takes e = accept_invites id a b t pairs takes (apart id b _ e)
rows_kept (Accept a b) Blocked id t pairs takes e = refl
rows_kept (Reject a b) Profile id t pairs takes e =
    (refl, reject_friends id a b t pairs takes, invited_invites id a b t pairs takes (apart id b _ e))
rows_kept (Reject a b) Friends id t pairs takes e = reject_friends id a b t pairs takes
rows_kept (Reject a b) Pending id t pairs takes e = invited_invites id a b t pairs takes (apart id b _ e)
rows_kept (Reject a b) NFriends id t pairs takes e = reject_friends id a b t pairs takes
rows_kept (Reject a b) NPending id t pairs takes e = invited_invites id a b t pairs takes (apart id b _ e)
rows_kept (Reject a b) Blocked id t pairs takes e = refl
rows_kept (Thaw a b) Profile id t pairs takes e =
    let n = apart_two id a b _ e in (refl, parted_friends id a b t n.0 n.1, thaw_invites id a b t pairs takes)
rows_kept (Thaw a b) Friends id t pairs takes e = let n = apart_two id a b _ e in parted_friends id a b t n.0 n.1
rows_kept (Thaw a b) Pending id t pairs takes e = thaw_invites id a b t pairs takes
rows_kept (Thaw a b) NFriends id t pairs takes e = let n = apart_two id a b _ e in parted_friends id a b t n.0 n.1
rows_kept (Thaw a b) NPending id t pairs takes e = thaw_invites id a b t pairs takes
rows_kept (Thaw a b) Blocked id t pairs takes e = refl
rows_kept (Rename a name) Profile id t pairs takes e = (other_member a name id t.members (apart id a _ e), refl, refl)
rows_kept (Rename a name) Friends id t pairs takes e = refl
rows_kept (Rename a name) Pending id t pairs takes e = refl
rows_kept (Rename a name) NFriends id t pairs takes e = refl
rows_kept (Rename a name) NPending id t pairs takes e = refl
rows_kept (Rename a name) Blocked id t pairs takes e = refl
rows_kept (Block a b) Profile id t pairs takes e = (refl, refl, refl)
rows_kept (Block a b) Friends id t pairs takes e = refl
rows_kept (Block a b) Pending id t pairs takes e = refl
rows_kept (Block a b) NFriends id t pairs takes e = refl
rows_kept (Block a b) NPending id t pairs takes e = refl
rows_kept (Block a b) Blocked id t pairs takes e = block_others id a b t (unequal a id (apart id a _ e))

-- a change keeps the links in their places
pairs_kept : (change : Change) (t : Tables) → AllPairs InPlace t.links → applies change t ≡ true → AllPairs InPlace (changed change t).links
pairs_kept (Invite a b) t pairs takes =
    with_in_place (invitation a b) t.links pairs (none_passes (joins a b) t.links (invite_parts a b t takes).free)
pairs_kept (Accept a b) t pairs takes =
    let p : Link → Bool = λ link. not (joins a b link) in
    let passes = filter_passes p t.links in
    with_in_place (friendship a b) (without_link a b t.links) (AllPairs-filter InPlace p t.links pairs)
    (λ k d l. friend_free a b (nat_lt a b) (get_or (without_link a b t.links) k d) (not_true _ (passes k d l)))
pairs_kept (Reject a b) t pairs takes = AllPairs-filter InPlace (λ link. not (joins a b link)) t.links pairs
pairs_kept (Thaw a b) t pairs takes = AllPairs-filter InPlace (λ link. not (joins a b link)) t.links pairs
pairs_kept (Rename a name) t pairs takes = pairs
pairs_kept (Block a b) t pairs takes = pairs

untouched_go : (place : ℕ) (change : Change) (changes : List Change) (kind : Kind) (id : ℕ) (t after : Tables) (b : Bool) → applies change t ≡ b
    → AllPairs InPlace t.links → (if b then apply_from (place + 1) changes (changed change t) else Err place) ≡ Ok after
    → has_key (record { kind = kind; id = id }) (foot_of change) ≡ false
    → (AllPairs InPlace (changed change t).links → apply_from (place + 1) changes (changed change t) ≡ Ok after
    → answer_of kind id after ≡ answer_of kind id (changed change t)) → answer_of kind id after ≡ answer_of kind id t
untouched_go place change changes kind id t after true takes pairs e none rest =
    rest (pairs_kept change t pairs takes) e ∙ same_answer kind id t (changed change t) (rows_kept change kind id t pairs takes none)
untouched_go place change changes kind id t after false takes pairs e none rest = absurd cc

untouched_from : (place : ℕ) (changes : List Change) (kind : Kind) (id : ℕ) (t after : Tables) → AllPairs InPlace t.links
    → apply_from place changes t ≡ Ok after → touches changes (record { kind = kind; id = id }) ≡ false → answer_of kind id after ≡ answer_of kind id t
untouched_from place [] kind id t after pairs e none =
    let same : t ≡ after = cc in ap (λ (u : Tables). answer_of kind id u) (sym same)
untouched_from place (change ∷ changes) kind id t after pairs e none =
    let parts = none_go (has_key (record { kind = kind; id = id }) (foot_of change)) (touches changes (record { kind = kind; id = id })) none in
    untouched_go place change changes kind id t after (applies change t) refl pairs e parts.0
    (λ kept made. untouched_from (place + 1) changes kind id (changed change t) after kept made parts.1)

pub untouched_keeps : UntouchedKeepsItsAnswer
unfolding apply_all answer
untouched_keeps changes key tables after fit made none =
    untouched_from 0 changes key.kind key.id tables after (in_place tables.links fit.links_ascend fit.one_link) made none
