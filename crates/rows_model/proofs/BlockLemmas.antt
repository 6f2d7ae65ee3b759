-- Those whom each member has blocked: the room for one more, and that all lists make the blocks of all.
use Rattle.std.proofs.Common.{ℕ, zero, suc, ◌+◌, ◌<◌, ◌≤◌, ◌≡◌, Bool, true, false, List, [], ◌∷◌, ◌++◌, length, get_or, map, filter, fold}
use Rattle.std.proofs.Common.{All, Some, None, Option, Vec, Global, inl, inr, refl, sym, ap, subst, ◌∙◌, arith}
use Rattle.std.specs.Prelude.{◌==◌, ◌⊎◌, nat_lt, cond, if◌then◌else◌, count_by, vec_capacity}
use Rattle.std.specs.List.{flat_map, AllZip}
use Rattle.std.specs.Option.{option_and_then}
use Rattle.std.proofs.lemmas.Bool.{eqb-true, eq-eqb, ne_eqb, false≢true}
use Rattle.std.proofs.lemmas.Bool.Decides.{nat_tests}
use Rattle.std.proofs.lemmas.Option.{same_Some, none-some}
use Rattle.std.proofs.lemmas.List.{append-nil}
use Rattle.std.proofs.lemmas.List.Edits.{length-insert}
use Rattle.std.proofs.lemmas.List.Sums.{count_by-le-length}
use Rattle.std.proofs.lemmas.List.Elements.{filter-append, All-cons, All-head, All-tail}
use Rattle.rows_model.specs.declared.rows.Link.{Link}
use Rattle.rows_model.specs.declared.rows.Member.{Member}
use Rattle.rows_model.specs.declared.near.Near.{Near}
use Rattle.rows_model.specs.declared.changes.Change.{Change}
use Rattle.rows_model.specs.declared.changes.Change.TheVariants.{Invite, Accept, Reject, Thaw, Rename, Block}
use Rattle.rows_model.specs.declared.refreshing.IdStep.TheVariants.{Stay, Put}
use Rattle.rows_model.specs.declared.refreshing.Circle.TheVariants.{Barred}
use Rattle.rows_model.specs.Rows.{BlockRow}
use Rattle.rows_model.specs.Changes.{block_of}
use Rattle.rows_model.specs.Query.{is_by, blocked_ids}
use Rattle.rows_model.specs.Refresh.{with_id, has_id, listed, ids_after}
use Rattle.rows_model.specs.Near.{NearAscend, blocks_of, all_blocks, tables_in, blocks_by, blocked_after}
use Rattle.rows_model.specs.NearSteps.{IsGrown, IsMade, IsBarredAt, HasBlockRoomAt, HasBlockRoomOf, HasBlockRoomFor}
use Rattle.rows_model.proofs.FitLemmas.{pairs_head, pairs_tail, none_passes}
use Rattle.rows_model.proofs.IndexLemmas.{has_list, by_first}
use Rattle.rows_model.proofs.NearLemmas.{zip_all, swap_eq}

-- the list in which an id was put
pub barred_here : (id new : ℕ) (x y : Near) → (x.id == id) ≡ true → y.id ≡ x.id → y.blocked.items ≡ with_id new x.blocked.items
    → vec_capacity y.blocked ≡ vec_capacity x.blocked → y.links ≡ x.links → IsBarredAt id new x y
barred_here id new x y here same made room links = record {
  id = same;
  blocked = made ∙ sym (ap (λ b. if b then with_id new x.blocked.items else x.blocked.items) (swap_eq id x.id ∙ here));
  block_room = room;
  links = links;
}

-- and one of another member
pub barred_elsewhere : (id new : ℕ) (x : Near) → (x.id ≡ id → ⊥) → IsBarredAt id new x x
barred_elsewhere id new x other = record {
  id = refl;
  blocked = sym (ap (λ b. if b then with_id new x.blocked.items else x.blocked.items) (ne_eqb id x.id (λ e. other (sym e))));
  block_room = refl;
  links = refl;
}

-- that is what a block makes
pub made_of_barred : (a b : ℕ) (x y : Near) → IsBarredAt a b x y → IsMade (Block a b) x y
made_of_barred a b x y h = record {
  id = h.id;
  links = ap (λ (v : Vec Link Global). v.items) h.links;
  room = ap (λ (v : Vec Link Global). vec_capacity v) h.links;
  blocked = h.blocked;
  block_room = h.block_room;
}

-- the room for a block is that in the list of its blocker
pub room_of_block : (a b more : ℕ) (xs : List Near) → All (HasBlockRoomAt a more) xs → All (λ one. HasBlockRoomOf one more (Block a b)) xs
room_of_block a b more xs room = λ k d l e. room k d l (sym (eqb-true a (get_or xs k d).id e))

pub room_at_block : (a b more : ℕ) (xs : List Near) → All (λ one. HasBlockRoomOf one more (Block a b)) xs → All (HasBlockRoomAt a more) xs
room_at_block a b more xs room = λ k d l same. room k d l (eq-eqb a (get_or xs k d).id (sym same))

-- no room is asked for a change that puts no block
pub no_block_room : (change : Change) → ((id : ℕ) → blocks_by id change ≡ false) → (more : ℕ) (xs : List Near)
    → All (λ one. HasBlockRoomOf one more change) xs
no_block_room change none more xs = λ k d l e. absurd (false≢true (sym (none (get_or xs k d).id) ∙ e))

pub no_block : (a b : ℕ) (change : Change) → (change ≡ Invite a b) ⊎ (change ≡ Accept a b) → (id : ℕ) → blocks_by id change ≡ false
no_block a b change (inl e) id = ap (blocks_by id) e
no_block a b change (inr e) id = ap (blocks_by id) e

-- room for one change is kept while there is made more for the rest
block_room_kept : (change : Change) (more : ℕ) (x y : Near) → IsGrown x y → HasBlockRoomOf x more change → HasBlockRoomOf y more change
block_room_kept change more x y grown room e =
    let P : ℕ → Type 0 = λ n. blocks_by n change ≡ true in
    let h : length x.blocked.items + more ≤ vec_capacity x.blocked = room (subst P grown.id e) in
    omega (arith, h, ap length grown.blocked, grown.block_room)

pub block_room_for_all : (change : Change) (rest changes : List Change) (more : ℕ) (xs ys : List Near) → changes ≡ change ∷ rest → AllZip IsGrown xs ys
    → All (λ one. HasBlockRoomOf one more change) xs → All (HasBlockRoomFor rest more) ys → All (HasBlockRoomFor changes more) ys
block_room_for_all change rest changes more xs ys parts grown one others =
    let first = zip_all IsGrown (λ one. HasBlockRoomOf one more change) (λ one. HasBlockRoomOf one more change)
    (block_room_kept change more) xs ys grown one in
    λ k d l. subst (λ (cs : List Change). HasBlockRoomFor cs more (get_or ys k d)) (sym parts)
    (All-cons (HasBlockRoomOf (get_or ys k d) more) change rest (first k d l) (others k d l))

-- room for the first of the changes, and for the rest after it
first_go : (change : Change) (rest changes : List Change) → changes ≡ change ∷ rest
    → (x : Near) → HasBlockRoomFor changes (length changes) x → HasBlockRoomOf x 1 change
first_go change rest changes parts x room e =
    let all : HasBlockRoomFor (change ∷ rest) (length changes) x = subst (λ (cs : List Change). HasBlockRoomFor cs (length changes) x) parts room in
    let h : length x.blocked.items + length changes ≤ vec_capacity x.blocked = All-head (HasBlockRoomOf x (length changes)) change rest all e in
    omega (arith, h, ap length parts)

pub first_block_room : (change : Change) (rest changes : List Change) → changes ≡ change ∷ rest
    → (xs : List Near) → All (HasBlockRoomFor changes (length changes)) xs → All (λ one. HasBlockRoomOf one 1 change) xs
first_block_room change rest changes parts xs room = λ k d l. first_go change rest changes parts (get_or xs k d) (room k d l)

one_more_go : (b : ℕ) (ids : List ℕ) (c : Bool) → length (if c then with_id b ids else ids) ≤ length ids + 1
one_more_go b ids true =
    omega (arith, length-insert ids (count_by (λ other. nat_lt other b) ids) b (count_by-le-length (λ other. nat_lt other b) ids))
one_more_go b ids false = omega arith

one_more_blocked : (id : ℕ) (ids : List ℕ) (change : Change) → length (blocked_after id ids change) ≤ length ids + 1
one_more_blocked id ids (Invite a b) = omega arith
one_more_blocked id ids (Accept a b) = omega arith
one_more_blocked id ids (Reject a b) = omega arith
one_more_blocked id ids (Thaw a b) = omega arith
one_more_blocked id ids (Rename a name) = omega arith
one_more_blocked id ids (Block a b) = one_more_go b ids (a == id)

pub rest_block_room : (change : Change) (rest changes : List Change) → changes ≡ change ∷ rest
    → (x y : Near) → IsMade change x y → HasBlockRoomFor changes (length changes) x → HasBlockRoomFor rest (length rest) y
rest_block_room change rest changes parts x y made room =
    let all : HasBlockRoomFor (change ∷ rest) (length changes) x = subst (λ (cs : List Change). HasBlockRoomFor cs (length changes) x) parts room in
    let later = All-tail (HasBlockRoomOf x (length changes)) change rest all in
    let m : length (blocked_after x.id x.blocked.items change) ≤ length x.blocked.items + 1 = one_more_blocked x.id x.blocked.items change in
    λ k d l e.
    let P : ℕ → Type 0 = λ n. blocks_by n (get_or rest k d) ≡ true in
    let h : length x.blocked.items + length changes ≤ vec_capacity x.blocked = later k d l (subst P made.id e) in
    omega (arith, h, m, ap length parts, ap length made.blocked, made.block_room)

-- the blocks by one member, among those of its list and of another
by_own : (id : ℕ) (ids : List ℕ) → filter (is_by id) (map (block_of id) ids) ≡ map (block_of id) ids
by_own id [] = refl
by_own id (x ∷ ids) =
    ap (λ b. cond b (block_of id x ∷ filter (is_by id) (map (block_of id) ids)) (filter (is_by id) (map (block_of id) ids))) (eq-eqb id id refl)
    ∙ ap (λ (bs : List BlockRow). block_of id x ∷ bs) (by_own id ids)

by_other : (id other : ℕ) (ids : List ℕ) → (other == id) ≡ false → filter (is_by id) (map (block_of other) ids) ≡ []
by_other id other [] e = refl
by_other id other (x ∷ ids) e =
    ap (λ b. cond b (block_of other x ∷ filter (is_by id) (map (block_of other) ids)) (filter (is_by id) (map (block_of other) ids))) e
    ∙ by_other id other ids e

none_by : (id : ℕ) (near : List Near) → All (λ one. (one.id == id) ≡ false) near → filter (is_by id) (all_blocks near) ≡ []
none_by id [] all = refl
none_by id (one ∷ near) all =
    filter-append (is_by id) (blocks_of one) (all_blocks near)
    ∙ (ap (λ (bs : List BlockRow). bs ++ filter (is_by id) (all_blocks near))
    (by_other id one.id one.blocked.items (All-head (λ other. (other.id == id) ≡ false) one near all))
    ∙ none_by id near (All-tail (λ other. (other.id == id) ≡ false) one near all))

own : (id : ℕ) (near : List Near) (k : ℕ) (d : Near) → NearAscend near → k < length near → ((get_or near k d).id == id) ≡ true
    → filter (is_by id) (all_blocks near) ≡ map (block_of id) (get_or near k d).blocked.items
own id [] k d up l e = absurd (omega arith)
own id (one ∷ near) zero d up l e =
    let same : one.id ≡ id = eqb-true one.id id e in
    let later : All (λ other. (other.id == id) ≡ false) near =
    λ j d m. (let h : one.id < (get_or near j d).id = pairs_head (λ x y. x.id < y.id) one near up j d m in grind (arith, nat_tests)) in
    let first : filter (is_by id) (blocks_of one) ≡ map (block_of id) one.blocked.items =
    ap (λ (n : ℕ). filter (is_by id) (map (block_of n) one.blocked.items)) same ∙ by_own id one.blocked.items in
    filter-append (is_by id) (blocks_of one) (all_blocks near)
    ∙ (ap (λ (bs : List BlockRow). bs ++ filter (is_by id) (all_blocks near)) first
    ∙ (ap (λ (bs : List BlockRow). map (block_of id) one.blocked.items ++ bs) (none_by id near later) ∙ append-nil (map (block_of id) one.blocked.items)))
own id (one ∷ near) (suc k) d up l e =
    let below : one.id < (get_or near k d).id = pairs_head (λ x y. x.id < y.id) one near up k d (omega arith) in
    let other : (one.id == id) ≡ false = grind (arith, nat_tests) in
    filter-append (is_by id) (blocks_of one) (all_blocks near)
    ∙ (ap (λ (bs : List BlockRow). bs ++ filter (is_by id) (all_blocks near)) (by_other id one.id one.blocked.items other)
    ∙ own id near k d (pairs_tail (λ x y. x.id < y.id) one near up) (omega arith) e)

back_ids : (id : ℕ) (ids : List ℕ) → map (λ (block : BlockRow). block.blocked) (map (block_of id) ids) ≡ ids
back_ids id [] = refl
back_ids id (x ∷ ids) = ap (λ (ns : List ℕ). x ∷ ns) (back_ids id ids)

-- those whom a member has blocked are those in its list
pub own_ids : (id : ℕ) (members : List Member) (near : List Near) (k : ℕ) (d : Near) → NearAscend near → k < length near
    → ((get_or near k d).id == id) ≡ true → (get_or near k d).blocked.items ≡ blocked_ids id (tables_in members near)
own_ids id members near k d up l e =
    sym (ap (map (λ (block : BlockRow). block.blocked)) (own id near k d up l e) ∙ back_ids id (get_or near k d).blocked.items)

-- one who has no list has blocked none
pub no_ids : (id : ℕ) (members : List Member) (near : List Near) → has_list id near ≡ false → [] ≡ blocked_ids id (tables_in members near)
no_ids id members near none =
    sym (ap (map (λ (block : BlockRow). block.blocked)) (none_by id near (none_passes (λ one. one.id == id) near none)))

-- the blocks by a member, made of their ids
rebuilt_go : (id : ℕ) (x : BlockRow) (bs : List BlockRow) (c : Bool) → (x.blocker == id) ≡ c
    → map (block_of id) (map (λ (block : BlockRow). block.blocked) (filter (is_by id) bs)) ≡ filter (is_by id) bs
    → map (block_of id) (map (λ (block : BlockRow). block.blocked) (cond c (x ∷ filter (is_by id) bs) (filter (is_by id) bs)))
    ≡ cond c (x ∷ filter (is_by id) bs) (filter (is_by id) bs)
rebuilt_go id x bs true e rest =
    let one : block_of id x.blocked ≡ x = ap (λ (n : ℕ). block_of n x.blocked) (sym (eqb-true x.blocker id e)) in
    ap (λ (block : BlockRow). block ∷ map (block_of id) (map (λ (other : BlockRow). other.blocked) (filter (is_by id) bs))) one
    ∙ ap (λ (blocks : List BlockRow). x ∷ blocks) rest
rebuilt_go id x bs false e rest = rest

rebuilt : (id : ℕ) (bs : List BlockRow)
    → map (block_of id) (map (λ (block : BlockRow). block.blocked) (filter (is_by id) bs)) ≡ filter (is_by id) bs
rebuilt id [] = refl
rebuilt id (x ∷ bs) = rebuilt_go id x bs (x.blocker == id) refl (rebuilt id bs)

-- the blocker of a block
abbrev pub blocker_of : BlockRow → ℕ
blocker_of block = block.blocker

-- the blocks of lists that each hold the ids that its member has blocked
pub all_blocks_is : (near : List Near) (blocks : List BlockRow)
    → All (λ one. one.blocked.items ≡ map (λ (block : BlockRow). block.blocked) (filter (is_by one.id) blocks)) near
    → all_blocks near ≡ flat_map (by_first blocker_of blocks) near
all_blocks_is [] blocks all = refl
all_blocks_is (one ∷ near) blocks all =
    let P : Near → Type 0 = λ other. other.blocked.items ≡ map (λ (block : BlockRow). block.blocked) (filter (is_by other.id) blocks) in
    let here : blocks_of one ≡ by_first blocker_of blocks one = ap (map (block_of one.id)) (All-head P one near all) ∙ rebuilt one.id blocks in
    ap (λ (bs : List BlockRow). bs ++ all_blocks near) here
    ∙ ap (λ (bs : List BlockRow). by_first blocker_of blocks one ++ bs) (all_blocks_is near blocks (All-tail P one near all))

-- changes that a list of those blocked can be refreshed by, made in it
put_go : {A : Type 0} (next : List ℕ → Option (List ℕ)) (ids r : List ℕ) (c : Bool) → option_and_then next (if c then None else Some ids) ≡ Some r
    → (next ids ≡ Some r → A) → A
put_go next ids r true e rest = absurd (none-some r e)
put_go next ids r false e rest = rest e

folded_go : (id a b : ℕ) (changes : List Change) (ids r : List ℕ) (c : Bool)
    → option_and_then (ids_after Barred id changes) (listed (if c then Put b else Stay) ids) ≡ Some r
    → ((more : List ℕ) → ids_after Barred id changes more ≡ Some r → fold (blocked_after id) more changes ≡ r)
    → fold (blocked_after id) (if c then with_id b ids else ids) changes ≡ r
folded_go id a b changes ids r true e rest = put_go (ids_after Barred id changes) (with_id b ids) r (has_id b ids) e (rest (with_id b ids))
folded_go id a b changes ids r false e rest = rest ids e

pub folded_ids : (id : ℕ) (changes : List Change) (ids r : List ℕ) → ids_after Barred id changes ids ≡ Some r → fold (blocked_after id) ids changes ≡ r
folded_ids id [] ids r e = same_Some ids r e
folded_ids id (Invite a b ∷ changes) ids r e = folded_ids id changes ids r e
folded_ids id (Accept a b ∷ changes) ids r e = folded_ids id changes ids r e
folded_ids id (Reject a b ∷ changes) ids r e = folded_ids id changes ids r e
folded_ids id (Thaw a b ∷ changes) ids r e = folded_ids id changes ids r e
folded_ids id (Rename a name ∷ changes) ids r e = folded_ids id changes ids r e
folded_ids id (Block a b ∷ changes) ids r e =
    folded_go id a b changes ids r (a == id) e (λ more h. folded_ids id changes more r h)
