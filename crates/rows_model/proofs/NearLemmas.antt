-- The lists of the members, one by one: where a member's stands, and what a call leaves of each.
use Rattle.std.proofs.Common.{ℕ, zero, suc, ◌+◌, ◌<◌, ◌≤◌, ◌≡◌, ◌≢◌, Bool, true, false, not, List, [], ◌∷◌, length, get_or, set, map, All}
use Rattle.std.proofs.Common.{AllPairs, IfSome, IfNone, OnOk, Result, Ok, Err, Vec, Global, refl, sym, ap, subst, ◌∙◌, inl, inr, arith}
use Rattle.std.specs.Prelude.{◌==◌, ◌&&◌, ◌||◌, if◌then◌else◌, count_by, vec_capacity, fold, ◌⊎◌}
use Rattle.std.specs.List.{list_any, AllZip}
use Rattle.std.specs.Result.{result_ok}
use Rattle.std.specs.Ordering.{nat_cmp, is_lt}
use Rattle.std.specs.declared.cmp.Ordering.TheVariants.{Less, Equal, Greater}
use Rattle.std.specs.List.Sorted.{IsBinarySearchResult, IsSearchInRange}
use Rattle.std.proofs.lemmas.Bool.{eqb-true, ne_eqb, or_cases, or_left, or_right}
use Rattle.std.proofs.lemmas.Bool.Decides.{nat_tests}
use Rattle.std.proofs.lemmas.Cmp.{nat_cmp_total, ranked}
use Rattle.std.proofs.lemmas.List.{get_or-map, length-map}
use Rattle.std.proofs.lemmas.List.Elements.{All-nil, All-cons, All-head, All-tail, length_all_zip}
use Rattle.std.proofs.lemmas.List.Folds.{list_any_none}
use Rattle.std.proofs.lemmas.List.Edits.{length-insert}
use Rattle.std.proofs.lemmas.List.Sums.{count_by-le-length, length-filter}
use Rattle.std.proofs.lemmas.List.Sorted.{searchable_from_sorted}
use Rattle.rows_model.specs.declared.rows.Member.{Member}
use Rattle.rows_model.specs.declared.near.Near.{Near}
use Rattle.rows_model.specs.declared.changes.Change.TheVariants.{Invite, Accept, Reject, Thaw, Rename, Block}
use Rattle.rows_model.specs.Rows.{joins}
use Rattle.rows_model.specs.Changes.{is_before, with_link, without_link, invitation, friendship, renamed}
use Rattle.rows_model.specs.declared.rows.Link.{Link}
use Rattle.rows_model.specs.declared.changes.Change.{Change}
use Rattle.rows_model.specs.Near.{IsAt, NearAscend, puts, names, links_after, near_after, members_after, blocked_after}
use Rattle.rows_model.specs.NearSteps.{HasRoomAt, HasRoomAtBoth, IsGrown, HasRoomOf, HasRoomFor, IsMadeAt, IsMadeAtBoth, IsMade, IsMadeAll}
use Rattle.rows_model.proofs.FitLemmas.{pairs_head, pairs_tail, none_passes, same_id}

-- elements whose numbers ascend can be searched by halves
sorted_by : {X : Type 0} (f : X → ℕ) (xs : List X) → AllPairs (λ x y. f x < f y) xs
    → (k : ℕ) (d : X) → 0 ≤ k → k + 1 < length xs → is_lt (nat_cmp (f (get_or xs (k + 1) d)) (f (get_or xs k d))) ≡ false
sorted_by f xs ascend k d low l =
    let up = ascend k (k + 1) d (omega arith) l in
    grind (arith, nat_tests)

-- what the search by halves finds
pub place_found : {X : Type 0} (f : X → ℕ) (xs : List X) (id : ℕ) (r : Result ℕ ℕ)
    → IsSearchInRange r (length xs) → IsBinarySearchResult (λ x. nat_cmp (f x) id) xs r → IfSome (result_ok r) (λ place. IsAt (λ x. f x == id) xs place)
place_found f xs id (Ok i) l h =
    record { within = l; passes = λ d. let same = ranked (f (get_or xs i d)) id Equal (sym (h d)) in grind (arith, nat_tests) }
place_found f xs id (Err i) l h = tt

pub place_none : {X : Type 0} (f : X → ℕ) (xs : List X) (id : ℕ) (r : Result ℕ ℕ)
    → AllPairs (λ x y. f x < f y) xs → IsBinarySearchResult (λ x. nat_cmp (f x) id) xs r → IfNone (result_ok r) (list_any (λ x. f x == id) xs ≡ false)
place_none f xs id (Ok i) ascend h = tt
place_none f xs id (Err i) ascend h =
    let up = searchable_from_sorted nat_cmp_total f xs id (sorted_by f xs ascend) in
    let parts = h up in
    list_any_none (λ x. f x == id) xs (λ k d in_range.
    let absent : f (get_or xs k d) ≡ id → ⊥ = λ e.
    let side : (k < i → ⊥) × (i ≤ k → ⊥) = (
      λ below. let less = ranked _ id Less (sym (parts.0 k d (omega arith) below)) in omega arith,
      λ above. let more = ranked _ id Greater (sym (parts.1 k d above in_range)) in omega arith,
    ) in
    omega arith in
    grind (arith, nat_tests))

-- members of other ids keep their names
renamed_others : (id : ℕ) (name : List ℕ) (xs : List Member) → All (λ m. (m.id == id) ≡ false) xs → map (renamed id name) xs ≡ xs
renamed_others id name [] all = refl
renamed_others id name (x ∷ xs) all =
    let other : (x.id == id) ≡ false = All-head (λ m. (m.id == id) ≡ false) x xs all in
    let first : renamed id name x ≡ x = ap (λ b. if b then record { id = x.id; name = name } else x) other in
    ap (λ (m : Member). m ∷ map (renamed id name) xs) first
    ∙ ap (λ (ms : List Member). x ∷ ms) (renamed_others id name xs (All-tail (λ m. (m.id == id) ≡ false) x xs all))

-- no member of the id is there
pub renamed_none : (id : ℕ) (name : List ℕ) (xs : List Member) → list_any (λ m. m.id == id) xs ≡ false → xs ≡ map (renamed id name) xs
renamed_none id name xs none = sym (renamed_others id name xs (none_passes (λ m. m.id == id) xs none))

-- the one member of an id, with another name
pub renamed_is : (id : ℕ) (name : List ℕ) (xs : List Member) (i : ℕ) (d : Member) → AllPairs (λ member later. member.id < later.id) xs
    → i < length xs → ((get_or xs i d).id == id) ≡ true → set xs i (record { id = (get_or xs i d).id; name = name }) ≡ map (renamed id name) xs
renamed_is id name [] i d up l here = absurd (omega arith)
renamed_is id name (x ∷ xs) zero d up l here =
    let later = pairs_head (λ member later. member.id < later.id) x xs up in
    let rest : All (λ m. (m.id == id) ≡ false) xs = λ k e m. let above = later k e m in grind (arith, nat_tests) in
    let first : renamed id name x ≡ record { id = x.id; name = name } = ap (λ b. if b then record { id = x.id; name = name } else x) here in
    sym (ap (λ (m : Member). m ∷ map (renamed id name) xs) first
    ∙ ap (λ (ms : List Member). record { id = x.id; name = name } ∷ ms) (renamed_others id name xs rest))
renamed_is id name (x ∷ xs) (suc i) d up l here =
    let R : Member → Member → Type 0 = λ member later. member.id < later.id in
    let below = pairs_head R x xs up i d (omega arith) in
    let other : (x.id == id) ≡ false = grind (arith, nat_tests) in
    let first : renamed id name x ≡ x = ap (λ b. if b then record { id = x.id; name = name } else x) other in
    ap (λ (ms : List Member). x ∷ ms) (renamed_is id name xs i d (pairs_tail R x xs up) (omega arith) here)
    ∙ sym (ap (λ (m : Member). m ∷ map (renamed id name) xs) first)

-- each list beside itself
pub zip_itself : (R : Near → Near → Type 0) (near : List Near) → All (λ x. R x x) near → AllZip R near near
zip_itself R [] all = tt
zip_itself R (x ∷ near) all = (All-head (λ y. R y y) x near all, zip_itself R near (All-tail (λ y. R y y) x near all))

-- the lists of other members stay, where this one has none
pub zip_none : (R : Near → Near → Type 0) (near : List Near) (id : ℕ)
    → list_any (λ one. one.id == id) near ≡ false → ((x : Near) → (x.id ≡ id → ⊥) → R x x) → AllZip R near near
zip_none R near id none stay =
    let others = none_passes (λ one. one.id == id) near none in
    zip_itself R near (λ k d l. stay (get_or near k d) (λ e. (let h = others k d l in grind (arith, nat_tests))))

-- and where its list was changed
pub zip_at : (R : Near → Near → Type 0) (near : List Near) (id i : ℕ) (d y : Near) → NearAscend near
    → i < length near → ((get_or near i d).id == id) ≡ true → R (get_or near i d) y → ((x : Near) → (x.id ≡ id → ⊥) → R x x) → AllZip R near (set near i y)
zip_at R [] id i d y up l at here stay = absurd (omega arith)
zip_at R (z ∷ near) id zero d y up l at here stay =
    let later = pairs_head (λ one later. one.id < later.id) z near up in
    (here, zip_itself R near (λ k e m. stay (get_or near k e) (λ same. (let h = later k e m in grind (arith, nat_tests)))))
zip_at R (z ∷ near) id (suc i) d y up l at here stay =
    let below : z.id < (get_or near i d).id = pairs_head (λ one later. one.id < later.id) z near up i d (omega arith) in
    let other : z.id ≡ id → ⊥ = λ same. grind (arith, nat_tests) in
    (stay z other, zip_at R near id i d y (pairs_tail (λ one later. one.id < later.id) z near up) (omega arith) at here stay)

-- one call after another
pub zip_chain : (R S T : Near → Near → Type 0) → ((x y z : Near) → R x y → S y z → T x z)
    → (xs ys zs : List Near) → AllZip R xs ys → AllZip S ys zs → AllZip T xs zs
zip_chain R S T step [] [] [] one two = tt
zip_chain R S T step [] [] (z ∷ zs) one two = absurd two
zip_chain R S T step [] (y ∷ ys) zs one two = absurd one
zip_chain R S T step (x ∷ xs) [] zs one two = absurd one
zip_chain R S T step (x ∷ xs) (y ∷ ys) [] one two = absurd two
zip_chain R S T step (x ∷ xs) (y ∷ ys) (z ∷ zs) one two = (step x y z one.0 two.0, zip_chain R S T step xs ys zs one.1 two.1)

-- what holds of each list, after a call
pub zip_all : (R : Near → Near → Type 0) (P Q : Near → Type 0) → ((x y : Near) → R x y → P x → Q y) → (xs ys : List Near) → AllZip R xs ys → All P xs → All Q ys
zip_all R P Q step [] [] zip all = All-nil Q
zip_all R P Q step [] (y ∷ ys) zip all = absurd zip
zip_all R P Q step (x ∷ xs) [] zip all = absurd zip
zip_all R P Q step (x ∷ xs) (y ∷ ys) zip all =
    All-cons Q y ys (step x y zip.0 (All-head P x xs all)) (zip_all R P Q step xs ys zip.1 (All-tail P x xs all))

-- a call keeps the ids
pub zip_ids : (R : Near → Near → Type 0) → ((x y : Near) → R x y → y.id ≡ x.id)
    → (xs ys : List Near) → AllZip R xs ys → map (λ one. one.id) ys ≡ map (λ one. one.id) xs
zip_ids R same [] [] zip = refl
zip_ids R same [] (y ∷ ys) zip = absurd zip
zip_ids R same (x ∷ xs) [] zip = absurd zip
zip_ids R same (x ∷ xs) (y ∷ ys) zip =
    ap (λ (n : ℕ). n ∷ map (λ one. one.id) ys) (same x y zip.0) ∙ ap (λ (ns : List ℕ). x.id ∷ ns) (zip_ids R same xs ys zip.1)

-- elements of the same numbers ascend alike
pub ascend_alike : {X Y : Type 0} (f : X → ℕ) (g : Y → ℕ) (xs : List X) (ys : List Y)
    → map g ys ≡ map f xs → AllPairs (λ x y. f x < f y) xs → AllPairs (λ x y. g x < g y) ys
ascend_alike f g [] [] same up = λ i j d low l. absurd (omega arith)
ascend_alike f g [] (y ∷ ys) same up = absurd cc
ascend_alike f g (x ∷ xs) ys same up =
    λ i j d low l.
    let n : length ys ≡ length (x ∷ xs) = sym (length-map ys g) ∙ (ap length same ∙ length-map (x ∷ xs) f) in
    let at_i : g (get_or ys i d) ≡ f (get_or (x ∷ xs) i x) =
    sym (get_or-map g ys i d 0 (omega arith)) ∙ (ap (λ (ns : List ℕ). get_or ns i 0) same ∙ get_or-map f (x ∷ xs) i x 0 (omega (arith, n))) in
    let at_j : g (get_or ys j d) ≡ f (get_or (x ∷ xs) j x) =
    sym (get_or-map g ys j d 0 l) ∙ (ap (λ (ns : List ℕ). get_or ns j 0) same ∙ get_or-map f (x ∷ xs) j x 0 (omega (arith, n))) in
    let h : f (get_or (x ∷ xs) i x) < f (get_or (x ∷ xs) j x) = up i j x low (omega (arith, n)) in
    omega (arith, at_i, at_j, h)

pub ascend_after : (R : Near → Near → Type 0) → ((x y : Near) → R x y → y.id ≡ x.id) → (xs ys : List Near) → AllZip R xs ys → NearAscend xs → NearAscend ys
ascend_after R same xs ys zip up = ascend_alike (λ one. one.id) (λ one. one.id) xs ys (zip_ids R same xs ys zip) up

-- what a call leaves, whatever was there
pub zip_right : (Q : Near → Type 0) (xs ys : List Near) → AllZip (λ x y. Q y) xs ys → All Q ys
zip_right Q xs ys zip = zip_all (λ x y. Q y) (λ x. Unit {0}) Q (λ x y h t. h) xs ys zip (λ k d l. tt)

-- what follows where a call succeeds
pub on_ok : {X E : Type 0} {P Q : Type 0} (r : Result X E) → (P → Q) → OnOk r P → OnOk r Q
on_ok (Ok x) step h = step h
on_ok (Err e) step h = tt

-- and what holds anyway
pub on_any : {X E : Type 0} {P : Type 0} (r : Result X E) → P → OnOk r P
on_any (Ok x) h = h
on_any (Err e) h = tt

-- the list in which a change was made
pub made_here : (id : ℕ) (change : Change) (x y : Near) → (x.id == id) ≡ true → y.id ≡ x.id → y.links.items ≡ links_after x.links.items change
    → vec_capacity y.links ≡ vec_capacity x.links → y.blocked ≡ x.blocked → IsMadeAt id change x y
made_here id change x y here same made room blocked = record {
  id = same;
  links = made ∙ sym (ap (λ b. if b then links_after x.links.items change else x.links.items) here);
  room = room;
  blocked = blocked;
}

-- and one of another member
pub made_elsewhere : (id : ℕ) (change : Change) (x : Near) → (x.id ≡ id → ⊥) → IsMadeAt id change x x
made_elsewhere id change x other = record {
  id = refl;
  links = sym (ap (λ b. if b then links_after x.links.items change else x.links.items) (ne_eqb x.id id other));
  room = refl;
  blocked = refl;
}

-- a change made in two lists
made_both_go : (a b : ℕ) (change : Change) (x y z : Near) (c e : Bool) → (x.id == a) ≡ c → (x.id == b) ≡ e → a ≢ b
    → y.links.items ≡ (if c then links_after x.links.items change else x.links.items)
    → z.links.items ≡ (if e then links_after y.links.items change else y.links.items)
    → z.links.items ≡ (if c || e then links_after x.links.items change else x.links.items)
made_both_go a b change x y z true true ec ee two one other =
    let same : a ≡ b = grind (arith, nat_tests) in
    absurd (two same)
made_both_go a b change x y z true false ec ee two one other = other ∙ one
made_both_go a b change x y z false true ec ee two one other = other ∙ ap (λ (ls : List Link). links_after ls change) one
made_both_go a b change x y z false false ec ee two one other = other ∙ one

pub swap_eq : (m n : ℕ) → (m == n) ≡ (n == m)
swap_eq m n = grind (arith, nat_tests)

pub made_both : (a b : ℕ) (change : Change) → a ≢ b → (x y z : Near) → IsMadeAt a change x y → IsMadeAt b change y z → IsMadeAtBoth a b change x z
made_both a b change two x y z one other = record {
  id = other.id ∙ one.id;
  links =
      let P : ℕ → Type 0 = λ n. z.links.items ≡ (if n == b then links_after y.links.items change else y.links.items) in
      let at_b : z.links.items ≡ (if x.id == b then links_after y.links.items change else y.links.items) = subst P one.id other.links in
      made_both_go a b change x y z (x.id == a) (x.id == b) refl refl two one.links at_b
      ∙ ap (λ t. if t then links_after x.links.items change else x.links.items) (ap (λ s. s || (x.id == b)) (swap_eq x.id a)
      ∙ ap (λ s. (a == x.id) || s) (swap_eq x.id b));
  room = other.room ∙ one.room;
  blocked = other.blocked ∙ one.blocked;
}

-- the room of the second list is as before
pub second_room : (a b : ℕ) (change : Change) → a ≢ b → (x y : Near) → IsMadeAt a change x y → HasRoomAtBoth a b 1 x → HasRoomAt b 1 y
second_room a b change two x y one room same =
    let id : x.id ≡ b = sym one.id ∙ same in
    let other : (x.id == a) ≡ false = ne_eqb x.id a (λ e. two (sym e ∙ id)) in
    let here : ((a == x.id) || (b == x.id)) ≡ true = grind (arith, nat_tests) in
    let links : y.links.items ≡ x.links.items = one.links ∙ ap (λ t. if t then links_after x.links.items change else x.links.items) other in
    let h : length x.links.items + 1 ≤ vec_capacity x.links = room here in
    omega (arith, h, ap length links, one.room)

-- and that of the first
pub first_room : (a b : ℕ) (x : Near) → HasRoomAtBoth a b 1 x → HasRoomAt a 1 x
first_room a b x room same =
    let here : ((a == x.id) || (b == x.id)) ≡ true = grind (arith, nat_tests) in
    room here

-- a list as it is
pub grown_itself : (near : List Near) → AllZip IsGrown near near
grown_itself near =
    zip_itself IsGrown near (λ k d l. record { id = refl; links = refl; room = omega arith; blocked = refl; block_room = omega arith })

grown_twice : (x y z : Near) → IsGrown x y → IsGrown y z → IsGrown x z
grown_twice x y z one other = record {
  id = other.id ∙ one.id;
  links = other.links ∙ one.links;
  room = omega (arith, one.room, other.room);
  blocked = other.blocked ∙ one.blocked;
  block_room = omega (arith, one.block_room, other.block_room);
}

pub grown_on : (xs ys zs : List Near) → AllZip IsGrown xs ys → AllZip IsGrown ys zs → AllZip IsGrown xs zs
grown_on xs ys zs one other = zip_chain IsGrown IsGrown IsGrown grown_twice xs ys zs one other

pub grown_ascends : (xs ys : List Near) → AllZip IsGrown xs ys → NearAscend xs → NearAscend ys
grown_ascends xs ys zip up = ascend_after IsGrown (λ x y h. h.id) xs ys zip up

-- room in the first list is kept while the second grows
at_kept : (id more : ℕ) (x y : Near) → IsGrown x y → HasRoomAt id more x → HasRoomAt id more y
at_kept id more x y grown room same =
    let h : length x.links.items + more ≤ vec_capacity x.links = room (sym grown.id ∙ same) in
    omega (arith, h, ap length grown.links, grown.room)

either : (a b more : ℕ) (x : Near) → HasRoomAt a more x → HasRoomAt b more x → HasRoomAtBoth a b more x
either a b more x one other e = elim (or_cases (a == x.id) (b == x.id) e) [
  | inl first ↦ one (sym (eqb-true a x.id first))
  | inr second ↦ other (sym (eqb-true b x.id second))
]

pub room_at_both : (a b more : ℕ) (xs ys : List Near) → AllZip IsGrown xs ys
    → All (HasRoomAt a more) xs → All (HasRoomAt b more) ys → All (HasRoomAtBoth a b more) ys
room_at_both a b more xs ys grown one other =
    let first = zip_all IsGrown (HasRoomAt a more) (HasRoomAt a more) (at_kept a more) xs ys grown one in
    λ k d l. either a b more (get_or ys k d) (first k d l) (other k d l)

-- room for one change is kept while there is made more for the rest
of_kept : (change : Change) (more : ℕ) (x y : Near) → IsGrown x y → HasRoomOf change more x → HasRoomOf change more y
of_kept change more x y grown room e =
    let P : ℕ → Type 0 = λ n. (puts change && names n change) ≡ true in
    let h : length x.links.items + more ≤ vec_capacity x.links = room (subst P grown.id e) in
    omega (arith, h, ap length grown.links, grown.room)

for_more : (change : Change) (rest changes : List Change) (more : ℕ)
    → changes ≡ change ∷ rest → (x : Near) → HasRoomOf change more x → HasRoomFor rest more x → HasRoomFor changes more x
for_more change rest [] more parts x one others e = absurd cc
for_more change rest (c ∷ cs) more parts x one others e =
    let same : c ≡ change = cc in
    let later : cs ≡ rest = cc in
    elim (or_cases (puts c && names x.id c) (list_any (λ change. puts change && names x.id change) cs) e) [
      | inl first ↦ one (subst (λ (other : Change). (puts other && names x.id other) ≡ true) same first)
      | inr some ↦ others (subst (λ (cs : List Change). list_any (λ change. puts change && names x.id change) cs ≡ true) later some)
    ]

pub room_for_all : (change : Change) (rest changes : List Change) (more : ℕ) (xs ys : List Near)
    → changes ≡ change ∷ rest → AllZip IsGrown xs ys → All (HasRoomOf change more) xs → All (HasRoomFor rest more) ys → All (HasRoomFor changes more) ys
room_for_all change rest changes more xs ys parts grown one others =
    let first = zip_all IsGrown (HasRoomOf change more) (HasRoomOf change more) (of_kept change more) xs ys grown one in
    λ k d l. for_more change rest changes more parts (get_or ys k d) (first k d l) (others k d l)

-- what follows of each list
pub zip_map : (R S : Near → Near → Type 0) → ((x y : Near) → R x y → S x y) → (xs ys : List Near) → AllZip R xs ys → AllZip S xs ys
zip_map R S step [] [] zip = tt
zip_map R S step [] (y ∷ ys) zip = absurd zip
zip_map R S step (x ∷ xs) [] zip = absurd zip
zip_map R S step (x ∷ xs) (y ∷ ys) zip = (step x y zip.0, zip_map R S step xs ys zip.1)

-- a change was made in the lists of the members that it names
pub made_of_both : (a b : ℕ) (change : Change) → ((id : ℕ) → names id change ≡ ((a == id) || (b == id)))
    → ((id : ℕ) (ids : List ℕ) → blocked_after id ids change ≡ ids) → (x y : Near) → IsMadeAtBoth a b change x y → IsMade change x y
made_of_both a b change named free x y h = record {
  id = h.id;
  links = h.links ∙ sym (ap (λ t. if t then links_after x.links.items change else x.links.items) (named x.id));
  room = h.room;
  blocked = ap (λ (v : Vec ℕ Global). v.items) h.blocked ∙ sym (free x.id x.blocked.items);
  block_room = ap (λ (v : Vec ℕ Global). vec_capacity v) h.blocked;
}

length-with : (new : Link) (links : List Link) → length (with_link new links) ≡ length links + 1
length-with new links = length-insert links (count_by (is_before new) links) new (count_by-le-length (is_before new) links)

length-without : (a b : ℕ) (links : List Link) → length (without_link a b links) ≤ length links
length-without a b links =
    let n : length (without_link a b links) ≡ count_by (λ link. not (joins a b link)) links = length-filter (λ link. not (joins a b link)) links in
    omega (arith, n, count_by-le-length (λ link. not (joins a b link)) links)

-- a change puts one link at most
one_more : (links : List Link) (change : Change) → length (links_after links change) ≤ length links + 1
one_more links (Invite a b) = omega (arith, length-with (invitation a b) links)
one_more links (Accept a b) = omega (arith, length-with (friendship a b) (without_link a b links), length-without a b links)
one_more links (Reject a b) = omega (arith, length-without a b links)
one_more links (Thaw a b) = omega (arith, length-without a b links)
one_more links (Rename a name) = omega arith
one_more links (Block a b) = omega arith

near_more_go : (links : List Link) (change : Change) (b : Bool) → length (if b then links_after links change else links) ≤ length links + 1
near_more_go links change true = one_more links change
near_more_go links change false = omega arith

near_more : (id : ℕ) (links : List Link) (change : Change) → length (near_after id links change) ≤ length links + 1
near_more id links change = near_more_go links change (names id change)

-- room for the first of the changes, and for the rest after it
pub first_of_room : (change : Change) (rest changes : List Change)
    → changes ≡ change ∷ rest → (x : Near) → HasRoomFor changes (length changes) x → HasRoomOf change 1 x
first_of_room change rest [] parts x room e = absurd cc
first_of_room change rest (c ∷ cs) parts x room e =
    let same : c ≡ change = cc in
    let here : (puts c && names x.id c) ≡ true = subst (λ (other : Change). (puts other && names x.id other) ≡ true) (sym same) e in
    let h : length x.links.items + suc (length cs) ≤ vec_capacity x.links =
    room (or_left (puts c && names x.id c) (list_any (λ change. puts change && names x.id change) cs) here) in
    omega (arith, h)

pub rest_of_room : (change : Change) (rest changes : List Change)
    → changes ≡ change ∷ rest → (x y : Near) → IsMade change x y → HasRoomFor changes (length changes) x → HasRoomFor rest (length rest) y
rest_of_room change rest [] parts x y made room e = absurd cc
rest_of_room change rest (c ∷ cs) parts x y made room e =
    let later : cs ≡ rest = cc in
    let P : ℕ → Type 0 = λ n. list_any (λ change. puts change && names n change) rest ≡ true in
    let some : list_any (λ change. puts change && names x.id change) rest ≡ true = subst P made.id e in
    let some_of : list_any (λ change. puts change && names x.id change) cs ≡ true =
    subst (λ (cs : List Change). list_any (λ change. puts change && names x.id change) cs ≡ true) (sym later) some in
    let h : length x.links.items + suc (length cs) ≤ vec_capacity x.links =
    room (or_right (puts c && names x.id c) (list_any (λ change. puts change && names x.id change) cs) some_of) in
    let n : length y.links.items ≡ length (near_after x.id x.links.items change) = ap length made.links in
    let m : length (near_after x.id x.links.items change) ≤ length x.links.items + 1 = near_more x.id x.links.items change in
    omega (arith, h, n, m, made.room, ap length later)

-- changes made one after another
pub made_all_on : (change : Change) (rest changes : List Change)
    → changes ≡ change ∷ rest → (x y z : Near) → IsMade change x y → IsMadeAll rest y z → IsMadeAll changes x z
made_all_on change rest changes parts x y z one others =
    let P : ℕ → Type 0 = λ n. z.links.items ≡ fold (near_after n) y.links.items rest in
    let steps : z.links.items ≡ fold (near_after x.id) y.links.items rest = subst P one.id others.links in
    record {
      id = others.id ∙ one.id;
      links = steps ∙ (ap (λ (ls : List Link). fold (near_after x.id) ls rest) one.links
          ∙ sym (ap (λ (cs : List Change). fold (near_after x.id) x.links.items cs) parts));
      blocked =
          let Q : ℕ → Type 0 = λ n. z.blocked.items ≡ fold (blocked_after n) y.blocked.items rest in
          subst Q one.id others.blocked ∙ (ap (λ (ns : List ℕ). fold (blocked_after x.id) ns rest) one.blocked
          ∙ sym (ap (λ (cs : List Change). fold (blocked_after x.id) x.blocked.items cs) parts));
    }

pub none_made : (changes : List Change) → length changes ≡ 0 → (near : List Near) → AllZip (IsMadeAll changes) near near
none_made [] none near = zip_itself (IsMadeAll []) near (λ k d l. record { id = refl; links = refl; blocked = refl })
none_made (c ∷ cs) none near = absurd (omega arith)

-- members keep their ids
same_ids_go : (id : ℕ) (name : List ℕ) (members : List Member) → map (λ m. m.id) (map (renamed id name) members) ≡ map (λ m. m.id) members
same_ids_go id name [] = refl
same_ids_go id name (m ∷ ms) =
    ap (λ (n : ℕ). n ∷ map (λ m. m.id) (map (renamed id name) ms)) (same_id id name m) ∙ ap (λ (ns : List ℕ). m.id ∷ ns) (same_ids_go id name ms)

pub same_ids_after : (change : Change) (members : List Member) → map (λ m. m.id) (members_after members change) ≡ map (λ m. m.id) members
same_ids_after (Invite a b) members = refl
same_ids_after (Accept a b) members = refl
same_ids_after (Reject a b) members = refl
same_ids_after (Thaw a b) members = refl
same_ids_after (Rename a name) members = same_ids_go a name members
same_ids_after (Block a b) members = refl

pub members_ascend_after : (change : Change) (members after : List Member)
    → after ≡ members_after members change → AllPairs (λ member later. member.id < later.id) members → AllPairs (λ member later. member.id < later.id) after
members_ascend_after change members after made up =
    ascend_alike (λ m. m.id) (λ m. m.id) members after (ap (map (λ m. m.id)) made ∙ same_ids_after change members) up

-- a change with two ends names these
pub named_both : (a b : ℕ) (change : Change) → (change ≡ Invite a b) ⊎ ((change ≡ Accept a b) ⊎ ((change ≡ Reject a b) ⊎ (change ≡ Thaw a b)))
    → (id : ℕ) → names id change ≡ ((a == id) || (b == id))
named_both a b change (inl e) id = ap (names id) e
named_both a b change (inr (inl e)) id = ap (names id) e
named_both a b change (inr (inr (inl e))) id = ap (names id) e
named_both a b change (inr (inr (inr e))) id = ap (names id) e

-- and puts no block
pub free_both : (a b : ℕ) (change : Change) → (change ≡ Invite a b) ⊎ ((change ≡ Accept a b) ⊎ ((change ≡ Reject a b) ⊎ (change ≡ Thaw a b)))
    → (id : ℕ) (ids : List ℕ) → blocked_after id ids change ≡ ids
free_both a b change (inl e) id ids = ap (blocked_after id ids) e
free_both a b change (inr (inl e)) id ids = ap (blocked_after id ids) e
free_both a b change (inr (inr (inl e))) id ids = ap (blocked_after id ids) e
free_both a b change (inr (inr (inr e))) id ids = ap (blocked_after id ids) e

pub same_length : (R : Near → Near → Type 0) (xs ys : List Near) → AllZip R xs ys → length ys ≡ length xs
same_length R xs ys zip = sym (length_all_zip R xs ys zip)
