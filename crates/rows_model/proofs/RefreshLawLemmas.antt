-- The answer before changes, refreshed by them, is the answer after them.
use Rattle.std.proofs.Common.{ℕ, ◌+◌, ◌<◌, ◌≤◌, ◌≡◌, ◌^◌, Bool, true, false, List, [], ◌∷◌, length, get_or, map, filter, find, fold}
use Rattle.std.proofs.Common.{decimal, All, Option, Some, None, IsSome, Ok, Err, refl, sym, ap, subst, ◌∙◌, arith}
use Rattle.std.specs.Prelude.{◌==◌, ◌&&◌, ◌||◌, cond, if◌then◌else◌, option_map}
use Rattle.std.specs.Option.{option_and_then}
use Rattle.std.proofs.lemmas.Bool.{false≢true, and_parts, eqb-true}
use Rattle.std.proofs.lemmas.Bool.Decides.{nat_tests}
use Rattle.std.proofs.lemmas.Option.{same_Some, none-some}
use Rattle.std.proofs.lemmas.List.{get_or-map, length-map}
use Rattle.std.proofs.lemmas.List.Elements.{All-head, All-tail, All-filter}
use Rattle.std.proofs.lemmas.List.Folds.{Any-from_list_any}
use Rattle.rows_model.specs.declared.keys.Kind.{Kind}
use Rattle.rows_model.specs.declared.keys.Kind.TheVariants.{Profile, Friends, Pending, NFriends, NPending, Blocked}
use Rattle.rows_model.specs.declared.rows.LinkState.TheVariants.{Friend}
use Rattle.rows_model.specs.declared.rows.Link.{Link}
use Rattle.rows_model.specs.declared.rows.Member.{Member}
use Rattle.rows_model.specs.declared.changes.Change.{Change}
use Rattle.rows_model.specs.declared.changes.Change.TheVariants.{Invite, Accept, Reject, Thaw, Rename, Block}
use Rattle.rows_model.specs.declared.refreshing.Circle.{Circle}
use Rattle.rows_model.specs.declared.refreshing.Circle.TheVariants.{Befriended, Inviting, Barred}
use Rattle.rows_model.specs.declared.refreshing.Person.{Person}
use Rattle.rows_model.specs.Name.{IsName}
use Rattle.rows_model.specs.Rows.{Tables, Fit, IsMember, joins, member_of, is_friend}
use Rattle.rows_model.specs.Query.{answer, answer_of, friend_count, pending_count, id_list, profile_text, other_end, befriends, invites, is_by}
use Rattle.rows_model.specs.Changes.{applies, changed, apply_from, apply_all, block_of, renamed, HasIds, are_friends, foot_of, has_key, touches}
use Rattle.rows_model.specs.Refresh.{person_in, step_in, listed, counted, after_all, count_after, ids_after, named, person, person_after}
use Rattle.rows_model.specs.Refresh.{person_text, refreshed, refreshed_of, refreshed_profile, refreshed_ids, refreshed_count}
use Rattle.rows_model.specs.RefreshIsAnswer.{RefreshIsAnswer}
use Rattle.rows_model.proofs.FitLemmas.{same_id, found_some, invited_parts, invite_parts}
use Rattle.rows_model.proofs.StayFitLemmas.{Fit-changed}
use Rattle.rows_model.proofs.RefreshTextLemmas.{small_number-decimal, ids_in-id_list, Rises-from_pairs, person_in-person_text, no_dash}
use Rattle.rows_model.proofs.RefreshStepLemmas.{ids_of, count_of, ids_ascend, few_ids, step_listed, step_counted}

-- what one change keeps is kept by changes in turn
abbrev pub Steps : {A : Type 0} → (Change → A → Option A) → (Tables → A) → Type 0
Steps step view =
    (change : Change) (t : Tables) → Fit t → HasIds change → applies change t ≡ true → step change (view t) ≡ Some (view (changed change t))

law_go : {A : Type 0} (step : Change → A → Option A) (view : Tables → A)
    → (place : ℕ) (change : Change) (changes : List Change) (t after : Tables) (b : Bool) → applies change t ≡ b → Fit t → HasIds change
    → Steps step view → (if b then apply_from (place + 1) changes (changed change t) else Err place) ≡ Ok after
    → (Fit (changed change t) → apply_from (place + 1) changes (changed change t) ≡ Ok after
    → after_all step changes (view (changed change t)) ≡ Some (view after))
    → option_and_then (after_all step changes) (step change (view t)) ≡ Some (view after)
law_go step view place change changes t after true takes fit ids steps e rest =
    ap (option_and_then (after_all step changes)) (steps change t fit ids takes) ∙ rest (Fit-changed change t fit ids takes) e
law_go step view place change changes t after false takes fit ids steps e rest = absurd cc

pub law_from : {A : Type 0} (step : Change → A → Option A) (view : Tables → A) → Steps step view → (place : ℕ) (changes : List Change) (t after : Tables)
    → Fit t → All HasIds changes → apply_from place changes t ≡ Ok after → after_all step changes (view t) ≡ Some (view after)
law_from step view steps place [] t after fit ids e =
    let same : t ≡ after = cc in ap (λ (u : Tables). Some (view u)) same
law_from step view steps place (change ∷ changes) t after fit ids e =
    law_go step view place change changes t after (applies change t) refl fit (All-head HasIds change changes ids) steps e
    (λ kept made. law_from step view steps (place + 1) changes (changed change t) after kept (All-tail HasIds change changes ids) made)

-- the ids and the count of a circle
pub ids_law : (circle : Circle) (id : ℕ) (changes : List Change) (t after : Tables) → Fit t → All HasIds changes
    → apply_from 0 changes t ≡ Ok after → ids_after circle id changes (ids_of circle id t) ≡ Some (ids_of circle id after)
ids_law circle id changes t after fit ids e =
    law_from (λ change. listed (step_in circle id change)) (ids_of circle id) (step_listed circle id) 0 changes t after fit ids e

count_law : (circle : Circle) (id : ℕ) (changes : List Change) (t after : Tables) → Fit t → All HasIds changes → apply_from 0 changes t ≡ Ok after
    → count_after circle id changes (count_of circle id t) ≡ Some (count_of circle id after)
count_law circle id changes t after fit ids e =
    law_from (λ change. counted (step_in circle id change)) (count_of circle id) (step_counted circle id) 0 changes t after fit ids e

small_count : (circle : Circle) (id : ℕ) (t : Tables) → Fit t → count_of circle id t < 2 ^ 32
small_count circle id t fit = let few = few_ids circle id t fit in omega (arith, few)

count_refreshed : (circle : Circle) (id : ℕ) (changes : List Change) (t after : Tables) → Fit t → All HasIds changes
    → apply_from 0 changes t ≡ Ok after
    → refreshed_count circle id (decimal (count_of circle id t)) changes ≡ Some (decimal (count_of circle id after))
count_refreshed circle id changes t after fit ids e =
    ap (λ (o : Option ℕ). option_map decimal (option_and_then (count_after circle id changes) o))
    (small_number-decimal (count_of circle id t) (small_count circle id t fit))
    ∙ ap (option_map decimal) (count_law circle id changes t after fit ids e)

-- a member's id is small
id_go : (id : ℕ) (x : Member) (members : List Member) (b : Bool) → (x.id == id) ≡ b → x.id ≤ 100000
    → IsSome (cond b (Some x) (find (λ member. member.id == id) members)) → (IsSome (find (λ member. member.id == id) members) → id ≤ 100000)
    → id ≤ 100000
id_go id x members true e small h rest = let same = eqb-true x.id id e in omega (arith, same, small)
id_go id x members false e small h rest = rest h

found_id : (id : ℕ) (members : List Member) → All (λ member. (1 ≤ member.id) × (member.id ≤ 100000)) members
    → IsSome (find (λ member. member.id == id) members) → id ≤ 100000
found_id id [] all h = absurd (false≢true h)
found_id id (x ∷ members) all h =
    id_go id x members (x.id == id) refl (All-head (λ member. (1 ≤ member.id) × (member.id ≤ 100000)) x members all).1 h
    (found_id id members (All-tail (λ member. (1 ≤ member.id) × (member.id ≤ 100000)) x members all))

small_mapped : {X : Type 0} (e : X) (f : X → ℕ) (xs : List X) → All (λ x. f x ≤ 100000) xs → All (λ n. n < 2 ^ 32) (map f xs)
small_mapped e f xs all = λ k d l.
    let within : k < length xs = omega (arith, length-map xs f) in
    let at : get_or (map f xs) k d ≡ f (get_or xs k e) = get_or-map f xs k e d within in
    let h : f (get_or xs k e) ≤ 100000 = all k e within in
    omega (arith, at, h)

some_link : Link
some_link = record { a = 0; b = 0; state = Friend }

other_go : (b : Bool) (m n : ℕ) → m ≤ 100000 → n ≤ 100000 → (if b then m else n) ≤ 100000
other_go true m n one two = one
other_go false m n one two = two

-- the ids of a circle are small
small_ids : (circle : Circle) (id : ℕ) (t : Tables) → Fit t → All (λ x. x < 2 ^ 32) (ids_of circle id t)
small_ids Befriended id t fit =
    small_mapped some_link (other_end id) (filter (befriends id) t.links)
    (All-filter (befriends id) (λ link. other_end id link ≤ 100000) t.links
    (λ k d l. other_go ((get_or t.links k d).a == id) (get_or t.links k d).b (get_or t.links k d).a
    (found_id (get_or t.links k d).b t.members fit.ids (fit.links_join k d l).to)
    (found_id (get_or t.links k d).a t.members fit.ids (fit.links_join k d l).from)))
small_ids Inviting id t fit =
    small_mapped some_link (λ link. link.a) (filter (invites id) t.links)
    (All-filter (invites id) (λ link. link.a ≤ 100000) t.links
    (λ k d l. found_id (get_or t.links k d).a t.members fit.ids (fit.links_join k d l).from))
small_ids Barred id t fit =
    small_mapped (block_of 0 0) (λ block. block.blocked) (filter (is_by id) t.blocks)
    (All-filter (is_by id) (λ block. block.blocked ≤ 100000) t.blocks
    (λ k d l. found_id (get_or t.blocks k d).blocked t.members fit.ids (fit.blocks_join k d l).to))

ids_refreshed : (circle : Circle) (id : ℕ) (changes : List Change) (t after : Tables) → Fit t → All HasIds changes
    → apply_from 0 changes t ≡ Ok after → refreshed_ids circle id (id_list (ids_of circle id t)) changes ≡ Some (id_list (ids_of circle id after))
ids_refreshed circle id changes t after fit ids e =
    let up = Rises-from_pairs 0 (ids_of circle id t) (ids_ascend circle id t fit) (small_ids circle id t fit) (λ k d l. omega arith) in
    ap (λ (o : Option (List ℕ)). option_map id_list (option_and_then (ids_after circle id changes) o)) (ids_in-id_list (ids_of circle id t) up)
    ∙ ap (option_map id_list) (ids_law circle id changes t after fit ids e)

-- the name of a member, if it is one
abbrev name_in : Option Member → Option (List ℕ)
name_in o = option_map (λ member. member.name) o

abbrev name_of : ℕ → Tables → Option (List ℕ)
name_of id t = name_in (member_of id t)

same_name : (o : Option Member) → name_in o ≡ option_map (λ (name : List ℕ). name) (name_in o)
same_name None = refl
same_name (Some m) = refl

rename_go : (id a : ℕ) (new : List ℕ) (x : Member) (later found : Option Member) (b c : Bool) → (x.id == a) ≡ b → (x.id == id) ≡ c
    → name_in later ≡ option_map (λ name. if a == id then new else name) (name_in found)
    → name_in (cond c (Some (if b then record { id = x.id; name = new } else x)) later)
    ≡ option_map (λ name. if a == id then new else name) (name_in (cond c (Some x) found))
rename_go id a new x later found true true ea ei rest =
    let t : (a == id) ≡ true = grind (arith, nat_tests) in ap (λ (b : Bool). Some (if b then new else x.name)) (sym t)
rename_go id a new x later found false true ea ei rest =
    let t : (a == id) ≡ false = grind (arith, nat_tests) in ap (λ (b : Bool). Some (if b then new else x.name)) (sym t)
rename_go id a new x later found true false ea ei rest = rest
rename_go id a new x later found false false ea ei rest = rest

rename_named : (id a : ℕ) (new : List ℕ) (members : List Member)
    → name_in (find (λ member. member.id == id) (map (renamed a new) members))
    ≡ option_map (λ name. if a == id then new else name) (name_in (find (λ member. member.id == id) members))
rename_named id a new [] = refl
rename_named id a new (x ∷ members) =
    ap (λ (n : ℕ). name_in (cond (n == id) (Some (renamed a new x)) (find (λ member. member.id == id) (map (renamed a new) members)))) (same_id a new x)
    ∙ rename_go id a new x (find (λ member. member.id == id) (map (renamed a new) members)) (find (λ member. member.id == id) members) (x.id == a)
    (x.id == id) refl refl (rename_named id a new members)

step_named : (id : ℕ) (change : Change) (t : Tables) → name_of id (changed change t) ≡ option_map (λ name. named id name change) (name_of id t)
step_named id (Invite a b) t = same_name (member_of id t)
step_named id (Accept a b) t = same_name (member_of id t)
step_named id (Reject a b) t = same_name (member_of id t)
step_named id (Thaw a b) t = same_name (member_of id t)
step_named id (Rename a name) t = rename_named id a name t.members
step_named id (Block a b) t = same_name (member_of id t)

abbrev name_step : ℕ → Change → Option (List ℕ) → Option (Option (List ℕ))
name_step id change o = Some (option_map (λ name. named id name change) o)

names_folded : (id : ℕ) (changes : List Change) (o : Option (List ℕ))
    → after_all (name_step id) changes o ≡ Some (option_map (λ name. fold (named id) name changes) o)
names_folded id [] None = refl
names_folded id [] (Some name) = refl
names_folded id (change ∷ changes) None = names_folded id changes None
names_folded id (change ∷ changes) (Some name) = names_folded id changes (Some (named id name change))

-- the name of a member after changes in turn
names_law : (id : ℕ) (changes : List Change) (t after : Tables) → Fit t → All HasIds changes → apply_from 0 changes t ≡ Ok after
    → name_of id after ≡ option_map (λ name. fold (named id) name changes) (name_of id t)
names_law id changes t after fit ids e =
    let all : after_all (name_step id) changes (name_of id t) ≡ Some (name_of id after) =
    law_from (name_step id) (name_of id)
    (λ change u _ _ _. ap (λ (o : Option (List ℕ)). Some o) (sym (step_named id change u))) 0 changes t after fit ids e in
    same_Some _ _ (sym all ∙ names_folded id changes (name_of id t))

-- a change that applies doesn't touch the profile of no member
none_go : (id i : ℕ) (o : Option Member) (b : Bool) → (id == i) ≡ b → o ≡ None → (id ≡ i → IsSome o) → b ≡ false
none_go id i None true e none h = absurd (false≢true (h (eqb-true id i e)))
none_go id i (Some m) true e none h = absurd (none-some m (sym none))
none_go id i o false e none h = refl

not_member : (id i : ℕ) (t : Tables) → member_of id t ≡ None → IsMember i t → (id == i) ≡ false
not_member id i t none is =
    none_go id i (member_of id t) (id == i) refl none (λ same. subst (λ (n : ℕ). IsMember n t) (sym same) is)

not_first : (id a b : ℕ) (link : Link) → joins a b link ≡ true → (id == link.a) ≡ false → (id == link.b) ≡ false → (id == a) ≡ false
not_first id a b link e one two = grind (arith, nat_tests)

not_second : (id a b : ℕ) (link : Link) → joins a b link ≡ true → (id == link.a) ≡ false → (id == link.b) ≡ false → (id == b) ≡ false
not_second id a b link e one two = grind (arith, nat_tests)

-- two friends are members
not_a_friend : (id a b : ℕ) (t : Tables) → Fit t → member_of id t ≡ None → are_friends a b t ≡ true → ((id == a) ≡ false) × ((id == b) ≡ false)
not_a_friend id a b t fit none takes =
    let w = Any-from_list_any (λ link. is_friend link.state && joins a b link) t.links takes in
    let joined = (and_parts (is_friend w.1.state) (joins a b w.1) w.4).1 in
    let link = get_or t.links w.0 w.1 in
    let at : joins a b link ≡ true = ap (joins a b) w.3 ∙ joined in
    let h = fit.links_join w.0 w.1 w.2 in
    let one = not_member id link.a t none h.from in
    let two = not_member id link.b t none h.to in
    (not_first id a b link at one two, not_second id a b link at one two)

untouched_by : (id : ℕ) (change : Change) (t : Tables) → Fit t
    → applies change t ≡ true → member_of id t ≡ None → has_key (record { kind = Profile; id = id }) (foot_of change) ≡ false
untouched_by id (Invite a b) t fit takes none =
    let two = not_member id b t none (invite_parts a b t takes).to in
    rw two refl
untouched_by id (Accept a b) t fit takes none =
    let h = invited_parts t a b fit takes in
    let one = not_member id a t none h.from in
    let two = not_member id b t none h.to in
    rw (one, two) refl
untouched_by id (Reject a b) t fit takes none =
    let h = invited_parts t a b fit takes in
    let two = not_member id b t none h.to in
    rw two refl
untouched_by id (Thaw a b) t fit takes none =
    let h = not_a_friend id a b t fit none takes in
    rw (h.0, h.1) refl
untouched_by id (Rename a name) t fit takes none =
    let one = not_member id a t none (found_some (λ member. member.id == a) t.members takes) in
    rw one refl
untouched_by id (Block a b) t fit takes none = refl

no_name : (o : Option Member) → name_in o ≡ None → o ≡ None
no_name None e = refl
no_name (Some m) e = absurd (none-some m.name (sym e))

nobody_stays : (id : ℕ) (change : Change) (t : Tables) → member_of id t ≡ None → member_of id (changed change t) ≡ None
nobody_stays id change t none =
    no_name (member_of id (changed change t)) (step_named id change t ∙ ap (λ (o : Option Member). option_map (λ name. named id name change) (name_in o)) none)

nobody_go : (place id : ℕ) (change : Change) (changes : List Change) (t after : Tables) (b : Bool) → applies change t ≡ b → Fit t → HasIds change
    → member_of id t ≡ None → (if b then apply_from (place + 1) changes (changed change t) else Err place) ≡ Ok after
    → (Fit (changed change t) → apply_from (place + 1) changes (changed change t) ≡ Ok after
    → touches changes (record { kind = Profile; id = id }) ≡ false)
    → (has_key (record { kind = Profile; id = id }) (foot_of change) || touches changes (record { kind = Profile; id = id })) ≡ false
nobody_go place id change changes t after true takes fit ids none e rest =
    ap (λ (b : Bool). b || touches changes (record { kind = Profile; id = id })) (untouched_by id change t fit takes none)
    ∙ rest (Fit-changed change t fit ids takes) e
nobody_go place id change changes t after false takes fit ids none e rest = absurd cc

-- nor do several that apply in turn
nobody_touched : (place id : ℕ) (changes : List Change) (t after : Tables) → Fit t → All HasIds changes → member_of id t ≡ None
    → apply_from place changes t ≡ Ok after → touches changes (record { kind = Profile; id = id }) ≡ false
nobody_touched place id [] t after fit ids none e = refl
nobody_touched place id (change ∷ changes) t after fit ids none e =
    nobody_go place id change changes t after (applies change t) refl fit (All-head HasIds change changes ids) none e
    (λ kept made. nobody_touched (place + 1) id changes (changed change t) after kept (All-tail HasIds change changes ids)
    (nobody_stays id change t none) made)

found_go : (P : Member → Type 0) (x m : Member) (xs : List Member) (id : ℕ) (b : Bool) → P x
    → cond b (Some x) (find (λ member. member.id == id) xs) ≡ Some m → (find (λ member. member.id == id) xs ≡ Some m → P m) → P m
found_go P x m xs id true here e rest = subst P (same_Some x m e) here
found_go P x m xs id false here e rest = rest e

found_name : (members : List Member) (id : ℕ) (m : Member) → All (λ member. IsName member.name) members
    → find (λ member. member.id == id) members ≡ Some m → IsName m.name
found_name [] id m all e = absurd (none-some m e)
found_name (x ∷ members) id m all e =
    found_go (λ member. IsName member.name) x m members id (x.id == id) (All-head (λ member. IsName member.name) x members all) e
    (found_name members id m (All-tail (λ member. IsName member.name) x members all))

profile_is : (o : Option Member) (one : Person) → name_in o ≡ Some one.name → profile_text o one.friends one.pending ≡ person_text one
profile_is None one e = absurd (none-some one.name e)
profile_is (Some m) one e =
    ap (λ (name : List ℕ). person_text (record { name = name; friends = one.friends; pending = one.pending })) (same_Some m.name one.name e)

-- the profile of a member
someone_refreshed : (id : ℕ) (m : Member) (changes : List Change) (t after : Tables) → Fit t → All HasIds changes → apply_from 0 changes t ≡ Ok after
    → member_of id t ≡ Some m → refreshed_profile id (profile_text (Some m) (friend_count id t) (pending_count id t)) changes
    ≡ Some (profile_text (member_of id after) (friend_count id after) (pending_count id after))
someone_refreshed id m changes t after fit ids e is =
    let one : Person = record { name = m.name; friends = friend_count id t; pending = pending_count id t } in
    let name = fold (named id) m.name changes in
    let new : Person = record { name = name; friends = friend_count id after; pending = pending_count id after } in
    let is_name : IsName m.name = found_name t.members id m fit.names is in
    let after_name : name_of id after ≡ Some name =
    names_law id changes t after fit ids e ∙ ap (λ (o : Option Member). option_map (λ n. fold (named id) n changes) (name_in o)) is in
    ap (λ (b : Bool). if b then (if touches changes (record { kind = Profile; id = id }) then None else Some
    (person_text one)) else option_map person_text (option_and_then (person_after id changes) (person_in (person_text one))))
    (no_dash one is_name)
    ∙ (ap (λ (o : Option Person). option_map person_text (option_and_then (person_after id changes) o))
    (person_in-person_text one is_name (small_count Befriended id t fit) (small_count Inviting id t fit))
    ∙ (ap (λ (o : Option ℕ). option_map person_text (person name o (count_after Inviting id changes (pending_count id t))))
    (count_law Befriended id changes t after fit ids e)
    ∙ (ap (λ (o : Option ℕ). option_map person_text (person name (Some (friend_count id after)) o)) (count_law Inviting id changes t after fit ids e)
    ∙ ap (λ (text : List ℕ). Some text) (sym (profile_is (member_of id after) new after_name)))))

profile_go : (id : ℕ) (changes : List Change) (t after : Tables) (o : Option Member) → Fit t → All HasIds changes → apply_from 0 changes t ≡ Ok after
    → member_of id t ≡ o → refreshed_profile id (profile_text o (friend_count id t) (pending_count id t)) changes
    ≡ Some (profile_text (member_of id after) (friend_count id after) (pending_count id after))
profile_go id changes t after None fit ids e none =
    let gone : member_of id after ≡ None =
    no_name (member_of id after)
    (names_law id changes t after fit ids e ∙ ap (λ (o : Option Member). option_map (λ n. fold (named id) n changes) (name_in o)) none) in
    ap (λ (b : Bool). if b then None else Some (45 ∷ [])) (nobody_touched 0 id changes t after fit ids none e)
    ∙ ap (λ (o : Option Member). Some (profile_text o (friend_count id after) (pending_count id after))) (sym gone)
profile_go id changes t after (Some m) fit ids e is = someone_refreshed id m changes t after fit ids e is

kind_law : (kind : Kind) (id : ℕ) (changes : List Change) (t after : Tables) → Fit t → All HasIds changes → apply_from 0 changes t ≡ Ok after
    → refreshed_of kind id (answer_of kind id t) changes ≡ Some (answer_of kind id after)
kind_law Profile id changes t after fit ids e = profile_go id changes t after (member_of id t) fit ids e refl
kind_law Friends id changes t after fit ids e = ids_refreshed Befriended id changes t after fit ids e
kind_law Pending id changes t after fit ids e = ids_refreshed Inviting id changes t after fit ids e
kind_law NFriends id changes t after fit ids e = count_refreshed Befriended id changes t after fit ids e
kind_law NPending id changes t after fit ids e = count_refreshed Inviting id changes t after fit ids e
kind_law Blocked id changes t after fit ids e = ids_refreshed Barred id changes t after fit ids e

pub refreshed_is : RefreshIsAnswer
unfolding apply_all answer refreshed
refreshed_is key changes before after fit ids e = kind_law key.kind key.id changes before after fit ids e
