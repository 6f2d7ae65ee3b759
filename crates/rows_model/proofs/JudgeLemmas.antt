-- Changes in turn, told one by one: what stands after them, and whether the next applies.
use Rattle.std.proofs.Common.{ℕ, suc, ◌+◌, ◌<◌, ◌≡◌, ◌≢◌, Bool, true, false, not, List, [], ◌∷◌, ◌++◌, length, get_or, take, drop, map}
use Rattle.std.proofs.Common.{take-append-drop, drop-cons, length-take, filter, find, fold, All, AllPairs, Option, Some, None, Result, Ok}
use Rattle.std.proofs.Common.{Err, Bor, inl, inr, refl, sym, ap, subst, ◌∙◌, arith}
use Rattle.std.specs.Prelude.{count_by, ◌==◌, ◌&&◌, ◌||◌, nat_lt, cond, if◌then◌else◌, ◌⊎◌}
use Rattle.std.specs.List.{list_any}
use Rattle.std.specs.Option.{is_some, option_copied}
use Rattle.std.proofs.lemmas.Bool.{false≢true}
use Rattle.std.proofs.lemmas.Bool.Decides.{nat_tests}
use Rattle.std.proofs.lemmas.List.{take_more}
use Rattle.std.proofs.lemmas.List.Elements.{All-nil, All-cons, All-head, All-tail}
use Rattle.std.proofs.lemmas.List.Edits.{length-insert}
use Rattle.std.proofs.lemmas.List.Folds.{fold_stays, Any-from_list_any}
use Rattle.std.proofs.lemmas.List.Sums.{count_by-le-length}
use Rattle.std.proofs.lemmas.Map.Views.{any-filter_same}
use Rattle.rows_model.specs.declared.rows.Link.{Link}
use Rattle.rows_model.specs.declared.rows.Member.{Member}
use Rattle.rows_model.specs.declared.judging.Bond.{Bond}
use Rattle.rows_model.specs.declared.judging.Bond.TheVariants.{Any, Invitation, Friendship}
use Rattle.rows_model.specs.declared.changes.Change.{Change}
use Rattle.rows_model.specs.declared.changes.Change.TheVariants.{Invite, Accept, Reject, Thaw, Rename, Block}
use Rattle.rows_model.specs.Rows.{Tables, Fit, IsLink, joins}
use Rattle.rows_model.specs.Changes.{HasIds, is_before, with_link, without_link, invitation, friendship, is_block_before, block_of, renamed}
use Rattle.rows_model.specs.Changes.{is_member, is_linked, is_invited, has_blocked, applies, changed, apply_from, apply_all}
use Rattle.rows_model.specs.Query.{is_by, blocked_ids}
use Rattle.rows_model.specs.Refresh.{has_id}
use Rattle.rows_model.specs.Near.{AreTwo, links_after, blocks_after, members_after}
use Rattle.rows_model.specs.Judge.{bonds, still_bonds, adds, ends, is_block_of, adds_block}
use Rattle.rows_model.proofs.FitLemmas.{pairs_head, pairs_tail, count_cons, same_id, any-insert, invite_parts}
use Rattle.rows_model.proofs.IndexLemmas.{bond_joins}
use Rattle.rows_model.proofs.FootprintLemmas.{or_assoc}
use Rattle.rows_model.proofs.RefreshStepLemmas.{any_implied, has_mapped}
use Rattle.rows_model.proofs.ApplyLemmas.{apply_all_is}
use Rattle.rows_model.proofs.StayFitLemmas.{Fit-changed}

-- what is told of the tables step by step is told of them after changes in turn
walk_go : {A : Type 0} (step : A → Change → A) (view : Tables → A) (place : ℕ) (change : Change) (changes : List Change) (t after : Tables) (b : Bool)
    → applies change t ≡ b → Fit t → HasIds change
    → (if b then apply_from (place + 1) changes (changed change t) else Err place) ≡ Ok after
    → (Fit (changed change t) → apply_from (place + 1) changes (changed change t) ≡ Ok after → view after ≡ fold step (step (view t) change) changes)
    → view after ≡ fold step (step (view t) change) changes
walk_go step view place change changes t after true takes fit ids e rest = rest (Fit-changed change t fit ids takes) e
walk_go step view place change changes t after false takes fit ids e rest = absurd cc

pub walked : {A : Type 0} (step : A → Change → A) (view : Tables → A)
    → ((change : Change) (t : Tables) → Fit t → view (changed change t) ≡ step (view t) change)
    → (place : ℕ) (changes : List Change) (t after : Tables) → Fit t
    → All HasIds changes → apply_from place changes t ≡ Ok after → view after ≡ fold step (view t) changes
walked step view is_so place [] t after fit ids e =
    let same : t ≡ after = cc in ap view (sym same)
walked step view same place (change ∷ changes) t after fit ids e =
    walk_go step view place change changes t after (applies change t) refl fit (All-head HasIds change changes ids) e
    (λ kept made. walked step view same (place + 1) changes (changed change t) after kept (All-tail HasIds change changes ids) made
    ∙ ap (λ (v : _). fold step v changes) (same change t fit))

-- the three parts of the tables
pub links_changed : (change : Change) (t : Tables) → (changed change t).links ≡ links_after t.links change
links_changed (Invite a b) t = refl
links_changed (Accept a b) t = refl
links_changed (Reject a b) t = refl
links_changed (Thaw a b) t = refl
links_changed (Rename a name) t = refl
links_changed (Block a b) t = refl

pub members_changed : (change : Change) (t : Tables) → (changed change t).members ≡ members_after t.members change
members_changed (Invite a b) t = refl
members_changed (Accept a b) t = refl
members_changed (Reject a b) t = refl
members_changed (Thaw a b) t = refl
members_changed (Rename a name) t = refl
members_changed (Block a b) t = refl

pub blocks_changed : (change : Change) (t : Tables) → (changed change t).blocks ≡ blocks_after t.blocks change
blocks_changed (Invite a b) t = refl
blocks_changed (Accept a b) t = refl
blocks_changed (Reject a b) t = refl
blocks_changed (Thaw a b) t = refl
blocks_changed (Rename a name) t = refl
blocks_changed (Block a b) t = refl

-- a bond of two members after a change of them, or of others
same_two : (a b c d : ℕ) (link : Link) → joins a b link ≡ true → not (joins c d link) ≡ not (joins a b (invitation c d))
same_two a b c d link e = grind (arith, nat_tests)

bond_parted : (bond : Bond) (a b c d : ℕ) (links : List Link)
    → list_any (bonds bond a b) (without_link c d links) ≡ (not (joins a b (invitation c d)) && list_any (bonds bond a b) links)
bond_parted bond a b c d links =
    any-filter_same (bonds bond a b) (λ link. not (joins c d link))
    (not (joins a b (invitation c d))) (λ link e. same_two a b c d link (bond_joins bond a b link e)) links

bond_put : (bond : Bond) (a b : ℕ) (new : Link) (links : List Link)
    → list_any (bonds bond a b) (with_link new links) ≡ (list_any (bonds bond a b) links || bonds bond a b new)
bond_put bond a b new links = any-insert (bonds bond a b) links (count_by (is_before new) links) new

bond_step : (bond : Bond) (a b : ℕ) (change : Change) (t : Tables)
    → list_any (bonds bond a b) (changed change t).links ≡ still_bonds bond a b (list_any (bonds bond a b) t.links) change
bond_step bond a b (Invite c d) t = bond_put bond a b (invitation c d) t.links
bond_step bond a b (Accept c d) t =
    bond_put bond a b (friendship c d) (without_link c d t.links) ∙ ap (λ s. s || bonds bond a b (friendship c d)) (bond_parted bond a b c d t.links)
bond_step bond a b (Reject c d) t = bond_parted bond a b c d t.links
bond_step bond a b (Thaw c d) t = bond_parted bond a b c d t.links
bond_step bond a b (Rename c name) t = refl
bond_step bond a b (Block c d) t = refl

pub bonds_after : (bond : Bond) (a b place : ℕ) (changes : List Change) (t after : Tables) → Fit t → All HasIds changes
    → apply_from place changes t ≡ Ok after → list_any (bonds bond a b) after.links ≡ fold (still_bonds bond a b) (list_any (bonds bond a b) t.links) changes
bonds_after bond a b place changes t after fit ids e =
    walked (still_bonds bond a b) (λ u. list_any (bonds bond a b) u.links) (λ change u h. bond_step bond a b change u) place changes t after fit ids e

-- who is a member stays
members_stay_go : (id c : ℕ) (name : List ℕ) (members : List Member)
    → list_any (λ m. m.id == id) (map (renamed c name) members) ≡ list_any (λ m. m.id == id) members
members_stay_go id c name [] = refl
members_stay_go id c name (m ∷ ms) =
    ap (λ (n : ℕ). (n == id) || list_any (λ m. m.id == id) (map (renamed c name) ms)) (same_id c name m)
    ∙ ap (λ s. (m.id == id) || s) (members_stay_go id c name ms)

member_step : (id : ℕ) (change : Change) (t : Tables) → is_member id (changed change t) ≡ is_member id t
member_step id (Invite a b) t = refl
member_step id (Accept a b) t = refl
member_step id (Reject a b) t = refl
member_step id (Thaw a b) t = refl
member_step id (Rename a name) t = members_stay_go id a name t.members
member_step id (Block a b) t = refl

pub members_stay : (id place : ℕ) (changes : List Change) (t after : Tables)
    → Fit t → All HasIds changes → apply_from place changes t ≡ Ok after → is_member id after ≡ is_member id t
members_stay id place changes t after fit ids e =
    walked (λ (b : Bool) (change : Change). b) (λ u. is_member id u) (λ change u h. member_step id change u) place changes t after fit ids e
    ∙ fold_stays (λ (b : Bool) (change : Change). b) (is_member id t) (λ change. refl) changes

-- a member that is found is there
found_go : {X : Type 0} (p : X → Bool) (x : X) (xs : List X) (b : Bool)
    → is_some (find p xs) ≡ list_any p xs → is_some (cond b (Some x) (find p xs)) ≡ (b || list_any p xs)
found_go p x xs true rest = refl
found_go p x xs false rest = rest

pub is_some-find : {X : Type 0} (p : X → Bool) (xs : List X) → is_some (find p xs) ≡ list_any p xs
is_some-find p [] = refl
is_some-find p (x ∷ xs) = found_go p x xs (p x) (is_some-find p xs)

pub is_some-copied : {X : Type 0} (o : Option (Bor X)) → is_some (option_copied o) ≡ is_some o
is_some-copied (Some x) = refl
is_some-copied None = refl

-- two members with a link between them differ
joined_differ : (t : Tables) (a b : ℕ) (p : Link → Bool) → Fit t → ((link : Link) → p link ≡ true → joins a b link ≡ true) → list_any p t.links ≡ true → a ≢ b
joined_differ t a b p fit joined e same =
    let w = Any-from_list_any p t.links e in
    let at : IsLink t (get_or t.links w.0 w.1) = fit.links_join w.0 w.1 w.2 in
    let h : IsLink t w.1 = subst (IsLink t) w.3 at in
    let differ : w.1.a ≢ w.1.b = h.different in
    let j : joins a b w.1 ≡ true = joined w.1 w.4 in
    let both : w.1.a ≡ w.1.b = grind (arith, nat_tests) in
    differ both

two_in : (change : Change) (t : Tables) → Fit t → applies change t ≡ true → AreTwo change
two_in (Invite a b) t fit e = (invite_parts a b t e).differ
two_in (Accept a b) t fit e = joined_differ t a b (bonds Invitation a b) fit (bond_joins Invitation a b) e
two_in (Reject a b) t fit e = joined_differ t a b (bonds Invitation a b) fit (bond_joins Invitation a b) e
two_in (Thaw a b) t fit e = joined_differ t a b (bonds Friendship a b) fit (bond_joins Friendship a b) e
two_in (Rename a name) t fit e = tt
two_in (Block a b) t fit e = tt

-- changes that apply in turn name two members each
two_go : (place : ℕ) (change : Change) (changes : List Change) (t after : Tables) (b : Bool)
    → applies change t ≡ b → Fit t → HasIds change → (if b then apply_from (place + 1) changes (changed change t) else Err place) ≡ Ok after
    → (Fit (changed change t) → apply_from (place + 1) changes (changed change t) ≡ Ok after → All AreTwo changes) → All AreTwo (change ∷ changes)
two_go place change changes t after true takes fit ids e rest =
    All-cons AreTwo change changes (two_in change t fit takes) (rest (Fit-changed change t fit ids takes) e)
two_go place change changes t after false takes fit ids e rest = absurd cc

pub all_two : (place : ℕ) (changes : List Change) (t after : Tables) → Fit t → All HasIds changes → apply_from place changes t ≡ Ok after → All AreTwo changes
all_two place [] t after fit ids e = All-nil AreTwo
all_two place (change ∷ changes) t after fit ids e =
    two_go place change changes t after (applies change t) refl fit (All-head HasIds change changes ids) e
    (λ kept made. all_two (place + 1) changes (changed change t) after kept (All-tail HasIds change changes ids) made)

-- a filter that all elements pass
filter_all : {X : Type 0} (p : X → Bool) (xs : List X) → All (λ x. p x ≡ true) xs → filter p xs ≡ xs
filter_all p [] all = refl
filter_all {X} p (x ∷ xs) all =
    ap (λ b. cond b (x ∷ filter p xs) (filter p xs)) (All-head (λ y. p y ≡ true) x xs all)
    ∙ ap (λ (ys : List X). x ∷ ys) (filter_all p xs (All-tail (λ y. p y ≡ true) x xs all))

joins_once : (a b : ℕ) (link later : Link) → joins later.a later.b link ≡ false → joins a b link ≡ true → joins a b later ≡ false
joins_once a b link later h e = grind (arith, nat_tests)

-- without their one link there is one less
one_less_go : (a b : ℕ) (x : Link) (xs : List Link) (c : Bool)
    → joins a b x ≡ c → All (λ later. joins later.a later.b x ≡ false) xs → (c || list_any (joins a b) xs) ≡ true
    → (list_any (joins a b) xs ≡ true → length (without_link a b xs) + 1 ≡ length xs)
    → length (cond (not c) (x ∷ without_link a b xs) (without_link a b xs)) + 1 ≡ suc (length xs)
one_less_go a b x xs true ec apart e rest =
    let all : All (λ y. not (joins a b y) ≡ true) xs = λ k d l. ap not (joins_once a b x (get_or xs k d) (apart k d l) ec) in
    omega (arith, ap length (filter_all (λ y. not (joins a b y)) xs all))
one_less_go a b x xs false ec apart e rest = omega (arith, rest e)

one_less : (a b : ℕ) (links : List Link) → AllPairs (λ link later. joins later.a later.b link ≡ false) links
    → list_any (joins a b) links ≡ true → length (without_link a b links) + 1 ≡ length links
one_less a b [] apart e = absurd (false≢true e)
one_less a b (x ∷ xs) apart e =
    let R : Link → Link → Type 0 = λ link later. joins later.a later.b link ≡ false in
    one_less_go a b x xs (joins a b x) refl (pairs_head R x xs apart) e (one_less a b xs (pairs_tail R x xs apart))

any_of_bond : (bond : Bond) (a b : ℕ) (links : List Link) → list_any (bonds bond a b) links ≡ true → list_any (joins a b) links ≡ true
any_of_bond bond a b links e = any_implied (bonds bond a b) (joins a b) links (bond_joins bond a b) e

length-with : (new : Link) (links : List Link) → length (with_link new links) ≡ length links + 1
length-with new links = length-insert links (count_by (is_before new) links) new (count_by-le-length (is_before new) links)

-- how many links there are after a change that applies
count_step : (change : Change) (t : Tables) → Fit t → applies change t ≡ true
    → length (changed change t).links + cond (ends change) 1 0 ≡ length t.links + cond (adds change) 1 0
count_step (Invite a b) t fit e = omega (arith, length-with (invitation a b) t.links)
count_step (Accept a b) t fit e =
    let less = one_less a b t.links fit.one_link (any_of_bond Invitation a b t.links e) in
    omega (arith, length-with (friendship a b) (without_link a b t.links), less)
count_step (Reject a b) t fit e =
    let less = one_less a b t.links fit.one_link (any_of_bond Invitation a b t.links e) in omega (arith, less)
count_step (Thaw a b) t fit e =
    let less = one_less a b t.links fit.one_link (any_of_bond Friendship a b t.links e) in omega (arith, less)
count_step (Rename a name) t fit e = omega arith
count_step (Block a b) t fit e = omega arith

count_go : (place : ℕ) (change : Change) (changes : List Change) (t after : Tables) (b : Bool)
    → applies change t ≡ b → Fit t → HasIds change → (if b then apply_from (place + 1) changes (changed change t) else Err place) ≡ Ok after
    → (Fit (changed change t) → apply_from (place + 1) changes (changed change t) ≡ Ok after
    → length after.links + count_by ends changes ≡ length (changed change t).links + count_by adds changes)
    → length after.links + count_by ends (change ∷ changes) ≡ length t.links + count_by adds (change ∷ changes)
count_go place change changes t after true takes fit ids e rest =
    let later = rest (Fit-changed change t fit ids takes) e in
    omega (arith, later, count_step change t fit takes, count_cons ends change changes, count_cons adds change changes)
count_go place change changes t after false takes fit ids e rest = absurd cc

pub links_counted : (place : ℕ) (changes : List Change) (t after : Tables)
    → Fit t → All HasIds changes → apply_from place changes t ≡ Ok after → length after.links + count_by ends changes ≡ length t.links + count_by adds changes
links_counted place [] t after fit ids e =
    let same : t ≡ after = cc in
    let n : length t.links ≡ length after.links = ap (λ (u : Tables). length u.links) same in
    omega (arith, n)
links_counted place (change ∷ changes) t after fit ids e =
    count_go place change changes t after (applies change t) refl fit (All-head HasIds change changes ids) e
    (λ kept made. links_counted (place + 1) changes (changed change t) after kept (All-tail HasIds change changes ids) made)

-- whether the next change applies
few_alike : (n m adding ending : ℕ) → n + ending ≡ m + adding → nat_lt (m + adding) (1000000 + ending) ≡ nat_lt n 1000000
few_alike n m adding ending e = grind (arith, nat_tests)

-- blocks among those of a member
pub blocked_is : (a b : ℕ) (t : Tables) → has_id b (blocked_ids a t) ≡ has_blocked a b t
blocked_is a b t = has_mapped (λ block. block.blocked) (is_by a) b t.blocks

or_none : (s : Bool) → s ≡ (s || false)
or_none true = refl
or_none false = refl

-- a block after a change stood before it or is made by it
blocked_step : (a b : ℕ) (change : Change) (t : Tables) → has_blocked a b (changed change t) ≡ (has_blocked a b t || is_block_of a b change)
blocked_step a b (Invite c d) t = or_none (has_blocked a b t)
blocked_step a b (Accept c d) t = or_none (has_blocked a b t)
blocked_step a b (Reject c d) t = or_none (has_blocked a b t)
blocked_step a b (Thaw c d) t = or_none (has_blocked a b t)
blocked_step a b (Rename c name) t = or_none (has_blocked a b t)
blocked_step a b (Block c d) t =
    any-insert (λ block. (block.blocker == a) && (block.blocked == b)) t.blocks (count_by (is_block_before (block_of c d)) t.blocks) (block_of c d)

any_folded : {X : Type 0} (p : X → Bool) (xs : List X) (s : Bool) → fold (λ stood x. stood || p x) s xs ≡ (s || list_any p xs)
any_folded p [] s = or_none s
any_folded p (x ∷ xs) s = any_folded p xs (s || p x) ∙ or_assoc s (p x) (list_any p xs)

blocked_then : (a b place : ℕ) (changes : List Change) (t after : Tables) → Fit t → All HasIds changes
    → apply_from place changes t ≡ Ok after → has_blocked a b after ≡ (has_blocked a b t || list_any (is_block_of a b) changes)
blocked_then a b place changes t after fit ids e =
    walked (λ (stood : Bool) (change : Change). stood || is_block_of a b change) (has_blocked a b)
    (λ change u h. blocked_step a b change u) place changes t after fit ids e
    ∙ any_folded (is_block_of a b) changes (has_blocked a b t)

-- how many blocks there are after changes
block_count_step : (change : Change) (t : Tables) → length (changed change t).blocks ≡ length t.blocks + cond (adds_block change) 1 0
block_count_step (Invite a b) t = omega arith
block_count_step (Accept a b) t = omega arith
block_count_step (Reject a b) t = omega arith
block_count_step (Thaw a b) t = omega arith
block_count_step (Rename a name) t = omega arith
block_count_step (Block a b) t =
    length-insert t.blocks (count_by (is_block_before (block_of a b)) t.blocks) (block_of a b) (count_by-le-length (is_block_before (block_of a b)) t.blocks)

counted_folded : (changes : List Change) (n : ℕ) → fold (λ k change. k + cond (adds_block change) 1 0) n changes ≡ n + count_by adds_block changes
counted_folded [] n = omega arith
counted_folded (change ∷ changes) n =
    let more : n + cond (adds_block change) 1 0 + count_by adds_block changes ≡ n + count_by adds_block (change ∷ changes) =
    omega (arith, count_cons adds_block change changes) in
    counted_folded changes (n + cond (adds_block change) 1 0) ∙ more

pub blocks_counted : (place : ℕ) (changes : List Change) (t after : Tables)
    → Fit t → All HasIds changes → apply_from place changes t ≡ Ok after → length after.blocks ≡ length t.blocks + count_by adds_block changes
blocks_counted place changes t after fit ids e =
    walked (λ (n : ℕ) (change : Change). n + cond (adds_block change) 1 0) (λ u. length u.blocks)
    (λ change u h. block_count_step change u) place changes t after fit ids e
    ∙ counted_folded changes (length t.blocks)

-- tests of the same outcomes
same_invite : (d m n l x y f m1 n1 l1 x1 y1 f1 : Bool) → m ≡ m1 → n ≡ n1 → l ≡ l1 → x ≡ x1 → y ≡ y1 → f ≡ f1
    → (d && m && n && not l && not x && not y && f) ≡ (d && m1 && n1 && not l1 && not x1 && not y1 && f1)
same_invite d m n l x y f m1 n1 l1 x1 y1 f1 em en el ex ey ef = cc

same_block : (d m n l x f m1 n1 l1 x1 f1 : Bool) → m ≡ m1 → n ≡ n1 → l ≡ l1 → x ≡ x1 → f ≡ f1
    → (d && m && n && not l && not x && f) ≡ (d && m1 && n1 && not l1 && not x1 && f1)
same_block d m n l x f m1 n1 l1 x1 f1 em en el ex ef = cc

pub invite_judged : (a b count : ℕ) (earlier : List Change) (t after : Tables) (r : Bool)
    → Fit t → All HasIds earlier → count ≡ length t.links → apply_all earlier t ≡ Ok after
    → r ≡ (not (a == b) && is_member a t && is_member b t && not (fold (still_bonds Any a b) (list_any (joins a b) t.links) earlier)
    && not (has_blocked a b t || list_any (is_block_of a b) earlier) && not (has_blocked b a t || list_any (is_block_of b a) earlier)
    && nat_lt (count + count_by adds earlier) (1000000 + count_by ends earlier))
    → r ≡ applies (Invite a b) after
invite_judged a b count earlier t after r fit ids counted e is =
    let made = sym (apply_all_is earlier t) ∙ e in
    let n : length after.links + count_by ends earlier ≡ count + count_by adds earlier =
    links_counted 0 earlier t after fit ids made ∙ ap (λ (k : ℕ). k + count_by adds earlier) (sym counted) in
    is ∙ same_invite (not (a == b)) _ _ _ _ _ _ (is_member a after) (is_member b after) (is_linked a b after)
    (has_blocked a b after) (has_blocked b a after) (nat_lt (length after.links) 1000000)
    (sym (members_stay a 0 earlier t after fit ids made))
    (sym (members_stay b 0 earlier t after fit ids made)) (sym (bonds_after Any a b 0 earlier t after fit ids made))
    (sym (blocked_then a b 0 earlier t after fit ids made)) (sym (blocked_then b a 0 earlier t after fit ids made))
    (few_alike (length after.links) count (count_by adds earlier) (count_by ends earlier) n)

pub block_judged : (a b blocks : ℕ) (earlier : List Change) (t after : Tables) (r : Bool)
    → Fit t → All HasIds earlier → blocks ≡ length t.blocks → apply_all earlier t ≡ Ok after
    → r ≡ (not (a == b) && is_member a t && is_member b t && not (fold (still_bonds Any a b) (list_any (joins a b) t.links) earlier)
    && not (has_blocked a b t || list_any (is_block_of a b) earlier) && nat_lt (blocks + count_by adds_block earlier) 1000000)
    → r ≡ applies (Block a b) after
block_judged a b blocks earlier t after r fit ids counted e is =
    let made = sym (apply_all_is earlier t) ∙ e in
    let n : blocks + count_by adds_block earlier ≡ length after.blocks =
    ap (λ (k : ℕ). k + count_by adds_block earlier) counted ∙ sym (blocks_counted 0 earlier t after fit ids made) in
    is ∙ same_block (not (a == b)) _ _ _ _ _ (is_member a after) (is_member b after) (is_linked a b after)
    (has_blocked a b after) (nat_lt (length after.blocks) 1000000)
    (sym (members_stay a 0 earlier t after fit ids made))
    (sym (members_stay b 0 earlier t after fit ids made)) (sym (bonds_after Any a b 0 earlier t after fit ids made))
    (sym (blocked_then a b 0 earlier t after fit ids made)) (ap (λ (k : ℕ). nat_lt k 1000000) n)

pub bond_judged : (bond : Bond) (a b : ℕ) (earlier : List Change) (t after : Tables) (r : Bool) → Fit t → All HasIds earlier
    → apply_all earlier t ≡ Ok after → r ≡ fold (still_bonds bond a b) (list_any (bonds bond a b) t.links) earlier → r ≡ list_any (bonds bond a b) after.links
bond_judged bond a b earlier t after r fit ids e is =
    is ∙ sym (bonds_after bond a b 0 earlier t after fit ids (sym (apply_all_is earlier t) ∙ e))

pub rename_judged : (a : ℕ) (earlier : List Change) (t after : Tables) (r : Bool)
    → Fit t → All HasIds earlier → apply_all earlier t ≡ Ok after → r ≡ is_member a t → r ≡ is_member a after
rename_judged a earlier t after r fit ids e is = is ∙ sym (members_stay a 0 earlier t after fit ids (sym (apply_all_is earlier t) ∙ e))

-- changes in two parts
append_go : (place : ℕ) (x : Change) (xs ys : List Change) (t mid : Tables) (b : Bool)
    → (if b then apply_from (place + 1) xs (changed x t) else Err place) ≡ Ok mid
    → (apply_from (place + 1) xs (changed x t) ≡ Ok mid → apply_from (place + 1) (xs ++ ys) (changed x t) ≡ apply_from (place + 1 + length xs) ys mid)
    → (if b then apply_from (place + 1) (xs ++ ys) (changed x t) else Err place) ≡ apply_from (place + suc (length xs)) ys mid
append_go place x xs ys t mid true e rest =
    let n : place + 1 + length xs ≡ place + suc (length xs) = omega arith in
    rest e ∙ ap (λ (k : ℕ). apply_from k ys mid) n
append_go place x xs ys t mid false e rest = absurd cc

applied_append : (place : ℕ) (xs ys : List Change) (t mid : Tables)
    → apply_from place xs t ≡ Ok mid → apply_from place (xs ++ ys) t ≡ apply_from (place + length xs) ys mid
applied_append place [] ys t mid e =
    let same : t ≡ mid = cc in
    let n : place ≡ place + 0 = omega arith in
    ap (λ (u : Tables). apply_from place ys u) same ∙ ap (λ (k : ℕ). apply_from k ys mid) n
applied_append place (x ∷ xs) ys t mid e =
    append_go place x xs ys t mid (applies x t) e (applied_append (place + 1) xs ys (changed x t) mid)

-- one more change that applies, and the first that doesn't
pub one_more_applies : (changes : List Change) (i : ℕ) (d : Change) (t mid : Tables) → i < length changes
    → apply_all (take i changes) t ≡ Ok mid → applies (get_or changes i d) mid ≡ true
    → apply_all (take (i + 1) changes) t ≡ Ok (changed (get_or changes i d) mid)
one_more_applies changes i d t mid l e takes =
    let change = get_or changes i d in
    let made = sym (apply_all_is (take i changes) t) ∙ e in
    apply_all_is (take (i + 1) changes) t
    ∙ (ap (λ (cs : List Change). apply_from 0 cs t) (take_more changes i d l)
    ∙ (applied_append 0 (take i changes) (change ∷ []) t mid made
    ∙ ap (λ b. if b then Ok (changed change mid) else Err (0 + length (take i changes))) takes))

pub first_fails : (changes : List Change) (i : ℕ) (d : Change) (t mid : Tables)
    → i < length changes → apply_all (take i changes) t ≡ Ok mid → applies (get_or changes i d) mid ≡ false → apply_all changes t ≡ Err i
first_fails changes i d t mid l e refused =
    let change = get_or changes i d in
    let made = sym (apply_all_is (take i changes) t) ∙ e in
    let whole : changes ≡ take i changes ++ (change ∷ drop (suc i) changes) =
    sym (take-append-drop i changes) ∙ ap (λ (cs : List Change). take i changes ++ cs) (drop-cons changes i d l) in
    let n : 0 + length (take i changes) ≡ i = omega (arith, length-take i changes) in
    apply_all_is changes t
    ∙ (ap (λ (cs : List Change). apply_from 0 cs t) whole
    ∙ (applied_append 0 (take i changes) (change ∷ drop (suc i) changes) t mid made
    ∙ (ap (λ b. if b then apply_from (0 + length (take i changes) + 1)
    (drop (suc i) changes) (changed change mid) else Err (0 + length (take i changes))) refused
    ∙ ap (λ (k : ℕ). (let r : Result Tables ℕ = Err k in r)) n)))

-- an acceptance and a rejection ask the same
pub accept_or_reject : (a b : ℕ) (change : Change) (t : Tables) → (change ≡ Accept a b) ⊎ (change ≡ Reject a b) → applies change t ≡ is_invited a b t
accept_or_reject a b change t (inl e) = ap (λ (c : Change). applies c t) e
accept_or_reject a b change t (inr e) = ap (λ (c : Change). applies c t) e
