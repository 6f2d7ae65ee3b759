-- The rows as they are kept: the start, a copy, and after changes that apply in turn.
use Rattle.std.proofs.Common.{ℕ, ◌+◌, ◌≡◌, ◌≤◌, Bool, true, false, List, [], ◌∷◌, ◌++◌, length, get_or, take, drop, map, filter, find, fold}
use Rattle.std.proofs.Common.{All, IsSome, Option, Some, None, Result, Ok, Err, OnErr, inl, inr, refl, sym, ap, subst, ◌∙◌, arith}
use Rattle.std.specs.Prelude.{count_by, ◌==◌, ◌||◌}
use Rattle.std.specs.List.{list_any, AllZip}
use Rattle.std.specs.Option.{is_some}
use Rattle.std.proofs.lemmas.Bool.{false≢true, false_from_ne_true, or_cases, eqb-true, eq-eqb}
use Rattle.std.proofs.Math.ListN.{drop_of_length-le}
use Rattle.std.proofs.Math.Seq.{take-length}
use Rattle.std.proofs.lemmas.List.{append-nil, length-map}
use Rattle.std.proofs.lemmas.List.Elements.{All-head, All-tail}
use Rattle.rows_model.specs.declared.rows.Link.{Link}
use Rattle.rows_model.specs.declared.rows.Member.{Member}
use Rattle.rows_model.specs.declared.near.Near.{Near}
use Rattle.rows_model.specs.declared.changes.Change.{Change}
use Rattle.rows_model.specs.declared.refreshing.Circle.TheVariants.{Barred}
use Rattle.rows_model.specs.Rows.{Tables, BlockRow, Fit, IsMember, IsLink}
use Rattle.rows_model.specs.Query.{blocked_ids}
use Rattle.rows_model.specs.Changes.{HasIds, block_of, apply_all, apply_from}
use Rattle.rows_model.specs.Near.{tables_of, IsAt, is_end, firsts, whole, blocks_of, all_blocks, tables_in, NearAscend, IsIndex, AreKept, AreTwo}
use Rattle.rows_model.specs.Near.{near_after, members_after, blocked_after}
use Rattle.rows_model.specs.NearSteps.{IsSame, IsGrown, IsMadeAll}
use Rattle.rows_model.specs.Judge.{adds, ends, adds_block}
use Rattle.rows_model.proofs.ApplyLemmas.{apply_all_is}
use Rattle.rows_model.proofs.StayFitLemmas.{fit_from}
use Rattle.rows_model.proofs.IndexLemmas.{has_list, near_changed, whole_is, gathered, filter_none}
use Rattle.rows_model.proofs.NearLemmas.{zip_all, zip_chain, zip_ids, ascend_alike, same_ids_after}
use Rattle.rows_model.proofs.BlockLemmas.{own_ids, all_blocks_is, blocker_of, folded_ids}
use Rattle.rows_model.proofs.RefreshLawLemmas.{ids_law}
use Rattle.rows_model.proofs.JudgeLemmas.{walked, links_changed, members_changed, links_counted, blocks_counted, all_two, is_some-find}

some_true : {X : Type 0} (o : Option X) → IsSome o → is_some o ≡ true
some_true (Some x) h = refl
some_true None h = absurd (false≢true h)

length-zero : {X : Type 0} (xs : List X) → length xs ≡ 0 → xs ≡ []
length-zero [] none = refl
length-zero (x ∷ xs) none = absurd (omega arith)

-- the lists stand by id
pub kept_ascend : (members : List Member) (near : List Near) (count blocks : ℕ) → AreKept members near count blocks → NearAscend near
kept_ascend members near count blocks kept = ascend_alike (λ m. m.id) (λ one. one.id) members near kept.ids kept.fit.members_ascend

-- a test of what is made of each element
list_any-map : {X Y : Type 0} (p : Y → Bool) (f : X → Y) (xs : List X) → list_any p (map f xs) ≡ list_any (λ x. p (f x)) xs
list_any-map p f [] = refl
list_any-map p f (x ∷ xs) = ap (λ b. p (f x) || b) (list_any-map p f xs)

-- each member has a list
any_same_ids : (id : ℕ) (members : List Member) (near : List Near)
    → map (λ one. one.id) near ≡ map (λ m. m.id) members → has_list id near ≡ list_any (λ m. m.id == id) members
any_same_ids id members near same =
    sym (list_any-map (λ n. n == id) (λ (one : Near). one.id) near)
    ∙ (ap (list_any (λ n. n == id)) same ∙ list_any-map (λ n. n == id) (λ (m : Member). m.id) members)

pub member_has_list : (id : ℕ) (members : List Member) (near : List Near) (links : List Link) (blocks : List BlockRow)
    → map (λ one. one.id) near ≡ map (λ m. m.id) members → IsMember id (tables_of members links blocks) → has_list id near ≡ true
member_has_list id members near links blocks same there =
    any_same_ids id members near same ∙ (sym (is_some-find (λ m. m.id == id) members) ∙ some_true (find (λ m. m.id == id) members) there)

-- no list stands for one who is no member, and it has no links
pub no_list : (id : ℕ) (members : List Member) (near : List Near) (count blocks : ℕ)
    → AreKept members near count blocks → has_list id near ≡ false → [] ≡ filter (is_end id) (whole near)
no_list id members near count blocks kept none =
    sym (filter_none (is_end id) (whole near) (λ k d l. false_from_ne_true (is_end id (get_or (whole near) k d)) (λ e.
    let link = get_or (whole near) k d in
    let h : IsLink (tables_in members near) link = kept.fit.links_join k d l in
    elim (or_cases (link.a == id) (link.b == id) e) [
      | inl first ↦ false≢true (sym none
          ∙ (ap (λ (n : ℕ). has_list n near) (sym (eqb-true link.a id first)) ∙ member_has_list link.a members near (whole near) (all_blocks near) kept.ids h.from))
      | inr second ↦ false≢true (sym none
          ∙ (ap (λ (n : ℕ). has_list n near) (sym (eqb-true link.b id second)) ∙ member_has_list link.b members near (whole near) (all_blocks near) kept.ids h.to))
    ])))

-- the same lists
abbrev SameLists : Near → Near → Type 0
SameLists x y = (y.id ≡ x.id) × (y.links.items ≡ x.links.items) × (y.blocked.items ≡ x.blocked.items)

-- make the same links
same_whole : (R : Near → Near → Type 0) → ((x y : Near) → R x y → SameLists x y) → (xs ys : List Near) → AllZip R xs ys → whole ys ≡ whole xs
same_whole R same [] [] zip = refl
same_whole R same [] (y ∷ ys) zip = absurd zip
same_whole R same (x ∷ xs) [] zip = absurd zip
same_whole R same (x ∷ xs) (y ∷ ys) zip =
    let one = same x y zip.0 in
    let first : firsts y ≡ firsts x = ap (λ (n : ℕ). filter (λ link. link.a == n) y.links.items) one.0 ∙ ap (filter (λ link. link.a == x.id)) one.1 in
    ap (λ (ls : List Link). ls ++ whole ys) first ∙ ap (λ (ls : List Link). firsts x ++ ls) (same_whole R same xs ys zip.1)

-- and the same blocks
same_blocks : (R : Near → Near → Type 0) → ((x y : Near) → R x y → SameLists x y)
    → (xs ys : List Near) → AllZip R xs ys → all_blocks ys ≡ all_blocks xs
same_blocks R same [] [] zip = refl
same_blocks R same [] (y ∷ ys) zip = absurd zip
same_blocks R same (x ∷ xs) [] zip = absurd zip
same_blocks R same (x ∷ xs) (y ∷ ys) zip =
    let one = same x y zip.0 in
    let first : blocks_of y ≡ blocks_of x = ap (λ (n : ℕ). map (block_of n) y.blocked.items) one.0 ∙ ap (map (block_of x.id)) one.2 in
    ap (λ (bs : List BlockRow). bs ++ all_blocks ys) first ∙ ap (λ (bs : List BlockRow). blocks_of x ++ bs) (same_blocks R same xs ys zip.1)

same_tables : (R : Near → Near → Type 0) → ((x y : Near) → R x y → SameLists x y)
    → (members : List Member) (near after : List Near) → AllZip R near after → tables_in members after ≡ tables_in members near
same_tables R same members near after zip =
    ap (λ (ls : List Link). tables_of members ls (all_blocks after)) (same_whole R same near after zip)
    ∙ ap (λ (bs : List BlockRow). tables_of members (whole near) bs) (same_blocks R same near after zip)

same_kept : (R : Near → Near → Type 0) → ((x y : Near) → R x y → SameLists x y) → (members : List Member) (near after : List Near) (count blocks : ℕ)
    → AllZip R near after → AreKept members near count blocks → AreKept members after count blocks
same_kept R same members near after count blocks zip kept =
    let one = same_whole R same near after zip in
    let P : Near → Type 0 = λ x. x.links.items ≡ filter (is_end x.id) (whole near) in
    let index : IsIndex after (whole near) = zip_all R P P (λ x y r h.
    let s = same x y r in
    s.1 ∙ (h ∙ ap (λ (n : ℕ). filter (is_end n) (whole near)) (sym s.0))) near after zip kept.index in
    record {
      fit = subst Fit (sym (same_tables R same members near after zip)) kept.fit;
      ids = zip_ids R (λ x y r. (same x y r).0) near after zip ∙ kept.ids;
      index = subst (λ (ls : List Link). IsIndex after ls) (sym one) index;
      counted = kept.counted ∙ ap length (sym one);
      blocks_counted = kept.blocks_counted ∙ ap length (sym (same_blocks R same near after zip));
    }

-- a copy
pub copy_tables : (members : List Member) (xs ys : List Near) → AllZip IsSame xs ys → tables_in members ys ≡ tables_in members xs
copy_tables members xs ys zip = same_tables IsSame (λ x y h. (h.id, h.links, h.blocked)) members xs ys zip

pub copy_kept : (members : List Member) (near after : List Near) (count blocks : ℕ)
    → AllZip IsSame near after → AreKept members near count blocks → AreKept members after count blocks
copy_kept members near after count blocks zip kept = same_kept IsSame (λ x y h. (h.id, h.links, h.blocked)) members near after count blocks zip kept

-- lists with more room
pub grown_tables : (members : List Member) (xs ys : List Near) → AllZip IsGrown xs ys → tables_in members ys ≡ tables_in members xs
grown_tables members xs ys zip = same_tables IsGrown (λ x y h. (h.id, h.links, h.blocked)) members xs ys zip

pub grown_kept : (members : List Member) (near after : List Near) (count blocks : ℕ)
    → AllZip IsGrown near after → AreKept members near count blocks → AreKept members after count blocks
grown_kept members near after count blocks zip kept = same_kept IsGrown (λ x y h. (h.id, h.links, h.blocked)) members near after count blocks zip kept

-- lists with no links
none_whole : (near : List Near) → All (λ one. length one.links.items ≡ 0) near → whole near ≡ []
none_whole [] none = refl
none_whole (one ∷ near) none =
    let here : one.links.items ≡ [] = length-zero one.links.items (All-head (λ other. length other.links.items ≡ 0) one near none) in
    ap (λ (ls : List Link). filter (λ link. link.a == one.id) ls ++ whole near) here
    ∙ none_whole near (All-tail (λ other. length other.links.items ≡ 0) one near none)

-- lists with no blocks
none_blocks : (near : List Near) → All (λ one. length one.blocked.items ≡ 0) near → all_blocks near ≡ []
none_blocks [] free = refl
none_blocks (one ∷ near) free =
    let here : one.blocked.items ≡ [] = length-zero one.blocked.items (All-head (λ other. length other.blocked.items ≡ 0) one near free) in
    ap (λ (ids : List ℕ). map (block_of one.id) ids ++ all_blocks near) here
    ∙ none_blocks near (All-tail (λ other. length other.blocked.items ≡ 0) one near free)

pub start_in : (members : List Member) (near : List Near) → All (λ one. length one.links.items ≡ 0) near
    → All (λ one. length one.blocked.items ≡ 0) near → tables_in members near ≡ tables_of members [] []
start_in members near none free =
    ap (λ (ls : List Link). tables_of members ls (all_blocks near)) (none_whole near none)
    ∙ ap (λ (bs : List BlockRow). tables_of members [] bs) (none_blocks near free)

pub start_kept : (members : List Member) (near : List Near) → Fit (tables_of members [] []) → map (λ one. one.id) near ≡ map (λ m. m.id) members
    → All (λ one. length one.links.items ≡ 0) near → All (λ one. length one.blocked.items ≡ 0) near → AreKept members near 0 0
start_kept members near fit ids none free =
    let empty = none_whole near none in
    record {
      fit = subst Fit (sym (start_in members near none free)) fit;
      ids = ids;
      index = λ k d l. length-zero (get_or near k d).links.items (none k d l) ∙ ap (filter (is_end (get_or near k d).id)) (sym empty);
      counted = ap length (sym empty);
      blocks_counted = ap length (sym (none_blocks near free));
    }

-- a member's list after changes in turn
list_after : (id : ℕ) (changes : List Change) (t after : Tables)
    → Fit t → All HasIds changes → apply_from 0 changes t ≡ Ok after
    → filter (is_end id) after.links ≡ fold (near_after id) (filter (is_end id) t.links) changes
list_after id changes t after fit ids e =
    walked (near_after id) (λ u. filter (is_end id) u.links) (λ change u h.
    ap (filter (is_end id)) (links_changed change u) ∙ near_changed id change u.links h.links_ascend) 0 changes t after fit ids e

members_are : (changes : List Change) (t after : Tables) → Fit t
    → All HasIds changes → apply_from 0 changes t ≡ Ok after → after.members ≡ fold members_after t.members changes
members_are changes t after fit ids e = walked members_after (λ u. u.members) (λ change u h. members_changed change u) 0 changes t after fit ids e

member_ids : (changes : List Change) (members : List Member) → map (λ m. m.id) (fold members_after members changes) ≡ map (λ m. m.id) members
member_ids [] members = refl
member_ids (change ∷ changes) members = member_ids changes (members_after members change) ∙ same_ids_after change members

-- what all changes leave
pub record AreMade (after : Tables) (members : List Member) (near : List Near) (count blocks : ℕ) : Type 0 where
  pub kept : AreKept members near count blocks
  pub tables : after ≡ tables_in members near

pub all_made : (changes : List Change) (members left : List Member) (near made : List Near) (count counted blocks barred : ℕ) (after : Tables)
    → AreKept members near count blocks → All HasIds changes → apply_all changes (tables_in members near) ≡ Ok after
    → left ≡ fold members_after members changes → AllZip (IsMadeAll changes) near made
    → counted + count_by ends changes ≡ count + count_by adds changes → barred ≡ blocks + count_by adds_block changes
    → AreMade after left made counted barred
all_made changes members left near made count counted blocks barred after kept ids e members_made lists_made counts barred_is =
    let t = tables_in members near in
    let from = sym (apply_all_is changes t) ∙ e in
    let fit : Fit after = fit_from 0 changes t after kept.fit ids from in
    let same : left ≡ after.members = members_made ∙ sym (members_are changes t after kept.fit ids from) in
    let made_ids : map (λ one. one.id) made ≡ map (λ m. m.id) left = zip_ids (IsMadeAll changes) (λ x y h. h.id) near made lists_made
    ∙ (kept.ids ∙ (sym (member_ids changes members) ∙ ap (map (λ m. m.id)) (sym members_made))) in
    let P : Near → Type 0 = λ x. x.links.items ≡ filter (is_end x.id) (whole near) in
    let index : IsIndex made after.links = zip_all (IsMadeAll changes) P (λ y. y.links.items ≡ filter (is_end y.id) after.links) (λ x y r h.
    r.links ∙ (ap (λ (ls : List Link). fold (near_after x.id) ls changes) h
    ∙ (sym (list_after x.id changes t after kept.fit ids from) ∙ ap (λ (n : ℕ). filter (is_end n) after.links) (sym r.id)))) near made lists_made kept.index in
    let fit_left : Fit (tables_of left after.links after.blocks) =
    subst (λ (ms : List Member). Fit (tables_of ms after.links after.blocks)) (sym same) fit in
    let up : NearAscend made = ascend_alike (λ m. m.id) (λ one. one.id) left made made_ids fit_left.members_ascend in
    let all : whole made ≡ after.links = whole_is made after.links index up fit.links_ascend
    (λ k d l. member_has_list (get_or after.links k d).a left made after.links after.blocks made_ids (fit_left.links_join k d l).from) in
    let old_up = kept_ascend members near count blocks kept in
    let old_ids : All (λ x. x.blocked.items ≡ blocked_ids x.id t) near =
    λ k d l. own_ids (get_or near k d).id members near k d old_up l (eq-eqb (get_or near k d).id (get_or near k d).id refl) in
    let new_ids : All (λ y. y.blocked.items ≡ blocked_ids y.id after) made =
    zip_all (IsMadeAll changes) (λ x. x.blocked.items ≡ blocked_ids x.id t) (λ y. y.blocked.items ≡ blocked_ids y.id after) (λ x y r h.
    r.blocked ∙ (ap (λ (ns : List ℕ). fold (blocked_after x.id) ns changes) h
    ∙ (folded_ids x.id changes (blocked_ids x.id t) (blocked_ids x.id after) (ids_law Barred x.id changes t after kept.fit ids from)
    ∙ ap (λ (n : ℕ). blocked_ids n after) (sym r.id)))) near made lists_made old_ids in
    let all_barred : all_blocks made ≡ after.blocks = all_blocks_is made after.blocks new_ids
    ∙ gathered blocker_of made after.blocks up (λ i j d low l. (fit.blocks_ascend i j d low l).0)
    (λ k d l. member_has_list (get_or after.blocks k d).blocker left made after.links after.blocks made_ids (fit_left.blocks_join k d l).from) in
    let tables : after ≡ tables_in left made =
    ap (λ (ms : List Member). tables_of ms after.links after.blocks) (sym same)
    ∙ (ap (λ (ls : List Link). tables_of left ls after.blocks) (sym all)
    ∙ ap (λ (bs : List BlockRow). tables_of left (whole made) bs) (sym all_barred)) in
    let n = links_counted 0 changes t after kept.fit ids from in
    let m = blocks_counted 0 changes t after kept.fit ids from in
    record {
      kept = record {
        fit = subst Fit tables fit;
        ids = made_ids;
        index = subst (λ (ls : List Link). IsIndex made ls) (sym all) index;
        counted = omega (arith, n, counts, kept.counted, ap length all);
        blocks_counted = omega (arith, m, barred_is, kept.blocks_counted, ap length all_barred);
      };
      tables = tables;
    }

-- the list that stands for a member
pub list_at : (id place : ℕ) (members : List Member) (near : List Near) (count blocks : ℕ) (d : Near)
    → AreKept members near count blocks → IsAt (λ one. one.id == id) near place → (get_or near place d).links.items ≡ filter (is_end id) (whole near)
list_at id place members near count blocks d kept at =
    kept.index place d at.within ∙ ap (λ (n : ℕ). filter (is_end n) (whole near)) (eqb-true (get_or near place d).id id (at.passes d))

-- a list that was written back whole
pub written : {X : Type 0} (old new : List X) (n : ℕ) → n ≡ length old → length new ≡ length old → take n (new ++ drop (length new) old) ≡ new
written old new n same long =
    let rest : drop (length new) old ≡ [] = drop_of_length-le old (omega (arith, long)) in
    ap (λ xs. take n (new ++ xs)) rest ∙ (ap (take n) (append-nil new) ∙ (ap (λ (k : ℕ). take k new) (same ∙ sym long) ∙ take-length new))

-- lists with more room, and then changed
grown_made : (changes : List Change) (x y z : Near) → IsGrown x y → IsMadeAll changes y z → IsMadeAll changes x z
grown_made changes x y z grown made =
    let P : ℕ → Type 0 = λ n. z.links.items ≡ fold (near_after n) y.links.items changes in
    record {
      id = made.id ∙ grown.id;
      links = subst P grown.id made.links ∙ ap (λ (ls : List Link). fold (near_after x.id) ls changes) grown.links;
      blocked =
          let Q : ℕ → Type 0 = λ n. z.blocked.items ≡ fold (blocked_after n) y.blocked.items changes in
          subst Q grown.id made.blocked ∙ ap (λ (ns : List ℕ). fold (blocked_after x.id) ns changes) grown.blocked;
    }

pub made_from : (changes : List Change) (near grown made : List Near)
    → AllZip IsGrown near grown → AllZip (IsMadeAll changes) grown made → AllZip (IsMadeAll changes) near made
made_from changes near grown made one other = zip_chain IsGrown (IsMadeAll changes) (IsMadeAll changes) (grown_made changes) near grown made one other

-- how many members are left
pub members_left : (changes : List Change) (members left : List Member) → left ≡ fold members_after members changes → length left ≡ length members
members_left changes members left made =
    let ids : map (λ m. m.id) left ≡ map (λ m. m.id) members = ap (map (λ m. m.id)) made ∙ member_ids changes members in
    sym (length-map left (λ (m : Member). m.id)) ∙ (ap length ids ∙ length-map members (λ (m : Member). m.id))

-- no more links end than there are
pub enough_links : (changes : List Change) (t after : Tables)
    → Fit t → All HasIds changes → apply_all changes t ≡ Ok after → count_by ends changes ≤ length t.links + count_by adds changes
enough_links changes t after fit ids e = omega (arith, links_counted 0 changes t after fit ids (sym (apply_all_is changes t) ∙ e))

pub two_each : (changes : List Change) (t after : Tables) → Fit t → All HasIds changes → apply_all changes t ≡ Ok after → All AreTwo changes
two_each changes t after fit ids e = all_two 0 changes t after fit ids (sym (apply_all_is changes t) ∙ e)

-- what holds whatever the result
pub on_err : {X E : Type 0} {P : Type 0} (r : Result X E) → P → OnErr r P
on_err (Ok x) h = tt
on_err (Err e) h = h
