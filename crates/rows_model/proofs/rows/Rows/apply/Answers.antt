use Rattle.std.proofs.Common.{ℕ, ◌≡◌, ◌+◌, ◌-◌, ◌++◌, List, length, take, drop, fold, All, Result, Ok, refl, sym, ap, subst, ◌∙◌, arith}
use Rattle.std.specs.Prelude.{count_by}
use Rattle.std.specs.List.{AllZip}
use Rattle.rows_model.specs.declared.rows.Member.{Member}
use Rattle.rows_model.specs.declared.near.Near.{Near}
use Rattle.rows_model.specs.declared.changes.Change.{Change}
use Rattle.rows_model.specs.Rows.{Tables}
use Rattle.rows_model.specs.Changes.{HasIds, apply_all}
use Rattle.rows_model.specs.Judge.{adds, ends, adds_block}
use Rattle.rows_model.specs.Near.{tables_in, NearAscend, AreKept, members_after}
use Rattle.rows_model.specs.NearSteps.{IsGrown, IsMadeAll}
use Rattle.rows_model.proofs.NearLemmas.{grown_ascends, same_length}
use Rattle.rows_model.proofs.KeptLemmas.{kept_ascend, grown_kept, grown_tables, written, made_from, members_left, enough_links, two_each}
use Rattle.rows_model.proofs.KeptLemmas.{all_made, AreMade, on_err}
use Rattle.rows_model.proofs.rows.Rows.apply.Goals as goal

pub make_room-requires : goal.make_room-requires
make_room-requires c = record { ascend = rw c.as_mut_slice.ensures.value (kept_ascend _ _ _ _ c.self.invariant) }

pub invariant_of-self : goal.invariant_of-self
invariant_of-self c =
    let near = c.self.inside.near.items in
    let room = c.make_room.new.near in
    let grown : AllZip IsGrown near room = rw c.as_mut_slice.ensures.value at c.make_room.ensures.grown in
    let back = written near room c.self.inside.near.len c.self.inside.near.ok.0 (same_length IsGrown near room grown) in
    rw back (grown_kept c.self.inside.members.items near room c.self.inside.count c.self.inside.blocks grown c.self.invariant)

pub returns-in_err-make_room-clause-kept : goal.returns-in_err-make_room-clause-kept
returns-in_err-make_room-clause-kept c =
    let near = c.self.inside.near.items in
    let room = c.make_room.new.near in
    let grown : AllZip IsGrown near room = rw c.as_mut_slice.ensures.value at c.make_room.ensures.grown in
    let back = written near room c.self.inside.near.len c.self.inside.near.ok.0 (same_length IsGrown near room grown) in
    on_err c.from_residual.result (ap (tables_in c.self.inside.members.items) back
    ∙ (grown_tables c.self.inside.members.items near room grown ∙ c.self.view_is))

pub make_all-requires-clause-ascend : goal.make_all-requires-clause-ascend
make_all-requires-clause-ascend c =
    let near = c.self.inside.near.items in
    let room = c.make_room.new.near in
    let grown : AllZip IsGrown near room = rw c.as_mut_slice.ensures.value at c.make_room.ensures.grown in
    let back = written near room c.self.inside.near.len c.self.inside.near.ok.0 (same_length IsGrown near room grown) in
    subst NearAscend (sym (c.as_mut_slice-3.ensures.value ∙ back)) (grown_ascends near room grown (kept_ascend _ _ _ _ c.self.invariant))

pub make_all-requires-clause-two : goal.make_all-requires-clause-two
make_all-requires-clause-two c =
    let e = rw (← c.self.view_is, ← c.changes-changes.ensures.items) at c.in_default.ensures.none.1 in
    two_each c.changes-changes.result.now _ _ c.self.invariant.fit c.changes-changes.ensures.ids e

pub overflow_sub-self : goal.overflow_sub-self
overflow_sub-self c =
    let e = rw (← c.self.view_is, ← c.changes-changes.ensures.items) at c.in_default.ensures.none.1 in
    let enough = enough_links c.changes-changes.result.now _ _ c.self.invariant.fit c.changes-changes.ensures.ids e in
    omega (arith, enough, c.self.invariant.counted, c.adding.ensures.count, c.ending.ensures.count)

-- a list that was lent and written back
abbrev back : {X : Type 0} → ℕ → List X → List X → List X
back long old new = take long (new ++ drop (length new) old)

-- the rows after the changes
made_rows : (changes : List Change) (members lent_members left : List Member) (near room lent made : List Near) (count blocks many long : ℕ) (after : Tables)
    → AreKept members near count blocks → All HasIds changes → apply_all changes (tables_in members near) ≡ Ok after
    → many ≡ length members → long ≡ length near → AllZip IsGrown near room
    → lent_members ≡ members → lent ≡ back long near room → left ≡ fold members_after lent_members changes → AllZip (IsMadeAll changes) lent made
    → AreMade after (back many members left) (back long (back long near room) made) (count + count_by adds changes - count_by ends changes)
    (blocks + count_by adds_block changes)
made_rows changes members lent_members left near room lent made
    count blocks many long after kept ids e same_many same grown members_are lists_are members_made lists_made =
    let counted = count + count_by adds changes - count_by ends changes in
    let barred = blocks + count_by adds_block changes in
    let n = same_length IsGrown near room grown in
    let room_back : back long near room ≡ room = written near room long same n in
    let lists : AllZip (IsMadeAll changes) room made = subst (λ (xs : List Near). AllZip (IsMadeAll changes) xs made) (lists_are ∙ room_back) lists_made in
    let m = same_length (IsMadeAll changes) room made lists in
    let made_back : back long (back long near room) made ≡ made =
    ap (λ (xs : List Near). back long xs made) room_back ∙ written room made long (omega (arith, same, n)) m in
    let members_left_are : left ≡ fold members_after members changes = members_made ∙ ap (λ (ms : List Member). fold members_after ms changes) members_are in
    let left_back : back many members left ≡ left = written members left many same_many (members_left changes members left members_left_are) in
    let enough = enough_links changes _ after kept.fit ids e in
    let all = all_made changes members left near made count counted blocks barred after kept ids e members_left_are
    (made_from changes near room made grown lists) (omega (arith, enough, kept.counted)) refl in
    subst (λ (ms : List Member). AreMade after ms (back long (back long near room) made) counted barred) (sym left_back)
    (subst (λ (xs : List Near). AreMade after left xs counted barred) (sym made_back) all)

pub invariant_of-self-2 : goal.invariant_of-self-2
invariant_of-self-2 c =
    let changes = c.changes-changes.result.now in
    let e = rw (← c.self.view_is, ← c.changes-changes.ensures.items) at c.in_default.ensures.none.1 in
    let grown = rw c.as_mut_slice.ensures.value at c.make_room.ensures.grown in
    let all = made_rows changes _ c.as_mut_slice-2.result.now c.make_all.new.members _ c.make_room.new.near c.as_mut_slice-3.result.now c.make_all.new.near _ _
    c.self.inside.members.len c.self.inside.near.len _ c.self.invariant c.changes-changes.ensures.ids e c.self.inside.members.ok.0
    c.self.inside.near.ok.0 grown c.as_mut_slice-2.ensures.value c.as_mut_slice-3.ensures.value c.make_all.ensures.members c.make_all.ensures.near in
    rw (c.adding.ensures.count, c.ending.ensures.count, c.blocking.ensures.count) all.kept

pub returns-clause-made : goal.returns-clause-made
returns-clause-made c =
    let changes = c.changes-changes.result.now in
    let applied = c.in_default.ensures.none.1 in
    let e = rw (← c.self.view_is, ← c.changes-changes.ensures.items) at applied in
    let grown = rw c.as_mut_slice.ensures.value at c.make_room.ensures.grown in
    let all = made_rows changes _ c.as_mut_slice-2.result.now c.make_all.new.members _ c.make_room.new.near c.as_mut_slice-3.result.now c.make_all.new.near _ _
    c.self.inside.members.len c.self.inside.near.len _ c.self.invariant c.changes-changes.ensures.ids e c.self.inside.members.ok.0
    c.self.inside.near.ok.0 grown c.as_mut_slice-2.ensures.value c.as_mut_slice-3.ensures.value c.make_all.ensures.members c.make_all.ensures.near in
    applied ∙ ap (λ (t : Tables). (let r : Result Tables ℕ = Ok t in r)) all.tables
