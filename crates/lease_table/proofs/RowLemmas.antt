-- The row of the grid for a key.
use Rattle.std.proofs.Common.{◌≡◌, ℕ, ◌+◌, ◌≤◌, subst, IfSome, Bool, true, not, Option, Some, None, List, [], ◌∷◌, map, sym, refl, ◌∙◌, ap, find, IsTrue, arith}
use Rattle.std.specs.List.{list_all, AllPairs}
use Rattle.rows_model.specs.declared.keys.Sid.{Sid}
use Rattle.case_tables.specs.Compatibility.{row_of, row_from, Way, invalidate, refresh, delta, is_invalidate, others_row, way_number}
use Rattle.std.specs.Prelude.{if◌then◌else◌}
use Rattle.lease_table.specs.declared.records.Quar.{Quar}
use Rattle.lease_table.specs.declared.records.ReadLease.{ReadLease}
use Rattle.lease_table.specs.Leases.{first, is_of, way_of, StandBeside, own_in, others_in, holder_in, is_unexpired, holding_of}
use Rattle.std.proofs.lemmas.List.Kept.{AllPairs-filter}
use Rattle.std.proofs.lemmas.List.Elements.{All-weaker, All-cons}
use Rattle.std.specs.List.{All}
use Rattle.lease_table.proofs.ListLemmas.{find-first, first-none, AllPairs-head, list_all-map}

-- a quarantine's way
abbrev pub quar_way : Quar → Way
quar_way quar = way_of quar.mode

-- a way that invalidates is the first
way_number-invalidate : (w : Way) → IsTrue (is_invalidate w) → way_number w ≡ 0
way_number-invalidate invalidate h = refl
way_number-invalidate refresh h = cc
way_number-invalidate delta h = cc

-- the row where one other quarantine stands alone
others_row-one : (w : Way) (reading : Bool) → others_row (w ∷ []) reading ≡ 2 + way_number w
others_row-one invalidate reading = refl
others_row-one refresh reading = refl
others_row-one delta reading = refl

-- what stands behind the first one all invalidates
list_all-behind : (q : Quar) (qs : List Quar) → AllPairs StandBeside (q ∷ qs) → list_all is_invalidate (map quar_way qs) ≡ true
list_all-behind q qs beside =
    list_all-map is_invalidate quar_way qs
    (All-weaker (StandBeside q) (λ r. is_invalidate (quar_way r) ≡ true) (λ r h. h.other_invalidates) qs (AllPairs-head StandBeside q qs beside))

-- the row where other quarantines stand, by the way of the first: of more than one all invalidate
others_row-first : (q : Quar) (qs : List Quar) (reading : Bool)
    → AllPairs StandBeside (q ∷ qs) → others_row (map quar_way (q ∷ qs)) reading ≡ 2 + way_number (quar_way q)
others_row-first q [] reading beside = others_row-one (quar_way q) reading
others_row-first q (r ∷ rs) reading beside =
    let here = (AllPairs-head StandBeside q (r ∷ rs) beside 0 q (omega arith)).one_invalidates in
    let behind = list_all-behind q (r ∷ rs) beside in
    let at_first = way_number-invalidate (quar_way q) here in
    rw (here, behind, at_first) refl

-- the same where the first is that of a list that may be empty
others_row-found : (qs : List Quar) (q : Quar) (reading : Bool)
    → AllPairs StandBeside qs → first qs ≡ Some q → others_row (map quar_way qs) reading ≡ 2 + way_number (quar_way q)
others_row-found [] q reading beside e = cc
others_row-found (r ∷ rs) q reading beside e =
    let same : r ≡ q = cc in
    others_row-first r rs reading beside ∙ ap (λ x. 2 + way_number (quar_way x)) same

-- the row where the asker holds none and others hold some
pub row-others : (who : Sid) (now : ℕ) (reader : Option ReadLease) (quars : List Quar) (q : Quar) → AllPairs StandBeside quars
    → own_in who quars ≡ None → find (λ quar. not (is_of who quar)) quars ≡ Some q → row_of (holding_of who now reader quars) ≡ 2 + way_number (quar_way q)
row-others who now reader quars q beside none found =
    rw none (others_row-found (others_in who quars) q _ (AllPairs-filter StandBeside (λ quar. not (is_of who quar)) quars beside)
    (sym (find-first _ quars) ∙ found))

-- the row where nobody holds a quarantine
pub row-free : (who : Sid) (now : ℕ) (reader : Option ReadLease) (quars : List Quar) → own_in who quars ≡ None
    → find (λ quar. not (is_of who quar)) quars ≡ None → row_of (holding_of who now reader quars) ≡ others_row [] (is_unexpired now reader)
row-free who now reader quars none no_other =
    rw (none, first-none (others_in who quars) (sym (find-first _ quars) ∙ no_other)) refl

-- the first of those that stand has the least token
pub first-least : (qs : List Quar) (q : Quar) → AllPairs StandBeside qs → first qs ≡ Some q → All (λ other. q.token ≤ other.token) qs
first-least [] q beside e = cc
first-least (r ∷ rs) q beside e =
    let same : r ≡ q = cc in
    subst (λ x. All (λ other. x.token ≤ other.token) (r ∷ rs)) same
    (All-cons (λ other. r.token ≤ other.token) r rs (omega arith)
    (All-weaker (StandBeside r) (λ other. r.token ≤ other.token) (λ other h. let below = h.in_order in omega arith) rs (AllPairs-head StandBeside r rs beside)))

-- who holds a key on which the asker holds nothing has the least token
pub holder-least : (who : Sid) (quars : List Quar) (o : Option Quar)
    → AllPairs StandBeside quars → own_in who quars ≡ None → o ≡ holder_in who quars → IfSome o (λ q. All (λ other. q.token ≤ other.token) quars)
holder-least who quars None beside none e = tt
holder-least who quars (Some q) beside none e =
    first-least quars q beside (sym (e ∙ rw none refl))

-- ---- the row where the asker holds one

-- others stand beside it, or none does
row_from-alone : (w : Way) (reading : Bool) → row_from (Some w) [] reading ≡ 5 + way_number w
row_from-alone invalidate reading = refl
row_from-alone refresh reading = refl
row_from-alone delta reading = refl

row_from-beside : (w other : Way) (others : List Way) (reading : Bool)
    → row_from (Some w) (other ∷ others) reading ≡ (if is_invalidate w then 8 else 5 + way_number w)
row_from-beside invalidate other others reading = refl
row_from-beside refresh other others reading = refl
row_from-beside delta other others reading = refl

-- the same by the first of the others
row_from-first : (w : Way) (others : List Quar) (q : Quar) (reading : Bool) → first others ≡ Some q
    → row_from (Some w) (map quar_way others) reading ≡ (if is_invalidate w then 8 else 5 + way_number w)
row_from-first w [] q reading e = cc
row_from-first w (r ∷ rs) q reading e = row_from-beside w (quar_way r) (map quar_way rs) reading

pub row-own : (who : Sid) (now : ℕ) (reader : Option ReadLease) (quars : List Quar) (q : Quar) → own_in who quars ≡ Some q
    → find (λ quar. not (is_of who quar)) quars ≡ None → row_of (holding_of who now reader quars) ≡ 5 + way_number (quar_way q)
row-own who now reader quars q own no_other =
    rw (own, first-none (others_in who quars) (sym (find-first _ quars) ∙ no_other)) (row_from-alone (quar_way q) (is_unexpired now reader))

pub row-beside : (who : Sid) (now : ℕ) (reader : Option ReadLease) (quars : List Quar) (q other : Quar) → own_in who quars ≡ Some q
    → find (λ quar. not (is_of who quar)) quars ≡ Some other
    → row_of (holding_of who now reader quars) ≡ (if is_invalidate (quar_way q) then 8 else 5 + way_number (quar_way q))
row-beside who now reader quars q other own found =
    rw own (row_from-first (quar_way q) (others_in who quars) other (is_unexpired now reader) (sym (find-first _ quars) ∙ found))
