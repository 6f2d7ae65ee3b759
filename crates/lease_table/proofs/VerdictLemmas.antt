-- What a verdict tells: of the grid it is the rules', and where it gives a lease the key is free for it.
use Rattle.std.proofs.Common.{◌≡◌, ℕ, ◌<◌, ◌≤◌, Bool, true, false, not, filter, Option, Some, None, List, [], ◌∷◌, map, sym, refl, ◌∙◌, length, arith}
use Rattle.case_tables.specs.declared.grids.Verdict.TheVariants.{Same, Join, Refuse, Gone}
use Rattle.rows_model.specs.declared.keys.Sid.{Sid}
use Rattle.rows_model.specs.declared.keys.QKey.{QKey}
use Rattle.lease_table.specs.declared.records.Quar.{Quar}
use Rattle.lease_table.specs.declared.records.Lease.{Lease}
use Rattle.lease_table.specs.Leases.{StandBeside, quars, own_quar, other_quars, others_in, is_of, is_raisable, way_of, holding, holding_of, raise_in}
use Rattle.lease_table.proofs.ListLemmas.{find-none, filter-not-all, All-from_list_all, AllPairs-head}
use Rattle.std.proofs.lemmas.Bool.Decides.{nat_tests}
use Rattle.std.proofs.lemmas.List.{length-map}
use Rattle.std.specs.Prelude.{if◌then◌else◌, option_map, ◌&&◌}
use Rattle.std.specs.List.{All, AllPairs, list_all, list_any}
use Rattle.std.proofs.lemmas.Bool.{eqb-true}
use Rattle.case_tables.specs.declared.grids.Verdict.{Verdict}
use Rattle.case_tables.specs.Compatibility.{Way, invalidate, refresh, delta, Request, read, quarantine, raise, Holding, is_invalidate, same_way, verdict}
use Rattle.case_tables.specs.Compatibility.{raise_verdict, is_given, is_raised, row_of, column_of, cell}

-- the cell of what stands is the rules' verdict
pub cell-verdict : (grid : List (List Verdict)) (rules : (h : Holding) (request : Request)
    → cell grid (row_of h) (column_of request) ≡ Some (verdict h request)) (h : Holding) (request : Request) (r c : ℕ) (v : Verdict)
    → r ≡ row_of h → c ≡ column_of request → cell grid r c ≡ Some v → v ≡ verdict h request
cell-verdict grid rules h request r c v row column found =
    let here = rw (row, column) at found in
    let by_rules = rules h request in
    cc

-- ---- where a lease to read is given nobody holds a quarantine

read-given-parts : (own : Option Way) (others : List Way) (reading : Bool)
    → is_given (verdict (record { own = own; others = others; reading = reading }) read) ≡ true → (own ≡ None) × (others ≡ [])
read-given-parts (Some w) others reading given = cc
read-given-parts None [] reading given = (refl, refl)
read-given-parts None (w ∷ ws) reading given = cc

-- a map gives nothing of nothing alone
map-empty : {X Y : Type 0} (f : X → Y) (xs : List X) → map f xs ≡ [] → xs ≡ []
map-empty f [] e = refl
map-empty f (x ∷ xs) e = cc

option_map-none : {X Y : Type 0} (f : X → Y) (o : Option X) → option_map f o ≡ None → o ≡ None
option_map-none f None e = refl
option_map-none f (Some x) e = cc

pub read-given : (key : QKey) (who : Sid) (now : ℕ) (leases : List Lease) → is_given (verdict (holding key who now leases) read) ≡ true → quars key leases ≡ []
read-given key who now leases given =
    let parts = read-given-parts (holding key who now leases).own (holding key who now leases).others (holding key who now leases).reading given in
    let none_own = option_map-none (λ quar. way_of quar.mode) (own_quar key who leases) parts.0 in
    let no_other = map-empty (λ quar. way_of quar.mode) (other_quars key who leases) parts.1 in
    sym (filter-not-all (is_of who) (quars key leases) (find-none (is_of who) (quars key leases) none_own)) ∙ no_other

-- ---- where a quarantine is given the asker holds none, and beside others all are to invalidate

record QuarGiven (w : Way) (own : Option Way) (others : List Way) : Type 0 where
  none_own : own ≡ None
  others_invalidate : list_all is_invalidate others ≡ true
  asker_invalidates : 0 < length others → is_invalidate w ≡ true

-- neither Same nor Refuse gives anything
own-not_given : (b : Bool) → is_given (if b then Same else Refuse) ≡ true → ⊥
own-not_given true given = cc
own-not_given false given = cc

-- Join is given where both tests pass
beside-given : (a b : Bool) → is_given (if a && b then Join else Refuse) ≡ true → (a ≡ true) × (b ≡ true)
beside-given true true given = (refl, refl)
beside-given true false given = cc
beside-given false b given = cc

quar-given-parts : (w : Way) (own : Option Way) (others : List Way) (reading : Bool)
    → is_given (verdict (record { own = own; others = others; reading = reading }) (quarantine w)) ≡ true → QuarGiven w own others
quar-given-parts w (Some o) others reading given = absurd (own-not_given (same_way o w) given)
quar-given-parts w None [] reading given = record {
  none_own = refl;
  others_invalidate = refl;
  asker_invalidates = λ some. absurd (omega arith);
}
quar-given-parts w None (o ∷ os) reading given =
    let both = beside-given (is_invalidate w) (list_all is_invalidate (o ∷ os)) given in
    record { none_own = refl; others_invalidate = both.1; asker_invalidates = λ some. both.0 }

-- what a given quarantine stands beside
pub quar-given : (key : QKey) (q : Quar) (now : ℕ) (leases : List Lease) → All (λ other. other.token < q.token) (quars key leases)
    → is_given (verdict (holding key q.sid now leases) (quarantine (way_of q.mode))) ≡ true → All (λ other. StandBeside other q) (quars key leases)
quar-given key q now leases below given =
    let h = holding key q.sid now leases in
    let parts = quar-given-parts (way_of q.mode) h.own h.others h.reading given in
    let none_own = option_map-none (λ quar. way_of quar.mode) (own_quar key q.sid leases) parts.none_own in
    let none_of = find-none (is_of q.sid) (quars key leases) none_own in
    let all_others = filter-not-all (is_of q.sid) (quars key leases) none_of in
    let invalidate_all = rw all_others at parts.others_invalidate in
    let each_invalidates = All-from_list_all is_invalidate (λ quar. way_of quar.mode) (quars key leases) invalidate_all in
    let asker = rw all_others at parts.asker_invalidates in
    λ k d within. record {
      in_order = below k d within;
      of_two = grind (arith, nat_tests, none_of k d within);
      one_invalidates = each_invalidates k d within;
      other_invalidates = asker (omega (arith, length-map (quars key leases) (λ quar. way_of quar.mode)));
    }

-- ---- where a quarantine is raised nobody else holds one

raised-parts : (own : Option Way) (others : List Way) → is_raised (raise_verdict own others) ≡ true → others ≡ []
raised-parts None others raises = cc
raised-parts (Some invalidate) [] raises = refl
raised-parts (Some invalidate) (w ∷ ws) raises = cc
raised-parts (Some refresh) others raises = cc
raised-parts (Some delta) others raises = cc

-- where none is of another session, each is of the session
of_who : (who : Sid) (q : Quar) (qs : List Quar) → filter (λ quar. not (is_of who quar)) (q ∷ qs) ≡ []
    → (is_of who q ≡ true) × (filter (λ quar. not (is_of who quar)) qs ≡ [])
of_who who q qs none = by_test (is_of who q) refl
  where
    by_test : (b : Bool) → is_of who q ≡ b → (is_of who q ≡ true) × (filter (λ quar. not (is_of who quar)) qs ≡ [])
    by_test true e =
        let past : filter (λ quar. not (is_of who quar)) (q ∷ qs) ≡ filter (λ quar. not (is_of who quar)) qs = rw e refl in
        (e, sym past ∙ none)
    by_test false e =
        let kept : filter (λ quar. not (is_of who quar)) (q ∷ qs) ≡ q ∷ filter (λ quar. not (is_of who quar)) qs = rw e refl in
        absurd (cc)

-- of one session there is one at most
one-of_who : (who : Sid) (quars : List Quar) → AllPairs StandBeside quars → others_in who quars ≡ [] → length quars ≤ 1
one-of_who who [] beside none = omega arith
one-of_who who (q ∷ []) beside none = omega arith
one-of_who who (q ∷ r ∷ rs) beside none =
    let first = of_who who q (r ∷ rs) none in
    let second = of_who who r rs first.1 in
    let apart = (AllPairs-head StandBeside q (r ∷ rs) beside 0 q (omega arith)).of_two in
    absurd (apart (eqb-true q.sid.number who.number first.0 ∙ sym (eqb-true r.sid.number who.number second.0)))

pub raise-alone : (who : Sid) (token : ℕ) (quars : List Quar) → AllPairs StandBeside quars → is_raised (raise_in who token quars) ≡ true → length quars ≤ 1
raise-alone who token quars beside raises = by_test (list_any (is_raisable who token) quars) raises
  where
    by_test : (b : Bool) → is_raised (if b then verdict (holding_of who 0 None quars) raise else Gone) ≡ true → length quars ≤ 1
    by_test true given =
        one-of_who who quars beside
        (map-empty (λ quar. way_of quar.mode) (others_in who quars)
        (raised-parts (holding_of who 0 None quars).own (holding_of who 0 None quars).others given))
    by_test false given = cc
