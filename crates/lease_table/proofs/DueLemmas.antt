-- The quarantine that is due first, by the index.
use Rattle.std.proofs.Common.{◌≡◌, ℕ, suc, ◌<◌, ◌≤◌, Bool, true, false, Some, List, [], ◌∷◌, sym, refl, ◌∙◌, ap, subst, inl, inr}
use Rattle.std.proofs.Common.{length, get_or, arith, find, IfSome}
use Rattle.std.specs.Prelude.{◌⊎◌, nat_le, Any, IsFalse}
use Rattle.std.specs.List.{All, AllPairs, list_any}
use Rattle.std.specs.BinaryHeap.{heap_items}
use Rattle.std.specs.declared.cmp.Reverse.{Reverse}
use Rattle.std.proofs.lemmas.Bool.{and_parts, or_cases, leb-true, eqb-true, eq-eqb, ne_eqb, false≢true}
use Rattle.std.proofs.lemmas.List.Elements.{All-nil, All-cons, All-contains}
use Rattle.std.proofs.lemmas.List.Folds.{Any-from_list_any}
use Rattle.rows_model.specs.declared.keys.QKey.{QKey}
use Rattle.lease_table.specs.declared.records.Quar.{Quar}
use Rattle.lease_table.specs.declared.records.Due.{Due}
use Rattle.lease_table.specs.declared.index.Term.{Term}
use Rattle.lease_table.specs.declared.index.Found.{Found}
use Rattle.lease_table.specs.declared.index.Index.{Index}
use Rattle.lease_table.specs.Leases.{has_token, StandBeside}
use Rattle.lease_table.specs.Expiry.{due_as, comes_before, StandsDue, NoneDueBefore, NoneDue}
use Rattle.lease_table.specs.Index.{is_same, is_later, is_found, is_listed, ListsEach, AllAhead, found_before}
use Rattle.lease_table.proofs.ListLemmas.{AllPairs-head, AllPairs-tail, find-cons_true, find-cons_false, find-passes}
use Rattle.lease_table.proofs.IndexLemmas.{is_same-true}

-- ---- a quarantine that stands is the one that has its token

pub find-own : (quars : List Quar) → AllPairs StandBeside quars → All (λ q. find (has_token q.token) quars ≡ Some q) quars
find-own [] beside = All-nil (λ q. find (has_token q.token) [] ≡ Some q)
find-own (q ∷ qs) beside =
    All-cons (λ r. find (has_token r.token) (q ∷ qs) ≡ Some r) q qs
    (find-cons_true (has_token q.token) q qs (eq-eqb q.token q.token refl))
    (λ k d within. let r = get_or qs k d in
    let below = (AllPairs-head StandBeside q qs beside k d within).in_order in
    find-cons_false (has_token r.token) q qs (ne_eqb q.token r.token (λ e. omega (arith, below)))
    ∙ find-own qs (AllPairs-tail StandBeside q qs beside) k d within)

-- what is found stands among the rest
Any-from_find : {X : Type 0} (P : X → Type 0) (p : X → Bool) (xs : List X) (x : X) → find p xs ≡ Some x → P x → Any P xs
Any-from_find P p [] x found holds = absurd (cc)
Any-from_find P p (y ∷ ys) x found holds =
    by_test (λ later. Any-from_find P p ys x later holds) (p y) refl
  where
    by_test : (find p ys ≡ Some x → Any P ys) → (b : Bool) → p y ≡ b → Any P (y ∷ ys)
    by_test rest true e =
        let here : find p (y ∷ ys) ≡ Some y = rw e refl in
        let same : y ≡ x = cc in
        (0, x, omega arith, same, holds)
    by_test rest false e =
        let past : find p (y ∷ ys) ≡ find p ys = rw e refl in
        let later = rest (sym past ∙ found) in
        (suc later.0, later.1, omega (arith, later.2), later.3, later.4)

-- a quarantine that is due stands and is told so
pub due-found : (now : ℕ) (standing : QKey → List Quar) (key : QKey) (token : ℕ) (quar : Quar) → find (has_token token) (standing key) ≡ Some quar
    → quar.deadline ≤ now → StandsDue now standing (record { key = key; sid = quar.sid; token = token })
due-found now standing key token quar found due =
    let its : quar.token ≡ token = eqb-true quar.token token (find-passes (has_token token) (standing key) quar found) in
    let same : due_as key quar ≡ record { key = key; sid = quar.sid; token = token } = λ i. record { key = key; sid = quar.sid; token = its i } in
    Any-from_find (λ q. (q.deadline ≤ now) × (◌≡◌ {A = Due} (record { key = key; sid = quar.sid; token = token }) (due_as key q)))
    (has_token token) (standing key) quar found (due, sym same)

-- ---- where the deadlines of all terms lie ahead, what isn't found does too

module _ (now : ℕ) (standing : QKey → List Quar) (index : Index) (lists : ListsEach standing index) (ahead : AllAhead now index)
    (beside : (key : QKey) → AllPairs StandBeside (standing key)) where
  -- each quarantine's deadline lies ahead, or it is found
  ahead-or_found : (key : QKey) (k : ℕ) (d : Quar) → k < length (standing key)
      → (now < (get_or (standing key) k d).deadline) ⊎ (list_any (is_found key (get_or (standing key) k d).token) (heap_items index.found) ≡ true)
  ahead-or_found key k d within =
      let q = get_or (standing key) k d in
      let own = find-own (standing key) (beside key) k d within in
      let listed : is_listed key q.token q.deadline index ≡ true =
      subst (λ o. IfSome o (λ r. is_listed key q.token r.deadline index ≡ true)) own (lists key q.token) in
      by_case q (or_cases _ _ listed)
    where
      by_case : (q : Quar) → (list_any (is_later key q.token q.deadline) (heap_items index.later) ≡ true)
          ⊎ (list_any (is_found key q.token) (heap_items index.found) ≡ true)
          → (now < q.deadline) ⊎ (list_any (is_found key q.token) (heap_items index.found) ≡ true)
      by_case q (inr h) = inr h
      by_case q (inl h) =
          let some = Any-from_list_any (is_later key q.token q.deadline) (heap_items index.later) h in
          let term = some.1 in
          let parts = and_parts (is_same key q.token term.0.key term.0.token) (nat_le term.0.deadline q.deadline) some.4 in
          let before = leb-true term.0.deadline q.deadline parts.1 in
          let far = All-contains (λ (t : Reverse Term). now < t.0.deadline) (heap_items index.later) term ahead (some.0, some.2, some.3) in
          inl (omega (arith, before, far))

  -- nothing is found
  pub none-due : heap_items index.found ≡ [] → NoneDue now standing
  none-due empty = λ key k d within. by_case key (get_or (standing key) k d) (ahead-or_found key k d within)
    where
      by_case : (key : QKey) (q : Quar) → (now < q.deadline) ⊎ (list_any (is_found key q.token) (heap_items index.found) ≡ true) → now < q.deadline
      by_case key q (inl far) = far
      by_case key q (inr some) =
          absurd (false≢true (ap (list_any (is_found key q.token)) (sym empty) ∙ some))

  -- nothing that is found comes before this
  module _ (top : Found) (least : All (λ other. IsFalse (found_before other.0 top)) (heap_items index.found))
      (due : Due) (keys : due.key ≡ top.key) (tokens : due.token ≡ top.token) where
    pub none-before : NoneDueBefore now standing due
    none-before = λ key k d within late. by_case key (get_or (standing key) k d) late (ahead-or_found key k d within)
      where
        by_case : (key : QKey) (q : Quar) → q.deadline ≤ now
            → (now < q.deadline) ⊎ (list_any (is_found key q.token) (heap_items index.found) ≡ true) → comes_before (due_as key q) due ≡ false
        by_case key q late (inl far) = absurd (omega arith)
        by_case key q late (inr some) =
            let found = Any-from_list_any (is_found key q.token) (heap_items index.found) some in
            let other = found.1 in
            let same = is_same-true key q.token other.0.key other.0.token found.4 in
            let after = All-contains (λ (f : Reverse Found). IsFalse (found_before f.0 top)) (heap_items index.found) other least (found.0, found.2, found.3) in
            (λ i. found_before (record { key = same.0 i; token = sym same.1 i }) (record { key = keys i; token = tokens i })) ∙ after
