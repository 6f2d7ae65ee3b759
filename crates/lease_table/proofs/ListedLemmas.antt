-- That each quarantine that stands is listed, as quarantines come, change and go.
use Rattle.std.proofs.Common.{◌≡◌, ℕ, Bool, true, false, not, Option, Some, None, List, [], ◌∷◌, ◌++◌, sym, refl, ◌∙◌, ap, subst, map, filter}
use Rattle.std.proofs.Common.{find, IfSome}
use Rattle.std.specs.Prelude.{◌==◌, ◌&&◌, option_map}
use Rattle.std.specs.Option.{option_or}
use Rattle.std.specs.List.{All}
use Rattle.std.specs.BTreeMap.{BTreeMap}
use Rattle.std.proofs.lemmas.Bool.{eqb-true, eq-eqb, ne_eqb, false≢true, not-true}
use Rattle.std.proofs.lemmas.List.Elements.{All-weaker, filter_passes}
use Rattle.std.proofs.lemmas.List.Folds.{find-append}
use Rattle.std.proofs.lemmas.Option.{IfSome_then}
use Rattle.rows_model.specs.declared.keys.QKey.{QKey}
use Rattle.rows_model.specs.Key.{same_key}
use Rattle.rows_model.proofs.SameKey.{same_key-true, same_key-swap}
use Rattle.lease_table.specs.declared.records.Quar.{Quar}
use Rattle.lease_table.specs.declared.records.ReadLease.{ReadLease}
use Rattle.lease_table.specs.declared.records.KeyLeases.{KeyLeases}
use Rattle.lease_table.specs.declared.index.Index.{Index}
use Rattle.lease_table.specs.Leases.{has_token, raised, renewed}
use Rattle.lease_table.specs.Index.{is_same, is_listed, ListsOn, ListsEach, KeepsOthers}
use Rattle.lease_table.specs.Standing.{quars_of, stands_in, PutsOn}
use Rattle.lease_table.proofs.ListLemmas.{find-cons_true, find-cons_false, find-passes, find-no, find-filter, find-map}

-- ---- on one key

-- what holds of either of two
IfSome-or : {X : Type 0} (P : X → Type 0) (o more : Option X) → IfSome o P → IfSome more P → IfSome (option_or o more) P
IfSome-or P None more h new = new
IfSome-or P (Some x) more h new = h

-- what holds of the only one, where it passes
IfSome-one : {X : Type 0} (P : X → Type 0) (p : X → Bool) (x : X) → (p x ≡ true → P x) → IfSome (find p (x ∷ [])) P
IfSome-one P p x holds = by_test (p x) refl
  where
    by_test : (b : Bool) → p x ≡ b → IfSome (find p (x ∷ [])) P
    by_test true e = subst (λ o. IfSome o P) (sym (find-cons_true p x [] e)) (holds e)
    by_test false e = subst (λ o. IfSome o P) (sym (find-cons_false p x [] e)) tt

-- what holds of the one that was changed
IfSome-map : {X : Type 0} (P : X → Type 0) (f : X → X) (o : Option X) → IfSome o (λ x. P (f x)) → IfSome (option_map f o) P
IfSome-map P f None h = tt
IfSome-map P f (Some x) h = h

module _ (key : QKey) (quars : List Quar) (index : Index) (lists : ListsOn key quars index) where
  -- one more is listed
  pub ListsOn-more : (q : Quar) → is_listed key q.token q.deadline index ≡ true → ListsOn key (quars ++ q ∷ []) index
  ListsOn-more q listed = λ token.
      let P = λ (r : Quar). is_listed key token r.deadline index ≡ true in
      subst (λ o. IfSome o P) (sym (find-append (has_token token) quars (q ∷ [])))
      (IfSome-or P (find (has_token token) quars) (find (has_token token) (q ∷ [])) (lists token)
      (IfSome-one P (has_token token) q (λ e. subst (λ t. is_listed key t q.deadline index ≡ true) (eqb-true q.token token e) listed)))

  -- those of a token are left out
  pub ListsOn-less : (t : ℕ) → ListsOn key (filter (λ q. not (has_token t q)) quars) index
  ListsOn-less t = λ token. by_token token (token == t) refl
    where
      by_token : (token : ℕ) (b : Bool) → (token == t) ≡ b
          → IfSome (find (has_token token) (filter (λ q. not (has_token t q)) quars)) (λ q. is_listed key token q.deadline index ≡ true)
      by_token token true e =
          let same = eqb-true token t e in
          let none = find-no (has_token token) (filter (λ q. not (has_token t q)) quars)
          (subst (λ u. All (λ q. has_token u q ≡ false) (filter (λ q. not (has_token t q)) quars)) (sym same)
          (All-weaker (λ q. not (has_token t q) ≡ true) (λ q. has_token t q ≡ false) (λ q stays. not-true (has_token t q) stays) _
          (filter_passes (λ q. not (has_token t q)) quars))) in
          subst (λ o. IfSome o (λ q. is_listed key token q.deadline index ≡ true)) (sym none) tt
      by_token token false e =
          subst (λ o. IfSome o (λ q. is_listed key token q.deadline index ≡ true))
          (sym (find-filter (has_token token) (λ q. not (has_token t q)) quars (λ q its. ap not (apart token q e its)))) (lists token)
        where
          apart : (token : ℕ) (q : Quar) → (token == t) ≡ false → has_token token q ≡ true → has_token t q ≡ false
          apart token q e its = subst (λ u. (u == t) ≡ false) (sym (eqb-true q.token token its)) e

-- ---- what a change of a quarantine leaves

pub raised-token : (t : ℕ) (q : Quar) → (raised t q).token ≡ q.token
raised-token t q = by_test (has_token t q) refl
  where
    by_test : (b : Bool) → has_token t q ≡ b → (raised t q).token ≡ q.token
    by_test true e = rw e refl
    by_test false e = rw e refl

pub raised-deadline : (t : ℕ) (q : Quar) → (raised t q).deadline ≡ q.deadline
raised-deadline t q = by_test (has_token t q) refl
  where
    by_test : (b : Bool) → has_token t q ≡ b → (raised t q).deadline ≡ q.deadline
    by_test true e = rw e refl
    by_test false e = rw e refl

pub renewed-token : (t deadline : ℕ) (q : Quar) → (renewed t deadline q).token ≡ q.token
renewed-token t deadline q = by_test (has_token t q) refl
  where
    by_test : (b : Bool) → has_token t q ≡ b → (renewed t deadline q).token ≡ q.token
    by_test true e = rw e refl
    by_test false e = rw e refl

-- the one of the token has the new deadline, and each other has the one that it had
renewed-its : (t deadline : ℕ) (q : Quar) → has_token t q ≡ true → (renewed t deadline q).deadline ≡ deadline
renewed-its t deadline q e = rw e refl

renewed-other : (t deadline : ℕ) (q : Quar) → has_token t q ≡ false → (renewed t deadline q).deadline ≡ q.deadline
renewed-other t deadline q e = rw e refl

-- a quarantine is raised
pub ListsOn-raised : (key : QKey) (quars : List Quar) (index : Index) (t : ℕ) → ListsOn key quars index → ListsOn key (map (raised t) quars) index
ListsOn-raised key quars index t lists = λ token.
    let P = λ (q : Quar). is_listed key token q.deadline index ≡ true in
    let found = find-map (has_token token) (raised t) (λ q. ap (λ u. u == token) (raised-token t q)) quars in
    subst (λ o. IfSome o P) (sym found) (IfSome-map P (raised t) (find (has_token token) quars)
    (IfSome_then (find (has_token token) quars) (lists token)
    (λ q listed. subst (λ u. is_listed key token u index ≡ true) (sym (raised-deadline t q)) listed)))

-- ---- a quarantine gets another deadline

-- another token of a key isn't the same
no_second : (a b : Bool) → b ≡ false → (a && b) ≡ false
no_second true b e = e
no_second false b e = refl

other_token : (key : QKey) (token t : ℕ) → (token == t) ≡ false → is_same key token key t ≡ false
other_token key token t apart =
    no_second (same_key key key) (t == token) (ne_eqb t token (λ e. false≢true (sym apart ∙ eq-eqb token t (sym e))))

module _ (key : QKey) (t deadline : ℕ) (old new : Index) (others : KeepsOthers key t old new) (listed : is_listed key t deadline new ≡ true) where
  -- on its key
  renewed-listed : (quars : List Quar) → ListsOn key quars old → (token : ℕ) (o : Option Quar) → find (has_token token) quars ≡ o
      → IfSome o (λ q. is_listed key token q.deadline old ≡ true) → IfSome o (λ q. is_listed key token (renewed t deadline q).deadline new ≡ true)
  renewed-listed quars lists token None found before = tt
  renewed-listed quars lists token (Some q) found before = by_token (token == t) refl
    where
      its : q.token ≡ token
      its = eqb-true q.token token (find-passes (has_token token) quars q found)

      by_token : (b : Bool) → (token == t) ≡ b → is_listed key token (renewed t deadline q).deadline new ≡ true
      by_token true e =
          let same : q.token ≡ t = its ∙ eqb-true token t e in
          let new_one = renewed-its t deadline q (eq-eqb q.token t same) in
          (λ i. is_listed key (eqb-true token t e i) (new_one i) new) ∙ listed
      by_token false e =
          let kept = renewed-other t deadline q (subst (λ u. (u == t) ≡ false) (sym its) e) in
          subst (λ u. is_listed key token u new ≡ true) (sym kept) (others.each key token q.deadline (other_token key token t e) before)

  pub ListsOn-renewed : (quars : List Quar) → ListsOn key quars old → ListsOn key (map (renewed t deadline) quars) new
  ListsOn-renewed quars lists = λ token.
      let P = λ (q : Quar). is_listed key token q.deadline new ≡ true in
      let found = find-map (has_token token) (renewed t deadline) (λ q. ap (λ u. u == token) (renewed-token t deadline q)) quars in
      subst (λ o. IfSome o P) (sym found) (IfSome-map P (renewed t deadline) (find (has_token token) quars)
      (renewed-listed quars lists token (find (has_token token) quars) refl (lists token)))

  -- on each other key
  pub ListsOn-others : (k : QKey) (quars : List Quar) → same_key key k ≡ false → ListsOn k quars old → ListsOn k quars new
  ListsOn-others k quars apart lists = λ token.
      IfSome_then (find (has_token token) quars) (lists token) (λ q before. others.each k token q.deadline (no_key token) before)
    where
      no_key : (token : ℕ) → is_same k token key t ≡ false
      no_key token = ap (λ b. b && (t == token)) (same_key-swap k key ∙ apart)

-- ---- on each key

-- a change of the map on one key
pub ListsEach-puts : (key : QKey) (standing : List Quar) (readers : List ReadLease) (old new : BTreeMap QKey KeyLeases) (index : Index)
    → PutsOn key standing readers old new → ListsOn key standing index
    → ((k : QKey) → same_key key k ≡ false → ListsOn k (stands_in old k) index) → ListsEach (stands_in new) index
ListsEach-puts key standing readers old new index puts here elsewhere = λ k. by_key k (same_key key k) refl
  where
    by_key : (k : QKey) (b : Bool) → same_key key k ≡ b → ListsOn k (stands_in new k) index
    by_key k true same =
        subst (λ x. ListsOn x (stands_in new x) index) (same_key-true key k same)
        (subst (λ quars. ListsOn key quars index) (sym puts.quars_there) here)
    by_key k false apart =
        subst (λ there. ListsOn k (quars_of there) index) (sym (puts.elsewhere k apart)) (elsewhere k apart)
