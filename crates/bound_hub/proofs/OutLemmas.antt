-- The grants that are out of a shard after a step: each was out before, or is the step's own.
use Rattle.std.proofs.Common.{ℕ, ◌≡◌, ◌⊎◌, ◌<◌, ◌==◌, ◌&&◌, Bool, true, false, not, cond, List, [], ◌∷◌, map, filter, refl, sym, subst, ◌∙◌, inl, inr, ⊎_elim}
use Rattle.std.specs.List.{list_any}
use Rattle.std.proofs.lemmas.Bool.{false≢true, eq-eqb, and_from, or_cases, or_left, or_right}
use Rattle.std.proofs.lemmas.List.Folds.{list_any-append}
use Rattle.rows_model.specs.declared.keys.QKey.{QKey}
use Rattle.rows_model.specs.Key.{same_key}
use Rattle.rows_model.proofs.SameKey.{same_key-refl}
use Rattle.case_tables.specs.Compatibility.{Way, invalidate, refresh, delta, same_way}
use Rattle.lease_table.specs.declared.records.Mode.TheVariants.{Refresh}
use Rattle.lease_table.specs.Leases.{way_of}
use Rattle.key_shard.specs.declared.steps.Step.{Step}
use Rattle.key_shard.specs.declared.steps.Step.TheVariants as step
use Rattle.key_shard.specs.Past.{Terms, grants, next_token}
use Rattle.key_shard.specs.Permit.{Permit, same_permit}
use Rattle.key_shard.specs.Shards.{out_after, raised_permit, without_permit}
use Rattle.key_shard.proofs.OutLemmas.{same_permit-true}
use Rattle.key_freshness.proofs.MarkLemmas.{by_test}
use Rattle.bound_hub.specs.Facts.{WasGrantedOr}

-- the permit speaks of the same quarantine
pub record IsOfSame (other permit : Permit) : Type 0 where
  pub key : other.key ≡ permit.key
  pub sid : other.sid ≡ permit.sid
  pub token : other.token ≡ permit.token

-- each grant that is out now is the step's own, or one of the same quarantine was out before
abbrev pub AreOutOr : List Permit → List Permit → Step → Type 0
AreOutOr old new s =
    (permit : Permit) → list_any (same_permit permit) new ≡ true
    → (grants permit s ≡ true) ⊎ ((other : Permit) × (list_any (same_permit other) old ≡ true) × IsOfSame other permit)

same_way-refl : (w : Way) → same_way w w ≡ true
same_way-refl invalidate = refl
same_way-refl refresh = refl
same_way-refl delta = refl

same_permit-refl : (p : Permit) → same_permit p p ≡ true
same_permit-refl p =
    and_from _ (p.token == p.token)
    (and_from _ (same_way (way_of p.mode) (way_of p.mode))
    (and_from _ (p.sid.number == p.sid.number) (and_from (p.shard == p.shard) (same_key p.key p.key) (eq-eqb p.shard p.shard refl) (same_key-refl p.key)) (eq-eqb p.sid.number p.sid.number refl))
    (same_way-refl (way_of p.mode)))
    (eq-eqb p.token p.token refl)

-- a quarantine's own step grants it
grants-own : (terms : Terms) (s : Step) (permit : Permit) → list_any (same_permit permit) (out_after terms s []) ≡ true → grants permit s ≡ true
grants-own terms (step.Granted on sid mode shift now token deadline) permit h =
    let it : Permit = record { shard = terms.no; key = on; sid = sid; mode = mode; token = token } in
    ⊎_elim
    (λ same. subst (λ (p : Permit). grants p (step.Granted on sid mode shift now token deadline) ≡ true) (same_permit-true permit it same) own)
    (λ none. absurd (false≢true none))
    (or_cases (same_permit permit it) false h)
  where
    own : (same_key on on && (sid.number == sid.number) && (token == token)) ≡ true
    own = and_from _ (token == token) (and_from (same_key on on) (sid.number == sid.number) (same_key-refl on) (eq-eqb sid.number sid.number refl)) (eq-eqb token token refl)
grants-own terms (step.Raised on sid token) permit h = absurd (false≢true h)
grants-own terms other permit h = absurd (false≢true h)

raised_same : (on : QKey) (token : ℕ) (p : Permit) → IsOfSame p (raised_permit on token p)
raised_same on token p =
    by_test (λ b. IsOfSame p (cond b (record { shard = p.shard; key = p.key; sid = p.sid; mode = Refresh; token = p.token }) p)) (same_key on p.key && (p.token == token))
    (λ _. record { key = refl; sid = refl; token = refl })
    (λ _. record { key = refl; sid = refl; token = refl })

-- one of the same quarantine is among these
abbrev HasSame : List Permit → Permit → Type 0
HasSame old permit = (other : Permit) × (list_any (same_permit other) old ≡ true) × IsOfSame other permit

one_more : (first : Permit) (old : List Permit) (permit : Permit) → HasSame old permit → HasSame (first ∷ old) permit
one_more first old permit h = (h.0, or_right (same_permit h.0 first) (list_any (same_permit h.0) old) h.1, h.2)

raised_outs : (on : QKey) (token : ℕ) (old : List Permit) (permit : Permit) → list_any (same_permit permit) (map (raised_permit on token) old) ≡ true → HasSame old permit
raised_outs on token [] permit h = absurd (false≢true h)
raised_outs on token (first ∷ old) permit h =
    ⊎_elim
    (λ same. (
      first,
      or_left (same_permit first first) (list_any (same_permit first) old) (same_permit-refl first),
      subst (IsOfSame first) (same_permit-true permit (raised_permit on token first) same) (raised_same on token first),
    ))
    (λ there. one_more first old permit (raised_outs on token old permit there))
    (or_cases (same_permit permit (raised_permit on token first)) (list_any (same_permit permit) (map (raised_permit on token) old)) h)

itself : (old : List Permit) (permit : Permit) → list_any (same_permit permit) old ≡ true → HasSame old permit
itself old permit h = (permit, h, record { key = refl; sid = refl; token = refl })

-- after a step that a shard stands after
pub outs_stepped : (terms : Terms) (old : List Permit) (s : Step) → AreOutOr old (out_after terms s old) s
outs_stepped terms old (step.Granted on sid mode shift now token deadline) permit h =
    let it : Permit = record { shard = terms.no; key = on; sid = sid; mode = mode; token = token } in
    ⊎_elim
    (λ was. inr (itself old permit was))
    (λ new. inl (grants-own terms (step.Granted on sid mode shift now token deadline) permit new))
    (or_cases (list_any (same_permit permit) old) (list_any (same_permit permit) (it ∷ [])) (sym (list_any-append (same_permit permit) old (it ∷ [])) ∙ h))
outs_stepped terms old (step.Raised on sid token) permit h = inr (raised_outs on token old permit h)
outs_stepped terms old other permit h = inr (itself old permit h)

any_filtered : (p q : Permit → Bool) (xs : List Permit) → list_any p (filter q xs) ≡ true → list_any p xs ≡ true
any_filtered p q [] h = h
any_filtered p q (x ∷ xs) h =
    by_test (λ b. list_any p (cond b (x ∷ filter q xs) (filter q xs)) ≡ true → list_any p (x ∷ xs) ≡ true) (q x)
    (λ _ k. ⊎_elim (λ here. or_left (p x) (list_any p xs) here) (λ there. or_right (p x) (list_any p xs) (any_filtered p q xs there)) (or_cases (p x) (list_any p (filter q xs)) k))
    (λ _ k. or_right (p x) (list_any p xs) (any_filtered p q xs k))
    h

-- and after one that ends a grant
pub outs_returned : (grant : Permit) (old : List Permit) (s : Step) → AreOutOr old (without_permit grant old) s
outs_returned grant old s permit h = inr (itself old permit (any_filtered (same_permit permit) (λ other. not (same_permit grant other)) old h))

-- a step grants the same to each permit of one quarantine
same_grant : (other permit : Permit) → IsOfSame other permit → (s : Step) → grants other s ≡ grants permit s
same_grant other permit same (step.Granted on sid mode shift now token deadline) =
    λ i. same_key (same.key i) on && ((same.sid i).number == sid.number) && (same.token i == token)
same_grant other permit same x = refl

same_grants : (other permit : Permit) → IsOfSame other permit → (more : List Step) → list_any (grants other) more ≡ true → list_any (grants permit) more ≡ true
same_grants other permit same [] h = h
same_grants other permit same (s ∷ more) h =
    ⊎_elim
    (λ here. or_left (grants permit s) (list_any (grants permit) more) (sym (same_grant other permit same s) ∙ here))
    (λ there. or_right (grants permit s) (list_any (grants permit) more) (same_grants other permit same more there))
    (or_cases (grants other s) (list_any (grants other) more) h)

-- so each grant that is out was granted since, or its token was drawn before
pub granted_since : (terms : Terms) (before more : List Step) (s : Step) (old new : List Permit) → AreOutOr old new s
    → ((permit : Permit) → list_any (same_permit permit) old ≡ true → WasGrantedOr terms before more permit)
    → (permit : Permit) → list_any (same_permit permit) new ≡ true → WasGrantedOr terms before (s ∷ more) permit
granted_since terms before more s old new out were permit is =
    ⊎_elim
    (λ own. inl (or_left (grants permit s) (list_any (grants permit) more) own))
    (λ had. ⊎_elim
    (λ granted. inl (or_right (grants permit s) (list_any (grants permit) more) (same_grants had.0 permit had.2 more granted)))
    (λ low. inr (subst (λ (t : ℕ). t < next_token terms before) had.2.token low))
    (were had.0 had.1))
    (out permit is)
