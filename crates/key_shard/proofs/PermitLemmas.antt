-- The quarantine of a permit, among those that stand on a key.
use Rattle.std.proofs.Common.{ℕ, ◌≡◌, ◌≢◌, ◌==◌, Bool, true, false, not, cond, ◌&&◌, List, [], ◌∷◌, filter, find, Some, refl, sym, ap, ◌∙◌, inl, inr}
use Rattle.std.specs.List.{list_any}
use Rattle.std.proofs.lemmas.Bool.{false≢true, eqb-true, and_parts, or_cases, false_from_ne_true}
use Rattle.std.proofs.lemmas.Map.Views.{any-filter_same}
use Rattle.rows_model.specs.declared.keys.Sid.{Sid}
use Rattle.case_tables.specs.Compatibility.{same_way}
use Rattle.lease_table.specs.declared.records.Mode.{Mode}
use Rattle.lease_table.specs.declared.records.Mode.TheVariants.{Invalidate, Refresh, Delta}
use Rattle.lease_table.specs.declared.records.Quar.{Quar}
use Rattle.lease_table.specs.Leases.{has_token, way_of}
use Rattle.key_shard.specs.Permit.{Permit}
use Rattle.key_shard.specs.Answers.{IsOf}
use Rattle.key_shard.proofs.LegalLemmas.{AllOfOwnToken, some-passes}

-- whether a quarantine is the one of which a permit speaks: of its session, in its mode, under its token
abbrev pub is_of_permit : Permit → Quar → Bool
is_of_permit permit quar =
    (quar.sid.number == permit.sid.number) && same_way (way_of quar.mode) (way_of permit.mode) && (quar.token == permit.token)

mode_is : (a b : Mode) → same_way (way_of a) (way_of b) ≡ true → a ≡ b
mode_is Invalidate Invalidate e = refl
mode_is Invalidate Refresh e = absurd (false≢true e)
mode_is Invalidate Delta e = absurd (false≢true e)
mode_is Refresh Invalidate e = absurd (false≢true e)
mode_is Refresh Refresh e = refl
mode_is Refresh Delta e = absurd (false≢true e)
mode_is Delta Invalidate e = absurd (false≢true e)
mode_is Delta Refresh e = absurd (false≢true e)
mode_is Delta Delta e = refl

of_permit : (permit : Permit) (quar : Quar) → is_of_permit permit quar ≡ true → IsOf permit quar × ((quar.token == permit.token) ≡ true)
of_permit permit quar h =
    let last = and_parts _ _ h in
    let first = and_parts _ _ last.0 in (
      record {
        sid = ap (λ (n : ℕ). record { number = n }) (eqb-true quar.sid.number permit.sid.number first.0);
        mode = mode_is quar.mode permit.mode first.1;
      },
      last.1,
    )

-- it is the one of its token
pub find_permit : (permit : Permit) (quars : List Quar) → AllOfOwnToken quars → list_any (is_of_permit permit) quars ≡ true
    → (quar : Quar) × (find (has_token permit.token) quars ≡ Some quar) × IsOf permit quar
find_permit permit [] h e = absurd (false≢true e)
find_permit permit (quar ∷ quars) h e =
    elim (or_cases (is_of_permit permit quar) (list_any (is_of_permit permit) quars) e) [
      | inl here ↦ let is = of_permit permit quar here in
          (quar, ap (λ b. cond b (Some quar) (find (has_token permit.token) quars)) is.1, is.0)
      | inr there ↦
          let other = some-passes (λ q. quar.token ≢ q.token) (is_of_permit permit) quars h.0 there in
          let theirs : other.0.token ≡ permit.token = eqb-true _ _ (of_permit permit other.0 other.2).1 in
          let apart : (quar.token == permit.token) ≡ false =
          false_from_ne_true (quar.token == permit.token) (λ same. other.1 (eqb-true _ _ same ∙ sym theirs)) in
          let found = find_permit permit quars h.1 there in
          (found.0, ap (λ b. cond b (Some quar) (find (has_token permit.token) quars)) apart ∙ found.1, found.2)
    ]

-- the end of one session's quarantine leaves another's
pub stays_permit : (permit gone : Permit) (quars : List Quar)
    → AllOfOwnToken quars → list_any (is_of_permit permit) quars ≡ true → list_any (is_of_permit gone) quars ≡ true
    → permit.sid.number ≢ gone.sid.number → list_any (is_of_permit permit) (filter (λ q. not (has_token gone.token q)) quars) ≡ true
stays_permit permit gone quars h mine theirs apart =
    any-filter_same (is_of_permit permit) (λ q. not (has_token gone.token q)) true each quars ∙ mine
  where
    some_same : {a b : Quar} → Some a ≡ Some b → a ≡ b
    some_same e = cc

    others : permit.token ≢ gone.token
    others same =
        let a = find_permit permit quars h mine in
        let b = find_permit gone quars h theirs in
        let one : a.0 ≡ b.0 = some_same (sym a.1 ∙ ap (λ t. find (has_token t) quars) same ∙ b.1) in
        apart (ap (λ (s : Sid). s.number) (sym a.2.sid ∙ ap (λ (q : Quar). q.sid) one ∙ b.2.sid))

    each : (q : Quar) → is_of_permit permit q ≡ true → not (has_token gone.token q) ≡ true
    each q is =
        let tok = eqb-true _ _ (of_permit permit q is).1 in
        ap not (false_from_ne_true (q.token == gone.token) (λ same. others (sym tok ∙ eqb-true _ _ same)))
