-- The steps that grant what a permit speaks of, and a raise where no quarantine of its token stands.
use Rattle.std.proofs.Common.{ℕ, ◌≡◌, ◌==◌, ◌&&◌, Bool, true, false, cond, List, [], ◌∷◌, find, None, inl, inr, refl, sym, ap, ◌∙◌}
use Rattle.std.specs.Prelude.{ℤ}
use Rattle.std.specs.List.{list_any}
use Rattle.std.proofs.lemmas.Bool.{false≢true, eq-eqb, eqb-true, and_from, and_parts, or_cases, or_left, or_right}
use Rattle.std.proofs.lemmas.List.Folds.{list_any_none}
use Rattle.std.proofs.lemmas.List.Elements.{All-weaker}
use Rattle.rows_model.specs.declared.keys.QKey.{QKey}
use Rattle.rows_model.specs.declared.keys.Sid.{Sid}
use Rattle.rows_model.specs.Key.{same_key}
use Rattle.rows_model.proofs.SameKey.{same_key-true, same_key-refl}
use Rattle.lease_table.specs.declared.records.Mode.{Mode}
use Rattle.lease_table.specs.declared.records.Quar.{Quar}
use Rattle.lease_table.specs.Leases.{has_token, is_of, is_raisable, first, others_in, way_of, holding_of}
use Rattle.lease_table.proofs.ListLemmas.{find-none}
use Rattle.case_tables.specs.Compatibility.{is_invalidate, verdict, raise}
use Rattle.case_tables.specs.declared.grids.Verdict.TheVariants as verdicts
use Rattle.key_shard.specs.declared.steps.Step.{Step}
use Rattle.key_shard.specs.declared.steps.Step.TheVariants.{Hit, Lease, Again, Own, Stored, Void, Granted, Held, Refused, Released, Gone, Raised, Shared, Renewed}
use Rattle.key_shard.specs.Permit.{Permit}
use Rattle.key_shard.specs.Past.{grants}
use Rattle.key_shard.specs.Answers.{WasGranted, raise_by, raise_among}

-- a step that grants what a permit speaks of draws its token, on its key, for its session
record GrantsIt (permit : Permit) (key : QKey) (sid : Sid) (token : ℕ) : Type 0 where
  same : permit.key ≡ key
  whose : permit.sid ≡ sid
  drawn : permit.token ≡ token

sid-is : (a b : Sid) → a.number ≡ b.number → a ≡ b
sid-is a b e = ap (λ (n : ℕ). record { number = n }) e

grants-it : (permit : Permit) (on : QKey) (sid : Sid) (token : ℕ)
    → (same_key permit.key on && (permit.sid.number == sid.number) && (permit.token == token)) ≡ true → GrantsIt permit on sid token
grants-it permit on sid token e =
    let first = and_parts (same_key permit.key on && (permit.sid.number == sid.number)) (permit.token == token) e in
    let both = and_parts (same_key permit.key on) (permit.sid.number == sid.number) first.0 in
    record {
      same = same_key-true permit.key on both.0;
      whose = sid-is permit.sid sid (eqb-true permit.sid.number sid.number both.1);
      drawn = eqb-true permit.token token first.1;
    }

-- what holds of each step that grants it holds of one that does
grants-cases : (P : Step → Type 0) (permit : Permit)
    → ((on : QKey) (sid : Sid) (mode : Mode) (shift : ℤ) (now token deadline : ℕ)
    → GrantsIt permit on sid token → P (Granted on sid mode shift now token deadline))
    → (s : Step) → grants permit s ≡ true → P s
grants-cases P permit h (Granted on sid mode shift now token deadline) e = h on sid mode shift now token deadline (grants-it permit on sid token e)
grants-cases P permit h (Hit on sid floor value stamp) e = absurd (false≢true e)
grants-cases P permit h (Lease on sid floor now token deadline) e = absurd (false≢true e)
grants-cases P permit h (Again on sid floor now stands) e = absurd (false≢true e)
grants-cases P permit h (Own on sid) e = absurd (false≢true e)
grants-cases P permit h (Stored on token now value stamp evicted) e = absurd (false≢true e)
grants-cases P permit h (Void on token now) e = absurd (false≢true e)
grants-cases P permit h (Held on sid mode) e = absurd (false≢true e)
grants-cases P permit h (Refused on sid mode holder held) e = absurd (false≢true e)
grants-cases P permit h (Released on sid token how) e = absurd (false≢true e)
grants-cases P permit h (Gone on sid token) e = absurd (false≢true e)
grants-cases P permit h (Raised on sid token) e = absurd (false≢true e)
grants-cases P permit h (Shared on sid token holder) e = absurd (false≢true e)
grants-cases P permit h (Renewed on sid token now deadline) e = absurd (false≢true e)

-- a grant of the same key, session and token is one of the same quarantine
grants-same : (p q : Permit) → q.key ≡ p.key → q.sid ≡ p.sid → q.token ≡ p.token → (s : Step) → grants p s ≡ true → grants q s ≡ true
grants-same p q key sid token =
    grants-cases (λ s. grants q s ≡ true) p (λ on who mode shift now drawn deadline it.
    and_from (same_key q.key on && (q.sid.number == who.number)) (q.token == drawn)
    (and_from (same_key q.key on) (q.sid.number == who.number) (ap (same_key q.key) (sym (key ∙ it.same)) ∙ same_key-refl q.key)
    (eq-eqb q.sid.number who.number (ap (λ (x : Sid). x.number) (sid ∙ it.whose)))) (eq-eqb q.token drawn (token ∙ it.drawn)))

pub granted-same : (p q : Permit) → q.key ≡ p.key → q.sid ≡ p.sid → q.token ≡ p.token → (past : List Step) → WasGranted past p → WasGranted past q
granted-same p q key sid token [] e = absurd (false≢true e)
granted-same p q key sid token (s ∷ past) e =
    elim (or_cases (grants p s) (list_any (grants p) past) e) [
      | inl here ↦ or_left (grants q s) (list_any (grants q) past) (grants-same p q key sid token s here)
      | inr there ↦ or_right (grants q s) (list_any (grants q) past) (granted-same p q key sid token past there)
    ]

-- where no quarantine of its token stands a raise is gone
no-second : (a c : Bool) → (a && (false && c)) ≡ false
no-second true c = refl
no-second false c = refl

pub raise-gone : (permit : Permit) (quars : List Quar) → find (has_token permit.token) quars ≡ None
    → raise_among permit quars ≡ Gone permit.key permit.sid permit.token
raise-gone permit quars none =
    ap (λ b. raise_by permit (first (others_in permit.sid quars)) (cond b (verdict (holding_of permit.sid 0 None quars) raise) verdicts.Gone))
    (list_any_none (is_raisable permit.sid permit.token) quars
    (All-weaker (λ quar. has_token permit.token quar ≡ false) (λ quar. is_raisable permit.sid permit.token quar ≡ false)
    (λ quar other. ap (λ b. is_of permit.sid quar && (b && is_invalidate (way_of quar.mode))) other
    ∙ no-second (is_of permit.sid quar) (is_invalidate (way_of quar.mode))) quars (find-none (has_token permit.token) quars none)))
