-- A lease to read is a moment of nobody, and while it is recorded no quarantine was granted.
use Rattle.std.proofs.Common.{ℕ, ◌≡◌, ◌⊎◌, ◌≤◌, ◌<◌, ◌==◌, true, cond, nat_lt, List, [], ◌∷◌, ◌++◌, Option, None, Some, refl, sym, ap, subst, ◌∙◌, inl, inr, ⊎_elim, arith}
use Rattle.std.proofs.lemmas.Bool.{false≢true, eqb-true, and_parts}
use Rattle.rows_model.specs.declared.keys.QKey.{QKey}
use Rattle.rows_model.specs.declared.keys.Sid.{Sid}
use Rattle.rows_model.specs.Key.{same_key}
use Rattle.lease_table.specs.declared.records.ReadLease.{ReadLease}
use Rattle.lease_table.specs.Leases.{is_current}
use Rattle.key_shard.specs.declared.steps.Step.{Step}
use Rattle.key_shard.specs.declared.steps.Step.TheVariants as step
use Rattle.key_shard.specs.Past.{Terms, standing, recorded, entry, next_token}
use Rattle.key_shard.specs.Answers.{IsLegalPast}
use Rattle.key_shard.proofs.VoidLemmas.{void-was}
use Rattle.sql_keeper.specs.Fresh.{quarantines}
use Rattle.key_freshness.specs.Marks.{Granted, Has, marks_in, marks_of}
use Rattle.key_freshness.specs.Known.{Known, IsRuled}
use Rattle.key_freshness.specs.Moments.{IsMoment}
use Rattle.key_freshness.specs.Held.{IsTied}
use Rattle.key_freshness.proofs.GrantMarks.{step-granted}
use Rattle.key_freshness.proofs.MarkLemmas.{by_test, has-split}
use Rattle.key_freshness.proofs.MomentSteps.{moment-of-none}
use Rattle.bound_hub.specs.Facts.{stamp_of, IsQuiet}
use Rattle.bound_hub.proofs.MadeLemmas.{well_made}
use Rattle.bound_hub.proofs.PastLemmas.{legal_tied}

-- the lease that is recorded has this token, if it is current
pub current_lease : (token now : ℕ) (reader : Option ReadLease) → is_current token now reader ≡ true → (lease : ReadLease) × (reader ≡ Some lease) × (lease.token ≡ token)
current_lease token now None e = absurd (false≢true e)
current_lease token now (Some lease) e = (lease, refl, eqb-true lease.token token (and_parts (lease.token == token) (nat_lt now lease.deadline) e).0)

-- the step gives a lease of this token
abbrev Gives : ℕ → Step → Type 0
Gives token (step.Lease on sid floor now its deadline) = its ≡ token
Gives token other = ⊥

some_same : {a b : ReadLease} → Some a ≡ Some b → a ≡ b
some_same e = cc

-- a lease that is recorded was recorded before, or the step gave it
recorded_back : (key : QKey) (s : Step) (past : List Step) (lease : ReadLease) → recorded key (s ∷ past) ≡ Some lease
    → (recorded key past ≡ Some lease) ⊎ Gives lease.token s
recorded_back key (step.Lease on sid floor now token deadline) past lease e =
    by_test (λ b. cond b (Some (record { sid = sid; token = token; deadline = deadline })) (recorded key past) ≡ Some lease
    → (recorded key past ≡ Some lease) ⊎ (token ≡ lease.token)) (same_key key on)
    (λ _ new. inr (ap (λ (l : ReadLease). l.token) (some_same new))) (λ _ old. inl old) e
recorded_back key (step.Granted on sid mode shift now token deadline) past lease e =
    by_test (λ b. cond b None (recorded key past) ≡ Some lease → (recorded key past ≡ Some lease) ⊎ ⊥) (same_key key on) (λ _ none. absurd cc) (λ _ old. inl old) e
recorded_back key (step.Stored on token now value stamp evicted) past lease e =
    by_test (λ b. cond b None (recorded key past) ≡ Some lease → (recorded key past ≡ Some lease) ⊎ ⊥) (same_key key on) (λ _ none. absurd cc) (λ _ old. inl old) e
recorded_back key (step.Void on token now) past lease e = inl (void-was key on token now past lease e)
recorded_back key other past lease e = inl e

-- a quarantine of the key ends its lease
granted_ends : (key : QKey) (who : Sid) (s : Step) (past : List Step) → quarantines key who s ≡ true → recorded key (s ∷ past) ≡ None
granted_ends key who (step.Granted on sid mode shift now token deadline) past e =
    ap (λ b. cond b None (recorded key past)) (and_parts (same_key key on) (sid.number == who.number) e).0
granted_ends key who other past e = absurd (false≢true e)

-- of a lease that was given by one of the later steps the token is not below what was the next then
gives_late : (terms : Terms) (past : List Step) (s : Step) (token : ℕ) → IsLegalPast terms (s ∷ past) → Gives token s → next_token terms past ≤ token
gives_late terms past (step.Lease on sid floor now its deadline) token legal gives =
    let made = (well_made terms past (step.Lease on sid floor now its deadline) legal.0).0 in omega (arith, made, gives)
gives_late terms past other token legal gives = absurd gives

-- while a lease is recorded whose token was drawn before, none of the later steps granted a quarantine of its key
pub none_granted : (terms : Terms) (key : QKey) (base : List Step) (lease : ReadLease) (later : List Step) → IsLegalPast terms (later ++ base)
    → ((more : List Step) → lease.token < next_token terms (more ++ base)) → recorded key (later ++ base) ≡ Some lease
    → (who token : ℕ) → Has (Granted who token) (marks_of key later) → ⊥
none_granted terms key base lease [] legal below is who token h = h
none_granted terms key base lease (s ∷ later) legal below is who token h =
    ⊎_elim
    (λ here.
    let none = granted_ends key (record { number = who }) s (later ++ base) (step-granted key (record { number = who }) token s here) in
    let two : Some lease ≡ None = sym is ∙ none in absurd cc)
    (λ there. ⊎_elim
    (λ was. none_granted terms key base lease later legal.1 below was who token there)
    (λ gives. let low = below later in let high = gives_late terms (later ++ base) s lease.token legal gives in absurd (omega (arith, low, high)))
    (recorded_back key s (later ++ base) lease is))
    (has-split (Granted who token) (marks_in key s) (marks_of key later) h)

-- a lease that is recorded has a token of at least the first
pub token_from_first : (terms : Terms) (key : QKey) (past : List Step) (lease : ReadLease) → IsLegalPast terms past → recorded key past ≡ Some lease → terms.first ≤ lease.token
token_from_first terms key [] lease legal is = absurd cc
token_from_first terms key (s ∷ past) lease legal is =
    ⊎_elim
    (λ was. token_from_first terms key past lease legal.1 was)
    (λ gives. let high = gives_late terms past s lease.token legal gives in omega (arith, high))
    (recorded_back key s past lease is)

-- it is a moment of nobody when a lease is given
pub lease_moment : (terms : Terms) (key : QKey) (before more : List Step) (quiet : IsQuiet before) (known : Known) (sid : Sid) (floor now token deadline : ℕ)
    → IsLegalPast terms (step.Lease key sid floor now token deadline ∷ more ++ before)
    → IsRuled key (marks_of key (step.Lease key sid floor now token deadline ∷ more)) known
    → IsMoment key None (marks_of key (step.Lease key sid floor now token deadline ∷ more)) known
lease_moment terms key before more quiet known sid floor now token deadline legal ruled =
    let s = step.Lease key sid floor now token deadline in
    let none : standing key (more ++ before) ≡ [] = (well_made terms (more ++ before) s legal.0).1 in
    moment-of-none key (marks_of key (s ∷ more)) known (stamp_of (entry key before)) (entry key (s ∷ more ++ before)) ruled
    (subst (λ quars. IsTied (marks_of key (s ∷ more)) (stamp_of (entry key before)) quars (entry key (s ∷ more ++ before))) none
    (legal_tied terms key before quiet (s ∷ more) legal))
