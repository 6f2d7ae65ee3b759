-- Which step granted a quarantine that stands: each was granted since the hub was made, and no two were
-- granted under one token.
use Rattle.std.proofs.Common.{ℕ, ◌≡◌, ◌⊎◌, ◌≤◌, ◌<◌, ◌==◌, ◌&&◌, Bool, true, false, not, cond, List, [], ◌∷◌, ◌++◌, map, filter, Some, refl, sym, ap, subst, ◌∙◌, inl, inr, ⊎_elim, arith}
use Rattle.std.specs.List.{list_any}
use Rattle.std.proofs.lemmas.Bool.{false≢true, eqb-true, eq-eqb, and_parts, and_from, or_cases, or_left, or_right}
use Rattle.std.proofs.lemmas.List.Folds.{list_any-append}
use Rattle.rows_model.specs.declared.keys.QKey.{QKey}
use Rattle.rows_model.specs.Key.{same_key}
use Rattle.lease_table.specs.declared.records.Mode.TheVariants.{Invalidate}
use Rattle.lease_table.specs.declared.records.Quar.{Quar}
use Rattle.lease_table.specs.Leases.{has_token, raised, renewed}
use Rattle.key_shard.specs.declared.steps.Step.{Step}
use Rattle.key_shard.specs.declared.steps.Step.TheVariants as step
use Rattle.key_shard.specs.Past.{Terms, standing, quar_of, grants, next_token}
use Rattle.key_shard.specs.Permit.{Permit}
use Rattle.key_shard.specs.Answers.{IsLegalPast}
use Rattle.key_shard.specs.Shards.{ShardView, past_of}
use Rattle.key_shard.proofs.LegalLemmas.{token_stands}
use Rattle.key_shard.proofs.RaiseLemmas.{raised-same, renewed-same, any-mapped}
use Rattle.key_freshness.specs.Held.{stands_as}
use Rattle.key_freshness.proofs.MarkLemmas.{by_test}
use Rattle.bound_hub.specs.Facts.{IsQuiet, WasGrantedOr}
use Rattle.bound_hub.proofs.MadeLemmas.{well_made, next_grows, drawn_below}

-- a quarantine of this key, session and token
abbrev pub quar_as : QKey → ℕ → ℕ → Permit
quar_as key who token = record { shard = 0; key = key; sid = record { number = who }; mode = Invalidate; token = token }

any_left : (p q : Quar → Bool) (xs : List Quar) → list_any p (filter q xs) ≡ true → list_any p xs ≡ true
any_left p q [] h = h
any_left p q (x ∷ xs) h =
    by_test (λ b. list_any p (cond b (x ∷ filter q xs) (filter q xs)) ≡ true → list_any p (x ∷ xs) ≡ true) (q x)
    (λ _ k. ⊎_elim (λ here. or_left (p x) (list_any p xs) here) (λ there. or_right (p x) (list_any p xs) (any_left p q xs there)) (or_cases (p x) (list_any p (filter q xs)) k))
    (λ _ k. or_right (p x) (list_any p xs) (any_left p q xs k))
    h

-- whether a quarantine is of this session and token
abbrev is_as : ℕ → ℕ → Quar → Bool
is_as who token quar = (quar.sid.number == who) && (quar.token == token)

-- a quarantine that stands after a step stood before it, or the step granted it
stood_or_granted : (key : QKey) (who token : ℕ) (s : Step) (past : List Step) → stands_as who token (standing key (s ∷ past)) ≡ true
    → (stands_as who token (standing key past) ≡ true) ⊎ (grants (quar_as key who token) s ≡ true)
stood_or_granted key who token (step.Granted on sid mode shift now its deadline) past h =
    let new : Quar = record { sid = sid; mode = mode; token = its; deadline = deadline; shift = shift } in
    by_test (λ b. stands_as who token (cond b (standing key past ++ new ∷ []) (standing key past)) ≡ true
    → (stands_as who token (standing key past) ≡ true) ⊎ ((b && (who == sid.number) && (token == its)) ≡ true)) (same_key key on)
    (λ _ k. ⊎_elim (λ old. inl old)
    (λ one. ⊎_elim
    (λ is. let parts = and_parts (sid.number == who) (its == token) is in
    inr (and_from (who == sid.number) (token == its) (eq-eqb who sid.number (sym (eqb-true sid.number who parts.0))) (eq-eqb token its (sym (eqb-true its token parts.1)))))
    (λ none. absurd (false≢true none))
    (or_cases (is_as who token new) false one))
    (or_cases (stands_as who token (standing key past)) (stands_as who token (new ∷ [])) (sym (list_any-append (is_as who token) (standing key past) (new ∷ [])) ∙ k)))
    (λ _ k. inl k)
    h
stood_or_granted key who token (step.Released on sid its how) past h =
    by_test (λ b. stands_as who token (cond b (filter (λ quar. not (has_token its quar)) (standing key past)) (standing key past)) ≡ true
    → (stands_as who token (standing key past) ≡ true) ⊎ (false ≡ true)) (same_key key on)
    (λ _ k. inl (any_left (is_as who token) (λ quar. not (has_token its quar)) (standing key past) k))
    (λ _ k. inl k)
    h
stood_or_granted key who token (step.Raised on sid its) past h =
    by_test (λ b. stands_as who token (cond b (map (raised its) (standing key past)) (standing key past)) ≡ true
    → (stands_as who token (standing key past) ≡ true) ⊎ (false ≡ true)) (same_key key on)
    (λ _ k. inl (sym (any-mapped (is_as who token) (raised its) (λ quar. raised-same (is_as who token) its quar refl) (standing key past)) ∙ k))
    (λ _ k. inl k)
    h
stood_or_granted key who token (step.Renewed on sid its now deadline) past h =
    by_test (λ b. stands_as who token (cond b (map (renewed its deadline) (standing key past)) (standing key past)) ≡ true
    → (stands_as who token (standing key past) ≡ true) ⊎ (false ≡ true)) (same_key key on)
    (λ _ k. inl (sym (any-mapped (is_as who token) (renewed its deadline) (λ quar. renewed-same (is_as who token) its deadline quar refl) (standing key past)) ∙ k))
    (λ _ k. inl k)
    h
stood_or_granted key who token other past h = inl h

-- where none stood at first, what stands was granted since
pub stands_by_grant : (key : QKey) (who token : ℕ) (before : List Step) (quiet : IsQuiet before) (more : List Step) → stands_as who token (standing key (more ++ before)) ≡ true
    → list_any (grants (quar_as key who token)) more ≡ true
stands_by_grant key who token before quiet [] h = absurd (false≢true (sym (ap (stands_as who token) (quiet key).0) ∙ h))
stands_by_grant key who token before quiet (s ∷ more) h =
    let p = grants (quar_as key who token) in
    ⊎_elim
    (λ stood. or_right (p s) (list_any p more) (stands_by_grant key who token before quiet more stood))
    (λ here. or_left (p s) (list_any p more) here)
    (stood_or_granted key who token s (more ++ before) h)

-- the step grants this permit's quarantine, under the token that was the next
abbrev GrantedBy : Permit → ℕ → Step → Type 0
GrantedBy permit next (step.Granted on sid mode shift now token deadline) = (permit.token ≡ next) × (permit.sid.number ≡ sid.number)
GrantedBy permit next other = ⊥

granted_by : (terms : Terms) (permit : Permit) (s : Step) (past : List Step) → IsLegalPast terms (s ∷ past) → grants permit s ≡ true → GrantedBy permit (next_token terms past) s
granted_by terms permit (step.Granted on sid mode shift now token deadline) past legal e =
    let all = and_parts (same_key permit.key on && (permit.sid.number == sid.number)) (permit.token == token) e in
    let first = and_parts (same_key permit.key on) (permit.sid.number == sid.number) all.0 in
    (eqb-true permit.token token all.1 ∙ (well_made terms past (step.Granted on sid mode shift now token deadline) legal.0).0, eqb-true permit.sid.number sid.number first.1)
granted_by terms permit other past legal e = absurd (false≢true e)

drew : (terms : Terms) (permit : Permit) (s : Step) (past : List Step) → IsLegalPast terms (s ∷ past) → grants permit s ≡ true → permit.token ≡ next_token terms past
drew terms permit (step.Granted on sid mode shift now token deadline) past legal e = (granted_by terms permit (step.Granted on sid mode shift now token deadline) past legal e).0
drew terms permit other past legal e = absurd (false≢true e)

draw_counts : (terms : Terms) (permit : Permit) (s : Step) (past : List Step) → IsLegalPast terms (s ∷ past) → grants permit s ≡ true → permit.token < next_token terms (s ∷ past)
draw_counts terms permit (step.Granted on sid mode shift now token deadline) past legal e =
    drawn_below terms [] (step.Granted on sid mode shift now token deadline) past permit.token refl (drew terms permit (step.Granted on sid mode shift now token deadline) past legal e)
draw_counts terms permit other past legal e = absurd (false≢true e)

-- a token that was drawn by one of these steps is not below what was the next before them, and is below the next
pub granted_between : (terms : Terms) (before : List Step) (permit : Permit) (more : List Step) → IsLegalPast terms (more ++ before) → list_any (grants permit) more ≡ true
    → (next_token terms before ≤ permit.token) × (permit.token < next_token terms (more ++ before))
granted_between terms before permit [] legal e = absurd (false≢true e)
granted_between terms before permit (s ∷ more) legal e =
    ⊎_elim
    (λ here. (
      let is = drew terms permit s (more ++ before) legal here in
          let grown : next_token terms before ≤ next_token terms (more ++ before) = next_grows terms more before in omega (arith, is, grown),
      draw_counts terms permit s (more ++ before) legal here,
    ))
    (λ there.
    let both = granted_between terms before permit more legal.1 there in
    (both.0, let low = both.1 in let grown : next_token terms (more ++ before) ≤ next_token terms (s ∷ more ++ before) = next_grows terms (s ∷ []) (more ++ before) in omega (arith, low, grown)))
    (or_cases (grants permit s) (list_any (grants permit) more) e)

same_by_step : (terms : Terms) (a b : Permit) (s : Step) (past : List Step) → IsLegalPast terms (s ∷ past) → grants a s ≡ true → grants b s ≡ true → a.sid.number ≡ b.sid.number
same_by_step terms a b (step.Granted on sid mode shift now token deadline) past legal e f =
    let s = step.Granted on sid mode shift now token deadline in
    (granted_by terms a s past legal e).1 ∙ sym (granted_by terms b s past legal f).1
same_by_step terms a b other past legal e f = absurd (false≢true e)

-- two quarantines of one token are of one session
pub one_session : (terms : Terms) (before : List Step) (a b : Permit) → a.token ≡ b.token → (more : List Step) → IsLegalPast terms (more ++ before)
    → list_any (grants a) more ≡ true → list_any (grants b) more ≡ true → a.sid.number ≡ b.sid.number
one_session terms before a b same [] legal e f = absurd (false≢true e)
one_session terms before a b same (s ∷ more) legal e f =
    ⊎_elim
    (λ here. ⊎_elim
    (λ also. same_by_step terms a b s (more ++ before) legal here also)
    (λ there.
    let is = drew terms a s (more ++ before) legal here in
    let low = (granted_between terms before b more legal.1 there).1 in
    absurd (omega (arith, is, low, same)))
    (or_cases (grants b s) (list_any (grants b) more) f))
    (λ there. ⊎_elim
    (λ here.
    let is = drew terms b s (more ++ before) legal here in
    let low = (granted_between terms before a more legal.1 there).1 in
    absurd (omega (arith, is, low, same)))
    (λ also. one_session terms before a b same more legal.1 there also)
    (or_cases (grants b s) (list_any (grants b) more) f))
    (or_cases (grants a s) (list_any (grants a) more) e)

-- the quarantine of a grant that is out is the grant's own session's, where it stands
pub own_quar : (before : ℕ → List Step) (old : ShardView) (more : List Step) (quiet : IsQuiet (before old.terms.no))
    → past_of old ≡ more ++ before old.terms.no → IsLegalPast old.terms (past_of old) → (permit : Permit) → WasGrantedOr old.terms (before old.terms.no) more permit
    → (quar : Quar) → quar_of permit.key permit.token (past_of old) ≡ Some quar → quar.sid.number ≡ permit.sid.number
own_quar before old more quiet goes_on legal permit was quar stands =
    let n = old.terms.no in
    let legal_now = subst (IsLegalPast old.terms) goes_on legal in
    let as_now = subst (λ past. stands_as quar.sid.number permit.token (standing permit.key past) ≡ true) goes_on (token_stands permit.key permit.token (past_of old) quar stands) in
    let its = stands_by_grant permit.key quar.sid.number permit.token (before n) quiet more as_now in
    ⊎_elim
    (λ granted. one_session old.terms (before n) (quar_as permit.key quar.sid.number permit.token) permit refl more legal_now its granted)
    (λ low.
    let high = (granted_between old.terms (before n) (quar_as permit.key quar.sid.number permit.token) more legal_now its).0 in
    absurd (omega (arith, low, high)))
    was
