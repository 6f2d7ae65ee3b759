-- What a step of a legal past shows of the past before it, and how tokens are drawn in turn.
use Rattle.std.proofs.Common.{ℕ, ◌≡◌, ◌+◌, ◌≤◌, ◌<◌, true, cond, List, [], ◌∷◌, ◌++◌, refl, sym, ap, subst, ◌∙◌, arith}
use Rattle.rows_model.specs.Placement.{shard_of}
use Rattle.case_tables.specs.declared.grids.Verdict.TheVariants as verdicts
use Rattle.lease_table.specs.Leases.{is_current, raise_in}
use Rattle.key_shard.specs.declared.steps.Step.{Step}
use Rattle.key_shard.specs.declared.steps.Step.TheVariants as step
use Rattle.key_shard.specs.Past.{Terms, standing, recorded, next_token, draws}
use Rattle.key_shard.specs.Answers.{key_of as key_asked}
use Rattle.key_shard.specs.Answers.{Answers, IsAtHome, IsLegalPast, Request, Get, Set, Quarantine, Release, Replace, Raise, Renew, step_of}
use Rattle.key_shard.proofs.CaseLemmas.{MayJoin, got_cases, set_cases, verdict_cases, release_cases, replace_cases, raise_cases, renew_cases}
use Rattle.key_shard.proofs.LegalLemmas.{legal_stands_well, own_token}
use Rattle.key_shard.proofs.ModeLemmas.{answers_end_by_mode}
use Rattle.key_shard.proofs.OneStepLemmas.{next_drawn}
use Rattle.key_freshness.specs.Marks.{key_of}
use Rattle.key_freshness.specs.Laws.{EndsItsOwn}

-- what a lease, a grant, a raise and a value that is stored show
abbrev pub IsWellMade : Terms → List Step → Step → Type 0
IsWellMade terms past (step.Lease on sid floor now token deadline) = (token ≡ next_token terms past) × (standing on past ≡ [])
IsWellMade terms past (step.Granted on sid mode shift now token deadline) = (token ≡ next_token terms past) × MayJoin mode (standing on past)
IsWellMade terms past (step.Stored on token now value stamp evicted) = is_current token now (recorded on past) ≡ true
IsWellMade terms past (step.Raised on sid token) = raise_in sid token (standing on past) ≡ verdicts.Raise
IsWellMade terms past other = Unit {0}

pub well_made : (terms : Terms) (past : List Step) (s : Step) → Answers terms past s → IsWellMade terms past s
well_made terms past s a = subst P (sym a.answer) (by a.request)
  where
    P : Step → Type 0
    P x = IsWellMade terms past x

    by : (request : Request) → P (step_of terms past request)
    by (Get key who floor now) = got_cases P terms past key who floor now (λ _ _ _. tt) tt (λ _. tt) (λ none. (refl, none))
    by (Set key token value stamp now) = set_cases P terms past key token value stamp now (λ current. current) (λ _. tt)
    by (Quarantine key who mode shift now) = verdict_cases P terms past key who mode shift now (λ _ join. (refl, join)) (λ _ _. tt) (λ _ _. tt)
    by (Release permit how) = release_cases P past permit how (λ _ _. tt) (λ _. tt)
    by (Replace permit value stamp) = replace_cases P terms past permit value stamp (λ _ _. tt) (λ _. tt)
    by (Raise permit) = raise_cases P past permit (λ alone. alone) (λ _ _. tt) tt
    by (Renew permit now) = renew_cases P terms past permit now (λ _ _. tt) (λ _. tt)

-- a release ends the quarantine of its own session
pub ends_own : (terms : Terms) (past : List Step) (s : Step) → Answers terms past s → IsLegalPast terms past → EndsItsOwn past s
ends_own terms past (step.Released on sid token how) a legal = λ who stands.
    let ended = answers_end_by_mode terms past on sid token how a in
    sym (own_token terms past on who token ended.0 (legal_stands_well terms past legal on) stands ended.1) ∙ ap (λ x. x.number) ended.2
ends_own terms past other a legal = tt

pub legal_behind : (terms : Terms) (more past : List Step) → IsLegalPast terms (more ++ past) → IsLegalPast terms past
legal_behind terms [] past legal = legal
legal_behind terms (s ∷ more) past legal = legal_behind terms more past legal.1

-- the next token never falls
pub next_grows : (terms : Terms) (more past : List Step) → next_token terms past ≤ next_token terms (more ++ past)
next_grows terms [] past = omega arith
next_grows terms (s ∷ more) past =
    let rest : next_token terms past ≤ next_token terms (more ++ past) = next_grows terms more past in
    let one : next_token terms (s ∷ more ++ past) ≡ next_token terms (more ++ past) + cond (draws s) 1 0 = next_drawn terms s (more ++ past) in
    omega (arith, rest, one)

-- a token that was drawn is below the next
pub drawn_below : (terms : Terms) (more : List Step) (s : Step) (past : List Step) (token : ℕ) → draws s ≡ true → token ≡ next_token terms past
    → token < next_token terms (more ++ s ∷ past)
drawn_below terms more s past token draw is =
    let rest : next_token terms (s ∷ past) ≤ next_token terms (more ++ s ∷ past) = next_grows terms more (s ∷ past) in
    let one : next_token terms (s ∷ past) ≡ next_token terms past + 1 = next_drawn terms s past ∙ ap (λ b. next_token terms past + cond b 1 0) draw in
    omega (arith, rest, one, is)

-- a step of a legal past is on a key of the shard
pub made_at_home : (terms : Terms) (past : List Step) (s : Step) → Answers terms past s → shard_of (key_of s) terms.count ≡ terms.no
made_at_home terms past s a = subst P (sym a.answer) (by a.request a.at_home)
  where
    P : Step → Type 0
    P x = shard_of (key_of x) terms.count ≡ terms.no

    by : (request : Request) → IsAtHome terms (key_asked request) → P (step_of terms past request)
    by (Get key who floor now) home = got_cases P terms past key who floor now (λ _ _ _. home) home (λ _. home) (λ _. home)
    by (Set key token value stamp now) home = set_cases P terms past key token value stamp now (λ _. home) (λ _. home)
    by (Quarantine key who mode shift now) home = verdict_cases P terms past key who mode shift now (λ _ _. home) (λ _ _. home) (λ _ _. home)
    by (Release permit how) home = release_cases P past permit how (λ _ _. home) (λ _. home)
    by (Replace permit value stamp) home = replace_cases P terms past permit value stamp (λ _ _. home) (λ _. home)
    by (Raise permit) home = raise_cases P past permit (λ _. home) (λ _ _. home) home
    by (Renew permit now) home = renew_cases P terms past permit now (λ _ _. home) (λ _. home)
