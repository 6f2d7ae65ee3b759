-- What ends a quarantine is a release or a replace, and ends it as its mode has it.
use Rattle.std.proofs.Common.{◌≡◌, ℕ, Bool, true, false, cond, List, [], ◌∷◌, Option, Some, None, refl, sym, ap, subst, ◌∙◌}
use Rattle.std.specs.Prelude.{ℤ, nat_le}
use Rattle.std.proofs.lemmas.Bool.{false≢true}
use Rattle.rows_model.specs.declared.keys.QKey.{QKey}
use Rattle.rows_model.specs.declared.keys.Sid.{Sid}
use Rattle.case_tables.specs.Compatibility.{verdict, read, quarantine}
use Rattle.case_tables.specs.declared.grids.Verdict.{Verdict}
use Rattle.case_tables.specs.declared.grids.Verdict.TheVariants as verdicts
use Rattle.lease_table.specs.declared.records.Mode.{Mode}
use Rattle.lease_table.specs.declared.records.Quar.{Quar}
use Rattle.lease_table.specs.Leases.{way_of, is_current}
use Rattle.key_shard.specs.declared.steps.Step.{Step}
use Rattle.key_shard.specs.declared.steps.Step.TheVariants.{Hit, Stored, Void, Released}
use Rattle.key_shard.specs.declared.replies.How.{How}
use Rattle.key_shard.specs.declared.replies.How.TheVariants as hows
use Rattle.key_shard.specs.Permit.{Permit}
use Rattle.key_shard.specs.Past.{Terms, own_of, seen_by, holder_of, quar_of, recorded, entry, evicts}
use Rattle.key_shard.specs.Answers.{FitsMode, IsOwed, OwesRelease, OwesReplace, Request, Get, Set, Quarantine, Release, Replace, Raise, Renew, ended_as}
use Rattle.key_shard.specs.Answers.{found_step, get_by, get_step, miss_by, miss_step, quarantine_by, quarantine_step, refused_step}
use Rattle.key_shard.specs.Answers.{release_by, replace_by, raise_step, renew_step, set_step, step_of}
use Rattle.key_shard.proofs.CaseLemmas.{raise_cases, renew_cases}
use Rattle.key_shard.specs.Modes.{AnswersEndByMode, LegalEndsByMode, MayEnd, StandsToEnd}

-- whether a step ends a quarantine
abbrev ends : Step → Bool
ends (Released key sid token how) = true
ends step = false

-- none that answers a get, a set or a quarantine does
ends-one : (b : Bool) (x y : Step) → ends x ≡ false → ends y ≡ false → ends (cond b x y) ≡ false
ends-one true x y ex ey = ex
ends-one false x y ex ey = ey

ends-missed : (terms : Terms) (past : List Step) (key : QKey) (who : Sid) (floor now : ℕ) (v : Verdict) → ends (miss_by terms past key who floor now v) ≡ false
ends-missed terms past key who floor now verdicts.Give = refl
ends-missed terms past key who floor now verdicts.Wait = refl
ends-missed terms past key who floor now verdicts.Own = refl
ends-missed terms past key who floor now verdicts.Void = refl
ends-missed terms past key who floor now verdicts.Join = refl
ends-missed terms past key who floor now verdicts.Same = refl
ends-missed terms past key who floor now verdicts.Refuse = refl
ends-missed terms past key who floor now verdicts.Raise = refl
ends-missed terms past key who floor now verdicts.Gone = refl

ends-found : (terms : Terms) (past : List Step) (key : QKey) (who : Sid) (floor now : ℕ) (o : Option (List ℕ × ℕ))
    → ends (found_step terms past key who floor now o) ≡ false
ends-found terms past key who floor now None =
    ends-missed terms past key who floor now (verdict (seen_by key who now past) read)
ends-found terms past key who floor now (Some f) =
    ends-one (nat_le floor f.1) (Hit key who floor f.0 f.1) (miss_step terms past key who floor now) refl
    (ends-missed terms past key who floor now (verdict (seen_by key who now past) read))

ends-got : (terms : Terms) (past : List Step) (key : QKey) (who : Sid) (floor now : ℕ) (o : Option Quar) → ends (get_by terms past key who floor now o) ≡ false
ends-got terms past key who floor now (Some q) = refl
ends-got terms past key who floor now None = ends-found terms past key who floor now (entry key past)

ends-set : (terms : Terms) (past : List Step) (key : QKey) (token : ℕ) (value : List ℕ) (stamp now : ℕ)
    → ends (set_step terms past key token value stamp now) ≡ false
ends-set terms past key token value stamp now =
    ends-one (is_current token now (recorded key past)) (Stored key token now value stamp (evicts terms key past)) (Void key token now) refl refl

ends-refused : (key : QKey) (who : Sid) (mode : Mode) (o : Option Quar) → ends (refused_step key who mode o) ≡ false
ends-refused key who mode (Some q) = refl
ends-refused key who mode None = refl

ends-asked : (terms : Terms) (past : List Step) (key : QKey) (who : Sid) (mode : Mode) (shift : ℤ) (now : ℕ) (v : Verdict)
    → ends (quarantine_by terms past key who mode shift now v) ≡ false
ends-asked terms past key who mode shift now verdicts.Give = refl
ends-asked terms past key who mode shift now verdicts.Void = refl
ends-asked terms past key who mode shift now verdicts.Join = refl
ends-asked terms past key who mode shift now verdicts.Same = refl
ends-asked terms past key who mode shift now verdicts.Refuse = ends-refused key who mode (holder_of key who past)
ends-asked terms past key who mode shift now verdicts.Wait = refl
ends-asked terms past key who mode shift now verdicts.Own = refl
ends-asked terms past key who mode shift now verdicts.Raise = refl
ends-asked terms past key who mode shift now verdicts.Gone = refl

-- what a step that ends a quarantine is to show
abbrev Shows : List Step → Step → Type 0
Shows past (Released key sid token how) = StandsToEnd past key sid token how
Shows past step = Unit {0}

may-end : (quar : Quar) (how : How) → FitsMode quar.mode how → MayEnd quar (ended_as quar how)
may-end quar hows.Keep fits = tt
may-end quar hows.Drop fits = tt
may-end quar (hows.Shift stamp) fits = (fits, refl)

released : (past : List Step) (permit : Permit) (how : How) (o : Option Quar)
    → quar_of permit.key permit.token past ≡ o → OwesRelease past permit how o → Shows past (release_by permit how o)
released past permit how (Some quar) stands owed = (quar, stands, refl, may-end quar how owed.1)
released past permit how None stands owed = tt

replaced : (terms : Terms) (past : List Step) (permit : Permit) (value : List ℕ) (stamp : ℕ) (o : Option Quar)
    → quar_of permit.key permit.token past ≡ o → OwesReplace past permit o → Shows past (replace_by terms past permit value stamp o)
replaced terms past permit value stamp (Some quar) stands owed = (quar, stands, refl, owed.1)
replaced terms past permit value stamp None stands owed = tt

-- what ends no quarantine has nothing to show
ends-none : (past : List Step) (step other : Step) → ends step ≡ true → step ≡ other → ends other ≡ false → Shows past step
ends-none past step other e same none = absurd (false≢true (sym none ∙ sym (ap ends same) ∙ e))

shown-by : (terms : Terms) (past : List Step) (step : Step) (request : Request)
    → ends step ≡ true → IsOwed past request → step ≡ step_of terms past request → Shows past step
shown-by terms past step (Get key who floor now) e owed same =
    ends-none past step (get_step terms past key who floor now) e same (ends-got terms past key who floor now (own_of key who past))
shown-by terms past step (Set key token value stamp now) e owed same =
    ends-none past step (set_step terms past key token value stamp now) e same (ends-set terms past key token value stamp now)
shown-by terms past step (Quarantine key who mode shift now) e owed same =
    ends-none past step (quarantine_step terms past key who mode shift now) e same
    (ends-asked terms past key who mode shift now (verdict (seen_by key who now past) (quarantine (way_of mode))))
shown-by terms past step (Release permit how) e owed same =
    subst (Shows past) (sym same) (released past permit how (quar_of permit.key permit.token past) refl owed)
shown-by terms past step (Replace permit value stamp) e owed same =
    subst (Shows past) (sym same) (replaced terms past permit value stamp (quar_of permit.key permit.token past) refl owed)
shown-by terms past step (Raise permit) e owed same =
    ends-none past step (raise_step past permit) e same (raise_cases (λ s. ends s ≡ false) past permit (λ _. refl) (λ _ _. refl) refl)
shown-by terms past step (Renew permit now) e owed same =
    ends-none past step (renew_step terms past permit now) e same (renew_cases (λ s. ends s ≡ false) terms past permit now (λ _ _. refl) (λ _. refl))

pub answers_end_by_mode : AnswersEndByMode
answers_end_by_mode terms past key sid token how a =
    shown-by terms past (Released key sid token how) a.request refl a.owed a.answer

pub legal_ends_by_mode : LegalEndsByMode
legal_ends_by_mode terms [] past key sid token how legal = answers_end_by_mode terms past key sid token how legal.0
legal_ends_by_mode terms (step ∷ later) past key sid token how legal =
    legal_ends_by_mode terms later past key sid token how legal.1
