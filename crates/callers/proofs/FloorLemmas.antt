-- A hit that answers a request has a stamp of at least its floor.
use Rattle.std.proofs.Common.{◌≡◌, ℕ, Bool, true, false, cond, List, [], ◌∷◌, reverse, Option, Some, None, refl, sym, subst}
use Rattle.std.specs.Prelude.{ℤ, nat_le, All}
use Rattle.std.proofs.lemmas.Bool.{leb-true}
use Rattle.std.proofs.lemmas.List.{reverse-reverse}
use Rattle.std.proofs.lemmas.List.Elements.{All-cons, All-nil}
use Rattle.std.proofs.lemmas.List.Sorted.{All-permutation, IsPermutation-reverse}
use Rattle.rows_model.specs.declared.keys.QKey.{QKey}
use Rattle.rows_model.specs.declared.keys.Sid.{Sid}
use Rattle.case_tables.specs.Compatibility.{verdict, read, quarantine}
use Rattle.case_tables.specs.declared.grids.Verdict.{Verdict}
use Rattle.case_tables.specs.declared.grids.Verdict.TheVariants as verdicts
use Rattle.lease_table.specs.declared.records.Mode.{Mode}
use Rattle.lease_table.specs.declared.records.Quar.{Quar}
use Rattle.lease_table.specs.Leases.{way_of, is_current, first, others_in, raise_in}
use Rattle.key_shard.specs.declared.steps.Step.{Step}
use Rattle.key_shard.specs.declared.steps.Step.TheVariants.{Hit, Stored, Void}
use Rattle.key_shard.specs.declared.replies.How.{How}
use Rattle.key_shard.specs.Permit.{Permit}
use Rattle.key_shard.specs.Past.{Terms, own_of, seen_by, holder_of, quar_of, standing, recorded, entry, evicts}
use Rattle.key_shard.specs.Answers.{Request, Get, Set, Quarantine, Release, Replace, Raise, Renew, IsLegalPast, found_step, get_by, miss_by, miss_step}
use Rattle.key_shard.specs.Answers.{quarantine_by, refused_step, release_by, replace_by, raise_by, renew_by, step_of}
use Rattle.callers.specs.Shards.{MeetsItsFloor, HitsMeetTheirFloors}

meets-one : (b : Bool) (x y : Step) → (b ≡ true → MeetsItsFloor x) → MeetsItsFloor y → MeetsItsFloor (cond b x y)
meets-one true x y mx my = mx refl
meets-one false x y mx my = my

meets-missed : (terms : Terms) (past : List Step) (key : QKey) (who : Sid) (floor now : ℕ) (v : Verdict)
    → MeetsItsFloor (miss_by terms past key who floor now v)
meets-missed terms past key who floor now verdicts.Give = tt
meets-missed terms past key who floor now verdicts.Wait = tt
meets-missed terms past key who floor now verdicts.Own = tt
meets-missed terms past key who floor now verdicts.Void = tt
meets-missed terms past key who floor now verdicts.Join = tt
meets-missed terms past key who floor now verdicts.Same = tt
meets-missed terms past key who floor now verdicts.Refuse = tt
meets-missed terms past key who floor now verdicts.Raise = tt
meets-missed terms past key who floor now verdicts.Gone = tt

meets-found : (terms : Terms) (past : List Step) (key : QKey) (who : Sid) (floor now : ℕ) (o : Option (List ℕ × ℕ))
    → MeetsItsFloor (found_step terms past key who floor now o)
meets-found terms past key who floor now None =
    meets-missed terms past key who floor now (verdict (seen_by key who now past) read)
meets-found terms past key who floor now (Some f) =
    meets-one (nat_le floor f.1) (Hit key who floor f.0 f.1) (miss_step terms past key who floor now)
    (λ e. leb-true floor f.1 e) (meets-missed terms past key who floor now (verdict (seen_by key who now past) read))

meets-got : (terms : Terms) (past : List Step) (key : QKey) (who : Sid) (floor now : ℕ) (o : Option Quar)
    → MeetsItsFloor (get_by terms past key who floor now o)
meets-got terms past key who floor now (Some q) = tt
meets-got terms past key who floor now None = meets-found terms past key who floor now (entry key past)

meets-refused : (key : QKey) (who : Sid) (mode : Mode) (o : Option Quar) → MeetsItsFloor (refused_step key who mode o)
meets-refused key who mode (Some q) = tt
meets-refused key who mode None = tt

meets-asked : (terms : Terms) (past : List Step) (key : QKey) (who : Sid) (mode : Mode) (shift : ℤ) (now : ℕ) (v : Verdict)
    → MeetsItsFloor (quarantine_by terms past key who mode shift now v)
meets-asked terms past key who mode shift now verdicts.Give = tt
meets-asked terms past key who mode shift now verdicts.Void = tt
meets-asked terms past key who mode shift now verdicts.Join = tt
meets-asked terms past key who mode shift now verdicts.Same = tt
meets-asked terms past key who mode shift now verdicts.Refuse = meets-refused key who mode (holder_of key who past)
meets-asked terms past key who mode shift now verdicts.Wait = tt
meets-asked terms past key who mode shift now verdicts.Own = tt
meets-asked terms past key who mode shift now verdicts.Raise = tt
meets-asked terms past key who mode shift now verdicts.Gone = tt

meets-released : (permit : Permit) (how : How) (o : Option Quar) → MeetsItsFloor (release_by permit how o)
meets-released permit how (Some q) = tt
meets-released permit how None = tt

meets-replaced : (terms : Terms) (past : List Step) (permit : Permit) (value : List ℕ) (stamp : ℕ) (o : Option Quar)
    → MeetsItsFloor (replace_by terms past permit value stamp o)
meets-replaced terms past permit value stamp (Some q) = tt
meets-replaced terms past permit value stamp None = tt

meets-raised : (permit : Permit) (other : Option Quar) (v : Verdict) → MeetsItsFloor (raise_by permit other v)
meets-raised permit other verdicts.Raise = tt
meets-raised permit (Some other) verdicts.Refuse = tt
meets-raised permit None verdicts.Refuse = tt
meets-raised permit other verdicts.Gone = tt
meets-raised permit other verdicts.Give = tt
meets-raised permit other verdicts.Void = tt
meets-raised permit other verdicts.Join = tt
meets-raised permit other verdicts.Wait = tt
meets-raised permit other verdicts.Same = tt
meets-raised permit other verdicts.Own = tt

meets-renewed : (terms : Terms) (permit : Permit) (now : ℕ) (o : Option Quar) → MeetsItsFloor (renew_by terms permit now o)
meets-renewed terms permit now (Some q) = tt
meets-renewed terms permit now None = tt

meets-step : (terms : Terms) (past : List Step) (request : Request) → MeetsItsFloor (step_of terms past request)
meets-step terms past (Get key who floor now) = meets-got terms past key who floor now (own_of key who past)
meets-step terms past (Set key token value stamp now) =
    meets-one (is_current token now (recorded key past)) (Stored key token now value stamp (evicts terms key past)) (Void key token now) (λ _. tt) tt
meets-step terms past (Quarantine key who mode shift now) =
    meets-asked terms past key who mode shift now (verdict (seen_by key who now past) (quarantine (way_of mode)))
meets-step terms past (Release permit how) = meets-released permit how (quar_of permit.key permit.token past)
meets-step terms past (Replace permit value stamp) = meets-replaced terms past permit value stamp (quar_of permit.key permit.token past)
meets-step terms past (Raise permit) =
    meets-raised permit (first (others_in permit.sid (standing permit.key past))) (raise_in permit.sid permit.token (standing permit.key past))
meets-step terms past (Renew permit now) = meets-renewed terms permit now (quar_of permit.key permit.token past)

-- each hit of a legal past has a stamp of at least its floor
meets-past : (terms : Terms) (past : List Step) → IsLegalPast terms past → All MeetsItsFloor past
meets-past terms [] h = All-nil MeetsItsFloor
meets-past terms (step ∷ past) h =
    All-cons MeetsItsFloor step past (subst MeetsItsFloor (sym h.0.answer) (meets-step terms past h.0.request)) (meets-past terms past h.1)

pub hits-meet-their-floors : HitsMeetTheirFloors
hits-meet-their-floors terms history h =
    subst (All MeetsItsFloor) (reverse-reverse history)
    (All-permutation MeetsItsFloor (reverse history) (reverse (reverse history))
    (IsPermutation-reverse (reverse history)) (meets-past terms (reverse history) h))
