-- A request's step by what is seen of its key.
use Rattle.std.proofs.Common.{ℕ, ◌≡◌, cond, List, Option, Some, None, nat_le, refl, ap}
use Rattle.std.specs.Prelude.{ℤ}
use Rattle.rows_model.specs.declared.keys.QKey.{QKey}
use Rattle.rows_model.specs.declared.keys.Sid.{Sid}
use Rattle.case_tables.specs.Compatibility.{verdict, read, quarantine}
use Rattle.case_tables.specs.declared.grids.Verdict.{Verdict}
use Rattle.case_tables.specs.declared.grids.Verdict.TheVariants as verdicts
use Rattle.lease_table.specs.declared.records.Mode.{Mode}
use Rattle.lease_table.specs.declared.records.Quar.{Quar}
use Rattle.lease_table.specs.Leases.{way_of}
use Rattle.key_shard.specs.declared.steps.Step.{Step}
use Rattle.key_shard.specs.declared.steps.Step.TheVariants.{Hit}
use Rattle.key_shard.specs.Permit.{Permit}
use Rattle.key_shard.specs.Past.{Terms, seen_by, own_of, quar_of, entry}
use Rattle.key_shard.specs.Answers.{Get, Set, Quarantine, Release, Replace, Raise, Renew, miss_by, found_step, get_by, quarantine_by, replace_by}
use Rattle.key_shard.specs.Sights.{sight_of, miss_at, found_at, got_at, asked_at, replaced_at, StepBySight}

missed : (terms : Terms) (past : List Step) (key : QKey) (who : Sid) (floor now : ℕ) (v : Verdict)
    → miss_by terms past key who floor now v ≡ miss_at terms (sight_of terms key past) key who floor now v
missed terms past key who floor now verdicts.Give = refl
missed terms past key who floor now verdicts.Wait = refl
missed terms past key who floor now verdicts.Own = refl
missed terms past key who floor now verdicts.Void = refl
missed terms past key who floor now verdicts.Join = refl
missed terms past key who floor now verdicts.Same = refl
missed terms past key who floor now verdicts.Refuse = refl
missed terms past key who floor now verdicts.Raise = refl
missed terms past key who floor now verdicts.Gone = refl

found : (terms : Terms) (past : List Step) (key : QKey) (who : Sid) (floor now : ℕ) (o : Option (List ℕ × ℕ))
    → found_step terms past key who floor now o ≡ found_at terms (sight_of terms key past) key who floor now o
found terms past key who floor now None = missed terms past key who floor now (verdict (seen_by key who now past) read)
found terms past key who floor now (Some f) =
    ap (cond (nat_le floor f.1) (Hit key who floor f.0 f.1)) (missed terms past key who floor now (verdict (seen_by key who now past) read))

got : (terms : Terms) (past : List Step) (key : QKey) (who : Sid) (floor now : ℕ) (o : Option Quar)
    → get_by terms past key who floor now o ≡ got_at terms (sight_of terms key past) key who floor now o
got terms past key who floor now (Some own) = refl
got terms past key who floor now None = found terms past key who floor now (entry key past)

asked : (terms : Terms) (past : List Step) (key : QKey) (who : Sid) (mode : Mode) (shift : ℤ) (now : ℕ) (v : Verdict)
    → quarantine_by terms past key who mode shift now v ≡ asked_at terms (sight_of terms key past) key who mode shift now v
asked terms past key who mode shift now verdicts.Give = refl
asked terms past key who mode shift now verdicts.Void = refl
asked terms past key who mode shift now verdicts.Join = refl
asked terms past key who mode shift now verdicts.Same = refl
asked terms past key who mode shift now verdicts.Refuse = refl
asked terms past key who mode shift now verdicts.Wait = refl
asked terms past key who mode shift now verdicts.Own = refl
asked terms past key who mode shift now verdicts.Raise = refl
asked terms past key who mode shift now verdicts.Gone = refl

replaced : (terms : Terms) (past : List Step) (permit : Permit) (value : List ℕ) (stamp : ℕ) (o : Option Quar)
    → replace_by terms past permit value stamp o ≡ replaced_at terms (sight_of terms permit.key past) permit value stamp o
replaced terms past permit value stamp (Some quar) = refl
replaced terms past permit value stamp None = refl

pub step_by_sight : StepBySight
step_by_sight terms past (Get key who floor now) = got terms past key who floor now (own_of key who past)
step_by_sight terms past (Set key token value stamp now) = refl
step_by_sight terms past (Quarantine key who mode shift now) =
    asked terms past key who mode shift now (verdict (seen_by key who now past) (quarantine (way_of mode)))
step_by_sight terms past (Release permit how) = refl
step_by_sight terms past (Raise permit) = refl
step_by_sight terms past (Renew permit now) = refl
step_by_sight terms past (Replace permit value stamp) =
    replaced terms past permit value stamp (quar_of permit.key permit.token past)
