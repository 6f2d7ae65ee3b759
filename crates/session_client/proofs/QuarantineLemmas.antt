-- What is told of a quarantine belongs to the request for it.
use Rattle.std.proofs.Common.{◌≡◌, ℕ, Bool, true, false, List, Some, None, refl, sym, subst, eq-eqb}
use Rattle.std.proofs.lemmas.Bool.{and_from}
use Rattle.std.specs.Prelude.{ℤ, Option, ◌==◌, ◌&&◌, if◌then◌else◌}
use Rattle.rows_model.specs.Key.{same_key}
use Rattle.rows_model.proofs.SameKey.{same_key-refl}
use Rattle.rows_model.specs.declared.keys.QKey.{QKey}
use Rattle.rows_model.specs.declared.keys.Sid.{Sid}
use Rattle.case_tables.specs.declared.grids.Verdict.{Verdict}
use Rattle.case_tables.specs.declared.grids.Verdict.TheVariants as verdicts
use Rattle.case_tables.specs.Compatibility.{verdict, quarantine}
use Rattle.lease_table.specs.declared.records.Mode.{Mode}
use Rattle.lease_table.specs.declared.records.Mode.TheVariants.{Invalidate, Refresh, Delta}
use Rattle.lease_table.specs.declared.records.Quar.{Quar}
use Rattle.lease_table.specs.Leases.{way_of}
use Rattle.key_shard.specs.declared.steps.Step.{Step}
use Rattle.key_shard.specs.declared.replies.QAnswer.{QAnswer}
use Rattle.key_shard.specs.declared.replies.QAnswer.TheVariants as quarantined
use Rattle.key_shard.specs.Past.{Terms, seen_by, holder_of, entry}
use Rattle.key_shard.specs.Answers.{quarantine_step, quarantine_by, refused_step}
use Rattle.key_shard.specs.Replies.{ShowsQuarantine, ShowsRaise, old_value}
use Rattle.key_shard.specs.Permit.{Permit}
use Rattle.key_shard.specs.Shards.{raised_permit}
use Rattle.key_shard.specs.declared.steps.Step.TheVariants.{Gone, Raised, Shared}
use Rattle.key_shard.specs.declared.replies.Raising.{Raising}
use Rattle.session_client.specs.Belongs.{FitsOld, IsQuarantineOf, IsRaised, IsRaiseOf}

-- an old value comes along with a grant to refresh alone
fits_old : (mode : Mode) (found : Option (List ℕ × ℕ)) → FitsOld mode (old_value mode found)
fits_old Invalidate found = refl
fits_old Refresh found = tt
fits_old Delta found = refl

-- a quarantine in a mode brings a grant of the key to the session in that mode, and an old value to refresh alone
pub quarantine_belongs : (terms : Terms) (past : List Step) (key : QKey) (who : Sid) (mode : Mode) (by : ℤ) (now : ℕ) (answer : QAnswer)
    → ShowsQuarantine terms past (quarantine_step terms past key who mode by now) answer → IsQuarantineOf who key mode answer
quarantine_belongs terms past key who mode by now answer =
    by_verdict (verdict (seen_by key who now past) (quarantine (way_of mode)))
  where
    P : QAnswer → Type 0
    P a = IsQuarantineOf who key mode a

    granted : (token : ℕ)
        → answer ≡ quarantined.Granted (record { shard = terms.no; key = key; sid = who; mode = mode; token = token }) (old_value mode (entry key past))
        → IsQuarantineOf who key mode answer
    granted token is = subst P (sym is) (record { of_key = refl; of_session = refl; in_mode = refl }, fits_old mode (entry key past))

    refused : (o : Option Quar) → ShowsQuarantine terms past (refused_step key who mode o) answer → IsQuarantineOf who key mode answer
    refused (Some holder) h = subst P (sym h) tt
    refused None h = subst P (sym h) tt

    by_verdict : (v : Verdict) → ShowsQuarantine terms past (quarantine_by terms past key who mode by now v) answer
        → IsQuarantineOf who key mode answer
    by_verdict verdicts.Same h = subst P (sym h) tt
    by_verdict verdicts.Refuse h = refused (holder_of key who past) h
    by_verdict verdicts.Wait h = subst P (sym h) tt
    by_verdict verdicts.Give h = granted _ h
    by_verdict verdicts.Void h = granted _ h
    by_verdict verdicts.Join h = granted _ h
    by_verdict verdicts.Own h = subst P (sym h) tt
    by_verdict verdicts.Raise h = subst P (sym h) tt
    by_verdict verdicts.Gone h = subst P (sym h) tt

-- and so in a mode that is known
pub quarantine_belongs_in : (terms : Terms) (past : List Step) (key : QKey) (who : Sid) (mode known : Mode) (by : ℤ) (now : ℕ) (answer : QAnswer)
    → ShowsQuarantine terms past (quarantine_step terms past key who mode by now) answer → mode ≡ known → IsQuarantineOf who key known answer
quarantine_belongs_in terms past key who mode known by now answer shows is =
    subst (λ m. IsQuarantineOf who key m answer) is (quarantine_belongs terms past key who mode by now answer shows)

raised_by : (grant : Permit) (b : Bool) → b ≡ true → IsRaised grant
    (if b then record { shard = grant.shard; key = grant.key; sid = grant.sid; mode = Refresh; token = grant.token } else grant)
raised_by grant true e = record { same_shard = refl; same_key = refl; same_session = refl; same_token = refl; refreshes = refl }
raised_by grant false e = cc

-- a grant as it is once it is raised
pub raised_is : (grant : Permit) → IsRaised grant (raised_permit grant.key grant.token grant)
raised_is grant =
    raised_by grant (same_key grant.key grant.key && (grant.token == grant.token))
    (and_from _ _ (same_key-refl grant.key) (eq-eqb grant.token grant.token refl))

-- what is told of a raise belongs to the request for it
pub raise_belongs : (past : List Step) (grant : Permit) (step : Step) (answer : Raising) → ShowsRaise past grant step answer → IsRaiseOf grant answer
raise_belongs past grant (Raised key sid token) answer h = subst (IsRaiseOf grant) (sym h) (raised_is grant)
raise_belongs past grant (Shared key sid token holder) answer h = subst (IsRaiseOf grant) (sym h) refl
raise_belongs past grant (Gone key sid token) answer h = subst (IsRaiseOf grant) (sym h) tt
raise_belongs past grant step answer h = absurd h
