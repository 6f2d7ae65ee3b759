-- A hit that is told of a get has a stamp of at least its floor.
use Rattle.std.proofs.Common.{ℕ, ◌≡◌, Bool, true, false, List, Option, Some, None, refl, sym, subst, arith}
use Rattle.std.proofs.lemmas.Bool.Decides.{nat_tests}
use Rattle.std.specs.Prelude.{nat_le, if◌then◌else◌}
use Rattle.rows_model.specs.declared.keys.QKey.{QKey}
use Rattle.rows_model.specs.declared.keys.Sid.{Sid}
use Rattle.case_tables.specs.Compatibility.{verdict, read}
use Rattle.case_tables.specs.declared.grids.Verdict.{Verdict}
use Rattle.case_tables.specs.declared.grids.Verdict.TheVariants as verdicts
use Rattle.lease_table.specs.declared.records.Quar.{Quar}
use Rattle.key_shard.specs.Answers.{get_step, get_by, found_step, miss_step, miss_by}
use Rattle.key_shard.specs.Past.{Terms, own_of, seen_by, entry}
use Rattle.key_shard.specs.Replies.{ShowsGot}
use Rattle.key_shard.specs.declared.replies.Got.{Got}
use Rattle.key_shard.specs.declared.steps.Step.{Step}
use Rattle.key_shard.specs.declared.steps.Step.TheVariants.{Hit}
use Rattle.session_client.specs.Belongs.{IsGotOf}

pub got_belongs : (terms : Terms) (past : List Step) (key : QKey) (who : Sid) (floor now : ℕ) (answer : Got)
    → ShowsGot (get_step terms past key who floor now) answer → IsGotOf floor answer
got_belongs terms past key who floor now answer = by_own (own_of key who past)
  where
    P : Got → Type 0
    P a = IsGotOf floor a

    missed : (v : Verdict) → ShowsGot (miss_by terms past key who floor now v) answer → IsGotOf floor answer
    missed verdicts.Give h = subst P (sym h) tt
    missed verdicts.Wait h = subst P (sym h) tt
    missed other h = subst P (sym h) tt

    found : (b : Bool) (value : List ℕ) (stamp : ℕ) → nat_le floor stamp ≡ b
        → ShowsGot (if b then Hit key who floor value stamp else miss_step terms past key who floor now) answer → IsGotOf floor answer
    found true value stamp e h = subst P (sym h) (grind (arith, nat_tests))
    found false value stamp e h = missed (verdict (seen_by key who now past) read) h

    by_entry : (o : Option (List ℕ × ℕ)) → ShowsGot (found_step terms past key who floor now o) answer → IsGotOf floor answer
    by_entry None h = missed (verdict (seen_by key who now past) read) h
    by_entry (Some one) h = found (nat_le floor one.1) one.0 one.1 refl h

    by_own : (o : Option Quar) → ShowsGot (get_by terms past key who floor now o) answer → IsGotOf floor answer
    by_own (Some own) h = subst P (sym h) tt
    by_own None h = by_entry (entry key past) h
