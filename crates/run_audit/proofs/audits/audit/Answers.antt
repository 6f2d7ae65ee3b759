use Rattle.std.proofs.Common.{◌≡◌, ◌↔◌}
use Rattle.std.proofs.lemmas.Option.{MatchOption-at_some, MatchOption-at_none}
use Rattle.std.proofs.lemmas.Result.{IfOk-weaker}
use Rattle.sql_keeper.specs.Fresh.{Covered, Fresh}
use Rattle.run_audit.specs.declared.covers.Gap.{Gap}
use Rattle.run_audit.specs.declared.findings.Finding.{Finding}
use Rattle.run_audit.specs.declared.findings.Finding.TheVariants.{Clean, Uncovered}
use Rattle.run_audit.specs.Findings.{histories_in, IsFinding, IsFoundIn}
use Rattle.run_audit.specs.Grants.{holds, AreCovered, IsFirstGap}
use Rattle.run_audit.proofs.CoverLemmas.{AreShards, covered-there, gap-there}
use Rattle.run_audit.proofs.StaleLemmas.{found-clean, found-covered}
use Rattle.run_audit.proofs.audits.audit.Goals as goal

pub returns-in-Some-clause-first : goal.returns-in-Some-clause-first
returns-in-Some-clause-first c =
    let shards = c.args.shards.now in
    let log = c.args.log.now in
    let grants = c.in_ok-grants.grants in
    let are : AreShards shards grants = record { numbered = c.requires.numbered; legal = c.in_ok-grants.ensures.legal; has = c.in_ok-grants.ensures.grants } in
    gap-there shards grants are log c.in-Some.gap.commit c.in-Some.gap.key
    (MatchOption-at_some (AreCovered (holds grants) log)
    (λ (gap : Gap). IsFirstGap (holds grants) log gap.commit gap.key) c.in-Some.gap c.in-Some.is c.in_ok-gap.ensures)

pub returns-in-Some-clause-clean : goal.returns-in-Some-clause-clean
returns-in-Some-clause-clean c =
    found-clean c.args.opening.now c.args.log.now (histories_in c.args.shards.now)
    (Uncovered c.in-Some.gap.commit c.in-Some.gap.key) (returns-in-Some-clause-first c)

pub returns-clause-first : goal.returns-clause-first
returns-clause-first c =
    let shards = c.args.shards.now in
    let log = c.args.log.now in
    let opening = c.args.opening.now in
    let grants = c.in_ok-grants.grants in
    let are : AreShards shards grants = record { numbered = c.requires.numbered; legal = c.in_ok-grants.ensures.legal; has = c.in_ok-grants.ensures.grants } in
    let covered = covered-there shards grants are log
    (MatchOption-at_none (AreCovered (holds grants) log)
    (λ (gap : Gap). IsFirstGap (holds grants) log gap.commit gap.key) c.in_default.is c.in_ok-gap.ensures) in
    IfOk-weaker c.stale_or_clean.result (IsFoundIn opening log (histories_in shards)) (IsFinding opening log (histories_in shards))
    (found-covered opening log (histories_in shards) covered) (c.stale_or_clean.ensures opening log c.in_ok-notes.ensures.notes)

pub returns-clause-clean : goal.returns-clause-clean
returns-clause-clean c =
    let log = c.args.log.now in
    let opening = c.args.opening.now in
    let histories = histories_in c.args.shards.now in
    IfOk-weaker c.stale_or_clean.result (IsFinding opening log histories) (λ (finding : Finding). (finding ≡ Clean)
    ↔ (Covered log histories × Fresh opening log histories))
    (found-clean opening log histories) (returns-clause-first c)
