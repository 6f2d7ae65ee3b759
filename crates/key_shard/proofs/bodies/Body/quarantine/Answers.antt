use Rattle.std.proofs.Common.{◌≡◌, ℕ, List, sym, ap, subst, ◌∙◌}
use Rattle.std.specs.Prelude.{ℤ}
use Rattle.std.proofs.lemmas.Int.{to_z-of_z}
use mir.Syntax.{w32}
use Rattle.rows_model.specs.declared.keys.QKey.{QKey}
use Rattle.rows_model.specs.declared.keys.Sid.{Sid}
use Rattle.case_tables.specs.Compatibility.{is_given, verdict, quarantine}
use Rattle.case_tables.specs.declared.grids.Verdict.{Verdict}
use Rattle.case_tables.specs.declared.grids.Verdict.TheVariants.{Same, Refuse}
use Rattle.lease_table.specs.declared.records.Lease.{Lease}
use Rattle.lease_table.specs.declared.records.Mode.{Mode}
use Rattle.lease_table.specs.Leases.{holding, way_of}
use Rattle.entry_table.specs.Entries.{Item}
use Rattle.key_shard.specs.declared.steps.Step.{Step}
use Rattle.key_shard.specs.declared.steps.Step.TheVariants.{Granted}
use Rattle.key_shard.specs.Past.{Terms, next_token, deadline_at}
use Rattle.key_shard.specs.Answers.{Answers, IsAtHome, FitsShift, Quarantine, quarantine_by}
use Rattle.key_shard.specs.Kept.{Ties, terms_of, steps_of}
use Rattle.key_shard.proofs.QuarantineLemmas.{judged, given-one, step-granted}
use Rattle.key_shard.proofs.bodies.Body.quarantine.Goals as goal

-- the step of a request for a quarantine, by the verdict on it, answers it
judged-answer : {terms : Terms} {past : List Step} {list : List Item} {table : List Lease} {next : ℕ} → Ties terms past list table next
    → (key : QKey) (who : Sid) (mode : Mode) (shift : ℤ) (now : ℕ) (v : Verdict) → IsAtHome terms key → FitsShift mode shift
    → v ≡ verdict (holding key who now table) (quarantine (way_of mode)) → Answers terms past (quarantine_by terms past key who mode shift now v)
judged-answer {terms = terms} {past = past} ties key who mode shift now v home fits e = record {
  request = Quarantine key who mode shift now;
  at_home = home;
  owed = fits;
  answer = sym (ap (quarantine_by terms past key who mode shift now) (judged ties key who mode now v e));
}

pub held-requires-clause-answers : goal.held-requires-clause-answers
held-requires-clause-answers c =
    judged-answer c.requires.kept.ties c.args.key c.args.sid c.args.mode c.args.shift c.args.now Same
    c.in_ok-check_home.ensures.home c.requires.fits c.in-Same.ensures

pub refuse-requires-clause-answers : goal.refuse-requires-clause-answers
refuse-requires-clause-answers c =
    judged-answer c.requires.kept.ties c.args.key c.args.sid c.args.mode c.args.shift c.args.now Refuse
    c.in_ok-check_home.ensures.home c.requires.fits c.in-Refuse.ensures

pub grant-requires-clause-answers : goal.grant-requires-clause-answers
grant-requires-clause-answers c =
    let old = c.args.self.now in
    let judged_so = judged c.requires.kept.ties c.args.key c.args.sid c.args.mode c.args.now c.judge_q.result c.judge_q.ensures in
    let given = ap is_given judged_so ∙ given-one c.judge_q.result c.in-Give.is in
    let answers : ℤ → Type 0 = λ s. Answers (terms_of old) (steps_of old)
    (Granted c.args.key c.args.sid c.args.mode s c.args.now (next_token (terms_of old) (steps_of old)) (deadline_at (terms_of old) c.args.now)) in
    subst answers (sym (to_z-of_z w32 c.args.shift c.ranges.shift)) (record {
      request = Quarantine c.args.key c.args.sid c.args.mode c.args.shift c.args.now;
      at_home = c.in_ok-check_home.ensures.home;
      owed = c.requires.fits;
      answer = sym (step-granted (terms_of old) (steps_of old) c.args.key c.args.sid c.args.mode c.args.shift c.args.now given);
    })
