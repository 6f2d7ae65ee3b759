use Rattle.std.proofs.Common.{◌≡◌, ℕ, Bool, true, false, cond, List, sym, ap, ◌∙◌}
use Rattle.rows_model.specs.declared.keys.QKey.{QKey}
use Rattle.lease_table.specs.declared.records.Lease.{Lease}
use Rattle.lease_table.specs.Leases as leases
use Rattle.lease_table.specs.Leases.{is_current}
use Rattle.entry_table.specs.Entries.{Item}
use Rattle.key_shard.specs.declared.steps.Step.{Step}
use Rattle.key_shard.specs.declared.steps.Step.TheVariants.{Stored, Void}
use Rattle.key_shard.specs.Answers.{Answers, IsAtHome, Set}
use Rattle.key_shard.specs.Past.{Terms, evicts}
use Rattle.key_shard.specs.Kept.{Ties}
use Rattle.key_shard.proofs.bodies.Body.set.Goals as goal

-- the step of a set, by whether its lease is current, answers it
set-answer : {terms : Terms} {past : List Step} {list : List Item} {table : List Lease} {next : ℕ} → Ties terms past list table next
    → (key : QKey) (token : ℕ) (value : List ℕ) (stamp now : ℕ) (current : Bool) → IsAtHome terms key
    → current ≡ is_current token now (leases.recorded key table)
    → Answers terms past (cond current (Stored key token now value stamp (evicts terms key past)) (Void key token now))
set-answer {terms = terms} {past = past} ties key token value stamp now current home e = record {
  request = Set key token value stamp now;
  at_home = home;
  owed = tt;
  answer = ap (λ b. cond b (Stored key token now value stamp (evicts terms key past)) (Void key token now))
      (e ∙ ap (is_current token now) (ties.reads key));
}

pub store-requires-clause-answers : goal.store-requires-clause-answers
store-requires-clause-answers c =
    set-answer c.requires.ties c.args.key c.args.token c.args.value c.args.stamp c.args.now true
    c.in_ok-check_home.ensures.home (sym c.if-can_take_i.true ∙ c.can_take_i.ensures)

pub void-requires-clause-answers : goal.void-requires-clause-answers
void-requires-clause-answers c =
    set-answer c.requires.ties c.args.key c.args.token c.args.value c.args.stamp c.args.now false
    c.in_ok-check_home.ensures.home (sym c.if-can_take_i.false ∙ c.can_take_i.ensures)
