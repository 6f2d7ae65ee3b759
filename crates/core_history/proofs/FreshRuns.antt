-- Every run keeps the rule of each key and its entries held, and where its replies were true it is fresh: by its moves, the latest first.
use Rattle.std.proofs.Common.{ℕ, ◌+◌, ◌-◌, ◌≡◌, ◌<◌, true, ◌==◌, ◌&&◌, List, [], ◌∷◌, reverse, length, All, Option, Some, None, slice_get}
use Rattle.std.proofs.Common.{refl, sym, subst, ⊎_elim, arith}
use Rattle.std.specs.List.{range_with_len, list_any, AllByRecursion}
use Rattle.std.proofs.lemmas.List.{reverse-reverse}
use Rattle.std.proofs.lemmas.List.Elements.{All-map, All-nil}
use Rattle.std.proofs.lemmas.List.FromFn.{length-range_with_len, get_or-range_with_len}
use Rattle.rows_model.specs.declared.keys.QKey.{QKey}
use Rattle.rows_model.specs.declared.changes.Change.{Change}
use Rattle.rows_model.specs.Rows.{Tables, Fit}
use Rattle.rows_model.specs.Changes.{touches, HasIds}
use Rattle.lease_table.specs.declared.records.Quar.{Quar}
use Rattle.lease_table.specs.declared.records.ReadLease.{ReadLease}
use Rattle.key_shard.specs.declared.steps.Step.{Step}
use Rattle.key_shard.specs.Past.{standing, recorded, entry}
use Rattle.sql_keeper.specs.declared.stores.Answer.{Answer}
use Rattle.sql_keeper.specs.Fresh.{IsFreshPast, Fresh}
use Rattle.key_freshness.specs.Marks.{marks_of}
use Rattle.key_freshness.specs.Held.{IsEntryHeld, IsEntryRight, stands_as}
use Rattle.key_freshness.proofs.HitLemmas.{lacking_stands}
use Rattle.key_freshness.proofs.MomentLemmas.{known_then, stored_is_latest}
use Rattle.session_client.specs.declared.plans.Plan.{Plan}
use Rattle.session_client.specs.declared.plans.Plan.TheVariants.{Read, Write, Look, Quit, Skip, Raise, Renew}
use Rattle.session_client.specs.declared.plans.Shape.{Shape}
use Rattle.session_client.specs.Plans.{IsPlan, changes_of}
use Rattle.core_history.specs.Events.{steps_of, log_of, known_of}
use Rattle.core_history.specs.Machine.{World, Move, Begin, Take, HasPlans, turn_event, world_of}
use Rattle.core_history.specs.Truth.{IsTruePast}
use Rattle.core_history.specs.Facts.{Facts, IsAnswer, ArePending, IsCurrent, IsQuiet, steps_on, answers_under}
use Rattle.core_history.specs.Freshness.{RunsAreFresh, histories_of}
use Rattle.core_history.proofs.ExclusiveFacts.{exclusive_of}
use Rattle.core_history.proofs.GrantFacts.{GrantFacts}
use Rattle.core_history.proofs.GrantLemmas.{grant_facts}
use Rattle.core_history.proofs.HeldEvents.{IsBetween, IsLeased, Holds, good_holds, start_holds}
use Rattle.core_history.proofs.ListLemmas.{any-weaker, and_elim, not_true}
use Rattle.core_history.proofs.LogLemmas.{get-pushed}
use Rattle.core_history.proofs.RightEvents.{IsRightAnswer, Rights, good_rights, start_rights}
use Rattle.core_history.proofs.TrueLogs.{answer_after, IsTrueLog, true_applied}
use Rattle.core_history.proofs.WorldLemmas.{inner_of, taken-inner}

-- the rule, the tie, held entries and whatever else is kept, whatever the keeper says
pub run_holds : (shape : Shape) (moves : List Move) → Holds shape (world_of shape moves).past (known_of (world_of shape moves).past)
run_holds shape [] = start_holds shape
run_holds shape (Begin plan ∷ moves) = run_holds shape moves
run_holds shape (Take turn said ∷ moves) =
    let world = world_of shape moves in
    good_holds shape world.past (turn_event shape world turn said) (taken-inner shape world turn said (inner_of shape moves)).1 (run_holds shape moves)

-- each plan that was begun is one that a session takes
plans_are : (shape : Shape) (moves : List Move) → HasPlans moves
    → (place : ℕ) (plan : Plan) → slice_get (world_of shape moves).plans place ≡ Some plan → IsPlan plan
plans_are shape [] plans place plan at = absurd cc
plans_are shape (Begin new ∷ moves) plans place plan at =
    ⊎_elim
    (λ old. plans_are shape moves plans.1 place plan old)
    (λ last. subst IsPlan last.1 plans.0)
    (get-pushed (world_of shape moves).plans new plan place at)
plans_are shape (Take turn said ∷ moves) plans place plan at = plans_are shape moves plans place plan at

plan_ids : (plan : Plan) → IsPlan plan → All HasIds (changes_of plan)
plan_ids (Read key floor) is = All-nil HasIds
plan_ids (Write mode txn) is = is.ids
plan_ids (Look mode key txn) is = is.0.ids
plan_ids (Quit mode txn) is = is.ids
plan_ids (Skip key txn) is = is.0.ids
plan_ids (Raise txn) is = is.ids
plan_ids (Renew mode txn) is = is.ids

-- the log of a run over fit rows, where the keeper's word was true
run_log : (opening : Tables) (shape : Shape) (moves : List Move) → HasPlans moves → Fit opening → IsTruePast opening (world_of shape moves).past
    → IsTrueLog opening (log_of (world_of shape moves).past)
run_log opening shape moves plans fit word = record {
  fit = fit;
  ids = λ place commit at.
      let planned = (inner_of shape moves).logged place commit at in
      subst (λ (txn : List Change). All HasIds txn) (sym planned.changes)
      (plan_ids planned.plan (plans_are shape moves plans (commit.sid.number - 1) planned.plan planned.at));
  applied = true_applied opening (world_of shape moves).past word;
}

-- what is right, where the keeper's word was true
pub run_rights : (opening : Tables) (shape : Shape) (moves : List Move) → HasPlans moves → Fit opening → IsTruePast opening (world_of shape moves).past
    → Rights opening shape (world_of shape moves).past (log_of (world_of shape moves).past)
run_rights opening shape [] plans fit word = start_rights opening shape
run_rights opening shape (Begin plan ∷ moves) plans fit word = run_rights opening shape moves plans.1 fit word
run_rights opening shape (Take turn said ∷ moves) plans fit word =
    let world = world_of shape moves in
    good_rights opening shape world.past (turn_event shape world turn said)
    (run_log opening shape moves plans fit word.1) (taken-inner shape world turn said (inner_of shape moves)).1 word.0
    (run_holds shape moves) (run_rights opening shape moves plans fit word.1)

module _ (opening : Tables) (shape : Shape) (world : World) (holds : Holds shape world.past (known_of world.past))
    (rights : Rights opening shape world.past (log_of world.past)) where
  answer_of : (key : QKey) (found : Option (List ℕ × ℕ)) → IsEntryHeld key (marks_of key (steps_on shape world key)) (known_of world.past) found
      → IsEntryRight (answer_after opening key) (log_of world.past) found → IsAnswer opening (log_of world.past) key found
  answer_of key None held right = tt
  answer_of key (Some found) held right = (held.within, right)

  stood_for : (who token : ℕ) (quars : List Quar) → stands_as who token quars ≡ true → list_any (λ quar. quar.sid.number == who) quars ≡ true
  stood_for who token quars h =
      any-weaker (λ quar. (quar.sid.number == who) && (quar.token == token))
      (λ quar. quar.sid.number == who) quars (λ quar both. (and_elim (quar.sid.number == who) (quar.token == token) both).0) h

  pending_of : (key : QKey) (found : Option (List ℕ × ℕ)) → entry key (steps_on shape world key) ≡ found
      → ArePending (log_of world.past) key (standing key (steps_on shape world key)) found
  pending_of key None is = tt
  pending_of key (Some found) is = λ place commit at late touched.
      let marks = marks_of key (steps_on shape world key) in
      let held = subst (IsEntryHeld key marks (known_of world.past)) is (holds.held key) in
      let stands = lacking_stands key marks (known_of world.past) None (standing key (steps_on shape world key))
      (entry key (steps_on shape world key)) found.1 (holds.ruled key) (holds.tied key) held place commit at late touched in
      stood_for commit.sid.number stands.0 (standing key (steps_on shape world key)) stands.1

  current_of : (key : QKey) (lease : ReadLease) (least : ℕ)
      (leased : IsLeased key lease.token world.past (marks_of key (steps_on shape world key)) (known_of world.past))
      → least ≡ length leased.then_known.log → (answers : List Answer) → AllByRecursion (IsBetween least (length (log_of world.past))) answers
      → AllByRecursion (IsRightAnswer opening (log_of world.past) key) answers → AllByRecursion (IsCurrent opening (log_of world.past) key least) answers
  current_of key lease least leased is [] between right = tt
  current_of key lease least leased is (answered ∷ answers) between right = (
    record {
      since = between.0.0;
      within = between.0.1;
      right = right.0.1;
      latest = λ place commit at late. not_true (touches commit.txn key) (λ touched.
          stored_is_latest key leased.then_marks (marks_of key (steps_on shape world key)) leased.then_known (known_of world.past)
          answered.stamp leased.moment leased.since leased.more (holds.ruled key) (let h = between.0.0 in omega (arith, h, is)) place commit at late touched);
    },
    current_of key lease least leased is answers between.1 right.1,
  )

  quiet_of : (key : QKey) (lease : ReadLease) → recorded key (steps_on shape world key) ≡ Some lease → IsQuiet opening shape world key lease
  quiet_of key lease is =
      let leased = holds.leased key lease is in
      let least = length leased.then_known.log in
      record {
        least = least;
        leased = leased.leased;
        untouched = λ place commit at late. not_true (touches commit.txn key) (λ touched.
            ⊎_elim
            (λ mine. absurd mine)
            (λ known. absurd (omega (arith, known, late)))
            (known_then key None leased.then_marks (marks_of key (steps_on shape world key)) leased.then_known
            (known_of world.past) leased.moment leased.since leased.more (holds.ruled key) place commit at touched));
        held = λ number. current_of key lease least leased refl (answers_under key lease.token number world.past)
            (holds.asked key lease.token number least leased.leased).1 (rights.answers key lease.token number);
      }

  pub facts_from : IsTrueLog opening (log_of world.past) → GrantFacts shape world → Facts opening shape world
  facts_from true_log grants = record {
    answers = λ key. answer_of key (entry key (steps_on shape world key)) (holds.held key) (rights.entries key);
    pending = λ key. pending_of key (entry key (steps_on shape world key)) refl;
    apart = grants.apart;
    quiet = quiet_of;
    exclusive = exclusive_of opening shape world holds rights true_log grants;
    once = grants.once;
    order = grants.order;
    swept = grants.swept;
  }

  pub fresh_from : Fresh opening (log_of world.past) (histories_of shape world.past)
  fresh_from =
      let P : List Step → Type 0 = λ history. IsFreshPast opening (log_of world.past) (reverse history) in
      let Q : List Step → Type 0 = λ past. IsFreshPast opening (log_of world.past) past in
      All-map P (λ place. reverse (steps_of place world.past)) (range_with_len 0 shape.shards) (λ k d lt.
      let within : k < shape.shards = subst (λ (n : ℕ). k < n) (length-range_with_len 0 shape.shards) lt in
      let at = get_or-range_with_len 0 shape.shards k d within in
      let R : ℕ → Type 0 = λ place. P (reverse (steps_of place world.past)) in
      subst R (sym at) (subst Q (sym (reverse-reverse (steps_of (0 + k) world.past))) (rights.fresh (0 + k))))

pub runs_fresh : RunsAreFresh
runs_fresh shape opening moves some plans fit word =
    let world = world_of shape moves in
    let holds = run_holds shape moves in
    let rights = run_rights opening shape moves plans fit word in (
      facts_from opening shape world holds rights (run_log opening shape moves plans fit word) (grant_facts shape moves some plans),
      fresh_from opening shape world holds rights,
    )
