-- The hits of a shard that were fresh stay fresh where more was seen of the store.
use Rattle.std.proofs.Common.{ℕ, ◌<◌, List, ◌∷◌, [], length, sym, inl, inr, arith}
use Rattle.std.specs.List.{AllByRecursion}
use Rattle.std.proofs.lemmas.Option.{slice_get_within}
use Rattle.rows_model.specs.declared.keys.QKey.{QKey}
use Rattle.rows_model.specs.Rows.{Tables}
use Rattle.key_shard.specs.declared.steps.Step.{Step}
use Rattle.key_shard.specs.declared.steps.Step.TheVariants as step
use Rattle.sql_keeper.specs.declared.stores.Commit.{Commit}
use Rattle.sql_keeper.specs.Fresh.{IsFreshHit, IsFreshStep, IsFreshPast}
use Rattle.log_word.specs.declared.events.StoreEvent.{StoreEvent}
use Rattle.log_word.specs.Events.{AreInOrder}
use Rattle.log_word.specs.Steps.{IsBorneOut}
use Rattle.key_freshness.specs.Known.{IsMore, IsOver, StandsAt}
use Rattle.key_freshness.proofs.KnownLemmas.{more-length, more-stands, more-stood}
use Rattle.key_freshness.proofs.MarkLemmas.{released-ended}
use Rattle.key_freshness.proofs.MomentLemmas.{more_is_right}
use Rattle.bound_hub.specs.Shorts.{shorts_of}
use Rattle.bound_hub.specs.Knowns.{commits_of, known_of}
use Rattle.bound_hub.specs.Facts.{answer_after}
use Rattle.bound_hub.proofs.EventLemmas.{over_is_known, logged_once, logged_not_ended}
use Rattle.bound_hub.proofs.ShortLemmas.{ended_is_over}

module _ (opening : Tables) (old new : List StoreEvent) (more : IsMore (known_of old) (known_of new)) (in_order : AreInOrder new) (before : List Step) where
  -- a commit that is seen now, of a session that was over then, was seen then
  was_seen : (place : ℕ) (commit : Commit) → StandsAt (commits_of new) place commit → IsOver (known_of old) commit.sid.number → place < length (commits_of old)
  was_seen place commit at (inl logged) =
      let e = logged_once new in_order place logged.place commit logged.commit at (more-stands more logged.place logged.commit logged.at) (sym logged.own) in
      let lt = slice_get_within (commits_of old) logged.place logged.commit logged.at in omega (arith, e, lt)
  was_seen place commit at (inr ended) = absurd (logged_not_ended new in_order place commit at (more.kept commit.sid.number ended))

  hit_goes_on : (past : List Step) → AllByRecursion (IsBorneOut old) (shorts_of before past) → (key : QKey) (value : List ℕ) (stamp : ℕ)
      → IsFreshHit opening (commits_of old) past key value stamp → IsFreshHit opening (commits_of new) past key value stamp
  hit_goes_on past all key value stamp fresh = record {
    known = let most = fresh.known in let longer = more-length more in omega (arith, most, longer);
    right = more_is_right (answer_after opening key) (known_of old) (known_of new) value stamp more fresh.known fresh.right;
    current = λ place commit at touched released.
        let ended = released-ended key commit.sid past released in
        let over = over_is_known old commit.sid.number (ended_is_over key old before past all commit.sid.number ended.token ended.mark) in
        fresh.current place commit (more-stood more place commit at (was_seen place commit at over)) touched released;
  }

  step_goes_on : (past : List Step) → AllByRecursion (IsBorneOut old) (shorts_of before past) → (s : Step)
      → IsFreshStep opening (commits_of old) past s → IsFreshStep opening (commits_of new) past s
  step_goes_on past all (step.Hit key sid floor value stamp) fresh = hit_goes_on past all key value stamp fresh
  step_goes_on past all other fresh = tt

  -- where the steps are borne out by what was seen then
  pub hits_go_on : (past : List Step) → AllByRecursion (IsBorneOut old) (shorts_of before past) → IsFreshPast opening (commits_of old) past
      → IsFreshPast opening (commits_of new) past
  hits_go_on [] all fresh = tt
  hits_go_on (s ∷ past) all fresh = (step_goes_on past all.1 s fresh.0, hits_go_on past all.1 fresh.1)
