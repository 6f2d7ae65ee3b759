-- A quarantine that isn't to invalidate has its key for itself, in every world in which the keeper's word was true.
use Rattle.std.proofs.Common.{ℕ, ◌≡◌, ◌≢◌, ◌<◌, ◌≤◌, ◌==◌, ◌&&◌, Bool, true, false, not, cond, List, [], ◌∷◌, length, All, find, Option}
use Rattle.std.proofs.Common.{Some, None, slice_get, eq-eqb, refl, sym, ap, subst, ◌∙◌, inl, inr, ⊎_elim, arith}
use Rattle.std.proofs.lemmas.Bool.{false≢true}
use Rattle.std.proofs.lemmas.List.Elements.{All-from_recursion}
use Rattle.rows_model.specs.declared.keys.QKey.{QKey}
use Rattle.rows_model.specs.declared.keys.Sid.{Sid}
use Rattle.rows_model.specs.Rows.{Tables}
use Rattle.rows_model.specs.Refresh.{refreshed}
use Rattle.lease_table.specs.declared.records.Mode.TheVariants.{Invalidate}
use Rattle.lease_table.specs.declared.records.Quar.{Quar}
use Rattle.lease_table.specs.Leases.{has_token}
use Rattle.key_shard.specs.Past.{standing, entry, quar_of}
use Rattle.sql_keeper.specs.declared.stores.Commit.{Commit}
use Rattle.key_freshness.specs.Known.{IsLogged}
use Rattle.key_freshness.specs.Laws.{IsOwn}
use Rattle.key_freshness.specs.Marks.{marks_of}
use Rattle.key_freshness.specs.Held.{IsEntryHeld, IsEntryRight}
use Rattle.key_freshness.proofs.KnownLemmas.{more-stood}
use Rattle.key_freshness.proofs.MomentLemmas.{known_then}
use Rattle.key_freshness.proofs.WriteLemmas.{still_present, made_of_held}
use Rattle.session_client.specs.declared.plans.Shape.{Shape}
use Rattle.core_history.specs.Events.{log_of, known_of, has_committed, was_ended}
use Rattle.core_history.specs.Machine.{World, is_open, is_writer, plan_at}
use Rattle.core_history.specs.Facts.{IsExclusive, IsPresent, IsRefreshed, steps_on}
use Rattle.core_history.proofs.ExclusiveLemmas.{IsAlone, AreAlone}
use Rattle.core_history.proofs.GrantFacts.{GrantFacts}
use Rattle.core_history.proofs.HeldEvents.{Holds}
use Rattle.core_history.proofs.ListLemmas.{any-at, every-weaker, not_both}
use Rattle.core_history.proofs.RightEvents.{Rights}
use Rattle.core_history.proofs.TrueLogs.{answer_after, IsTrueLog, leaves_untouched, makes_refreshed}

-- an open session hasn't committed
open-unlogged : (world : World) (who : Sid) → is_open world who ≡ true → IsLogged (log_of world.past) who.number → ⊥
open-unlogged world who is_so logged =
    not_both (any-at (λ commit. commit.sid.number == who.number)
    (log_of world.past) logged.place logged.commit logged.at (eq-eqb logged.commit.sid.number who.number logged.own))
    (by (is_writer (plan_at who.number world.plans)) (has_committed who.number world.past) (was_ended who.number world.past) is_so)
  where
    by : (a b c : Bool) → (a && not b && not c) ≡ true → b ≡ false
    by a false c h = refl
    by true true c h = absurd (false≢true h)
    by false true c h = absurd (false≢true h)

module _ (opening : Tables) (shape : Shape) (world : World) (holds : Holds shape world.past (known_of world.past))
    (rights : Rights opening shape world.past (log_of world.past)) (true_log : IsTrueLog opening (log_of world.past)) (grants : GrantFacts shape world) where
  abbrev Alone : QKey → Quar → Type 0
  Alone key quar = IsAlone key quar world.past (marks_of key (steps_on shape world key)) (known_of world.past) (entry key (steps_on shape world key))

  -- while its session is open, what it found is the present answer
  present_of : (key : QKey) (quar : Quar) (alone : Alone key quar) (found : Option (List ℕ × ℕ)) → IsEntryHeld key alone.then_marks alone.then_known found
      → IsEntryRight (answer_after opening key) (log_of world.past) found
      → (IsLogged (log_of world.past) quar.sid.number → ⊥) → IsPresent opening (log_of world.past) key found
  present_of key quar alone None held right ongoing = tt
  present_of key quar alone (Some old) held right ongoing =
      still_present key quar.sid.number old.1 alone.then_marks (marks_of key (steps_on shape world key)) alone.then_known
      (known_of world.past) (answer_after opening key) old.0
      alone.moment held alone.since alone.more (holds.ruled key) right (leaves_untouched opening (log_of world.past) true_log key) ongoing

  -- the session's own commit came after the grant
  own_of : (key : QKey) (quar : Quar) (alone : Alone key quar) (place : ℕ) (commit : Commit) → slice_get (log_of world.past) place ≡ Some commit
      → commit.sid.number ≡ quar.sid.number → IsOwn alone.then_known (known_of world.past) quar.sid.number place commit
  own_of key quar alone place commit at mine = record {
    at = at;
    mine = mine;
    late = not_less place (length alone.then_known.log)
        (λ lt. alone.before (record { place = place; commit = commit; at = more-stood alone.more place commit at lt; own = mine }));
  }
    where
      not_less : (a b : ℕ) → (a < b → ⊥) → b ≤ a
      not_less a b fails = omega (arith, fails)

  -- what it found, refreshed by that commit, is the answer after it
  new_of : (key : QKey) (quar : Quar) (alone : Alone key quar) (found : Option (List ℕ × ℕ)) → IsEntryHeld key alone.then_marks alone.then_known found
      → IsEntryRight (answer_after opening key) (log_of world.past) found → (place : ℕ) (commit : Commit) → slice_get (log_of world.past) place ≡ Some commit
      → commit.sid.number ≡ quar.sid.number → IsRefreshed opening (log_of world.past) key place commit.txn found
  new_of key quar alone None held right place commit at mine = tt
  new_of key quar alone (Some old) held right place commit at mine =
      made_of_held key quar.sid.number place old.1 commit alone.then_marks (marks_of key (steps_on shape world key)) alone.then_known (known_of world.past)
      (answer_after opening key) (λ txn value. refreshed key value txn) old.0 alone.moment held alone.since alone.more (holds.ruled key)
      (own_of key quar alone place commit at mine) right (leaves_untouched opening (log_of world.past) true_log key)
      (makes_refreshed opening (log_of world.past) true_log key)

  exclusive_is : (key : QKey) (quar : Quar) → standing key (steps_on shape world key) ≡ quar ∷ [] → Alone key quar → IsExclusive opening shape world key quar
  exclusive_is key quar only alone =
      let right = rights.found key quar.token alone.found alone.granted in
      record {
        found = alone.found;
        granted = alone.granted;
        untouched = λ place commit at late touched.
            ⊎_elim
            (λ mine. mine)
            (λ lt. let count = alone.count in absurd (omega (arith, lt, late, count)))
            (known_then key (Some quar.sid.number) alone.then_marks (marks_of key (steps_on shape world key)) alone.then_known
            (known_of world.past) alone.moment alone.since alone.more (holds.ruled key) place commit at touched);
        same = alone.same;
        kept = grants.kept key quar alone.found stands alone.granted;
        present = λ is_so. present_of key quar alone alone.found.entry alone.held right (open-unlogged world quar.sid is_so);
        new = new_of key quar alone alone.found.entry alone.held right;
      }
    where
      stands : quar_of key quar.token (steps_on shape world key) ≡ Some quar
      stands = ap (find (has_token quar.token)) only ∙ ap (λ b. cond b (Some quar) None) (eq-eqb quar.token quar.token refl)

  -- each quarantine that isn't to invalidate has its key for itself
  pub exclusive_of : (key : QKey) → All (λ quar. quar.mode ≢ Invalidate → IsExclusive opening shape world key quar) (standing key (steps_on shape world key))
  exclusive_of key = by (holds.alone key)
    where
      P : Quar → Type 0
      P quar = quar.mode ≢ Invalidate → IsExclusive opening shape world key quar

      by : AreAlone key (standing key (steps_on shape world key)) world.past
          (marks_of key (steps_on shape world key)) (known_of world.past) (entry key (steps_on shape world key))
          → All P (standing key (steps_on shape world key))
      by (inl all) =
          All-from_recursion P (standing key (steps_on shape world key))
          (every-weaker (λ quar. quar.mode ≡ Invalidate) P (standing key (steps_on shape world key)) (λ quar is other. absurd (other is)) all)
      by (inr one) =
          subst (All P) (sym one.only) (All-from_recursion P (one.quar ∷ []) ((λ other. exclusive_is key one.quar one.only one.alone), tt))
