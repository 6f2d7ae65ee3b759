-- Where the keeper's word is true, entries, answers and hits are right, and each good event keeps that.
use Rattle.std.proofs.Common.{ℕ, ◌≡◌, ◌≤◌, Bool, true, false, cond, ◌==◌, ◌&&◌, ◌||◌, List, [], ◌∷◌, ◌++◌, length, length-append, Option}
use Rattle.std.proofs.Common.{Some, None, option_map, decimal, ℤ, append-nil, refl, sym, ap, subst, ◌∙◌, inl, inr, ⊎_elim, arith}
use Rattle.std.specs.List.{AllByRecursion, list_any}
use Rattle.std.proofs.lemmas.Bool.{eqb-true, true≢false}
use Rattle.rows_model.specs.declared.keys.QKey.{QKey}
use Rattle.rows_model.specs.declared.keys.Sid.{Sid}
use Rattle.rows_model.specs.Key.{same_key}
use Rattle.rows_model.proofs.SameKey.{same_key-true}
use Rattle.rows_model.specs.Rows.{Tables}
use Rattle.rows_model.specs.Query.{answer}
use Rattle.rows_model.specs.Delta.{delta_of}
use Rattle.rows_model.specs.Refresh.{refreshed}
use Rattle.rows_model.specs.Shift.{shifted}
use Rattle.rows_model.specs.Placement.{shard_of}
use Rattle.lease_table.specs.declared.records.Mode.TheVariants.{Refresh, Delta}
use Rattle.key_shard.specs.declared.steps.Ended.{Ended}
use Rattle.key_shard.specs.declared.steps.Ended.TheVariants as ended
use Rattle.key_shard.specs.declared.steps.Step.{Step}
use Rattle.key_shard.specs.declared.steps.Step.TheVariants as step
use Rattle.key_shard.specs.Past.{standing, entry, entry_ended, entry_shifted, is_evicted, evicted_by}
use Rattle.sql_keeper.specs.declared.stores.Answer.{Answer}
use Rattle.sql_keeper.specs.declared.stores.Commit.{Commit}
use Rattle.sql_keeper.specs.Log.{state, rows_after}
use Rattle.sql_keeper.specs.Fresh.{IsFreshHit, IsFreshPast, releases}
use Rattle.key_freshness.specs.Marks.{Mark, key_of, marks_of}
use Rattle.key_freshness.specs.Held.{IsHeld, IsEntryHeld, IsRight, IsEntryRight}
use Rattle.key_freshness.specs.Known.{Known, IsOver}
use Rattle.key_freshness.proofs.KnownLemmas.{take-front, take-whole, stands-pushed, more-take}
use Rattle.key_freshness.proofs.HitLemmas.{hit_is_fresh}
use Rattle.key_freshness.proofs.MarkLemmas.{released-ended}
use Rattle.key_freshness.proofs.WriteLemmas.{put_is_right, shift_is_right}
use Rattle.expiry_sweeper.specs.declared.replies.SweepReply.{SweepReply}
use Rattle.expiry_sweeper.specs.declared.replies.SweepWanted.{SweepWanted}
use Rattle.session_client.specs.declared.plans.Shape.{Shape}
use Rattle.session_client.specs.declared.replies.Reply.{Reply}
use Rattle.session_client.specs.declared.replies.Reply.TheVariants as Reply
use Rattle.session_client.specs.declared.replies.Wanted.{Wanted}
use Rattle.session_client.specs.declared.replies.Wanted.TheVariants as wanted
use Rattle.core_history.specs.Events.{Event, Stepped, Called, Ticked, Swept, steps_of, log_of, known_of}
use Rattle.core_history.specs.Facts.{leases, answers_in, answers_under, Found, grants_as, found_at}
use Rattle.core_history.specs.Truth.{IsTrueEvent}
use Rattle.core_history.proofs.ExclusiveLemmas.{WritesAlone, writes_alone, grants-on}
use Rattle.core_history.proofs.GoodEvents.{IsOneOf, PutsNew, ShiftsOwn, IsGoodStep, IsGoodSweep, IsGoodEvent}
use Rattle.core_history.proofs.HeldEvents.{steps_at, IsWithin, IsHome, Holds, IsSamePast, same-called, same-ticked, same-swept, same-dropped}
use Rattle.core_history.proofs.ListLemmas.{choose, every-append, every-weaker, every-any, and_elim, not_true}
use Rattle.core_history.proofs.TrueLogs.{answer_after, IsTrueLog, leaves_untouched, makes_refreshed, makes_shifted}

-- an answer is the key's on the rows after as many commits as its stamp says, and there were as many
abbrev pub IsRightAnswer : Tables → List Commit → QKey → Answer → Type 0
IsRightAnswer opening log key answered =
    (answered.stamp ≤ length log) × (answered.value ≡ answer key (state opening log answered.stamp))

-- what is right after each event
pub record Rights (opening : Tables) (shape : Shape) (past : List Event) (log : List Commit) : Type 0 where
  pub entries : (key : QKey) → IsEntryRight (answer_after opening key) log (entry key (steps_at shape past key))
  pub answers : (key : QKey) (token number : ℕ) → AllByRecursion (IsRightAnswer opening log key) (answers_under key token number past)
  pub fresh : (place : ℕ) → IsFreshPast opening log (steps_of place past)
  pub found : (key : QKey) (token : ℕ) (found : Found) → found_at key token past ≡ Some found → IsEntryRight (answer_after opening key) log found.entry

module _ (opening : Tables) (log : List Commit) where
  none_or_kept : (key : QKey) (b : Bool) (found : Option (List ℕ × ℕ))
      → IsEntryRight (answer_after opening key) log found → IsEntryRight (answer_after opening key) log (cond b None found)
  none_or_kept key true found h = tt
  none_or_kept key false found h = h

  stored_or_kept : (key on : QKey) (value : List ℕ) (stamp : ℕ) (b : Bool) (found : Option (List ℕ × ℕ))
      → (b ≡ true → key ≡ on) → IsRight (answer_after opening on) log value stamp
      → IsEntryRight (answer_after opening key) log found → IsEntryRight (answer_after opening key) log (cond b (Some (value, stamp)) found)
  stored_or_kept key on value stamp true found same h k =
      subst (λ (q : QKey). IsRight (answer_after opening q) log value stamp) (sym (same refl)) h
  stored_or_kept key on value stamp false found same h k = k

  -- what the end of a quarantine has to bring of a value: what is put is right, and what is shifted
  abbrev EndsRight : QKey → List Step → Ended → Type 0
  EndsRight on past ended.Keep = Unit {0}
  EndsRight on past ended.Drop = Unit {0}
  EndsRight on past (ended.Put value stamp evicted) = IsRight (answer_after opening on) log value stamp
  EndsRight on past (ended.Shift by stamp) = IsEntryRight (answer_after opening on) log (entry_shifted by stamp (entry on past))

  -- and an honest step: what is stored is right
  abbrev IsRightStep : List Step → Step → Type 0
  IsRightStep past (step.Stored on token now value stamp evicted) = IsRight (answer_after opening on) log value stamp
  IsRightStep past (step.Released on sid token how) = EndsRight on past how
  IsRightStep past other = Unit {0}

  ended_here : (key : QKey) (past : List Step) (how : Ended) → EndsRight key past how → IsEntryRight (answer_after opening key) log (entry key past)
      → IsEntryRight (answer_after opening key) log (entry_ended how (entry key past))
  ended_here key past ended.Keep good h = h
  ended_here key past ended.Drop good h = tt
  ended_here key past (ended.Put value stamp evicted) good h = good
  ended_here key past (ended.Shift by stamp) good h = good

  ended_or_kept : (key on : QKey) (past : List Step) (how : Ended) (b : Bool) → same_key key on ≡ b → EndsRight on past how
      → IsEntryRight (answer_after opening key) log (entry key past)
      → IsEntryRight (answer_after opening key) log (cond b (entry_ended how (entry key past)) (cond (is_evicted key (evicted_by how)) None (entry key past)))
  ended_or_kept key on past how true same good h = ended_here key past how (subst (λ k. EndsRight k past how) (sym (same_key-true key on same)) good) h
  ended_or_kept key on past how false same good h = none_or_kept key (is_evicted key (evicted_by how)) (entry key past) h

  entry_after : (key : QKey) (past : List Step) (s : Step) → IsRightStep past s → IsEntryRight (answer_after opening key) log (entry key past)
      → IsEntryRight (answer_after opening key) log (entry key (s ∷ past))
  entry_after key past (step.Stored on token now value stamp evicted) good h =
      stored_or_kept key on value stamp (same_key key on) _ (same_key-true key on) good (none_or_kept key (is_evicted key evicted) (entry key past) h)
  entry_after key past (step.Released on sid token how) good h = ended_or_kept key on past how (same_key key on) refl good h
  entry_after key past (step.Lease on sid floor now token deadline) good h = none_or_kept key (same_key key on) (entry key past) h
  entry_after key past (step.Again on sid floor now stands) good h = none_or_kept key (same_key key on) (entry key past) h
  entry_after key past (step.Hit on sid floor value stamp) good h = h
  entry_after key past (step.Own on sid) good h = h
  entry_after key past (step.Void on token now) good h = h
  entry_after key past (step.Granted on sid mode shift now token deadline) good h = h
  entry_after key past (step.Held on sid mode) good h = h
  entry_after key past (step.Refused on sid mode holder held) good h = h
  entry_after key past (step.Gone on sid token) good h = h
  entry_after key past (step.Raised on sid token) good h = h
  entry_after key past (step.Shared on sid token holder) good h = h
  entry_after key past (step.Renewed on sid token now deadline) good h = h

right_answer : (P : Answer → Type 0) (answered : Answer) (answers : List Answer) → AllByRecursion P answers → IsOneOf answered answers → P answered
right_answer P answered (first ∷ answers) h (inl e) = subst P e h.0
right_answer P answered (first ∷ answers) h (inr t) = right_answer P answered answers h.1 t
right_answer P answered [] h t = absurd t

-- what a session writes under the quarantine that has the key for itself is right
module _ (opening : Tables) (shape : Shape) (past : List Event)
    (holds : Holds shape past (known_of past)) (rights : Rights opening shape past (log_of past)) (true_log : IsTrueLog opening (log_of past)) where
  put_right : (on : QKey) (sid : Sid) (token : ℕ) (value : List ℕ) (stamp : ℕ) → PutsNew past (steps_at shape past on) on sid token value stamp
      → IsRight (answer_after opening on) (log_of past) value stamp
  put_right on sid token value stamp good =
      let steps = steps_at shape past on in
      let writes = good.writes in
      let it = writes_alone past steps on sid token Refresh stamp (λ e. cc) writes (holds.alone on) in
      let moment = it.alone in
      let same : moment.found ≡ good.found = some_same (sym moment.granted ∙ ap (λ t. found_at on t past) it.token_is ∙ good.at_grant) in
      let held : IsHeld on moment.then_marks moment.then_known good.old.1 =
      subst (IsEntryHeld on moment.then_marks moment.then_known) (ap (λ (f : Found). f.entry) same ∙ good.found_is) moment.held in
      let right : IsRight (answer_after opening on) (log_of past) good.old.0 good.old.1 =
      subst (IsEntryRight (answer_after opening on) (log_of past)) good.found_is (rights.found on token good.found good.at_grant) in
      let then_right : IsRight (answer_after opening on) moment.then_known.log good.old.0 good.old.1 =
      right ∙ ap (answer_after opening on) (more-take moment.more good.old.1 held.within) in
      let R : ℕ → Type 0 = λ n. IsRight (answer_after opening on) (log_of past) value n in
      subst R (sym writes.stamp_is)
      (put_is_right on it.quar.sid.number writes.place good.old.1 writes.commit moment.then_marks
      (marks_of on steps) moment.then_known (known_of past) (answer_after opening on) (λ txn old. refreshed on old txn) good.old.0 value
      moment.moment held then_right moment.since moment.more (holds.ruled on) it.own
      (leaves_untouched opening (log_of past) true_log on) (makes_refreshed opening (log_of past) true_log on) good.new_is)
    where
      some_same : {X : Type 0} {a b : X} → Some a ≡ Some b → a ≡ b
      some_same e = cc

  shift_right : (on : QKey) (sid : Sid) (token : ℕ) (by : ℤ) (stamp : ℕ) → ShiftsOwn past (steps_at shape past on) on sid token by stamp
      → IsEntryRight (answer_after opening on) (log_of past) (entry_shifted by stamp (entry on (steps_at shape past on)))
  shift_right on sid token by stamp good = from (entry on steps) refl
    where
      steps : List Step
      steps = steps_at shape past on

      before : (old : List ℕ × ℕ)
          → (it : WritesAlone past on sid token good.writes.place good.writes.commit (marks_of on steps) (entry on steps) (standing on steps))
          → entry on steps ≡ Some old
          → old.1 ≤ length it.alone.then_known.log
      before old it is =
          ⊎_elim
          (λ same.
          let held : IsHeld on it.alone.then_marks it.alone.then_known old.1 =
          subst (IsEntryHeld on it.alone.then_marks it.alone.then_known) (sym same ∙ is) it.alone.held in
          held.within)
          (λ none. absurd (some_none old (sym is ∙ none)))
          it.alone.same
        where
          some_none : (x : List ℕ × ℕ) → Some x ≡ None → ⊥
          some_none x e = absurd cc

      moved : (old : List ℕ × ℕ) → entry on steps ≡ Some old → (n : Option ℕ) → shifted old.0 by ≡ n
          → IsEntryRight (answer_after opening on) (log_of past) (option_map (λ m. (decimal m, stamp)) n)
      moved old is None so = tt
      moved old is (Some n) so =
          let writes = good.writes in
          let it = writes_alone past steps on sid token Delta stamp (λ e. cc) writes (holds.alone on) in
          let made : option_map decimal (shifted old.0 (delta_of on writes.commit.txn)) ≡ Some (decimal n) =
          ap (λ d. option_map decimal (shifted old.0 d)) (sym good.by_is) ∙ ap (option_map decimal) so in
          let R : ℕ → Type 0 = λ k. IsRight (answer_after opening on) (log_of past) (decimal n) k in
          subst R (sym writes.stamp_is)
          (shift_is_right on it.quar.sid.number writes.place old.1 writes.commit it.alone.then_marks (marks_of on steps) it.alone.then_known
          (known_of past) (answer_after opening on) (λ txn value. option_map decimal (shifted value (delta_of on txn))) old.0 (decimal n)
          it.alone.moment it.alone.since it.alone.more (holds.ruled on) (subst (IsEntryHeld on (marks_of on steps) (known_of past)) is (holds.held on))
          (subst (IsEntryRight (answer_after opening on) (log_of past)) is (rights.entries on)) (before old it is)
          it.own (leaves_untouched opening (log_of past) true_log on) (makes_shifted opening (log_of past) true_log on good.counts) made)

      from : (found : Option (List ℕ × ℕ)) → entry on steps ≡ found → IsEntryRight (answer_after opening on) (log_of past) (entry_shifted by stamp found)
      from None is = tt
      from (Some old) is = moved old is (shifted old.0 by) refl

  -- a good step's value is right
  right_step : (who : Sid) (s : Step) → IsGoodStep past (steps_at shape past (key_of s)) who s
      → IsRightStep opening (log_of past) (steps_at shape past (key_of s)) s
  right_step who (step.Stored on token now value stamp evicted) good =
      let is = right_answer (IsRightAnswer opening (log_of past) on) good.answered _ (rights.answers on token who.number) good.is_answer in
      let P : ℕ → Type 0 = λ n. value ≡ answer on (state opening (log_of past) n) in
      subst P (sym good.stamp_is) (good.value_is ∙ is.1)
  right_step who (step.Released on sid token ended.Keep) good = tt
  right_step who (step.Released on sid token ended.Drop) good = tt
  right_step who (step.Released on sid token (ended.Put value stamp evicted)) good = put_right on sid token value stamp good
  right_step who (step.Released on sid token (ended.Shift by stamp)) good = shift_right on sid token by stamp good
  right_step who (step.Hit on sid floor value stamp) good = tt
  right_step who (step.Lease on sid floor now token deadline) good = tt
  right_step who (step.Again on sid floor now stands) good = tt
  right_step who (step.Own on sid) good = tt
  right_step who (step.Void on token now) good = tt
  right_step who (step.Granted on sid mode shift now token deadline) good = tt
  right_step who (step.Held on sid mode) good = tt
  right_step who (step.Refused on sid mode holder held) good = tt
  right_step who (step.Gone on sid token) good = tt
  right_step who (step.Raised on sid token) good = tt
  right_step who (step.Shared on sid token holder) good = tt
  right_step who (step.Renewed on sid token now deadline) good = tt

-- a hit of a held and right entry is fresh
entry_fresh : (opening : Tables) (key : QKey) (known : Known) (past : List Step) (value : List ℕ) (stamp : ℕ) → entry key past ≡ Some (value, stamp)
    → IsEntryHeld key (marks_of key past) known (entry key past) → IsEntryRight (answer_after opening key) known.log (entry key past)
    → IsFreshHit opening known.log past key value stamp
entry_fresh opening key known past value stamp is held right =
    hit_is_fresh key opening known past value stamp
    (subst (IsEntryHeld key (marks_of key past) known) is held)
    (subst (IsEntryRight (answer_after opening key) known.log) is right)

fresh_step : (opening : Tables) (shape : Shape) (past : List Event) (who : Sid) (s : Step)
    → Holds shape past (known_of past) → Rights opening shape past (log_of past)
    → IsGoodStep past (steps_at shape past (key_of s)) who s → IsFreshPast opening (log_of past) (steps_at shape past (key_of s))
    → IsFreshPast opening (log_of past) (s ∷ steps_at shape past (key_of s))
fresh_step opening shape past who (step.Hit on sid floor value stamp) holds rights good h =
    (entry_fresh opening on (known_of past) (steps_at shape past on) value stamp good (holds.held on) (rights.entries on), h)
fresh_step opening shape past who other holds rights good h = (tt, h)

under_step : (P : Answer → Type 0) (b : Bool) (answers : List Answer) → AllByRecursion P answers → AllByRecursion P (cond b [] answers)
under_step P true answers h = tt
under_step P false answers h = h

-- a good step keeps what is right
stepped_rights : (opening : Tables) (shape : Shape) (past : List Event) (who : Sid) (request : Wanted) (s : Step) (reply : Reply)
    → Holds shape past (known_of past)
    → Rights opening shape past (log_of past) → IsTrueLog opening (log_of past) → IsGoodStep past (steps_at shape past (key_of s)) who s
    → Rights opening shape (Stepped (shard_of (key_of s) shape.shards) who request s reply ∷ past) (log_of past)
stepped_rights opening shape past who request s reply holds rights true_log good =
    let is_right = right_step opening shape past holds rights true_log who s good in
    record {
      entries = λ key.
          choose (λ l. IsEntryRight (answer_after opening key) (log_of past) (entry key (l ++ steps_at shape past key)))
          (home == shard_of key shape.shards) (s ∷ []) []
          (λ same. entry_after opening (log_of past) key (steps_at shape past key) s
          (subst (λ p. IsRightStep opening (log_of past) (steps_of p past) s) (eqb-true home (shard_of key shape.shards) same) is_right) (rights.entries key))
          (λ other. rights.entries key);
      answers = λ key token number. under_step (IsRightAnswer opening (log_of past) key)
          (leases key token s) (answers_under key token number past) (rights.answers key token number);
      fresh = λ place. choose (λ l. IsFreshPast opening (log_of past) (l ++ steps_of place past)) (home == place) (s ∷ []) []
          (λ same. subst (λ p. IsFreshPast opening (log_of past) (s ∷ steps_of p past))
          (eqb-true home place same) (fresh_step opening shape past who s holds rights good (rights.fresh home))) (λ other. rights.fresh place);
      found = λ key token found is. found_after key token found (grants_as key token s) refl is;
    }
  where
    home : ℕ
    home = shard_of (key_of s) shape.shards

    now_found : QKey → Found
    now_found key = record { commits = length (log_of past); entry = entry key (steps_of home past) }

    found_after : (key : QKey) (token : ℕ) (found : Found) (b : Bool)
        → grants_as key token s ≡ b → cond b (Some (now_found key)) (found_at key token past) ≡ Some found
        → IsEntryRight (answer_after opening key) (log_of past) found.entry
    found_after key token found true gives e =
        let same = ap (λ k. shard_of k shape.shards) (grants-on key token s gives) in
        let is : now_found key ≡ found = cc in
        subst (λ (f : Found). IsEntryRight (answer_after opening key) (log_of past) f.entry) is
        (subst (λ (p : ℕ). IsEntryRight (answer_after opening key) (log_of past) (entry key (steps_of p past))) same (rights.entries key))
    found_after key token found false gives e = rights.found key token found e

-- so do events that tell the same
same_rights : (opening : Tables) (shape : Shape) (past after : List Event) (log : List Commit)
    → IsSamePast past after → Rights opening shape past log → Rights opening shape after log
same_rights opening shape past after log same rights = record {
  entries = λ key. subst (λ l. IsEntryRight (answer_after opening key) log (entry key l)) (sym (same.steps (shard_of key shape.shards))) (rights.entries key);
  answers = λ key token number. subst (AllByRecursion (IsRightAnswer opening log key)) (sym (same.under key token number)) (rights.answers key token number);
  fresh = λ place. subst (IsFreshPast opening log) (sym (same.steps place)) (rights.fresh place);
  found = λ key token found is. rights.found key token found (sym (same.found key token) ∙ is);
}

-- one more commit keeps what is right
module _ (opening : Tables) (log : List Commit) (new : Commit) where
  same_rows : (key : QKey) (value : List ℕ) (n : ℕ) → n ≤ length log
      → value ≡ answer key (state opening log n) → value ≡ answer key (state opening (log ++ new ∷ []) n)
  same_rows key value n le e = e ∙ ap (λ l. answer_after opening key l) (sym (take-front log (new ∷ []) n le))

  more_length : (n : ℕ) → n ≤ length log → n ≤ length (log ++ new ∷ [])
  more_length n le = let h = length-append log (new ∷ []) in omega (arith, h, le)

  entry_more : (key : QKey) (found : Option (List ℕ × ℕ)) → IsWithin (length log) found
      → IsEntryRight (answer_after opening key) log found → IsEntryRight (answer_after opening key) (log ++ new ∷ []) found
  entry_more key None within h = tt
  entry_more key (Some found) within h = same_rows key found.0 found.1 within h

  answer_more : (key : QKey) (answered : Answer) → IsRightAnswer opening log key answered → IsRightAnswer opening (log ++ new ∷ []) key answered
  answer_more key answered h = (more_length answered.stamp h.0, same_rows key answered.value answered.stamp h.0 h.1)

  hit_more : (past : List Step) (key : QKey) (value : List ℕ) (stamp : ℕ)
      → list_any (releases key new.sid) past ≡ false → IsFreshHit opening log past key value stamp
      → IsFreshHit opening (log ++ new ∷ []) past key value stamp
  hit_more past key value stamp none h =
      record {
        known = more_length stamp h.known;
        right = same_rows key value stamp h.known h.right;
        current = λ place commit e t released.
            ⊎_elim (λ old. h.current place commit old t released)
            (λ last. let P : Commit → Type 0 = λ c. list_any (releases key c.sid) past ≡ true in
            absurd (true≢false (sym (subst P (sym last.1) released) ∙ none)))
            (stands-pushed log new commit place e);
      }

  fresh_more : (past : List Step) → ((key : QKey) → list_any (releases key new.sid) past ≡ false)
      → IsFreshPast opening log past → IsFreshPast opening (log ++ new ∷ []) past
  fresh_more [] none h = tt
  fresh_more (step.Hit key sid floor value stamp ∷ past) none h =
      (hit_more past key value stamp (none key) h.0, fresh_more past (λ k. none k) h.1)
  fresh_more (other ∷ past) none h = (tt, fresh_more past (λ k. or_right_false (releases k new.sid other) (list_any (releases k new.sid) past) (none k)) h.1)
    where
      or_right_false : (a b : Bool) → (a || b) ≡ false → b ≡ false
      or_right_false true b e = absurd (true≢false e)
      or_right_false false b e = e

-- a release is on its key
releases-on : (key : QKey) (who : Sid) (s : Step) → releases key who s ≡ true → key ≡ key_of s
releases-on key who (step.Released on sid token how) e = same_key-true key on (and_elim (same_key key on) (sid.number == who.number) e).0
releases-on key who (step.Hit on sid floor value stamp) e = absurd (true≢false (sym e))
releases-on key who (step.Lease on sid floor now token deadline) e = absurd (true≢false (sym e))
releases-on key who (step.Again on sid floor now stands) e = absurd (true≢false (sym e))
releases-on key who (step.Own on sid) e = absurd (true≢false (sym e))
releases-on key who (step.Stored on token now value stamp evicted) e = absurd (true≢false (sym e))
releases-on key who (step.Void on token now) e = absurd (true≢false (sym e))
releases-on key who (step.Granted on sid mode shift now token deadline) e = absurd (true≢false (sym e))
releases-on key who (step.Held on sid mode) e = absurd (true≢false (sym e))
releases-on key who (step.Refused on sid mode holder held) e = absurd (true≢false (sym e))
releases-on key who (step.Gone on sid token) e = absurd (true≢false (sym e))
releases-on key who (step.Raised on sid token) e = absurd (true≢false (sym e))
releases-on key who (step.Shared on sid token holder) e = absurd (true≢false (sym e))
releases-on key who (step.Renewed on sid token now deadline) e = absurd (true≢false (sym e))

-- a session that isn't over has released nothing
none_released : (shape : Shape) (past : List Event) (who : Sid) → Holds shape past (known_of past) → (IsOver (known_of past) who.number → ⊥)
    → (place : ℕ) (key : QKey) → list_any (releases key who) (steps_of place past) ≡ false
none_released shape past who holds still place key =
    not_true (list_any (releases key who) (steps_of place past)) (λ some.
    let at = every-any (IsHome shape place) (releases key who) (steps_of place past) (holds.homes place) some in
    let home : place ≡ shard_of key shape.shards = sym at.1 ∙ ap (λ k. shard_of k shape.shards) (sym (releases-on key who at.0 at.2)) in
    let ended = released-ended key who (steps_at shape past key) (subst (λ (p : ℕ). list_any (releases key who) (steps_of p past) ≡ true) home some) in
    still ((holds.ruled key).over who.number ended.token ended.mark))

-- what was found with so many commits has its stamp within them all
within_more : (least most : ℕ) (found : Option (List ℕ × ℕ)) → least ≤ most → IsWithin least found → IsWithin most found
within_more least most None le h = tt
within_more least most (Some found) le h = omega (arith, le, h)

held_within : (key : QKey) (marks : List Mark) (known : Known) (found : Option (List ℕ × ℕ))
    → IsEntryHeld key marks known found → IsWithin (length known.log) found
held_within key marks known None held = tt
held_within key marks known (Some found) held = held.within

commit_rights : (opening : Tables) (shape : Shape) (past : List Event) (who : Sid) (commit : Commit)
    → commit.sid ≡ who → (IsOver (known_of past) who.number → ⊥)
    → Holds shape past (known_of past) → Rights opening shape past (log_of past) → Rights opening shape past (log_of past ++ commit ∷ [])
commit_rights opening shape past who commit mine still holds rights =
    let log = log_of past in
    record {
      entries = λ key. entry_more opening log commit key (entry key (steps_at shape past key))
          (held_within key (marks_of key (steps_at shape past key)) (known_of past) (entry key (steps_at shape past key)) (holds.held key))
          (rights.entries key);
      answers = λ key token number. every-weaker (IsRightAnswer opening log key) (IsRightAnswer opening (log ++ commit ∷ []) key)
          (answers_under key token number past) (answer_more opening log commit key) (rights.answers key token number);
      fresh = λ place. fresh_more opening log commit (steps_of place past)
          (λ key. subst (λ (w : Sid). list_any (releases key w) (steps_of place past) ≡ false) (sym mine) (none_released shape past who holds still place key))
          (rights.fresh place);
      found = λ key token found is.
          let was = holds.grants key token found is in
          entry_more opening log commit key found.entry (within_more found.commits (length log) found.entry was.0 was.1) (rights.found key token found is);
    }

-- an answer is right where the keeper's word is true
right_one : (opening : Tables) (log : List Commit) (key : QKey) (answered : Answer) (mine : Bool) → answered.stamp ≡ length log
    → answered.value ≡ answer answered.key (rows_after opening log)
    → AllByRecursion (IsRightAnswer opening log key) (cond (mine && same_key key answered.key) (answered ∷ []) [])
right_one opening log key answered mine stamp word =
    choose (AllByRecursion (IsRightAnswer opening log key)) (mine && same_key key answered.key) (answered ∷ []) []
    (λ is.
    let same = same_key-true key answered.key (and_elim mine (same_key key answered.key) is).1 in
    let P : QKey → Type 0 = λ k. answered.value ≡ answer k (rows_after opening log) in
    let whole : state opening log answered.stamp ≡ rows_after opening log =
    ap (λ n. state opening log n) stamp ∙ ap (λ l. rows_after opening l) (take-whole log) in
    (((omega (arith, stamp)), subst P (sym same) word ∙ ap (λ t. answer key t) (sym whole)), tt))
    (λ other. tt)

answer_rights : (opening : Tables) (shape : Shape) (past : List Event) (who : Sid) (request : Wanted) (answered : Answer)
    → answered.stamp ≡ length (log_of past)
    → answered.value ≡ answer answered.key (rows_after opening (log_of past)) → Rights opening shape past (log_of past)
    → Rights opening shape (Called who request (Reply.Answer answered) ∷ past) (log_of past)
answer_rights opening shape past who request answered stamp word rights = record {
  entries = rights.entries;
  answers = λ key token number. every-append (IsRightAnswer opening (log_of past) key) (answers_in key number who (Reply.Answer answered))
      (answers_under key token number past) (right_one opening (log_of past) key answered (who.number == number) stamp word) (rights.answers key token number);
  fresh = rights.fresh;
  found = rights.found;
}

-- what the sweeper drops
swept_rights : (opening : Tables) (shape : Shape) (past : List Event) (shard : ℕ) (request : SweepWanted) (made : Option Step) (reply : SweepReply)
    → IsTrueLog opening (log_of past)
    → IsGoodSweep shape past shard made → Holds shape past (known_of past) → Rights opening shape past (log_of past)
    → Rights opening shape (Swept shard request made reply ∷ past) (log_of past)
swept_rights opening shape past shard request None reply true_log good holds rights =
    same_rights opening shape past (Swept shard request None reply ∷ past) (log_of past) (same-swept past shard request reply) rights
swept_rights opening shape past shard request (Some (step.Released on sid token ended.Drop)) reply true_log good holds rights =
    let s = step.Released on sid token ended.Drop in
    same_rights opening shape (Stepped shard sid wanted.Nothing s Reply.Nothing
    ∷ past) (Swept shard request (Some s) reply ∷ past) (log_of past) (same-dropped past shard on sid token request reply)
    (subst (λ (p : ℕ). Rights opening shape (Stepped p sid wanted.Nothing s Reply.Nothing ∷ past) (log_of past)) (sym good.home)
    (stepped_rights opening shape past sid wanted.Nothing s Reply.Nothing holds rights true_log good.over))
swept_rights opening shape past shard request (Some other) reply true_log good holds rights = absurd good

-- each good event keeps what is right, where the keeper's word was true in it and before
pub good_rights : (opening : Tables) (shape : Shape) (past : List Event) (event : Event) → IsTrueLog opening (log_of past) → IsGoodEvent shape past event
    → IsTrueEvent (rows_after opening (log_of past)) event → Holds shape past (known_of past) → Rights opening shape past (log_of past)
    → Rights opening shape (event ∷ past) (log_of (event ∷ past))
good_rights opening shape past (Stepped place who request s reply) true_log good word holds rights =
    subst (Rights opening shape (Stepped place who request s reply ∷ past)) (sym (append-nil (log_of past)) ∙ ap (λ l. log_of past ++ l) (sym good.no_commit))
    (subst (λ (p : ℕ). Rights opening shape (Stepped p who request s reply ∷ past) (log_of past)) (sym good.home)
    (stepped_rights opening shape past who request s reply holds rights true_log
    (subst (λ (p : ℕ). IsGoodStep past (steps_of p past) who s) good.home good.good)))
good_rights opening shape past (Called who request (Reply.Committed number txn grants)) true_log good word holds rights =
    let commit : Commit = record { sid = who; txn = txn } in
    same_rights opening shape past (Called who request (Reply.Committed number txn grants)
    ∷ past) (log_of past ++ commit ∷ []) (same-called past who request (Reply.Committed number txn grants) (λ key number. refl))
    (commit_rights opening shape past who commit refl good.opened holds rights)
good_rights opening shape past (Called who request (Reply.Answer answered)) true_log good word holds rights =
    subst (Rights opening shape (Called who request (Reply.Answer answered) ∷ past)) (sym (append-nil (log_of past)))
    (answer_rights opening shape past who request answered good word rights)
good_rights opening shape past (Called who request reply) true_log good word holds rights =
    subst (Rights opening shape (Called who request reply ∷ past)) (sym (append-nil (log_of past)))
    (same_rights opening shape past (Called who request reply ∷ past) (log_of past) (same-called past who request reply (λ key number. refl)) rights)
good_rights opening shape past (Ticked now) true_log good word holds rights =
    subst (Rights opening shape (Ticked now ∷ past)) (sym (append-nil (log_of past)))
    (same_rights opening shape past (Ticked now ∷ past) (log_of past) (same-ticked past now) rights)
good_rights opening shape past (Swept place request made reply) true_log good word holds rights =
    subst (Rights opening shape (Swept place request made reply ∷ past)) (sym (append-nil (log_of past)))
    (swept_rights opening shape past place request made reply true_log good.0 holds rights)

pub start_rights : (opening : Tables) (shape : Shape) → Rights opening shape [] []
start_rights opening shape = record {
  entries = λ key. tt;
  answers = λ key token number. tt;
  fresh = λ place. tt;
  found = λ key token found is. absurd (none_some found is);
}
  where
    none_some : (found : Found) → None ≡ Some found → ⊥
    none_some found e = absurd cc
