-- What a release that writes a value rests on is still seen when more is seen, and when something is noted.
use Rattle.std.proofs.Common.{ℕ, ℤ, pos, ◌≡◌, ◌+◌, ◌<◌, Bool, true, cond, List, [], ◌∷◌, ◌++◌, length, take, All, Option, Some, None, Result, Ok, Err, IfOk, slice_get, refl, sym, ap, subst, ◌∙◌, arith}
use Rattle.std.proofs.lemmas.Bool.{eqb-true}
use Rattle.std.proofs.lemmas.List.Elements.{All-nil, All-cons, All-head, All-tail, All-push, All-weaker}
use Rattle.std.proofs.lemmas.Option.{same_Some, none-some, slice_get_within}
use Rattle.rows_model.specs.declared.changes.Change.{Change}
use Rattle.rows_model.specs.declared.keys.QKey.{QKey}
use Rattle.rows_model.specs.declared.keys.Sid.{Sid}
use Rattle.rows_model.specs.Placement.{shard_of}
use Rattle.rows_model.specs.Rows.{Tables}
use Rattle.lease_table.specs.declared.records.Mode.{Mode}
use Rattle.lease_table.specs.declared.records.Mode.TheVariants as mode
use Rattle.key_shard.specs.declared.replies.Got.{Got}
use Rattle.key_shard.specs.declared.replies.Got.TheVariants as got
use Rattle.key_shard.specs.declared.replies.QAnswer.{QAnswer}
use Rattle.key_shard.specs.declared.steps.Step.{Step}
use Rattle.key_shard.specs.Answers.{quarantine_step}
use Rattle.key_shard.specs.Past.{Terms}
use Rattle.key_shard.specs.Permit.{Permit, same_permit}
use Rattle.key_shard.specs.Replies.{ShowsQuarantine}
use Rattle.key_shard.proofs.CaseLemmas.{quarantine_cases}
use Rattle.sql_keeper.specs.declared.stores.Answer.{Answer}
use Rattle.sql_keeper.specs.declared.stores.Commit.{Commit}
use Rattle.log_word.specs.declared.events.StoreEvent.{StoreEvent}
use Rattle.log_word.specs.declared.seen.Seen.{Seen}
use Rattle.log_word.specs.Steps.{IsSound, IsBeginning}
use Rattle.log_word.proofs.ViewLemmas.{beginning_same, beginning_trans}
use Rattle.key_freshness.proofs.KnownLemmas.{more-length, more-stands, more-take, take-whole}
use Rattle.key_freshness.proofs.MarkLemmas.{by_test}
use Rattle.bound_hub.specs.Gets.{IsLastStep}
use Rattle.bound_hub.specs.Knowns.{commits_of}
use Rattle.bound_hub.specs.Olds.{IsGrantHeld, IsOldHeld}
use Rattle.bound_hub.specs.Shorts.{granted_short, is_alone, raised_short}
use Rattle.bound_hub.specs.Stores.{ShowsCommit}
use Rattle.bound_hub.specs.StepShorts.{quarantine_short}
use Rattle.bound_hub.specs.TrueLogs.{IsTrueLog, IsTrueSoFar}
use Rattle.bound_hub.proofs.FactLemmas.{was_not}
use Rattle.bound_hub.proofs.RuledLemmas.{more_is_known}
use Rattle.desk_book.specs.Books.{Book, Held, all_raised, is_of, is_on, is_present, noted_for, raised, with_answer, with_commit, with_end, with_grant, with_lease, with_place, with_raised, without_grant}
use Rattle.desk_book.specs.declared.facts.Committed.{Committed}
use Rattle.bound_desk.specs.Bound.{with_got}
use Rattle.bound_desk.specs.Writing.{IsGrantAlone, IsHeldSeen, IsPlaced, IsReadyToWrite, StoodAlone}
use Rattle.bound_desk.proofs.GrantNotes.{each_but}

stands_last : (log : List Commit) (last : Commit) → slice_get (log ++ last ∷ []) (length log) ≡ Some last
stands_last [] last = refl
stands_last (first ∷ log) last = stands_last log last

one_more : (log : List Commit) (last : Commit) → length (log ++ last ∷ []) ≡ length log + 1
one_more [] last = refl
one_more (first ∷ log) last = let h = one_more log last in omega (arith, h)

refresh_or_delta : mode.Refresh ≡ mode.Delta → ⊥
refresh_or_delta e = cc

-- what holds of each grant, and of one that was raised, holds of each afterwards
each_raised : (P : Held → Type 0) (permit : Permit) (old : Option (List ℕ × ℕ)) (held : List Held) → P (record { permit = permit; old = old; by = pos 0 }) → All P held
    → All P (all_raised permit old held)
each_raised P permit old [] new all = all
each_raised P permit old (one ∷ held) new all =
    let now : Held = record { permit = permit; old = old; by = pos 0 } in
    by_test (λ b. All P (cond b (now ∷ held) (one ∷ all_raised permit old held))) (same_permit (raised one.permit) permit)
    (λ _. All-cons P now held new (All-tail P one held all))
    (λ _. All-cons P one (all_raised permit old held) (All-head P one held all) (each_raised P permit old held new (All-tail P one held all)))

module _ (opening : Tables) (before : ℕ → List Step) (shards : ℕ) where
  held_goes_on : (commit : Option Committed) (old new : Seen) → IsBeginning old new → (one : Held)
      → IsHeldSeen opening before shards commit old one → IsHeldSeen opening before shards commit new one
  held_goes_on commit old new begins one h = λ alone.
      let it = h alone in
      record {
        earlier = it.earlier;
        sound = it.sound;
        begins = beginning_trans it.earlier old new it.begins begins;
        stood = it.stood;
        late = it.late;
      }

  placed_goes_on : (old new : Seen) → IsBeginning old new → (who : Sid) (done : Committed) → IsPlaced opening old who done → IsPlaced opening new who done
  placed_goes_on old new begins who done h =
      let known = more_is_known old new begins in
      record {
        own = h.own;
        place = h.place;
        at = more-stands known h.place h.own h.at;
        its_own = h.its_own;
        txn_is = h.txn_is;
        number_is = h.number_is;
        applied = λ telling.
            let lt = slice_get_within (commits_of old.events) h.place h.own h.at in
            let number = h.number_is in
            subst (IsTrueLog opening) (sym (more-take known done.number (omega (arith, lt, number))))
            (h.applied (was_not old.stopped new.stopped begins.stopped telling));
      }

  -- where more is seen
  pub ready_goes_on : (book : Book) (old new : Seen) → IsBeginning old new → IsReadyToWrite opening before shards book old → IsReadyToWrite opening before shards book new
  ready_goes_on book old new begins h = record {
    held =
        All-weaker (IsHeldSeen opening before shards book.commit old) (IsHeldSeen opening before shards book.commit new)
        (held_goes_on book.commit old new begins) book.held h.held;
    commit = λ present is done did. placed_goes_on old new begins present.sid done (h.commit present is done did);
  }

  -- the same, where the book stays and the pass sees this
  pub still_ready : (old_book new_book : Book) (old new : Seen) → new_book ≡ old_book → IsBeginning old new
      → IsReadyToWrite opening before shards old_book old → IsReadyToWrite opening before shards new_book new
  still_ready old_book new_book old new same begins h =
      subst (λ book. IsReadyToWrite opening before shards book new) (sym same) (ready_goes_on old_book old new begins h)

  -- what is noted for a session that isn't present is nothing
  pub noted_is_ready : (who : Sid) (note : Book → Book) (book : Book) (seen : Seen) → IsReadyToWrite opening before shards book seen
      → (is_present book who ≡ true → IsReadyToWrite opening before shards (note book) seen) → IsReadyToWrite opening before shards (noted_for who note book) seen
  noted_is_ready who note book seen old new =
      by_test (λ b. IsReadyToWrite opening before shards (cond b (note book) book) seen) (is_present book who) new (λ _. old)

  -- nothing is held, and nothing committed, before a session begins and when one does
  pub none_is_ready : (book : Book) (seen : Seen) → book.held ≡ [] → book.commit ≡ None → IsReadyToWrite opening before shards book seen
  none_is_ready book seen held commit = record {
    held = subst (λ l. All (IsHeldSeen opening before shards book.commit seen) l) (sym held) (All-nil (IsHeldSeen opening before shards book.commit seen));
    commit = λ present is done did. absurd (none-some done (sym commit ∙ did));
  }

  -- a lease changes nothing of it
  pub leased_is_ready : (book : Book) (seen : Seen) (key : QKey) (token : ℕ) → IsReadyToWrite opening before shards book seen → IsReadyToWrite opening before shards (with_lease key token book) seen
  leased_is_ready book seen key token h = record { held = h.held; commit = h.commit }

  pub got_is_ready : (book : Book) (seen : Seen) (key : QKey) (answer : Got) → IsReadyToWrite opening before shards book seen → IsReadyToWrite opening before shards (with_got key answer book) seen
  got_is_ready book seen key (got.Lease token) h = leased_is_ready book seen key token h
  got_is_ready book seen key (got.Hit value stamp) h = h
  got_is_ready book seen key (got.Again stands) h = h
  got_is_ready book seen key got.Own h = h

  -- nor does an answer
  pub answered_is_ready : (book : Book) (seen : Seen) (given : Answer) → IsReadyToWrite opening before shards book seen → IsReadyToWrite opening before shards (with_answer given book) seen
  answered_is_ready book seen given h =
      by_test (λ b. IsReadyToWrite opening before shards (cond b (record book { answers = with_place book.answers ++ given ∷ [] }) book) seen) (is_on book.lease given.key)
      (λ _. record { held = h.held; commit = h.commit })
      (λ _. h)

  -- nor an end
  pub ended_is_ready : (book : Book) (seen : Seen) → IsReadyToWrite opening before shards book seen → IsReadyToWrite opening before shards (with_end book) seen
  ended_is_ready book seen h = record { held = h.held; commit = h.commit }

  -- a grant is spent
  pub spent_is_ready : (book : Book) (seen : Seen) (permit : Permit) → IsReadyToWrite opening before shards book seen → IsReadyToWrite opening before shards (without_grant permit book) seen
  spent_is_ready book seen permit h = record {
    held = each_but (IsHeldSeen opening before shards book.commit seen) permit book.held h.held;
    commit = h.commit;
  }

  -- a quarantine was granted before the session committed, by the last step that is seen
  pub granted_is_ready : (book : Book) (seen : Seen) (permit : Permit) (old : Option (List ℕ × ℕ)) (by : ℤ) → IsSound shards seen → book.commit ≡ None
      → (is_alone permit.mode ≡ true → StoodAlone opening before shards seen (record { permit = permit; old = old; by = by }))
      → IsReadyToWrite opening before shards book seen → IsReadyToWrite opening before shards (with_grant permit old by book) seen
  granted_is_ready book seen permit old by sound none stood h = record {
    held =
        All-push (IsHeldSeen opening before shards book.commit seen) book.held (record { permit = permit; old = old; by = by }) h.held
        (λ alone. record {
          earlier = seen;
          sound = sound;
          begins = beginning_same seen;
          stood = stood alone;
          late = λ done did. absurd (none-some done (sym none ∙ did));
        });
    commit = h.commit;
  }

  -- the session committed, and that is new to the pass
  pub committed_is_ready : (book : Book) (old new : Seen) (cap : ℕ) (who : Sid) (txn : List Change) (permits : List Permit) (number : ℕ) → IsBeginning old new
      → length (commits_of old.events) < number → ShowsCommit opening cap who txn permits new number → IsTrueSoFar opening new → is_present book who ≡ true
      → IsReadyToWrite opening before shards book old → IsReadyToWrite opening before shards (with_commit number txn book) new
  committed_is_ready book old new cap who txn permits number begins late shows true_so_far is h =
      let done : Committed = record { number = number; txn = txn } in
      let own : Commit = record { sid = who; txn = txn } in
      let log = commits_of shows.earlier in
      let events = ap (λ (e : List StoreEvent). commits_of e) shows.last in
      record {
        held =
            All-weaker (IsHeldSeen opening before shards book.commit old) (IsHeldSeen opening before shards (Some done) new)
            (λ one seen alone.
            let it = seen alone in
            record {
              earlier = it.earlier;
              sound = it.sound;
              begins = beginning_trans it.earlier old new it.begins begins;
              stood = it.stood;
              late = λ other did.
                  let fewer = more-length (more_is_known it.earlier old it.begins) in
                  subst (λ (d : Committed). length (commits_of it.earlier.events) < d.number) (same_Some done other did) (omega (arith, fewer, late));
            })
            book.held h.held;
        commit = λ present here other did.
            subst (IsPlaced opening new present.sid) (same_Some done other did)
            (record {
              own = own;
              place = length log;
              at = subst (λ l. slice_get l (length log) ≡ Some own) (sym events) (stands_last log own);
              its_own = sym (eqb-true present.sid.number who.number (sym (ap (λ o. is_of o who) here) ∙ is));
              txn_is = refl;
              number_is = shows.number_is;
              applied = λ telling.
                  let many : length (commits_of new.events) ≡ number = ap (λ (l : List Commit). length l) events ∙ one_more log own ∙ sym shows.number_is in
                  subst (IsTrueLog opening) (sym (ap (λ n. take n (commits_of new.events)) (sym many) ∙ take-whole (commits_of new.events))) (true_so_far telling);
            });
      }

  -- a grant that the last step gave stood alone in a mode in which it does
  stood_granted : (key : QKey) (who : Sid) (quarantine : Mode) (shift : ℤ) (token : ℕ) (has : Bool) (number : ℕ) (seen : Seen) (old : Option (List ℕ × ℕ))
      → IsLastStep (shard_of key shards) (granted_short key who quarantine shift token has) seen
      → IsOldHeld opening (before (shard_of key shards)) (shard_of key shards) seen key old → is_alone quarantine ≡ true
      → StoodAlone opening before shards seen (record { permit = record { shard = number; key = key; sid = who; mode = quarantine; token = token }; old = old; by = shift })
  stood_granted key who quarantine shift token has number seen old last held alone = record {
    step = granted_short key who quarantine shift token has;
    last = last;
    alone = record { alone = alone; on = refl; mine = refl; under = refl };
    shifts = λ _. (refl, refl);
    old = held;
  }

  -- so does what a quarantine brings, by its step
  pub quarantine_stood : (terms : Terms) (past : List Step) (key : QKey) (who : Sid) (quarantine : Mode) (shift : ℤ) (now : ℕ) (seen : Seen) (answer : QAnswer) (has : Bool)
      → ShowsQuarantine terms past (quarantine_step terms past key who quarantine shift now) answer
      → IsLastStep (shard_of key shards) (quarantine_short key who quarantine shift answer has) seen
      → IsGrantHeld opening (before (shard_of key shards)) (shard_of key shards) seen key answer
      → IsGrantAlone opening before shards shift seen answer
  quarantine_stood terms past key who quarantine shift now seen answer has =
      let F : QAnswer → Type 0 = λ a. IsLastStep (shard_of key shards) (quarantine_short key who quarantine shift a has) seen
      → IsGrantHeld opening (before (shard_of key shards)) (shard_of key shards) seen key a → IsGrantAlone opening before shards shift seen a in
      quarantine_cases (λ s. ShowsQuarantine terms past s answer → F answer) terms past key who quarantine shift now
      (λ none shows. subst F (sym shows) (λ last held. stood_granted key who quarantine shift _ has terms.no seen _ last held))
      (λ shows. subst F (sym shows) (λ last held. tt))
      (λ quar at shows. subst F (sym shows) (λ last held. tt))

  -- and so it is with an answer, if there is one
  pub answer_stood : {E : Type 0} (terms : Terms) (past : List Step) (key : QKey) (who : Sid) (quarantine : Mode) (shift : ℤ) (now place : ℕ) (seen : Seen) (has : Bool) (result : Result QAnswer E)
      → place ≡ shard_of key shards → IfOk result (ShowsQuarantine terms past (quarantine_step terms past key who quarantine shift now))
      → IfOk result (λ answer. IsLastStep place (quarantine_short key who quarantine shift answer has) seen)
      → IfOk result (λ answer. IsGrantHeld opening (before place) place seen key answer)
      → IfOk result (IsGrantAlone opening before shards shift seen)
  answer_stood terms past key who quarantine shift now place seen has (Ok answer) at shows last held =
      quarantine_stood terms past key who quarantine shift now seen answer has shows
      (subst (λ n. IsLastStep n (quarantine_short key who quarantine shift answer has) seen) at last)
      (subst (λ n. IsGrantHeld opening (before n) n seen key answer) at held)
  answer_stood terms past key who quarantine shift now place seen has (Err fault) at shows last held = tt

  -- a raised grant stands alone by the step that raised it
  pub stood_raised : (permit : Permit) (has : Bool) (seen : Seen) (old : Option (List ℕ × ℕ)) → permit.mode ≡ mode.Refresh
      → IsLastStep (shard_of permit.key shards) (raised_short permit.key permit.sid permit.token has) seen
      → IsOldHeld opening (before (shard_of permit.key shards)) (shard_of permit.key shards) seen permit.key old
      → StoodAlone opening before shards seen (record { permit = permit; old = old; by = pos 0 })
  stood_raised permit has seen old refreshes last held = record {
    step = raised_short permit.key permit.sid permit.token has;
    last = last;
    alone = record { alone = refl; on = refl; mine = refl; under = refl };
    shifts = λ delta. absurd (refresh_or_delta (sym refreshes ∙ delta));
    old = held;
  }

  -- a quarantine was raised before the session committed
  pub raised_is_ready : (book : Book) (seen : Seen) (permit : Permit) (old : Option (List ℕ × ℕ)) → IsSound shards seen → book.commit ≡ None
      → StoodAlone opening before shards seen (record { permit = permit; old = old; by = pos 0 })
      → IsReadyToWrite opening before shards book seen → IsReadyToWrite opening before shards (with_raised permit old book) seen
  raised_is_ready book seen permit old sound none stood h = record {
    held =
        each_raised (IsHeldSeen opening before shards book.commit seen) permit old book.held
        (λ alone. record {
          earlier = seen;
          sound = sound;
          begins = beginning_same seen;
          stood = stood;
          late = λ done did. absurd (none-some done (sym none ∙ did));
        })
        h.held;
    commit = h.commit;
  }
