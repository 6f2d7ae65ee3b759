-- The commits and ended sessions among the store's events.
use Rattle.std.proofs.Common.{ℕ, ◌+◌, ◌≡◌, ◌==◌, ◌||◌, Bool, true, false, List, [], ◌∷◌, ◌++◌, length, Some}
use Rattle.std.proofs.Common.{slice_get, refl, sym, ap, subst, ◌∙◌, inl, inr, ⊎_elim, append-nil, append_assoc, length-append, eqb-true, eq-eqb, arith}
use Rattle.std.specs.List.{AllByRecursion}
use Rattle.std.proofs.lemmas.Bool.{false≢true, or_cases}
use Rattle.sql_keeper.specs.declared.stores.Commit.{Commit}
use Rattle.log_word.specs.declared.events.StoreEvent.{StoreEvent}
use Rattle.log_word.specs.declared.events.StoreEvent.TheVariants as event
use Rattle.log_word.specs.declared.events.Short.{Short}
use Rattle.log_word.specs.Events.{is_over, commit_count, AreInOrder}
use Rattle.log_word.specs.Lists.{IsStart}
use Rattle.log_word.specs.Steps.{IsGranted}
use Rattle.key_freshness.specs.Known.{IsAmong, StandsAt, IsLogged, IsOver, IsMore}
use Rattle.key_freshness.proofs.KnownLemmas.{stands-front, stands-pushed}
use Rattle.bound_hub.specs.Knowns.{commits_of, ended_of, known_of}

either_true : (a b : Bool) → b ≡ true → (a || b) ≡ true
either_true true b e = refl
either_true false b e = e

first_true : (a b : Bool) → a ≡ true → (a || b) ≡ true
first_true true b e = refl
first_true false b e = absurd (false≢true e)

-- as many commits are known as there are among the events
pub commits_counted : (events : List StoreEvent) → length (commits_of events) ≡ commit_count events
commits_counted [] = refl
commits_counted (event.Begin sid worker writes ∷ events) = commits_counted events
commits_counted (event.Commit sid txn ∷ events) =
    let h : length (commits_of events) ≡ commit_count events = commits_counted events in
    let e : length (commits_of events ++ record { sid = sid; txn = txn } ∷ []) ≡ length (commits_of events) + 1 = length-append (commits_of events) (record { sid = sid; txn = txn } ∷ []) in
    omega (arith, h, e)
commits_counted (event.End sid ∷ events) = commits_counted events

-- who is in the log is over, and so is who was ended
logged_is_over : (events : List StoreEvent) (place : ℕ) (commit : Commit) → StandsAt (commits_of events) place commit → is_over commit.sid.number events ≡ true
logged_is_over [] place commit at = absurd cc
logged_is_over (event.Begin sid worker writes ∷ events) place commit at = logged_is_over events place commit at
logged_is_over (event.Commit sid txn ∷ events) place commit at =
    ⊎_elim
    (λ old. either_true (sid.number == commit.sid.number) (is_over commit.sid.number events) (logged_is_over events place commit old))
    (λ last. first_true (sid.number == commit.sid.number) (is_over commit.sid.number events) (eq-eqb sid.number commit.sid.number (ap (λ (c : Commit). c.sid.number) last.1)))
    (stands-pushed (commits_of events) (record { sid = sid; txn = txn }) commit place at)
logged_is_over (event.End sid ∷ events) place commit at =
    either_true (sid.number == commit.sid.number) (is_over commit.sid.number events) (logged_is_over events place commit at)

ended_are_over : (events : List StoreEvent) (who : ℕ) → IsAmong who (ended_of events) → is_over who events ≡ true
ended_are_over [] who h = absurd h
ended_are_over (event.Begin sid worker writes ∷ events) who h = ended_are_over events who h
ended_are_over (event.Commit sid txn ∷ events) who h = either_true (sid.number == who) (is_over who events) (ended_are_over events who h)
ended_are_over (event.End sid ∷ events) who (inl e) = first_true (sid.number == who) (is_over who events) (eq-eqb sid.number who e)
ended_are_over (event.End sid ∷ events) who (inr h) = either_true (sid.number == who) (is_over who events) (ended_are_over events who h)

stands_last : {X : Type 0} (xs : List X) (x : X) → slice_get (xs ++ x ∷ []) (length xs) ≡ Some x
stands_last [] x = refl
stands_last (y ∷ xs) x = stands_last xs x

-- who is over is in the log, or was ended
pub over_is_known : (events : List StoreEvent) (who : ℕ) → is_over who events ≡ true → IsOver (known_of events) who
over_is_known [] who e = absurd (false≢true e)
over_is_known (event.Begin sid worker writes ∷ events) who e = over_is_known events who e
over_is_known (event.Commit sid txn ∷ events) who e =
    let it : Commit = record { sid = sid; txn = txn } in
    ⊎_elim
    (λ here. inl (record { place = length (commits_of events); commit = it; at = stands_last (commits_of events) it; own = eqb-true sid.number who here }))
    (λ there. ⊎_elim
    (λ (logged : IsLogged (commits_of events) who). inl (record {
      place = logged.place;
      commit = logged.commit;
      at = stands-front (commits_of events)
          (it ∷ []) logged.place logged.commit logged.at;
      own = logged.own;
    }))
    (λ ended. inr ended)
    (over_is_known events who there))
    (or_cases (sid.number == who) (is_over who events) e)
over_is_known (event.End sid ∷ events) who e =
    ⊎_elim
    (λ here. inr (inl (eqb-true sid.number who here)))
    (λ there. ⊎_elim (λ logged. inl logged) (λ ended. inr (inr ended)) (over_is_known events who there))
    (or_cases (sid.number == who) (is_over who events) e)

not_over : (events : List StoreEvent) (who other : ℕ) → is_over who events ≡ false → is_over other events ≡ true → who ≡ other → ⊥
not_over events who other never is same = false≢true (sym never ∙ subst (λ n. is_over n events ≡ true) (sym same) is)

-- of events in order, a session is in the log once
pub logged_once : (events : List StoreEvent) → AreInOrder events → (i j : ℕ) (a b : Commit) → StandsAt (commits_of events) i a → StandsAt (commits_of events) j b → a.sid.number ≡ b.sid.number → i ≡ j
logged_once [] h i j a b at bt same = absurd cc
logged_once (event.Begin sid worker writes ∷ events) h i j a b at bt same = logged_once events h.1 i j a b at bt same
logged_once (event.End sid ∷ events) h i j a b at bt same = logged_once events h.1 i j a b at bt same
logged_once (event.Commit sid txn ∷ events) h i j a b at bt same =
    let it : Commit = record { sid = sid; txn = txn } in
    ⊎_elim
    (λ old. ⊎_elim
    (λ its. logged_once events h.1 i j a b old its same)
    (λ last. absurd (not_over events sid.number a.sid.number h.0.1 (logged_is_over events i a old) (ap (λ (c : Commit). c.sid.number) last.1 ∙ sym same)))
    (stands-pushed (commits_of events) it b j bt))
    (λ last. ⊎_elim
    (λ its. absurd (not_over events sid.number b.sid.number h.0.1 (logged_is_over events j b its) (ap (λ (c : Commit). c.sid.number) last.1 ∙ same)))
    (λ its. last.0 ∙ sym its.0)
    (stands-pushed (commits_of events) it b j bt))
    (stands-pushed (commits_of events) it a i at)

-- and none of the log was ended
pub logged_not_ended : (events : List StoreEvent) → AreInOrder events → (place : ℕ) (commit : Commit) → StandsAt (commits_of events) place commit → IsAmong commit.sid.number (ended_of events) → ⊥
logged_not_ended [] h place commit at among = absurd among
logged_not_ended (event.Begin sid worker writes ∷ events) h place commit at among = logged_not_ended events h.1 place commit at among
logged_not_ended (event.Commit sid txn ∷ events) h place commit at among =
    ⊎_elim
    (λ old. logged_not_ended events h.1 place commit old among)
    (λ last. not_over events sid.number commit.sid.number h.0.1 (ended_are_over events commit.sid.number among) (ap (λ (c : Commit). c.sid.number) last.1))
    (stands-pushed (commits_of events) (record { sid = sid; txn = txn }) commit place at)
logged_not_ended (event.End sid ∷ events) h place commit at (inl e) = not_over events sid.number commit.sid.number h.0.1 (logged_is_over events place commit at) e
logged_not_ended (event.End sid ∷ events) h place commit at (inr among) = logged_not_ended events h.1 place commit at among

-- each commit of the log was granted what it touches
pub logged_was_granted : (shards : ℕ) (steps : List (List Short)) (events : List StoreEvent) → AllByRecursion (IsGranted shards steps) events
    → (place : ℕ) (commit : Commit) → StandsAt (commits_of events) place commit → IsGranted shards steps (event.Commit commit.sid commit.txn)
logged_was_granted shards steps [] all place commit at = absurd cc
logged_was_granted shards steps (event.Begin sid worker writes ∷ events) all place commit at = logged_was_granted shards steps events all.1 place commit at
logged_was_granted shards steps (event.Commit sid txn ∷ events) all place commit at =
    ⊎_elim
    (λ old. logged_was_granted shards steps events all.1 place commit old)
    (λ last. subst (λ (c : Commit). IsGranted shards steps (event.Commit c.sid c.txn)) last.1 all.0)
    (stands-pushed (commits_of events) (record { sid = sid; txn = txn }) commit place at)
logged_was_granted shards steps (event.End sid ∷ events) all place commit at = logged_was_granted shards steps events all.1 place commit at

-- more events are more that is known
commits_go_on : (more old : List StoreEvent) → commits_of (more ++ old) ≡ commits_of old ++ commits_of more
commits_go_on [] old = sym (append-nil (commits_of old))
commits_go_on (event.Begin sid worker writes ∷ more) old = commits_go_on more old
commits_go_on (event.Commit sid txn ∷ more) old =
    ap (λ l. l ++ record { sid = sid; txn = txn } ∷ []) (commits_go_on more old) ∙ append_assoc (commits_of old) (commits_of more) (record { sid = sid; txn = txn } ∷ [])
commits_go_on (event.End sid ∷ more) old = commits_go_on more old

ended_go_on : (more old : List StoreEvent) (who : ℕ) → IsAmong who (ended_of old) → IsAmong who (ended_of (more ++ old))
ended_go_on [] old who h = h
ended_go_on (event.Begin sid worker writes ∷ more) old who h = ended_go_on more old who h
ended_go_on (event.Commit sid txn ∷ more) old who h = ended_go_on more old who h
ended_go_on (event.End sid ∷ more) old who h = inr (ended_go_on more old who h)

pub known_goes_on : (old new : List StoreEvent) → IsStart old new → IsMore (known_of old) (known_of new)
known_goes_on old new start = record {
  more = commits_of start.0;
  goes_on = ap commits_of start.1 ∙ commits_go_on start.0 old;
  kept = λ who h. subst (λ l. IsAmong who (ended_of l)) (sym start.1) (ended_go_on start.0 old who h);
}
