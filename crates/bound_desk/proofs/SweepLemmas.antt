-- What a sweep's pass has seen of what was found.
use Rattle.std.proofs.Common.{ℕ, ◌≡◌, ◌==◌, ◌&&◌, Bool, true, false, List, [], ◌∷◌, Option, refl, sym, subst, ⊎_elim}
use Rattle.std.specs.List.{AllByRecursion, list_any}
use Rattle.std.proofs.lemmas.Bool.{false≢true, and_parts, eq-eqb, eqb-true, or_cases, or_left}
use Rattle.rows_model.specs.declared.keys.QKey.{QKey}
use Rattle.rows_model.specs.declared.keys.Sid.{Sid}
use Rattle.rows_model.specs.Key.{same_key}
use Rattle.log_word.specs.declared.events.Short.{Short}
use Rattle.log_word.specs.declared.events.StoreEvent.{StoreEvent}
use Rattle.log_word.specs.declared.seen.Seen.{Seen}
use Rattle.log_word.specs.Events.{may_write, is_over}
use Rattle.log_word.specs.Lists.{steps_of}
use Rattle.log_word.specs.Steps.{grants, is_grant, IsBeginning, IsBorneOut, IsSound}
use Rattle.bound_hub.specs.Stores.{ShowsEnd}
use Rattle.bound_hub.specs.Sweeps.{grants_as, HasSeenGrant}
use Rattle.bound_hub.proofs.QuarantineLemmas.{still_over}
use Rattle.bound_hub.proofs.SessionLemmas.{closed_is_over}
use Rattle.bound_hub.proofs.SweepTies.{grant_goes_on}
use Rattle.bound_desk.specs.declared.sweeps.Found.{Found}
use Rattle.bound_desk.specs.Swept.{AreSeen}

-- what was found is seen where more is seen
pub found_goes_on : (old new : Seen) (found : Option Found) → IsBeginning old new → AreSeen old found → AreSeen new found
found_goes_on old new found begins h = λ one is.
    let seen = h one is in
    record {
      granted = grant_goes_on one.place one.due.key one.due.sid.number one.due.token old new begins seen.granted;
      over = λ ended. still_over one.due.sid.number old.events new.events begins.events (seen.over ended);
    }

-- a session that was granted a quarantine by a seen step had begun for writing
any_begun : (events : List StoreEvent) (key : QKey) (who token : ℕ) (steps : List Short) → AllByRecursion (IsBorneOut events) steps
    → list_any (grants_as key who token) steps ≡ true → may_write who events ≡ true
any_begun events key who token [] h e = absurd (false≢true e)
any_begun events key who token (s ∷ steps) h e =
    ⊎_elim
    (λ here.
    let its = and_parts (grants key who s) (s.token == token) here in
    let mine = and_parts (is_grant s.kind && same_key key s.key) (s.sid.number == who) its.0 in
    let kind = and_parts (is_grant s.kind) (same_key key s.key) mine.0 in
    subst (λ n. may_write n events ≡ true) (eqb-true s.sid.number who mine.1) (h.0.begun kind.0))
    (λ there. any_begun events key who token steps h.1 there)
    (or_cases (grants_as key who token s) (list_any (grants_as key who token) steps) e)

-- so it is over once its end was answered
pub ended_is_over : (shards : ℕ) (seen : Seen) (who : Sid) (was : Bool) (number : ℕ) (key : QKey) (token : ℕ) → IsSound shards seen → ShowsEnd who seen was
    → HasSeenGrant number key who.number token seen → is_over who.number seen.events ≡ true
ended_is_over shards seen who true number key token sound shows granted =
    subst (λ l. is_over who.number l ≡ true) (sym shows.1) (or_left (who.number == who.number) (is_over who.number shows.0) (eq-eqb who.number who.number refl))
ended_is_over shards seen who false number key token sound shows granted =
    closed_is_over who.number seen.events sound.in_order (any_begun seen.events key who.number token (steps_of number seen.steps) (sound.borne_out number) granted) shows
