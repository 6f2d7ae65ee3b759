-- How a core follows a session that begins.
use Rattle.std.proofs.Common.{ℕ, zero, suc, ◌+◌, ◌-◌, ◌≡◌, ◌<◌, ◌≤◌, ◌==◌, ◌&&◌, ◌||◌, Bool, true, false, not, cond, List, [], ◌∷◌, ◌++◌}
use Rattle.std.proofs.Common.{length, map, count_by, Option, Some, None, IsSome, slice_get, refl, sym, ap, subst, ◌∙◌, ⊎_elim}
use Rattle.std.proofs.Common.{length-append, arith}
use Rattle.std.specs.List.{list_any}
use Rattle.std.proofs.lemmas.Bool.{cases_lt, eqb-true, false_from_ne_true}
use Rattle.std.proofs.lemmas.List.Folds.{list_any-append}
use Rattle.std.proofs.lemmas.List.{length-map}
use Rattle.rows_model.specs.declared.keys.Sid.{Sid}
use Rattle.rows_model.specs.Rows.{Tables}
use Rattle.sql_keeper.specs.declared.stores.Phase.{Phase}
use Rattle.sql_keeper.specs.Sessions.{may_commit as may, is_open as may_commit, first_phase, with_begun as begun_phases}
use Rattle.sql_keeper.specs.Stores.{Ledger, StoreView, with_session}
use Rattle.session_client.specs.Follows.{plan_of, sid_of, IsReady, Follows}
use Rattle.session_client.specs.Plans.{IsPlan, writes}
use Rattle.session_client.specs.declared.replies.Reply.{Reply}
use Rattle.session_client.specs.declared.replies.Reply.TheVariants as Reply
use Rattle.session_client.specs.Wants.{was_committed}
use Rattle.session_client.specs.declared.plans.Plan.{Plan}
use Rattle.session_client.specs.declared.plans.Shape.{Shape}
use Rattle.session_client.specs.declared.plans.Turn.{Turn}
use Rattle.session_client.specs.declared.plans.Turn.TheVariants as turn
use Rattle.expiry_sweeper.specs.declared.replies.SweepWanted.{SweepWanted}
use Rattle.expiry_sweeper.specs.declared.replies.SweepWanted.TheVariants as sweep
use Rattle.session_client.specs.declared.sessions.Session.{Session}
use Rattle.core_history.specs.Cores.{Origin, CoreView, HasPhases, RoseBy, IsAt, AreFollowing}
use Rattle.core_history.specs.Events.{Event, Stepped, Called, Ticked, Swept, heard_from, heard_in, heard_by, swept_in, ends_of_reply, ends_swept}
use Rattle.core_history.specs.Events.{ends_in, ended_of, was_ended, has_committed}
use Rattle.core_history.specs.Lines.{is_fault}
use Rattle.core_history.specs.Machine.{World, Move, Begin, Take, Said, is_writer, is_open, with_plan, event_of, wanted_of, sweep_of, swept_next, ended_as}
use Rattle.core_history.specs.Machine.{turn_event, world_of}
use Rattle.core_history.proofs.CoresLemmas.{NoneUnbegun, follow_begun, none_begun, plans_begun}
use Rattle.core_history.proofs.EventLemmas.{committed-heard}
use Rattle.core_history.proofs.FoundLemmas.{EndsHeard, ends_heard, none-behind}
use Rattle.core_history.proofs.OpenLemmas.{phase_there}
use Rattle.core_history.proofs.ShardsLemmas.{slice_get_push, slice_get_pushed}
use Rattle.core_history.proofs.TellLemmas.{event_turn}

-- a session that was told nothing has not committed
never_committed : (n : ℕ) (past : List Event) → heard_by n past ≡ [] → has_committed n past ≡ false
never_committed n past none = committed-heard n past ∙ ap was_committed none

-- what another session was told is no end of this one
not_ended : (n : ℕ) (who : Sid) (reply : Reply) → (who.number == n) ≡ false → list_any (λ other. other == n) (ends_of_reply who reply) ≡ false
not_ended n who (Reply.End true) apart = ap (λ (b : Bool). b || false) apart
not_ended n who other apart = refl

not_ended_by : (n : ℕ) (who : Sid) (reply : Reply) → heard_from n who reply ≡ [] → list_any (λ other. other == n) (ends_of_reply who reply) ≡ false
not_ended_by n who reply none = by (who.number == n) refl none
  where
    by : (b : Bool) → (who.number == n) ≡ b → cond b (reply ∷ []) [] ≡ [] → list_any (λ other. other == n) (ends_of_reply who reply) ≡ false
    by true same none = absurd cc
    by false apart none = not_ended n who reply apart

-- where an event is a step of the sweeper's it doesn't end this session
abbrev SparesOne : ℕ → Event → Type 0
SparesOne n (Swept shard request made reply) = list_any (λ other. other == n) (ends_swept request reply) ≡ false
SparesOne n other = Unit {0}

-- an event that tells a session nothing, and in which the sweeper spares it, doesn't end it
not_ended_in : (n : ℕ) (event : Event) → heard_in n event ≡ [] → SparesOne n event → list_any (λ other. other == n) (ends_in event) ≡ false
not_ended_in n (Stepped shard who request step reply) none spares = not_ended_by n who reply none
not_ended_in n (Called who request reply) none spares = not_ended_by n who reply none
not_ended_in n (Ticked now) none spares = refl
not_ended_in n (Swept shard request made reply) none spares = spares

spares_turn : (n : ℕ) (event : Event) → swept_in event ≡ [] → SparesOne n event
spares_turn n (Stepped shard who request step reply) none = tt
spares_turn n (Called who request reply) none = tt
spares_turn n (Ticked now) none = tt
spares_turn n (Swept shard request made reply) none = absurd cc

-- the sweeper ends none that was told nothing
spares_sweep : (shape : Shape) (world : World) (n : ℕ) (request : SweepWanted) → heard_by n world.past ≡ [] → EndsHeard world.past request
    → SparesOne n (sweep_of shape world request)
spares_sweep shape world n (sweep.Scan place) none heard = refl
spares_sweep shape world n (sweep.Drop key token) none heard = refl
spares_sweep shape world n (sweep.End who) none heard = by (is_open world who)
  where
    apart : (who.number == n) ≡ false
    apart = false_from_ne_true (who.number == n) (λ same. heard (ap (λ m. heard_by m world.past) (eqb-true who.number n same) ∙ none))

    by : (was : Bool) → list_any (λ other. other == n) (ends_swept (sweep.End who) (ended_as who was)) ≡ false
    by true = ap (λ (b : Bool). b || false) apart
    by false = refl

spares : (shape : Shape) (moves : List Move) (n : ℕ) (turn : Turn) (said : Said) → heard_by n (world_of shape moves).past ≡ []
    → SparesOne n (turn_event shape (world_of shape moves) turn said)
spares shape moves n (turn.Session who) said none =
    let world = world_of shape moves in
    spares_turn n (event_of shape world who (wanted_of world who) said) (event_turn shape world who (wanted_of world who) said).swept
spares shape moves n (turn.Tick by) said none = tt
spares shape moves n turn.Sweep said none = spares_sweep shape (world_of shape moves) n (swept_next shape (world_of shape moves)) none (ends_heard shape moves)

none-front : {X : Type 0} (xs ys : List X) → xs ++ ys ≡ [] → xs ≡ []
none-front [] ys e = refl
none-front (x ∷ xs) ys e = absurd cc

-- a session that was told nothing was not ended
never_ended : (shape : Shape) (moves : List Move) (n : ℕ) → heard_by n (world_of shape moves).past ≡ [] → was_ended n (world_of shape moves).past ≡ false
never_ended shape [] n none = refl
never_ended shape (Begin plan ∷ moves) n none = never_ended shape moves n none
never_ended shape (Take turn said ∷ moves) n none =
    let past = (world_of shape moves).past in
    let event = turn_event shape (world_of shape moves) turn said in
    let before : heard_by n past ≡ [] = none-behind (heard_in n event) (heard_by n past) none in
    list_any-append (λ other. other == n) (ends_in event) (ended_of past)
    ∙ ap (λ (b : Bool). b || was_ended n past)
    (not_ended_in n event (none-front (heard_in n event) (heard_by n past) none) (spares shape moves n turn said before))
    ∙ never_ended shape moves n before

beyond : {X : Type 0} (xs : List X) (place : ℕ) → length xs ≤ place → slice_get xs place ≡ None
beyond [] place h = refl
beyond (x ∷ xs) zero h = absurd (omega arith)
beyond (x ∷ xs) (suc place) h = beyond xs place (omega arith)

may_first : (b : Bool) → may (Some (first_phase b)) ≡ b
may_first true = refl
may_first false = refl

alone : (b : Bool) → ((b && true) && true) ≡ b
alone true = refl
alone false = refl

-- the sessions at the store with one more
pub phases_begun : (phases : List Phase) (world : World) (plan : Plan) → HasPhases phases world → heard_by (length world.plans + 1) world.past ≡ []
    → was_ended (length world.plans + 1) world.past ≡ false → HasPhases (begun_phases (writes plan) phases) (with_plan world plan)
phases_begun phases world plan has none unended =
    record {
      count = omega (arith, length-append phases (first_phase (writes plan) ∷ []), length-append world.plans (plan ∷ []), has.count);
      opens = λ who some. ⊎_elim (before who some) (from who some) (cases_lt (who.number - 1) (length phases));
    }
  where
    first : Phase
    first = first_phase (writes plan)

    state : (who : Sid) → Option Plan → Bool
    state who found = is_writer found && not (has_committed who.number world.past) && not (was_ended who.number world.past)

    before : (who : Sid) → 1 ≤ who.number → who.number - 1 < length phases → may_commit who (phases ++ first ∷ []) ≡ is_open (with_plan world plan) who
    before who some within =
        ap may (phase_there who.number (phases ++ first ∷ []) some ∙ slice_get_push phases first (who.number - 1) within
        ∙ sym (phase_there who.number phases some))
        ∙ has.opens who some
        ∙ ap (state who) (sym (slice_get_push world.plans plan (who.number - 1) (omega (arith, has.count, within))))

    new : (who : Sid) → 1 ≤ who.number → who.number - 1 ≡ length phases → may_commit who (phases ++ first ∷ []) ≡ is_open (with_plan world plan) who
    new who some last =
        let here : slice_get (phases ++ first ∷ []) (who.number - 1) ≡ Some first =
        ap (slice_get (phases ++ first ∷ [])) last ∙ slice_get_pushed phases first in
        let there : slice_get (world.plans ++ plan ∷ []) (who.number - 1) ≡ Some plan =
        ap (slice_get (world.plans ++ plan ∷ [])) (last ∙ has.count) ∙ slice_get_pushed world.plans plan in
        let number : length world.plans + 1 ≡ who.number = omega (arith, last, has.count, some) in
        let unheard : heard_by who.number world.past ≡ [] = subst (λ (n : ℕ). heard_by n world.past ≡ []) number none in
        let still : was_ended who.number world.past ≡ false = subst (λ (n : ℕ). was_ended n world.past ≡ false) number unended in
        ap may (phase_there who.number (phases ++ first ∷ []) some ∙ here) ∙ may_first (writes plan)
        ∙ sym (ap (state who) there
        ∙ ap (λ (b : Bool). writes plan && not b && not (was_ended who.number world.past)) (never_committed who.number world.past unheard)
        ∙ ap (λ (b : Bool). writes plan && true && not b) still ∙ alone (writes plan))

    later : (who : Sid) → 1 ≤ who.number → length phases + 1 ≤ who.number - 1 → may_commit who (phases ++ first ∷ []) ≡ is_open (with_plan world plan) who
    later who some far =
        ap may (phase_there who.number (phases ++ first ∷ []) some
        ∙ beyond (phases ++ first ∷ []) (who.number - 1) (omega (arith, length-append phases (first ∷ []), far)))
        ∙ sym (ap (state who) (beyond (world.plans ++ plan ∷ []) (who.number - 1) (omega (arith, length-append world.plans (plan ∷ []), has.count, far))))

    from : (who : Sid) → 1 ≤ who.number → length phases ≤ who.number - 1 → may_commit who (phases ++ first ∷ []) ≡ is_open (with_plan world plan) who
    from who some far = ⊎_elim (λ h. new who some (omega (arith, h, far))) (λ h. later who some h) (cases_lt (who.number - 1) (length phases + 1))

-- a session began, which leaves the shards, the sweeper and the clock
pub core_begun : (old : CoreView) (new : StoreView) (sessions : List Session) (origin : Origin) (moves : List Move) (plan : Plan) (session : Session)
    → IsAt old origin moves → IsPlan plan
    → plan_of session ≡ plan → (sid_of session).number ≡ length old.sessions + 1 → IsReady session → Follows session false [] →
    sessions ≡ old.sessions ++ session ∷ [] → new.ledger ≡ with_session (writes plan) old.store.ledger → new.known_rows ≡ old.store.known_rows → new.faults ≡ old.store.faults
    → IsAt (record { store = new; shards = old.shards; sessions = sessions; sweeper = old.sweeper; clock = old.clock }) origin (Begin plan ∷ moves)
core_begun old new sessions origin moves plan session at is_plan plan_is number ready follows added ledger same faults =
    let world = world_of origin.shape moves in
    let count : length old.sessions ≡ length world.plans = sym (length-map old.sessions plan_of) ∙ ap (λ (l : List Plan). length l) at.sessions.plans in
    let none : heard_by (length world.plans + 1) world.past ≡ [] = at.sessions.unbegun (length world.plans + 1) (omega (arith, count)) in
    let S : List Session → Type 0 = λ xs. AreFollowing xs world.past in
    let N : List Session → Type 0 = λ xs. NoneUnbegun xs world.past in
    let P : List Phase → Type 0 = λ xs. HasPhases xs (with_plan world plan) in
    let store = at.kept.store in
    record {
      kept = record {
        plans = (is_plan, at.kept.plans);
        fit = at.kept.fit;
        shards = at.kept.shards;
        store = record {
          opening = ap (λ (l : Ledger). l.opening) ledger ∙ store.opening;
          log = ap (λ (l : Ledger). l.log) ledger ∙ store.log;
          cap = ap (λ (l : Ledger). l.cap) ledger ∙ store.cap;
          failed = ap (λ (l : Ledger). l.failed) ledger ∙ store.failed;
          faults = subst (λ (n : ℕ). RoseBy (count_by is_fault world.past) origin.faults n) (sym faults) store.faults;
          quiet = λ none. faults ∙ store.quiet none;
          telling = λ is_told. store.telling (subst (λ (o : Option Tables). IsSome o) same is_told);
          truth = λ is_told. store.truth (subst (λ (o : Option Tables). IsSome o) same is_told);
        };
      };
      clock = at.clock;
      sweeper = at.sweeper;
      phases = subst P (sym (ap (λ (l : Ledger). l.sessions) ledger))
          (phases_begun old.store.ledger.sessions world plan at.phases none (never_ended origin.shape moves (length world.plans + 1) none));
      sessions = record {
        plans = ap (map plan_of) added ∙ plans_begun old.sessions session world.plans plan at.sessions.plans plan_is;
        following = subst S (sym added) (follow_begun old.sessions session world.past at.sessions.following at.sessions.unbegun ready number follows);
        unbegun = subst N (sym added) (none_begun old.sessions session world.past at.sessions.unbegun);
        nobody = at.sessions.nobody;
      };
    }
