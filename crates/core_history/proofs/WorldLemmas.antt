-- Each move keeps the facts, and so they hold of every world.
use Rattle.std.proofs.Common.{append-nil, ℕ, zero, suc, ◌≡◌, ◌-◌, Bool, false, List, [], ◌∷◌, ◌++◌, length, count_by, Option, Some, None}
use Rattle.std.proofs.Common.{slice_get, refl, sym, ap, subst, ◌∙◌, inl, inr, ◌⊎◌, arith}
use Rattle.std.specs.List.{AllByRecursion}
use Rattle.rows_model.specs.Placement.{shard_of}
use Rattle.rows_model.specs.declared.keys.QKey.{QKey}
use Rattle.rows_model.specs.declared.keys.Sid.{Sid}
use Rattle.key_shard.specs.Past.{next_token}
use Rattle.session_client.specs.declared.plans.Plan.{Plan}
use Rattle.session_client.specs.declared.plans.Plan.TheVariants.{Read, Write, Look, Quit, Skip, Raise, Renew}
use Rattle.session_client.specs.declared.plans.Shape.{Shape}
use Rattle.session_client.specs.declared.plans.Turn.{Turn}
use Rattle.session_client.specs.declared.plans.Turn.TheVariants as turn
use Rattle.session_client.specs.declared.replies.Reply.{Reply}
use Rattle.session_client.specs.declared.replies.Reply.TheVariants as Reply
use Rattle.session_client.specs.declared.replies.Wanted.TheVariants as wanted
use Rattle.session_client.specs.Wants.{given, granted, is_had, is_release, was_committed, number_of, writing_of}
use Rattle.session_client.proofs.WantCases.{plan-once, is_ending}
use Rattle.core_history.specs.Events.{Event, Called, steps_of, heard_by, log_of, sweeps_of}
use Rattle.core_history.specs.Machine.{World, Move, Begin, Take, Said, start, world_of, with_plan, taken, later, turn_event, terms_of, plan_at, wanted_by}
use Rattle.core_history.proofs.GrantFacts.{IsDrawnBelow}
use Rattle.core_history.proofs.ListLemmas.{zero_if, count-cons, not_both, every-weaker}
use Rattle.core_history.proofs.SessionLemmas.{Writer, raises_last}
use Rattle.core_history.proofs.EventLemmas.{ever}
use Rattle.sql_keeper.specs.Commits.{is_covered}
use Rattle.std.proofs.lemmas.Bool.{false≢true}
use Rattle.core_history.proofs.PlannedLemmas.{GrantsPlanned, planned-begun, logged-begun}
use Rattle.core_history.proofs.SweepingLemmas.{sweeping-begun}
use Rattle.core_history.proofs.InnerLemmas.{Inner, IsIdle, IsSession, IsHolding, IsCovered, ticked-inner}
use Rattle.core_history.proofs.GoodEvents.{IsGoodEvent}
use Rattle.core_history.proofs.ReadTurnLemmas.{After, idle-turn, read-turn}
use Rattle.core_history.proofs.WriteTurnLemmas.{write-turn}
use Rattle.core_history.proofs.SweepTurnLemmas.{sweep-turn}

-- a session's turn keeps the facts, and its event is good
session-turn : (shape : Shape) (world : World) (who : Sid) (said : Said) → Inner shape world
    → Inner shape (taken shape world (turn.Session who) said) × IsGoodEvent shape world.past (turn_event shape world (turn.Session who) said)
session-turn shape world who said inner = by (plan_at who.number world.plans) refl
  where
    heard : List Reply
    heard = heard_by who.number world.past

    S : Option Plan → Type 0
    S plan = IsSession shape world.past who.number heard plan

    T : Event → Reply → Option Plan → Type 0
    T event reply plan = IsSession shape (event ∷ world.past) who.number (reply ∷ heard) plan

    by : (plan : Option Plan) → plan_at who.number world.plans ≡ plan → After shape world who said (wanted_by plan heard)
    by None is =
        idle-turn shape world who said inner
        (subst (T (Called who wanted.Nothing Reply.Nothing) Reply.Nothing) (sym is) (tt, subst S is (inner.sessions who.number)))
    by (Some (Read key floor)) is = read-turn shape world who said key floor inner is
    by (Some (Write mode txn)) is =
        write-turn shape world who said (Write mode txn) inner
        (record { at = is; may = refl; writer = subst S is (inner.sessions who.number); stays = λ event reply w. subst (T event reply) (sym is) w })
    by (Some (Look mode key txn)) is =
        write-turn shape world who said (Look mode key txn) inner
        (record { at = is; may = refl; writer = subst S is (inner.sessions who.number); stays = λ event reply w. subst (T event reply) (sym is) w })
    by (Some (Quit mode txn)) is =
        write-turn shape world who said (Quit mode txn) inner
        (record { at = is; may = refl; writer = subst S is (inner.sessions who.number); stays = λ event reply w. subst (T event reply) (sym is) w })
    by (Some (Skip key txn)) is =
        write-turn shape world who said (Skip key txn) inner
        (record { at = is; may = refl; writer = subst S is (inner.sessions who.number); stays = λ event reply w. subst (T event reply) (sym is) w })
    by (Some (Raise txn)) is =
        write-turn shape world who said (Raise txn) inner
        (record { at = is; may = refl; writer = subst S is (inner.sessions who.number); stays = λ event reply w. subst (T event reply) (sym is) w })
    by (Some (Renew mode txn)) is =
        write-turn shape world who said (Renew mode txn) inner
        (record { at = is; may = refl; writer = subst S is (inner.sessions who.number); stays = λ event reply w. subst (T event reply) (sym is) w })

-- so does every turn
pub taken-inner : (shape : Shape) (world : World) (turn : Turn) (said : Said) → Inner shape world
    → Inner shape (taken shape world turn said) × IsGoodEvent shape world.past (turn_event shape world turn said)
taken-inner shape world (turn.Session who) said inner = session-turn shape world who said inner
taken-inner shape world (turn.Tick by) said inner = (ticked-inner shape world (later by world.past) inner, tt)
taken-inner shape world turn.Sweep said inner = sweep-turn shape world inner

-- a session that was told nothing is as one of any plan
idle-reply : (P : Reply → Type 0) → P Reply.Nothing → (reply : Reply) → IsIdle reply → P reply
idle-reply P p Reply.Nothing h = p
idle-reply P p (Reply.Got answer) h = absurd h
idle-reply P p (Reply.Answer answer) h = absurd h
idle-reply P p (Reply.Set answer) h = absurd h
idle-reply P p (Reply.Quar answer) h = absurd h
idle-reply P p (Reply.Staged value txn) h = absurd h
idle-reply P p (Reply.NotStaged fault txn) h = absurd h
idle-reply P p (Reply.Committed number txn grants) h = absurd h
idle-reply P p (Reply.NotCommitted fault txn grants) h = absurd h
idle-reply P p (Reply.End was) h = absurd h
idle-reply P p (Reply.Rel answer) h = absurd h
idle-reply P p (Reply.SarBack grant) h = absurd h
idle-reply P p (Reply.Fault fault) h = absurd h
idle-reply P p (Reply.Raise answer) h = absurd h
idle-reply P p (Reply.RaiseBack grant) h = absurd h
idle-reply P p (Reply.Renew grant answer) h = absurd h

-- what a reply of Nothing leaves as it was is as at first
idle-same : {X : Type 0} (f : List Reply → X) (heard : List Reply)
    → ((rest : List Reply) → f (Reply.Nothing ∷ rest) ≡ f rest) → AllByRecursion IsIdle heard → f heard ≡ f []
idle-same f [] same h = refl
idle-same f (reply ∷ heard) same h =
    idle-reply (λ r. f (r ∷ heard) ≡ f heard) (same heard) reply h.0 ∙ idle-same f heard same h.1

idle-given : (heard : List Reply) → AllByRecursion IsIdle heard → given heard ≡ []
idle-given heard h = idle-same given heard (λ rest. append-nil (given rest)) h

pub idle-grants : (heard : List Reply) → AllByRecursion IsIdle heard → granted heard ≡ []
idle-grants heard h = idle-same granted heard (λ rest. append-nil (granted rest)) h

pub idle-ever : (heard : List Reply) → AllByRecursion IsIdle heard → ever heard ≡ []
idle-ever heard h = idle-same ever heard (λ rest. append-nil (ever rest)) h

idle-count : (p : Reply → Bool) (heard : List Reply) → p Reply.Nothing ≡ false → AllByRecursion IsIdle heard → count_by p heard ≡ 0
idle-count p heard e h =
    idle-same (count_by p) heard (λ rest. let a = count-cons p Reply.Nothing rest in let b = zero_if (p Reply.Nothing) e in omega (arith, a, b)) h

idle-ending : (heard : List Reply) → AllByRecursion IsIdle heard → is_ending heard ≡ false
idle-ending [] h = refl
idle-ending (reply ∷ heard) h = idle-reply (λ r. is_ending (r ∷ heard) ≡ false) refl reply h.0

idle-raises : (heard : List Reply) → AllByRecursion IsIdle heard → raises_last heard ≡ false
idle-raises [] h = refl
idle-raises (reply ∷ heard) h = idle-reply (λ r. raises_last (r ∷ heard) ≡ false) refl reply h.0

not_there : {X : Type 0} (i : ℕ) (x : X) → slice_get [] i ≡ Some x → ⊥
not_there i x e = cc

no_place : {X : Type 0} (xs : List X) (i : ℕ) (x : X) → xs ≡ [] → slice_get xs i ≡ Some x → ⊥
no_place xs i x none e = not_there i x (sym (ap (λ l. slice_get l i) none) ∙ e)

idle-writer : (shape : Shape) (past : List Event) (n : ℕ) (heard : List Reply) (plan : Plan)
    → AllByRecursion IsIdle heard → Writer shape past n heard (writing_of plan)
idle-writer shape past n heard plan h =
    let none = idle-grants heard h in
    let nothing = idle-ever heard h in
    record {
      once = plan-once plan;
      placed = λ i grant e. absurd (no_place (ever heard) i grant nothing e);
      had = idle-count is_had heard refl h ∙ sym (ap length nothing);
      asked = λ _. none ∙ sym nothing;
      fits = λ i grant e. absurd (no_place (granted heard) i grant none e);
      apart = λ i j one two at_one at_two same. absurd (no_place (granted heard) i one none at_one);
      unspent = λ still key who own covered. absurd (false≢true (sym (ap (λ l. is_covered who l key) nothing) ∙ covered));
      was = λ i grant e. absurd (no_place (granted heard) i grant none e);
      suits = λ i grant e. absurd (no_place (granted heard) i grant none e);
      drawn = λ i grant e. absurd (no_place (granted heard) i grant none e);
      stood = λ i grant e late. absurd (no_place (granted heard) i grant none e);
      shut = inl (idle-count is_release heard refl h);
      ending = λ e. absurd (not_both e (idle-ending heard h));
      going = λ e. (idle-same was_committed heard (λ rest. refl) h, idle-count is_release heard refl h);
      unraised = λ i grant e late. absurd (no_place (granted heard) i grant none e);
      raising = λ on. absurd (not_both on (idle-raises heard h));
      numbered = λ number e. let none : number_of heard ≡ None = idle-same number_of heard (λ rest. refl) h in
          let clash : None ≡ Some number = sym none ∙ e in cc;
      olds = λ i one e. absurd (no_place (given heard) i one (idle-given heard h) e);
    }

idle-holding : (key : QKey) (n : ℕ) (past : List Event) (heard : List Reply) → AllByRecursion IsIdle heard → IsHolding key n past heard
idle-holding key n past [] h = tt
idle-holding key n past (reply ∷ heard) h = idle-reply (λ r. IsHolding key n past (r ∷ heard)) tt reply h.0

idle-session : (shape : Shape) (past : List Event) (n : ℕ) (heard : List Reply) (plan : Option Plan)
    → AllByRecursion IsIdle heard → IsSession shape past n heard plan
idle-session shape past n heard None h = h
idle-session shape past n heard (Some (Read key floor)) h =
    let next = next_token (terms_of shape (shard_of key shape.shards)) (steps_of (shard_of key shape.shards) past) in (
      every-weaker IsIdle (IsDrawnBelow next) heard (idle-reply (IsDrawnBelow next) tt) h,
      idle-grants heard h,
      idle-ever heard h,
      idle-holding key n past
          heard h,
    )
idle-session shape past n heard (Some (Write mode txn)) h = idle-writer shape past n heard (Write mode txn) h
idle-session shape past n heard (Some (Look mode key txn)) h = idle-writer shape past n heard (Look mode key txn) h
idle-session shape past n heard (Some (Quit mode txn)) h = idle-writer shape past n heard (Quit mode txn) h
idle-session shape past n heard (Some (Skip key txn)) h = idle-writer shape past n heard (Skip key txn) h
idle-session shape past n heard (Some (Raise txn)) h = idle-writer shape past n heard (Raise txn) h
idle-session shape past n heard (Some (Renew mode txn)) h = idle-writer shape past n heard (Renew mode txn) h

-- a session that begins keeps the facts
plan_stays : (plans : List Plan) (plan : Plan) (i : ℕ) → (slice_get (plans ++ plan ∷ []) i ≡ slice_get plans i) ⊎ (slice_get plans i ≡ None)
plan_stays [] plan i = inr refl
plan_stays (first ∷ plans) plan zero = inl refl
plan_stays (first ∷ plans) plan (suc i) = plan_stays plans plan i

begun-inner : (shape : Shape) (world : World) (plan : Plan) → Inner shape world → Inner shape (with_plan world plan)
begun-inner shape world plan inner = record {
  legal = inner.legal;
  known = inner.known;
  planned = λ place. every-weaker (GrantsPlanned world.plans) (GrantsPlanned (world.plans ++ plan ∷ []))
      (steps_of place world.past) (planned-begun world.plans plan) (inner.planned place);
  counts = inner.counts;
  covered = inner.covered;
  logged = logged-begun world.plans plan (log_of world.past) inner.logged;
  quarantined = inner.quarantined;
  sweeping = sweeping-begun shape world.plans plan world.past (sweeps_of world.past) inner.sweeping;
  sessions = λ n.
      let heard = heard_by n world.past in
      let S : Option Plan → Type 0 = λ p. IsSession shape world.past n heard p in
      elim (plan_stays world.plans plan (n - 1)) [
        | inl same ↦ subst S (sym same) (inner.sessions n)
        | inr none ↦ idle-session shape world.past n heard (plan_at n (world.plans ++ plan ∷ [])) (subst S none (inner.sessions n))
      ];
}

start-covered : (shape : Shape) → IsCovered shape []
start-covered shape place commit key at touched = cc

start-inner : (shape : Shape) → Inner shape start
start-inner shape = record {
  legal = λ place. tt;
  known = λ place. tt;
  planned = λ place. tt;
  counts = λ key who. refl;
  covered = start-covered shape;
  logged = λ place commit at. cc;
  quarantined = tt;
  sweeping = tt;
  sessions = λ n. tt;
}

pub inner_of : (shape : Shape) (moves : List Move) → Inner shape (world_of shape moves)
inner_of shape [] = start-inner shape
inner_of shape (Begin plan ∷ moves) = begun-inner shape (world_of shape moves) plan (inner_of shape moves)
inner_of shape (Take turn said ∷ moves) = (taken-inner shape (world_of shape moves) turn said (inner_of shape moves)).0
