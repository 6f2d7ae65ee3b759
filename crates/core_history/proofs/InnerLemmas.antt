-- The facts that hold of every world, and what of an event keeps them.
use Rattle.std.proofs.Common.{ℕ, ◌≡◌, ◌≤◌, ◌==◌, Bool, true, false, cond, List, [], ◌∷◌, ◌++◌, count_by, Option, Some, None, slice_get}
use Rattle.std.proofs.Common.{append-nil, refl, sym, ap, subst, ◌∙◌, inl, inr, arith}
use Rattle.std.specs.List.{AllByRecursion, list_any}
use Rattle.std.proofs.lemmas.Bool.{cases_Bool, false≢true, eqb-true, eq-eqb}
use Rattle.rows_model.specs.declared.keys.QKey.{QKey}
use Rattle.rows_model.specs.declared.keys.Sid.{Sid}
use Rattle.rows_model.specs.Changes.{touches}
use Rattle.rows_model.specs.Placement.{shard_of}
use Rattle.lease_table.specs.declared.records.Due.{Due}
use Rattle.lease_table.specs.declared.records.Quar.{Quar}
use Rattle.key_shard.specs.declared.replies.Got.TheVariants as got
use Rattle.key_shard.specs.declared.replies.Rel.{Rel}
use Rattle.key_shard.specs.declared.steps.Ended.TheVariants as ended
use Rattle.key_shard.specs.declared.steps.Step.{Step}
use Rattle.key_shard.specs.declared.steps.Step.TheVariants as step
use Rattle.key_shard.specs.LegalStands.{StandsWell}
use Rattle.key_shard.proofs.LegalLemmas.{legal_stands_well, distinct}
use Rattle.key_shard.proofs.SweepLemmas.{sweep-answers}
use Rattle.key_shard.specs.Past.{quar_of, next_token}
use Rattle.key_shard.specs.Answers.{Answers, IsLegalPast}
use Rattle.expiry_sweeper.specs.declared.replies.SweepReply.{SweepReply}
use Rattle.expiry_sweeper.specs.declared.replies.SweepReply.TheVariants as sweeps
use Rattle.expiry_sweeper.specs.declared.replies.SweepWanted.{SweepWanted}
use Rattle.expiry_sweeper.specs.declared.replies.SweepWanted.TheVariants as sweep
use Rattle.sql_keeper.specs.declared.stores.Answer.{Answer}
use Rattle.sql_keeper.specs.declared.stores.Commit.{Commit}
use Rattle.sql_keeper.specs.Commits.{covers}
use Rattle.sql_keeper.specs.Fresh.{quarantines}
use Rattle.session_client.specs.declared.plans.Plan.{Plan}
use Rattle.session_client.specs.declared.plans.Plan.TheVariants.{Read, Write, Look, Quit, Skip, Raise, Renew}
use Rattle.session_client.specs.declared.plans.Shape.{Shape}
use Rattle.session_client.specs.declared.replies.Reply.{Reply}
use Rattle.session_client.specs.declared.replies.Reply.TheVariants as Reply
use Rattle.session_client.specs.declared.replies.Wanted.{Wanted}
use Rattle.session_client.specs.Wants.{granted, grants_in, is_commit, writing_of}
use Rattle.core_history.specs.Events.{Event, Stepped, Called, Ticked, Swept, steps_in, steps_of, heard_from, heard_by, commits_of_reply, log_of, sweeps_of}
use Rattle.core_history.specs.Machine.{World, terms_of, plan_at, ended_as}
use Rattle.core_history.specs.Facts.{answers_in, answers_under}
use Rattle.core_history.specs.Freshness.{IsQuarantinedReply, IsQuarantinedEvent, AreQuarantined}
use Rattle.core_history.proofs.GrantFacts.{IsDrawnBelow}
use Rattle.core_history.proofs.ListLemmas.{every-weaker, every-append, any-back, push-place}
use Rattle.core_history.proofs.GoodEvents.{IsOneOf}
use Rattle.core_history.proofs.KeyLemmas.{IsQuietStep, quiet-as, quiet-grants, granted_standing, answers-draw, next-append}
use Rattle.core_history.proofs.EventLemmas.{ever, closed, closed-more, unmade-steps, IsLate, late-stepped, late-called, late-ticked, late-swept}
use Rattle.core_history.proofs.EventLemmas.{IsKnown, known-more, IsCounted, counts-more, counted-mild, counted-called, counted-ticked}
use Rattle.core_history.proofs.EventLemmas.{counted-swept, counted-unmade, heard-mine, heard-other}
use Rattle.core_history.proofs.SessionLemmas.{Keeps, Finds, finds-none, finds-called, finds-ticked, finds-swept, finds-unmade, ReleasesNone}
use Rattle.core_history.proofs.SessionLemmas.{DrawsLate, IsLateDraw, Writer, writer-more, maybe-step, late-draw}
use Rattle.core_history.proofs.SessionLemmas.{stood-quiet, stood-called, stood-ticked, stood-unmade, stood-swept, leaves-ended}
use Rattle.core_history.proofs.PlannedLemmas.{GrantsPlanned, ArePlanned, IsPlannedReply, IsPlannedEvent, quiet-planned, mild-planned, logged-more}
use Rattle.core_history.proofs.SweepingLemmas.{IsSweeping, due-more, sweeping-more}

abbrev pub IsIdle : Reply → Type 0
IsIdle Reply.Nothing = Unit {0}
IsIdle other = ⊥

-- an answer that a reader was told after its lease was told under that lease
abbrev pub IsHolding : QKey → ℕ → List Event → List Reply → Type 0
IsHolding key n past (Reply.Answer answered ∷ Reply.Got (got.Lease token) ∷ heard) = IsOneOf answered (answers_under key token n past)
IsHolding key n past heard = Unit {0}

-- what a reader of this key was told
abbrev pub IsReader : Shape → List Event → ℕ → List Reply → QKey → Type 0
IsReader shape past n heard key =
    AllByRecursion (IsDrawnBelow (next_token (terms_of shape (shard_of key shape.shards)) (steps_of (shard_of key shape.shards) past))) heard
    × (granted heard ≡ []) × (ever heard ≡ []) × IsHolding key n past heard

-- what a session was told, by its plan: nothing without one
abbrev pub IsSession : Shape → List Event → ℕ → List Reply → Option Plan → Type 0
IsSession shape past n heard None = AllByRecursion IsIdle heard
IsSession shape past n heard (Some (Read key floor)) = IsReader shape past n heard key
IsSession shape past n heard (Some (Write mode txn)) = Writer shape past n heard (writing_of (Write mode txn))
IsSession shape past n heard (Some (Look mode key txn)) = Writer shape past n heard (writing_of (Look mode key txn))
IsSession shape past n heard (Some (Quit mode txn)) = Writer shape past n heard (writing_of (Quit mode txn))
IsSession shape past n heard (Some (Skip key txn)) = Writer shape past n heard (writing_of (Skip key txn))
IsSession shape past n heard (Some (Raise txn)) = Writer shape past n heard (writing_of (Raise txn))
IsSession shape past n heard (Some (Renew mode txn)) = Writer shape past n heard (writing_of (Renew mode txn))

abbrev pub IsCovered : Shape → List Event → Type 0
IsCovered shape past =
    (place : ℕ) (commit : Commit) (key : QKey) → slice_get (log_of past) place ≡ Some commit → touches commit.txn key ≡ true
    → list_any (quarantines key commit.sid) (steps_of (shard_of key shape.shards) past) ≡ true

pub record Inner (shape : Shape) (world : World) : Type 0 where
  pub legal : (place : ℕ) → IsLegalPast (terms_of shape place) (steps_of place world.past)
  pub known : (place : ℕ) → AllByRecursion (IsKnown world.past) (steps_of place world.past)
  pub planned : (place : ℕ) → AllByRecursion (GrantsPlanned world.plans) (steps_of place world.past)
  pub counts : (key : QKey) (who : Sid)
      → count_by (quarantines key who) (steps_of (shard_of key shape.shards) world.past) ≡ count_by (covers who key) (ever (heard_by who.number world.past))
  pub covered : IsCovered shape world.past
  pub logged : ArePlanned world.plans (log_of world.past)
  pub quarantined : AreQuarantined shape world.past
  pub sweeping : IsSweeping shape world.plans world.past (sweeps_of world.past)
  pub sessions : (n : ℕ) → IsSession shape world.past n (heard_by n world.past) (plan_at n world.plans)

abbrev pub with_event : World → Event → World
with_event world event = record { plans = world.plans; past = event ∷ world.past }

-- the session whose turn it was is as its plan has it, after what it is told
abbrev pub HasHeard : Shape → World → Event → Sid → Reply → Type 0
HasHeard shape world event who reply =
    IsSession shape (event ∷ world.past) who.number (reply ∷ heard_by who.number world.past) (plan_at who.number world.plans)

drawn-weaker : (low high : ℕ) → low ≤ high → (reply : Reply) → IsDrawnBelow low reply → IsDrawnBelow high reply
drawn-weaker low high le (Reply.Got (got.Lease token)) h = omega (arith, le, h)
drawn-weaker low high le (Reply.Got (got.Hit value stamp)) h = tt
drawn-weaker low high le (Reply.Got (got.Again stands)) h = tt
drawn-weaker low high le (Reply.Got got.Own) h = tt
drawn-weaker low high le (Reply.Answer answer) h = tt
drawn-weaker low high le (Reply.Set answer) h = tt
drawn-weaker low high le (Reply.Quar answer) h = tt
drawn-weaker low high le (Reply.Staged value txn) h = tt
drawn-weaker low high le (Reply.NotStaged fault txn) h = tt
drawn-weaker low high le (Reply.Committed number txn grants) h = tt
drawn-weaker low high le (Reply.NotCommitted fault txn grants) h = tt
drawn-weaker low high le (Reply.End was) h = tt
drawn-weaker low high le (Reply.Rel answer) h = tt
drawn-weaker low high le (Reply.SarBack grant) h = tt
drawn-weaker low high le (Reply.Fault fault) h = tt
drawn-weaker low high le (Reply.Raise answer) h = tt
drawn-weaker low high le (Reply.RaiseBack grant) h = tt
drawn-weaker low high le (Reply.Renew grant answer) h = tt
drawn-weaker low high le Reply.Nothing h = tt

answer-back : (answered : Answer) (xs ys : List Answer) → IsOneOf answered ys → IsOneOf answered (xs ++ ys)
answer-back answered [] ys h = h
answer-back answered (x ∷ xs) ys h = inr (answer-back answered xs ys h)

-- what is held under a lease stays so
holding-more : (shape : Shape) (event : Event) (past : List Event) (key : QKey) (n : ℕ) (heard : List Reply) → DrawsLate shape past event
    → AllByRecursion (IsDrawnBelow (next_token (terms_of shape (shard_of key shape.shards)) (steps_of (shard_of key shape.shards) past))) heard
    → IsHolding key n past heard
    → IsHolding key n (event ∷ past) heard
holding-more shape (Stepped place who request s reply) past key n (Reply.Answer answered ∷ Reply.Got (got.Lease token) ∷ heard) late drawn h =
    subst (λ b. IsOneOf answered (cond b [] (answers_under key token n past))) (sym (late key token drawn.1.0).0) h
holding-more shape (Called who request reply) past key n (Reply.Answer answered ∷ Reply.Got (got.Lease token) ∷ heard) late drawn h =
    answer-back answered (answers_in key n who reply) (answers_under key token n past) h
holding-more shape (Ticked now) past key n (Reply.Answer answered ∷ Reply.Got (got.Lease token) ∷ heard) late drawn h = h
holding-more shape (Swept place request made reply) past key n (Reply.Answer answered ∷ Reply.Got (got.Lease token) ∷ heard) late drawn h = h
holding-more shape event past key n heard late drawn h = tt

pub reader-more : (shape : Shape) (event : Event) (past : List Event) (n : ℕ) (heard : List Reply) (key : QKey)
    → DrawsLate shape past event → IsReader shape past n heard key
    → IsReader shape (event ∷ past) n heard key
reader-more shape event past n heard key late h =
    let home = shard_of key shape.shards in
    let low = next_token (terms_of shape home) (steps_of home past) in
    let high = next_token (terms_of shape home) (steps_of home (event ∷ past)) in (
      every-weaker (IsDrawnBelow low) (IsDrawnBelow high) heard
          (drawn-weaker low high (next-append (terms_of shape home) (steps_in home event) (steps_of home past))) h.0,
      h.1,
      h.2,
      holding-more shape event past key n heard late h.0 h.3,
    )

-- what a session was told stays so
pub session-more : (shape : Shape) (event : Event) (past : List Event) (n : ℕ) (heard : List Reply) (plan : Option Plan)
    → DrawsLate shape past event → Finds shape event past n → Keeps shape event past n
    → IsSession shape past n heard plan → IsSession shape (event ∷ past) n heard plan
session-more shape event past n heard None late finds keeps h = h
session-more shape event past n heard (Some (Read key floor)) late finds keeps h = reader-more shape event past n heard key late h
session-more shape event past n heard (Some (Write mode txn)) late finds keeps h = writer-more shape event past n heard (writing_of
    (Write mode txn)) finds keeps h
session-more shape event past n heard (Some (Look mode key txn)) late finds keeps h =
    writer-more shape event past n heard (writing_of (Look mode key txn)) finds keeps h
session-more shape event past n heard (Some (Quit mode txn)) late finds keeps h = writer-more shape event past n heard (writing_of
    (Quit mode txn)) finds keeps h
session-more shape event past n heard (Some (Skip key txn)) late finds keeps h = writer-more shape event past n heard (writing_of (Skip key txn)) finds keeps h
session-more shape event past n heard (Some (Raise txn)) late finds keeps h = writer-more shape event past n heard (writing_of (Raise txn)) finds keeps h
session-more shape event past n heard (Some (Renew mode txn)) late finds keeps h = writer-more shape event past n heard (writing_of
    (Renew mode txn)) finds keeps h

reply-covered : (shape : Shape) (past : List Event) (who : Sid) (reply : Reply) → IsQuarantinedReply shape past who reply → IsCovered shape past
    → (place : ℕ) (commit : Commit) (key : QKey) → slice_get (log_of past ++ commits_of_reply who reply) place ≡ Some commit → touches commit.txn key ≡ true
    → list_any (quarantines key commit.sid) (steps_of (shard_of key shape.shards) past) ≡ true
reply-covered shape past who (Reply.Committed number txn grants) quarantined covered place commit key at touched =
    elim (push-place (log_of past) (record { sid = who; txn = txn }) place commit at) [
      | inl before ↦ covered place commit key before touched
      | inr last ↦
          let steps = steps_of (shard_of key shape.shards) past in
          subst (λ (c : Commit). touches c.txn key ≡ true
          → list_any (quarantines key c.sid) steps ≡ true) last.1 (λ mine. granted_standing key who steps (quarantined key mine)) touched
    ]
reply-covered shape past who other quarantined covered place commit key at touched =
    covered place commit key (sym (ap (λ l. slice_get l place) (append-nil (log_of past))) ∙ at) touched

covered-in : (shape : Shape) (event : Event) (past : List Event) → IsQuarantinedEvent shape past event → IsCovered shape past
    → (place : ℕ) (commit : Commit) (key : QKey) → slice_get (log_of (event ∷ past)) place ≡ Some commit → touches commit.txn key ≡ true
    → list_any (quarantines key commit.sid) (steps_of (shard_of key shape.shards) past) ≡ true
covered-in shape (Stepped place who request s reply) past quarantined covered = reply-covered shape past who reply quarantined covered
covered-in shape (Called who request reply) past quarantined covered = reply-covered shape past who reply quarantined covered
covered-in shape (Ticked now) past quarantined covered =
    λ place commit key at. covered place commit key (sym (ap (λ l. slice_get l place) (append-nil (log_of past))) ∙ at)
covered-in shape (Swept shard request made reply) past quarantined covered =
    λ place commit key at. covered place commit key (sym (ap (λ l. slice_get l place) (append-nil (log_of past))) ∙ at)

covered-more : (shape : Shape) (event : Event) (past : List Event) → IsQuarantinedEvent shape past event → IsCovered shape past → IsCovered shape (event ∷ past)
covered-more shape event past quarantined covered place commit key at touched =
    let home = shard_of key shape.shards in
    any-back (quarantines key commit.sid) (steps_in home event) (steps_of home past)
    (covered-in shape event past quarantined covered place commit key at touched)

-- what an event has to bring
record Brings (shape : Shape) (world : World) (event : Event) : Type 0 where
  legal : (place : ℕ) → IsLegalPast (terms_of shape place) (steps_of place (event ∷ world.past))
  known : (place : ℕ) → AllByRecursion (IsKnown (event ∷ world.past)) (steps_in place event)
  granted : (place : ℕ) → AllByRecursion (GrantsPlanned world.plans) (steps_in place event)
  late : IsLate event world.past
  counted : IsCounted shape.shards event
  committed : IsPlannedEvent world.plans event
  quarantined : IsQuarantinedEvent shape world.past event
  sweeping : IsSweeping shape world.plans (event ∷ world.past) (sweeps_of (event ∷ world.past))
  sessions : (n : ℕ) → IsSession shape (event ∷ world.past) n (heard_by n (event ∷ world.past)) (plan_at n world.plans)

inner-event : (shape : Shape) (world : World) (event : Event) → Inner shape world → Brings shape world event → Inner shape (with_event world event)
inner-event shape world event inner new =
    let past = world.past in
    record {
      legal = new.legal;
      known = λ place. every-append (IsKnown (event ∷ past)) (steps_in place event) (steps_of place past) (new.known place)
          (every-weaker (IsKnown past) (IsKnown (event ∷ past)) (steps_of place past) (known-more event past new.late) (inner.known place));
      planned = λ place. every-append (GrantsPlanned world.plans) (steps_in place event) (steps_of place past) (new.granted place) (inner.planned place);
      counts = λ key who. counts-more shape.shards event past new.counted key who (inner.counts key who);
      covered = covered-more shape event past new.quarantined inner.covered;
      logged = logged-more world.plans event past new.committed inner.logged;
      quarantined = (new.quarantined, inner.quarantined);
      sweeping = new.sweeping;
      sessions = new.sessions;
    }

-- the sessions after a turn of one of them, and after an event that was no session's turn
sessions-turn : (shape : Shape) (world : World) (event : Event) (who : Sid) (reply : Reply) → Inner shape world → DrawsLate shape world.past event
    → ((n : ℕ) → (who.number ≡ n → ⊥) → Finds shape event world.past n)
    → ((n : ℕ) → (who.number ≡ n → ⊥) → Keeps shape event world.past n) → HasHeard shape world event who reply
    → (n : ℕ) → IsSession shape (event ∷ world.past) n (heard_from n who reply ++ heard_by n world.past) (plan_at n world.plans)
sessions-turn shape world event who reply inner late finds keeps mine n =
    let past = world.past in
    let S : List Reply → Type 0 = λ heard. IsSession shape (event ∷ past) n heard (plan_at n world.plans) in
    let O : ℕ → Type 0 = λ m. IsSession shape (event ∷ past) m (heard_from m who reply ++ heard_by m past) (plan_at m world.plans) in
    let M : List Reply → Type 0 = λ heard. IsSession shape (event ∷ past) who.number heard (plan_at who.number world.plans) in
    elim (cases_Bool (who.number == n)) [
      | inl same ↦ subst O (eqb-true who.number n same) (subst M (sym (heard-mine who reply (heard_by who.number past))) mine)
      | inr other ↦ subst S (sym (heard-other n who reply (heard_by n past) other))
          (session-more shape event past n (heard_by n past) (plan_at n world.plans) late
          (finds n (λ e. false≢true (sym other ∙ eq-eqb who.number n e)))
          (keeps n (λ e. false≢true (sym other ∙ eq-eqb who.number n e))) (inner.sessions n))
    ]

sessions-still : (shape : Shape) (world : World) (event : Event)
    → Inner shape world → DrawsLate shape world.past event → ((n : ℕ) → Finds shape event world.past n) → ((n : ℕ) → Keeps shape event world.past n)
    → (n : ℕ) → IsSession shape (event ∷ world.past) n (heard_by n world.past) (plan_at n world.plans)
sessions-still shape world event inner late finds keeps n =
    session-more shape event world.past n (heard_by n world.past) (plan_at n world.plans) late (finds n) (keeps n) (inner.sessions n)

-- a call of the store, or none
pub called-inner : (shape : Shape) (world : World) (who : Sid) (request : Wanted) (reply : Reply) → Inner shape world → grants_in reply ≡ []
    → IsLate (Called who request reply) world.past → IsQuarantinedReply shape world.past who reply
    → IsPlannedReply world.plans who reply → HasHeard shape world (Called who request reply) who reply
    → Inner shape (with_event world (Called who request reply))
called-inner shape world who request reply inner brings late quarantined planned mine =
    let event = Called who request reply in
    inner-event shape world event inner (record {
      legal = inner.legal;
      known = λ place. tt;
      granted = λ place. tt;
      late = late;
      counted = counted-called shape.shards who request reply brings;
      committed = planned;
      quarantined = quarantined;
      sweeping = sweeping-more shape world.plans event world.past (sweeps_of world.past) tt inner.sweeping;
      sessions = sessions-turn shape world event who reply inner tt (λ n other. finds-called shape who request reply world.past n)
          (λ n other grant own. stood-called shape who request reply world.past n grant) mine;
    })

mild-quarantined : (shape : Shape) (past : List Event) (who : Sid) (reply : Reply) → is_commit reply ≡ false → IsQuarantinedReply shape past who reply
mild-quarantined shape past who (Reply.Committed number txn grants) mild = cc
mild-quarantined shape past who other mild = tt

-- a call that commits nothing
pub mild-inner : (shape : Shape) (world : World) (who : Sid) (request : Wanted) (reply : Reply)
    → Inner shape world → grants_in reply ≡ [] → is_commit reply ≡ false
    → HasHeard shape world (Called who request reply) who reply → Inner shape (with_event world (Called who request reply))
mild-inner shape world who request reply inner brings mild mine =
    called-inner shape world who request reply inner brings (late-called who request reply world.past mild)
    (mild-quarantined shape world.past who reply mild) (mild-planned world.plans who reply mild) mine

-- a step that answers a request draws late
pub draws-late : (shape : Shape) (past : List Event) (home : ℕ) (s : Step) → Answers (terms_of shape home) (steps_of home past) s → IsLateDraw shape past s
draws-late shape past home s answers =
    late-draw shape past home s (answers-draw (terms_of shape home) (steps_of home past) s answers)

-- what holds of the step that was made holds of each step that the event made on a shard
each-made : (P : Step → Type 0) (b : Bool) (x : Step) → P x → AllByRecursion P (cond b (x ∷ []) [])
each-made P true x h = (h, tt)
each-made P false x h = tt

-- a step that answers a request keeps each history legal
legal-more : (shape : Shape) (world : World) (home : ℕ) (s : Step) → Inner shape world → Answers (terms_of shape home) (steps_of home world.past) s
    → (place : ℕ) → IsLegalPast (terms_of shape place) (cond (home == place) (s ∷ []) [] ++ steps_of place world.past)
legal-more shape world home s inner answers place =
    let A : ℕ → Type 0 = λ p. Answers (terms_of shape p) (steps_of p world.past) s in
    maybe-step (IsLegalPast (terms_of shape place)) (home == place) s (steps_of place world.past)
    (λ same. (subst A (eqb-true home place same) answers, inner.legal place)) (λ _. inner.legal place)

-- a step of a shard
pub stepped-inner : (shape : Shape) (world : World) (home : ℕ) (who : Sid) (request : Wanted) (s : Step) (reply : Reply) → Inner shape world
    → Answers (terms_of shape home) (steps_of home world.past) s → IsKnown (Stepped home who request s reply ∷ world.past) s → GrantsPlanned world.plans s
    → is_commit reply ≡ false → IsCounted shape.shards (Stepped home who request s reply)
    → ((n : ℕ) → (who.number ≡ n → ⊥) → Finds shape (Stepped home who request s reply) world.past n)
    → ((n : ℕ) → (who.number ≡ n → ⊥) → Keeps shape (Stepped home who request s reply) world.past n)
    → HasHeard shape world (Stepped home who request s reply) who reply
    → Inner shape (with_event world (Stepped home who request s reply))
stepped-inner shape world home who request s reply inner answers known planned mild counted finds keeps mine =
    let event = Stepped home who request s reply in
    let past = world.past in
    let late = draws-late shape past home s answers in
    inner-event shape world event inner (record {
      legal = legal-more shape world home s inner answers;
      known = λ place. each-made (IsKnown (event ∷ past)) (home == place) s known;
      granted = λ place. each-made (GrantsPlanned world.plans) (home == place) s planned;
      late = late-stepped home who request s reply past mild;
      counted = counted;
      committed = mild-planned world.plans who reply mild;
      quarantined = mild-quarantined shape past who reply mild;
      sweeping = sweeping-more shape world.plans event past (sweeps_of past) late inner.sweeping;
      sessions = sessions-turn shape world event who reply inner late finds keeps mine;
    })

quiet-known : (past : List Event) (s : Step) → IsQuietStep s → IsKnown past s
quiet-known past (step.Granted key sid mode shift now token deadline) quiet = absurd quiet
quiet-known past (step.Released key sid token how) quiet = absurd quiet
quiet-known past other quiet = tt

-- a step that neither grants nor ends a quarantine
pub quiet-inner : (shape : Shape) (world : World) (home : ℕ) (who : Sid) (request : Wanted) (s : Step) (reply : Reply) → Inner shape world
    → Answers (terms_of shape home) (steps_of home world.past) s → IsQuietStep s → ReleasesNone request → is_commit reply ≡ false → grants_in reply ≡ []
    → HasHeard shape world (Stepped home who request s reply) who reply → Inner shape (with_event world (Stepped home who request s reply))
quiet-inner shape world home who request s reply inner answers quiet none mild brings mine =
    stepped-inner shape world home who request s reply inner answers
    (quiet-known (Stepped home who request s reply ∷ world.past) s quiet) (quiet-planned world.plans s quiet) mild
    (counted-mild shape.shards home who request s reply (quiet-grants s quiet) brings)
    (λ n other. finds-none shape home who request s reply world.past n (quiet-as s quiet))
    (λ n other grant own. stood-quiet shape home who request s reply world.past quiet none n grant) mine

-- what stands on a key
pub stands_well : (shape : Shape) (world : World) → Inner shape world
    → (key : QKey) → StandsWell (terms_of shape (shard_of key shape.shards)) (steps_of (shard_of key shape.shards) world.past) key
stands_well shape world inner key =
    legal_stands_well (terms_of shape (shard_of key shape.shards))
    (steps_of (shard_of key shape.shards) world.past) (inner.legal (shard_of key shape.shards)) key

-- the clock
pub ticked-inner : (shape : Shape) (world : World) (now : ℕ) → Inner shape world → Inner shape (with_event world (Ticked now))
ticked-inner shape world now inner =
    let event = Ticked now in
    inner-event shape world event inner (record {
      legal = inner.legal;
      known = λ place. tt;
      granted = λ place. tt;
      late = late-ticked now world.past;
      counted = counted-ticked shape.shards now;
      committed = tt;
      quarantined = tt;
      sweeping = sweeping-more shape world.plans event world.past (sweeps_of world.past) tt inner.sweeping;
      sessions = sessions-still shape world event inner tt (λ n. finds-ticked shape now world.past n)
          (λ n grant own. stood-ticked shape now world.past n grant);
    })

-- a sweep that makes no step
pub unmade-inner : (shape : Shape) (world : World) (place : ℕ) (request : SweepWanted) (reply : SweepReply) → Inner shape world
    → IsSweeping shape world.plans (Swept place request None reply ∷ world.past) (reply ∷ sweeps_of world.past)
    → Inner shape (with_event world (Swept place request None reply))
unmade-inner shape world place request reply inner sweeping =
    let event = Swept place request None reply in
    inner-event shape world event inner (record {
      legal = λ home. subst (IsLegalPast (terms_of shape home)) (sym (unmade-steps home place request reply world.past)) (inner.legal home);
      known = λ home. none-made (IsKnown (event ∷ world.past)) (place == home);
      granted = λ home. none-made (GrantsPlanned world.plans) (place == home);
      late = late-swept place request None reply world.past;
      counted = counted-unmade shape.shards place request reply;
      committed = tt;
      quarantined = tt;
      sweeping = sweeping;
      sessions = sessions-still shape world event inner tt (λ n. finds-unmade shape place request reply world.past n)
          (λ n grant own. stood-unmade shape place request reply world.past n grant);
    })
  where
    none-made : (P : Step → Type 0) (b : Bool) → AllByRecursion P (cond b [] [])
    none-made P true = tt
    none-made P false = tt

-- a scan
pub scanned-inner : (shape : Shape) (world : World) (place : ℕ) (reply : SweepReply)
    → Inner shape world → IsSweeping shape world.plans world.past (reply ∷ sweeps_of world.past)
    → Inner shape (with_event world (Swept place (sweep.Scan place) None reply))
scanned-inner shape world place reply inner sweeping =
    unmade-inner shape world place (sweep.Scan place) reply inner
    (sweeping-more shape world.plans (Swept place (sweep.Scan place) None reply) world.past (reply ∷ sweeps_of world.past) tt sweeping)

-- the end of the session of what was found
pub ended-inner : (shape : Shape) (world : World) (who : Sid) (was : Bool) (at : ℕ) (due : Due) (before : List SweepReply)
    → Inner shape world → sweeps_of world.past ≡ sweeps.Found at due ∷ before
    → closed due.sid.number (Swept 0 (sweep.End who) None (ended_as who was) ∷ world.past) ≡ true
    → Inner shape (with_event world (Swept 0 (sweep.End who) None (ended_as who was)))
ended-inner shape world who was at due before inner found shut =
    let event = Swept 0 (sweep.End who) None (ended_as who was) in
    let is = subst (IsSweeping shape world.plans world.past) found inner.sweeping in
    unmade-inner shape world 0 (sweep.End who) (ended_as who was) inner
    (subst (λ l. IsSweeping shape world.plans (event ∷ world.past) (ended_as who was ∷ l))
    (sym found) (due-more shape world.plans event world.past due tt is, shut))

-- a drop of what no longer stands
pub gone-inner : (shape : Shape) (world : World) (key : QKey) (token : ℕ) (rel : Rel) → Inner shape world
    → Inner shape (with_event world (Swept (shard_of key shape.shards) (sweep.Drop key token) None (sweeps.Dropped rel)))
gone-inner shape world key token rel inner = unmade-inner shape world (shard_of key shape.shards) (sweep.Drop key token) (sweeps.Dropped rel) inner tt

-- a drop of the quarantine of a session that is closed
pub dropped-inner : (shape : Shape) (world : World) (key : QKey) (token : ℕ) (quar : Quar) (rel : Rel) → Inner shape world
    → quar_of key token (steps_of (shard_of key shape.shards) world.past) ≡ Some quar → closed quar.sid.number world.past ≡ true
    → Inner shape
    (with_event world (Swept (shard_of key shape.shards) (sweep.Drop key token) (Some (step.Released key quar.sid token ended.Drop)) (sweeps.Dropped rel)))
dropped-inner shape world key token quar rel inner stands shut =
    let home = shard_of key shape.shards in
    let past = world.past in
    let steps = steps_of home past in
    let terms = terms_of shape home in
    let s = step.Released key quar.sid token ended.Drop in
    let request = sweep.Drop key token in
    let reply = sweeps.Dropped rel in
    let event = Swept home request (Some s) reply in
    let late : IsLateDraw shape past s = λ k t low. (refl, refl) in
    let leaves = leaves-ended shape past home key quar.sid token ended.Drop quar (distinct terms steps key (stands_well shape world inner key)) stands shut in
    inner-event shape world event inner (record {
      legal = legal-more shape world home s inner (sweep-answers terms steps key token quar refl stands);
      known = λ place. each-made (IsKnown (event ∷ past)) (home == place) s (closed-more quar.sid.number event past shut, λ kept. cc);
      granted = λ place. each-made (GrantsPlanned world.plans) (home == place) s tt;
      late = late-swept home request (Some s) reply past;
      counted = counted-swept shape.shards home request s reply (λ k by. refl);
      committed = tt;
      quarantined = tt;
      sweeping = tt;
      sessions = sessions-still shape world event inner late (λ n. finds-swept shape home request s reply past n (λ k t. refl))
          (λ n grant own. stood-swept shape home request s reply past leaves n grant);
    })
