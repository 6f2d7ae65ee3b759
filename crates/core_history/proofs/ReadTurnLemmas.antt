-- A turn of a reader, or of no session, keeps the facts; and so does a get of any session's.
use Rattle.std.proofs.Common.{ℕ, zero, suc, ◌≡◌, ◌<◌, ◌==◌, true, false, cond, List, [], ◌∷◌, ◌++◌, length, Option, Some, None, append-nil, refl, sym}
use Rattle.std.proofs.Common.{ap, subst, ◌∙◌, inl, arith}
use Rattle.std.proofs.lemmas.Bool.{false≢true, eq-eqb, eqb-true}
use Rattle.rows_model.specs.declared.keys.QKey.{QKey}
use Rattle.rows_model.specs.declared.keys.Sid.{Sid}
use Rattle.rows_model.specs.Key.{same_key}
use Rattle.rows_model.proofs.SameKey.{same_key-refl}
use Rattle.rows_model.specs.Placement.{shard_of}
use Rattle.lease_table.specs.declared.records.ReadLease.{ReadLease}
use Rattle.lease_table.specs.Leases.{is_current}
use Rattle.key_shard.specs.declared.steps.Step.{Step}
use Rattle.key_shard.specs.declared.steps.Step.TheVariants as step
use Rattle.key_shard.specs.declared.replies.Got.{Got}
use Rattle.key_shard.specs.declared.replies.Got.TheVariants as got
use Rattle.key_shard.specs.declared.replies.SetAnswer.{SetAnswer}
use Rattle.key_shard.specs.declared.replies.SetAnswer.TheVariants as set
use Rattle.key_shard.specs.Past.{Terms, draws, recorded, evicts, next_token, deadline_at}
use Rattle.key_shard.specs.Answers.{Answers, Get, Set, get_step, set_step}
use Rattle.key_shard.proofs.CaseLemmas.{got_cases, set_cases}
use Rattle.sql_keeper.specs.declared.stores.Answer.{Answer}
use Rattle.session_client.specs.declared.plans.Plan.{Plan}
use Rattle.session_client.specs.declared.plans.Plan.TheVariants.{Read}
use Rattle.session_client.specs.declared.plans.Shape.{Shape}
use Rattle.session_client.specs.declared.replies.Reply.{Reply}
use Rattle.session_client.specs.declared.replies.Reply.TheVariants as Reply
use Rattle.session_client.specs.declared.replies.Wanted.{Wanted}
use Rattle.session_client.specs.declared.replies.Wanted.TheVariants as wanted
use Rattle.key_shard.specs.declared.replies.Raising.TheVariants as raising
use Rattle.session_client.specs.Wants.{granted, granted_by, turned, grants_in, is_commit, read_wants}
use Rattle.session_client.proofs.WantCases.{read_cases}
use Rattle.core_history.specs.Events.{Event, Stepped, Called, steps_of, heard_by, log_of, now_of}
use Rattle.core_history.specs.Machine.{World, Said, Value, Made, Rejected, Failed, terms_of, plan_at, step_reply, event_of, ask_reply}
use Rattle.core_history.specs.Facts.{answers_under}
use Rattle.core_history.proofs.GrantFacts.{IsDrawnBelow}
use Rattle.core_history.proofs.ListLemmas.{and_elim, and_intro, not_both, count-cons}
use Rattle.core_history.proofs.KeyLemmas.{IsQuietStep}
use Rattle.core_history.proofs.EventLemmas.{ever}
use Rattle.core_history.proofs.SessionLemmas.{maybe-step, DrawsLate, IsLateDraw}
use Rattle.core_history.proofs.InnerLemmas.{Inner, IsSession, IsHolding, HasHeard, with_event, reader-more, mild-inner, quiet-inner, draws-late}
use Rattle.core_history.proofs.GoodEvents.{IsOneOf, IsGoodEvent}

-- the facts after the event of a request, which is good
abbrev pub After : Shape → World → Sid → Said → Wanted → Type 0
After shape world who said request =
    Inner shape (with_event world (event_of shape world who request said)) × IsGoodEvent shape world.past (event_of shape world who request said)

-- a session that wants nothing
pub idle-turn : (shape : Shape) (world : World) (who : Sid) (said : Said)
    → Inner shape world → HasHeard shape world (Called who wanted.Nothing Reply.Nothing) who Reply.Nothing
    → After shape world who said wanted.Nothing
idle-turn shape world who said inner mine = (mild-inner shape world who wanted.Nothing Reply.Nothing inner refl refl mine, tt)

-- a session stays as its plan has it, whatever a get tells it
abbrev pub TakesGot : Shape → World → Sid → QKey → ℕ → Type 0
TakesGot shape world who key floor =
    let home = shard_of key shape.shards in
    (s : Step) (found : Got) → IsQuietStep s → IsLateDraw shape world.past s
    → IsDrawnBelow (next_token (terms_of shape home) (steps_of home (Stepped home who (wanted.Get key floor) s (Reply.Got found) ∷ world.past)))
    (Reply.Got found)
    → HasHeard shape world (Stepped home who (wanted.Get key floor) s (Reply.Got found)) who (Reply.Got found)

-- a get, of whichever session
pub got-turn : (shape : Shape) (world : World) (who : Sid) (said : Said) (key : QKey) (floor : ℕ) → Inner shape world → TakesGot shape world who key floor
    → After shape world who said (wanted.Get key floor)
got-turn shape world who said key floor inner takes =
    got_cases P terms steps key who floor now
    (λ value stamp found is. (
      by_step (step.Hit key who floor value stamp) (got.Hit value stamp) is tt tt,
      record { home = refl; good = found; own = tt; no_commit = refl; no_end = refl },
    ))
    (λ is. (by_step (step.Own key who) got.Own is tt tt, record { home = refl; good = tt; own = tt; no_commit = refl; no_end = refl }))
    (λ stands is. (
      by_step (step.Again key who floor now stands) (got.Again stands) is tt tt,
      record { home = refl; good = tt; own = tt; no_commit = refl; no_end = refl },
    ))
    (λ none is. (
      by_step (step.Lease key who floor now token deadline) (got.Lease token) is tt low,
      record { home = refl; good = none; own = tt; no_commit = refl; no_end = refl },
    ))
    refl
  where
    past : List Event
    past = world.past

    home : ℕ
    home = shard_of key shape.shards

    terms : Terms
    terms = terms_of shape home

    steps : List Step
    steps = steps_of home past

    now : ℕ
    now = now_of past

    token : ℕ
    token = next_token terms steps

    deadline : ℕ
    deadline = deadline_at terms now

    request : Wanted
    request = wanted.Get key floor

    P : Step → Type 0
    P s = s ≡ get_step terms steps key who floor now → Inner shape (with_event world (Stepped home who request s (step_reply terms steps s)))
        × IsGoodEvent shape past (Stepped home who request s (step_reply terms steps s))

    by_step : (s : Step) (found : Got) → s ≡ get_step terms steps key who floor now → IsQuietStep s
        → IsDrawnBelow (next_token terms (steps_of home (Stepped home who request s (Reply.Got found) ∷ past))) (Reply.Got found)
        → Inner shape (with_event world (Stepped home who request s (Reply.Got found)))
    by_step s found is quiet drawn =
        let answers : Answers terms steps s = record { request = Get key who floor now; at_home = refl; owed = tt; answer = is } in
        quiet-inner shape world home who request s (Reply.Got found) inner answers quiet
        (λ t x out. refl) refl refl (takes s found quiet (draws-late shape past home s answers) drawn)

    low : token < next_token terms (steps_of home (Stepped home who request (step.Lease key who floor now token deadline) (Reply.Got (got.Lease token)) ∷ past))
    low =
        let s = step.Lease key who floor now token deadline in
        maybe-step (λ l. token < next_token terms l) (home == home) s steps (λ _. let one = count-cons draws s steps in
        omega (arith, one)) (λ other. absurd (not_both (eq-eqb home home refl) other))

-- of no grant none is changed
by_nil : (reply : Reply) (place : ℕ) → granted_by reply place [] ≡ []
by_nil (Reply.Raise (raising.Raised grant old)) place = refl
by_nil (Reply.Raise (raising.Shared grant holder)) place = refl
by_nil (Reply.Raise raising.Gone) zero = refl
by_nil (Reply.Raise raising.Gone) (suc place) = refl
by_nil other place = refl

-- what a reader is told
reader-heard : (shape : Shape) (world : World) (event : Event) (who : Sid) (reply : Reply) (key : QKey) (floor : ℕ)
    → Inner shape world → plan_at who.number world.plans ≡ Some (Read key floor)
    → DrawsLate shape world.past event
    → IsDrawnBelow (next_token (terms_of shape (shard_of key shape.shards)) (steps_of (shard_of key shape.shards) (event ∷ world.past))) reply
    → grants_in reply ≡ [] → IsHolding key who.number (event ∷ world.past) (reply ∷ heard_by who.number world.past) → HasHeard shape world event who reply
reader-heard shape world event who reply key floor inner plan late drawn brings holding =
    let n = who.number in
    let heard = heard_by n world.past in
    let S : Option Plan → Type 0 = λ p. IsSession shape world.past n heard p in
    let T : Option Plan → Type 0 = λ p. IsSession shape (event ∷ world.past) n (reply ∷ heard) p in
    let old = reader-more shape event world.past n heard key late (subst S plan (inner.sessions n)) in
    subst T (sym plan) (
      (drawn, old.0),
      ap (λ l. granted_by reply (turned heard) (granted heard) ++ l) brings ∙ append-nil (granted_by reply (turned heard) (granted heard))
          ∙ ap (granted_by reply (turned heard)) old.1 ∙ by_nil reply (turned heard),
      ap (λ l. ever heard ++ l) brings ∙ append-nil (ever heard) ∙ old.2,
      holding,
    )

get-turn : (shape : Shape) (world : World) (who : Sid) (said : Said) (key : QKey) (floor : ℕ)
    → Inner shape world → plan_at who.number world.plans ≡ Some (Read key floor)
    → After shape world who said (wanted.Get key floor)
get-turn shape world who said key floor inner plan =
    got-turn shape world who said key floor inner
    (λ s found quiet late drawn. reader-heard shape world (Stepped (shard_of key shape.shards) who (wanted.Get key floor) s (Reply.Got found)) who
    (Reply.Got found) key floor inner plan late drawn refl tt)

-- the lease that a current token is of
lease_of : (token now : ℕ) (lease : Option ReadLease) → is_current token now lease ≡ true → (found : ReadLease) × (lease ≡ Some found) × (found.token ≡ token)
lease_of token now None e = absurd (false≢true e)
lease_of token now (Some lease) e = (lease, refl, eqb-true lease.token token (and_elim (lease.token == token) _ e).0)

set-turn : (shape : Shape) (world : World) (who : Sid) (said : Said) (key : QKey) (floor : ℕ) (token : ℕ) (answer : Answer) (rest : List Reply)
    → Inner shape world
    → plan_at who.number world.plans ≡ Some (Read key floor) → heard_by who.number world.past ≡ Reply.Answer answer ∷ Reply.Got (got.Lease token) ∷ rest
    → After shape world who said (wanted.Set key token answer.value answer.stamp)
set-turn shape world who said key floor token answer rest inner plan heard =
    set_cases P terms steps key token answer.value answer.stamp now
    (λ current is.
    let lease = lease_of token now (recorded key steps) current in (
      by_step (step.Stored key token now answer.value answer.stamp evicted) (set.Stored evicted) is tt,
      record {
        home = refl;
        good = record { lease = lease.0; is_recorded = lease.1; mine = lease.2; answered = answer; is_answer = answered; value_is = refl; stamp_is = refl };
        own = tt;
        no_commit = refl;
        no_end = refl;
      },
    ))
    (λ _ is. (by_step (step.Void key token now) set.Void is tt, record { home = refl; good = tt; own = tt; no_commit = refl; no_end = refl }))
    refl
  where
    past : List Event
    past = world.past

    home : ℕ
    home = shard_of key shape.shards

    terms : Terms
    terms = terms_of shape home

    steps : List Step
    steps = steps_of home past

    now : ℕ
    now = now_of past

    evicted : Option QKey
    evicted = evicts terms key steps

    request : Wanted
    request = wanted.Set key token answer.value answer.stamp

    answered : IsOneOf answer (answers_under key token who.number past)
    answered =
        let S : Option Plan → Type 0 = λ p. IsSession shape past who.number (heard_by who.number past) p in
        subst (IsHolding key who.number past) heard (subst S plan (inner.sessions who.number)).3

    P : Step → Type 0
    P s = s ≡ set_step terms steps key token answer.value answer.stamp now → Inner shape (with_event world (Stepped home who request s (step_reply terms steps s)))
        × IsGoodEvent shape past (Stepped home who request s (step_reply terms steps s))

    by_step : (s : Step) (found : SetAnswer) → s ≡ set_step terms steps key token answer.value answer.stamp now
        → IsQuietStep s → Inner shape (with_event world (Stepped home who request s (Reply.Set found)))
    by_step s found is quiet =
        let answers : Answers terms steps s = record { request = Set key token answer.value answer.stamp now; at_home = refl; owed = tt; answer = is } in
        let event = Stepped home who request s (Reply.Set found) in
        quiet-inner shape world home who request s (Reply.Set found) inner answers quiet (λ t x out. refl) refl refl
        (reader-heard shape world event who (Reply.Set found) key floor inner plan (draws-late shape past home s answers) tt refl tt)

-- an answer that follows a lease is held under it
ask-holding : (key : QKey) (who : Sid) (request : Wanted) (past : List Event) (answered : Answer) (heard : List Reply) → key ≡ answered.key
    → IsHolding key who.number (Called who request (Reply.Answer answered) ∷ past) (Reply.Answer answered ∷ heard)
ask-holding key who request past answered (Reply.Got (got.Lease token) ∷ heard) same =
    subst (λ b. IsOneOf answered (cond b (answered ∷ []) [] ++ answers_under key token who.number past))
    (sym (and_intro (who.number == who.number) (same_key key answered.key)
    (eq-eqb who.number who.number refl) (subst (λ k. same_key key k ≡ true) same (same_key-refl key)))) (inl refl)
ask-holding key who request past answered heard same = tt

ask-turn : (shape : Shape) (world : World) (who : Sid) (said : Said) (key : QKey) (floor : ℕ)
    → Inner shape world → plan_at who.number world.plans ≡ Some (Read key floor)
    → After shape world who said (wanted.Ask key)
ask-turn shape world who said key floor inner plan = by said
  where
    after : (reply : Reply) → grants_in reply ≡ [] → is_commit reply ≡ false → ((next : ℕ) → IsDrawnBelow next reply)
        → IsHolding key who.number (Called who (wanted.Ask key) reply ∷ world.past) (reply ∷ heard_by who.number world.past)
        → Inner shape (with_event world (Called who (wanted.Ask key) reply))
    after reply brings mild drawn holding =
        let event = Called who (wanted.Ask key) reply in
        mild-inner shape world who (wanted.Ask key) reply inner brings mild
        (reader-heard shape world event who reply key floor inner plan tt (drawn _) brings holding)

    by : (said : Said)
        → Inner shape (with_event world (Called who (wanted.Ask key) (ask_reply world.past key said)))
        × IsGoodEvent shape world.past (Called who (wanted.Ask key) (ask_reply world.past key said))
    by (Value value) =
        let answered : Answer = record { key = key; value = value; stamp = length (log_of world.past) } in (
          after (Reply.Answer answered) refl refl (λ next. tt) (ask-holding key who (wanted.Ask key) world.past answered (heard_by who.number world.past) refl),
          refl,
        )
    by Made = (after _ refl refl (λ next. tt) tt, tt)
    by (Rejected index) = (after _ refl refl (λ next. tt) tt, tt)
    by Failed = (after _ refl refl (λ next. tt) tt, tt)

pub read-turn : (shape : Shape) (world : World) (who : Sid) (said : Said) (key : QKey) (floor : ℕ)
    → Inner shape world → plan_at who.number world.plans ≡ Some (Read key floor)
    → After shape world who said (read_wants key floor (heard_by who.number world.past))
read-turn shape world who said key floor inner plan =
    let idle = Called who wanted.Nothing Reply.Nothing in
    read_cases (After shape world who said) key floor (heard_by who.number world.past)
    (get-turn shape world who said key floor inner plan) (ask-turn shape world who said key floor inner plan)
    (λ token answer rest heard. set-turn shape world who said key floor token answer rest inner plan heard)
    (idle-turn shape world who said inner (reader-heard shape world idle who Reply.Nothing key floor inner plan tt tt refl tt))
