-- The rule, the tie and held entries of every key, leases that are moments, and quarantines
-- that have their key for themselves, are kept by each good event, whatever the keeper says.
use Rattle.std.proofs.Common.{ℕ, ◌≡◌, ◌≤◌, Bool, true, false, cond, ◌==◌, ◌&&◌, List, [], ◌∷◌, ◌++◌, length, Option, Some, None, append-nil}
use Rattle.std.proofs.Common.{refl, sym, ap, subst, ◌∙◌, ◌⊎◌, inl, inr, ⊎_elim, arith}
use Rattle.std.specs.List.{AllByRecursion}
use Rattle.std.proofs.lemmas.Bool.{eqb-true, eq-eqb, false≢true}
use Rattle.rows_model.specs.declared.keys.QKey.{QKey}
use Rattle.rows_model.specs.declared.keys.Sid.{Sid}
use Rattle.rows_model.specs.Key.{same_key}
use Rattle.rows_model.proofs.SameKey.{same_key-true}
use Rattle.rows_model.specs.Placement.{shard_of}
use Rattle.lease_table.specs.declared.records.Mode.TheVariants.{Refresh, Delta}
use Rattle.lease_table.specs.declared.records.ReadLease.{ReadLease}
use Rattle.key_shard.specs.declared.steps.Ended.{Ended as Ends}
use Rattle.key_shard.specs.declared.steps.Ended.TheVariants as ended
use Rattle.key_shard.specs.declared.steps.Step.{Step}
use Rattle.key_shard.specs.declared.steps.Step.TheVariants as step
use Rattle.key_shard.specs.Past.{standing, recorded, entry}
use Rattle.key_shard.proofs.VoidLemmas.{void-was}
use Rattle.sql_keeper.specs.declared.stores.Answer.{Answer}
use Rattle.sql_keeper.specs.declared.stores.Commit.{Commit}
use Rattle.key_freshness.specs.Marks.{Mark, Granted, Ended, Leased, Wrote, Has, key_of, marks_in, marks_of, writes_by}
use Rattle.key_freshness.specs.Known.{Known, IsLogged, IsMore, IsRuled}
use Rattle.key_freshness.specs.Moments.{IsMoment, IsSince}
use Rattle.key_freshness.specs.Held.{IsHeld, IsEntryHeld, IsTied}
use Rattle.key_freshness.specs.Laws.{IsHonest, EndsItsOwn, with_commit, with_end}
use Rattle.key_freshness.proofs.GrantMarks.{none_in, no_grant}
use Rattle.key_freshness.proofs.KnownLemmas.{more-refl, more-trans, more-length}
use Rattle.key_freshness.proofs.MomentLemmas.{more_is_held, stored_is_latest, stored_is_settled}
use Rattle.key_freshness.proofs.MomentSteps.{moment-of-none, since-append}
use Rattle.key_freshness.proofs.StepLemmas.{steps_keep}
use Rattle.key_freshness.proofs.TieLemmas.{steps_tie}
use Rattle.key_freshness.proofs.StoreLemmas.{more-commit, more-end, commits_keep, ends_keep}
use Rattle.expiry_sweeper.specs.declared.replies.SweepReply.{SweepReply}
use Rattle.expiry_sweeper.specs.declared.replies.SweepReply.TheVariants as sweeps
use Rattle.expiry_sweeper.specs.declared.replies.SweepWanted.{SweepWanted}
use Rattle.expiry_sweeper.specs.declared.replies.SweepWanted.TheVariants as sweep
use Rattle.session_client.specs.declared.plans.Shape.{Shape}
use Rattle.session_client.specs.declared.replies.Reply.{Reply}
use Rattle.session_client.specs.declared.replies.Reply.TheVariants as Reply
use Rattle.session_client.specs.declared.replies.Wanted.{Wanted}
use Rattle.session_client.specs.declared.replies.Wanted.TheVariants as wanted
use Rattle.core_history.specs.Events.{Event, Stepped, Called, Ticked, Swept, steps_of, commits_of_reply, log_of, ends_of_reply, ends_swept, ended_of, known_of}
use Rattle.core_history.specs.Facts.{leases, leased_at, answers_in, answers_under, Found, grants_as, found_at}
use Rattle.core_history.proofs.ExclusiveLemmas.{AreAlone, HasNoReader, grants-on, writes_held, apart_step, alone_step, alone-more, alone-after}
use Rattle.core_history.proofs.GoodEvents.{IsOneOf, SetsAnswer, IsGoodStep, IsGoodSweep, IsGoodEnd, IsGoodEvent, IsGoodClosing}
use Rattle.core_history.proofs.ListLemmas.{choose, every-append, every-weaker, not_both, and_elim}

-- the steps of a key's shard
abbrev pub steps_at : Shape → List Event → QKey → List Step
steps_at shape past key = steps_of (shard_of key shape.shards) past

-- the lease of this token is a moment of nobody, and no quarantine was granted since
pub record IsLeased (key : QKey) (token : ℕ) (past : List Event) (marks : List Mark) (known : Known) : Type 0 where
  pub then_marks : List Mark
  pub then_known : Known
  pub leased : leased_at key token past ≡ Some (length then_known.log)
  pub moment : IsMoment key None then_marks then_known
  pub since : IsSince None then_marks marks
  pub more : IsMore then_known known

-- the answer was told with at least as many commits as there were at the lease, and no more than there are
abbrev pub IsBetween : ℕ → ℕ → Answer → Type 0
IsBetween least most answered = (least ≤ answered.stamp) × (answered.stamp ≤ most)

-- the entry, if there is one, has a stamp of at most this
abbrev pub IsWithin : ℕ → Option (List ℕ × ℕ) → Type 0
IsWithin most None = Unit {0}
IsWithin most (Some old) = old.1 ≤ most

-- what was found was so with no more commits than these, and no more than it had by then has its entry
abbrev pub IsFound : ℕ → Found → Type 0
IsFound most found = (found.commits ≤ most) × IsWithin found.commits found.entry

-- the step is on a key of this shard
abbrev pub IsHome : Shape → ℕ → Step → Type 0
IsHome shape place s = shard_of (key_of s) shape.shards ≡ place

-- what holds after each event, whatever the keeper says
pub record Holds (shape : Shape) (past : List Event) (known : Known) : Type 0 where
  pub ruled : (key : QKey) → IsRuled key (marks_of key (steps_at shape past key)) known
  pub tied : (key : QKey) → IsTied (marks_of key (steps_at shape past key)) None (standing key (steps_at shape past key)) (entry key (steps_at shape past key))
  pub held : (key : QKey) → IsEntryHeld key (marks_of key (steps_at shape past key)) known (entry key (steps_at shape past key))
  pub leased : (key : QKey) (lease : ReadLease) → recorded key (steps_at shape past key) ≡ Some lease
      → IsLeased key lease.token past (marks_of key (steps_at shape past key)) known
  pub asked : (key : QKey) (token number least : ℕ) → leased_at key token past ≡ Some least
      → (least ≤ length known.log) × AllByRecursion (IsBetween least (length known.log)) (answers_under key token number past)
  pub apart : (key : QKey) → HasNoReader key (steps_at shape past key)
  pub alone : (key : QKey)
      → AreAlone key (standing key (steps_at shape past key)) past (marks_of key (steps_at shape past key)) known (entry key (steps_at shape past key))
  pub grants : (key : QKey) (token : ℕ) (found : Found) → found_at key token past ≡ Some found → IsFound (length known.log) found
  pub homes : (place : ℕ) → AllByRecursion (IsHome shape place) (steps_of place past)

no_end : (who token by at : ℕ) (how : Ends) (b : Bool) → Has (Granted who token) (cond b (writes_by how ++ Ended by at ∷ []) []) → ⊥
no_end who token by at how true h = no_grant who token by at how h
no_end who token by at how false h = h

-- a lease that is recorded after a step was so before it, and the step gives none and grants nothing on the key
pub record IsKeptLease (key : QKey) (lease : ReadLease) (past : List Step) (s : Step) : Type 0 where
  pub was : recorded key past ≡ Some lease
  pub gives_none : (token : ℕ) → leases key token s ≡ false
  pub grants_none : (who token : ℕ) → Has (Granted who token) (marks_in key s) → ⊥

-- or the step gives it
abbrev pub Gives : QKey → ReadLease → Step → Type 0
Gives key lease (step.Lease on sid floor now token deadline) = (same_key key on ≡ true) × (token ≡ lease.token)
Gives key lease other = ⊥

lease_cases : (key on : QKey) (lease new : ReadLease) (past : List Step) (sid : Sid) (floor now token deadline : ℕ) (b : Bool)
    → same_key key on ≡ b → new.token ≡ token
    → cond b (Some new) (recorded key past) ≡ Some lease
    → IsKeptLease key lease past (step.Lease on sid floor now token deadline) ⊎ ((same_key key on ≡ true) × (token ≡ lease.token))
lease_cases key on lease new past sid floor now token deadline true same mine e =
    let is : new ≡ lease = cc in inr (same, sym mine ∙ ap (λ (l : ReadLease). l.token) is)
lease_cases key on lease new past sid floor now token deadline false same mine e =
    inl (record {
      was = e;
      gives_none = λ t. ap (λ b. b && (token == t)) same;
      grants_none = λ who t h. subst (λ b. Has (Granted who t) (cond b (Leased token ∷ []) [])) same h;
    })

grant_cases : (key on : QKey) (lease : ReadLease) (past : List Step) (number token : ℕ) (b : Bool)
    → same_key key on ≡ b → cond b None (recorded key past) ≡ Some lease
    → (recorded key past ≡ Some lease) × ((who t : ℕ) → Has (Granted who t) (cond (same_key key on) (Granted number token ∷ []) []) → ⊥)
grant_cases key on lease past number token true same e = absurd cc
grant_cases key on lease past number token false same e = (e, λ who t h. subst (λ b. Has (Granted who t) (cond b (Granted number token ∷ []) [])) same h)

store_cases : (key on : QKey) (lease : ReadLease) (past : List Step) (stamp : ℕ) (b : Bool) → same_key key on ≡ b → cond b None (recorded key past) ≡ Some lease
    → (recorded key past ≡ Some lease) × ((who t : ℕ) → Has (Granted who t) (cond (same_key key on) (Wrote stamp ∷ []) []) → ⊥)
store_cases key on lease past stamp true same e = absurd cc
store_cases key on lease past stamp false same e = (e, λ who t h. subst (λ b. Has (Granted who t) (cond b (Wrote stamp ∷ []) [])) same h)

pub recorded_cases : (key : QKey) (lease : ReadLease) (past : List Step) (s : Step)
    → recorded key (s ∷ past) ≡ Some lease → IsKeptLease key lease past s ⊎ Gives key lease s
recorded_cases key lease past (step.Lease on sid floor now token deadline) e =
    lease_cases key on lease (record { sid = sid; token = token; deadline = deadline }) past sid floor now token deadline (same_key key on) refl refl e
recorded_cases key lease past (step.Granted on sid mode shift now token deadline) e =
    let old = grant_cases key on lease past sid.number token (same_key key on) refl e in
    inl (record { was = old.0; gives_none = λ t. refl; grants_none = old.1 })
recorded_cases key lease past (step.Stored on token now value stamp evicted) e =
    let old = store_cases key on lease past stamp (same_key key on) refl e in
    inl (record { was = old.0; gives_none = λ t. refl; grants_none = old.1 })
recorded_cases key lease past (step.Released on sid token how) e =
    inl (record { was = e; gives_none = λ t. refl; grants_none = λ who t h. no_end who t sid.number token how (same_key key on) h })
recorded_cases key lease past (step.Hit on sid floor value stamp) e =
    inl (record { was = e; gives_none = λ t. refl; grants_none = λ who t h. none_in (Granted who t) (same_key key on) h })
recorded_cases key lease past (step.Again on sid floor now stands) e =
    inl (record { was = e; gives_none = λ t. refl; grants_none = λ who t h. none_in (Granted who t) (same_key key on) h })
recorded_cases key lease past (step.Own on sid) e =
    inl (record { was = e; gives_none = λ t. refl; grants_none = λ who t h. none_in (Granted who t) (same_key key on) h })
recorded_cases key lease past (step.Void on token now) e =
    inl (record { was = void-was key on token now past lease e; gives_none = λ t. refl; grants_none = λ who t h. none_in (Granted who t) (same_key key on) h })
recorded_cases key lease past (step.Held on sid mode) e =
    inl (record { was = e; gives_none = λ t. refl; grants_none = λ who t h. none_in (Granted who t) (same_key key on) h })
recorded_cases key lease past (step.Refused on sid mode holder held) e =
    inl (record { was = e; gives_none = λ t. refl; grants_none = λ who t h. none_in (Granted who t) (same_key key on) h })
recorded_cases key lease past (step.Gone on sid token) e =
    inl (record { was = e; gives_none = λ t. refl; grants_none = λ who t h. none_in (Granted who t) (same_key key on) h })
recorded_cases key lease past (step.Raised on sid token) e =
    inl (record { was = e; gives_none = λ t. refl; grants_none = λ who t h. none_in (Granted who t) (same_key key on) h })
recorded_cases key lease past (step.Shared on sid token holder) e =
    inl (record { was = e; gives_none = λ t. refl; grants_none = λ who t h. none_in (Granted who t) (same_key key on) h })
recorded_cases key lease past (step.Renewed on sid token now deadline) e =
    inl (record { was = e; gives_none = λ t. refl; grants_none = λ who t h. none_in (Granted who t) (same_key key on) h })

-- a step that gives a lease is on its key
leases-on : (key : QKey) (token : ℕ) (s : Step) → leases key token s ≡ true → key ≡ key_of s
leases-on key token (step.Lease on sid floor now given deadline) e = same_key-true key on (and_elim (same_key key on) (given == token) e).0
leases-on key token (step.Hit on sid floor value stamp) e = absurd (false≢true e)
leases-on key token (step.Again on sid floor now stands) e = absurd (false≢true e)
leases-on key token (step.Own on sid) e = absurd (false≢true e)
leases-on key token (step.Stored on t now value stamp evicted) e = absurd (false≢true e)
leases-on key token (step.Void on t now) e = absurd (false≢true e)
leases-on key token (step.Granted on sid mode shift now t deadline) e = absurd (false≢true e)
leases-on key token (step.Held on sid mode) e = absurd (false≢true e)
leases-on key token (step.Refused on sid mode holder held) e = absurd (false≢true e)
leases-on key token (step.Released on sid t how) e = absurd (false≢true e)
leases-on key token (step.Gone on sid t) e = absurd (false≢true e)
leases-on key token (step.Raised on sid t) e = absurd (false≢true e)
leases-on key token (step.Shared on sid t holder) e = absurd (false≢true e)
leases-on key token (step.Renewed on sid t now deadline) e = absurd (false≢true e)

not_so : (b : Bool) → (b ≡ true → ⊥) → b ≡ false
not_so true h = absurd (h refl)
not_so false h = refl

-- what is stored was told under the lease that is recorded: the moment of that lease, and a stamp between then and now
between_answers : (least most : ℕ) (answered : Answer) (answers : List Answer)
    → AllByRecursion (IsBetween least most) answers → IsOneOf answered answers → IsBetween least most answered
between_answers least most answered (first ∷ answers) h (inl e) = subst (IsBetween least most) e h.0
between_answers least most answered (first ∷ answers) h (inr t) = between_answers least most answered answers h.1 t
between_answers least most answered [] h t = absurd t

set_held : (shape : Shape) (past : List Event) (who : Sid) (on : QKey) (token : ℕ) (value : List ℕ) (stamp : ℕ) → Holds shape past (known_of past)
    → SetsAnswer past (steps_at shape past on) who on token value stamp → IsHeld on (Wrote stamp ∷ marks_of on (steps_at shape past on)) (known_of past) stamp
set_held shape past who on token value stamp holds sets =
    let lease = holds.leased on sets.lease sets.is_recorded in
    let L : ℕ → Type 0 = λ t. leased_at on t past ≡ Some (length lease.then_known.log) in
    let between = (holds.asked on token who.number (length lease.then_known.log) (subst L sets.mine lease.leased)).1 in
    let stamped = between_answers (length lease.then_known.log) (length (log_of past)) sets.answered _ between sets.is_answer in
    let is = sets.stamp_is in
    record {
      within = let h = stamped.1 in omega (arith, h, is);
      pending = λ place commit by at late touched ended.
          stored_is_latest on lease.then_marks (marks_of on (steps_at shape past on)) lease.then_known
          (known_of past) stamp lease.moment lease.since lease.more (holds.ruled on) (let h = stamped.0 in omega (arith, h, is)) place commit at late touched;
      settled = λ place commit at low touched.
          stored_is_settled on lease.then_marks (marks_of on (steps_at shape past on)) lease.then_known (known_of past) stamp
          lease.moment lease.since (holds.ruled on) place commit at touched;
    }

-- so a good step is honest
honest_is : (shape : Shape) (past : List Event) (who : Sid) (s : Step)
    → Holds shape past (known_of past) → IsGoodStep past (steps_at shape past (key_of s)) who s
    → IsHonest (known_of past) (steps_at shape past (key_of s)) s
honest_is shape past who (step.Stored on token now value stamp evicted) holds good = set_held shape past who on token value stamp holds good
honest_is shape past who (step.Released on sid token ended.Keep) holds good = good
honest_is shape past who (step.Released on sid token ended.Drop) holds good = good
honest_is shape past who (step.Released on sid token (ended.Put value stamp evicted)) holds good =
    writes_held past (steps_at shape past on) on sid token Refresh stamp (λ e. cc) good.writes (holds.ruled on) (holds.alone on)
honest_is shape past who (step.Released on sid token (ended.Shift by stamp)) holds good =
    writes_held past (steps_at shape past on) on sid token Delta stamp (λ e. cc) good.writes (holds.ruled on) (holds.alone on)
honest_is shape past who (step.Hit on sid floor value stamp) holds is_entry = tt
honest_is shape past who (step.Lease on sid floor now token deadline) holds good = tt
honest_is shape past who (step.Again on sid floor now stands) holds good = tt
honest_is shape past who (step.Own on sid) holds good = tt
honest_is shape past who (step.Void on token now) holds good = tt
honest_is shape past who (step.Granted on sid mode shift now token deadline) holds good = tt
honest_is shape past who (step.Held on sid mode) holds good = tt
honest_is shape past who (step.Refused on sid mode holder held) holds good = tt
honest_is shape past who (step.Gone on sid token) holds good = tt
honest_is shape past who (step.Raised on sid token) holds good = tt
honest_is shape past who (step.Shared on sid token holder) holds good = tt
honest_is shape past who (step.Renewed on sid token now deadline) holds good = tt

-- a lease that was given before stays a moment of nobody, where later marks grant nothing, and as much or more is known
lease-more : (key : QKey) (token : ℕ) (past after : List Event) (marks later : List Mark) (known new : Known)
    → leased_at key token after ≡ leased_at key token past → ((by t : ℕ) → Has (Granted by t) later → ⊥) → IsMore known new
    → IsLeased key token past marks known → IsLeased key token after (later ++ marks) new
lease-more key token past after marks later known new same grants grows was = record {
  then_marks = was.then_marks;
  then_known = was.then_known;
  leased = same ∙ was.leased;
  moment = was.moment;
  since = since-append None was.then_marks marks later grants was.since;
  more = more-trans was.more grows;
}

module _ (shape : Shape) (past : List Event) (who : Sid) (request : Wanted) (s : Step) (reply : Reply) (holds : Holds shape past (known_of past))
    (good : IsGoodStep past (steps_at shape past (key_of s)) who s) (own : EndsItsOwn (steps_at shape past (key_of s)) s) where
  abbrev place : ℕ
  place = shard_of (key_of s) shape.shards

  abbrev event : Event
  event = Stepped place who request s reply

  -- at another shard, and at this one
  at_shard : (P : QKey → List Step → Type 0) (key : QKey)
      → (place ≡ shard_of key shape.shards → P key (s ∷ steps_at shape past key)) → P key (steps_at shape past key)
      → P key (steps_at shape (event ∷ past) key)
  at_shard P key here there =
      choose (λ l. P key (l ++ steps_at shape past key)) (place == shard_of key shape.shards)
      (s ∷ []) [] (λ same. here (eqb-true place (shard_of key shape.shards) same)) (λ other. there)

  honest : (key : QKey) → place ≡ shard_of key shape.shards → IsHonest (known_of past) (steps_at shape past key) s
  honest key same = subst (λ (p : ℕ). IsHonest (known_of past) (steps_of p past) s) same (honest_is shape past who s holds good)

  kept : (key : QKey) → place ≡ shard_of key shape.shards
      → IsRuled key (marks_of key (s ∷ steps_at shape past key)) (known_of past)
      × IsEntryHeld key (marks_of key (s ∷ steps_at shape past key)) (known_of past) (entry key (s ∷ steps_at shape past key))
  kept key same = steps_keep key (known_of past) (steps_at shape past key) s (honest key same) (holds.ruled key) (holds.held key)

  good_at : (key : QKey) → place ≡ shard_of key shape.shards → IsGoodStep past (steps_at shape past key) who s
  good_at key same = subst (λ (p : ℕ). IsGoodStep past (steps_of p past) who s) same good

  not_granted : (key : QKey) (token : ℕ) → (place == shard_of key shape.shards) ≡ false → grants_as key token s ≡ false
  not_granted key token other =
      not_so (grants_as key token s)
      (λ gives. not_both (eq-eqb place (shard_of key shape.shards) (ap (λ k. shard_of k shape.shards) (sym (grants-on key token s gives)))) other)

  held_within : (key : QKey) (found : Option (List ℕ × ℕ)) → IsEntryHeld key (marks_of key (steps_at shape past key)) (known_of past) found
      → IsWithin (length (log_of past)) found
  held_within key None held = tt
  held_within key (Some found) held = held.within

  not_leased : (key : QKey) (token : ℕ) → (place == shard_of key shape.shards) ≡ false → leases key token s ≡ false
  not_leased key token other =
      not_so (leases key token s)
      (λ gives. not_both (eq-eqb place (shard_of key shape.shards) (ap (λ k. shard_of k shape.shards) (sym (leases-on key token s gives)))) other)

  same_lease : (key : QKey) (lease : ReadLease) (marks : List Mark) → leases key lease.token s ≡ false → ((by t : ℕ) → Has (Granted by t) marks → ⊥)
      → IsLeased key lease.token past (marks_of key (steps_at shape past key)) (known_of past)
      → IsLeased key lease.token (event ∷ past) (marks ++ marks_of key (steps_at shape past key)) (known_of past)
  same_lease key lease marks none grants was =
      lease-more key lease.token past (event ∷ past) (marks_of key (steps_at shape past key)) marks (known_of past) (known_of past)
      (ap (λ b. cond b (Some (length (log_of past))) (leased_at key lease.token past)) none) grants (more-refl (known_of past)) was

  pub stepped_holds : Holds shape (event ∷ past) (known_of past)
  stepped_holds = record {
    ruled = λ key. at_shard (λ k l. IsRuled k (marks_of k l) (known_of past)) key (λ same. (kept key same).0) (holds.ruled key);
    tied = λ key. at_shard (λ k l. IsTied (marks_of k l) None (standing k l) (entry k l)) key
        (λ same. steps_tie key None (steps_at shape past key) s (subst (λ (p : ℕ). EndsItsOwn (steps_of p past) s) same own) (holds.tied key)) (holds.tied key);
    held = λ key. at_shard (λ k l. IsEntryHeld k (marks_of k l) (known_of past) (entry k l)) key (λ same. (kept key same).1) (holds.held key);
    leased = λ key lease is. leased_after key lease (place == shard_of key shape.shards) refl is;
    asked = λ key token number least is. asked_after key token number least (leases key token s) refl is;
    apart =
        λ key. at_shard HasNoReader key (λ same. apart_step past (steps_at shape past key) who s key (good_at key same) (holds.apart key)) (holds.apart key);
    alone = λ key. alone_after key (place == shard_of key shape.shards) refl;
    grants = λ key token found is. grants_after key token found (grants_as key token s) refl is;
    homes = λ at. choose (λ l. AllByRecursion (IsHome shape at) (l ++ steps_of at past))
        (place == at) (s ∷ []) [] (λ same. (eqb-true place at same, holds.homes at)) (λ other. holds.homes at);
  }
    where
      given : (key : QKey) (lease : ReadLease) (x : Step) → (x ≡ s) → place ≡ shard_of key shape.shards → Gives key lease x
          → IsLeased key lease.token (event ∷ past) (marks_in key x ++ marks_of key (steps_at shape past key)) (known_of past)
      given key lease (step.Lease on sid floor now token deadline) is same gives =
          let k : key ≡ on = same_key-true key on gives.0 in
          let G : Step → Type 0 = λ y. IsGoodStep past (steps_at shape past (key_of y)) who y in
          let free : standing on (steps_at shape past on) ≡ [] = subst G (sym is) good in
          let none : standing key (steps_at shape past key) ≡ [] = subst (λ q. standing q (steps_at shape past q) ≡ []) (sym k) free in
          let gives_it : leases key lease.token s ≡ true =
          subst (λ y. leases key lease.token y ≡ true) is (and_both gives.0 (eq-eqb token lease.token gives.1)) in
          let moment = moment-of-none key (marks_of key (steps_at shape past key)) (known_of past) None (entry key (steps_at shape past key)) (holds.ruled key)
          (subst (λ l. IsTied (marks_of key (steps_at shape past key)) None l (entry key (steps_at shape past key))) none (holds.tied key)) in
          subst (λ b. IsLeased key lease.token (event ∷ past) (cond b (Leased token ∷ []) [] ++ marks_of key (steps_at shape past key)) (known_of past))
          (sym gives.0) (record {
            then_marks = marks_of key (steps_at shape past key);
            then_known = known_of past;
            leased = ap (λ b. cond b (Some (length (log_of past))) (leased_at key lease.token past)) gives_it;
            moment = moment;
            since = record { more = Leased token ∷ []; goes_on = refl; only = λ by t h. only_leased by t token h };
            more = more-refl (known_of past);
          })
        where
          and_both : {a b : Bool} → a ≡ true → b ≡ true → (a && b) ≡ true
          and_both {a} {b} x y = ap (λ c. c && b) x ∙ y

          only_leased : (by t token : ℕ) → Has (Granted by t) (Leased token ∷ []) → ⊥
          only_leased by t token (inl e) = cc
          only_leased by t token (inr h) = h
      given key lease other is same gives = absurd gives

      leased_after : (key : QKey) (lease : ReadLease) (b : Bool) → (place == shard_of key shape.shards) ≡ b
          → recorded key (cond b (s ∷ []) [] ++ steps_at shape past key) ≡ Some lease
          → IsLeased key lease.token (event ∷ past) (marks_of key (cond b (s ∷ []) [] ++ steps_at shape past key)) (known_of past)
      leased_after key lease true here e = ⊎_elim
          (λ old. same_lease key lease (marks_in key s) (old.gives_none lease.token) old.grants_none (holds.leased key lease old.was))
          (λ new. given key lease s refl (eqb-true place (shard_of key shape.shards) here) new)
          (recorded_cases key lease (steps_at shape past key) s e)
      leased_after key lease false here e =
          same_lease key lease [] (not_leased key lease.token here) (λ by t h. h) (holds.leased key lease e)

      asked_after : (key : QKey) (token number least : ℕ) (b : Bool)
          → leases key token s ≡ b → cond b (Some (length (log_of past))) (leased_at key token past) ≡ Some least
          → (least ≤ length (log_of past)) × AllByRecursion (IsBetween least (length (log_of past))) (cond b [] (answers_under key token number past))
      asked_after key token number least true gives e =
          let is : length (log_of past) ≡ least = cc in (omega (arith, is), tt)
      asked_after key token number least false gives e = holds.asked key token number least e

      now_found : QKey → Found
      now_found key = record { commits = length (log_of past); entry = entry key (steps_of place past) }

      alone_after : (key : QKey) (b : Bool) → (place == shard_of key shape.shards) ≡ b
          → AreAlone key (standing key (cond b (s ∷ []) [] ++ steps_at shape past key)) (event
          ∷ past) (marks_of key (cond b (s ∷ []) [] ++ steps_at shape past key)) (known_of past) (entry key (cond b (s ∷ []) [] ++ steps_at shape past key))
      alone_after key true here =
          let same = eqb-true place (shard_of key shape.shards) here in
          alone_step past (event ∷ past) (steps_at shape past key) who s key (good_at key same)
          (record { ruled = holds.ruled key; tied = holds.tied key; held = holds.held key; apart = holds.apart key; alone = holds.alone key })
          (λ token e. ap (λ b. cond b (Some (now_found key)) (found_at key token past)) e)
          (λ token e. ap (λ b. cond b (Some (now_found key)) (found_at key token past)) e
          ∙ ap (λ (p : ℕ). Some (record { commits = length (log_of past); entry = entry key (steps_of p past) })) same)
      alone_after key false other =
          alone-after key (standing key (steps_at shape past key)) past
          (event ∷ past) (marks_of key (steps_at shape past key)) (known_of past) (entry key (steps_at shape past key))
          (λ token. ap (λ b. cond b (Some (now_found key)) (found_at key token past)) (not_granted key token other)) (holds.alone key)

      grants_after : (key : QKey) (token : ℕ) (found : Found) (b : Bool)
          → grants_as key token s ≡ b → cond b (Some (now_found key)) (found_at key token past) ≡ Some found
          → IsFound (length (log_of past)) found
      grants_after key token found true gives e =
          let home = ap (λ k. shard_of k shape.shards) (grants-on key token s gives) in
          let is : now_found key ≡ found = cc in
          subst (IsFound (length (log_of past))) is (
            omega arith,
            subst (λ (p : ℕ). IsWithin (length (log_of past)) (entry key (steps_of p past))) home
                (held_within key (entry key (steps_at shape past key)) (holds.held key)),
          )
      grants_after key token found false gives e = holds.grants key token found e

-- as much, or more, is known
grow_holds : (shape : Shape) (past : List Event) (known new : Known)
    → IsMore known new → ((key : QKey) → IsRuled key (marks_of key (steps_at shape past key)) new)
    → Holds shape past known → Holds shape past new
grow_holds shape past known new grows ruled holds = record {
  ruled = ruled;
  tied = holds.tied;
  held = λ key. entry_more key (entry key (steps_at shape past key)) (holds.held key);
  leased = λ key lease is.
      lease-more key lease.token past past (marks_of key (steps_at shape past key)) [] known new refl (λ by t h. h) grows (holds.leased key lease is);
  asked = λ key token number least is.
      let was = holds.asked key token number least is in (
        omega (arith, was.0, longer),
        every-weaker (IsBetween least (length known.log))
            (IsBetween least (length new.log)) (answers_under key token number past) (λ a h. (h.0, let le = h.1 in omega (arith, le, longer))) was.1,
      );
  apart = holds.apart;
  alone = λ key. alone-more key (standing key (steps_at shape past key)) past
      (marks_of key (steps_at shape past key)) known new (entry key (steps_at shape past key)) grows (holds.alone key);
  grants = λ key token found is. let was = holds.grants key token found is in (let le = was.0 in omega (arith, le, longer), was.1);
  homes = holds.homes;
}
  where
    longer : length known.log ≤ length new.log
    longer = more-length grows

    entry_more : (key : QKey) (found : Option (List ℕ × ℕ)) → IsEntryHeld key (marks_of key (steps_at shape past key)) known found
        → IsEntryHeld key (marks_of key (steps_at shape past key)) new found
    entry_more key None h = tt
    entry_more key (Some found) h =
        more_is_held key (marks_of key (steps_at shape past key)) known new found.1 grows (holds.ruled key) (ruled key) h

-- two pasts have the same steps, and tell the same of leases, of answers and of what was found
pub record IsSamePast (past after : List Event) : Type 0 where
  pub steps : (place : ℕ) → steps_of place after ≡ steps_of place past
  pub leased : (key : QKey) (token : ℕ) → leased_at key token after ≡ leased_at key token past
  pub under : (key : QKey) (token number : ℕ) → answers_under key token number after ≡ answers_under key token number past
  pub found : (key : QKey) (token : ℕ) → found_at key token after ≡ found_at key token past

same_holds : (shape : Shape) (past after : List Event) (known : Known) → IsSamePast past after → Holds shape past known → Holds shape after known
same_holds shape past after known same holds = record {
  ruled = λ key. subst (λ l. IsRuled key (marks_of key l) known) (at key) (holds.ruled key);
  tied = λ key. subst (λ l. IsTied (marks_of key l) None (standing key l) (entry key l)) (at key) (holds.tied key);
  held = λ key. subst (λ l. IsEntryHeld key (marks_of key l) known (entry key l)) (at key) (holds.held key);
  leased = λ key lease is.
      subst (λ l. IsLeased key lease.token after (marks_of key l) known) (at key)
      (lease-more key lease.token past after (marks_of key (steps_at shape past key)) []
      known known (same.leased key lease.token) (λ by t h. h) (more-refl known)
      (holds.leased key lease (subst (λ l. recorded key l ≡ Some lease) (sym (at key)) is)));
  asked = λ key token number least is.
      subst (λ l. (least ≤ length known.log) × AllByRecursion (IsBetween least (length known.log)) l) (sym (same.under key token number))
      (holds.asked key token number least (sym (same.leased key token) ∙ is));
  apart = λ key. subst (HasNoReader key) (at key) (holds.apart key);
  alone = λ key. subst (λ l. AreAlone key (standing key l) after (marks_of key l) known (entry key l)) (at key)
      (alone-after key (standing key (steps_at shape past key)) past after
      (marks_of key (steps_at shape past key)) known (entry key (steps_at shape past key)) (same.found key) (holds.alone key));
  grants = λ key token found is. holds.grants key token found (sym (same.found key token) ∙ is);
  homes = λ place. subst (AllByRecursion (IsHome shape place)) (sym (same.steps place)) (holds.homes place);
}
  where
    at : (key : QKey) → steps_at shape past key ≡ steps_at shape after key
    at key = sym (same.steps (shard_of key shape.shards))

-- a call that tells no answer
pub same-called : (past : List Event) (who : Sid) (request : Wanted) (reply : Reply) → ((key : QKey) (number : ℕ) → answers_in key number who reply ≡ [])
    → IsSamePast past (Called who request reply ∷ past)
same-called past who request reply none = record {
  steps = λ place. refl;
  leased = λ key token. refl;
  under = λ key token number. ap (λ l. l ++ answers_under key token number past) (none key number);
  found = λ key token. refl;
}

pub same-ticked : (past : List Event) (now : ℕ) → IsSamePast past (Ticked now ∷ past)
same-ticked past now = record { steps = λ place. refl; leased = λ key token. refl; under = λ key token number. refl; found = λ key token. refl }

-- a sweep without a step
pub same-swept : (past : List Event) (shard : ℕ) (request : SweepWanted) (reply : SweepReply) → IsSamePast past (Swept shard request None reply ∷ past)
same-swept past shard request reply = record {
  steps = λ place. choose (λ l. l ++ steps_of place past ≡ steps_of place past) (shard == place) [] [] (λ e. refl) (λ e. refl);
  leased = λ key token. refl;
  under = λ key token number. refl;
  found = λ key token. refl;
}

-- a sweep that drops is as a session's release
pub same-dropped : (past : List Event) (shard : ℕ) (on : QKey) (sid : Sid) (token : ℕ) (request : SweepWanted) (reply : SweepReply)
    → IsSamePast (Stepped shard sid wanted.Nothing (step.Released on sid token ended.Drop) Reply.Nothing
    ∷ past) (Swept shard request (Some (step.Released on sid token ended.Drop)) reply ∷ past)
same-dropped past shard on sid token request reply =
    record { steps = λ place. refl; leased = λ key t. refl; under = λ key t number. refl; found = λ key t. refl }

-- a call that tells no answer, by which more may be known
called_holds : (shape : Shape) (past : List Event) (who : Sid) (request : Wanted) (reply : Reply) (known : Known) → IsMore (known_of past) known
    → ((key : QKey) → IsRuled key (marks_of key (steps_at shape past key)) known) → ((key : QKey) (number : ℕ) → answers_in key number who reply ≡ [])
    → Holds shape past (known_of past) → Holds shape (Called who request reply ∷ past) known
called_holds shape past who request reply known grows ruled none holds =
    same_holds shape past (Called who request reply ∷ past) known
    (same-called past who request reply none) (grow_holds shape past (known_of past) known grows ruled holds)

-- the answer of a reply, if it is to the key
one_between : (least most : ℕ) (answered : Answer) (b : Bool)
    → IsBetween least most answered → AllByRecursion (IsBetween least most) (cond b (answered ∷ []) [])
one_between least most answered true h = (h, tt)
one_between least most answered false h = tt

-- a call that tells an answer
answer_holds : (shape : Shape) (past : List Event) (who : Sid) (request : Wanted) (answered : Answer) (known : Known) → answered.stamp ≡ length known.log
    → Holds shape past known → Holds shape (Called who request (Reply.Answer answered) ∷ past) known
answer_holds shape past who request answered known stamp holds = record {
  ruled = holds.ruled;
  tied = holds.tied;
  held = holds.held;
  leased = λ key lease is.
      lease-more key lease.token past (Called who request (Reply.Answer answered) ∷ past) (marks_of key (steps_at shape past key)) []
      known known refl (λ by t h. h) (more-refl known) (holds.leased key lease is);
  asked = λ key token number least is.
      let was = holds.asked key token number least is in
      let le = was.0 in (
        le,
        every-append (IsBetween least (length known.log)) (answers_in key number who (Reply.Answer answered)) (answers_under key token number past)
            (one_between least (length known.log) answered ((who.number == number) && same_key key answered.key)
            (omega (arith, stamp, le), omega (arith, stamp))) was.1,
      );
  apart = holds.apart;
  alone = λ key. alone-after key (standing key (steps_at shape past key)) past (Called who request (Reply.Answer answered)
      ∷ past) (marks_of key (steps_at shape past key)) known (entry key (steps_at shape past key)) (λ token. refl) (holds.alone key);
  grants = holds.grants;
  homes = holds.homes;
}

-- nothing told of leaves what is known
known_same : (past : List Event) (commits : List Commit) (ends : List ℕ)
    → commits ≡ [] → ends ≡ [] → known_of past ≡ record { log = log_of past ++ commits; ended = ends ++ ended_of past }
known_same past commits ends no_commit no_end =
    ap (λ l. record { log = l; ended = ended_of past }) (sym (append-nil (log_of past)))
    ∙ ap (λ l. record { log = log_of past ++ l; ended = ended_of past }) (sym no_commit)
    ∙ ap (λ l. record { log = log_of past ++ commits; ended = l ++ ended_of past }) (sym no_end)

-- the end of a session that hasn't committed
ended_holds : (shape : Shape) (past after : List Event) (who : ℕ) → (IsLogged (log_of past) who → ⊥) → Holds shape after (known_of past)
    → Holds shape after (record { log = log_of past ++ []; ended = who ∷ ended_of past })
ended_holds shape past after who ongoing holds =
    subst (Holds shape after) (ap (λ l. record { log = l; ended = who ∷ ended_of past }) (sym (append-nil (log_of past))))
    (grow_holds shape after (known_of past) (with_end (known_of past) who)
    (more-end (known_of past) who) (λ key. ends_keep key (marks_of key (steps_at shape after key)) (known_of past) who ongoing (holds.ruled key)) holds)

-- what the sweeper ends
swept_end : (shape : Shape) (past after : List Event) (request : SweepWanted) (reply : SweepReply)
    → IsGoodEnd past request reply → Holds shape after (known_of past)
    → Holds shape after (record { log = log_of past ++ []; ended = ends_swept request reply ++ ended_of past })
swept_end shape past after (sweep.End who) (sweeps.Ended closing) good holds =
    by closing.was good
  where
    by : (b : Bool) → IsGoodClosing b past who.number
        → Holds shape after (record { log = log_of past ++ []; ended = cond b (who.number ∷ []) [] ++ ended_of past })
    by true good = ended_holds shape past after who.number good holds
    by false good = subst (Holds shape after) (known_same past [] [] refl refl) holds
swept_end shape past after request reply good holds = subst (Holds shape after) (known_same past [] [] refl refl) holds

-- what the sweeper drops
swept_step : (shape : Shape) (past : List Event) (shard : ℕ) (request : SweepWanted) (made : Option Step) (reply : SweepReply)
    → IsGoodSweep shape past shard made
    → Holds shape past (known_of past) → Holds shape (Swept shard request made reply ∷ past) (known_of past)
swept_step shape past shard request None reply good holds =
    same_holds shape past (Swept shard request None reply ∷ past) (known_of past) (same-swept past shard request reply) holds
swept_step shape past shard request (Some (step.Released on sid token ended.Drop)) reply good holds =
    let s = step.Released on sid token ended.Drop in
    same_holds shape (Stepped shard sid wanted.Nothing s Reply.Nothing
    ∷ past) (Swept shard request (Some s) reply ∷ past) (known_of past) (same-dropped past shard on sid token request reply)
    (subst (λ (p : ℕ). Holds shape (Stepped p sid wanted.Nothing s Reply.Nothing ∷ past) (known_of past)) (sym good.home)
    (stepped_holds shape past sid wanted.Nothing s Reply.Nothing holds good.over (subst (λ (p : ℕ). EndsItsOwn (steps_of p past) s) good.home good.own)))
swept_step shape past shard request (Some other) reply good holds = absurd good

-- each good event keeps what holds
pub good_holds : (shape : Shape) (past : List Event) (event : Event)
    → IsGoodEvent shape past event → Holds shape past (known_of past) → Holds shape (event ∷ past) (known_of (event ∷ past))
good_holds shape past (Stepped place who request s reply) good holds =
    subst (Holds shape (Stepped place who request s reply ∷ past)) (known_same past (commits_of_reply who reply) (ends_of_reply who reply) good.no_commit good.no_end)
    (subst (λ (p : ℕ). Holds shape (Stepped p who request s reply ∷ past) (known_of past)) (sym good.home)
    (stepped_holds shape past who request s reply holds
    (subst (λ (p : ℕ). IsGoodStep past (steps_of p past) who s) good.home good.good)
    (subst (λ (p : ℕ). EndsItsOwn (steps_of p past) s) good.home good.own)))
good_holds shape past (Called who request (Reply.Committed number txn grants)) good holds =
    let commit : Commit = record { sid = who; txn = txn } in
    called_holds shape past who request (Reply.Committed number txn grants) (with_commit (known_of past) commit) (more-commit (known_of past) commit)
    (λ key. commits_keep key (marks_of key (steps_at shape past key)) (known_of past) commit good.opened (good.granted key) (holds.ruled key))
    (λ key number. refl) holds
good_holds shape past (Called who request (Reply.End true)) good holds =
    let after = Called who request (Reply.End true) ∷ past in
    ended_holds shape past after who.number good
    (same_holds shape past after (known_of past) (same-called past who request (Reply.End true) (λ key number. refl)) holds)
good_holds shape past (Called who request (Reply.Answer answered)) good holds =
    subst (Holds shape (Called who request (Reply.Answer answered) ∷ past))
    (known_same past [] [] refl refl) (answer_holds shape past who request answered (known_of past) good holds)
good_holds shape past (Called who request reply) good holds =
    subst (Holds shape (Called who request reply ∷ past)) (known_same past [] [] refl refl)
    (same_holds shape past (Called who request reply ∷ past) (known_of past) (same-called past who request reply (λ key number. refl)) holds)
good_holds shape past (Ticked now) good holds =
    subst (Holds shape (Ticked now ∷ past)) (known_same past [] [] refl refl)
    (same_holds shape past (Ticked now ∷ past) (known_of past) (same-ticked past now) holds)
good_holds shape past (Swept place request made reply) good holds =
    swept_end shape past (Swept place request made reply ∷ past) request reply good.1 (swept_step shape past place request made reply good.0 holds)

-- at the start nothing is marked or known
pub start_holds : (shape : Shape) → Holds shape [] (known_of [])
start_holds shape = record {
  ruled = λ key. record {
    over = λ who token h. absurd h;
    once = λ i j a b at. cc;
    apart = λ place commit at h. absurd h;
    covered = λ place commit at. cc;
    wrote = λ stamp h. absurd h;
  };
  tied = λ key. record { granted = λ who token h. absurd h; stamped = tt };
  held = λ key. tt;
  leased = λ key lease is. cc;
  asked = λ key token number least is. cc;
  apart = λ key. inl refl;
  alone = λ key. inl tt;
  grants = λ key token found is. absurd (none_some found is);
  homes = λ place. tt;
}
  where
    none_some : (found : Found) → None ≡ Some found → ⊥
    none_some found e = absurd cc
