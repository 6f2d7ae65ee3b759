-- What an event adds to what sessions are told, to the log, and to the steps of each shard.
use Rattle.std.proofs.Common.{ℕ, ◌≡◌, ◌==◌, Bool, true, false, cond, ◌&&◌, ◌||◌, List, [], ◌∷◌, ◌++◌, append-nil, append_assoc, count_by, Option}
use Rattle.std.proofs.Common.{Some, None, refl}
use Rattle.std.proofs.Common.{sym, ap, subst, ◌∙◌, inl, inr, arith}
use Rattle.std.specs.List.{list_any}
use Rattle.std.proofs.lemmas.Bool.{eq-eqb, eqb-true, false≢true}
use Rattle.std.proofs.lemmas.List.Folds.{list_any-append}
use Rattle.rows_model.specs.declared.keys.QKey.{QKey}
use Rattle.rows_model.specs.declared.keys.Sid.{Sid}
use Rattle.rows_model.specs.Key.{same_key}
use Rattle.rows_model.proofs.SameKey.{same_key-true}
use Rattle.rows_model.specs.Placement.{shard_of}
use Rattle.key_shard.specs.Permit.{Permit}
use Rattle.key_shard.specs.declared.steps.Ended.TheVariants as ended
use Rattle.key_shard.specs.declared.steps.Step.{Step}
use Rattle.key_shard.specs.declared.steps.Step.TheVariants as step
use Rattle.key_shard.specs.declared.replies.QAnswer.TheVariants as quarantine
use Rattle.expiry_sweeper.specs.declared.replies.SweepReply.{SweepReply}
use Rattle.expiry_sweeper.specs.declared.replies.SweepWanted.{SweepWanted}
use Rattle.sql_keeper.specs.Commits.{covers, is_covered}
use Rattle.sql_keeper.specs.Fresh.{quarantines}
use Rattle.key_freshness.specs.Known.{IsAmong, IsLogged, IsOver}
use Rattle.session_client.specs.declared.replies.Reply.{Reply}
use Rattle.session_client.specs.declared.replies.Reply.TheVariants as Reply
use Rattle.session_client.specs.declared.replies.Wanted.{Wanted}
use Rattle.session_client.specs.Wants.{grants_in, is_commit, was_committed}
use Rattle.core_history.specs.Events.{Event, Stepped, Called, Ticked, Swept, steps_in, steps_of, heard_from, heard_in, heard_by, commits_of_reply}
use Rattle.core_history.specs.Events.{commits_in, log_of, ends_in, ended_of, known_of, was_ended, has_committed}
use Rattle.core_history.proofs.ListLemmas.{choose, or_inl, or_inr, or_elim, not_both, any-front, any-back, any-at, place_of, count-append}
use Rattle.core_history.proofs.ListLemmas.{count-cons, tick, zero_if}

-- a sweep that makes no step leaves the steps
pub unmade-steps : (home place : ℕ) (request : SweepWanted) (reply : SweepReply) (past : List Event)
    → steps_of home (Swept place request None reply ∷ past) ≡ steps_of home past
unmade-steps home place request reply past = by (place == home)
  where
    by : (b : Bool) → cond b [] [] ++ steps_of home past ≡ steps_of home past
    by true = refl
    by false = refl

-- what a session is told in its own turn comes first, and another session's turn tells it nothing
pub heard-mine : (who : Sid) (reply : Reply) (heard : List Reply) → heard_from who.number who reply ++ heard ≡ reply ∷ heard
heard-mine who reply heard = ap (λ b. cond b (reply ∷ []) [] ++ heard) (eq-eqb who.number who.number refl)

pub heard-other : (n : ℕ) (who : Sid) (reply : Reply) (heard : List Reply) → (who.number == n) ≡ false → heard_from n who reply ++ heard ≡ heard
heard-other n who reply heard e = ap (λ b. cond b (reply ∷ []) [] ++ heard) e

-- what is told a session in an event, by cases: it is none, or a reply in the session's own turn
pub heard-cases : (P : List Reply → Type 0) (n : ℕ) (who : Sid) (reply : Reply) → P [] → ((who.number ≡ n) → P (reply ∷ [])) → P (heard_from n who reply)
heard-cases P n who reply none mine =
    choose P (who.number == n) (reply ∷ []) [] (λ e. mine (eqb-true who.number n e)) (λ e. none)

-- a session has committed where it was told so
commit_is : (n : ℕ) (who : Sid) (reply : Reply) → list_any (λ commit. commit.sid.number == n) (commits_of_reply who reply) ≡ list_any is_commit (heard_from n who reply)
commit_is n who reply = by reply (who.number == n) refl
  where
    both : (reply : Reply) (b : Bool) → is_commit reply ≡ false → false ≡ list_any is_commit (cond b (reply ∷ []) [])
    both reply true e = ap (λ c. c || false) (sym e)
    both reply false e = refl

    by : (reply : Reply) (b : Bool) → (who.number == n) ≡ b
        → list_any (λ commit. commit.sid.number == n) (commits_of_reply who reply) ≡ list_any is_commit (cond b (reply ∷ []) [])
    by (Reply.Committed number txn grants) true e = ap (λ b. b || false) e
    by (Reply.Committed number txn grants) false e = ap (λ b. b || false) e
    by (Reply.Got found) b e = both (Reply.Got found) b refl
    by (Reply.Answer answer) b e = both (Reply.Answer answer) b refl
    by (Reply.Set answer) b e = both (Reply.Set answer) b refl
    by (Reply.Quar answer) b e = both (Reply.Quar answer) b refl
    by (Reply.Staged value txn) b e = both (Reply.Staged value txn) b refl
    by (Reply.NotStaged fault txn) b e = both (Reply.NotStaged fault txn) b refl
    by (Reply.NotCommitted fault txn grants) b e = both (Reply.NotCommitted fault txn grants) b refl
    by (Reply.End was) b e = both (Reply.End was) b refl
    by (Reply.Rel answer) b e = both (Reply.Rel answer) b refl
    by (Reply.SarBack grant) b e = both (Reply.SarBack grant) b refl
    by (Reply.Fault fault) b e = both (Reply.Fault fault) b refl
    by (Reply.Raise reply) b e = both (Reply.Raise reply) b refl
    by (Reply.RaiseBack grant) b e = both (Reply.RaiseBack grant) b refl
    by (Reply.Renew grant reply) b e = both (Reply.Renew grant reply) b refl
    by Reply.Nothing b e = both Reply.Nothing b refl

commit_in : (n : ℕ) (event : Event) → list_any (λ commit. commit.sid.number == n) (commits_in event) ≡ list_any is_commit (heard_in n event)
commit_in n (Stepped place who request s reply) = commit_is n who reply
commit_in n (Called who request reply) = commit_is n who reply
commit_in n (Ticked now) = refl
commit_in n (Swept place request made reply) = refl

pub committed-heard : (n : ℕ) (past : List Event) → has_committed n past ≡ was_committed (heard_by n past)
committed-heard n [] = refl
committed-heard n (event ∷ past) =
    list_any-append (λ commit. commit.sid.number == n) (log_of past) (commits_in event)
    ∙ ap (λ b. b || list_any (λ commit. commit.sid.number == n) (commits_in event)) (committed-heard n past)
    ∙ ap (λ b. was_committed (heard_by n past) || b) (commit_in n event)
    ∙ swap (was_committed (heard_by n past)) (list_any is_commit (heard_in n event))
    ∙ sym (list_any-append is_commit (heard_in n event) (heard_by n past))
  where
    swap : (a b : Bool) → (a || b) ≡ (b || a)
    swap true true = refl
    swap true false = refl
    swap false true = refl
    swap false false = refl

-- a session that has committed or was ended is closed
abbrev pub closed : ℕ → List Event → Bool
closed n past = has_committed n past || was_ended n past

pub closed-more : (n : ℕ) (event : Event) (past : List Event) → closed n past ≡ true → closed n (event ∷ past) ≡ true
closed-more n event past h =
    elim (or_elim (has_committed n past) (was_ended n past) h) [
      | inl committed ↦ or_inl (has_committed n (event ∷ past)) (was_ended n (event ∷ past))
          (any-front (λ commit. commit.sid.number == n) (log_of past) (commits_in event) committed)
      | inr ended ↦ or_inr (has_committed n (event ∷ past)) (was_ended n (event ∷ past)) (any-back (λ other. other == n) (ends_in event) (ended_of past) ended)
    ]

-- a session that isn't closed wasn't before
pub still-open : (n : ℕ) (event : Event) (past : List Event) → closed n (event ∷ past) ≡ false → closed n past ≡ false
still-open n event past still = by (closed n past) refl
  where
    by : (b : Bool) → closed n past ≡ b → b ≡ false
    by true shut = absurd (not_both (closed-more n event past shut) still)
    by false e = refl

-- a closed session is over, by what is known of the store, and one that is over is closed
among_of : (n : ℕ) (numbers : List ℕ) → list_any (λ other. other == n) numbers ≡ true → IsAmong n numbers
among_of n [] h = absurd (false≢true h)
among_of n (other ∷ numbers) h =
    elim (or_elim (other == n) (list_any (λ m. m == n) numbers) h) [
      | inl here ↦ inl (eqb-true other n here)
      | inr there ↦ inr (among_of n numbers there)
    ]

of_among : (n : ℕ) (numbers : List ℕ) → IsAmong n numbers → list_any (λ other. other == n) numbers ≡ true
of_among n [] h = absurd h
of_among n (other ∷ numbers) (inl e) = or_inl (other == n) (list_any (λ m. m == n) numbers) (eq-eqb other n e)
of_among n (other ∷ numbers) (inr h) = or_inr (other == n) (list_any (λ m. m == n) numbers) (of_among n numbers h)

pub ended-among : (n : ℕ) (past : List Event) → closed n past ≡ true → has_committed n past ≡ false → IsAmong n (ended_of past)
ended-among n past h none =
    elim (or_elim (has_committed n past) (was_ended n past) h) [
      | inl committed ↦ absurd (not_both committed none)
      | inr ended ↦ among_of n (ended_of past) ended
    ]

pub logged-committed : (n : ℕ) (past : List Event) → IsLogged (log_of past) n → has_committed n past ≡ true
logged-committed n past h = any-at (λ commit. commit.sid.number == n) (log_of past) h.place h.commit h.at (eq-eqb h.commit.sid.number n h.own)

pub closed-over : (n : ℕ) (past : List Event) → closed n past ≡ true → IsOver (known_of past) n
closed-over n past h =
    elim (or_elim (has_committed n past) (was_ended n past) h) [
      | inl committed ↦
          let found = place_of (λ commit. commit.sid.number == n) (log_of past) committed in
          inl (record { place = found.0; commit = found.1; at = found.2; own = eqb-true found.1.sid.number n found.3 })
      | inr ended ↦ inr (among_of n (ended_of past) ended)
    ]

pub over-closed : (n : ℕ) (past : List Event) → IsOver (known_of past) n → closed n past ≡ true
over-closed n past (inl logged) = or_inl (has_committed n past) (was_ended n past) (logged-committed n past logged)
over-closed n past (inr among) = or_inr (has_committed n past) (was_ended n past) (of_among n (ended_of past) among)

-- a closed session isn't told of a commit
abbrev pub IsLate : Event → List Event → Type 0
IsLate event past = (n : ℕ) → closed n past ≡ true → was_committed (heard_in n event) ≡ false

heard-mild : (n : ℕ) (who : Sid) (reply : Reply) → is_commit reply ≡ false → was_committed (heard_from n who reply) ≡ false
heard-mild n who reply mild = heard-cases (λ l. was_committed l ≡ false) n who reply refl (λ _. ap (λ b. b || false) mild)

pub late-stepped : (place : ℕ) (who : Sid) (request : Wanted) (s : Step) (reply : Reply) (past : List Event)
    → is_commit reply ≡ false → IsLate (Stepped place who request s reply) past
late-stepped place who request s reply past mild n h = heard-mild n who reply mild

pub late-called : (who : Sid) (request : Wanted) (reply : Reply) (past : List Event) → is_commit reply ≡ false → IsLate (Called who request reply) past
late-called who request reply past mild n h = heard-mild n who reply mild

pub late-ticked : (now : ℕ) (past : List Event) → IsLate (Ticked now) past
late-ticked now past n h = refl

pub late-swept : (place : ℕ) (request : SweepWanted) (made : Option Step) (reply : SweepReply) (past : List Event) → IsLate (Swept place request made reply) past
late-swept place request made reply past n h = refl

-- all grants that a session was ever given, in their order, also those that a raise spent
abbrev pub ever : List Reply → List Permit
ever [] = []
ever (reply ∷ heard) = ever heard ++ grants_in reply

pub ever-append : (new heard : List Reply) → ever (new ++ heard) ≡ ever heard ++ ever new
ever-append [] heard = sym (append-nil (ever heard))
ever-append (reply ∷ new) heard =
    ap (λ l. l ++ grants_in reply) (ever-append new heard) ∙ append_assoc (ever heard) (ever new) (grants_in reply)

-- each grant among the steps is one that its session was told of, and each session whose quarantine ended is closed, without a commit where the value was kept
abbrev pub IsKnown : List Event → Step → Type 0
IsKnown past (step.Granted key sid mode shift now token deadline) = is_covered sid (ever (heard_by sid.number past)) key ≡ true
IsKnown past (step.Released key sid token how) =
    (closed sid.number past ≡ true) × (how ≡ ended.Keep → has_committed sid.number past ≡ false)
IsKnown past other = Unit {0}

pub uncommitted-more : (n : ℕ) (event : Event) (past : List Event)
    → was_committed (heard_in n event) ≡ false → has_committed n past ≡ false → has_committed n (event ∷ past) ≡ false
uncommitted-more n event past new old =
    committed-heard n (event ∷ past) ∙ list_any-append is_commit (heard_in n event) (heard_by n past)
    ∙ ap (λ b. b || was_committed (heard_by n past)) new ∙ sym (committed-heard n past) ∙ old

pub known-more : (event : Event) (past : List Event) → IsLate event past → (s : Step) → IsKnown past s → IsKnown (event ∷ past) s
known-more event past late (step.Granted key sid mode shift now token deadline) h =
    subst (λ g. is_covered sid g key ≡ true) (sym (ever-append (heard_in sid.number event) (heard_by sid.number past)))
    (any-front (covers sid key) (ever (heard_by sid.number past)) (ever (heard_in sid.number event)) h)
known-more event past late (step.Released key sid token how) h =
    (closed-more sid.number event past h.0, λ kept. uncommitted-more sid.number event past (late sid.number h.0) (h.1 kept))
known-more event past late (step.Hit key sid floor value stamp) h = tt
known-more event past late (step.Lease key sid floor now token deadline) h = tt
known-more event past late (step.Again key sid floor now stands) h = tt
known-more event past late (step.Own key sid) h = tt
known-more event past late (step.Stored key token now value stamp evicted) h = tt
known-more event past late (step.Void key token now) h = tt
known-more event past late (step.Held key sid mode) h = tt
known-more event past late (step.Refused key sid mode holder held) h = tt
known-more event past late (step.Gone key sid token) h = tt
known-more event past late (step.Raised key sid token) h = tt
known-more event past late (step.Shared key sid token holder) h = tt
known-more event past late (step.Renewed key sid token now deadline) h = tt

-- an event adds as many grants to the steps as to what is told
abbrev pub IsCounted : ℕ → Event → Type 0
IsCounted shards event =
    (key : QKey) (who : Sid) → count_by (quarantines key who) (steps_in (shard_of key shards) event)
    ≡ count_by (covers who key) (ever (heard_in who.number event))

pub counts-more : (shards : ℕ) (event : Event) (past : List Event) → IsCounted shards event → (key : QKey) (who : Sid)
    → count_by (quarantines key who) (steps_of (shard_of key shards) past) ≡ count_by (covers who key) (ever (heard_by who.number past))
    → count_by (quarantines key who) (steps_of (shard_of key shards) (event ∷ past)) ≡ count_by (covers who key) (ever (heard_by who.number (event ∷ past)))
counts-more shards event past counted key who h =
    let a = count-append (quarantines key who) (steps_in (shard_of key shards) event) (steps_of (shard_of key shards) past) in
    let b = ap (count_by (covers who key)) (ever-append (heard_in who.number event) (heard_by who.number past)) in
    let c = count-append (covers who key) (ever (heard_by who.number past)) (ever (heard_in who.number event)) in
    let d = counted key who in
    omega (arith, a, b, c, d, h)

-- none, where nothing is granted
no_grants : (n : ℕ) (who : Sid) (reply : Reply) → grants_in reply ≡ [] → ever (heard_from n who reply) ≡ []
no_grants n who reply e = heard-cases (λ l. ever l ≡ []) n who reply refl (λ _. e)

no_step : (b : Bool) (p : Step → Bool) (s : Step) → p s ≡ false → count_by p (cond b (s ∷ []) []) ≡ 0
no_step true p s e = let a = count-cons p s [] in let b = zero_if (p s) e in omega (arith, a, b)
no_step false p s e = refl

pub counted-mild : (shards place : ℕ) (who : Sid) (request : Wanted) (s : Step) (reply : Reply)
    → ((key : QKey) (by : Sid) → quarantines key by s ≡ false) → grants_in reply ≡ []
    → IsCounted shards (Stepped place who request s reply)
counted-mild shards place who request s reply none mild key by =
    no_step (place == shard_of key shards) (quarantines key by) s (none key by) ∙ sym (ap (count_by (covers by key)) (no_grants by.number who reply mild))

pub counted-called : (shards : ℕ) (who : Sid) (request : Wanted) (reply : Reply) → grants_in reply ≡ [] → IsCounted shards (Called who request reply)
counted-called shards who request reply mild key by = sym (ap (count_by (covers by key)) (no_grants by.number who reply mild))

pub counted-ticked : (shards now : ℕ) → IsCounted shards (Ticked now)
counted-ticked shards now key by = refl

pub counted-unmade : (shards place : ℕ) (request : SweepWanted) (reply : SweepReply) → IsCounted shards (Swept place request None reply)
counted-unmade shards place request reply key by =
    choose (λ l. count_by (quarantines key by) l ≡ 0) (place == shard_of key shards) [] [] (λ _. refl) (λ _. refl)

pub counted-swept : (shards place : ℕ) (request : SweepWanted) (s : Step) (reply : SweepReply)
    → ((key : QKey) (by : Sid) → quarantines key by s ≡ false) → IsCounted shards (Swept place request (Some s) reply)
counted-swept shards place request s reply none key by =
    no_step (place == shard_of key shards) (quarantines key by) s (none key by)

-- the grant of a quarantine
count_one : {X : Type 0} (p : X → Bool) (b : Bool) (x : X) → count_by p (cond b (x ∷ []) []) ≡ tick (b && p x)
count_one p true x = let a = count-cons p x [] in omega (arith, a)
count_one p false x = refl

granted_one : (b : Bool) (grant : Permit) (old : _) → ever (cond b (Reply.Quar (quarantine.Granted grant old) ∷ []) []) ≡ cond b (grant ∷ []) []
granted_one true grant old = refl
granted_one false grant old = refl

same_ticks : (home same mine : Bool) → (same ≡ true → home ≡ true) → tick (home && (same && mine)) ≡ tick (mine && (same && mine))
same_ticks true true true h = refl
same_ticks true true false h = refl
same_ticks true false true h = refl
same_ticks true false false h = refl
same_ticks false true mine h = absurd (not_both (h refl) refl)
same_ticks false false true h = refl
same_ticks false false false h = refl

pub counted-granted : (shards : ℕ) (key : QKey) (who : Sid) (request : Wanted) (mode : _) (shift : _) (now token deadline place : ℕ) (old : _)
    → IsCounted shards (Stepped (shard_of key shards) who request (step.Granted key who mode shift now token deadline)
    (Reply.Quar (quarantine.Granted (record { shard = place; key = key; sid = who; mode = mode; token = token }) old)))
counted-granted shards key who request mode shift now token deadline place old on by =
    let s = step.Granted key who mode shift now token deadline in
    let grant : Permit = record { shard = place; key = key; sid = who; mode = mode; token = token } in
    count_one (quarantines on by) (shard_of key shards == shard_of on shards) s
    ∙ same_ticks (shard_of key shards == shard_of on shards) (same_key on key)
    (who.number == by.number) (λ same. eq-eqb _ _ (ap (λ k. shard_of k shards) (sym (same_key-true on key same))))
    ∙ sym (count_one (covers by on) (who.number == by.number) grant)
    ∙ sym (ap (count_by (covers by on)) (granted_one (who.number == by.number) grant old))
