-- A session that quits gives up, and leaves each entry.
use Rattle.std.proofs.Common.{◌≡◌, ℕ, Bool, true, false, List, [], ◌∷◌, length, Option, Some, None, slice_get, refl, sym, ap, subst, ◌∙◌}
use Rattle.std.specs.Prelude.{ℤ, if◌then◌else◌, count_by, Result, Ok, Err, IsTrue, OnOk, OnErr, IfOk}
use Rattle.std.specs.Bool.{IsFalse}
use Rattle.std.proofs.lemmas.Bool.{lt-ltb}
use Rattle.std.proofs.lemmas.List.{reverse-append}
use Rattle.std.proofs.lemmas.Option.{slice_get_within}
use Rattle.rows_model.specs.declared.keys.QKey.{QKey}
use Rattle.rows_model.specs.declared.keys.Sid.{Sid}
use Rattle.rows_model.specs.declared.changes.Change.{Change}
use Rattle.rows_model.specs.Changes.{footprint}
use Rattle.rows_model.specs.Key.{same_key}
use Rattle.rows_model.proofs.SameKey.{same_key-true}
use Rattle.lease_table.specs.declared.records.Mode.{Mode}
use Rattle.lease_table.specs.declared.records.Mode.TheVariants as mode
use Rattle.key_shard.specs.declared.replies.QAnswer.{QAnswer}
use Rattle.key_shard.specs.declared.replies.QAnswer.TheVariants as quarantine
use Rattle.key_shard.specs.declared.replies.Rel.{Rel}
use Rattle.key_shard.specs.declared.replies.Rel.TheVariants as rel
use Rattle.key_shard.specs.declared.steps.Step.{Step}
use Rattle.key_shard.specs.declared.steps.Step.TheVariants as step
use Rattle.key_shard.specs.Permit.{Permit}
use Rattle.key_shard.specs.Past.{Terms, entry}
use Rattle.key_shard.specs.Answers.{quarantine_step}
use Rattle.key_shard.specs.Replies.{ShowsQuarantine}
use Rattle.key_shard.specs.Shards.{ShardView, past_of, is_out, stepped}
use Rattle.write_ops.specs.Releases.{LeavesValue}
use Rattle.session_client.specs.declared.plans.Plan.{Plan}
use Rattle.session_client.specs.declared.plans.Plan.TheVariants.{Quit}
use Rattle.session_client.specs.declared.replies.Fault.{Fault}
use Rattle.session_client.specs.declared.replies.Reply.{Reply}
use Rattle.session_client.specs.declared.replies.Reply.TheVariants as Reply
use Rattle.session_client.specs.declared.replies.Wanted.{Wanted}
use Rattle.session_client.specs.declared.replies.Wanted.TheVariants as wanted
use Rattle.session_client.specs.declared.sessions.Session.{Session}
use Rattle.session_client.specs.Belongs.{Belongs, IsQuarantineOf}
use Rattle.session_client.proofs.QuarantineLemmas.{quarantine_belongs}
use Rattle.session_client.specs.Follows.{plan_of, sid_of, IsReady, Follows, IsRefreshing}
use Rattle.session_client.specs.Plans.{mode_on}
use Rattle.session_client.specs.Wants.{granted, turned, raise_or_commit, renew_or_commit}
use Rattle.session_client.specs.Wants.{Given, Release, Keeps, Drops, Finishes, is_had, given, released, number_of, has_all, quarantine_as}
use Rattle.session_client.specs.Wants.{quarantine_or_then, after_fault, finish, release_after, release_of, release_by, writing_of, wants}
use Rattle.callers.specs.Quits.{IsQuit, IsGivingUp, AreReplies, IsUnderWay, IsQuarantineReply, HasSameEntries}

-- ---- what a session that quits wants

-- The request is a quarantine.
IsAsking : Wanted → Type 0
IsAsking (wanted.QaReg key) = Unit {0}
IsAsking (wanted.QaRead key) = Unit {0}
IsAsking (wanted.Delta key by) = Unit {0}
IsAsking other = ⊥

-- The replies to a request of one that gives up.
MayCome : Reply → Type 0
MayCome (Reply.Quar answer) = Unit {0}
MayCome (Reply.End was) = Unit {0}
MayCome (Reply.Rel answer) = Unit {0}
MayCome (Reply.Fault fault) = Unit {0}
MayCome Reply.Nothing = Unit {0}
MayCome other = ⊥

may-come : (who : Sid) (request : Wanted) (reply : Reply) → IsGivingUp request → Belongs who request reply → MayCome reply
unfolding MayCome
may-come who (wanted.QaReg key) (Reply.Quar answer) up b = tt
may-come who (wanted.QaReg key) (Reply.Fault fault) up b = tt
may-come who (wanted.QaReg key) other up b = absurd b
may-come who (wanted.QaRead key) (Reply.Quar answer) up b = tt
may-come who (wanted.QaRead key) (Reply.Fault fault) up b = tt
may-come who (wanted.QaRead key) other up b = absurd b
may-come who (wanted.Delta key by) (Reply.Quar answer) up b = tt
may-come who (wanted.Delta key by) (Reply.Fault fault) up b = tt
may-come who (wanted.Delta key by) other up b = absurd b
may-come who wanted.End (Reply.End was) up b = tt
may-come who wanted.End other up b = absurd b
may-come who (wanted.Abort grant) (Reply.Rel answer) up b = tt
may-come who (wanted.Abort grant) other up b = absurd b
may-come who wanted.Nothing Reply.Nothing up b = tt
may-come who wanted.Nothing other up b = absurd b
may-come who request reply up b = absurd up

-- a fault belongs to a quarantine
faulted : (who : Sid) (request : Wanted) (fault : Fault) → IsGivingUp request → Belongs who request (Reply.Fault fault) → IsAsking request
unfolding IsAsking
faulted who (wanted.QaReg key) fault up b = tt
faulted who (wanted.QaRead key) fault up b = tt
faulted who (wanted.Delta key by) fault up b = tt
faulted who wanted.End fault up b = absurd b
faulted who (wanted.Abort grant) fault up b = absurd b
faulted who wanted.Nothing fault up b = absurd b
faulted who request fault up b = absurd up

up-quarantine : (m : Mode) (key : QKey) (txn : List Change) → IsGivingUp (quarantine_as m key txn)
up-quarantine mode.Invalidate key txn = tt
up-quarantine mode.Refresh key txn = tt
up-quarantine mode.Delta key txn = tt

up-next : (m : Mode) (txn : List Change) (heard : List Reply) (o : Option QKey) → IsGivingUp (quarantine_or_then (writing_of (Quit m txn)) heard o)
up-next m txn heard None = tt
up-next m txn heard (Some key) = up-quarantine (mode_on m key) key txn

up-release : (m : Mode) (txn : List Change) (heard : List Reply) (o : Option ℕ) (one : Option Given)
    → o ≡ None → IsGivingUp (release_of txn (release_after false o) one)
up-release m txn heard (Some number) one none = absurd cc
up-release m txn heard None None none = tt
up-release m txn heard None (Some one) none = tt

-- where a key is to be quarantined, not all are
asked-next : (m : Mode) (txn : List Change) (heard : List Reply) (o : Option QKey) → slice_get (footprint txn) (count_by is_had heard) ≡ o
    → IsAsking (quarantine_or_then (writing_of (Quit m txn)) heard o) → has_all (writing_of (Quit m txn)) heard ≡ false
unfolding IsAsking
asked-next m txn heard None is ask = absurd ask
asked-next m txn heard (Some key) is ask =
    ap (λ (b : Bool). if b then false else true)
    (lt-ltb (count_by is_had heard) (length (footprint txn)) (slice_get_within (footprint txn) (count_by is_had heard) key is))

no-finish : (m : Mode) (txn : List Change) (number : ℕ) (one : Given) → IsAsking (finish m txn number one) → ⊥
unfolding IsAsking
no-finish mode.Invalidate txn number one ask = ask
no-finish mode.Refresh txn number one ask = ask
no-finish mode.Delta txn number one ask = ask

no-release : (txn : List Change) (how : Release) (one : Option Given) → IsAsking (release_of txn how one) → ⊥
unfolding IsAsking
no-release txn how None ask = ask
no-release txn Keeps (Some one) ask = ask
no-release txn Drops (Some one) ask = ask
no-release txn (Finishes number) (Some one) ask = no-finish one.permit.mode txn number one ask

no-fault : (b : Bool) (m : Mode) (txn : List Change) (heard : List Reply) → IsAsking (after_fault b (writing_of (Quit m txn)) heard) → ⊥
unfolding IsAsking
no-fault true m txn heard ask = ask
no-fault false m txn heard ask = ask

no-raise : (m : Mode) (txn : List Change) (heard : List Reply) (o : Option Permit) → IsAsking (raise_or_commit (writing_of (Quit m txn)) heard o) → ⊥
unfolding IsAsking
no-raise m txn heard (Some grant) ask = ask
no-raise m txn heard None ask = ask

no-renewal : (m : Mode) (txn : List Change) (heard : List Reply) (o : Option Permit) → IsAsking (renew_or_commit (writing_of (Quit m txn)) heard o) → ⊥
unfolding IsAsking
no-renewal m txn heard (Some grant) ask = ask
no-renewal m txn heard None ask = ask

-- a quarantine is wanted while not all keys are quarantined
asking : (m : Mode) (txn : List Change) (heard : List Reply) → IsAsking (wants (Quit m txn) false heard) → has_all (writing_of (Quit m txn)) heard ≡ false
unfolding IsAsking
asking m txn [] ask = asked-next m txn [] (slice_get (footprint txn) (count_by is_had [])) refl ask
asking m txn (Reply.Quar (quarantine.Granted grant old) ∷ heard) ask =
    let all = Reply.Quar (quarantine.Granted grant old) ∷ heard in
    asked-next m txn all (slice_get (footprint txn) (count_by is_had all)) refl ask
asking m txn (Reply.Quar quarantine.Held ∷ heard) ask =
    let all = Reply.Quar quarantine.Held ∷ heard in
    asked-next m txn all (slice_get (footprint txn) (count_by is_had all)) refl ask
asking m txn (Reply.Quar (quarantine.Refused holder held) ∷ heard) ask = absurd ask
asking m txn (Reply.Fault fault ∷ heard) ask = absurd (no-fault (has_all (writing_of (Quit m txn)) heard) m txn heard ask)
asking m txn (Reply.Got found ∷ heard) ask = absurd ask
asking m txn (Reply.Staged value changes ∷ heard) ask = absurd ask
asking m txn (Reply.NotStaged fault changes ∷ heard) ask = absurd ask
asking m txn (Reply.NotCommitted fault changes grants ∷ heard) ask = absurd ask
asking m txn (Reply.Raise answer ∷ heard) ask =
    let all = Reply.Raise answer ∷ heard in
    absurd (no-raise m txn all (slice_get (granted all) (turned all)) ask)
asking m txn (Reply.RaiseBack grant ∷ heard) ask =
    let all = Reply.RaiseBack grant ∷ heard in
    absurd (no-raise m txn all (slice_get (granted all) (turned all)) ask)
asking m txn (Reply.Renew grant answer ∷ heard) ask =
    let all = Reply.Renew grant answer ∷ heard in
    absurd (no-renewal m txn all (slice_get (granted all) (turned all)) ask)
asking m txn (Reply.Committed number changes grants ∷ heard) ask =
    absurd (no-release txn (release_by false (Reply.Committed number changes grants ∷ heard))
    (slice_get (given (Reply.Committed number changes grants ∷ heard)) (released (Reply.Committed number changes grants ∷ heard))) ask)
asking m txn (Reply.End was ∷ heard) ask =
    absurd (no-release txn (release_by false (Reply.End was ∷ heard)) (slice_get (given (Reply.End was ∷ heard)) (released (Reply.End was ∷ heard))) ask)
asking m txn (Reply.Rel answer ∷ heard) ask =
    absurd (no-release txn (release_by false (Reply.Rel answer ∷ heard)) (slice_get (given (Reply.Rel answer ∷ heard)) (released (Reply.Rel answer ∷ heard))) ask)
asking m txn (Reply.SarBack grant ∷ heard) ask =
    absurd (no-release txn (release_by false (Reply.SarBack grant ∷ heard))
    (slice_get (given (Reply.SarBack grant ∷ heard)) (released (Reply.SarBack grant ∷ heard))) ask)
asking m txn (Reply.Answer answer ∷ heard) ask = absurd ask
asking m txn (Reply.Set answer ∷ heard) ask = absurd ask
asking m txn (Reply.Nothing ∷ heard) ask = absurd ask

-- after replies that may come it gives up, and was told of no commit
record Up (m : Mode) (txn : List Change) (heard : List Reply) : Type 0 where
  up : IsGivingUp (wants (Quit m txn) false heard)
  none : number_of heard ≡ None

after : (who : Sid) (m : Mode) (txn : List Change) (reply : Reply) (heard : List Reply)
    → MayCome reply → Belongs who (wants (Quit m txn) false heard) reply → Up m txn heard → Up m txn (reply ∷ heard)
unfolding MayCome
after who m txn (Reply.Quar (quarantine.Granted grant old)) heard may b h =
    let all = Reply.Quar (quarantine.Granted grant old) ∷ heard in
    record { up = up-next m txn all (slice_get (footprint txn) (count_by is_had all)); none = h.none }
after who m txn (Reply.Quar quarantine.Held) heard may b h =
    let all = Reply.Quar quarantine.Held ∷ heard in
    record { up = up-next m txn all (slice_get (footprint txn) (count_by is_had all)); none = h.none }
after who m txn (Reply.Quar (quarantine.Refused holder held)) heard may b h = record { up = tt; none = h.none }
after who m txn (Reply.End was) heard may b h =
    let all = Reply.End was ∷ heard in
    record { up = up-release m txn heard (number_of heard) (slice_get (given all) (released all)) h.none; none = h.none }
after who m txn (Reply.Rel answer) heard may b h =
    let all = Reply.Rel answer ∷ heard in
    record { up = up-release m txn heard (number_of heard) (slice_get (given all) (released all)) h.none; none = h.none }
after who m txn (Reply.Fault fault) heard may b h =
    let some = asking m txn heard (faulted who (wants (Quit m txn) false heard) fault h.up b) in
    record { up = subst (λ (all : Bool). IsGivingUp (after_fault all (writing_of (Quit m txn)) heard)) (sym some) tt; none = h.none }
after who m txn Reply.Nothing heard may b h = record { up = tt; none = h.none }
after who m txn other heard may b h = absurd may

up-after : (who : Sid) (m : Mode) (txn : List Change) (heard : List Reply) → AreReplies who (Quit m txn) heard → Up m txn heard
up-after who m txn [] h = record { up = up-next m txn [] (slice_get (footprint txn) (count_by is_had [])); none = refl }
up-after who m txn (reply ∷ heard) h =
    let before = up-after who m txn heard h.1 in
    after who m txn reply heard (may-come who (wants (Quit m txn) false heard) reply before.up h.0) h.0 before

-- a session that quits gives up, after whatever replies to what it wanted
gives-up : (who : Sid) (plan : Plan) (heard : List Reply) → IsQuit plan → AreReplies who plan heard → IsGivingUp (wants plan false heard)
gives-up who (Quit m txn) heard quit h = (up-after who m txn heard h).up
gives-up who other heard quit h = absurd quit

-- so does one that is under way
pub wants-up : (session : Session) (request : Wanted) → IsQuit (plan_of session)
    → (way : IsUnderWay session) → request ≡ wants (plan_of session) false way.heard → IsGivingUp request
wants-up session request quit way is =
    subst IsGivingUp (sym is) (gives-up (sid_of session) (plan_of session) way.heard quit way.replies)

-- such a session goes on under way
pub goes-on : (old wanting new : Session) (request : Wanted) (reply : Reply)
    → (way : IsUnderWay old) → plan_of wanting ≡ plan_of old → sid_of wanting ≡ sid_of old
    → request ≡ wants (plan_of old) false way.heard → Follows wanting false way.heard
    → plan_of new ≡ plan_of wanting → sid_of new ≡ sid_of wanting → IsReady new
    → (Follows wanting false way.heard → Follows new false (reply ∷ way.heard)) → Belongs (sid_of old) request reply → IsUnderWay new
goes-on old wanting new request reply way plan sid is follows plan' sid' ready on b =
    let plans : plan_of old ≡ plan_of new = sym (plan' ∙ plan) in
    let sids : sid_of old ≡ sid_of new = sym (sid' ∙ sid) in
    let R : Plan → Type 0 = λ p. AreReplies (sid_of new) p (reply ∷ way.heard) in
    let S : Sid → Type 0 = λ s. AreReplies s (plan_of old) (reply ∷ way.heard) in
    record {
      ready = ready;
      heard = reply ∷ way.heard;
      replies = subst R plans (subst S sids (subst (λ (w : Wanted). Belongs (sid_of old) w reply) is b, way.replies));
      follows = on follows;
    }

-- no reply to such a request tells of a commit
may-refresh : (reply : Reply) → MayCome reply → IsRefreshing reply → ⊥
unfolding MayCome
may-refresh (Reply.Committed number txn grants) may h = may
may-refresh other may h = h

pub not-refreshing : (who : Sid) (request : Wanted) (reply : Reply) → IsGivingUp request → Belongs who request reply → IsRefreshing reply → ⊥
not-refreshing who request reply up b h = may-refresh reply (may-come who request reply up b) h

-- ---- the reply to a quarantine

-- an answer that shows the step of a quarantine answers it
pub shown-answer : {E : Type 0} (terms : Terms) (past : List Step) (key : QKey) (who : Sid) (m : Mode) (shift : ℤ) (now : ℕ) (result : Result QAnswer E)
    → IfOk result (ShowsQuarantine terms past (quarantine_step terms past key who m shift now)) → IfOk result (IsQuarantineOf who key m)
shown-answer terms past key who m shift now (Err fault) shows = tt
shown-answer terms past key who m shift now (Ok answer) shows =
    quarantine_belongs terms past key who m shift now answer shows

-- a reply to a quarantine belongs to the request for it
pub belongs-reg : (who : Sid) (key : QKey) (reply : Reply) → IsQuarantineReply who key mode.Invalidate reply → Belongs who (wanted.QaReg key) reply
belongs-reg who key (Reply.Quar answer) h = h
belongs-reg who key (Reply.Fault fault) h = h
belongs-reg who key other h = absurd h

pub belongs-read : (who : Sid) (key : QKey) (reply : Reply) → IsQuarantineReply who key mode.Refresh reply → Belongs who (wanted.QaRead key) reply
belongs-read who key (Reply.Quar answer) h = h
belongs-read who key (Reply.Fault fault) h = h
belongs-read who key other h = absurd h

pub belongs-delta : (who : Sid) (key : QKey) (by : ℤ) (reply : Reply) → IsQuarantineReply who key mode.Delta reply → Belongs who (wanted.Delta key by) reply
belongs-delta who key by (Reply.Quar answer) h = h
belongs-delta who key by (Reply.Fault fault) h = h
belongs-delta who key by other h = absurd h

-- ---- what such a request leaves of a shard

-- one that is as before has the same entries
pub same-shard : (old new : ShardView) → new ≡ old → HasSameEntries (past_of old) (past_of new)
same-shard old new same key = ap (λ (shard : ShardView). entry key (past_of shard)) same

-- the answer to a quarantine shows a step that leaves each entry
asked-step : (old : ShardView) (s : Step) (answer : QAnswer) → ShowsQuarantine old.terms (past_of old) s answer
    → (key : QKey) → entry key (s ∷ past_of old) ≡ entry key (past_of old)
asked-step old (step.Granted on sid mode shift now token deadline) answer shows key = refl
asked-step old (step.Held on sid mode) answer shows key = refl
asked-step old (step.Refused on sid mode holder held) answer shows key = refl
asked-step old other answer shows key = absurd shows

pub asked-same : {E : Type 0} (result : Result QAnswer E) (old new : ShardView) (s : Step) → OnOk result (new ≡ stepped old s)
    → IfOk result (ShowsQuarantine old.terms (past_of old) s) → OnErr result (new ≡ old) → HasSameEntries (past_of old) (past_of new)
asked-same (Err fault) old new s made shows same = same-shard old new same
asked-same (Ok answer) old new s made shows same = λ key.
    ap (λ (shard : ShardView). entry key (past_of shard)) made
    ∙ ap (entry key) (reverse-append old.history (s ∷ []))
    ∙ asked-step old s answer shows key

-- a release that leaves the value leaves each entry
left-same : (grant : Permit) (old new : List Step) (answer : Rel) → LeavesValue grant old new answer → HasSameEntries old new
left-same grant old new rel.Gone h key = (h.everywhere key).same_entry
left-same grant old new (rel.Released evicted) h key = by (same_key key grant.key) refl
  where
    by : (b : Bool) → same_key key grant.key ≡ b → entry key new ≡ entry key old
    by true is = subst (λ (k : QKey). entry k new ≡ entry k old) (sym (same_key-true key grant.key is)) h.1.has_entry
    by false is = (h.1.elsewhere key is).same_entry

pub kept-same : (old new : ShardView) (grant : Permit) (answer : Rel) → (IsTrue (is_out old grant) → LeavesValue grant (past_of old) (past_of new) answer)
    → (IsFalse (is_out old grant) → (new ≡ old) × (answer ≡ rel.Gone)) → HasSameEntries (past_of old) (past_of new)
kept-same old new grant answer leaves unknown = by (is_out old grant) refl
  where
    by : (b : Bool) → is_out old grant ≡ b → HasSameEntries (past_of old) (past_of new)
    by true is = left-same grant (past_of old) (past_of new) answer (leaves is)
    by false is = same-shard old new (unknown is).0
