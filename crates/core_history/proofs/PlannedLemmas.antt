-- Each quarantine and each commit is one of a plan that writes.
use Rattle.std.proofs.Common.{ℕ, ◌≡◌, ◌-◌, Bool, true, false, cond, List, [], ◌∷◌, ◌++◌, Some, slice_get, append-nil, refl, sym, ap, subst, ◌∙◌, inl, inr}
use Rattle.std.specs.List.{AllByRecursion}
use Rattle.rows_model.specs.declared.keys.QKey.{QKey}
use Rattle.rows_model.specs.declared.keys.Sid.{Sid}
use Rattle.lease_table.specs.declared.records.Mode.TheVariants.{Delta}
use Rattle.lease_table.specs.declared.records.Quar.{Quar}
use Rattle.lease_table.specs.Leases.{has_token, raised, renewed}
use Rattle.key_shard.proofs.RaiseLemmas.{lifted, prolonged, raised-same, renewed-same}
use Rattle.key_shard.specs.declared.steps.Step.{Step}
use Rattle.key_shard.specs.declared.steps.Step.TheVariants as step
use Rattle.key_shard.specs.Past.{standing, quar_of}
use Rattle.sql_keeper.specs.declared.stores.Commit.{Commit}
use Rattle.session_client.specs.declared.plans.Plan.{Plan}
use Rattle.session_client.specs.declared.replies.Reply.{Reply}
use Rattle.session_client.specs.declared.replies.Reply.TheVariants as Reply
use Rattle.session_client.specs.Plans.{writes, changes_of, shift_in}
use Rattle.session_client.specs.Wants.{is_commit}
use Rattle.core_history.specs.Events.{Event, Stepped, Called, Ticked, Swept, commits_of_reply, log_of}
use Rattle.core_history.specs.Machine.{plan_at}
use Rattle.core_history.proofs.ListLemmas.{every-weaker, push-place, slice-front}
use Rattle.core_history.proofs.KeyLemmas.{IsQuietStep, GrantsSo, standing-every, quar-every}

-- a quarantine of a key is one that the plan of its session has: the session writes. The shift of a delta is that of its changes
pub record IsPlanned (plans : List Plan) (key : QKey) (quar : Quar) : Type 0 where
  pub plan : Plan
  pub at : plan_at quar.sid.number plans ≡ Some plan
  pub may : writes plan ≡ true
  pub by : quar.mode ≡ Delta → quar.shift ≡ shift_in Delta key (changes_of plan)

-- one that is raised or renewed stays so
raised-planned : (plans : List Plan) (key : QKey) (token : ℕ) (quar : Quar) → IsPlanned plans key quar → IsPlanned plans key (raised token quar)
raised-planned plans key token quar h = record {
  plan = h.plan;
  at = subst (λ (w : Sid). plan_at w.number plans ≡ Some h.plan) (sym (raised-same (λ q. q.sid) token quar refl)) h.at;
  may = h.may;
  by = by (has_token token quar);
}
  where
    by : (b : Bool) → (cond b (lifted quar) quar).mode ≡ Delta → (cond b (lifted quar) quar).shift ≡ shift_in Delta key (changes_of h.plan)
    by true e = cc
    by false e = h.by e

renewed-planned : (plans : List Plan) (key : QKey) (token deadline : ℕ) (quar : Quar) → IsPlanned plans key quar
    → IsPlanned plans key (renewed token deadline quar)
renewed-planned plans key token deadline quar h = record {
  plan = h.plan;
  at = subst (λ (w : Sid). plan_at w.number plans ≡ Some h.plan) (sym (renewed-same (λ q. q.sid) token deadline quar refl)) h.at;
  may = h.may;
  by = by (has_token token quar);
}
  where
    by : (b : Bool) → (cond b (prolonged deadline quar) quar).mode ≡ Delta → (cond b (prolonged deadline quar) quar).shift ≡ shift_in Delta key
        (changes_of h.plan)
    by true e = h.by e
    by false e = h.by e

-- so is one that a step grants
abbrev pub GrantsPlanned : List Plan → Step → Type 0
GrantsPlanned plans (step.Granted on sid mode shift now token deadline) =
    IsPlanned plans on (record { sid = sid; mode = mode; token = token; deadline = deadline; shift = shift })
GrantsPlanned plans other = Unit {0}

planned-so : (plans : List Plan) (s : Step) → GrantsPlanned plans s → GrantsSo (IsPlanned plans) s
planned-so plans (step.Granted on sid mode shift now token deadline) h = h
planned-so plans (step.Raised on sid token) h = raised-planned plans on token
planned-so plans (step.Renewed on sid token now deadline) h = renewed-planned plans on token deadline
planned-so plans other h = tt

all-so : (plans : List Plan) (past : List Step) → AllByRecursion (GrantsPlanned plans) past → AllByRecursion (GrantsSo (IsPlanned plans)) past
all-so plans past h = every-weaker (GrantsPlanned plans) (GrantsSo (IsPlanned plans)) past (planned-so plans) h

-- a commit has the changes of its session's plan
pub record IsPlannedCommit (plans : List Plan) (commit : Commit) : Type 0 where
  pub plan : Plan
  pub at : plan_at commit.sid.number plans ≡ Some plan
  pub changes : commit.txn ≡ changes_of plan

abbrev pub ArePlanned : List Plan → List Commit → Type 0
ArePlanned plans log = (place : ℕ) (commit : Commit) → slice_get log place ≡ Some commit → IsPlannedCommit plans commit

-- so has one that a reply tells of
abbrev pub IsPlannedReply : List Plan → Sid → Reply → Type 0
IsPlannedReply plans who (Reply.Committed number txn grants) = IsPlannedCommit plans (record { sid = who; txn = txn })
IsPlannedReply plans who other = Unit {0}

abbrev pub IsPlannedEvent : List Plan → Event → Type 0
IsPlannedEvent plans (Stepped place who request s reply) = IsPlannedReply plans who reply
IsPlannedEvent plans (Called who request reply) = IsPlannedReply plans who reply
IsPlannedEvent plans (Ticked now) = Unit {0}
IsPlannedEvent plans (Swept place request made reply) = Unit {0}

-- a step that grants nothing is planned, and so is a reply that tells of no commit
pub quiet-planned : (plans : List Plan) (s : Step) → IsQuietStep s → GrantsPlanned plans s
quiet-planned plans (step.Granted on sid mode shift now token deadline) quiet = absurd quiet
quiet-planned plans other quiet = tt

pub mild-planned : (plans : List Plan) (who : Sid) (reply : Reply) → is_commit reply ≡ false → IsPlannedReply plans who reply
mild-planned plans who (Reply.Committed number txn grants) mild = cc
mild-planned plans who other mild = tt

-- each quarantine that stands is planned
pub planned-standing : (plans : List Plan) (key : QKey) (past : List Step)
    → AllByRecursion (GrantsPlanned plans) past → AllByRecursion (IsPlanned plans key) (standing key past)
planned-standing plans key past h = standing-every (IsPlanned plans) key past (all-so plans past h)

pub planned-quar : (plans : List Plan) (key : QKey) (token : ℕ) (past : List Step) (quar : Quar)
    → AllByRecursion (GrantsPlanned plans) past → quar_of key token past ≡ Some quar → IsPlanned plans key quar
planned-quar plans key token past quar h found = (quar-every (IsPlanned plans) key token past quar (all-so plans past h) found).0

-- the log after an event
reply-planned : (plans : List Plan) (who : Sid) (reply : Reply) (log : List Commit)
    → IsPlannedReply plans who reply → ArePlanned plans log → ArePlanned plans (log ++ commits_of_reply who reply)
reply-planned plans who (Reply.Committed number txn grants) log new old place commit at =
    elim (push-place log (record { sid = who; txn = txn }) place commit at) [
      | inl before ↦ old place commit before
      | inr last ↦ subst (IsPlannedCommit plans) last.1 new
    ]
reply-planned plans who other log new old place commit at = old place commit (sym (ap (λ l. slice_get l place) (append-nil log)) ∙ at)

pub logged-more : (plans : List Plan) (event : Event) (past : List Event)
    → IsPlannedEvent plans event → ArePlanned plans (log_of past) → ArePlanned plans (log_of (event ∷ past))
logged-more plans (Stepped place who request s reply) past new old = reply-planned plans who reply (log_of past) new old
logged-more plans (Called who request reply) past new old = reply-planned plans who reply (log_of past) new old
logged-more plans (Ticked now) past new old = λ place commit at. old place commit (sym (ap (λ l. slice_get l place) (append-nil (log_of past))) ∙ at)
logged-more plans (Swept shard request made reply) past new old =
    λ place commit at. old place commit (sym (ap (λ l. slice_get l place) (append-nil (log_of past))) ∙ at)

-- with one plan more
pub plan-stays : (n : ℕ) (plans : List Plan) (more found : Plan) → plan_at n plans ≡ Some found → plan_at n (plans ++ more ∷ []) ≡ Some found
plan-stays n plans more found at = slice-front plans (more ∷ []) (n - 1) found at

pub planned-begun : (plans : List Plan) (more : Plan) (s : Step) → GrantsPlanned plans s → GrantsPlanned (plans ++ more ∷ []) s
planned-begun plans more (step.Granted on sid mode shift now token deadline) h =
    record { plan = h.plan; at = plan-stays sid.number plans more h.plan h.at; may = h.may; by = h.by }
planned-begun plans more other h = tt

pub logged-begun : (plans : List Plan) (more : Plan) (log : List Commit) → ArePlanned plans log → ArePlanned (plans ++ more ∷ []) log
logged-begun plans more log h place commit at =
    let is = h place commit at in
    record { plan = is.plan; at = plan-stays commit.sid.number plans more is.plan is.at; changes = is.changes }
