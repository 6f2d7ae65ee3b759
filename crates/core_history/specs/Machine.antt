-- The machine: what each turn does, read off the events before it, and off what the store's keeper said in it.
use Rattle.std.specs.Prelude.{ℕ, ℤ, pos, min, ◌+◌, ◌-◌, ◌^◌, Bool, false, not, ◌==◌, ◌&&◌, if◌then◌else◌, List, [], ◌∷◌, ◌++◌, length}
use Rattle.std.specs.Prelude.{Option, Some, None, slice_get}
use Rattle.rows_model.specs.declared.keys.QKey.{QKey}
use Rattle.rows_model.specs.declared.keys.Sid.{Sid}
use Rattle.rows_model.specs.declared.changes.Change.{Change}
use Rattle.rows_model.specs.Placement.{shard_of}
use Rattle.lease_table.specs.declared.records.Mode.{Mode}
use Rattle.lease_table.specs.declared.records.Mode.TheVariants.{Invalidate, Refresh, Delta}
use Rattle.key_shard.specs.Permit.{Permit}
use Rattle.key_shard.specs.declared.steps.Step.{Step}
use Rattle.key_shard.specs.declared.steps.Step.TheVariants as step
use Rattle.key_shard.specs.declared.replies.Got.TheVariants as got
use Rattle.key_shard.specs.declared.replies.SetAnswer.TheVariants as set
use Rattle.key_shard.specs.declared.replies.QAnswer.TheVariants as quarantine
use Rattle.key_shard.specs.declared.replies.Rel.TheVariants as rel
use Rattle.key_shard.specs.declared.replies.Raising.{Raising}
use Rattle.key_shard.specs.declared.replies.Raising.TheVariants as raising
use Rattle.key_shard.specs.declared.replies.Renewal.{Renewal}
use Rattle.key_shard.specs.declared.replies.Renewal.TheVariants as renewal
use Rattle.key_shard.specs.declared.replies.How.TheVariants.{Keep, Drop, Shift}
use Rattle.key_shard.specs.Dues.{first_due}
use Rattle.key_shard.specs.Past.{Terms, entry, evicted_by}
use Rattle.key_shard.specs.Answers.{get_step, set_step, quarantine_step, release_step, replace_step, sweep_step, raise_step, renew_step}
use Rattle.key_shard.specs.Replies.{old_value, sweep_answer}
use Rattle.key_shard.specs.Shards.{without_permit, out_after, raised_permit}
use Rattle.expiry_sweeper.specs.Sweeps.{sweep_wants, scan_reply}
use Rattle.expiry_sweeper.specs.declared.replies.SweepReply.{SweepReply}
use Rattle.expiry_sweeper.specs.declared.replies.SweepReply.TheVariants as sweeps
use Rattle.expiry_sweeper.specs.declared.replies.SweepWanted.{SweepWanted}
use Rattle.expiry_sweeper.specs.declared.replies.SweepWanted.TheVariants as sweep
use Rattle.sql_keeper.specs.declared.faults.AfterFault.TheVariants as after
use Rattle.sql_keeper.specs.declared.faults.CommitFault.{CommitFault}
use Rattle.sql_keeper.specs.declared.faults.CommitFault.TheVariants as faults
use Rattle.sql_keeper.specs.Commits.{commit_fault}
use Rattle.session_client.specs.Grants.{GrantsView}
use Rattle.session_client.specs.declared.plans.Plan.{Plan}
use Rattle.session_client.specs.declared.plans.Shape.{Shape}
use Rattle.session_client.specs.declared.plans.Turn.{Turn}
use Rattle.session_client.specs.declared.plans.Turn.TheVariants as turn
use Rattle.session_client.specs.declared.replies.Fault.TheVariants as causes
use Rattle.session_client.specs.declared.replies.Reply.{Reply}
use Rattle.session_client.specs.declared.replies.Reply.TheVariants as Reply
use Rattle.session_client.specs.declared.replies.Wanted.{Wanted}
use Rattle.session_client.specs.declared.replies.Wanted.TheVariants as wanted
use Rattle.session_client.specs.Plans.{IsPlan, writes}
use Rattle.session_client.specs.Wants.{wants}
use Rattle.core_history.specs.Events.{Event, Stepped, Called, Ticked, Swept, steps_of, heard_by, sweeps_of, now_of, log_of, was_ended, has_committed}

-- What a shard of this shape is made with. Its tokens begin at 1, and it is whole.
abbrev pub terms_of : Shape → ℕ → Terms
terms_of shape place =
    record { no = place; count = shape.shards; room = shape.room; life = shape.life; first = 1; rolls = false }

-- How many commits a log holds at most.
abbrev pub log_cap : ℕ
log_cap = 8000000

-- What the store's keeper said in a turn, if it was asked: a value, that a transaction was made, which change didn't apply, or that it failed.
pub data Said : Type 0 where
  Value : (value : List ℕ) → Said
  Made : Said
  Rejected : (index : ℕ) → Said
  Failed : Said

-- The sessions begun, by their plans, and the events so far.
pub record World : Type 0 where
  pub plans : List Plan
  pub past : List Event

-- No session has begun.
abbrev pub start : World
start = record { plans = []; past = [] }

-- The plan of the session of this number.
abbrev pub plan_at : ℕ → List Plan → Option Plan
plan_at number plans = slice_get plans (number - 1)

-- What a session of this plan wants; no session wants nothing. A run stops where memory runs out, so no session goes on after that.
abbrev pub wanted_by : Option Plan → List Reply → Wanted
wanted_by None heard = wanted.Nothing
wanted_by (Some plan) heard = wants plan false heard

-- Whether a session of this plan writes; no session does.
abbrev pub is_writer : Option Plan → Bool
is_writer None = false
is_writer (Some plan) = writes plan

-- A session may commit from its beginning until it has committed or was ended.
abbrev pub is_open : World → Sid → Bool
is_open world who =
    is_writer (plan_at who.number world.plans) && not (has_committed who.number world.past) && not (was_ended who.number world.past)

-- What a session is told of a step, after the steps before it. What a raise or a renewal tells goes by its grant, and stands below.
abbrev pub step_reply : Terms → List Step → Step → Reply
step_reply terms past (step.Hit key sid floor value stamp) = Reply.Got (got.Hit value stamp)
step_reply terms past (step.Lease key sid floor now token deadline) = Reply.Got (got.Lease token)
step_reply terms past (step.Again key sid floor now standing) = Reply.Got (got.Again standing)
step_reply terms past (step.Own key sid) = Reply.Got got.Own
step_reply terms past (step.Stored key token now value stamp evicted) = Reply.Set (set.Stored evicted)
step_reply terms past (step.Void key token now) = Reply.Set set.Void
step_reply terms past (step.Granted key sid mode shift now token deadline) =
    Reply.Quar (quarantine.Granted (record { shard = terms.no; key = key; sid = sid; mode = mode; token = token }) (old_value mode (entry key past)))
step_reply terms past (step.Held key sid mode) = Reply.Quar quarantine.Held
step_reply terms past (step.Refused key sid mode holder held) = Reply.Quar (quarantine.Refused holder held)
step_reply terms past (step.Released key sid token how) = Reply.Rel (rel.Released (evicted_by how))
step_reply terms past (step.Gone key sid token) = Reply.Rel rel.Gone
step_reply terms past (step.Raised key sid token) = Reply.Nothing
step_reply terms past (step.Shared key sid token holder) = Reply.Nothing
step_reply terms past (step.Renewed key sid token now deadline) = Reply.Nothing

-- What is told of a raise of this grant: the raised grant with the entry, or who stands beside it, or that it is spent.
abbrev pub raise_answer : Permit → List Step → Step → Raising
raise_answer grant past (step.Raised key sid token) = raising.Raised (raised_permit grant.key grant.token grant) (entry key past)
raise_answer grant past (step.Shared key sid token holder) = raising.Shared grant holder
raise_answer grant past other = raising.Gone

-- What is told of a renewal: the new deadline, or that the quarantine stands no longer.
abbrev pub renewal_answer : Step → Renewal
renewal_answer (step.Renewed key sid token now deadline) = renewal.Renewed deadline
renewal_answer other = renewal.Gone

-- What a session is told of a raise, and of a renewal. The grant of a renewal comes back in any case.
abbrev pub raise_shown : Permit → Terms → List Step → Step → Reply
raise_shown grant terms past step = Reply.Raise (raise_answer grant past step)

abbrev pub renewal_shown : Permit → Terms → List Step → Step → Reply
renewal_shown grant terms past step = Reply.Renew grant (Some (renewal_answer step))

-- A request on the shard of a key makes the step that follows that shard's own past, and is told what the step shows.
abbrev pub shown_on : Shape → List Event → Sid → Wanted → QKey → (Terms → List Step → Step) → (Terms → List Step → Step → Reply) → Event
shown_on shape past who request key step shows =
    let place = shard_of key shape.shards in
    let terms = terms_of shape place in
    let steps = steps_of place past in
    Stepped place who request (step terms steps) (shows terms steps (step terms steps))

-- So does one that is neither a raise nor a renewal.
abbrev pub stepped_on : Shape → List Event → Sid → Wanted → QKey → (Terms → List Step → Step) → Event
stepped_on shape past who request key step = shown_on shape past who request key step step_reply

-- The store's answer to a key has the number of commits as its stamp.
abbrev pub ask_reply : List Event → QKey → Said → Reply
ask_reply past key (Value value) = Reply.Answer (record { key = key; value = value; stamp = length (log_of past) })
ask_reply past key other = Reply.Fault causes.Keep

-- What a session is told of the answer that its transaction would leave.
abbrev pub staged_reply : List Change → Said → Reply
staged_reply txn (Value value) = Reply.Staged value txn
staged_reply txn (Rejected index) = Reply.NotStaged (after.Rejected index) txn
staged_reply txn other = Reply.NotStaged after.Failed txn

-- What a session is told of a commit that the keeper was asked for.
abbrev pub commit_said : ℕ → List Change → GrantsView → Said → Reply
commit_said count txn grants Made = Reply.Committed (count + 1) txn grants
commit_said count txn grants (Rejected index) = Reply.NotCommitted (faults.Rejected index) txn grants
commit_said count txn grants other = Reply.NotCommitted faults.KeepFault txn grants

abbrev pub commit_by : ℕ → List Change → GrantsView → Said → Option CommitFault → Reply
commit_by count txn grants said (Some fault) = Reply.NotCommitted fault txn grants
commit_by count txn grants said None = commit_said count txn grants said

-- What a session is told of its commit: it is refused for its first fault, and else is as the keeper says.
abbrev pub commit_reply : World → Sid → List Change → GrantsView → Said → Reply
commit_reply world who txn grants said =
    let count = length (log_of world.past) in
    commit_by count txn grants said (commit_fault (is_open world who) who grants.items txn count log_cap)

-- A quarantine of a key in this mode, to be shifted by this much.
abbrev pub quarantined_on : Shape → World → Sid → Wanted → QKey → Mode → ℤ → Event
quarantined_on shape world who request key mode shift =
    stepped_on shape world.past who request key (λ terms steps. quarantine_step terms steps key who mode shift (now_of world.past))

-- The step of a release with a new value: it is put where there is one, and else the key's value is dropped.
abbrev pub put_step : Terms → List Step → Permit → Option (List ℕ) → ℕ → Step
put_step terms steps grant (Some value) stamp = replace_step terms steps grant value stamp
put_step terms steps grant None stamp = release_step steps grant Drop

-- The event that a request is: on a shard, at the store, or nothing.
abbrev pub event_of : Shape → World → Sid → Wanted → Said → Event
event_of shape world who (wanted.Get key floor) said =
    stepped_on shape world.past who (wanted.Get key floor) key (λ terms steps. get_step terms steps key who floor (now_of world.past))
event_of shape world who (wanted.Ask key) said = Called who (wanted.Ask key) (ask_reply world.past key said)
event_of shape world who (wanted.Staged key txn) said = Called who (wanted.Staged key txn) (staged_reply txn said)
event_of shape world who (wanted.Set key token value stamp) said =
    stepped_on shape world.past who (wanted.Set key token value stamp) key (λ terms steps. set_step terms steps key token value stamp (now_of world.past))
event_of shape world who (wanted.QaReg key) said =
    quarantined_on shape world who (wanted.QaReg key) key Invalidate (pos 0)
event_of shape world who (wanted.QaRead key) said =
    quarantined_on shape world who (wanted.QaRead key) key Refresh (pos 0)
event_of shape world who (wanted.Delta key by) said =
    quarantined_on shape world who (wanted.Delta key by) key Delta by
event_of shape world who (wanted.Commit txn grants) said =
    Called who (wanted.Commit txn grants) (commit_reply world who txn grants said)
event_of shape world who wanted.End said = Called who wanted.End (Reply.End (is_open world who))
event_of shape world who (wanted.Dar grant) said =
    stepped_on shape world.past who (wanted.Dar grant) grant.key (λ terms steps. release_step steps grant Drop)
event_of shape world who (wanted.Sar grant value stamp) said =
    stepped_on shape world.past who (wanted.Sar grant value stamp) grant.key (λ terms steps. put_step terms steps grant value stamp)
event_of shape world who (wanted.Apply grant stamp) said =
    stepped_on shape world.past who (wanted.Apply grant stamp) grant.key (λ terms steps. release_step steps grant (Shift stamp))
event_of shape world who (wanted.Abort grant) said =
    stepped_on shape world.past who (wanted.Abort grant) grant.key (λ terms steps. release_step steps grant Keep)
event_of shape world who (wanted.Raise grant) said =
    shown_on shape world.past who (wanted.Raise grant) grant.key (λ terms steps. raise_step steps grant) (raise_shown grant)
event_of shape world who (wanted.Renew grant) said =
    shown_on shape world.past who (wanted.Renew grant) grant.key (λ terms steps. renew_step terms steps grant (now_of world.past)) (renewal_shown grant)
event_of shape world who wanted.Nothing said = Called who wanted.Nothing Reply.Nothing

-- What a session wants next.
abbrev pub wanted_of : World → Sid → Wanted
wanted_of world who = wanted_by (plan_at who.number world.plans) (heard_by who.number world.past)

-- What an end tells the sweeper: which session was ended, and whether it was open.
abbrev pub ended_as : Sid → Bool → SweepReply
ended_as who was = sweeps.Ended (record { sid = who; was = was })

-- The event of what the sweeper wants: a scan finds the first quarantine that is past its deadline,
-- an end is one at the store, and a drop is a step on the shard of its key, where the quarantine stands.
abbrev pub sweep_of : Shape → World → SweepWanted → Event
sweep_of shape world (sweep.Scan place) =
    Swept place (sweep.Scan place) None (scan_reply place (first_due (now_of world.past) (steps_of place world.past)))
sweep_of shape world (sweep.End who) = Swept 0 (sweep.End who) None (ended_as who (is_open world who))
sweep_of shape world (sweep.Drop key token) =
    let place = shard_of key shape.shards in
    let step = sweep_step (steps_of place world.past) key token in
    Swept place (sweep.Drop key token) step (sweeps.Dropped (sweep_answer step))

-- What the sweeper wants next.
abbrev pub swept_next : Shape → World → SweepWanted
swept_next shape world = sweep_wants shape.shards (sweeps_of world.past)

-- What the clock says after so many ticks more. It stops at 2^64-1.
abbrev pub later : ℕ → List Event → ℕ
later by past = min (now_of past + by) (2 ^ 64 - 1)

-- The event of a turn.
abbrev pub turn_event : Shape → World → Turn → Said → Event
turn_event shape world (turn.Session who) said = event_of shape world who (wanted_of world who) said
turn_event shape world (turn.Tick by) said = Ticked (later by world.past)
turn_event shape world turn.Sweep said = sweep_of shape world (swept_next shape world)

-- A move of the world: a session begins, or a turn is taken, in which the keeper said this if it was asked.
pub data Move : Type 0 where
  Begin : (plan : Plan) → Move
  Take : (turn : Turn) (said : Said) → Move

-- The world after a session begins.
abbrev pub with_plan : World → Plan → World
with_plan world plan = record { plans = world.plans ++ plan ∷ []; past = world.past }

-- The world after a turn.
abbrev pub taken : Shape → World → Turn → Said → World
taken shape world turn said =
    record { plans = world.plans; past = turn_event shape world turn said ∷ world.past }

abbrev pub moved : Shape → World → Move → World
moved shape world (Begin plan) = with_plan world plan
moved shape world (Take turn said) = taken shape world turn said

-- The world after these moves, the latest first.
abbrev pub world_of : Shape → List Move → World
world_of shape [] = start
world_of shape (move ∷ moves) = moved shape (world_of shape moves) move

-- The plans that are begun are plans that a session takes.
abbrev pub HasPlans : List Move → Type 0
HasPlans [] = Unit {0}
HasPlans (Begin plan ∷ moves) = IsPlan plan × HasPlans moves
HasPlans (Take turn said ∷ moves) = HasPlans moves

-- The grants that are out at a shard after the step of a raise. Where the quarantine was gone its grant is spent.
abbrev pub out_raised : Terms → Permit → Step → List Permit → List Permit
out_raised terms grant (step.Gone key sid token) out = without_permit grant out
out_raised terms grant step out = out_after terms step out

-- The grants that are out at a shard after a request and its step. A release takes its own away, a raise changes
-- its own or spends it, and a granted quarantine adds one.
abbrev pub out_by : Terms → Wanted → Step → List Permit → List Permit
out_by terms (wanted.Dar grant) step out = without_permit grant out
out_by terms (wanted.Sar grant value stamp) step out = without_permit grant out
out_by terms (wanted.Apply grant stamp) step out = without_permit grant out
out_by terms (wanted.Abort grant) step out = without_permit grant out
out_by terms (wanted.Raise grant) step out = out_raised terms grant step out
out_by terms request step out = out_after terms step out

-- The grants that are out at the shard of this number after these events. A sweep leaves them.
abbrev pub out_of : Shape → ℕ → List Event → List Permit
out_of shape place [] = []
out_of shape place (Stepped shard who request step reply ∷ past) =
    if shard == place then out_by (terms_of shape place) request step (out_of shape place past) else out_of shape place past
out_of shape place (Called who request reply ∷ past) = out_of shape place past
out_of shape place (Ticked now ∷ past) = out_of shape place past
out_of shape place (Swept shard request made reply ∷ past) = out_of shape place past
