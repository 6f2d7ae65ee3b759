-- What happened, one event a turn. A past is a list of events, the latest first.
use Rattle.std.specs.Prelude.{ℕ, ◌==◌, Bool, true, if◌then◌else◌, List, [], ◌∷◌, ◌++◌, flat_map, Option, option_to_list}
use Rattle.std.specs.List.{list_any}
use Rattle.rows_model.specs.declared.keys.Sid.{Sid}
use Rattle.key_shard.specs.declared.steps.Step.{Step}
use Rattle.sql_keeper.specs.declared.stores.Commit.{Commit}
use Rattle.expiry_sweeper.specs.declared.replies.SweepReply.{SweepReply}
use Rattle.expiry_sweeper.specs.declared.replies.SweepReply.TheVariants as sweeps
use Rattle.expiry_sweeper.specs.declared.replies.SweepWanted.{SweepWanted}
use Rattle.expiry_sweeper.specs.declared.replies.SweepWanted.TheVariants as sweep
use Rattle.key_freshness.specs.Known.{Known}
use Rattle.session_client.specs.declared.replies.Reply.{Reply}
use Rattle.session_client.specs.declared.replies.Reply.TheVariants as Reply
use Rattle.session_client.specs.declared.replies.Wanted.{Wanted}

-- One event: a session's request on a shard, the step that came of it and what the session was told;
-- its request at the store, or none, and what it was told; the clock, and what it says now; or what
-- the sweeper wanted, on which shard, the step that it made there, if it made one, and what it was told.
pub data Event : Type 0 where
  Stepped : (shard : ℕ) (who : Sid) (request : Wanted) (step : Step) (reply : Reply) → Event
  Called : (who : Sid) (request : Wanted) (reply : Reply) → Event
  Ticked : (now : ℕ) → Event
  Swept : (shard : ℕ) (request : SweepWanted) (made : Option Step) (reply : SweepReply) → Event

-- What an event told the session whose turn it was, and Nothing where it was no session's.
abbrev pub reply_in : Event → Reply
reply_in (Stepped shard who request step reply) = reply
reply_in (Called who request reply) = reply
reply_in (Ticked now) = Reply.Nothing
reply_in (Swept shard request made reply) = Reply.Nothing

-- The steps that an event made on the shard of this number: one or none.
abbrev pub steps_in : ℕ → Event → List Step
steps_in place (Stepped shard who request step reply) = if shard == place then step ∷ [] else []
steps_in place (Called who request reply) = []
steps_in place (Ticked now) = []
steps_in place (Swept shard request made reply) = if shard == place then option_to_list made else []

-- A shard's own past.
abbrev pub steps_of : ℕ → List Event → List Step
steps_of place past = flat_map (steps_in place) past

-- A reply, where it is to the session of this number.
abbrev pub heard_from : ℕ → Sid → Reply → List Reply
heard_from number who reply = if who.number == number then reply ∷ [] else []

-- What an event told the session of this number, if it was a turn of that session.
abbrev pub heard_in : ℕ → Event → List Reply
heard_in number (Stepped shard who request step reply) = heard_from number who reply
heard_in number (Called who request reply) = heard_from number who reply
heard_in number (Ticked now) = []
heard_in number (Swept shard request made reply) = []

-- All that a session was told, the latest first.
abbrev pub heard_by : ℕ → List Event → List Reply
heard_by number past = flat_map (heard_in number) past

-- What an event told the sweeper, if it was a step of the sweeper's.
abbrev pub swept_in : Event → List SweepReply
swept_in (Stepped shard who request step reply) = []
swept_in (Called who request reply) = []
swept_in (Ticked now) = []
swept_in (Swept shard request made reply) = reply ∷ []

-- All that the sweeper was told, the latest first.
abbrev pub sweeps_of : List Event → List SweepReply
sweeps_of past = flat_map swept_in past

-- What the clock says after these events: the last tick's word, and 0 before any.
abbrev pub now_of : List Event → ℕ
now_of [] = 0
now_of (Ticked now ∷ past) = now
now_of (other ∷ past) = now_of past

-- The commit that a reply tells of, if it does.
abbrev pub commits_of_reply : Sid → Reply → List Commit
commits_of_reply who (Reply.Committed number txn grants) = record { sid = who; txn = txn } ∷ []
commits_of_reply who other = []

-- The commit that an event made, if it made one.
abbrev pub commits_in : Event → List Commit
commits_in (Stepped shard who request step reply) = commits_of_reply who reply
commits_in (Called who request reply) = commits_of_reply who reply
commits_in (Ticked now) = []
commits_in (Swept shard request made reply) = []

-- The log after these events, the earliest commit first.
abbrev pub log_of : List Event → List Commit
log_of [] = []
log_of (event ∷ past) = log_of past ++ commits_in event

-- The session that a reply tells of as ended at the store, if it does: it was open until then.
abbrev pub ends_of_reply : Sid → Reply → List ℕ
ends_of_reply who (Reply.End true) = who.number ∷ []
ends_of_reply who other = []

-- The session that the sweeper ended, if it did.
abbrev pub ends_swept : SweepWanted → SweepReply → List ℕ
ends_swept (sweep.End who) (sweeps.Ended closed) = if closed.was then who.number ∷ [] else []
ends_swept request reply = []

-- The session that an event ended, if it did.
abbrev pub ends_in : Event → List ℕ
ends_in (Stepped shard who request step reply) = ends_of_reply who reply
ends_in (Called who request reply) = ends_of_reply who reply
ends_in (Ticked now) = []
ends_in (Swept shard request made reply) = ends_swept request reply

-- The numbers of the sessions that were ended without a commit, the latest first.
abbrev pub ended_of : List Event → List ℕ
ended_of past = flat_map ends_in past

-- Whether the session of this number was ended at the store.
abbrev pub was_ended : ℕ → List Event → Bool
was_ended number past = list_any (λ other. other == number) (ended_of past)

-- What is known of the store after these events: all of it.
abbrev pub known_of : List Event → Known
known_of past = record { log = log_of past; ended = ended_of past }

-- Whether the session of this number has committed.
abbrev pub has_committed : ℕ → List Event → Bool
has_committed number past = list_any (λ commit. commit.sid.number == number) (log_of past)
