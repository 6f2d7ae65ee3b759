-- The marks of a session that is under way.
use Rattle.std.specs.Prelude.{ℕ, ◌≡◌, ◌≤◌, ◌<◌, Bool, false, List, [], ◌∷◌, ◌++◌, length, Option, Some, None}
use Rattle.rows_model.specs.declared.keys.Sid.{Sid}
use Rattle.session_client.specs.Desks.{Exchange}
use Rattle.session_client.specs.Follows.{Follows, plan_of, sid_of}
use Rattle.session_client.specs.Wants.{wants, is_nothing}
use Rattle.session_client.specs.declared.plans.Plan.{Plan}
use Rattle.session_client.specs.declared.replies.Outcome.{Outcome}
use Rattle.session_client.specs.declared.replies.Reply.{Reply}
use Rattle.session_client.specs.declared.sessions.Session.{Session}
use Rattle.gate_workers.specs.declared.marks.Mark.{Mark}
use Rattle.gate_workers.specs.Marks.{marks_of}
use Rattle.gate_workers.specs.Rows.{RowView, Went, HasRun, IsRow, HasStopped, DeskView, marks_room, with_calls, with_work}

-- There are replies that the session may have heard.
abbrev pub IsGoing : Session → Type 0
IsGoing session = (short : Bool) × (heard : List Reply) × Follows session short heard

-- The session wants something, whatever it has heard.
abbrev pub IsWanting : Session → Type 0
IsWanting session =
    (short : Bool) (heard : List Reply) → Follows session short heard → is_nothing (wants (plan_of session) short heard) ≡ false

-- A mark was put last among those that are kept, or they are lost, as many as there was room for. Lost
-- ones stay lost.
abbrev pub IsNoted : Mark → Option (List Mark) → Option (List Mark) → Type 0
IsNoted mark (Some before) (Some after) = after ≡ before ++ mark ∷ []
IsNoted mark (Some before) None = marks_room ≤ length before
IsNoted mark None None = Unit {0}
IsNoted mark None (Some after) = ⊥

-- The marks that are kept are those of these calls. Lost ones are more than there was room for.
abbrev pub AreNoted : Option (List Mark) → List Exchange → Type 0
AreNoted (Some marks) calls = marks ≡ marks_of calls
AreNoted None calls = marks_room < length (marks_of calls)

-- A session of this number and plan is under way: its calls so far were added to the
-- record of its desk, where that is told, and its marks are theirs, where they are kept.
pub record IsUnderWay (who : Sid) (plan : Plan) (session : Session) (before after : Option (List Exchange)) (notes : Option (List Mark)) : Type 0 where
  pub short : Bool
  pub heard : List Reply
  pub calls : List Exchange
  pub of_plan : plan_of session ≡ plan
  pub of_number : sid_of session ≡ who
  pub follows : Follows session short heard
  pub went : Went who plan short heard calls
  pub recorded : after ≡ with_calls calls before
  pub noted : AreNoted notes calls

-- A session of this number and plan has ended so: its calls were added to the record
-- of its desk, where that is told, and its marks are theirs, where they are kept.
pub record HasEnded (who : Sid) (plan : Plan) (outcome : Outcome) (before after : Option (List Exchange)) (notes : Option (List Mark)) : Type 0 where
  pub calls : List Exchange
  pub has_run : HasRun who plan calls outcome
  pub recorded : after ≡ with_calls calls before
  pub noted : AreNoted notes calls

-- The session of this plan has run, and this is its row. Where the desk tells it, exactly its calls were
-- added to the record, and one step of the sweep was taken.
abbrev pub AddsRow : Plan → DeskView → DeskView → RowView → Type 0
AddsRow plan before after row = (calls : List Exchange) × IsRow plan calls row × (after ≡ with_work calls 1 before)

-- The worker stops at this plan. Where the desk tells it, exactly its calls there were added to the
-- record, and the steps that it took there to their count.
abbrev pub AddsStop : Plan → DeskView → DeskView → Type 0
AddsStop plan before after =
    (calls : List Exchange) × (steps : ℕ) × HasStopped plan calls steps × (after ≡ with_work calls steps before)
