-- What a transcript tells of the sessions of its plans.
use Rattle.std.specs.Prelude.{Vec, Result, Ok, ℕ, ◌≡◌, ◌≢◌, ◌<◌, ◌+◌, ◌⊎◌, Bool, true, false, if◌then◌else◌, List, [], ◌∷◌, ◌++◌, length, Option, Some, None}
use Rattle.std.specs.Option.{option_map}
use Rattle.rows_model.specs.declared.keys.Sid.{Sid}
use Rattle.rows_model.specs.declared.refusals.Memory.{Memory}
use Rattle.session_client.specs.Plans.{writes}
use Rattle.session_client.specs.Wants.{wants, done_by}
use Rattle.session_client.specs.Follows.{IsRefreshing}
use Rattle.session_client.specs.Belongs.{Belongs}
use Rattle.session_client.specs.Desks.{Exchange, Began, Asked}
use Rattle.session_client.specs.declared.plans.Plan.{Plan}
use Rattle.session_client.specs.declared.replies.Fault.TheVariants as causes
use Rattle.session_client.specs.declared.replies.Outcome.{Outcome}
use Rattle.session_client.specs.declared.replies.Outcome.TheVariants as outcome
use Rattle.session_client.specs.declared.replies.Reply.{Reply}
use Rattle.session_client.specs.declared.replies.Wanted.TheVariants as wanted
use Rattle.gate_workers.specs.Marks.{marks_of}
use Rattle.gate_workers.specs.declared.marks.Mark.{Mark}

-- What contracts see of a row: the session's number, how it ended, and its marks in their order.
pub record RowView : Type 0 where
  pub sid : Sid
  pub outcome : Outcome
  pub marks : List Mark

-- Whether memory ran out so far when the session was told of its commit. That stays
-- as it was, but for the reply that tells of a commit and brings a grant to refresh.
abbrev pub IsShort : Bool → Reply → Bool → Type 0
IsShort before reply now = (now ≡ before) ⊎ (IsRefreshing reply × (now ≡ true))

-- A session of this number and plan began and has heard these replies by these calls, both the
-- latest first: each request is the one that it wanted after the replies before, and isn't nothing,
-- and each reply belongs to its request.
abbrev pub Went : Sid → Plan → Bool → List Reply → List Exchange → Type 0
Went who plan short [] calls = (short ≡ false) × (calls ≡ Began (writes plan) who ∷ [])
Went who plan short (reply ∷ heard) calls =
    (before : Bool) × (earlier : List Exchange) × Went who plan before heard earlier × (wants plan before heard ≢ wanted.Nothing)
    × Belongs who (wants plan before heard) reply × IsShort before reply short × (calls ≡ Asked who (wants plan before heard) reply ∷ earlier)

-- A session of this number and plan made these calls, the latest first, and ended so: it wants nothing more.
pub record HasRun (who : Sid) (plan : Plan) (calls : List Exchange) (outcome : Outcome) : Type 0 where
  pub short : Bool
  pub heard : List Reply
  pub went : Went who plan short heard calls
  pub over : wants plan short heard ≡ wanted.Nothing
  pub ended : done_by plan short heard ≡ Some outcome

-- Memory ran out for the session at the desk or at its commit.
abbrev pub short_of_memory : Outcome
short_of_memory = outcome.Failed causes.Memory

-- For how many marks a worker takes room before it begins a session.
abbrev pub marks_room : ℕ
marks_room = 32

-- Whether it ended so by want of memory.
abbrev pub is_short : Outcome → Bool
is_short (outcome.Failed causes.Memory) = true
is_short ended = false

-- The row of a session that ended so, with these marks.
abbrev pub row_with : Sid → Outcome → List Mark → RowView
row_with who ended marks = record { sid = who; outcome = ended; marks = marks }

-- The row that a session leaves that ended so, if its marks are kept. There is none where memory ran out
-- for the session, or its marks are lost.
abbrev pub row_of : Sid → Outcome → Option (List Mark) → Option RowView
row_of who ended marks = if is_short ended then None else option_map (row_with who ended) marks

-- The row of a session of this plan that made these calls. One that ended by want of memory has none.
pub record IsRow (plan : Plan) (calls : List Exchange) (row : RowView) : Type 0 where
  pub has_run : HasRun row.sid plan calls row.outcome
  pub had_memory : row.outcome ≢ short_of_memory
  pub marks : row.marks ≡ marks_of calls

-- One row for each plan, in their order, and the calls of all their sessions, the latest first.
abbrev pub AreRows : List Plan → List Exchange → List RowView → Type 0
AreRows [] calls [] = calls ≡ []
AreRows (plan ∷ plans) calls (row ∷ rows) =
    (first : List Exchange) × (later : List Exchange) × IsRow plan first row × AreRows plans later rows × (calls ≡ later ++ first)
AreRows plans calls rows = ⊥

-- A record with these calls added, the latest first. One that isn't told stays untold.
abbrev pub with_calls : List Exchange → Option (List Exchange) → Option (List Exchange)
with_calls calls (Some recorded) = Some (calls ++ recorded)
with_calls calls None = None

-- A count of steps raised by this. One that isn't told stays untold.
abbrev pub with_steps : ℕ → Option ℕ → Option ℕ
with_steps steps (Some count) = Some (count + steps)
with_steps steps None = None

-- What contracts see of a desk: its record, how many steps of its sweep it took, and the number of its worker.
pub record DeskView : Type 0 where
  pub calls : Option (List Exchange)
  pub steps : Option ℕ
  pub worker : Option ℕ

-- What this desk tells of them.
abbrev pub desk_view : {D : Type 0} → (D → Option (List Exchange)) → (D → Option ℕ) → (D → Option ℕ) → D → DeskView
desk_view record_of tends worker desk = record { calls = record_of desk; steps = tends desk; worker = worker desk }

-- These calls and so many steps more, by the same worker.
abbrev pub with_work : List Exchange → ℕ → DeskView → DeskView
with_work calls steps desk = record {
  calls = with_calls calls desk.calls;
  steps = with_steps steps desk.steps;
  worker = desk.worker;
}

-- These are the rows of the plans. Where the desk tells it, exactly their calls were added to its
-- record, and it took one step of its sweep for each plan.
pub record IsWork (plans : List Plan) (before after : DeskView) (rows : List RowView) : Type 0 where
  pub calls : List Exchange
  pub rows_of : AreRows plans calls rows
  pub works : after ≡ with_work calls (length plans) before

-- So it is for each worker: one list of plans, one desk and one list of rows for each.
abbrev pub AllWork : List (List Plan) → List DeskView → List DeskView → List (List RowView) → Type 0
AllWork [] [] [] [] = Unit {0}
AllWork (plans ∷ lists) (before ∷ befores) (after ∷ afters) (rows ∷ transcripts) =
    IsWork plans before after rows × AllWork lists befores afters transcripts
AllWork lists befores afters transcripts = ⊥

-- A session that ended so by these calls may have no row: memory ran out for it, or for a mark of it
-- for which no room was taken before it began.
abbrev pub MayLackRow : Outcome → List Exchange → Type 0
MayLackRow ended calls = (ended ≡ short_of_memory) ⊎ (marks_room < length (marks_of calls))

-- What a worker's calls are at the plan at which it stops for want of memory, the latest first, and
-- how many steps its desk took there. No session began; or there was no memory for one that had begun,
-- and it was ended at once; or one has run, whose grants it released, and has no row.
abbrev pub HasStopped : Plan → List Exchange → ℕ → Type 0
HasStopped plan calls steps =
    ((calls ≡ []) × (steps ≡ 0))
    ⊎ ((who : Sid) × (reply : Reply) × Belongs who wanted.End reply
    × (calls ≡ Asked who wanted.End reply ∷ Began (writes plan) who ∷ []) × (steps ≡ 0))
    ⊎ ((who : Sid) × (ended : Outcome) × HasRun who plan calls ended × MayLackRow ended calls × (steps ≡ 1))

-- A session of this plan made these calls and has run, and memory didn't run out for it.
abbrev pub HasGoneOn : Plan → List Exchange → Type 0
HasGoneOn plan calls = (who : Sid) × (ended : Outcome) × HasRun who plan calls ended × (ended ≢ short_of_memory)

-- What a worker's calls are, the latest first, whether or not it stopped, and how many steps its desk
-- took: those of a session for each plan, in their order, and a step for each, up to the plan at which
-- it stopped, if it did.
abbrev pub HaveGone : List Plan → List Exchange → ℕ → Type 0
HaveGone [] calls steps = (calls ≡ []) × (steps ≡ 0)
HaveGone (plan ∷ plans) calls steps =
    HasStopped plan calls steps
    ⊎ ((first : List Exchange) × (later : List Exchange) × (more : ℕ) × HasGoneOn plan first × HaveGone plans later more
    × (calls ≡ later ++ first) × (steps ≡ more + 1))

-- A worker of these plans has ended. Where its desk tells it, exactly its calls were added to the
-- record, and its steps to their count.
pub record HasWorked (plans : List Plan) (before after : DeskView) : Type 0 where
  pub calls : List Exchange
  pub steps : ℕ
  pub gone : HaveGone plans calls steps
  pub works : after ≡ with_work calls steps before

-- So it is for each worker: one list of plans and one desk for each.
abbrev pub AllWorked : List (List Plan) → List DeskView → List DeskView → Type 0
AllWorked [] [] [] = Unit {0}
AllWorked (plans ∷ lists) (before ∷ befores) (after ∷ afters) =
    HasWorked plans before after × AllWorked lists befores afters
AllWorked lists befores afters = ⊥

-- Both were given, and these are all, the first of them in front.
abbrev pub AreJoined : {A : Type 0} → List (List RowView) → Result (Vec (List RowView) A) Memory → Result (Vec (List RowView) A) Memory → Type 0
AreJoined {A} all (Ok some) (Ok others) = all ≡ some.items ++ others.items
AreJoined {A} all first rest = ⊥
