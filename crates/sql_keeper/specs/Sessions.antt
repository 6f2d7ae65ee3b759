-- Where sessions stand with a store.
use Rattle.std.specs.Prelude.{Bool, true, false, ◌==◌, ◌-◌, if◌then◌else◌, List, [], ◌∷◌, ◌++◌, Option, Some, None, slice_get, slice_set}
use Rattle.rows_model.specs.declared.keys.Sid.{Sid}
use Rattle.sql_keeper.specs.declared.stores.Phase.{Phase}
use Rattle.sql_keeper.specs.declared.stores.Phase.TheVariants.{Reads, Open, Committed, Ended}

-- where the session stands, if it has begun: numbers count from 1
abbrev pub phase_of : Sid → List Phase → Option Phase
phase_of who sessions = if who.number == 0 then None else slice_get sessions (who.number - 1)

-- whether a session may still commit
abbrev pub may_commit : Option Phase → Bool
may_commit None = false
may_commit (Some Reads) = false
may_commit (Some Open) = true
may_commit (Some Committed) = false
may_commit (Some Ended) = false

-- whether the session is open
abbrev pub is_open : Sid → List Phase → Bool
is_open who sessions = may_commit (phase_of who sessions)

-- whether it is there that a session committed
abbrev pub did_commit : Option Phase → Bool
did_commit None = false
did_commit (Some Reads) = false
did_commit (Some Open) = false
did_commit (Some Committed) = true
did_commit (Some Ended) = false

-- whether the session has committed
abbrev pub has_committed : Sid → List Phase → Bool
has_committed who sessions = did_commit (phase_of who sessions)

-- where a session stands when it begins
abbrev pub first_phase : Bool → Phase
first_phase true = Open
first_phase false = Reads

-- the sessions with one more
abbrev pub with_begun : Bool → List Phase → List Phase
with_begun writes sessions = sessions ++ first_phase writes ∷ []

-- the sessions, with the phase of one changed
abbrev pub with_phase : Sid → Phase → List Phase → List Phase
with_phase who phase sessions = slice_set sessions (who.number - 1) phase

-- the sessions after one was ended, where it was open
abbrev pub ended : Sid → List Phase → List Phase
ended who sessions = if is_open who sessions then with_phase who Ended sessions else sessions

-- where a session stands once it was ended, if it was open
abbrev pub closed : Phase → Phase
closed Reads = Reads
closed Open = Ended
closed Committed = Committed
closed Ended = Ended
