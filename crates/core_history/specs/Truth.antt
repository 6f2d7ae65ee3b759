-- A keeper's word is true where it is that of the rows after the log so far.
use Rattle.std.specs.Prelude.{ℕ, ◌≡◌, List, [], ◌∷◌, Ok, Err}
use Rattle.rows_model.specs.Rows.{Tables}
use Rattle.rows_model.specs.Query.{answer}
use Rattle.rows_model.specs.Changes.{apply_all}
use Rattle.sql_keeper.specs.declared.faults.AfterFault.TheVariants as after
use Rattle.sql_keeper.specs.declared.faults.CommitFault.TheVariants.{Rejected}
use Rattle.sql_keeper.specs.Log.{rows_after}
use Rattle.session_client.specs.declared.replies.Reply.{Reply}
use Rattle.session_client.specs.declared.replies.Reply.TheVariants as Reply
use Rattle.session_client.specs.declared.replies.Wanted.{Wanted}
use Rattle.session_client.specs.declared.replies.Wanted.TheVariants as wanted
use Rattle.core_history.specs.Events.{Event, Stepped, Called, Ticked, Swept, log_of}

-- The answer that a transaction would leave: it applies on these rows, and the value is the key's answer after it.
abbrev pub IsTrueStaged : Tables → Wanted → List ℕ → Type 0
IsTrueStaged rows (wanted.Staged key txn) value =
    (after : Tables) × (apply_all txn rows ≡ Ok after) × (value ≡ answer key after)
IsTrueStaged rows other value = Unit {0}

-- A value is the key's answer on these rows, a transaction that was committed
-- applies on them, and of one that was rejected that change is the first that doesn't.
abbrev pub IsTrueReply : Tables → Wanted → Reply → Type 0
IsTrueReply rows request (Reply.Answer answered) = answered.value ≡ answer answered.key rows
IsTrueReply rows request (Reply.Staged value txn) = IsTrueStaged rows request value
IsTrueReply rows request (Reply.NotStaged (after.Rejected index) txn) = apply_all txn rows ≡ Err index
IsTrueReply rows request (Reply.Committed number txn grants) = (after : Tables) × (apply_all txn rows ≡ Ok after)
IsTrueReply rows request (Reply.NotCommitted (Rejected index) txn grants) = apply_all txn rows ≡ Err index
IsTrueReply rows request other = Unit {0}

-- What an event told is true of these rows. Only the store says anything of them.
abbrev pub IsTrueEvent : Tables → Event → Type 0
IsTrueEvent rows (Stepped shard who request step reply) = IsTrueReply rows request reply
IsTrueEvent rows (Called who request reply) = IsTrueReply rows request reply
IsTrueEvent rows (Ticked now) = Unit {0}
IsTrueEvent rows (Swept shard request made reply) = Unit {0}

-- Each reply of the store was true when it was given.
abbrev pub IsTruePast : Tables → List Event → Type 0
IsTruePast opening [] = Unit {0}
IsTruePast opening (event ∷ past) =
    IsTrueEvent (rows_after opening (log_of past)) event × IsTruePast opening past
