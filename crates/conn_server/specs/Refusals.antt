-- What a command is refused without the desk: the errors, in the order in which they are tried.
use Rattle.std.specs.Prelude.{ℕ, ◌==◌, ◌||◌, ◌&&◌, not, Bool, true, false, List, [], ◌∷◌, Option, Some, None, is_some, if◌then◌else◌}
use Rattle.rows_model.specs.declared.keys.QKey.{QKey}
use Rattle.rows_model.specs.declared.keys.Sid.{Sid}
use Rattle.rows_model.specs.Delta.{is_count}
use Rattle.case_tables.specs.Compatibility.{same_way}
use Rattle.lease_table.specs.declared.records.Mode.{Mode}
use Rattle.lease_table.specs.declared.records.Mode.TheVariants.{Refresh, Delta}
use Rattle.lease_table.specs.Leases.{way_of}
use Rattle.key_shard.specs.Permit.{Permit}
use Rattle.mc_text.specs.declared.commands.Command.{Command}
use Rattle.mc_text.specs.declared.commands.Command.TheVariants.{Begin, IqGet, Ask, Stage, IqSet, QaReg, QaRead, IqDelta, Sql, Dar, Sar}
use Rattle.mc_text.specs.declared.commands.Command.TheVariants.{IqCommit, IqAbort, Unknown}
use Rattle.mc_text.specs.declared.replies.LineReply.{LineReply}
use Rattle.mc_text.specs.declared.replies.LineReply.TheVariants as LineReply
use Rattle.conn_server.specs.declared.clients.Client.{Client}
use Rattle.conn_server.specs.declared.clients.Present.{Present}
use Rattle.conn_server.specs.Clients.{is_reading, has_committed, is_busy, is_full, is_present, grant_on}

-- the word that a command has for a key, which may be no key of the cache
abbrev pub key_word : Command → Option (Option QKey)
key_word (IqGet key sid floor) = Some key
key_word (Ask key sid) = Some key
key_word (Stage key sid txn) = Some key
key_word (IqSet key flags exptime bytes token stamp block) = Some key
key_word (QaReg key sid) = Some key
key_word (QaRead key sid) = Some key
key_word (IqDelta key sid by) = Some key
key_word (Dar key sid) = Some key
key_word (Sar key flags exptime bytes sid block) = Some key
key_word (IqCommit key sid) = Some key
key_word other = None

-- the session that a command names
abbrev pub named_sid : Command → Option Sid
named_sid (IqGet key sid floor) = Some sid
named_sid (Ask key sid) = Some sid
named_sid (Stage key sid txn) = Some sid
named_sid (QaReg key sid) = Some sid
named_sid (QaRead key sid) = Some sid
named_sid (IqDelta key sid by) = Some sid
named_sid (Sql sid txn) = Some sid
named_sid (Dar key sid) = Some sid
named_sid (Sar key flags exptime bytes sid block) = Some sid
named_sid (IqCommit key sid) = Some sid
named_sid (IqAbort sid) = Some sid
named_sid other = None

-- a command of no verb
abbrev pub is_unknown : Command → Bool
is_unknown Unknown = true
is_unknown other = false

-- a command that begins a session
abbrev pub begins : Command → Bool
begins (Begin role) = true
begins other = false

-- a command that quarantines a key
abbrev pub quarantines : Command → Bool
quarantines (QaReg key sid) = true
quarantines (QaRead key sid) = true
quarantines (IqDelta key sid by) = true
quarantines other = false

-- a command that releases the quarantine of a key
abbrev pub releases : Command → Bool
releases (Dar key sid) = true
releases (Sar key flags exptime bytes sid block) = true
releases (IqCommit key sid) = true
releases other = false

-- a command that a session which only reads may not say
abbrev pub writes : Command → Bool
writes (Stage key sid txn) = true
writes (Sql sid txn) = true
writes (IqAbort sid) = true
writes other = quarantines other || releases other

-- the word for a key is of no key of the cache
abbrev pub is_no_key : Option (Option QKey) → Bool
is_no_key (Some None) = true
is_no_key other = false

-- the flags of a block, and its time of expiry
abbrev pub flags_of : Command → ℕ
flags_of (IqSet key flags exptime bytes token stamp block) = flags
flags_of (Sar key flags exptime bytes sid block) = flags
flags_of other = 0

abbrev pub exptime_of : Command → ℕ
exptime_of (IqSet key flags exptime bytes token stamp block) = exptime
exptime_of (Sar key flags exptime bytes sid block) = exptime
exptime_of other = 0

-- the command names a session, and not the present one
abbrev pub is_of_another : Option Present → Option Sid → Bool
is_of_another present (Some sid) = not (is_present present sid)
is_of_another present None = false

-- the command would add to what is no count
abbrev pub shifts_no_count : Command → Bool
shifts_no_count (IqDelta (Some key) sid by) = not (is_count key)
shifts_no_count other = false

-- the grant that a command is about: the one that the present session was given first on the key
abbrev pub grant_for : List Permit → Option (Option QKey) → Option Permit
grant_for grants (Some (Some key)) = grant_on key grants
grant_for grants other = None

-- whether a grant is of this mode
abbrev pub in_mode : Mode → Option Permit → Bool
in_mode mode (Some grant) = same_way (way_of mode) (way_of grant.mode)
in_mode mode None = false

-- the command would put a value, or add to one, and the grant is of another mode
abbrev pub is_other_mode : Command → Option Permit → Bool
is_other_mode (Sar key flags exptime bytes sid block) grant = not (in_mode Refresh grant)
is_other_mode (IqCommit key sid) grant = not (in_mode Delta grant)
is_other_mode other grant = false

-- the errors in the order in which they are tried, and whether each is due
abbrev pub refusals : Client → Command → List (Bool × LineReply)
refusals client said =
    (is_unknown said, LineReply.Error)
    ∷ (begins said && is_busy client, LineReply.SessionBusy)
    ∷ (is_no_key (key_word said), LineReply.NotQueryKey)
    ∷ (not (flags_of said == 0), LineReply.Flags)
    ∷ (not (exptime_of said == 0), LineReply.Exptime)
    ∷ (is_of_another client.present (named_sid said), LineReply.NotYours)
    ∷ (writes said && is_reading client.present, LineReply.ReadSession)
    ∷ (quarantines said && has_committed client.present, LineReply.AlreadyCommitted)
    ∷ (quarantines said && is_full client, LineReply.TooMany)
    ∷ (shifts_no_count said, LineReply.NotCount)
    ∷ (releases said && not (has_committed client.present), LineReply.NotCommitted)
    ∷ (releases said && not (is_some (grant_for client.grants.items (key_word said))), LineReply.NoGrant)
    ∷ (is_other_mode said (grant_for client.grants.items (key_word said)), LineReply.WrongMode)
    ∷ []

-- the first reply that is due
abbrev pub first_due : List (Bool × LineReply) → Option LineReply
first_due [] = None
first_due ((due, reply) ∷ others) = if due then Some reply else first_due others

-- the error that a release is told where its session may write and its key is one, if it is told one
abbrev pub release_refused : Client → Command → Option LineReply
release_refused client said =
    first_due ((not (has_committed client.present), LineReply.NotCommitted)
    ∷ (not (is_some (grant_for client.grants.items (key_word said))), LineReply.NoGrant)
    ∷ (is_other_mode said (grant_for client.grants.items (key_word said)), LineReply.WrongMode)
    ∷ [])

-- the error that a command is told without the desk, if it is told one
unfoldable pub refused : Client → Command → Option LineReply
refused client said = first_due (refusals client said)
