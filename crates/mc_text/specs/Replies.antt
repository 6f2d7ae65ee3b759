-- The text of each reply.
use Rattle.std.specs.Prelude.{ℕ, ◌≡◌, List, [], ◌++◌, length, codes, decimal}
use Rattle.lease_table.specs.declared.records.Mode.{Mode}
use Rattle.lease_table.specs.declared.records.Mode.TheVariants.{Invalidate, Refresh, Delta}
use Rattle.rows_model.specs.declared.keys.QKey.{QKey}
use Rattle.rows_model.specs.Key.{key_text}
use Rattle.mc_text.specs.declared.replies.LineReply.{LineReply}
use Rattle.mc_text.specs.declared.replies.LineReply.TheVariants as LineReply

-- the word of a mode
abbrev pub mode_word : Mode → List ℕ
mode_word Invalidate = codes "invalidate"
mode_word Refresh = codes "refresh"
mode_word Delta = codes "delta"

-- a line: its text and CR LF
abbrev pub line : List ℕ → List ℕ
line text = text ++ codes "\r\n"

-- a value in three lines: what is told of it, its bytes, and `END`
abbrev pub value_text : QKey → List ℕ → List ℕ → List ℕ
value_text key value more =
    line (codes "VALUE " ++ key_text key ++ codes " 0 " ++ decimal (length value) ++ more) ++ line value ++ line (codes "END")

-- the front of the first line of a value
abbrev pub value_head : QKey → ℕ → List ℕ
value_head key len = codes "VALUE " ++ key_text key ++ codes " 0 " ++ decimal len

-- the end of the first line of a value, and the two lines behind it
abbrev pub block_text : List ℕ → List ℕ
block_text block = codes "\r\n" ++ line block ++ line (codes "END")

-- what was written stands behind what stood there before
pub record BeginsWith (old new : List ℕ) : Type 0 where
  pub part : List ℕ
  pub behind : new ≡ old ++ part

-- a value with its stamp, which stands where memcached has the number of an entry
abbrev pub stamped_text : QKey → ℕ → List ℕ → List ℕ
stamped_text key stamp value = value_text key value (codes " " ++ decimal stamp)

-- a refusal that the client could have known
abbrev pub client_error : List ℕ → List ℕ
client_error text = line (codes "CLIENT_ERROR " ++ text)

-- a refusal of the server
abbrev pub server_error : List ℕ → List ℕ
server_error text = line (codes "SERVER_ERROR " ++ text)

-- the text of a reply
unfoldable pub text_of : LineReply → List ℕ
text_of (LineReply.Session sid) = line (codes "SESSION " ++ decimal sid.number)
text_of (LineReply.Stamped key stamp value) = stamped_text key stamp value
text_of (LineReply.Unstamped key value) = value_text key value []
text_of (LineReply.Lease token) = line (codes "LEASE " ++ decimal token)
text_of LineReply.AgainI = line (codes "AGAIN I")
text_of LineReply.AgainQ = line (codes "AGAIN Q")
text_of LineReply.Own = line (codes "OWN")
text_of (LineReply.Rejected index) = line (codes "REJECTED " ++ decimal index)
text_of LineReply.Stored = line (codes "STORED")
text_of LineReply.NotStored = line (codes "NOT_STORED")
text_of (LineReply.Granted token) = line (codes "GRANTED " ++ decimal token)
text_of (LineReply.GrantedStamped token key stamp value) =
    line (codes "GRANTED " ++ decimal token) ++ stamped_text key stamp value
text_of (LineReply.GrantedNone token) = line (codes "GRANTED " ++ decimal token) ++ line (codes "END")
text_of LineReply.Held = line (codes "HELD")
text_of (LineReply.Refused holder mode) =
    line (codes "REFUSED " ++ decimal holder.number ++ codes " " ++ mode_word mode)
text_of (LineReply.Committed commit) = line (codes "COMMITTED " ++ decimal commit)
text_of LineReply.Ended = line (codes "ENDED")
text_of (LineReply.Uncovered key) = line (codes "UNCOVERED " ++ key_text key)
text_of LineReply.Deleted = line (codes "DELETED")
text_of LineReply.NotFound = line (codes "NOT_FOUND")
text_of (LineReply.Released count) = line (codes "RELEASED " ++ decimal count)
text_of LineReply.Error = line (codes "ERROR")
text_of LineReply.BadLine = client_error (codes "bad line")
text_of LineReply.LongLine = client_error (codes "long line")
text_of LineReply.BadBlock = client_error (codes "bad block")
text_of LineReply.BigBlock = client_error (codes "big block")
text_of LineReply.SessionBusy = client_error (codes "session busy")
text_of LineReply.NotQueryKey = client_error (codes "not a query key")
text_of LineReply.Flags = client_error (codes "flags")
text_of LineReply.Exptime = client_error (codes "exptime")
text_of LineReply.NotYours = client_error (codes "not yours")
text_of LineReply.ReadSession = client_error (codes "read session")
text_of LineReply.AlreadyCommitted = client_error (codes "committed")
text_of LineReply.TooMany = client_error (codes "too many")
text_of LineReply.NotCount = client_error (codes "not count")
text_of LineReply.NotCommitted = client_error (codes "not committed")
text_of LineReply.NoGrant = client_error (codes "no grant")
text_of LineReply.WrongMode = client_error (codes "mode")
text_of LineReply.Spent = server_error (codes "spent")
text_of LineReply.Full = server_error (codes "full")
text_of LineReply.Store = server_error (codes "store")
text_of LineReply.Memory = server_error (codes "memory")
