-- The text of each reply to a plain command.
use Rattle.std.specs.Prelude.{ℕ, Bool, true, false, cond, List, [], ◌++◌, length, codes, decimal}
use Rattle.std.specs.List.{flat_map}
use Rattle.mc_text.specs.Replies.{line, client_error, server_error}
use Rattle.mc_text.specs.declared.plain_replies.Found.{Found}
use Rattle.mc_text.specs.declared.plain_replies.PlainReply.{PlainReply}
use Rattle.mc_text.specs.declared.plain_replies.PlainReply.TheVariants as PlainReply

-- the front of the first line of an item
abbrev pub item_head : Found → List ℕ
item_head found = codes "VALUE " ++ found.key ++ codes " " ++ decimal found.flags ++ codes " " ++ decimal (length found.value)

-- its end, where the unique of the item is told or isn't
abbrev pub item_end : Bool → ℕ → List ℕ
item_end is_told unique = cond is_told (codes " " ++ decimal unique) []

-- an item in two lines: what is told of it, and its bytes
abbrev pub item_text : Bool → Found → List ℕ
item_text is_told found = line (item_head found ++ item_end is_told found.unique) ++ line found.value

-- items behind one another, and `END`
abbrev pub items_text : Bool → List Found → List ℕ
items_text is_told found = flat_map (item_text is_told) found ++ line (codes "END")

-- the text of a reply
unfoldable pub plain_text : PlainReply → List ℕ
plain_text (PlainReply.Values found) = items_text false found
plain_text (PlainReply.Uniques found) = items_text true found
plain_text PlainReply.Stored = line (codes "STORED")
plain_text PlainReply.NotStored = line (codes "NOT_STORED")
plain_text PlainReply.Exists = line (codes "EXISTS")
plain_text PlainReply.NotFound = line (codes "NOT_FOUND")
plain_text PlainReply.Deleted = line (codes "DELETED")
plain_text (PlainReply.Number number) = line (decimal number)
plain_text PlainReply.QueryKey = client_error (codes "query key")
plain_text PlainReply.Exptime = client_error (codes "exptime")
plain_text PlainReply.NotNumber = client_error (codes "not a number")
plain_text PlainReply.Spent = server_error (codes "spent")
plain_text PlainReply.Full = server_error (codes "full")
plain_text PlainReply.Memory = server_error (codes "memory")
