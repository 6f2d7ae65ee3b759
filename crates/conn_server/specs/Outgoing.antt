-- What a client is told of a command, what is written of it, and which calls on the plain desk it rests on.
use Rattle.std.specs.Prelude.{ℕ, ◌≡◌, ⊤, Bool, true, false, List, [], ◌∷◌, ◌++◌, codes}
use Rattle.mc_text.specs.Replies.{text_of, line}
use Rattle.mc_text.specs.PlainReplies.{plain_text}
use Rattle.mc_text.specs.declared.faults.FrameFault.{FrameFault}
use Rattle.mc_text.specs.declared.faults.FrameFault.TheVariants as frame
use Rattle.mc_text.specs.declared.replies.LineReply.TheVariants as line_reply
use Rattle.mc_text.specs.declared.plain_lines.PlainSaid.{PlainSaid}
use Rattle.mc_text.specs.declared.plain_lines.PlainSaid.TheVariants.{Asks, QueryKey, Exptime}
use Rattle.mc_text.specs.declared.plain_replies.PlainReply.{PlainReply}
use Rattle.mc_text.specs.declared.plain_replies.PlainReply.TheVariants as PlainReply
use Rattle.plain_ops.specs.Desks.{PlainCall, Belongs}
use Rattle.conn_server.specs.declared.outgoing.Response.{Response}
use Rattle.conn_server.specs.declared.outgoing.Response.TheVariants.{Lease, Plain}
use Rattle.mixed_lines.specs.Items.{Item, plain}

-- what is written: nothing of a plain command whose client wants no reply
abbrev pub response_text : Response → List ℕ
response_text (Lease reply) = text_of reply
response_text (Plain reply true) = []
response_text (Plain reply false) = plain_text reply

-- the line behind the last of the items that were found
abbrev pub end_text : List ℕ
end_text = line (codes "END")

-- no item is told, or none is written
abbrev pub HasNoItem : Response → Type 0
HasNoItem (Plain (PlainReply.Values found) false) = found ≡ []
HasNoItem (Plain (PlainReply.Uniques found) false) = found ≡ []
HasNoItem response = ⊤

-- the reply belongs to the plain command; one that names a key of the cache, or whose item would expire, is told an error
abbrev pub IsPlainReply : PlainSaid → PlainReply → Type 0
IsPlainReply (Asks asked) reply = Belongs asked reply
IsPlainReply QueryKey reply = reply ≡ PlainReply.QueryKey
IsPlainReply Exptime reply = reply ≡ PlainReply.Exptime

-- the call on the plain desk that this rests on, where there is one
abbrev pub plain_call : PlainSaid → PlainReply → List PlainCall
plain_call (Asks asked) reply = record { command = asked; reply = reply } ∷ []
plain_call other reply = []

-- what is told of a line that isn't of its verb's form
abbrev pub bad_line_response : Response
bad_line_response = Lease line_reply.BadLine

-- what is told of a fault of the input
abbrev pub frame_response : FrameFault → Response
frame_response (frame.BadLine place) = bad_line_response
frame_response (frame.LongLine place) = Lease line_reply.LongLine
frame_response (frame.BadBlock place) = Lease line_reply.BadBlock
frame_response (frame.BigBlock place) = Lease line_reply.BigBlock
frame_response frame.Memory = Lease line_reply.Memory

-- a plain command is told a reply that belongs to it, or nothing where it wants no reply
abbrev pub IsPlainResponse : PlainSaid → Bool → Response → Type 0
IsPlainResponse said noreply (Plain reply silent) = IsPlainReply said reply × (silent ≡ noreply)
IsPlainResponse said noreply (Lease reply) = ⊥

-- the calls on the plain desk that an item and what was told of it rest on
abbrev pub plain_calls_of : Item → Response → List PlainCall
plain_calls_of (plain said noreply) (Plain reply silent) = plain_call said reply
plain_calls_of item response = []

-- those of some items, in their order
abbrev pub plain_calls : List Item → List Response → List PlainCall
plain_calls (item ∷ items) (response ∷ others) = plain_calls_of item response ++ plain_calls items others
plain_calls items responses = []
