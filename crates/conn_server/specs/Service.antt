-- What a connection was given, what it took, what it asked of the desk, and how it ended.
use Rattle.std.specs.Prelude.{ℕ, ◌+◌, ◌-◌, ◌^◌, ◌≡◌, ◌<◌, ◌≤◌, ◌⊎◌, ⊤, min, List, [], ◌∷◌, ◌++◌, length, drop, Option, Some, None}
use Rattle.iq_outside.specs.Outside.{Takes, Gains, Rose, AtEnd, ReadSide, WriteSide}
use Rattle.mc_text.specs.declared.commands.Command.TheVariants.{Quit}
use Rattle.mc_text.specs.declared.faults.FrameFault.{FrameFault}
use Rattle.mc_text.specs.declared.faults.FrameFault.TheVariants as frame
use Rattle.mc_text.specs.declared.replies.LineReply.TheVariants as LineReply
use Rattle.session_client.specs.Desks.{Exchange}
use Rattle.plain_ops.specs.Desks.{PlainCall, with_plain_calls}
use Rattle.conn_server.specs.declared.clients.Client.{Client}
use Rattle.conn_server.specs.declared.ends.LineEnd.{LineEnd}
use Rattle.conn_server.specs.declared.ends.LineEnd.TheVariants as ends
use Rattle.conn_server.specs.declared.outgoing.Response.{Response}
use Rattle.conn_server.specs.declared.outgoing.Response.TheVariants.{Lease}
use Rattle.mixed_lines.specs.Items.{Item, command, long_line, bad_block, big_block, IsFirst, IsOpen, AreFirst}
use Rattle.conn_server.specs.Outgoing.{response_text, plain_calls}
use Rattle.conn_server.specs.Clients.{newcomer}
use Rattle.conn_server.specs.Answers.{AllAnswer, with_calls}
use Rattle.conn_server.specs.Closing.{Leaves, OnlyWritersHold}

-- how many commands one connection is answered at most
abbrev pub budget : ℕ
budget = 1000000

-- the texts of replies, one behind the other
abbrev pub texts : List Response → List ℕ
texts [] = []
texts (response ∷ others) = response_text response ++ texts others

-- a fault that lasts stands next in the stream, and its client is told this
abbrev pub Lasts : List ℕ → FrameFault → Response → Type 0
Lasts rest (frame.LongLine place) response = IsFirst rest long_line 0 × (response ≡ Lease LineReply.LongLine)
Lasts rest (frame.BadBlock place) response = IsFirst rest bad_block 0 × (response ≡ Lease LineReply.BadBlock)
Lasts rest (frame.BigBlock place) response = IsFirst rest big_block 0 × (response ≡ Lease LineReply.BigBlock)
Lasts rest other response = ⊥

-- where in the stream a fault stands
abbrev pub place_of : FrameFault → ℕ
place_of (frame.BadLine place) = place
place_of (frame.LongLine place) = place
place_of (frame.BadBlock place) = place
place_of (frame.BigBlock place) = place
place_of frame.Memory = 0

-- the line took all the replies
abbrev pub TookAll : List ℕ → List Response → Type 0
TookAll taken responses = taken ≡ texts responses

-- it took a beginning of them
abbrev pub TookSome : List ℕ → List Response → Type 0
TookSome taken responses = (rest : List ℕ) × (texts responses ≡ taken ++ rest)

-- a fault that lasts stands next, and the line took a beginning of the replies and of what is told of the fault
pub record TookToFault (rest taken : List ℕ) (responses : List Response) : Type 0 where
  pub fault : FrameFault
  pub last : Response
  pub lasts : Lasts rest fault last
  pub some : TookSome taken (responses ++ last ∷ [])

-- so many commands were answered, and another may be
abbrev pub IsWithin : List Item → Type 0
IsWithin items = length items < budget

-- how a connection ended whose items took so many bytes of the stream, with this behind them
abbrev pub EndsSo : LineEnd → List Item → ℕ → List ℕ → List ℕ → List Response → Type 0
EndsSo ends.Quit items size rest taken responses =
    IsWithin items × ((more : ℕ) × IsFirst rest (command Quit) more) × TookAll taken responses
EndsSo (ends.Closed left) items size rest taken responses =
    IsWithin items × IsOpen rest × (left ≡ length rest) × TookAll taken responses
EndsSo (ends.Shut fault) items size rest taken responses =
    IsWithin items × (place_of fault ≡ min size (2 ^ 64 - 1))
    × ((last : Response) × Lasts rest fault last × TookAll taken (responses ++ last ∷ []))
EndsSo ends.Budget items size rest taken responses = (length items ≡ budget) × TookAll taken responses
EndsSo ends.ReadFault items size rest taken responses = IsWithin items × IsOpen rest × TookAll taken responses
EndsSo ends.WriteFault items size rest taken responses =
    (length items ≤ budget) × (TookSome taken responses ⊎ TookToFault rest taken responses)
EndsSo ends.Memory items size rest taken responses =
    (length items ≤ budget) × (TookSome taken responses ⊎ TookToFault rest taken responses)

-- a connection was served: the first commands and bad lines of what it was given were
-- answered in order, its client's session was then given up, and it took the replies;
-- a client whose session didn't write, or that had none, held no grant, and so had none to release
pub record Served (given taken : List ℕ) (calls : List Exchange) (plains : List PlainCall) (end : LineEnd) : Type 0 where
  pub items : List Item
  pub size : ℕ
  pub responses : List Response
  pub asked : List Exchange
  pub client : Client
  pub closing : List Exchange
  pub count : ℕ
  pub first : AreFirst given items size
  pub answers : AllAnswer newcomer items asked responses client
  pub leaves : Leaves client.present client.grants.items closing count
  pub held : OnlyWritersHold client
  pub calls_are : calls ≡ asked ++ closing
  pub plains_are : plains ≡ plain_calls items responses
  pub ends : EndsSo end items size (drop size given) taken responses

-- where the input ended the line has no byte left, where it tells its bytes
abbrev pub NoneLeft : LineEnd → Option (List ℕ) → Type 0
NoneLeft (ends.Closed left) left_new = AtEnd left_new
NoneLeft other left_new = ⊤

-- a count with so many more; one that isn't told stays untold
abbrev pub tended_by : ℕ → Option ℕ → Option ℕ
tended_by more (Some count) = Some (count + more)
tended_by more None = None

-- a line was served at two desks: what it told of its reading and its writing, what the desk records, how many steps its
-- sweep took, and what the plain desk records, each where it is told, before and after: one step of the sweep behind each
-- command and bad line that was answered
pub record IsServed (reads reads_new : ReadSide) (writes writes_new : WriteSide) (record_old record_new : Option (List Exchange))
    (plain_old plain_new : Option (List PlainCall)) (tends tends_new : Option ℕ) (end : LineEnd) : Type 0 where
  pub given : List ℕ
  pub taken : List ℕ
  pub calls : List Exchange
  pub plains : List PlainCall
  pub gives : Takes reads.left reads_new.left given
  pub adds : Gains reads.given reads_new.given given
  pub takes : Gains writes.taken writes_new.taken taken
  pub asks : record_new ≡ with_calls calls record_old
  pub asks_plain : plain_new ≡ with_plain_calls plains plain_old
  pub served : Served given taken calls plains end
  pub tended : tends_new ≡ tended_by (length served.items) tends
  pub none_left : NoneLeft end reads_new.left

-- how often reads failed, before and after: the count rose where a read failed, and is as before where the connection
-- ended by no fault of a read or a write
abbrev pub CountsReads : LineEnd → ℕ → ℕ → Type 0
CountsReads ends.ReadFault before after = Rose before after
CountsReads ends.WriteFault before after = before ≤ after
CountsReads other before after = after ≡ before

-- how often writes failed: the count rose where a write failed, and else it is as before
abbrev pub CountsWrites : LineEnd → ℕ → ℕ → Type 0
CountsWrites ends.WriteFault before after = Rose before after
CountsWrites other before after = after ≡ before
