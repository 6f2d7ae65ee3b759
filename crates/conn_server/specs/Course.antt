-- What was done so far on a connection that is served.
use Rattle.std.specs.Prelude.{ℕ, ◌+◌, ◌-◌, ◌^◌, ◌≡◌, ◌<◌, ◌≤◌, min, Bool, true, List, [], ◌++◌, length, drop, Option, Result, Ok, Err}
use Rattle.iq_outside.specs.Outside.{Takes, Gains, ReadSide, WriteSide}
use Rattle.mc_text.specs.Framing.{unfed}
use Rattle.mc_text.specs.declared.faults.FrameFault.{FrameFault}
use Rattle.mc_text.specs.declared.plain_lines.PlainSaid.{PlainSaid}
use Rattle.mc_text.specs.declared.plain_replies.PlainReply.{PlainReply}
use Rattle.session_client.specs.Desks.{Exchange}
use Rattle.plain_ops.specs.Desks.{PlainCall, with_plain_calls}
use Rattle.conn_server.specs.declared.clients.Client.{Client}
use Rattle.conn_server.specs.declared.ends.LineEnd.{LineEnd}
use Rattle.conn_server.specs.declared.ends.LineEnd.TheVariants as ends
use Rattle.conn_server.specs.declared.serving.Serving.{Serving}
use Rattle.conn_server.specs.declared.outgoing.Response.{Response}
use Rattle.mixed_lines.specs.Items.{Item, AreFirst}
use Rattle.conn_server.specs.declared.outgoing.Response.TheVariants.{Plain}
use Rattle.conn_server.specs.Outgoing.{response_text, IsPlainReply, plain_call, plain_calls}
use Rattle.conn_server.specs.Outbox.{Sends, Stops}
use Rattle.conn_server.specs.Clients.{newcomer}
use Rattle.conn_server.specs.Answers.{AllAnswer, with_calls}
use Rattle.conn_server.specs.Service.{budget, texts, IsWithin, EndsSo, NoneLeft, CountsReads, CountsWrites, tended_by}

-- as many reads as the bytes of all commands that one connection is answered: a command has 1,050,628 bytes at most
abbrev pub most_reads : ℕ
most_reads = 1050628000000

-- nothing was read, answered or written
pub record IsUnserved (serving : Serving) : Type 0 where
  pub framer : serving.framer ≡ unfed
  pub out : serving.out ≡ []
  pub client : serving.client ≡ newcomer
  pub count : serving.count ≡ 0

-- what the desks tell: the calls that each records, and how many steps the sweep took
pub record DeskSide : Type 0 where
  pub calls : Option (List Exchange)
  pub tends : Option ℕ
  pub plains : Option (List PlainCall)

abbrev pub desk_side : {Desk Plain : Type 0} → (Desk → Option (List Exchange)) → (Desk → Option ℕ) → (Plain → Option (List PlainCall)) → Desk → Plain → DeskSide
desk_side calls tends plains desk plain = record { calls = calls desk; tends = tends desk; plains = plains plain }

-- what a line and a desk told when a connection began
pub record Start : Type 0 where
  pub reads : ReadSide
  pub writes : WriteSide
  pub desk : DeskSide

-- the items that stand first in what the line gave were answered, beginning with a newcomer, with a step of the sweep behind each;
-- and what the line took since then
pub record Done (start : Start) (reads : ReadSide) (writes : WriteSide) (desk : DeskSide) (client : Client) : Type 0 where
  pub given : List ℕ
  pub items : List Item
  pub size : ℕ
  pub responses : List Response
  pub asked : List Exchange
  pub sent : List ℕ
  pub gives : Takes start.reads.left reads.left given
  pub adds : Gains start.reads.given reads.given given
  pub takes : Gains start.writes.taken writes.taken sent
  pub asks : desk.calls ≡ with_calls asked start.desk.calls
  pub tended : desk.tends ≡ tended_by (length items) start.desk.tends
  pub asks_plain : desk.plains ≡ with_plain_calls (plain_calls items responses) start.desk.plains
  pub first : AreFirst given items size
  pub answers : AllAnswer newcomer items asked responses client
  pub read_faults : start.reads.faults ≤ reads.faults
  pub write_faults : start.writes.faults ≤ writes.faults

-- a connection goes on: its framer has what is left of the bytes that so many reads gave, and what was told and not yet taken stands to be written
pub record Course (start : Start) (rounds : ℕ) (reads : ReadSide) (writes : WriteSide) (desk : DeskSide) (serving : Serving) : Type 0 where
  pub done : Done start reads writes desk serving.client
  pub within : IsWithin done.items
  pub count : serving.count ≡ length done.items
  pub due : texts done.responses ≡ done.sent ++ serving.out
  pub rest : serving.framer.rest ≡ drop done.size done.given
  pub place : serving.framer.place ≡ min done.size (2 ^ 64 - 1)
  pub fed : rounds ≤ length done.given
  pub few : rounds ≤ most_reads
  pub no_read_fault : reads.faults ≡ start.reads.faults
  pub no_write_fault : writes.faults ≡ start.writes.faults

-- the counts of the line's faults are those of this end
abbrev pub CountsAt : LineEnd → Start → ReadSide → WriteSide → Type 0
CountsAt end start reads writes = CountsReads end start.reads.faults reads.faults × CountsWrites end start.writes.faults writes.faults

-- a connection ends so, once what stands to be written is written
pub record Ending (end : LineEnd) (start : Start) (reads : ReadSide) (writes : WriteSide) (desk : DeskSide) (serving : Serving) : Type 0 where
  pub done : Done start reads writes desk serving.client
  pub ends : EndsSo end done.items done.size (drop done.size done.given) (done.sent ++ serving.out) done.responses
  pub counts : CountsAt end start reads writes
  pub none_left : NoneLeft end reads.left

-- a connection at a moment: what its line tells of reads and writes, what its desks tell, and what is served
pub record Moment : Type 0 where
  pub reads : ReadSide
  pub writes : WriteSide
  pub desk : DeskSide
  pub serving : Serving

abbrev pub moment : {Line Desk Plain : Type 0} → (Line → ReadSide) → (Line → WriteSide) → (Desk → Option (List Exchange)) → (Desk → Option ℕ)
    → (Plain → Option (List PlainCall)) → Line → Desk → Plain → Serving → Moment
moment reads writes calls tends plains line desk plain serving =
    record { reads = reads line; writes = writes line; desk = desk_side calls tends plains desk plain; serving = serving }

-- a connection that went on until the one moment goes on until the other, without a read
abbrev pub GoesOn : Moment → Moment → Type 0
GoesOn old new = (start : Start) (rounds : ℕ) →
    Course start rounds old.reads old.writes old.desk old.serving →
    Course start rounds new.reads new.writes new.desk new.serving

-- the same with one read
abbrev pub ReadsOn : Moment → Moment → Type 0
ReadsOn old new = (start : Start) (rounds : ℕ) →
    Course start rounds old.reads old.writes old.desk old.serving →
    Course start (rounds + 1) new.reads new.writes new.desk new.serving

-- a connection that went on until the one moment ends so at the other
abbrev pub EndsFrom : Moment → Moment → LineEnd → Type 0
EndsFrom old new end = (start : Start) (rounds : ℕ) →
    Course start rounds old.reads old.writes old.desk old.serving →
    Ending end start new.reads new.writes new.desk new.serving

-- a reply was counted and put behind what waits, unless memory ran out for it or a write failed; more is answered while the budget lasts
abbrev pub Tells : Result Bool LineEnd → Response → WriteSide → WriteSide → List ℕ → Serving → Type 0
Tells (Ok more) reply before after waited new =
    (more ≡ true) × (new.count < budget) × Sends before after (waited ++ response_text reply) new.out
Tells (Err ends.Budget) reply before after waited new =
    (new.count ≡ budget) × Sends before after (waited ++ response_text reply) new.out
Tells (Err end) reply before after waited new = Stops end before after (waited ++ response_text reply) new.out

-- a plain command was carried out and counted, and the reply that belongs to it was put behind what waits
pub record TellsPlain (result : Result Bool LineEnd) (said : PlainSaid) (noreply : Bool) (plain_old plain_new : Option (List PlainCall))
    (before after : WriteSide) (waited : List ℕ) (new : Serving) : Type 0 where
  pub reply : PlainReply
  pub belongs : IsPlainReply said reply
  pub recorded : plain_new ≡ with_plain_calls (plain_call said reply) plain_old
  pub tells : Tells result (Plain reply noreply) before after waited new

-- what is told of a fault was put behind what waits, unless memory ran out for it or a write failed
abbrev pub Shuts : LineEnd → FrameFault → Response → WriteSide → WriteSide → List ℕ → List ℕ → Type 0
Shuts (ends.Shut found) fault last before after old new = (found ≡ fault) × Sends before after (old ++ response_text last) new
Shuts end fault last before after old new = Stops end before after (old ++ response_text last) new
