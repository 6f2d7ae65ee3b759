-- What was done so far on a connection, one item further.
use Rattle.std.proofs.Common.{ℕ, ◌+◌, ◌-◌, ◌^◌, ◌≡◌, ◌<◌, ◌≤◌, ◌⊎◌, inl, inr, List, [], ◌∷◌, ◌++◌, length, take, drop, Option, Some, None, arith}
use Rattle.std.proofs.Common.{refl, sym, ap, subst, ◌∙◌, append_assoc, append-nil, add-zero}
use Rattle.std.specs.Prelude.{min, Bool, false, Result, Ok, Err, OnOk, IfErr}
use Rattle.std.proofs.lemmas.Bool.{cases_lt}
use Rattle.std.proofs.lemmas.List.{drop-drop, drop-append-le, length-append, length-drop, take-append-drop}
use Rattle.iq_outside.specs.Outside.{Takes, Gains, Rose, AtEnd, ZeroAtEnd, ReadSide, WriteSide}
use Rattle.iq_outside.proofs.OutsideLemmas.{Takes-append, Takes-none, Gains-append, Gains-none, AtEnd-zero, Rose-later}
use Rattle.mc_text.specs.Framing.{Frames, past, fed}
use Rattle.mc_text.specs.declared.commands.Command.TheVariants.{Quit}
use Rattle.mc_text.specs.declared.faults.FrameFault.{FrameFault}
use Rattle.mc_text.specs.declared.faults.FrameFault.TheVariants as frame
use Rattle.mc_text.specs.declared.replies.LineReply.TheVariants as LineReply
use Rattle.session_client.specs.Desks.{Exchange, one_more}
use Rattle.plain_ops.specs.Desks.{PlainCall, with_plain_call, with_plain_calls}
use Rattle.conn_server.specs.declared.clients.Client.{Client}
use Rattle.conn_server.specs.declared.ends.LineEnd.{LineEnd}
use Rattle.conn_server.specs.declared.ends.LineEnd.TheVariants as ends
use Rattle.conn_server.specs.declared.serving.Serving.{Serving}
use Rattle.conn_server.specs.declared.outgoing.Response.{Response}
use Rattle.conn_server.specs.declared.outgoing.Response.TheVariants.{Lease}
use Rattle.mixed_lines.specs.declared.streams.Said.{Said}
use Rattle.mixed_lines.specs.Fronts.{Reads as IsRead, Faults, item_of, Takes as FrameTakes}
use Rattle.mixed_lines.specs.Items.{Item, command, bad_line, IsFirst, IsOpen, AreFirst}
use Rattle.conn_server.specs.Outgoing.{response_text, plain_calls_of, plain_calls, frame_response}
use Rattle.conn_server.specs.Clients.{newcomer}
use Rattle.conn_server.specs.Answers.{ItemAnswers, AllAnswer, GivenUp, with_calls}
use Rattle.conn_server.specs.Service.{budget, texts, IsWithin, Lasts, place_of, TookSome, TookToFault, EndsSo, NoneLeft, IsServed, CountsWrites, tended_by}
use Rattle.conn_server.specs.Outbox.{Sends, SendsSome, Flushes, Finishes}
use Rattle.conn_server.specs.Course.{most_reads, DeskSide, IsUnserved, Start, Done, Course, CountsAt, Ending, Tells, Shuts}
use Rattle.conn_server.proofs.ClosingLemmas.{with_calls-append}
use Rattle.conn_server.proofs.HeldLemmas.{only_writers_hold}
use Rattle.mixed_lines.proofs.ItemLemmas.{item_fits, first_more, first_bound, item_open_bound}

-- one item more
first_one : (stream : List ℕ) (items : List Item) (item : Item) (size taken : ℕ)
    → AreFirst stream items size → IsFirst (drop size stream) item taken → AreFirst stream (items ++ item ∷ []) (size + taken)
first_one stream [] item size taken h s =
    let here : IsFirst stream item taken = rw h at s in
    (taken, 0, here, refl, omega (arith, h))
first_one stream (i ∷ items) item size taken h s =
    let (one, others, stands, rest, sum) = h in
    let behind : drop size stream ≡ drop others (drop one stream) = ap (λ (n : ℕ). drop n stream) sum ∙ sym (drop-drop others one stream) in
    let more = first_one (drop one stream) items item others taken rest (subst (λ (bytes : List ℕ). IsFirst bytes item taken) behind s) in
    (one, others + taken, stands, more, omega (arith, sum))

all_one : (old : Client) (items : List Item) (asked : List Exchange) (responses : List Response) (client : Client)
    (item : Item) (calls : List Exchange) (reply : Response) (new : Client)
    → AllAnswer old items asked responses client → ItemAnswers client item calls reply new
    → AllAnswer old (items ++ item ∷ []) (asked ++ calls) (responses ++ reply ∷ []) new
all_one old [] asked responses client item calls reply new h a =
    let here : ItemAnswers old item calls reply new = rw h.2 at a in (
      calls,
      [],
      reply,
      [],
      new,
      here,
      (refl, refl, refl),
      ap (λ (xs : List Exchange). xs ++ calls) h.0 ∙ sym (append-nil calls),
      ap (λ (xs : List Response). xs ++ reply ∷ []) h.1,
    )
all_one old (i ∷ items) asked responses client item calls reply new h a =
    let (first, others, r, replies, next, here, rest, calls_are, told_are) = h in
    let more = all_one next items others replies client item calls reply new rest a in (
      first,
      others ++ calls,
      r,
      replies ++ reply ∷ [],
      next,
      here,
      more,
      ap (λ (xs : List Exchange). xs ++ calls) calls_are ∙ append_assoc first others calls,
      ap (λ (xs : List Response). xs ++ reply ∷ []) told_are,
    )

-- calls on the plain desk, one behind the other
with_plain_calls-append : (calls more : List PlainCall) (recorded : Option (List PlainCall))
    → with_plain_calls (calls ++ more) recorded ≡ with_plain_calls more (with_plain_calls calls recorded)
with_plain_calls-append [] more recorded = refl
with_plain_calls-append (call ∷ calls) more recorded = with_plain_calls-append calls more (with_plain_call call recorded)

-- those of one item more
plains_one : (old : Client) (items : List Item) (asked : List Exchange) (responses : List Response) (client : Client) (item : Item) (reply : Response)
    → AllAnswer old items asked responses client
    → plain_calls (items ++ item ∷ []) (responses ++ reply ∷ []) ≡ plain_calls items responses ++ plain_calls_of item reply
plains_one old [] asked responses client item reply h =
    let all : plain_calls (item ∷ []) ([] ++ reply ∷ []) ≡ plain_calls_of item reply = append-nil (plain_calls_of item reply) in
    subst (λ (ts : List Response). plain_calls (item ∷ []) (ts ++ reply ∷ []) ≡ plain_calls [] ts ++ plain_calls_of item reply) (sym h.1) all
plains_one old (i ∷ items) asked responses client item reply h =
    let (first, others, r, replies, next, here, rest, calls_are, told_are) = h in
    let more = plains_one next items others replies client item reply rest in
    subst (λ (ts : List Response). plain_calls (i ∷ (items ++ item ∷ [])) (ts ++ reply ∷ []) ≡ plain_calls (i ∷ items) ts ++ plain_calls_of item reply)
    (sym told_are)
    (ap (λ (xs : List PlainCall). plain_calls_of i r ++ xs) more
    ∙ sym (append_assoc (plain_calls_of i r) (plain_calls items replies) (plain_calls_of item reply)))

texts_one : (responses : List Response) (reply : Response) → texts (responses ++ reply ∷ []) ≡ texts responses ++ response_text reply
texts_one [] reply = append-nil (response_text reply)
texts_one (t ∷ responses) reply =
    ap (λ (xs : List ℕ). response_text t ++ xs) (texts_one responses reply) ∙ sym (append_assoc (response_text t) (texts responses) (response_text reply))

-- what is told once more is due behind what was sent
due_more : (responses : List Response) (reply : Response) (sent old : List ℕ)
    → texts responses ≡ sent ++ old → texts (responses ++ reply ∷ []) ≡ sent ++ (old ++ response_text reply)
due_more responses reply sent old due =
    texts_one responses reply ∙ (ap (λ (xs : List ℕ). xs ++ response_text reply) due ∙ append_assoc sent old (response_text reply))

-- more of it was sent
due_sent : (front sent waits due : List ℕ) → due ≡ sent ++ waits → front ++ due ≡ (front ++ sent) ++ waits
due_sent front sent waits due all = ap (λ (xs : List ℕ). front ++ xs) all ∙ sym (append_assoc front sent waits)

-- and some was lost
due_lost : (front sent waits lost due : List ℕ) → due ≡ (sent ++ waits) ++ lost → front ++ due ≡ ((front ++ sent) ++ waits) ++ lost
due_lost front sent waits lost due some =
    ap (λ (xs : List ℕ). front ++ xs) some
    ∙ (sym (append_assoc front (sent ++ waits) lost) ∙ ap (λ (xs : List ℕ). xs ++ lost) (sym (append_assoc front sent waits)))

-- a place that stops at the end of its type
place_more : (size taken place end : ℕ) → place ≡ min size end → min (place + taken) end ≡ min (size + taken) end
place_more size taken place end is = by (cases_lt size end)
  where
    by : (size < end) ⊎ (end ≤ size) → min (place + taken) end ≡ min (size + taken) end
    by (inl l) = let same : place ≡ size = omega (arith, is) in ap (λ (n : ℕ). min (n + taken) end) same
    by (inr l) = let same : place ≡ end = omega (arith, is) in omega arith

-- a desk's sweep took as many steps as items were answered, and one for one item more
tended_one : (items : List Item) (item : Item) (tends : Option ℕ)
    → one_more (tended_by (length items) tends) ≡ tended_by (length (items ++ item ∷ [])) tends
tended_one items item None = refl
tended_one items item (Some count) = ap Some (omega (arith, length-append items (item ∷ [])))

tended_none : (tends : Option ℕ) → tends ≡ tended_by 0 tends
tended_none None = refl
tended_none (Some count) = ap Some (sym (add-zero count))

abbrev done_one : (start : Start) (reads : ReadSide) (writes : WriteSide) (before after : DeskSide) (client new : Client)
    (done : Done start reads writes before client) (item : Item) (taken : ℕ) (calls : List Exchange) (reply : Response)
    → IsFirst (drop done.size done.given) item taken → after.calls ≡ with_calls calls before.calls → after.tends ≡ one_more before.tends
    → after.plains ≡ with_plain_calls (plain_calls_of item reply) before.plains
    → ItemAnswers client item calls reply new
    → Done start reads writes after new
done_one start reads writes before after client new done item taken calls reply stands asks tended plains answers = record {
  given = done.given;
  items = done.items ++ item ∷ [];
  size = done.size + taken;
  responses = done.responses ++ reply ∷ [];
  asked = done.asked ++ calls;
  sent = done.sent;
  gives = done.gives;
  adds = done.adds;
  takes = done.takes;
  asks = asks ∙ (ap (with_calls calls) done.asks ∙ sym (with_calls-append done.asked calls start.desk.calls));
  tended = tended ∙ (ap one_more done.tended ∙ tended_one done.items item start.desk.tends);
  asks_plain = plains
      ∙ (ap (with_plain_calls (plain_calls_of item reply)) done.asks_plain
      ∙ (sym (with_plain_calls-append (plain_calls done.items done.responses) (plain_calls_of item reply) start.desk.plains)
      ∙ ap (λ (calls : List PlainCall). with_plain_calls calls start.desk.plains)
      (sym (plains_one newcomer done.items done.asked done.responses client item reply done.answers))));
  first = first_one done.given done.items item done.size taken done.first stands;
  answers = all_one newcomer done.items done.asked done.responses client item calls reply new done.answers answers;
  read_faults = done.read_faults;
  write_faults = done.write_faults;
}

-- what stands to be written was taken
abbrev done_sent : (start : Start) (reads : ReadSide) (old new : WriteSide) (desk : DeskSide) (client : Client) (bytes : List ℕ)
    → Gains old.taken new.taken bytes → old.faults ≤ new.faults
    → Done start reads old desk client → Done start reads new desk client
done_sent start reads old new desk client bytes gains up done = record {
  given = done.given;
  items = done.items;
  size = done.size;
  responses = done.responses;
  asked = done.asked;
  sent = done.sent ++ bytes;
  gives = done.gives;
  adds = done.adds;
  takes = Gains-append start.writes.taken old.taken new.taken done.sent bytes done.takes gains;
  asks = done.asks;
  tended = done.tended;
  asks_plain = done.asks_plain;
  first = done.first;
  answers = done.answers;
  read_faults = done.read_faults;
  write_faults = let before = done.write_faults in omega arith;
}

-- an item that stood first was taken and answered
pub record Answered (before after : DeskSide) (old new : Serving) (reply : Response) : Type 0 where
  pub item : Item
  pub taken : ℕ
  pub calls : List Exchange
  pub stands : IsFirst old.framer.rest item taken
  pub framer : new.framer ≡ past old.framer taken
  pub asks : after.calls ≡ with_calls calls before.calls
  pub tended : after.tends ≡ one_more before.tends
  pub plains : after.plains ≡ with_plain_calls (plain_calls_of item reply) before.plains
  pub answers : ItemAnswers old.client item calls reply new.client
  pub count : new.count ≡ old.count + 1

course_one : (start : Start) (rounds : ℕ) (reads : ReadSide) (writes new_writes : WriteSide) (before after : DeskSide) (old new : Serving) (reply : Response)
    → Answered before after old new reply → new.count < budget → Sends writes new_writes (old.out ++ response_text reply) new.out
    → Course start rounds reads writes before old → Course start rounds reads new_writes after new
course_one start rounds reads writes new_writes before after old new reply a few s c =
    let stands = subst (λ (bytes : List ℕ). IsFirst bytes a.item a.taken) c.rest a.stands in
    record {
      done = done_sent start reads writes new_writes after new.client s.sent s.gains (omega (arith, s.no_fault))
          (done_one start reads writes before after old.client new.client c.done a.item a.taken a.calls reply stands a.asks a.tended a.plains a.answers);
      within = omega (arith, length-append c.done.items (a.item ∷ []), a.count, c.count);
      count = omega (arith, length-append c.done.items (a.item ∷ []), a.count, c.count);
      due = due_more c.done.responses reply c.done.sent old.out c.due ∙ due_sent c.done.sent s.sent new.out (old.out ++ response_text reply) s.all;
      rest = ap (λ (f : Frames). f.rest) a.framer ∙ (ap (λ (bytes : List ℕ). drop a.taken bytes) c.rest ∙ drop-drop a.taken c.done.size c.done.given);
      place = ap (λ (f : Frames). f.place) a.framer ∙ place_more c.done.size a.taken old.framer.place (2 ^ 64 - 1) c.place;
      fed = c.fed;
      few = c.few;
      no_read_fault = c.no_read_fault;
      no_write_fault = s.no_fault ∙ c.no_write_fault;
    }

-- a beginning of what is due was sent or waits
some_due : (responses : List Response) (reply : Response) (front old : List ℕ) (writes new_writes : WriteSide) (waits : List ℕ)
    → texts responses ≡ front ++ old → (s : SendsSome writes new_writes (old ++ response_text reply) waits)
    → TookSome ((front ++ s.sent) ++ waits) (responses ++ reply ∷ [])
some_due responses reply front old writes new_writes waits due s =
    (s.lost, due_more responses reply front old due ∙ due_lost front s.sent waits s.lost (old ++ response_text reply) s.some)

-- behind its last item a connection ends
ending_one : (end : LineEnd) (start : Start) (rounds : ℕ) (reads : ReadSide) (writes new_writes : WriteSide) (before after : DeskSide)
    (old new : Serving) (reply : Response)
    → Answered before after old new reply → Tells (Err end) reply writes new_writes old.out new
    → Course start rounds reads writes before old → Ending end start reads new_writes after new
ending_one ends.Budget start rounds reads writes new_writes before after old new reply a stops c =
    let stands = subst (λ (bytes : List ℕ). IsFirst bytes a.item a.taken) c.rest a.stands in
    let s = stops.1 in
    record {
      done = done_sent start reads writes new_writes after new.client s.sent s.gains (omega (arith, s.no_fault))
          (done_one start reads writes before after old.client new.client c.done a.item a.taken a.calls reply stands a.asks a.tended a.plains a.answers);
      ends = (
        omega (arith, length-append c.done.items (a.item ∷ []), a.count, c.count, stops.0),
        sym (due_more c.done.responses reply c.done.sent old.out c.due ∙ due_sent c.done.sent s.sent new.out (old.out ++ response_text reply) s.all),
      );
      counts = (c.no_read_fault, s.no_fault ∙ c.no_write_fault);
      none_left = tt;
    }
ending_one ends.Memory start rounds reads writes new_writes before after old new reply a stops c =
    let stands = subst (λ (bytes : List ℕ). IsFirst bytes a.item a.taken) c.rest a.stands in
    let within = c.within in
    record {
      done = done_sent start reads writes new_writes after new.client stops.0.sent stops.0.gains (omega (arith, stops.1))
          (done_one start reads writes before after old.client new.client c.done a.item a.taken a.calls reply stands a.asks a.tended a.plains a.answers);
      ends = (
        omega (arith, length-append c.done.items (a.item ∷ [])),
        inl (some_due c.done.responses reply c.done.sent old.out writes new_writes new.out c.due stops.0),
      );
      counts = (c.no_read_fault, stops.1 ∙ c.no_write_fault);
      none_left = tt;
    }
ending_one ends.WriteFault start rounds reads writes new_writes before after old new reply a stops c =
    let stands = subst (λ (bytes : List ℕ). IsFirst bytes a.item a.taken) c.rest a.stands in
    let within = c.within in
    record {
      done = done_sent start reads writes new_writes after new.client stops.0.sent stops.0.gains stops.2
          (done_one start reads writes before after old.client new.client c.done a.item a.taken a.calls reply stands a.asks a.tended a.plains a.answers);
      ends = (
        omega (arith, length-append c.done.items (a.item ∷ [])),
        inl (some_due c.done.responses reply c.done.sent old.out writes new_writes new.out c.due stops.0),
      );
      counts = (c.done.read_faults, Rose-later start.writes.faults writes.faults new_writes.faults c.done.write_faults stops.1);
      none_left = tt;
    }
ending_one other start rounds reads writes new_writes before after old new reply a stops c = absurd stops

pub tells_within : (result : Result Bool LineEnd) (reply : Response) (before after : WriteSide) (waited : List ℕ) (new : Serving)
    → Tells result reply before after waited new → OnOk result (new.count < 1000000)
tells_within (Ok more) reply before after waited new t = t.1
tells_within (Err end) reply before after waited new t = tt

pub tells_more : (result : Result Bool LineEnd) (reply : Response) (before after : WriteSide) (waited : List ℕ) (new : Serving)
    → Tells result reply before after waited new → result ≡ Ok false → ⊥
tells_more (Ok more) reply before after waited new t e = let is = t.0 in absurd cc
tells_more (Err end) reply before after waited new t e = absurd cc

pub answered_goes_on : (result : Result Bool LineEnd) (reads new_reads : ReadSide) (writes new_writes : WriteSide) (before after : DeskSide)
    (old new : Serving) (reply : Response)
    → Tells result reply writes new_writes old.out new → new_reads ≡ reads → Answered before after old new reply
    → OnOk result ((start : Start) (rounds : ℕ)
    → Course start rounds reads writes before old → Course start rounds new_reads new_writes after new)
answered_goes_on (Ok more) reads new_reads writes new_writes before after old new reply t apart a =
    λ start rounds c. subst (λ (r : ReadSide). Course start rounds r new_writes after new) (sym apart)
    (course_one start rounds reads writes new_writes before after old new reply a t.1 t.2 c)
answered_goes_on (Err end) reads new_reads writes new_writes before after old new reply t apart a = tt

pub answered_ends : (result : Result Bool LineEnd) (reads new_reads : ReadSide) (writes new_writes : WriteSide) (before after : DeskSide)
    (old new : Serving) (reply : Response)
    → Tells result reply writes new_writes old.out new → new_reads ≡ reads → Answered before after old new reply
    → IfErr result (λ end. (start : Start) (rounds : ℕ)
    → Course start rounds reads writes before old → Ending end start new_reads new_writes after new)
answered_ends (Ok more) reads new_reads writes new_writes before after old new reply t apart a = tt
answered_ends (Err end) reads new_reads writes new_writes before after old new reply t apart a =
    λ start rounds c. subst (λ (r : ReadSide). Ending end start r new_writes after new) (sym apart)
    (ending_one end start rounds reads writes new_writes before after old new reply a t c)

-- what was read
pub next_said : (old new : Frames) (r : Result (Option Said) FrameFault) (said : Said)
    → IsRead old r new → r ≡ Ok (Some said) → FrameTakes old (item_of said) new
next_said old new r said a is = subst (λ (x : Result (Option Said) FrameFault). IsRead old x new) is a

pub next_none : (old new : Frames) (r : Result (Option Said) FrameFault) → IsRead old r new → r ≡ Ok None → new ≡ old
next_none old new r a is = (subst (λ (x : Result (Option Said) FrameFault). IsRead old x new) is a).1

pub next_fault : (old new : Frames) (r : Result (Option Said) FrameFault) (found fault : FrameFault)
    → IsRead old r new → r ≡ Err found → found ≡ fault → Faults old fault new
next_fault old new r found fault a is same =
    subst (λ (x : FrameFault). Faults old x new) same (subst (λ (x : Result (Option Said) FrameFault). IsRead old x new) is a)

-- a bad line is answered
pub bad_line_answered : (before after : DeskSide) (old new : Serving) (place : ℕ) (frames : Frames)
    → Faults old.framer (frame.BadLine place) frames → new.framer ≡ frames → after.calls ≡ before.calls → after.tends ≡ one_more before.tends
    → after.plains ≡ before.plains → new.client ≡ old.client → new.count ≡ old.count + 1
    → Answered before after old new (Lease LineReply.BadLine)
bad_line_answered before after old new place frames f framer asks tended plains client count = record {
  item = bad_line;
  taken = f.1.taken;
  calls = [];
  stands = f.1.stands;
  framer = framer ∙ f.1.goes_on;
  asks = asks;
  tended = tended;
  plains = plains;
  answers = (refl, refl, client);
  count = count;
}

-- the serving with another client
abbrev with_client : Serving → Client → Serving
with_client serving client = record { framer = serving.framer; out = serving.out; client = client; count = serving.count }

-- what a connection goes on with where its client and what it was fed are as before
course_same : (start : Start) (rounds : ℕ) (reads : ReadSide) (writes new_writes : WriteSide) (desk : DeskSide) (old new : Serving)
    (done : Done start reads new_writes desk old.client)
    → new_writes.faults ≡ writes.faults → new.framer ≡ old.framer → new.client ≡ old.client → new.count ≡ old.count
    → (course : Course start rounds reads writes desk old)
    → done.given ≡ course.done.given → done.items ≡ course.done.items → done.size ≡ course.done.size
    → texts done.responses ≡ done.sent ++ new.out
    → Course start rounds reads new_writes desk new
course_same start rounds reads writes new_writes desk old new done same framer client count c given items size due =
    subst (λ (x : Client). Course start rounds reads new_writes desk (with_client new x)) (sym client) (record {
      done = done;
      within = subst (λ (xs : List Item). IsWithin xs) (sym items) c.within;
      count = count ∙ (c.count ∙ ap (λ (xs : List Item). length xs) (sym items));
      due = due;
      rest = ap (λ (f : Frames). f.rest) framer
          ∙ (c.rest ∙ (ap (λ (n : ℕ). drop n c.done.given) (sym size) ∙ ap (λ (xs : List ℕ). drop done.size xs) (sym given)));
      place = ap (λ (f : Frames). f.place) framer ∙ (c.place ∙ ap (λ (n : ℕ). min n (2 ^ 64 - 1)) (sym size));
      fed = subst (λ (xs : List ℕ). rounds ≤ length xs) (sym given) c.fed;
      few = c.few;
      no_read_fault = c.no_read_fault;
      no_write_fault = same ∙ c.no_write_fault;
    })

-- nothing whole stands next
pub course_open : (start : Start) (rounds : ℕ) (reads : ReadSide) (writes : WriteSide) (desk : DeskSide) (old new : Serving)
    → new.framer ≡ old.framer → new.out ≡ old.out → new.client ≡ old.client → new.count ≡ old.count
    → Course start rounds reads writes desk old → Course start rounds reads writes desk new
course_open start rounds reads writes desk old new framer out client count c =
    course_same start rounds reads writes writes desk old new c.done refl framer client count c refl refl refl
    (c.due ∙ ap (λ (xs : List ℕ). c.done.sent ++ xs) (sym out))

course_flushed : (start : Start) (rounds : ℕ) (reads : ReadSide) (writes new_writes : WriteSide) (desk : DeskSide) (old new : Serving)
    → Gains writes.taken new_writes.taken old.out → new_writes.faults ≡ writes.faults
    → new.out ≡ [] → new.framer ≡ old.framer → new.client ≡ old.client → new.count ≡ old.count
    → Course start rounds reads writes desk old → Course start rounds reads new_writes desk new
course_flushed start rounds reads writes new_writes desk old new gains same none framer client count c =
    course_same start rounds reads writes new_writes desk old new
    (done_sent start reads writes new_writes desk old.client old.out gains (omega (arith, same)) c.done)
    same framer client count c refl refl refl
    (c.due ∙ (sym (append-nil (c.done.sent ++ old.out)) ∙ ap (λ (xs : List ℕ). (c.done.sent ++ old.out) ++ xs) (sym none)))

-- a beginning of what stands to be written was taken
some_of : (responses : List Response) (sent out : List ℕ) (written : ℕ) → texts responses ≡ sent ++ out → TookSome ((sent ++ take written out) ++ []) responses
some_of responses sent out written due = (
  drop written out,
  due ∙ (ap (λ (xs : List ℕ). sent ++ xs) (sym (take-append-drop written out))
      ∙ (sym (append_assoc sent (take written out) (drop written out))
      ∙ ap (λ (xs : List ℕ). xs ++ drop written out) (sym (append-nil (sent ++ take written out))))),
)

ending_write : (start : Start) (rounds : ℕ) (reads : ReadSide) (writes new_writes : WriteSide) (desk : DeskSide) (old new : Serving) (written : ℕ)
    → Gains writes.taken new_writes.taken (take written old.out) → Rose writes.faults new_writes.faults → writes.faults ≤ new_writes.faults
    → new.out ≡ [] → new.client ≡ old.client
    → Course start rounds reads writes desk old → Ending ends.WriteFault start reads new_writes desk new
ending_write start rounds reads writes new_writes desk old new written gains rose up none client c =
    let within = c.within in
    subst (λ (x : Client). Ending ends.WriteFault start reads new_writes desk (with_client new x)) (sym client) (record {
      done = done_sent start reads writes new_writes desk old.client (take written old.out) gains up c.done;
      ends = (
        omega arith,
        inl (subst (λ (xs : List ℕ). TookSome ((c.done.sent ++ take written old.out) ++ xs) c.done.responses) (sym none)
            (some_of c.done.responses c.done.sent old.out written c.due)),
      );
      counts = (c.done.read_faults, Rose-later start.writes.faults writes.faults new_writes.faults c.done.write_faults rose);
      none_left = tt;
    })

pub flushed_goes_on : {X : Type 0} (result : Result X LineEnd) (reads new_reads : ReadSide) (writes new_writes : WriteSide) (old new : Serving)
    → Flushes result writes new_writes old.out → new_reads ≡ reads → new.out ≡ []
    → new.framer ≡ old.framer → new.client ≡ old.client → new.count ≡ old.count
    → OnOk result ((start : Start) (rounds : ℕ) (desk : DeskSide)
    → Course start rounds reads writes desk old → Course start rounds new_reads new_writes desk new)
flushed_goes_on (Ok x) reads new_reads writes new_writes old new f apart none framer client count =
    λ start rounds desk c. subst (λ (r : ReadSide). Course start rounds r new_writes desk new) (sym apart)
    (course_flushed start rounds reads writes new_writes desk old new f.0 f.1 none framer client count c)
flushed_goes_on (Err end) reads new_reads writes new_writes old new f apart none framer client count = tt

flush_ends : (end : LineEnd) (reads : ReadSide) (writes new_writes : WriteSide) (old new : Serving) (start : Start) (rounds : ℕ) (desk : DeskSide)
    → Flushes {X = Bool} (Err end) writes new_writes old.out → new.out ≡ [] → new.client ≡ old.client
    → Course start rounds reads writes desk old → Ending end start reads new_writes desk new
flush_ends ends.WriteFault reads writes new_writes old new start rounds desk f none client c =
    ending_write start rounds reads writes new_writes desk old new f.0.0 f.0.1 f.1 f.2 none client c
flush_ends other reads writes new_writes old new start rounds desk f none client c = absurd f

pub flushed_ends : {X : Type 0} (result : Result X LineEnd) (reads new_reads : ReadSide) (writes new_writes : WriteSide) (old new : Serving)
    → Flushes result writes new_writes old.out → new_reads ≡ reads → new.out ≡ [] → new.client ≡ old.client
    → IfErr result (λ end. (start : Start) (rounds : ℕ) (desk : DeskSide)
    → Course start rounds reads writes desk old → Ending end start new_reads new_writes desk new)
flushed_ends (Ok x) reads new_reads writes new_writes old new f apart none client = tt
flushed_ends (Err end) reads new_reads writes new_writes old new f apart none client =
    λ start rounds desk c. subst (λ (r : ReadSide). Ending end start r new_writes desk new) (sym apart)
    (flush_ends end reads writes new_writes old new start rounds desk f none client c)

-- a connection ends without a further reply
ending_here : (end : LineEnd) (start : Start) (rounds : ℕ) (reads : ReadSide) (writes : WriteSide) (desk : DeskSide) (old new : Serving)
    → new.out ≡ old.out → new.client ≡ old.client → (c : Course start rounds reads writes desk old)
    → EndsSo end c.done.items c.done.size (drop c.done.size c.done.given) (c.done.sent ++ old.out) c.done.responses
    → CountsAt end start reads writes → NoneLeft end reads.left
    → Ending end start reads writes desk new
ending_here end start rounds reads writes desk old new out client c e counts none =
    subst (λ (x : Client). Ending end start reads writes desk (with_client new x)) (sym client) (record {
      done = c.done;
      ends = subst (λ (xs : List ℕ). EndsSo end c.done.items c.done.size (drop c.done.size c.done.given) (c.done.sent ++ xs) c.done.responses) (sym out) e;
      counts = counts;
      none_left = none;
    })

pub ending_quit : (start : Start) (rounds : ℕ) (reads : ReadSide) (writes : WriteSide) (desk : DeskSide) (old new : Serving) (taken : ℕ)
    → IsFirst old.framer.rest (command Quit) taken → new.out ≡ old.out → new.client ≡ old.client
    → Course start rounds reads writes desk old → Ending ends.Quit start reads writes desk new
ending_quit start rounds reads writes desk old new taken stands out client c =
    ending_here ends.Quit start rounds reads writes desk old new out client c
    (c.within, (taken, subst (λ (bytes : List ℕ). IsFirst bytes (command Quit) taken) c.rest stands), sym c.due) (c.no_read_fault, c.no_write_fault) tt

-- a beginning of the replies stands to be written
all_due : (responses : List Response) (taken : List ℕ) → texts responses ≡ taken → TookSome taken responses
all_due responses taken due = ([], due ∙ sym (append-nil taken))

pub ending_memory : (start : Start) (rounds : ℕ) (reads : ReadSide) (writes : WriteSide) (desk : DeskSide) (old new : Serving)
    → new.out ≡ old.out → new.client ≡ old.client
    → Course start rounds reads writes desk old → Ending ends.Memory start reads writes desk new
ending_memory start rounds reads writes desk old new out client c =
    let within = c.within in
    ending_here ends.Memory start rounds reads writes desk old new out client c
    (omega arith, inl (all_due c.done.responses (c.done.sent ++ old.out) c.due)) (c.no_read_fault, c.no_write_fault) tt

-- a fault that lasts was told, or a beginning of that
shut_ends : (end : LineEnd) (fault : FrameFault) (last : Response) (start : Start) (rounds : ℕ) (reads : ReadSide) (writes new_writes : WriteSide)
    (desk : DeskSide) (old new : Serving)
    → Lasts old.framer.rest fault last → place_of fault ≡ old.framer.place → Shuts end fault last writes new_writes old.out new.out → new.client ≡ old.client
    → Course start rounds reads writes desk old → Ending end start reads new_writes desk new
shut_ends (ends.Shut found) fault last start rounds reads writes new_writes desk old new lasts place shuts client c =
    let s = shuts.1 in
    subst (λ (f : FrameFault). Ending (ends.Shut f) start reads new_writes desk new) (sym shuts.0)
    (subst (λ (x : Client). Ending (ends.Shut fault) start reads new_writes desk (with_client new x)) (sym client) (record {
      done = done_sent start reads writes new_writes desk old.client s.sent s.gains (omega (arith, s.no_fault)) c.done;
      ends = (
        c.within,
        place ∙ c.place,
        (
          last,
          subst (λ (bytes : List ℕ). Lasts bytes fault last) c.rest lasts,
          sym (due_more c.done.responses last c.done.sent old.out c.due ∙ due_sent c.done.sent s.sent new.out (old.out ++ response_text last) s.all),
        ),
      );
      counts = (c.no_read_fault, s.no_fault ∙ c.no_write_fault);
      none_left = tt;
    }))
shut_ends ends.Memory fault last start rounds reads writes new_writes desk old new lasts place shuts client c =
    let within = c.within in
    subst (λ (x : Client). Ending ends.Memory start reads new_writes desk (with_client new x)) (sym client) (record {
      done = done_sent start reads writes new_writes desk old.client shuts.0.sent shuts.0.gains (omega (arith, shuts.1)) c.done;
      ends = (
        omega arith,
        inr (record {
          fault = fault;
          last = last;
          lasts = subst (λ (bytes : List ℕ). Lasts bytes fault last) c.rest lasts;
          some = some_due c.done.responses last c.done.sent old.out writes new_writes new.out c.due shuts.0;
        }),
      );
      counts = (c.no_read_fault, shuts.1 ∙ c.no_write_fault);
      none_left = tt;
    })
shut_ends ends.WriteFault fault last start rounds reads writes new_writes desk old new lasts place shuts client c =
    let within = c.within in
    subst (λ (x : Client). Ending ends.WriteFault start reads new_writes desk (with_client new x)) (sym client) (record {
      done = done_sent start reads writes new_writes desk old.client shuts.0.sent shuts.0.gains shuts.2 c.done;
      ends = (
        omega arith,
        inr (record {
          fault = fault;
          last = last;
          lasts = subst (λ (bytes : List ℕ). Lasts bytes fault last) c.rest lasts;
          some = some_due c.done.responses last c.done.sent old.out writes new_writes new.out c.due shuts.0;
        }),
      );
      counts = (c.done.read_faults, Rose-later start.writes.faults writes.faults new_writes.faults c.done.write_faults shuts.1);
      none_left = tt;
    })
shut_ends other fault last start rounds reads writes new_writes desk old new lasts place shuts client c = absurd shuts

pub shut_by : (end : LineEnd) (fault found : FrameFault) (last : Response) (start : Start) (rounds : ℕ) (reads new_reads : ReadSide)
    (writes new_writes : WriteSide) (desk : DeskSide) (old new : Serving)
    → fault ≡ found → Lasts old.framer.rest found last → place_of found ≡ old.framer.place
    → Shuts end fault last writes new_writes old.out new.out → new_reads ≡ reads
    → new.client ≡ old.client → Course start rounds reads writes desk old → Ending end start new_reads new_writes desk new
shut_by end fault found last start rounds reads new_reads writes new_writes desk old new is lasts place s apart client c =
    subst (λ (r : ReadSide). Ending end start r new_writes desk new) (sym apart)
    (shut_ends end fault last start rounds reads writes new_writes desk old new
    (subst (λ (f : FrameFault). Lasts old.framer.rest f last) (sym is) lasts) (ap place_of is ∙ place) s client c)

-- a fault that lasts shuts the connection, once its client is told of it
pub shut_by_fault : (end : LineEnd) (fault : FrameFault) (start : Start) (rounds : ℕ) (reads new_reads : ReadSide)
    (writes new_writes : WriteSide) (desk : DeskSide) (old new : Serving) (frames : Frames)
    → ((place : ℕ) × (fault ≡ frame.LongLine place)) ⊎ (((place : ℕ) × (fault ≡ frame.BadBlock place)) ⊎ ((place : ℕ) × (fault ≡ frame.BigBlock place)))
    → Faults old.framer fault frames → Shuts end fault (frame_response fault) writes new_writes old.out new.out → new_reads ≡ reads
    → new.client ≡ old.client → Course start rounds reads writes desk old → Ending end start new_reads new_writes desk new
shut_by_fault end fault start rounds reads new_reads writes new_writes desk old new frames (inl (place, is)) f s apart client c =
    let g : Faults old.framer (frame.LongLine place) frames = subst (λ (x : FrameFault). Faults old.framer x frames) is f in
    shut_by end fault (frame.LongLine place) (Lease LineReply.LongLine) start rounds reads new_reads writes new_writes desk old new is (g.1, refl) g.0
    (subst (λ (x : FrameFault). Shuts end fault (frame_response x) writes new_writes old.out new.out) is s) apart client c
shut_by_fault end fault start rounds reads new_reads writes new_writes desk old new frames (inr (inl (place, is))) f s apart client c =
    let g : Faults old.framer (frame.BadBlock place) frames = subst (λ (x : FrameFault). Faults old.framer x frames) is f in
    shut_by end fault (frame.BadBlock place) (Lease LineReply.BadBlock) start rounds reads new_reads writes new_writes desk old new is (g.1, refl) g.0
    (subst (λ (x : FrameFault). Shuts end fault (frame_response x) writes new_writes old.out new.out) is s) apart client c
shut_by_fault end fault start rounds reads new_reads writes new_writes desk old new frames (inr (inr (place, is))) f s apart client c =
    let g : Faults old.framer (frame.BigBlock place) frames = subst (λ (x : FrameFault). Faults old.framer x frames) is f in
    shut_by end fault (frame.BigBlock place) (Lease LineReply.BigBlock) start rounds reads new_reads writes new_writes desk old new is (g.1, refl) g.0
    (subst (λ (x : FrameFault). Shuts end fault (frame_response x) writes new_writes old.out new.out) is s) apart client c

-- more bytes were given
abbrev done_fed : (start : Start) (old new : ReadSide) (writes : WriteSide) (desk : DeskSide) (client : Client) (bytes : List ℕ)
    → Takes old.left new.left bytes → Gains old.given new.given bytes → new.faults ≡ old.faults
    → Done start old writes desk client → Done start new writes desk client
done_fed start old new writes desk client bytes gives adds same done = record {
  given = done.given ++ bytes;
  items = done.items;
  size = done.size;
  responses = done.responses;
  asked = done.asked;
  sent = done.sent;
  gives = Takes-append start.reads.left old.left new.left done.given bytes done.gives gives;
  adds = Gains-append start.reads.given old.given new.given done.given bytes done.adds adds;
  takes = done.takes;
  asks = done.asks;
  tended = done.tended;
  asks_plain = done.asks_plain;
  first = first_more done.given bytes done.items done.size done.first;
  answers = done.answers;
  read_faults = let before = done.read_faults in omega (arith, same);
  write_faults = done.write_faults;
}

-- what a read gave, by what it tells
pub record Reads (old new : ReadSide) (bytes : List ℕ) : Type 0 where
  pub gives : Takes old.left new.left bytes
  pub adds : Gains old.given new.given bytes
  pub same : new.faults ≡ old.faults

-- the front of a stream takes no more bytes than there are
size_fits : (stream : List ℕ) (items : List Item) (size : ℕ) → AreFirst stream items size → size ≤ length stream
size_fits stream [] size h = omega (arith, h)
size_fits stream (item ∷ items) size h =
    let (one, others, stands, rest, sum) = h in
    let here = item_fits stream item one stands in
    let there = size_fits (drop one stream) items others rest in
    omega (arith, length-drop one stream)

-- as many rounds as bytes are fewer than those of all commands
rounds_few : (given : List ℕ) (items : List Item) (size rounds : ℕ)
    → AreFirst given items size → IsWithin items → IsOpen (drop size given) → rounds ≤ length given → rounds + 1 ≤ most_reads
rounds_few given items size rounds first within is_open fed =
    let sizes = first_bound given items size first in
    let rest = item_open_bound (drop size given) is_open in
    omega (arith, length-drop size given)

pub course_fed : (start : Start) (rounds : ℕ) (reads new_reads : ReadSide) (writes : WriteSide) (desk : DeskSide) (old new : Serving)
    (bytes : List ℕ)
    → Reads reads new_reads bytes → 1 ≤ length bytes → IsOpen old.framer.rest
    → new.framer ≡ fed old.framer bytes → new.out ≡ old.out → new.client ≡ old.client → new.count ≡ old.count
    → Course start rounds reads writes desk old → Course start (rounds + 1) new_reads writes desk new
course_fed start rounds reads new_reads writes desk old new bytes r some is_open framer out client count c =
    let here : IsOpen (drop c.done.size c.done.given) = subst (λ (xs : List ℕ). IsOpen xs) c.rest is_open in
    let fit = size_fits c.done.given c.done.items c.done.size c.done.first in
    let fed_before = c.fed in
    subst (λ (x : Client). Course start (rounds + 1) new_reads writes desk (with_client new x)) (sym client) (record {
      done = done_fed start reads new_reads writes desk old.client bytes r.gives r.adds r.same c.done;
      within = c.within;
      count = count ∙ c.count;
      due = c.due ∙ ap (λ (xs : List ℕ). c.done.sent ++ xs) (sym out);
      rest = ap (λ (f : Frames). f.rest) framer
          ∙ (ap (λ (xs : List ℕ). xs ++ bytes) c.rest ∙ sym (drop-append-le c.done.size c.done.given bytes fit));
      place = ap (λ (f : Frames). f.place) framer ∙ c.place;
      fed = omega (arith, length-append c.done.given bytes);
      few = rounds_few c.done.given c.done.items c.done.size rounds c.done.first c.within here c.fed;
      no_read_fault = r.same ∙ c.no_read_fault;
      no_write_fault = c.no_write_fault;
    })

-- what was read was lost for want of memory, and nothing stood to be written
pub ending_unfed : (start : Start) (rounds : ℕ) (reads new_reads : ReadSide) (writes : WriteSide) (desk : DeskSide) (old new : Serving)
    (bytes : List ℕ)
    → Reads reads new_reads bytes → new.out ≡ old.out → new.client ≡ old.client
    → Course start rounds reads writes desk old → Ending ends.Memory start new_reads writes desk new
ending_unfed start rounds reads new_reads writes desk old new bytes r out client c =
    let within = c.within in
    subst (λ (x : Client). Ending ends.Memory start new_reads writes desk (with_client new x)) (sym client) (record {
      done = done_fed start reads new_reads writes desk old.client bytes r.gives r.adds r.same c.done;
      ends = (
        omega arith,
        inl (all_due c.done.responses (c.done.sent ++ new.out) (c.due ∙ ap (λ (xs : List ℕ). c.done.sent ++ xs) (sym out))),
      );
      counts = (r.same ∙ c.no_read_fault, c.no_write_fault);
      none_left = tt;
    })

-- a read that changed nothing that was given
abbrev done_stays : (start : Start) (old new : ReadSide) (writes : WriteSide) (desk : DeskSide) (client : Client)
    → new.left ≡ old.left → new.given ≡ old.given → old.faults ≤ new.faults
    → Done start old writes desk client → Done start new writes desk client
done_stays start old new writes desk client same given up done = record {
  given = done.given;
  items = done.items;
  size = done.size;
  responses = done.responses;
  asked = done.asked;
  sent = done.sent;
  gives = subst (λ (left : Option (List ℕ)). Takes start.reads.left left done.given) (sym same) done.gives;
  adds = subst (λ (given : Option (List ℕ)). Gains start.reads.given given done.given) (sym given) done.adds;
  takes = done.takes;
  asks = done.asks;
  tended = done.tended;
  asks_plain = done.asks_plain;
  first = done.first;
  answers = done.answers;
  read_faults = let before = done.read_faults in omega arith;
  write_faults = done.write_faults;
}

pub ending_closed : (left : ℕ) (start : Start) (rounds : ℕ) (reads new_reads : ReadSide) (writes : WriteSide) (desk : DeskSide) (old new : Serving)
    → new_reads.left ≡ reads.left → new_reads.given ≡ reads.given → new_reads.faults ≡ reads.faults → AtEnd new_reads.left → IsOpen old.framer.rest → left ≡ length old.framer.rest
    → old.out ≡ [] → new.out ≡ old.out → new.client ≡ old.client
    → Course start rounds reads writes desk old → Ending (ends.Closed left) start new_reads writes desk new
ending_closed left start rounds reads new_reads writes desk old new same given faults at_end is_open left_is none out client c =
    subst (λ (x : Client). Ending (ends.Closed left) start new_reads writes desk (with_client new x)) (sym client) (record {
      done = done_stays start reads new_reads writes desk old.client same given (omega (arith, faults)) c.done;
      ends = (
        c.within,
        subst (λ (xs : List ℕ). IsOpen xs) c.rest is_open,
        left_is ∙ ap (λ (xs : List ℕ). length xs) c.rest,
        sym (c.due ∙ ap (λ (xs : List ℕ). c.done.sent ++ xs) (sym out)),
      );
      counts = (faults ∙ c.no_read_fault, c.no_write_fault);
      none_left = at_end;
    })

pub ending_read : (start : Start) (rounds : ℕ) (reads new_reads : ReadSide) (writes : WriteSide) (desk : DeskSide) (old new : Serving)
    → new_reads.left ≡ reads.left → new_reads.given ≡ reads.given → reads.faults ≤ new_reads.faults → Rose reads.faults new_reads.faults → IsOpen old.framer.rest
    → new.out ≡ old.out → new.client ≡ old.client
    → Course start rounds reads writes desk old → Ending ends.ReadFault start new_reads writes desk new
ending_read start rounds reads new_reads writes desk old new same given up rose is_open out client c =
    subst (λ (x : Client). Ending ends.ReadFault start new_reads writes desk (with_client new x)) (sym client) (record {
      done = done_stays start reads new_reads writes desk old.client same given up c.done;
      ends = (
        c.within,
        subst (λ (xs : List ℕ). IsOpen xs) c.rest is_open,
        sym (c.due ∙ ap (λ (xs : List ℕ). c.done.sent ++ xs) (sym out)),
      );
      counts = (Rose-later start.reads.faults reads.faults new_reads.faults c.done.read_faults rose, c.no_write_fault);
      none_left = tt;
    })

-- the beginning of a connection
pub course_begins : (reads : ReadSide) (writes : WriteSide) (desk : DeskSide) (serving : Serving)
    → IsUnserved serving → Course (record { reads = reads; writes = writes; desk = desk }) 0 reads writes desk serving
course_begins reads writes desk serving fresh =
    let start : Start = record { reads = reads; writes = writes; desk = desk } in
    subst (λ (x : Client). Course start 0 reads writes desk (with_client serving x)) (sym fresh.client) (record {
      done = record {
        given = [];
        items = [];
        size = 0;
        responses = [];
        asked = [];
        sent = [];
        gives = Takes-none reads.left;
        adds = Gains-none reads.given;
        takes = Gains-none writes.taken;
        asks = refl;
        tended = tended_none desk.tends;
        asks_plain = refl;
        first = refl;
        answers = (refl, refl, refl);
        read_faults = omega arith;
        write_faults = omega arith;
      };
      within = omega arith;
      count = fresh.count;
      due = sym fresh.out;
      rest = ap (λ (f : Frames). f.rest) fresh.framer;
      place = ap (λ (f : Frames). f.place) fresh.framer;
      fed = omega arith;
      few = omega arith;
      no_read_fault = refl;
      no_write_fault = refl;
    })

-- more rounds than that there aren't
pub rounds_end : (start : Start) (rounds : ℕ) (reads : ReadSide) (writes : WriteSide) (desk : DeskSide) (serving : Serving)
    → Course start rounds reads writes desk serving → most_reads < rounds → ⊥
rounds_end start rounds reads writes desk serving c many = let few = c.few in absurd (omega arith)

-- at every end the line took a beginning of what is due
ends_some : (end : LineEnd) (items : List Item) (size : ℕ) (rest taken : List ℕ) (responses : List Response)
    → EndsSo end items size rest taken responses → (length items ≤ budget) × (TookSome taken responses ⊎ TookToFault rest taken responses)
ends_some ends.Quit items size rest taken responses e = let within = e.0 in (omega arith, inl (all_due responses taken (sym e.2)))
ends_some (ends.Closed left) items size rest taken responses e = let within = e.0 in (omega arith, inl (all_due responses taken (sym e.3)))
ends_some (ends.Shut fault) items size rest taken responses e =
    let within = e.0 in
    let last = e.2 in
    (omega arith, inr (record { fault = fault; last = last.0; lasts = last.1; some = all_due (responses ++ last.0 ∷ []) taken (sym last.2) }))
ends_some ends.Budget items size rest taken responses e = (omega (arith, e.0), inl (all_due responses taken (sym e.1)))
ends_some ends.ReadFault items size rest taken responses e = let within = e.0 in (omega arith, inl (all_due responses taken (sym e.2)))
ends_some ends.WriteFault items size rest taken responses e = e
ends_some ends.Memory items size rest taken responses e = e

-- a beginning of that
some_less : (responses : List Response) (sent out : List ℕ) (written : ℕ) → TookSome (sent ++ out) responses → TookSome (sent ++ take written out) responses
some_less responses sent out written t = (
  drop written out ++ t.0,
  t.1 ∙ (ap (λ (xs : List ℕ). (sent ++ xs) ++ t.0) (sym (take-append-drop written out))
      ∙ (ap (λ (xs : List ℕ). xs ++ t.0) (sym (append_assoc sent (take written out) (drop written out)))
      ∙ append_assoc (sent ++ take written out) (drop written out) t.0)),
)

ends_less : (items : List Item) (size : ℕ) (rest sent out : List ℕ) (responses : List Response) (written : ℕ)
    → (length items ≤ budget) × (TookSome (sent ++ out) responses ⊎ TookToFault rest (sent ++ out) responses)
    → EndsSo ends.WriteFault items size rest (sent ++ take written out) responses
ends_less items size rest sent out responses written e = (e.0, by e.1)
  where
    by : TookSome (sent ++ out) responses ⊎ TookToFault rest (sent ++ out) responses
        → TookSome (sent ++ take written out) responses ⊎ TookToFault rest (sent ++ take written out) responses
    by (inl t) = inl (some_less responses sent out written t)
    by (inr t) = inr (record { fault = t.fault; last = t.last; lasts = t.lasts; some = some_less (responses ++ t.last ∷ []) sent out written t.some })

-- what stands of a connection at its end, by what its line and its desk tell
pub record Finished (start : Start) (reads : ReadSide) (writes : WriteSide) (desk : DeskSide) (end : LineEnd) : Type 0 where
  pub served : IsServed start.reads reads start.writes writes start.desk.calls desk.calls start.desk.plains desk.plains start.desk.tends desk.tends end
  pub counts : CountsAt end start reads writes
  pub read_faults : start.reads.faults ≤ reads.faults
  pub write_faults : start.writes.faults ≤ writes.faults

finished_by : (end : LineEnd) (start : Start) (reads : ReadSide) (writes new_writes : WriteSide) (desk new_desk : DeskSide)
    (serving : Serving) (bytes : List ℕ)
    → (done : Done start reads writes desk serving.client)
    → Gains writes.taken new_writes.taken bytes → writes.faults ≤ new_writes.faults
    → EndsSo end done.items done.size (drop done.size done.given) (done.sent ++ bytes) done.responses
    → CountsAt end start reads new_writes → NoneLeft end reads.left
    → GivenUp desk.calls new_desk.calls serving.client → new_desk.tends ≡ desk.tends → new_desk.plains ≡ desk.plains
    → Finished start reads new_writes new_desk end
finished_by end start reads writes new_writes desk new_desk serving bytes done gains up e counts none up_given untended unasked = record {
  served = record {
    given = done.given;
    taken = done.sent ++ bytes;
    calls = done.asked ++ up_given.calls;
    plains = plain_calls done.items done.responses;
    gives = done.gives;
    adds = done.adds;
    takes = Gains-append start.writes.taken writes.taken new_writes.taken done.sent bytes done.takes gains;
    asks = up_given.record_is
        ∙ (ap (λ (calls : Option (List Exchange)). with_calls up_given.calls calls) done.asks
        ∙ sym (with_calls-append done.asked up_given.calls start.desk.calls));
    asks_plain = unasked ∙ done.asks_plain;
    tended = untended ∙ done.tended;
    served = record {
      items = done.items;
      size = done.size;
      responses = done.responses;
      asked = done.asked;
      client = serving.client;
      closing = up_given.calls;
      count = up_given.count;
      first = done.first;
      answers = done.answers;
      leaves = up_given.leaves;
      held = only_writers_hold newcomer serving.client done.items done.asked done.responses done.answers (λ none. refl);
      calls_are = refl;
      plains_are = refl;
      ends = e;
    };
    none_left = none;
  };
  counts = counts;
  read_faults = done.read_faults;
  write_faults = let before = done.write_faults in omega arith;
}

-- the counts are those of an end where no write failed since
counts_on : (end : LineEnd) (start : Start) (reads : ReadSide) (old new : WriteSide) → new.faults ≡ old.faults → CountsAt end start reads old
    → CountsAt end start reads new
counts_on end start reads old new same c = (c.0, subst (λ (n : ℕ). CountsWrites end start.writes.faults n) (sym same) c.1)

pub finished : (due end : LineEnd) (start : Start) (reads new_reads : ReadSide) (writes new_writes : WriteSide)
    (desk new_desk : DeskSide) (serving : Serving)
    → Ending due start reads writes desk serving → Finishes due end writes new_writes serving.out → new_reads ≡ reads
    → GivenUp desk.calls new_desk.calls serving.client → new_desk.tends ≡ desk.tends → new_desk.plains ≡ desk.plains
    → Finished start new_reads new_writes new_desk end
finished due end start reads new_reads writes new_writes desk new_desk serving e (inl f) apart up untended unasked =
    subst (λ (r : ReadSide). Finished start r new_writes new_desk end) (sym apart)
    (subst (λ (x : LineEnd). Finished start reads new_writes new_desk x) (sym f.2)
    (finished_by due start reads writes new_writes desk new_desk serving serving.out e.done f.0 (omega (arith, f.1)) e.ends
    (counts_on due start reads writes new_writes f.1 e.counts) e.none_left up untended unasked))
finished due end start reads new_reads writes new_writes desk new_desk serving e (inr f) apart up untended unasked =
    let bytes = take f.0.0 serving.out in
    let less = ends_less e.done.items e.done.size (drop e.done.size e.done.given) e.done.sent serving.out e.done.responses f.0.0
    (ends_some due e.done.items e.done.size (drop e.done.size e.done.given) (e.done.sent ++ serving.out) e.done.responses e.ends) in
    subst (λ (r : ReadSide). Finished start r new_writes new_desk end) (sym apart)
    (subst (λ (x : LineEnd). Finished start reads new_writes new_desk x) (sym f.3)
    (finished_by ends.WriteFault start reads writes new_writes desk new_desk serving bytes e.done f.0.1 f.2 less
    (e.done.read_faults, Rose-later start.writes.faults writes.faults new_writes.faults e.done.write_faults f.1) tt up untended unasked))

-- a connection for which memory ran out at once
pub never_served : (reads : ReadSide) (writes : WriteSide) (desk : DeskSide)
    → IsServed reads reads writes writes desk.calls desk.calls desk.plains desk.plains desk.tends desk.tends ends.Memory
never_served reads writes desk = record {
  given = [];
  taken = [];
  calls = [];
  plains = [];
  gives = Takes-none reads.left;
  adds = Gains-none reads.given;
  takes = Gains-none writes.taken;
  asks = refl;
  asks_plain = refl;
  tended = tended_none desk.tends;
  served = record {
    items = [];
    size = 0;
    responses = [];
    asked = [];
    client = newcomer;
    closing = [];
    count = 0;
    first = refl;
    answers = (refl, refl, refl);
    leaves = (refl, refl);
    held = λ none. refl;
    calls_are = refl;
    plains_are = refl;
    ends = (omega arith, inl ([], refl));
  };
  none_left = tt;
}

-- wherever a connection was on its course, it still is
pub record StillOn (old_reads new_reads : ReadSide) (old_writes new_writes : WriteSide) (old_desk new_desk : DeskSide)
    (old new : Serving) : Type 0 where
  pub within : new.count < 1000000
  pub goes : (start : Start) (rounds : ℕ) → Course start rounds old_reads old_writes old_desk old → Course start rounds new_reads new_writes new_desk new

-- a connection is on its course, after so many rounds
pub record OnCourse (start : Start) (rounds : ℕ) (reads : ReadSide) (writes : WriteSide) (desk : DeskSide) (serving : Serving) : Type 0 where
  pub within : serving.count < 1000000
  pub course : Course start rounds reads writes desk serving

-- what a line tells of its reading, in parts
pub record IsSide (reads : ReadSide) (left given : Option (List ℕ)) (faults : ℕ) : Type 0 where
  pub left_is : reads.left ≡ left
  pub given_is : reads.given ≡ given
  pub faults_is : reads.faults ≡ faults

pub is_side : (reads : ReadSide) (left given : Option (List ℕ)) (faults : ℕ)
    → reads ≡ record { left = left; given = given; faults = faults } → IsSide reads left given faults
is_side reads left given faults is = record {
  left_is = ap (λ (r : ReadSide). r.left) is;
  given_is = ap (λ (r : ReadSide). r.given) is;
  faults_is = ap (λ (r : ReadSide). r.faults) is;
}

pub reads_by : (old new : ReadSide) (a b g h : Option (List ℕ)) (e f : ℕ) (bytes : List ℕ)
    → IsSide old a g e → IsSide new b h f → Takes a b bytes → Gains g h bytes → f ≡ e → Reads old new bytes
reads_by old new a b g h e f bytes o n gives adds same = record {
  gives = subst (λ (x : Option (List ℕ)). Takes x new.left bytes) (sym o.left_is) (subst (λ (x : Option (List ℕ)). Takes a x bytes) (sym n.left_is) gives);
  adds = subst (λ (x : Option (List ℕ)). Gains x new.given bytes) (sym o.given_is) (subst (λ (x : Option (List ℕ)). Gains g x bytes) (sym n.given_is) adds);
  same = n.faults_is ∙ (same ∙ sym o.faults_is);
}

-- a read of no bytes
takes_nothing : (a b : Option (List ℕ)) → Takes a b [] → b ≡ a
takes_nothing a None e = sym e
takes_nothing a (Some rest) e = sym e

-- and of what was given before
gains_nothing : (g h : Option (List ℕ)) → Gains g h [] → h ≡ g
gains_nothing None h e = e
gains_nothing (Some given) h e = e ∙ ap Some (append-nil given)

pub left_same : (old new : ReadSide) (a b g h : Option (List ℕ)) (e f : ℕ) → IsSide old a g e → IsSide new b h f → b ≡ a → new.left ≡ old.left
left_same old new a b g h e f o n same = n.left_is ∙ (same ∙ sym o.left_is)

pub given_same : (old new : ReadSide) (a b g h : Option (List ℕ)) (e f : ℕ) → IsSide old a g e → IsSide new b h f → h ≡ g → new.given ≡ old.given
given_same old new a b g h e f o n same = n.given_is ∙ (same ∙ sym o.given_is)

-- the input ended
pub closed_by : (left : ℕ) (old_reads new_reads : ReadSide) (old_writes new_writes : WriteSide) (a b g h : Option (List ℕ)) (e f n : ℕ) (room : List ℕ)
    (old new : Serving)
    → IsSide old_reads a g e → IsSide new_reads b h f → Takes a b (take n room) → Gains g h (take n room) → ZeroAtEnd a n → n ≡ 0 → f ≡ e → new_writes ≡ old_writes
    → IsOpen old.framer.rest → left ≡ length old.framer.rest → old.out ≡ [] → new.out ≡ old.out → new.client ≡ old.client
    → (start : Start) (rounds : ℕ) (desk : DeskSide)
    → Course start rounds old_reads old_writes desk old → Ending (ends.Closed left) start new_reads new_writes desk new
closed_by left old_reads new_reads old_writes new_writes a b g h e f n room old new o p gives adds zero is same apart stops left_is none out client start
    rounds desk c =
    let nothing : Takes a b [] = rw is at gives in
    let none_more : Gains g h [] = rw is at adds in
    let at_end : AtEnd new_reads.left =
    subst (λ (x : Option (List ℕ)). AtEnd x) (sym p.left_is) (AtEnd-zero a b n room is zero gives) in
    subst (λ (w : WriteSide). Ending (ends.Closed left) start new_reads w desk new) (sym apart)
    (ending_closed left start rounds old_reads new_reads old_writes desk old new
    (left_same old_reads new_reads a b g h e f o p (takes_nothing a b nothing))
    (given_same old_reads new_reads a b g h e f o p (gains_nothing g h none_more))
    (p.faults_is ∙ (same ∙ sym o.faults_is)) at_end stops left_is none out client c)

-- a read failed
pub read_failed : (old_reads new_reads : ReadSide) (old_writes new_writes : WriteSide) (a b g h : Option (List ℕ)) (e f : ℕ) (old new : Serving)
    → IsSide old_reads a g e → IsSide new_reads b h f → b ≡ a → h ≡ g → Rose e f → e ≤ f → new_writes ≡ old_writes
    → IsOpen old.framer.rest → new.out ≡ old.out → new.client ≡ old.client
    → (start : Start) (rounds : ℕ) (desk : DeskSide)
    → Course start rounds old_reads old_writes desk old → Ending ends.ReadFault start new_reads new_writes desk new
read_failed old_reads new_reads old_writes new_writes a b g h e f old new o p same given rose up apart stops out client start rounds desk c =
    let risen : Rose old_reads.faults new_reads.faults =
    subst (λ (x : ℕ). Rose x new_reads.faults) (sym o.faults_is) (subst (λ (x : ℕ). Rose e x) (sym p.faults_is) rose) in
    subst (λ (w : WriteSide). Ending ends.ReadFault start new_reads w desk new) (sym apart)
    (ending_read start rounds old_reads new_reads old_writes desk old new
    (left_same old_reads new_reads a b g h e f o p same) (given_same old_reads new_reads a b g h e f o p given)
    (omega (arith, o.faults_is, p.faults_is)) risen stops out client c)

-- bytes were read, and fed
pub fed_by : (old_reads new_reads : ReadSide) (old_writes new_writes : WriteSide) (a b g h : Option (List ℕ)) (e f : ℕ) (bytes : List ℕ)
    (old new : Serving)
    → IsSide old_reads a g e → IsSide new_reads b h f → Takes a b bytes → Gains g h bytes → f ≡ e → new_writes ≡ old_writes
    → 1 ≤ length bytes → IsOpen old.framer.rest → new.framer ≡ fed old.framer bytes → new.out ≡ old.out → new.client ≡ old.client
    → new.count ≡ old.count
    → (start : Start) (rounds : ℕ) (desk : DeskSide)
    → Course start rounds old_reads old_writes desk old → Course start (rounds + 1) new_reads new_writes desk new
fed_by old_reads new_reads old_writes new_writes a b g h e f bytes old new o p gives adds same apart some stops framer out client count start
    rounds desk c =
    subst (λ (w : WriteSide). Course start (rounds + 1) new_reads w desk new) (sym apart)
    (course_fed start rounds old_reads new_reads old_writes desk old new bytes
    (reads_by old_reads new_reads a b g h e f bytes o p gives adds same) some stops framer out client count c)

-- bytes were read, and lost for want of memory
pub unfed_by : (old_reads new_reads : ReadSide) (old_writes new_writes : WriteSide) (a b g h : Option (List ℕ)) (e f : ℕ) (bytes : List ℕ)
    (old new : Serving)
    → IsSide old_reads a g e → IsSide new_reads b h f → Takes a b bytes → Gains g h bytes → f ≡ e → new_writes ≡ old_writes
    → new.out ≡ old.out → new.client ≡ old.client
    → (start : Start) (rounds : ℕ) (desk : DeskSide)
    → Course start rounds old_reads old_writes desk old → Ending ends.Memory start new_reads new_writes desk new
unfed_by old_reads new_reads old_writes new_writes a b g h e f bytes old new o p gives adds same apart out client start rounds desk c =
    subst (λ (w : WriteSide). Ending ends.Memory start new_reads w desk new) (sym apart)
    (ending_unfed start rounds old_reads new_reads old_writes desk old new bytes
    (reads_by old_reads new_reads a b g h e f bytes o p gives adds same) out client c)
