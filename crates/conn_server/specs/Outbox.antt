-- What waits to be written, and what is sent of it.
use Rattle.std.specs.Prelude.{ℕ, ◌≡◌, ◌<◌, ◌≤◌, ◌⊎◌, Bool, List, [], ◌++◌, length, take, Result, Ok, Err}
use Rattle.iq_outside.specs.Outside.{Gains, Rose, WriteSide}
use Rattle.mc_text.specs.PlainReplies.{item_text}
use Rattle.mc_text.specs.declared.plain_replies.Found.{Found}
use Rattle.conn_server.specs.declared.ends.LineEnd.{LineEnd}
use Rattle.conn_server.specs.declared.ends.LineEnd.TheVariants as ends
use Rattle.conn_server.specs.declared.outgoing.Response.{Response}
use Rattle.conn_server.specs.Outgoing.{response_text, HasNoItem}

-- what waits is sent before more is put behind it, once it has so many bytes
abbrev pub full : ℕ
full = 65536

-- a piece of what is told: an item that was found, or what is told of no item
abbrev pub IsPiece : List ℕ → Type 0
IsPiece text =
    ((found : Found) × (is_told : Bool) × (text ≡ item_text is_told found))
    ⊎ ((response : Response) × HasNoItem response × (text ≡ response_text response))

-- fewer bytes than that wait, and then one piece at most
abbrev pub WaitsFew : List ℕ → Type 0
WaitsFew bytes = (front : List ℕ) × (length front < full) × ((bytes ≡ front) ⊎ ((piece : List ℕ) × IsPiece piece × (bytes ≡ front ++ piece)))

-- of the bytes that are due the first were taken, and the others wait
pub record Sends (old new : WriteSide) (due waits : List ℕ) : Type 0 where
  pub sent : List ℕ
  pub gains : Gains old.taken new.taken sent
  pub all : due ≡ sent ++ waits
  pub no_fault : new.faults ≡ old.faults

-- the first were taken, the next wait, and the last are lost
pub record SendsSome (old new : WriteSide) (due waits : List ℕ) : Type 0 where
  pub sent : List ℕ
  pub lost : List ℕ
  pub gains : Gains old.taken new.taken sent
  pub some : due ≡ (sent ++ waits) ++ lost

-- only a first part of what is due was sent or waits: memory ran out, or a write failed
abbrev pub Stops : LineEnd → WriteSide → WriteSide → List ℕ → List ℕ → Type 0
Stops ends.Memory old new due waits = SendsSome old new due waits × (new.faults ≡ old.faults)
Stops ends.WriteFault old new due waits = SendsSome old new due waits × Rose old.faults new.faults × (old.faults ≤ new.faults)
Stops other old new due waits = ⊥

-- what is due was sent or waits, or only a first part of it
abbrev pub Puts : {X : Type 0} → Result X LineEnd → WriteSide → WriteSide → List ℕ → List ℕ → Type 0
Puts (Ok done) old new due waits = Sends old new due waits
Puts (Err end) old new due waits = Stops end old new due waits

-- the bytes were taken, or a beginning of them where a write failed
abbrev pub Flushes : {X : Type 0} → Result X LineEnd → WriteSide → WriteSide → List ℕ → Type 0
Flushes (Ok done) old new bytes = Gains old.taken new.taken bytes × (new.faults ≡ old.faults)
Flushes (Err ends.WriteFault) old new bytes =
    ((written : ℕ) × Gains old.taken new.taken (take written bytes)) × Rose old.faults new.faults × (old.faults ≤ new.faults)
Flushes (Err other) old new bytes = ⊥

-- the bytes were taken and the end is the one that was due, or a beginning of them was taken and it is the fault of a write
abbrev pub Finishes : LineEnd → LineEnd → WriteSide → WriteSide → List ℕ → Type 0
Finishes due end old new bytes =
    (Gains old.taken new.taken bytes × (new.faults ≡ old.faults) × (end ≡ due))
    ⊎ (((written : ℕ) × Gains old.taken new.taken (take written bytes)) × Rose old.faults new.faults × (old.faults ≤ new.faults) × (end ≡ ends.WriteFault))
