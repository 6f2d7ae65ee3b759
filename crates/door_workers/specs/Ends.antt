-- How the lines ended that were handed back to a door.
use Rattle.std.specs.Prelude.{◌≡◌, ◌⊎◌, ℕ, List, [], ◌∷◌, ◌++◌, Option, Some, None}
use Rattle.std.specs.Option.{option_map, ForSome}
use Rattle.iq_outside.specs.Outside.{LineRecord}
use Rattle.session_client.specs.Desks.{Exchange}
use Rattle.plain_ops.specs.Desks.{PlainCall}
use Rattle.conn_server.specs.Service.{Served, NoneLeft}
use Rattle.conn_server.specs.declared.ends.LineEnd.{LineEnd}

-- A line that tells this at its end, and had given and taken nothing at first, was served to that end: what it gave and
-- what it took are what a connection gives and takes that ends so. Where its input ended it has no byte left.
pub record IsEnded (line : LineRecord) (end : LineEnd) : Type 0 where
  pub served : ForSome line.reads.given (λ given. ForSome line.writes.taken
      (λ taken. (calls : List Exchange) × (plains : List PlainCall) × Served given taken calls plains end))
  pub none_left : NoneLeft end line.reads.left

-- As many lines as ends, and each was served to its end.
abbrev pub AreEnded : List LineRecord → List LineEnd → Type 0
AreEnded [] [] = Unit {0}
AreEnded (line ∷ lines) (end ∷ ends) = IsEnded line end × AreEnded lines ends
AreEnded lines ends = ⊥

-- The lines of these ends were handed back, in their order: the door tells the lines handed back no longer, or it tells
-- these lines behind those of before.
abbrev pub AreHandedBack : List LineEnd → Option (List LineRecord) → Option (List LineRecord) → Type 0
AreHandedBack ends before after =
    (after ≡ None) ⊎ ((lines : List LineRecord) × (after ≡ option_map (λ closed. closed ++ lines) before) × AreEnded lines ends)

-- Each line that was handed back was served to its end. Where a number of lines is enough these are their ends, in their order.
-- Where none is, no end is kept: each line has one all the same.
abbrev pub AreServed : Option ℕ → List LineEnd → Option (List LineRecord) → Option (List LineRecord) → Type 0
AreServed (Some most) kept before after = AreHandedBack kept before after
AreServed None kept before after = (ends : List LineEnd) × AreHandedBack ends before after
