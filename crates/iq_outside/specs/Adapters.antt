use Rattle.std.specs.Prelude.{ℕ, ℤ, pos, Bool, false, Option, None, Some, List, [], ◌∷◌}
use Rattle.std.specs.List.{list_any}
use Rattle.std.specs.Ordering.{int_eq}

-- a source over a reader: the reader, and how often it failed
pub record ReaderView (R : Type 0) : Type 0 where
  pub reader : R
  pub faults : ℕ

-- a sink over a writer: the writer, and how often it failed
pub record WriterView (W : Type 0) : Type 0 where
  pub writer : W
  pub faults : ℕ

-- a line over TCP: how often a read failed, how often a write, and whether it is finished
pub record TcpLineView : Type 0 where
  pub read_faults : ℕ
  pub write_faults : ℕ
  pub finished : Bool

-- a door over TCP: the address that it is bound to, how often it failed, and how many lines it gave
pub record TcpDoorView : Type 0 where
  pub bound : Option (List ℕ)
  pub faults : ℕ
  pub given : ℕ

-- the system's numbers of the errors of an accept that pass: the call was interrupted, memory is wanting,
-- the system or the process has no descriptor left, a connection broke its protocol or was aborted, and
-- there is no room for buffers
abbrev pub passing : List ℤ
passing = pos 4 ∷ pos 12 ∷ pos 23 ∷ pos 24 ∷ pos 71 ∷ pos 103 ∷ pos 105 ∷ []

-- whether an error with this number passes
abbrev pub is_passing : Option ℤ → Bool
is_passing None = false
is_passing (Some code) = list_any (λ other. int_eq other code) passing
