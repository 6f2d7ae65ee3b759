use Rattle.std.specs.Prelude.{ℕ, ◌≡◌, Bool, List}
use Rattle.core_history.specs.declared.turn_lines.TurnLine.{TurnLine}
use Rattle.core_history.specs.Events.{Event}
use Rattle.core_history.specs.Lines.{line_of, is_fault}

-- The line that a turn prints.
abbrev pub line_in : TurnLine → List ℕ
line_in printed = printed.line.items

-- Whether it says FAULT.
abbrev pub fault_in : TurnLine → Bool
fault_in printed = printed.fault

-- What is told of a turn is its event's line, and whether that is a FAULT.
abbrev pub IsLineOf : Event → TurnLine → Type 0
IsLineOf event printed = (line_in printed ≡ line_of event) × (fault_in printed ≡ is_fault event)
