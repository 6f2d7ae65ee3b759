-- What every plain command keeps.
use Rattle.std.specs.Prelude.{ℕ, ◌≡◌, true, List}
use Rattle.std.specs.List.{IsDistinct}
use Rattle.std.specs.Map.{keys_of}
use Rattle.mc_text.specs.declared.plain_commands.PlainCommand.{PlainCommand}
use Rattle.mc_text.specs.declared.plain_replies.PlainReply.{PlainReply}
use Rattle.plain_ops.specs.declared.items.Item.{Item}
use Rattle.plain_ops.specs.Entries.{is_same, is_fit}
use Rattle.plain_ops.specs.Steps.{PlainMap, PlainStep}

-- entries that are a map within its limits: no two have the same key
pub record AreWhole (entries : List (List ℕ × Item)) : Type 0 where
  pub differ : IsDistinct is_same (keys_of entries)
  pub fit : is_fit entries ≡ true

-- they stay so
abbrev pub StayWhole : Type 0
StayWhole = (old new : PlainMap) (command : PlainCommand) (reply : PlainReply) → PlainStep old command new reply → AreWhole old.entries → AreWhole new.entries
