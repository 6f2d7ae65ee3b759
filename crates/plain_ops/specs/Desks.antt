-- What a plain desk tells: which reply belongs to a command, and which calls it answered.
use Rattle.std.specs.Prelude.{ℕ, ◌≡◌, ◌⊎◌, ⊤, List, [], ◌∷◌, Option, Some, None}
use Rattle.mc_text.specs.declared.plain_commands.PlainCommand.{PlainCommand}
use Rattle.mc_text.specs.declared.plain_commands.PlainCommand.TheVariants.{Get, Gets, Set, Add, Replace, Cas, Delete, Incr, Decr}
use Rattle.mc_text.specs.declared.plain_replies.Found.{Found}
use Rattle.mc_text.specs.declared.plain_replies.PlainReply.{PlainReply}
use Rattle.mc_text.specs.declared.plain_replies.PlainReply.TheVariants as PlainReply

-- the items are those of some of the keys, in the order of the keys
abbrev pub AreOf : List Found → List (List ℕ) → Type 0
AreOf [] keys = ⊤
AreOf (item ∷ items) [] = ⊥
AreOf (item ∷ items) (key ∷ keys) = ((item.key ≡ key) × AreOf items keys) ⊎ AreOf (item ∷ items) keys

-- why a change isn't stored: no unique is left, or there would be too many keys or bytes, or memory ran out
abbrev pub IsUnstored : PlainReply → Type 0
IsUnstored PlainReply.Spent = ⊤
IsUnstored PlainReply.Full = ⊤
IsUnstored PlainReply.Memory = ⊤
IsUnstored reply = ⊥

-- the reply is one that a command of this kind is given
abbrev pub Belongs : PlainCommand → PlainReply → Type 0
Belongs (Get keys) (PlainReply.Values found) = AreOf found keys
Belongs (Get keys) reply = reply ≡ PlainReply.Memory
Belongs (Gets keys) (PlainReply.Uniques found) = AreOf found keys
Belongs (Gets keys) reply = reply ≡ PlainReply.Memory
Belongs (Set key flags value) reply = (reply ≡ PlainReply.Stored) ⊎ IsUnstored reply
Belongs (Add key flags value) reply = (reply ≡ PlainReply.Stored) ⊎ ((reply ≡ PlainReply.NotStored) ⊎ IsUnstored reply)
Belongs (Replace key flags value) reply = (reply ≡ PlainReply.Stored) ⊎ ((reply ≡ PlainReply.NotStored) ⊎ IsUnstored reply)
Belongs (Cas key flags value unique) reply = (reply ≡ PlainReply.Stored) ⊎ ((reply ≡ PlainReply.Exists) ⊎ ((reply ≡ PlainReply.NotFound) ⊎ IsUnstored reply))
Belongs (Delete key) reply = (reply ≡ PlainReply.Deleted) ⊎ (reply ≡ PlainReply.NotFound)
Belongs (Incr key by) reply = ((number : ℕ) × (reply ≡ PlainReply.Number number)) ⊎ ((reply ≡ PlainReply.NotFound) ⊎ ((reply ≡ PlainReply.NotNumber) ⊎ IsUnstored reply))
Belongs (Decr key by) reply = ((number : ℕ) × (reply ≡ PlainReply.Number number)) ⊎ ((reply ≡ PlainReply.NotFound) ⊎ ((reply ≡ PlainReply.NotNumber) ⊎ IsUnstored reply))

-- a command that a plain desk answered, with its reply
pub record PlainCall : Type 0 where
  pub command : PlainCommand
  pub reply : PlainReply

-- a record of calls, the latest first, with one more; one that isn't told stays untold
abbrev pub with_plain_call : PlainCall → Option (List PlainCall) → Option (List PlainCall)
with_plain_call call (Some calls) = Some (call ∷ calls)
with_plain_call call None = None

-- with these more, in the order in which they were made
abbrev pub with_plain_calls : List PlainCall → Option (List PlainCall) → Option (List PlainCall)
with_plain_calls [] recorded = recorded
with_plain_calls (call ∷ calls) recorded = with_plain_calls calls (with_plain_call call recorded)
