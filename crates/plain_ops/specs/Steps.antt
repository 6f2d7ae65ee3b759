-- What a plain command does to the plain map, and what it is told.
use Rattle.std.specs.Prelude.{ℕ, ◌+◌, ◌-◌, ◌%◌, ◌^◌, ◌==◌, ◌≡◌, ◌<◌, ◌⊎◌, ⊤, true, false, cond, List, decimal}
use Rattle.std.specs.Option.{option_map_or}
use Rattle.std.specs.List.Sorted.{IsPermutation}
use Rattle.mc_text.specs.PlainNumbers.{plain_number}
use Rattle.mc_text.specs.declared.plain_commands.PlainCommand.{PlainCommand}
use Rattle.mc_text.specs.declared.plain_commands.PlainCommand.TheVariants.{Get, Gets, Set, Add, Replace, Cas, Delete, Incr, Decr}
use Rattle.mc_text.specs.declared.plain_replies.PlainReply.{PlainReply}
use Rattle.mc_text.specs.declared.plain_replies.PlainReply.TheVariants as PlainReply
use Rattle.plain_ops.specs.declared.items.Item.{Item}
use Rattle.plain_ops.specs.Entries.{item_of, item_at, without, with_item, is_fit, found_in}

-- the plain map: its entries, and the unique that the next change draws
pub record PlainMap : Type 0 where
  pub entries : List (List ℕ × Item)
  pub next : ℕ

-- what a command comes to
pub data Effect : Type 0 where
  -- nothing changes, and this is told
  tells : PlainReply → Effect
  -- the item of a key goes
  drops : List ℕ → Effect
  -- an item of these flags and this value is to stand at a key; then this is told
  stores : List ℕ → ℕ → List ℕ → PlainReply → Effect

-- a number takes the place of another, which is the key's item; it keeps the flags
abbrev pub counts : List ℕ → (ℕ → ℕ) → Item → Effect
counts key new item =
    option_map_or (λ number. stores key item.flags (decimal (new number)) (PlainReply.Number (new number))) (plain_number item.value) (tells PlainReply.NotNumber)

-- what each command comes to, by the item that its key has
abbrev pub effect_of : List (List ℕ × Item) → PlainCommand → Effect
effect_of entries (Get keys) = tells (PlainReply.Values (found_in entries keys))
effect_of entries (Gets keys) = tells (PlainReply.Uniques (found_in entries keys))
effect_of entries (Set key flags value) = stores key flags value PlainReply.Stored
effect_of entries (Add key flags value) = option_map_or (λ item. tells PlainReply.NotStored) (item_at entries key) (stores key flags value PlainReply.Stored)
effect_of entries (Replace key flags value) = option_map_or (λ item. stores key flags value PlainReply.Stored) (item_at entries key) (tells PlainReply.NotStored)
effect_of entries (Cas key flags value unique) = option_map_or
    (λ item. cond (item.unique == unique) (stores key flags value PlainReply.Stored) (tells PlainReply.Exists)) (item_at entries key) (tells PlainReply.NotFound)
effect_of entries (Delete key) = option_map_or (λ item. drops key) (item_at entries key) (tells PlainReply.NotFound)
effect_of entries (Incr key by) = option_map_or (counts key (λ number. (number + by) % 2 ^ 64)) (item_at entries key) (tells PlainReply.NotFound)
effect_of entries (Decr key by) = option_map_or (counts key (λ number. number - by)) (item_at entries key) (tells PlainReply.NotFound)

-- the item that a change stores
abbrev pub new_item : PlainMap → ℕ → List ℕ → Item
new_item map flags value = item_of flags value map.next

-- the entries after it
abbrev pub after : PlainMap → List ℕ → ℕ → List ℕ → List (List ℕ × Item)
after map key flags value = with_item map.entries key (new_item map flags value)

-- an item is stored, and draws the next unique
pub record IsStored (old : PlainMap) (key : List ℕ) (flags : ℕ) (value : List ℕ) (new : PlainMap) : Type 0 where
  pub unspent : old.next < 2 ^ 64 - 1
  pub fit : is_fit (after old key flags value) ≡ true
  pub entries : IsPermutation (after old key flags value) new.entries
  pub next : new.next ≡ old.next + 1

-- why an item isn't stored, and all is as before: no unique is left, or else there would be too many keys or bytes; or memory ran out
abbrev pub IsRefused : PlainMap → List ℕ → ℕ → List ℕ → PlainReply → Type 0
IsRefused old key flags value PlainReply.Spent = old.next ≡ 2 ^ 64 - 1
IsRefused old key flags value PlainReply.Full = (old.next < 2 ^ 64 - 1) × (is_fit (after old key flags value) ≡ false)
IsRefused old key flags value PlainReply.Memory = ⊤
IsRefused old key flags value reply = ⊥

-- this is told; or in place of items that were found, that memory ran out
abbrev pub IsItsReply : PlainReply → PlainReply → Type 0
IsItsReply (PlainReply.Values found) PlainReply.Memory = ⊤
IsItsReply (PlainReply.Uniques found) PlainReply.Memory = ⊤
IsItsReply wanted reply = reply ≡ wanted

-- what comes of it
abbrev pub ComesOf : PlainMap → Effect → PlainMap → PlainReply → Type 0
ComesOf old (tells wanted) new reply = IsItsReply wanted reply × (new ≡ old)
ComesOf old (drops key) new reply = (reply ≡ PlainReply.Deleted) × IsPermutation (without old.entries key) new.entries × (new.next ≡ old.next)
ComesOf old (stores key flags value wanted) new reply =
    (IsStored old key flags value new × (reply ≡ wanted)) ⊎ (IsRefused old key flags value reply × (new ≡ old))

-- the map before a command, the map after it, and the reply
abbrev pub PlainStep : PlainMap → PlainCommand → PlainMap → PlainReply → Type 0
PlainStep old command new reply = ComesOf old (effect_of old.entries command) new reply
