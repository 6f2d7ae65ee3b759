-- The reply of each step belongs to its command.
use Rattle.std.proofs.Common.{ℕ, ◌≡◌, ◌⊎◌, inl, inr, Bool, true, false, cond, List, [], ◌∷◌, Option, Some, None, refl, sym, subst}
use Rattle.std.specs.Prelude.{◌==◌, ◌%◌, ◌+◌, ◌-◌, ◌^◌}
use Rattle.mc_text.specs.PlainNumbers.{plain_number}
use Rattle.mc_text.specs.declared.plain_commands.PlainCommand.{PlainCommand}
use Rattle.mc_text.specs.declared.plain_commands.PlainCommand.TheVariants.{Get, Gets, Set, Add, Replace, Cas, Delete, Incr, Decr}
use Rattle.mc_text.specs.declared.plain_replies.Found.{Found}
use Rattle.mc_text.specs.declared.plain_replies.PlainReply.{PlainReply}
use Rattle.mc_text.specs.declared.plain_replies.PlainReply.TheVariants as PlainReply
use Rattle.plain_ops.specs.declared.items.Item.{Item}
use Rattle.plain_ops.specs.Entries.{item_at, found_in}
use Rattle.plain_ops.specs.Steps.{PlainMap, tells, stores, counts, IsRefused, IsItsReply, ComesOf, PlainStep}
use Rattle.plain_ops.specs.Desks.{AreOf, IsUnstored, Belongs}

-- items that are found at some of the keys are found at those of more keys
found_of : (entries : List (List ℕ × Item)) (keys : List (List ℕ)) → AreOf (found_in entries keys) keys
found_of entries [] = tt
found_of entries (key ∷ keys) = by (item_at entries key) refl (found_of entries keys)
  where
    later : (found : List Found) → AreOf found keys → AreOf found (key ∷ keys)
    later [] h = tt
    later (item ∷ items) h = inr h

    by : (at : Option Item) → item_at entries key ≡ at → AreOf (found_in entries keys) keys → AreOf (found_in entries (key ∷ keys)) (key ∷ keys)
    by None e h = rw e (later (found_in entries keys) h)
    by (Some item) e h = rw e (inl (refl, h))

refused_unstored : (old : PlainMap) (key : List ℕ) (flags : ℕ) (value : List ℕ) (reply : PlainReply) → IsRefused old key flags value reply → IsUnstored reply
refused_unstored old key flags value PlainReply.Spent h = tt
refused_unstored old key flags value PlainReply.Full h = tt
refused_unstored old key flags value PlainReply.Memory h = tt
refused_unstored old key flags value other h = absurd h

-- what is told of a change that is to be stored
stored_reply : (old new : PlainMap) (key : List ℕ) (flags : ℕ) (value : List ℕ) (wanted reply : PlainReply)
    → ComesOf old (stores key flags value wanted) new reply → (reply ≡ wanted) ⊎ IsUnstored reply
stored_reply old new key flags value wanted reply (inl h) = inl h.1
stored_reply old new key flags value wanted reply (inr h) = inr (refused_unstored old key flags value reply h.0)

-- what is told of a count
counted_reply : (old new : PlainMap) (key : List ℕ) (next : ℕ → ℕ) (item : Item) (at : Option ℕ) (reply : PlainReply) → plain_number item.value ≡ at
    → ComesOf old (counts key next item) new reply
    → ((number : ℕ) × (reply ≡ PlainReply.Number number)) ⊎ ((reply ≡ PlainReply.NotNumber) ⊎ IsUnstored reply)
counted_reply old new key next item None reply e h = inr (inl (rw e at h).0)
counted_reply old new key next item (Some number) reply e h = by (stored_reply old new key _ _ _ reply (rw e at h))
  where
    by : (reply ≡ PlainReply.Number (next number)) ⊎ IsUnstored reply → ((number : ℕ) × (reply ≡ PlainReply.Number number)) ⊎ ((reply ≡ PlainReply.NotNumber) ⊎ IsUnstored reply)
    by (inl is) = inl (next number, is)
    by (inr un) = inr (inr un)

-- what is told of items that were found
values_reply : (found : List Found) (keys : List (List ℕ)) (reply : PlainReply) → AreOf found keys → IsItsReply (PlainReply.Values found) reply → Belongs (Get keys) reply
values_reply found keys PlainReply.Memory a h = refl
values_reply found keys other a h = subst (λ (r : PlainReply). Belongs (Get keys) r) (sym h) a

uniques_reply : (found : List Found) (keys : List (List ℕ)) (reply : PlainReply) → AreOf found keys → IsItsReply (PlainReply.Uniques found) reply → Belongs (Gets keys) reply
uniques_reply found keys PlainReply.Memory a h = refl
uniques_reply found keys other a h = subst (λ (r : PlainReply). Belongs (Gets keys) r) (sym h) a

added_reply : (old new : PlainMap) (key : List ℕ) (flags : ℕ) (value : List ℕ) (reply : PlainReply) (at : Option Item) → item_at old.entries key ≡ at
    → PlainStep old (Add key flags value) new reply → Belongs (Add key flags value) reply
added_reply old new key flags value reply (Some item) e h = inr (inl (rw e at h).0)
added_reply old new key flags value reply None e h = by (stored_reply old new key flags value PlainReply.Stored reply (rw e at h))
  where
    by : (reply ≡ PlainReply.Stored) ⊎ IsUnstored reply → Belongs (Add key flags value) reply
    by (inl is) = inl is
    by (inr un) = inr (inr un)

replaced_reply : (old new : PlainMap) (key : List ℕ) (flags : ℕ) (value : List ℕ) (reply : PlainReply) (at : Option Item) → item_at old.entries key ≡ at
    → PlainStep old (Replace key flags value) new reply → Belongs (Replace key flags value) reply
replaced_reply old new key flags value reply None e h = inr (inl (rw e at h).0)
replaced_reply old new key flags value reply (Some item) e h = by (stored_reply old new key flags value PlainReply.Stored reply (rw e at h))
  where
    by : (reply ≡ PlainReply.Stored) ⊎ IsUnstored reply → Belongs (Replace key flags value) reply
    by (inl is) = inl is
    by (inr un) = inr (inr un)

cas_reply : (old new : PlainMap) (key : List ℕ) (flags : ℕ) (value : List ℕ) (unique : ℕ) (reply : PlainReply) (at : Option Item) → item_at old.entries key ≡ at
    → PlainStep old (Cas key flags value unique) new reply → Belongs (Cas key flags value unique) reply
cas_reply old new key flags value unique reply None e h = inr (inr (inl (rw e at h).0))
cas_reply old new key flags value unique reply (Some item) e h = by (item.unique == unique) (rw e at h)
  where
    stored : (reply ≡ PlainReply.Stored) ⊎ IsUnstored reply → Belongs (Cas key flags value unique) reply
    stored (inl is) = inl is
    stored (inr un) = inr (inr (inr un))

    by : (same : Bool) → ComesOf old (cond same (stores key flags value PlainReply.Stored) (tells PlainReply.Exists)) new reply → Belongs (Cas key flags value unique) reply
    by true k = stored (stored_reply old new key flags value PlainReply.Stored reply k)
    by false k = inr (inl k.0)

deleted_reply : (old new : PlainMap) (key : List ℕ) (reply : PlainReply) (at : Option Item) → item_at old.entries key ≡ at
    → PlainStep old (Delete key) new reply → Belongs (Delete key) reply
deleted_reply old new key reply None e h = inr (rw e at h).0
deleted_reply old new key reply (Some item) e h = inl (rw e at h).0

incr_reply : (old new : PlainMap) (key : List ℕ) (by' : ℕ) (reply : PlainReply) (at : Option Item) → item_at old.entries key ≡ at
    → PlainStep old (Incr key by') new reply → Belongs (Incr key by') reply
incr_reply old new key by' reply None e h = inr (inl (rw e at h).0)
incr_reply old new key by' reply (Some item) e h =
    by (counted_reply old new key (λ number. (number + by') % 2 ^ 64) item (plain_number item.value) reply refl (rw e at h))
  where
    by : ((number : ℕ) × (reply ≡ PlainReply.Number number)) ⊎ ((reply ≡ PlainReply.NotNumber) ⊎ IsUnstored reply) → Belongs (Incr key by') reply
    by (inl is) = inl is
    by (inr un) = inr (inr un)

decr_reply : (old new : PlainMap) (key : List ℕ) (by' : ℕ) (reply : PlainReply) (at : Option Item) → item_at old.entries key ≡ at
    → PlainStep old (Decr key by') new reply → Belongs (Decr key by') reply
decr_reply old new key by' reply None e h = inr (inl (rw e at h).0)
decr_reply old new key by' reply (Some item) e h =
    by (counted_reply old new key (λ number. number - by') item (plain_number item.value) reply refl (rw e at h))
  where
    by : ((number : ℕ) × (reply ≡ PlainReply.Number number)) ⊎ ((reply ≡ PlainReply.NotNumber) ⊎ IsUnstored reply) → Belongs (Decr key by') reply
    by (inl is) = inl is
    by (inr un) = inr (inr un)

pub step_belongs : (old new : PlainMap) (command : PlainCommand) (reply : PlainReply) → PlainStep old command new reply → Belongs command reply
step_belongs old new (Get keys) reply h = values_reply (found_in old.entries keys) keys reply (found_of old.entries keys) h.0
step_belongs old new (Gets keys) reply h = uniques_reply (found_in old.entries keys) keys reply (found_of old.entries keys) h.0
step_belongs old new (Set key flags value) reply h = stored_reply old new key flags value PlainReply.Stored reply h
step_belongs old new (Add key flags value) reply h = added_reply old new key flags value reply (item_at old.entries key) refl h
step_belongs old new (Replace key flags value) reply h = replaced_reply old new key flags value reply (item_at old.entries key) refl h
step_belongs old new (Cas key flags value unique) reply h = cas_reply old new key flags value unique reply (item_at old.entries key) refl h
step_belongs old new (Delete key) reply h = deleted_reply old new key reply (item_at old.entries key) refl h
step_belongs old new (Incr key by) reply h = incr_reply old new key by reply (item_at old.entries key) refl h
step_belongs old new (Decr key by) reply h = decr_reply old new key by reply (item_at old.entries key) refl h
