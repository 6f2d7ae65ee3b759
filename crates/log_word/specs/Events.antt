-- What the store's events tell of its sessions. Events are listed with the latest first.
use Rattle.std.specs.Prelude.{ℕ, suc, ◌≡◌, ◌==◌, ◌&&◌, Bool, true, false, List, [], ◌∷◌}
use Rattle.std.specs.List.{list_any}
use Rattle.log_word.specs.declared.events.StoreEvent.{StoreEvent}
use Rattle.log_word.specs.declared.events.StoreEvent.TheVariants.{Begin, Commit, End}

-- The event is the session's Begin.
abbrev pub begins : ℕ → StoreEvent → Bool
begins who (Begin sid worker writes) = sid.number == who
begins who (Commit sid txn) = false
begins who (End sid) = false

-- The event is the session's Begin for writing.
abbrev pub begins_to_write : ℕ → StoreEvent → Bool
begins_to_write who (Begin sid worker writes) = (sid.number == who) && writes
begins_to_write who (Commit sid txn) = false
begins_to_write who (End sid) = false

-- The event is the session's Commit or its End.
abbrev pub closes : ℕ → StoreEvent → Bool
closes who (Begin sid worker writes) = false
closes who (Commit sid txn) = sid.number == who
closes who (End sid) = sid.number == who

-- The session has begun.
abbrev pub has_begun : ℕ → List StoreEvent → Bool
has_begun who events = list_any (begins who) events

-- The session has begun for writing.
abbrev pub may_write : ℕ → List StoreEvent → Bool
may_write who events = list_any (begins_to_write who) events

-- The session is over: it has committed, or was ended.
abbrev pub is_over : ℕ → List StoreEvent → Bool
is_over who events = list_any (closes who) events

-- The session has begun for writing, and isn't over.
abbrev pub IsOpen : ℕ → List StoreEvent → Type 0
IsOpen who events = (may_write who events ≡ true) × (is_over who events ≡ false)

-- The event may follow the others: a session begins once, and one that began for writing commits or
-- ends, once.
abbrev pub MayFollow : List StoreEvent → StoreEvent → Type 0
MayFollow events (Begin sid worker writes) = has_begun sid.number events ≡ false
MayFollow events (Commit sid txn) = IsOpen sid.number events
MayFollow events (End sid) = IsOpen sid.number events

-- Each event may follow those before it.
abbrev pub AreInOrder : List StoreEvent → Type 0
AreInOrder [] = Unit {0}
AreInOrder (event ∷ events) = MayFollow events event × AreInOrder events

-- How many commits are among the events.
abbrev pub commit_count : List StoreEvent → ℕ
commit_count [] = 0
commit_count (Begin sid worker writes ∷ events) = commit_count events
commit_count (Commit sid txn ∷ events) = suc (commit_count events)
commit_count (End sid ∷ events) = commit_count events
