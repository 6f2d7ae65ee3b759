-- What the store's events say in the words of one key's freshness.
use Rattle.std.specs.Prelude.{ℕ, suc, List, [], ◌∷◌, ◌++◌}
use Rattle.sql_keeper.specs.declared.stores.Commit.{Commit}
use Rattle.log_word.specs.declared.events.StoreEvent.{StoreEvent}
use Rattle.log_word.specs.declared.events.StoreEvent.TheVariants as event
use Rattle.key_freshness.specs.Known.{Known}

-- The commits among the events, the earliest first.
abbrev pub commits_of : List StoreEvent → List Commit
commits_of [] = []
commits_of (event.Begin sid worker writes ∷ events) = commits_of events
commits_of (event.Commit sid txn ∷ events) = commits_of events ++ record { sid = sid; txn = txn } ∷ []
commits_of (event.End sid ∷ events) = commits_of events

-- The numbers of the sessions that were ended.
abbrev pub ended_of : List StoreEvent → List ℕ
ended_of [] = []
ended_of (event.Begin sid worker writes ∷ events) = ended_of events
ended_of (event.Commit sid txn ∷ events) = ended_of events
ended_of (event.End sid ∷ events) = sid.number ∷ ended_of events

-- How many sessions began by the events.
abbrev pub begin_count : List StoreEvent → ℕ
begin_count [] = 0
begin_count (event.Begin sid worker writes ∷ events) = suc (begin_count events)
begin_count (event.Commit sid txn ∷ events) = begin_count events
begin_count (event.End sid ∷ events) = begin_count events

-- What is known of the store by its events.
abbrev pub known_of : List StoreEvent → Known
known_of events = record { log = commits_of events; ended = ended_of events }
