-- What loading rows makes of a shard and of a store.
use Rattle.std.specs.Prelude.{ℕ, ◌≡◌, ◌<◌, ◌≤◌, ◌+◌, ◌-◌, ◌^◌, ◌⊎◌, false, List, [], ◌∷◌, ◌++◌, length, map, reverse, find, take, slice_get, All, Option, Some, None, IsSome, option_map}
use Rattle.rows_model.specs.declared.keys.QKey.{QKey}
use Rattle.rows_model.specs.declared.keys.Sid.{Sid}
use Rattle.rows_model.specs.Key.{same_key}
use Rattle.rows_model.specs.Rows.{Tables}
use Rattle.rows_model.specs.Query.{answer}
use Rattle.key_shard.specs.declared.steps.Step.{Step}
use Rattle.key_shard.specs.declared.steps.Step.TheVariants.{Lease, Stored}
use Rattle.key_shard.specs.Past.{Terms, standing, recorded, entry, order, next_token, deadline_at}
use Rattle.key_shard.specs.Answers.{IsAtHome}
use Rattle.key_shard.specs.Shards.{ShardView, past_of}
use Rattle.sql_keeper.specs.Stores.{StoreView, with_session}
use Rattle.shard_dump.specs.declared.rows.DumpRow.{DumpRow}
use Rattle.shard_dump.specs.declared.faults.LoadFault.{LoadFault}
use Rattle.shard_dump.specs.declared.faults.LoadFault.TheVariants as faults

-- a key has no quarantine, no lease to read and no entry
pub record IsBlank (past : List Step) (key : QKey) : Type 0 where
  pub no_quars : standing key past ≡ []
  pub no_lease : recorded key past ≡ None
  pub no_entry : entry key past ≡ None

-- a shard has no entry and no lease
abbrev pub IsEmpty : ShardView → Type 0
IsEmpty shard = (key : QKey) → IsBlank (past_of shard) key

-- where the keeper tells its rows, each value is its key's answer on these
abbrev pub AreAnswers : Option Tables → Tables → List DumpRow → Type 0
AreAnswers known_rows opening rows = IsSome known_rows → All (λ row. row.value ≡ answer row.key opening) rows

-- the lease that a row's key is given
abbrev pub lease_of : Terms → Sid → ℕ → ℕ → QKey → Step
lease_of terms who now token key = Lease key who 0 now token (deadline_at terms now)

-- and the value that is stored under it, with stamp 0
abbrev pub store_of : ℕ → ℕ → DumpRow → Step
store_of now token row = Stored row.key token now row.value 0 None

-- the steps of rows that are loaded: of each a lease and a stored value, with the tokens from this one on
abbrev pub loaded_steps : Terms → Sid → ℕ → ℕ → List DumpRow → List Step
loaded_steps terms who now token [] = []
loaded_steps terms who now token (row ∷ rows) =
    lease_of terms who now token row.key ∷ store_of now token row ∷ loaded_steps terms who now (token + 1) rows

-- the steps of rows that a session loads into this shard
abbrev pub steps_for : Sid → ℕ → ShardView → List DumpRow → List Step
steps_for who now shard rows = loaded_steps shard.terms who now (next_token shard.terms (past_of shard)) rows

-- the entry that a key has once rows are loaded into an empty shard
abbrev pub loaded_entry : QKey → List DumpRow → Option (List ℕ × ℕ)
loaded_entry key rows = option_map (λ row. (row.value, 0)) (find (λ row. same_key key row.key) rows)

-- the entries are these rows, with stamp 0, the last one in front
pub record HasRows (past : List Step) (rows : List DumpRow) : Type 0 where
  pub entries : (key : QKey) → entry key past ≡ loaded_entry key rows
  pub in_order : order past ≡ map (λ row. row.key) (reverse rows)

-- the shard has these steps behind the old ones, and else is as before
pub record HasGained (steps : List Step) (old new : ShardView) : Type 0 where
  pub terms : new.terms ≡ old.terms
  pub out : new.out ≡ old.out
  pub history : new.history ≡ old.history ++ steps

-- a session loaded these rows: they are the entries, and no key has a lease
pub record HasLoaded (who : Sid) (now : ℕ) (rows : List DumpRow) (old new : ShardView) : Type 0 where
  pub gained : HasGained (steps_for who now old rows) old new
  pub has : HasRows (past_of new) rows
  pub no_leases : (key : QKey) → recorded key (past_of new) ≡ None
  pub no_quars : (key : QKey) → standing key (past_of new) ≡ []

-- the lease of a key behind the rows that were loaded
abbrev pub next_lease : Sid → ℕ → ShardView → List DumpRow → QKey → Step
next_lease who now shard rows key = lease_of shard.terms who now (next_token shard.terms (past_of shard) + length rows) key

-- a session loaded these rows, and then the lease of one more stands
pub record HasLeased (who : Sid) (now : ℕ) (rows : List DumpRow) (row : DumpRow) (old new : ShardView) : Type 0 where
  pub gained : HasGained (steps_for who now old rows ++ next_lease who now old rows row.key ∷ []) old new
  pub has : HasRows (past_of new) rows

-- a session loaded the first rows, or the lease of the next one stands too
pub record HasStopped (who : Sid) (now : ℕ) (rows : List DumpRow) (old new : ShardView) : Type 0 where
  pub front : List DumpRow
  pub rest : List DumpRow
  pub parts : rows ≡ front ++ rest
  pub loaded : HasLoaded who now front old new
      ⊎ ((row : DumpRow) × (more : List DumpRow) × (rest ≡ row ∷ more) × HasLeased who now front row old new)

-- a session loaded the first rows, and for the next one there was no token: it would be the last number there is
pub record HasSpent (who : Sid) (now next : ℕ) (rows : List DumpRow) (old new : ShardView) : Type 0 where
  pub front : List DumpRow
  pub row : DumpRow
  pub more : List DumpRow
  pub parts : rows ≡ front ++ row ∷ more
  pub loaded : HasLoaded who now front old new
  pub drawn : next ≡ next_token old.terms (past_of old) + length front
  pub last : next ≡ 2 ^ 64 - 1

-- for rows there are tokens: each that they draw is below the last number there is
abbrev pub HasTokens : ShardView → List DumpRow → Type 0
HasTokens shard rows = (place : ℕ) → place < length rows → next_token shard.terms (past_of shard) + place < 2 ^ 64 - 1

-- the keys of all rows are the shard's
abbrev pub AreAtHome : ShardView → List DumpRow → Type 0
AreAtHome shard rows = All (λ row. IsAtHome shard.terms row.key) rows

-- the row of this number is the first whose key is another shard's
pub record IsFirstStranger (shard : ShardView) (rows : List DumpRow) (number : ℕ) : Type 0 where
  pub row : DumpRow
  pub there : slice_get rows number ≡ Some row
  pub away : IsAtHome shard.terms row.key → ⊥
  pub before : AreAtHome shard (take number rows)

-- the session that a store began last
abbrev pub last_session : StoreView → Sid
last_session store = record { number = length store.ledger.sessions }

-- what a load that stopped has made of the shard
abbrev pub StopsShard : Sid → ℕ → List DumpRow → ShardView → ShardView → LoadFault → Type 0
StopsShard who now rows old new (faults.Stranger row) = IsFirstStranger old rows row × (new ≡ old)
StopsShard who now rows old new (faults.Spent next) = AreAtHome old rows × HasSpent who now next rows old new
StopsShard who now rows old new faults.Memory = AreAtHome old rows × HasStopped who now rows old new

-- and of the store: a session to read has begun, or for a stranger none, or none for want of memory
abbrev pub StopsStore : StoreView → StoreView → LoadFault → Type 0
StopsStore old new (faults.Stranger row) = new.ledger ≡ old.ledger
StopsStore old new (faults.Spent next) = new.ledger ≡ with_session false old.ledger
StopsStore old new faults.Memory = (new.ledger ≡ with_session false old.ledger) ⊎ (new.ledger ≡ old.ledger)

-- the lease of a key that is the first to be loaded
abbrev pub first_lease : Sid → ℕ → ShardView → QKey → Step
first_lease who now shard key = lease_of shard.terms who now (next_token shard.terms (past_of shard)) key

-- what is so where a key isn't leased: nothing has changed, and the next token is the last number there is, or memory ran out
abbrev pub StopsLease : ShardView → ShardView → LoadFault → Type 0
StopsLease old new (faults.Stranger number) = ⊥
StopsLease old new (faults.Spent next) = (new ≡ old) × (next ≡ next_token old.terms (past_of old)) × (next ≡ 2 ^ 64 - 1)
StopsLease old new faults.Memory = new ≡ old

-- what is so where a row isn't loaded: its key isn't leased, or for want of memory its lease stands
abbrev pub StopsRow : Sid → ℕ → QKey → ShardView → ShardView → LoadFault → Type 0
StopsRow who now key old new fault =
    StopsLease old new fault ⊎ ((fault ≡ faults.Memory) × HasGained (first_lease who now old key ∷ []) old new)

-- each entry has the stamp 0, and is its key's answer on these rows
abbrev pub AreRight : Tables → List Step → Type 0
AreRight opening past =
    (key : QKey) (value : List ℕ) (stamp : ℕ) → entry key past ≡ Some (value, stamp) → (stamp ≡ 0) × (value ≡ answer key opening)

-- a store after calls of its keeper, some of which may have failed: else the ledger is as before, and the keeper tells no more rows
pub record HasAsked (old new : StoreView) : Type 0 where
  pub opening : new.ledger.opening ≡ old.ledger.opening
  pub log : new.ledger.log ≡ old.ledger.log
  pub sessions : new.ledger.sessions ≡ old.ledger.sessions
  pub cap : new.ledger.cap ≡ old.ledger.cap
  pub never_falls : old.faults ≤ new.faults
  pub tells : IsSome new.known_rows → IsSome old.known_rows
