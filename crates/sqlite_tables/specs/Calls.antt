-- What a statement inside a transaction says of the lists, and what it leaves whatever it answers.
use Rattle.std.specs.Prelude.{◌≡◌, ◌≤◌, IsTrue}
use Rattle.sqlite_trees.specs.View.{doubt}
use Rattle.sqlite_trees.specs.declared.store.Store.{Ghosts}
use Rattle.sqlite.specs.State.{HasCleanDisk, KeepsCommit}
use Rattle.sqlite.specs.Held.{Held, state}
use Rattle.sqlite.specs.declared.error.Error.{Error}
use Rattle.sqlite.specs.declared.error.Error.TheVariants.{SqliteFailure}
use Rattle.sqlite.specs.declared.error.ErrorCode.TheVariants as code
use Rattle.sql_keeper.specs.declared.faults.KeepFault.{KeepFault}
use Rattle.sql_keeper.specs.declared.faults.KeepFault.TheVariants.{Failed, Memory}
use Rattle.sqlite_tables.specs.Lists.{Lists, AreLists}

-- want of memory is told as such, and each other refusal of `sqlite` is a failure
abbrev pub fault_for : Error → KeepFault
fault_for (SqliteFailure code.OutOfMemory) = Memory
fault_for other = Failed

module _ {S : Type 0} (g : Ghosts S) (old new : Held S) where
  -- This holds of the lists that the transaction held before the call, where the disk has told no lie.
  abbrev pub OnLists : (Lists → Type 0) → Type 0
  OnLists P = HasCleanDisk (state g new) → (lists : Lists) → AreLists (state g old).now lists → P lists

  -- A disk that has told no lie told none before the call, a connection that is open was open before it,
  -- and the last commit is as it was.
  pub record Leaves : Type 0 where
    pub clean : doubt (state g old).is_clean ≤ doubt (state g new).is_clean
    pub was_open : HasCleanDisk (state g new) → IsTrue (state g new).is_open → IsTrue (state g old).is_open
    pub committed : OnLists (λ _. IsTrue (state g new).is_open → (state g new).committed ≡ (state g old).committed)

  -- The connection was open and is, and what the transaction held is what is seen, and the last commit.
  pub record AreKept : Type 0 where
    pub was_open : IsTrue (state g old).is_open
    pub is_open : IsTrue (state g new).is_open
    pub now : (state g new).now ≡ (state g old).now
    pub committed : (state g new).committed ≡ (state g old).now

  -- Where the connection is open, the last commit is as it was, and is what is seen.
  pub record AreDropped : Type 0 where
    pub kept : KeepsCommit (state g old) (state g new)
    pub now : IsTrue (state g new).is_open → (state g new).now ≡ (state g new).committed
