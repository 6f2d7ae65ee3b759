-- The log: what was committed, the earliest first, and the rows after so many of its transactions.
use Rattle.std.specs.Prelude.{ℕ, ◌≡◌, ◌<◌, ◌==◌, ◌-◌, ◌^◌, Bool, true, not, List, take, fold, if◌then◌else◌, [], Result, Ok, Err}
use Rattle.rows_model.specs.declared.keys.Sid.{Sid}
use Rattle.rows_model.specs.declared.changes.Change.{Change}
use Rattle.rows_model.specs.Rows.{Tables}
use Rattle.rows_model.specs.Changes.{apply_all}
use Rattle.sql_keeper.specs.declared.stores.Commit.{Commit}

-- the rows that a transaction led to: where a change didn't apply, those before it
abbrev pub led_to : Tables → Result Tables ℕ → Tables
led_to before (Ok after) = after
led_to before (Err index) = before

-- the rows after a commit
abbrev pub after_commit : Tables → Commit → Tables
after_commit rows commit = led_to rows (apply_all commit.txn rows)

-- the rows after all these commits
abbrev pub rows_after : Tables → List Commit → Tables
rows_after opening log = fold after_commit opening log

-- the rows after the first n commits of the log
abbrev pub state : Tables → List Commit → ℕ → Tables
state opening log n = rows_after opening (take n log)

-- a log: all its commits, whether they are kept in memory, how many are there, and for how many there is room
pub record LogView : Type 0 where
  pub items : List Commit
  pub keeps : Bool
  pub used : ℕ
  pub room : ℕ

-- a commit, by its session and its transaction
abbrev pub commit_of : Sid × List Change → Commit
commit_of pair = record { sid = pair.0; txn = pair.1 }

-- the commits that are in memory: all, where the log is kept, and else none
abbrev pub in_memory : Bool → List Commit → List Commit
in_memory keeps items = if keeps then items else []

-- a log can take a commit without memory
abbrev pub HasPlace : LogView → Type 0
HasPlace log = log.keeps ≡ true → log.used < log.room

-- as many commits as a number can count
abbrev pub no_cap : ℕ
no_cap = 2 ^ 64 - 1

-- whether a store that takes so many commits keeps its log in memory: it does, unless the number is the last one there is
abbrev pub keeps_log : ℕ → Bool
keeps_log cap = not (cap == no_cap)
