-- What a desk was told for its present session: the book.
use Rattle.std.specs.Prelude.{ℕ, ℤ, pos, ◌==◌, Bool, true, false, nat_lt, if◌then◌else◌, List, [], ◌∷◌, ◌++◌, length, drop, Option, Some, None}
use Rattle.rows_model.specs.declared.keys.QKey.{QKey}
use Rattle.rows_model.specs.declared.keys.Sid.{Sid}
use Rattle.rows_model.specs.declared.changes.Change.{Change}
use Rattle.rows_model.specs.Key.{same_key}
use Rattle.lease_table.specs.declared.records.Mode.TheVariants as mode
use Rattle.key_shard.specs.Permit.{Permit, same_permit}
use Rattle.sql_keeper.specs.declared.stores.Answer.{Answer}
use Rattle.desk_book.specs.declared.facts.Present.{Present}
use Rattle.desk_book.specs.declared.facts.Leased.{Leased}
use Rattle.desk_book.specs.declared.facts.Committed.{Committed}

-- A grant that the session holds, the old value that came along with it, with its stamp, and by how much it is to shift the value.
pub record Held : Type 0 where
  pub permit : Permit
  pub old : Option (List ℕ × ℕ)
  pub by : ℤ

-- What a desk was told for its present session: the lease that it was given last, what the store has answered for that key
-- since, the grants that it holds, its commit, and whether its end was answered.
pub record Book : Type 0 where
  pub present : Option Present
  pub lease : Option Leased
  pub answers : List Answer
  pub held : List Held
  pub commit : Option Committed
  pub ended : Bool

-- What contracts see of a book: what was told, and for how many answers and grants there is room in all.
pub record BookView : Type 0 where
  pub book : Book
  pub answer_room : ℕ
  pub grant_room : ℕ

-- Nothing was told, and no session has begun.
abbrev pub empty_book : Book
empty_book = record { present = None; lease = None; answers = []; held = []; commit = None; ended = false }

-- A session has begun, and nothing was told to it yet.
abbrev pub first_book : Sid → Bool → Book
first_book who writes =
    record { present = Some (record { sid = who; writes = writes }); lease = None; answers = []; held = []; commit = None; ended = false }

-- Whether the session of this number is the present one.
abbrev pub is_of : Option Present → Sid → Bool
is_of (Some one) who = one.sid.number == who.number
is_of None who = false

abbrev pub is_present : Book → Sid → Bool
is_present book who = is_of book.present who

-- Whether the present session was begun for writing.
abbrev pub may_write : Option Present → Bool
may_write (Some one) = one.writes
may_write None = false

-- Whether the lease is on this key.
abbrev pub is_on : Option Leased → QKey → Bool
is_on (Some lease) key = same_key lease.key key
is_on None key = false

-- How many answers a book keeps.
abbrev pub most_answers : ℕ
most_answers = 4

-- The answers that stay when one more comes: all, or without the oldest.
abbrev pub with_place : List Answer → List Answer
with_place answers = if nat_lt (length answers) most_answers then answers else drop 1 answers

-- A lease was given. Answers from before it don't count for it.
abbrev pub with_lease : QKey → ℕ → Book → Book
with_lease key token book = record book { lease = Some (record { key = key; token = token }); answers = [] }

-- The store has answered. Of another key than the lease's that isn't kept.
abbrev pub with_answer : Answer → Book → Book
with_answer answer book =
    if is_on book.lease answer.key then record book { answers = with_place book.answers ++ answer ∷ [] } else book

-- A quarantine was granted.
abbrev pub with_grant : Permit → Option (List ℕ × ℕ) → ℤ → Book → Book
with_grant permit old by book = record book { held = book.held ++ record { permit = permit; old = old; by = by } ∷ [] }

-- What a grant says once its quarantine is raised.
abbrev pub raised : Permit → Permit
raised permit = record permit { mode = mode.Refresh }

-- The first of these grants that was raised to this one is this one now, with this old value. It shifts nothing.
abbrev pub all_raised : Permit → Option (List ℕ × ℕ) → List Held → List Held
all_raised permit old [] = []
all_raised permit old (one ∷ held) =
    if same_permit (raised one.permit) permit
    then record { permit = permit; old = old; by = pos 0 } ∷ held
    else one ∷ all_raised permit old held

-- A quarantine was raised.
abbrev pub with_raised : Permit → Option (List ℕ × ℕ) → Book → Book
with_raised permit old book = record book { held = all_raised permit old book.held }

-- All of these grants but the first that says this.
abbrev pub all_but : Permit → List Held → List Held
all_but permit [] = []
all_but permit (one ∷ held) = if same_permit one.permit permit then held else one ∷ all_but permit held

-- A grant is spent.
abbrev pub without_grant : Permit → Book → Book
without_grant permit book = record book { held = all_but permit book.held }

-- The transaction was committed with this number.
abbrev pub with_commit : ℕ → List Change → Book → Book
with_commit number txn book = record book { commit = Some (record { number = number; txn = txn }) }

-- The session's end was answered.
abbrev pub with_end : Book → Book
with_end book = record book { ended = true }

-- What is noted for a session: nothing, where it isn't the present one.
abbrev pub noted_for : Sid → (Book → Book) → Book → Book
noted_for who note book = if is_present book who then note book else book
