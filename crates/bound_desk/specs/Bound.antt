-- What ties a desk's book to the pass beside it: the pass has seen what the book says.
use Rattle.std.specs.Prelude.{ℕ, ◌≡◌, ◌≤◌, ◌&&◌, ◌||◌, not, Bool, true, false, if◌then◌else◌, IsTrue, is_some, List, length, All, Option, Some}
use Rattle.std.specs.Option.{ForSome}
use Rattle.rows_model.specs.declared.keys.QKey.{QKey}
use Rattle.rows_model.specs.declared.keys.Sid.{Sid}
use Rattle.rows_model.specs.Placement.{shard_of}
use Rattle.rows_model.specs.Rows.{Tables}
use Rattle.key_shard.specs.declared.replies.Got.{Got}
use Rattle.key_shard.specs.declared.replies.Got.TheVariants as got
use Rattle.sql_keeper.specs.declared.stores.Answer.{Answer}
use Rattle.session_client.specs.Desks.{Exchange}
use Rattle.log_word.specs.declared.events.Short.{Short}
use Rattle.log_word.specs.declared.seen.Seen.{Seen}
use Rattle.log_word.specs.Events.{may_write, is_over}
use Rattle.log_word.specs.Steps.{IsSound, IsBeginning}
use Rattle.key_freshness.specs.Held.{IsRight}
use Rattle.key_freshness.specs.Known.{IsAmong}
use Rattle.bound_hub.specs.Asked.{IsLeaseOn}
use Rattle.bound_hub.specs.Facts.{answer_after}
use Rattle.bound_hub.specs.Gets.{IsLastStep}
use Rattle.bound_hub.specs.Knowns.{commits_of, ended_of}
use Rattle.bound_hub.specs.Stores.{IsGrantSeen}
use Rattle.desk_book.specs.Books.{Book, BookView, Held, with_lease}
use Rattle.desk_book.specs.Borne.{IsPresent}
use Rattle.desk_book.specs.declared.facts.Leased.{Leased}
use Rattle.desk_book.specs.declared.facts.Present.{Present}

-- What contracts see of a book and the pass beside it: the book, what the pass has seen, and the session that was seen last to
-- be ended without a commit.
pub record BoundBookView : Type 0 where
  pub book : BookView
  pub seen : Seen
  pub quit : Option Sid

-- What contracts see of a desk: its book, what its pass has seen, the number of its worker, and the calls that it answered,
-- the latest first.
pub record BoundDeskView : Type 0 where
  pub book : BookView
  pub seen : Seen
  pub worker : ℕ
  pub calls : List Exchange

-- The answer was given since a pass had seen the earlier: its stamp is at least the number of commits that had been
-- seen then, and at most that of those that are seen now. It is right for the key, unless it is seen that the store has
-- stopped telling its rows.
pub record IsGivenSince (opening : Tables) (key : QKey) (earlier seen : Seen) (given : Answer) : Type 0 where
  pub late : length (commits_of earlier.events) ≤ given.stamp
  pub within : given.stamp ≤ length (commits_of seen.events)
  pub right : seen.stopped ≡ false → IsRight (answer_after opening key) (commits_of seen.events) given.value given.stamp

-- The pass had seen the lease when it was given, as the last step of its key's shard, and each of the answers was given
-- since.
pub record IsLeaseSeen (opening : Tables) (shards : ℕ) (answers : List Answer) (seen : Seen) (lease : Leased) : Type 0 where
  pub earlier : Seen
  pub sound : IsSound shards earlier
  pub begins : IsBeginning earlier seen
  pub step : Short
  pub last : IsLastStep (shard_of lease.key shards) step earlier
  pub on : IsLeaseOn lease.key lease.token step
  pub given : All (IsGivenSince opening lease.key earlier seen) answers

-- The pass has seen the present session's Begin for writing, where it was begun so.
abbrev pub IsPresentSeen : Seen → Present → Type 0
IsPresentSeen seen present = present.writes ≡ true → may_write present.sid.number seen.events ≡ true

-- The pass has seen that the present session is over, once it has committed.
abbrev pub IsCommitSeen : Book → Seen → Type 0
IsCommitSeen book seen =
    ForSome book.present (λ present. ForSome book.commit (λ done. is_over present.sid.number seen.events ≡ true))

-- The pass has seen what the book says.
pub record IsBoundBook (opening : Tables) (shards : ℕ) (book : Book) (seen : Seen) : Type 0 where
  pub present : ForSome book.present (IsPresentSeen seen)
  pub lease : ForSome book.lease (IsLeaseSeen opening shards book.answers seen)
  pub held : All (λ (one : Held). IsGrantSeen shards seen one.permit) book.held
  pub commit : IsCommitSeen book seen

-- The pass has seen that the session was ended without a commit.
abbrev pub IsQuitSeen : Option Sid → Seen → Type 0
IsQuitSeen quit seen = ForSome quit (λ who. IsAmong who.number (ended_of seen.events))

-- Which session has quit after the end of one: that one, where it was open, or was begun for writing and can't have committed.
abbrev pub quit_after : Option Sid → Sid → Bool → Bool → Bool → Option Sid
quit_after before who was writes may_have = if was || (writes && not may_have) then Some who else before

-- The session is the present one, and has committed.
abbrev pub HasCommitted : Book → Sid → Type 0
HasCommitted book who = IsPresent book who × IsTrue (is_some book.commit)

-- What the answer to a get adds to a book.
abbrev pub with_got : QKey → Got → Book → Book
with_got key (got.Lease token) book = with_lease key token book
with_got key other book = book
