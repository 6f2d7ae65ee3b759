-- What each call of a desk shows: what was made of the request by the desk's book, what was seen then, and what the book
-- said behind it.
use Rattle.std.specs.Prelude.{ℕ, ◌≡◌, ◌⊎◌, pos, false, List, [], ◌∷◌, Result, Ok, Err, Bool}
use Rattle.rows_model.specs.declared.keys.Sid.{Sid}
use Rattle.rows_model.specs.Rows.{Tables}
use Rattle.key_shard.specs.declared.replies.Rel.{Rel}
use Rattle.key_shard.specs.declared.replies.Rel.TheVariants as rel
use Rattle.key_shard.specs.declared.steps.Step.{Step}
use Rattle.key_shard.specs.Past.{Terms}
use Rattle.key_shard.specs.Permit.{Permit}
use Rattle.session_client.specs.Belongs.{Belongs}
use Rattle.session_client.specs.Desks.{Exchange, Began, Asked, IsProper}
use Rattle.session_client.specs.declared.replies.Reply.{Reply}
use Rattle.session_client.specs.declared.replies.Wanted.{Wanted}
use Rattle.session_client.specs.declared.replies.Wanted.TheVariants as wanted
use Rattle.log_word.specs.declared.seen.Seen.{Seen}
use Rattle.log_word.specs.Steps.{IsBeginning}
use Rattle.bound_hub.specs.Stores.{ShowsEnd}
use Rattle.desk_book.specs.Books.{Book, empty_book, first_book, noted_for, with_answer, with_commit, with_end, without_grant}
use Rattle.desk_book.specs.Borne.{IsForm, IsPut}
use Rattle.desk_book.specs.Made.{made_in}
use Rattle.desk_book.specs.declared.forms.Form.{Form}
use Rattle.desk_book.specs.declared.made.Made.{Made}
use Rattle.desk_book.specs.declared.made.Made.TheVariants as made
use Rattle.bound_desk.specs.AtStore.{ShowsAtStore}
use Rattle.bound_desk.specs.Bound.{with_got}
use Rattle.bound_desk.specs.Faults.{ShowsFault}
use Rattle.bound_desk.specs.Grants.{with_granted, with_raising}
use Rattle.bound_desk.specs.Safe.{drop_reply, is_raise}
use Rattle.bound_desk.specs.Shown.{ShowsDrop, ShowsReply}

-- What a book says behind a request with this reply. Nothing is noted for a session that isn't the present one.
abbrev pub book_after : Sid → Wanted → Reply → Book → Book
book_after who (wanted.Get key floor) (Reply.Got got) book = noted_for who (with_got key got) book
book_after who (wanted.Ask key) (Reply.Answer given) book = noted_for who (with_answer given) book
book_after who (wanted.QaReg key) (Reply.Quar answer) book = noted_for who (with_granted (pos 0) answer) book
book_after who (wanted.QaRead key) (Reply.Quar answer) book = noted_for who (with_granted (pos 0) answer) book
book_after who (wanted.Delta key by) (Reply.Quar answer) book = noted_for who (with_granted by answer) book
book_after who (wanted.Commit txn grants) (Reply.Committed number changes back) book = noted_for who (with_commit number txn) book
book_after who wanted.End (Reply.End was) book = noted_for who with_end book
book_after who (wanted.Dar grant) (Reply.Rel answer) book = noted_for who (without_grant grant) book
book_after who (wanted.Sar grant value stamp) (Reply.Rel answer) book = noted_for who (without_grant grant) book
book_after who (wanted.Apply grant stamp) (Reply.Rel answer) book = noted_for who (without_grant grant) book
book_after who (wanted.Abort grant) (Reply.Rel answer) book = noted_for who (without_grant grant) book
book_after who (wanted.Raise grant) (Reply.Raise answer) book = noted_for who (with_raising grant answer) book
book_after who request reply book = book

-- What is made of a request by its form in this book. For want of memory for a release with a new value the request comes
-- back.
abbrev pub IsMadeBy : Book → Sid → Wanted → Result Made Wanted → Type 0
IsMadeBy book who request (Ok one) = (found : Form) × IsForm book who request found × (one ≡ made_in found who request)
IsMadeBy book who request (Err back) = IsPut request × (back ≡ request)

-- One event was made: the reply shows it by what is seen behind it, and the book notes the reply.
pub record IsMadeAs (opening : Tables) (cap : ℕ) (terms : ℕ → Terms) (before : ℕ → List Step) (shards : ℕ) (who : Sid) (request : Wanted) (reply : Reply)
    (book after : Book) (old new : Seen) : Type 0 where
  pub on_shard : ShowsReply opening before shards who request reply new
  pub refused : ShowsFault terms before shards request reply new
  pub at_store : ShowsAtStore opening cap book who request reply old new
  pub noted : after ≡ book_after who request reply book

-- What an end and a drop behind it show: where the end told that the session was open, or it is over for another reason, the drop's
-- step is seen, unless it is Gone. The reply is that of a drop.
pub record IsEndDrop (shards : ℕ) (who session : Sid) (grant : Permit) (raises : Bool) (reply : Reply) (book after : Book) (old new : Seen) : Type 0 where
  pub between : Seen
  pub was : Bool
  pub goes : IsBeginning old between
  pub goes_on : IsBeginning between new
  pub ended : ShowsEnd session between was
  pub answer : Rel
  pub told : reply ≡ drop_reply raises answer
  pub dropped : ShowsDrop shards grant answer new
  pub noted : (after ≡ noted_for who (without_grant grant) book) ⊎ ((after ≡ book) × (was ≡ false) × (answer ≡ rel.Gone))

-- The reply where a release with a new value came back: its grant.
abbrev pub back_reply : Wanted → Reply
back_reply (wanted.Sar grant value stamp) = Reply.SarBack grant
back_reply other = Reply.Nothing

-- What the reply to a request shows, by what was made of that.
abbrev pub IsShownAs : Tables → ℕ → (ℕ → Terms) → (ℕ → List Step) → ℕ → Sid → Wanted → Reply → Result Made Wanted → Book → Book → Seen → Seen → Type 0
IsShownAs opening cap terms before shards who request reply (Ok (made.One one)) book after old new =
    IsMadeAs opening cap terms before shards who one reply book after old new
IsShownAs opening cap terms before shards who request reply (Ok (made.EndDrop session grant)) book after old new =
    IsEndDrop shards who session grant (is_raise request) reply book after old new
IsShownAs opening cap terms before shards who request reply (Ok (made.Answered told)) book after old new =
    (reply ≡ told) × (after ≡ book)
IsShownAs opening cap terms before shards who request reply (Err back) book after old new =
    (reply ≡ back_reply request) × (after ≡ book)

-- A call was answered: by what had been seen before and what was seen then, and by what its book said before and says
-- behind it.
pub record IsAnswered (opening : Tables) (cap : ℕ) (terms : ℕ → Terms) (before : ℕ → List Step) (shards : ℕ) (who : Sid) (request : Wanted) (reply : Reply)
    (book after : Book) (old new : Seen) : Type 0 where
  pub proper : IsProper request
  pub belongs : Belongs who request reply
  pub begins : IsBeginning old new
  pub way : Result Made Wanted
  pub by_book : IsMadeBy book who request way
  pub shown : IsShownAs opening cap terms before shards who request reply way book after old new

-- Each of these calls shows what it answered, behind which the book says this, and that has been seen. The latest call is in
-- front. What had been seen when a call was answered is a beginning of what had been when the next one was made.
abbrev pub AreShown : Tables → ℕ → (ℕ → Terms) → (ℕ → List Step) → ℕ → List Exchange → Book → Seen → Type 0
AreShown opening cap terms before shards [] book seen = book ≡ empty_book
AreShown opening cap terms before shards (Began writes who ∷ calls) book seen =
    (book ≡ first_book who writes)
    × (since : Book) × (old : Seen) × IsBeginning old seen × AreShown opening cap terms before shards calls since old
AreShown opening cap terms before shards (Asked who request reply ∷ calls) book seen =
    (since : Book) × (old : Seen) × (new : Seen) × IsBeginning new seen
    × IsAnswered opening cap terms before shards who request reply since book old new
    × AreShown opening cap terms before shards calls since old
