-- What a reply adds to the book, and the book of a session's calls.
use Rattle.std.specs.Prelude.{ℤ, pos, ◌≡◌, List, [], ◌∷◌}
use Rattle.key_shard.specs.declared.replies.Got.TheVariants as got
use Rattle.key_shard.specs.declared.replies.QAnswer.TheVariants as quarantine
use Rattle.key_shard.specs.declared.replies.Raising.TheVariants as raising
use Rattle.session_client.specs.Desks.{Exchange, Began, Asked}
use Rattle.session_client.specs.declared.replies.Reply.{Reply}
use Rattle.session_client.specs.declared.replies.Reply.TheVariants as Reply
use Rattle.session_client.specs.declared.replies.Wanted.{Wanted}
use Rattle.session_client.specs.declared.replies.Wanted.TheVariants as wanted
use Rattle.desk_book.specs.Books.{Book, empty_book, first_book, noted_for, with_lease, with_answer, with_grant, with_raised, without_grant, with_commit, with_end}

-- By how much a quarantine is to shift the value that was asked for so.
abbrev pub shift_of : Wanted → ℤ
shift_of (wanted.Delta key by) = by
shift_of other = pos 0

-- What a reply to a request adds to the book of the request's session.
abbrev pub note_of : Wanted → Reply → Book → Book
note_of (wanted.Get key floor) (Reply.Got (got.Lease token)) book = with_lease key token book
note_of request (Reply.Answer answer) book = with_answer answer book
note_of request (Reply.Quar (quarantine.Granted grant old)) book = with_grant grant old (shift_of request) book
note_of request (Reply.Raise (raising.Raised grant old)) book = with_raised grant old book
note_of (wanted.Raise grant) (Reply.Raise raising.Gone) book = without_grant grant book
note_of request (Reply.Committed number txn grants) book = with_commit number txn book
note_of request (Reply.End was) book = with_end book
note_of (wanted.Dar grant) (Reply.Rel rel) book = without_grant grant book
note_of (wanted.Sar grant value stamp) (Reply.Rel rel) book = without_grant grant book
note_of (wanted.Apply grant stamp) (Reply.Rel rel) book = without_grant grant book
note_of (wanted.Abort grant) (Reply.Rel rel) book = without_grant grant book
note_of request other book = book

-- The book after a call that a desk answered.
abbrev pub after_call : Exchange → Book → Book
after_call (Began writes who) book = first_book who writes
after_call (Asked who request reply) book = noted_for who (note_of request reply) book

-- The book of a desk that answered these calls, the latest first.
abbrev pub book_of : List Exchange → Book
book_of [] = empty_book
book_of (call ∷ calls) = after_call call (book_of calls)
