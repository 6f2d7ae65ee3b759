-- Which requests a desk may make: what its book bears out, and what does no harm.
use Rattle.std.specs.Prelude.{◌≡◌, ◌⊎◌, Bool, true, false, Some, None}
use Rattle.rows_model.specs.declared.keys.Sid.{Sid}
use Rattle.key_shard.specs.declared.replies.Raising.TheVariants as raising
use Rattle.key_shard.specs.declared.replies.Rel.{Rel}
use Rattle.session_client.specs.Belongs.{Belongs}
use Rattle.session_client.specs.declared.replies.Reply.{Reply}
use Rattle.session_client.specs.declared.replies.Wanted.{Wanted}
use Rattle.session_client.specs.declared.replies.Wanted.TheVariants as wanted
use Rattle.desk_book.specs.Books.{Book}
use Rattle.desk_book.specs.Borne.{IsBorne, IsPresent, MayQuarantine}
use Rattle.desk_book.specs.declared.made.Made.{Made}
use Rattle.desk_book.specs.declared.made.Made.TheVariants as made
use Rattle.bound_desk.specs.Bound.{HasCommitted}

-- The request may be made: a set of what was asked for under its lease, or a void one; a release of a grant of the present
-- session, which has committed, with a value or a shift that the book bears out; and so on. Of a commit it is said only that
-- the session is the present one.
abbrev pub IsSafe : Book → Sid → Wanted → Type 0
IsSafe book who (wanted.Set key token value stamp) = (token ≡ 0) ⊎ IsBorne book who (wanted.Set key token value stamp)
IsSafe book who (wanted.Sar grant (Some value) stamp) = IsBorne book who (wanted.Sar grant (Some value) stamp)
IsSafe book who (wanted.Sar grant None stamp) = HasCommitted book grant.sid
IsSafe book who (wanted.Apply grant stamp) = IsBorne book who (wanted.Apply grant stamp)
IsSafe book who (wanted.Dar grant) = HasCommitted book grant.sid
IsSafe book who (wanted.Raise grant) = IsBorne book who (wanted.Raise grant)
IsSafe book who (wanted.QaReg key) = MayQuarantine book who
IsSafe book who (wanted.QaRead key) = MayQuarantine book who
IsSafe book who (wanted.Delta key by) = MayQuarantine book who
IsSafe book who (wanted.Commit txn grants) = IsPresent book who
IsSafe book who (wanted.Abort grant) = IsBorne book who (wanted.Abort grant)
IsSafe book who other = Unit {0}

-- What is made in place of a request is safe.
abbrev pub IsSafelyMade : Book → Sid → Made → Type 0
IsSafelyMade book who (made.One request) = IsSafe book who request
IsSafelyMade book who (made.EndDrop session grant) = session ≡ grant.sid
IsSafelyMade book who (made.Answered reply) = Unit {0}

-- Whether the request is to raise a quarantine.
abbrev pub is_raise : Wanted → Bool
is_raise (wanted.Raise grant) = true
is_raise other = false

-- The reply to a request in whose place a grant was dropped.
abbrev pub drop_reply : Bool → Rel → Reply
drop_reply true answer = Reply.Raise raising.Gone
drop_reply false answer = Reply.Rel answer

-- A reply to what is made in place of a request belongs to that request.
abbrev pub MadeBelongs : Sid → Wanted → Made → Type 0
MadeBelongs who request (made.One one) = (reply : Reply) → Belongs who one reply → Belongs who request reply
MadeBelongs who request (made.EndDrop session grant) = (answer : Rel) → Belongs who request (drop_reply (is_raise request) answer)
MadeBelongs who request (made.Answered reply) = Belongs who request reply
