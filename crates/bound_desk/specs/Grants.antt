-- What the answer to a quarantine or a raise brings, and what it adds to a book.
use Rattle.std.specs.Prelude.{ℕ, ℤ, ◌≡◌, List, Option, is_some}
use Rattle.rows_model.specs.declared.keys.QKey.{QKey}
use Rattle.rows_model.specs.declared.keys.Sid.{Sid}
use Rattle.rows_model.specs.Placement.{shard_of}
use Rattle.lease_table.specs.declared.records.Mode.{Mode}
use Rattle.lease_table.specs.declared.records.Mode.TheVariants.{Refresh}
use Rattle.key_shard.specs.declared.replies.QAnswer.{QAnswer}
use Rattle.key_shard.specs.declared.replies.QAnswer.TheVariants as quarantine
use Rattle.key_shard.specs.declared.replies.Raising.{Raising}
use Rattle.key_shard.specs.declared.replies.Raising.TheVariants as raising
use Rattle.key_shard.specs.Permit.{Permit}
use Rattle.session_client.specs.Belongs.{IsRaised}
use Rattle.log_word.specs.declared.seen.Seen.{Seen}
use Rattle.bound_hub.specs.Gets.{IsLastStep}
use Rattle.bound_hub.specs.Shorts.{granted_short, raised_short}
use Rattle.bound_hub.specs.Stores.{IsGrantSeen}
use Rattle.desk_book.specs.Books.{Book, with_grant, with_raised, without_grant}

-- The step of the grant, if there is one, is seen, and this old value comes along.
abbrev pub IsGrantFor : ℕ → Seen → Option (List ℕ × ℕ) → QAnswer → Type 0
IsGrantFor shards seen old (quarantine.Granted grant its) = IsGrantSeen shards seen grant × (its ≡ old)
IsGrantFor shards seen old other = Unit {0}

-- Behind a quarantine that is granted to refresh its key, that has an entry exactly where an old value comes along: the
-- quarantine's own step, which says so, is the last that is seen of its shard.
abbrev pub IsOldTold : ℕ → QKey → Sid → ℤ → Mode → Seen → QAnswer → Type 0
IsOldTold shards key who by Refresh seen (quarantine.Granted grant old) =
    IsLastStep (shard_of key shards) (granted_short key who Refresh by grant.token (is_some old)) seen
IsOldTold shards key who by mode seen other = Unit {0}

-- So it is behind a raise.
abbrev pub IsRaiseTold : ℕ → Permit → Seen → Raising → Type 0
IsRaiseTold shards lent seen (raising.Raised grant old) =
    IsLastStep (shard_of lent.key shards) (raised_short lent.key lent.sid lent.token (is_some old)) seen
IsRaiseTold shards lent seen other = Unit {0}

-- What the answer to a quarantine that is to shift by this much adds to a book.
abbrev pub with_granted : ℤ → QAnswer → Book → Book
with_granted by (quarantine.Granted grant old) book = with_grant grant old by book
with_granted by other book = book

-- What comes along with a raise of a grant that is made: the grant in its new mode, and this old value.
abbrev pub IsRaiseFor : Permit → Option (List ℕ × ℕ) → Raising → Type 0
IsRaiseFor lent old (raising.Raised grant its) = IsRaised lent grant × (its ≡ old)
IsRaiseFor lent old other = Unit {0}

-- What the answer to a raise of a grant makes of a book: the grant is raised, or is spent.
abbrev pub with_raising : Permit → Raising → Book → Book
with_raising lent (raising.Raised grant old) book = with_raised grant old book
with_raising lent (raising.Shared grant holder) book = book
with_raising lent raising.Gone book = without_grant lent book
