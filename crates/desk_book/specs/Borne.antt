-- Which requests a book bears out, and in which form a request is made that it doesn't.
use Rattle.std.specs.Prelude.{ℕ, ◌≡◌, ◌↔◌, true, ◌&&◌, if◌then◌else◌, List, Some, None, is_some, IsSomeAnd, All, IsTrue}
use Rattle.std.specs.List.{Any}
use Rattle.rows_model.specs.declared.keys.Sid.{Sid}
use Rattle.rows_model.specs.declared.changes.Change.{Change}
use Rattle.rows_model.specs.Delta.{delta_of}
use Rattle.lease_table.specs.declared.records.Mode.TheVariants as mode
use Rattle.key_shard.specs.Permit.{Permit}
use Rattle.sql_keeper.specs.declared.stores.Answer.{Answer}
use Rattle.session_client.specs.Wants.{new_value}
use Rattle.session_client.specs.declared.replies.Wanted.{Wanted}
use Rattle.session_client.specs.declared.replies.Wanted.TheVariants as wanted
use Rattle.desk_book.specs.Books.{Book, Held, is_present, may_write}
use Rattle.desk_book.specs.declared.forms.Form.{Form}
use Rattle.desk_book.specs.declared.forms.Form.TheVariants as form

-- The session is the present one.
abbrev pub IsPresent : Book → Sid → Type 0
IsPresent book who = IsTrue (is_present book who)

-- The session is the present one, and the grant is its own.
abbrev pub IsOwn : Book → Sid → Permit → Type 0
IsOwn book who grant = IsPresent book who × (grant.sid ≡ who)

-- The session committed with this number, and this holds of the transaction.
abbrev pub IsDone : Book → ℕ → (List Change → Type 0) → Type 0
IsDone book number P = IsSomeAnd book.commit (λ done. (done.number ≡ number) × P done.txn)

-- It holds this grant, with an old value that the transaction refreshes to this one.
abbrev pub Refreshes : Book → Permit → List ℕ → List Change → Type 0
Refreshes book grant value txn =
    Any (λ (one : Held). (one.permit ≡ grant) × (new_value grant.key txn one.old ≡ Some value)) book.held

-- It holds this grant, which is to shift the value by what the transaction adds to it.
abbrev pub Shifts : Book → Permit → List Change → Type 0
Shifts book grant txn = Any (λ (one : Held). (one.permit ≡ grant) × (one.by ≡ delta_of grant.key txn)) book.held

-- It holds this grant.
abbrev pub Holds : Book → Permit → Type 0
Holds book grant = Any (λ (one : Held). one.permit ≡ grant) book.held

-- The session is the present one, was begun for writing, and hasn't committed.
abbrev pub MayQuarantine : Book → Sid → Type 0
MayQuarantine book who = IsPresent book who × IsTrue (may_write book.present) × (book.commit ≡ None)

-- The book bears out a session's request. A get, a question, an end and a renewal it always does: they change no value
-- and release nothing.
abbrev pub IsBorne : Book → Sid → Wanted → Type 0
IsBorne book who (wanted.Set key token value stamp) =
    IsPresent book who × (book.lease ≡ Some (record { key = key; token = token }))
    × Any (λ (answer : Answer). answer ≡ record { key = key; value = value; stamp = stamp }) book.answers
IsBorne book who (wanted.Sar grant (Some value) stamp) =
    IsOwn book who grant × IsDone book stamp (Refreshes book grant value)
IsBorne book who (wanted.Apply grant stamp) = IsOwn book who grant × IsDone book stamp (Shifts book grant)
IsBorne book who (wanted.Dar grant) = IsOwn book who grant × IsTrue (is_some book.commit)
IsBorne book who (wanted.Sar grant None stamp) = IsOwn book who grant × IsTrue (is_some book.commit)
IsBorne book who (wanted.Raise grant) = IsOwn book who grant × (book.commit ≡ None)
IsBorne book who (wanted.QaReg key) = MayQuarantine book who
IsBorne book who (wanted.QaRead key) = MayQuarantine book who
IsBorne book who (wanted.Delta key by) = MayQuarantine book who
IsBorne book who (wanted.Commit txn grants) = IsPresent book who × All (Holds book) grants.items
IsBorne book who (wanted.Abort grant) = IsOwn book who grant × (book.commit ≡ None) × (book.ended ≡ true)
IsBorne book who other = Unit {0}

-- A grant of the present session, which has committed, is released in this form. Before its commit, and a grant of another
-- session, it is released by the end of its session and a drop.
abbrev pub release_form : Book → Permit → Form → Form
release_form book grant after =
    if is_present book grant.sid && is_some book.commit then after else form.EndDrop grant.sid

-- The form in which a request is made that the book doesn't bear out.
abbrev pub safe_form : Book → Sid → Wanted → Form
safe_form book who (wanted.Set key token value stamp) = form.VoidSet
safe_form book who (wanted.Sar grant (Some value) stamp) = release_form book grant form.NoValue
safe_form book who (wanted.Apply grant stamp) = release_form book grant form.DropOnly
safe_form book who (wanted.Dar grant) = form.EndDrop grant.sid
safe_form book who (wanted.Sar grant None stamp) = form.EndDrop grant.sid
safe_form book who (wanted.Raise grant) = if is_present book grant.sid then form.Shared else form.EndDrop grant.sid
safe_form book who (wanted.QaReg key) = form.Refused mode.Invalidate
safe_form book who (wanted.QaRead key) = form.Refused mode.Refresh
safe_form book who (wanted.Delta key by) = form.Refused mode.Delta
safe_form book who (wanted.Commit txn grants) = if is_present book who then form.HeldAlone else form.NotCommitted
safe_form book who (wanted.Abort grant) = form.EndDrop grant.sid
safe_form book who other = form.AsAsked

-- The form of a session's request: as it is asked for exactly where the book bears it out, and else its safe form.
pub record IsForm (book : Book) (who : Sid) (request : Wanted) (found : Form) : Type 0 where
  pub borne : (found ≡ form.AsAsked) ↔ IsBorne book who request
  pub odd : (IsBorne book who request → ⊥) → found ≡ safe_form book who request

-- A release with a new value. The look at one makes that value again.
abbrev pub IsPut : Wanted → Type 0
IsPut (wanted.Sar grant (Some value) stamp) = Unit {0}
IsPut other = ⊥
