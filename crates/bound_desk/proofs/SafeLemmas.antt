-- What is made in place of a request, by its form, is safe.
use Rattle.std.proofs.Common.{ℕ, ◌≡◌, ◌⊎◌, ◌&&◌, true, cond, List, Option, Some, None, is_some, refl, sym, subst, inl, inr, ⊎_elim, arith}
use Rattle.std.specs.Prelude.{IsSomeAnd}
use Rattle.std.proofs.lemmas.Bool.{and_parts}
use Rattle.rows_model.specs.declared.keys.Sid.{Sid}
use Rattle.key_shard.specs.Permit.{Permit}
use Rattle.session_client.specs.Belongs.{Belongs}
use Rattle.session_client.specs.declared.replies.Reply.{Reply}
use Rattle.session_client.specs.declared.replies.Wanted.{Wanted}
use Rattle.session_client.specs.declared.replies.Wanted.TheVariants as wanted
use Rattle.key_freshness.proofs.MarkLemmas.{by_test}
use Rattle.desk_book.specs.Books.{Book, is_present}
use Rattle.desk_book.specs.Borne.{IsBorne, IsForm, IsPresent, safe_form}
use Rattle.desk_book.specs.Made.{made_in}
use Rattle.desk_book.specs.declared.facts.Committed.{Committed}
use Rattle.desk_book.specs.declared.forms.Form.{Form}
use Rattle.desk_book.specs.declared.forms.Form.TheVariants as form
use Rattle.bound_desk.specs.Bound.{HasCommitted}
use Rattle.bound_desk.specs.Safe.{IsSafe, IsSafelyMade, MadeBelongs}

-- a request is made as it is asked for, since the book bears it out, or in its safe form
which : (book : Book) (who : Sid) (request : Wanted) (found : Form) → IsForm book who request found
    → ((found ≡ form.AsAsked) × IsBorne book who request) ⊎ (found ≡ safe_form book who request)
which book who request form.AsAsked h = inl (refl, h.borne.0 refl)
which book who request form.VoidSet h = inr (h.odd (λ b. let e = h.borne.1 b in absurd cc))
which book who request form.NoValue h = inr (h.odd (λ b. let e = h.borne.1 b in absurd cc))
which book who request form.DropOnly h = inr (h.odd (λ b. let e = h.borne.1 b in absurd cc))
which book who request (form.EndDrop session) h = inr (h.odd (λ b. let e = h.borne.1 b in absurd cc))
which book who request form.Shared h = inr (h.odd (λ b. let e = h.borne.1 b in absurd cc))
which book who request (form.Refused mode) h = inr (h.odd (λ b. let e = h.borne.1 b in absurd cc))
which book who request form.NotCommitted h = inr (h.odd (λ b. let e = h.borne.1 b in absurd cc))
which book who request form.HeldAlone h = inr (h.odd (λ b. let e = h.borne.1 b in absurd cc))

own_done : (book : Book) (who : Sid) (grant : Permit) → IsPresent book who → grant.sid ≡ who → is_some book.commit ≡ true → HasCommitted book grant.sid
own_done book who grant now own did = (subst (λ (s : Sid). IsPresent book s) (sym own) now, did)

-- what the book bears out is safe
borne_is_safe : (book : Book) (who : Sid) (request : Wanted) → IsBorne book who request → IsSafe book who request
borne_is_safe book who (wanted.Set key token value stamp) h = inr h
borne_is_safe book who (wanted.Sar grant (Some value) stamp) h = h
borne_is_safe book who (wanted.Sar grant None stamp) h = own_done book who grant h.0.0 h.0.1 h.1
borne_is_safe book who (wanted.Apply grant stamp) h = h
borne_is_safe book who (wanted.Dar grant) h = own_done book who grant h.0.0 h.0.1 h.1
borne_is_safe book who (wanted.Raise grant) h = h
borne_is_safe book who (wanted.QaReg key) h = h
borne_is_safe book who (wanted.QaRead key) h = h
borne_is_safe book who (wanted.Delta key by) h = h
borne_is_safe book who (wanted.Commit txn grants) h = h.0
borne_is_safe book who (wanted.Abort grant) h = h
borne_is_safe book who (wanted.Get key floor) h = tt
borne_is_safe book who (wanted.Ask key) h = tt
borne_is_safe book who (wanted.Staged key txn) h = tt
borne_is_safe book who (wanted.Renew grant) h = tt
borne_is_safe book who wanted.End h = tt
borne_is_safe book who wanted.Nothing h = tt

as_asked : (book : Book) (who : Sid) (request : Wanted) → IsBorne book who request → IsSafelyMade book who (made_in form.AsAsked who request)
as_asked book who request h = borne_is_safe book who request h

-- and so is the safe form
safe_is_safe : (book : Book) (who : Sid) (request : Wanted) → IsSafelyMade book who (made_in (safe_form book who request) who request)
safe_is_safe book who (wanted.Set key token value stamp) = inl refl
safe_is_safe book who (wanted.Sar grant (Some value) stamp) =
    by_test (λ b. IsSafelyMade book who (made_in (cond b form.NoValue (form.EndDrop grant.sid)) who (wanted.Sar grant (Some value) stamp)))
    (is_present book grant.sid && is_some book.commit)
    (λ is. and_parts (is_present book grant.sid) (is_some book.commit) is)
    (λ _. refl)
safe_is_safe book who (wanted.Sar grant None stamp) = refl
safe_is_safe book who (wanted.Apply grant stamp) =
    by_test (λ b. IsSafelyMade book who (made_in (cond b form.DropOnly (form.EndDrop grant.sid)) who (wanted.Apply grant stamp)))
    (is_present book grant.sid && is_some book.commit)
    (λ is. and_parts (is_present book grant.sid) (is_some book.commit) is)
    (λ _. refl)
safe_is_safe book who (wanted.Dar grant) = refl
safe_is_safe book who (wanted.Raise grant) =
    by_test (λ b. IsSafelyMade book who (made_in (cond b form.Shared (form.EndDrop grant.sid)) who (wanted.Raise grant)))
    (is_present book grant.sid) (λ _. tt) (λ _. refl)
safe_is_safe book who (wanted.QaReg key) = tt
safe_is_safe book who (wanted.QaRead key) = tt
safe_is_safe book who (wanted.Delta key by) = tt
safe_is_safe book who (wanted.Commit txn grants) =
    by_test (λ b. (is_present book who ≡ b) → IsSafelyMade book who (made_in (cond b form.HeldAlone form.NotCommitted) who (wanted.Commit txn grants)))
    (is_present book who) (λ is e. e) (λ _ _. tt) refl
safe_is_safe book who (wanted.Abort grant) = refl
safe_is_safe book who (wanted.Get key floor) = tt
safe_is_safe book who (wanted.Ask key) = tt
safe_is_safe book who (wanted.Staged key txn) = tt
safe_is_safe book who (wanted.Renew grant) = tt
safe_is_safe book who wanted.End = tt
safe_is_safe book who wanted.Nothing = tt

pub made_is_safe : (book : Book) (who : Sid) (request : Wanted) (found : Form) → IsForm book who request found → IsSafelyMade book who (made_in found who request)
made_is_safe book who request found h =
    ⊎_elim
    (λ asked. subst (λ f. IsSafelyMade book who (made_in f who request)) (sym asked.0) (as_asked book who request asked.1))
    (λ safe. subst (λ f. IsSafelyMade book who (made_in f who request)) (sym safe) (safe_is_safe book who request))
    (which book who request found h)

set_belongs : (who : Sid) (key : _) (token other : ℕ) (value : _) (stamp : ℕ) (reply : Reply) → Belongs who (wanted.Set key token value stamp) reply → Belongs who (wanted.Set key other value stamp) reply
set_belongs who key token other value stamp (Reply.Set answer) h = tt
set_belongs who key token other value stamp (Reply.Fault fault) h = h
set_belongs who key token other value stamp rest h = absurd h

put_belongs : (who : Sid) (grant : Permit) (value : _) (stamp : ℕ) (reply : Reply) → Belongs who (wanted.Sar grant None stamp) reply → Belongs who (wanted.Sar grant (Some value) stamp) reply
put_belongs who grant value stamp (Reply.Rel answer) h = tt
put_belongs who grant value stamp rest h = absurd h

shift_belongs : (who : Sid) (grant : Permit) (stamp : ℕ) (reply : Reply) → Belongs who (wanted.Dar grant) reply → Belongs who (wanted.Apply grant stamp) reply
shift_belongs who grant stamp (Reply.Rel answer) h = tt
shift_belongs who grant stamp rest h = absurd h

-- a reply to the safe form of a request belongs to the request
safe_belongs : (book : Book) (who : Sid) (request : Wanted) → MadeBelongs who request (made_in (safe_form book who request) who request)
safe_belongs book who (wanted.Set key token value stamp) = set_belongs who key 0 token value stamp
safe_belongs book who (wanted.Sar grant (Some value) stamp) =
    by_test (λ b. MadeBelongs who (wanted.Sar grant (Some value) stamp) (made_in (cond b form.NoValue (form.EndDrop grant.sid)) who (wanted.Sar grant (Some value) stamp)))
    (is_present book grant.sid && is_some book.commit) (λ _. put_belongs who grant value stamp) (λ _ reply. tt)
safe_belongs book who (wanted.Sar grant None stamp) = λ reply. tt
safe_belongs book who (wanted.Apply grant stamp) =
    by_test (λ b. MadeBelongs who (wanted.Apply grant stamp) (made_in (cond b form.DropOnly (form.EndDrop grant.sid)) who (wanted.Apply grant stamp)))
    (is_present book grant.sid && is_some book.commit) (λ _. shift_belongs who grant stamp) (λ _ reply. tt)
safe_belongs book who (wanted.Dar grant) = λ reply. tt
safe_belongs book who (wanted.Raise grant) =
    by_test (λ b. MadeBelongs who (wanted.Raise grant) (made_in (cond b form.Shared (form.EndDrop grant.sid)) who (wanted.Raise grant)))
    (is_present book grant.sid) (λ _. refl) (λ _ reply. tt)
safe_belongs book who (wanted.QaReg key) = tt
safe_belongs book who (wanted.QaRead key) = tt
safe_belongs book who (wanted.Delta key by) = tt
safe_belongs book who (wanted.Commit txn grants) =
    by_test (λ b. MadeBelongs who (wanted.Commit txn grants) (made_in (cond b form.HeldAlone form.NotCommitted) who (wanted.Commit txn grants)))
    (is_present book who) (λ _ reply h. h) (λ _. (refl, record { same = refl; roomy = omega arith }))
safe_belongs book who (wanted.Abort grant) = λ reply. tt
safe_belongs book who (wanted.Get key floor) = λ reply h. h
safe_belongs book who (wanted.Ask key) = λ reply h. h
safe_belongs book who (wanted.Staged key txn) = λ reply h. h
safe_belongs book who (wanted.Renew grant) = λ reply h. h
safe_belongs book who wanted.End = λ reply h. h
safe_belongs book who wanted.Nothing = λ reply h. h

pub made_belongs : (book : Book) (who : Sid) (request : Wanted) (found : Form) → IsForm book who request found → MadeBelongs who request (made_in found who request)
made_belongs book who request found h =
    ⊎_elim
    (λ asked. subst (λ f. MadeBelongs who request (made_in f who request)) (sym asked.0) (λ reply b. b))
    (λ safe. subst (λ f. MadeBelongs who request (made_in f who request)) (sym safe) (safe_belongs book who request))
    (which book who request found h)

some_done : (o : Option Committed) (P : Committed → Type 0) → IsSomeAnd o P → is_some o ≡ true
some_done (Some done) P h = refl
some_done None P h = absurd h

-- a release with a new value, or one that shifts, that is safe is of a session that has committed
pub put_is_done : (book : Book) (who : Sid) (grant : Permit) (value : Option (List ℕ)) (stamp : ℕ) → IsSafe book who (wanted.Sar grant value stamp) → HasCommitted book grant.sid
put_is_done book who grant None stamp h = h
put_is_done book who grant (Some value) stamp h = own_done book who grant h.0.0 h.0.1 (some_done book.commit _ h.1)

pub shift_is_done : (book : Book) (who : Sid) (grant : Permit) (stamp : ℕ) → IsSafe book who (wanted.Apply grant stamp) → HasCommitted book grant.sid
shift_is_done book who grant stamp h = own_done book who grant h.0.0 h.0.1 (some_done book.commit _ h.1)
