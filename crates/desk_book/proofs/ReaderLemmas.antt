-- What the book of a session that reads holds, by what it was told, and that it bears out what the session wants.
use Rattle.std.proofs.Common.{ℕ, ◌≡◌, Bool, true, false, cond, List, [], ◌∷◌, ◌++◌, Some, refl, sym, ap, subst, ◌∙◌}
use Rattle.std.specs.List.{Any}
use Rattle.rows_model.proofs.SameKey.{same_key-refl}
use Rattle.rows_model.specs.declared.keys.QKey.{QKey}
use Rattle.rows_model.specs.declared.keys.Sid.{Sid}
use Rattle.rows_model.specs.Key.{same_key}
use Rattle.key_shard.specs.declared.replies.Got.{Got}
use Rattle.key_shard.specs.declared.replies.Got.TheVariants as got
use Rattle.sql_keeper.specs.declared.stores.Answer.{Answer}
use Rattle.session_client.specs.declared.replies.Reply.{Reply}
use Rattle.session_client.specs.declared.replies.Reply.TheVariants as Reply
use Rattle.session_client.specs.declared.replies.Wanted.TheVariants as wanted
use Rattle.session_client.specs.Belongs.{Belongs}
use Rattle.session_client.specs.Wants.{read_wants}
use Rattle.session_client.proofs.WantCases.{read_cases}
use Rattle.desk_book.specs.declared.facts.Leased.{Leased}
use Rattle.desk_book.specs.Books.{Book, is_on, with_answer, with_place}
use Rattle.desk_book.specs.Heard.{note_of}
use Rattle.desk_book.specs.Borne.{IsBorne}
use Rattle.desk_book.proofs.ListLemmas.{any-here}
use Rattle.desk_book.proofs.WriterLemmas.{is-now}

-- the lease on a key, by its token
abbrev pub lease_on : QKey → ℕ → Leased
lease_on key token = record { key = key; token = token }

-- the book holds the lease that the session was told of last, and the answer that it was told of behind one
abbrev pub HoldsLease : QKey → List Reply → Book → Type 0
HoldsLease key (Reply.Got (got.Lease token) ∷ heard) book = (book.lease ≡ Some (lease_on key token)) × (book.answers ≡ [])
HoldsLease key (Reply.Answer answer ∷ Reply.Got (got.Lease token) ∷ heard) book =
    (book.lease ≡ Some (lease_on key token)) × (book.answers ≡ answer ∷ []) × (answer.key ≡ key)
HoldsLease key other book = Unit {0}

-- the book of a session that reads and has heard this
pub record Reads (who : Sid) (key : QKey) (heard : List Reply) (book : Book) : Type 0 where
  pub present : book.present ≡ Some (record { sid = who; writes = false })
  pub lease : HoldsLease key heard book

-- what it is told of its key
get-step : (who : Sid) (key : QKey) (floor : ℕ) (heard : List Reply) (book : Book) (reply : Reply) → Belongs who (wanted.Get key floor) reply
    → Reads who key heard book → Reads who key (reply ∷ heard) (note_of (wanted.Get key floor) reply book)
get-step who key floor heard book (Reply.Got (got.Lease token)) belongs r = record { present = r.present; lease = (refl, refl) }
get-step who key floor heard book (Reply.Got (got.Hit value stamp)) belongs r = record { present = r.present; lease = tt }
get-step who key floor heard book (Reply.Got (got.Again standing)) belongs r = record { present = r.present; lease = tt }
get-step who key floor heard book (Reply.Got got.Own) belongs r = record { present = r.present; lease = tt }
get-step who key floor heard book (Reply.Fault fault) belongs r = record { present = r.present; lease = tt }
get-step who key floor heard book other belongs r = elim belongs [ ]

-- the answer is kept behind a lease on its key
answered : (key : QKey) (answer : Answer) (book : Book) → answer.key ≡ key → (heard : List Reply) → HoldsLease key heard book
    → HoldsLease key (Reply.Answer answer ∷ heard) (with_answer answer book)
answered key answer book same (Reply.Got (got.Lease token) ∷ heard) h =
    let on : is_on book.lease answer.key ≡ true =
    ap (λ l. is_on l answer.key) h.0 ∙ ap (λ k. same_key key k) same ∙ same_key-refl key in
    let new : Book = record book { answers = with_place book.answers ++ answer ∷ [] } in
    let kept : with_answer answer book ≡ new = ap (λ b. cond b new book) on in
    subst (λ b. HoldsLease key (Reply.Answer answer ∷ Reply.Got (got.Lease token) ∷ heard) b) (sym kept)
    (h.0, ap (λ l. with_place l ++ answer ∷ []) h.1, same)
answered key answer book same other h = tt

present-kept : (answer : Answer) (book : Book) → (with_answer answer book).present ≡ book.present
present-kept answer book = by (is_on book.lease answer.key)
  where
    by : (b : Bool) → (cond b (record book { answers = with_place book.answers ++ answer ∷ [] }) book).present ≡ book.present
    by true = refl
    by false = refl

ask-step : (who : Sid) (key : QKey) (heard : List Reply) (book : Book) (reply : Reply) → Belongs who (wanted.Ask key) reply
    → Reads who key heard book → Reads who key (reply ∷ heard) (note_of (wanted.Ask key) reply book)
ask-step who key heard book (Reply.Answer answer) belongs r =
    record { present = present-kept answer book ∙ r.present; lease = answered key answer book belongs heard r.lease }
ask-step who key heard book (Reply.Fault fault) belongs r = record { present = r.present; lease = tt }
ask-step who key heard book other belongs r = elim belongs [ ]

set-step : (who : Sid) (key : QKey) (token : ℕ) (value : List ℕ) (stamp : ℕ) (heard : List Reply) (book : Book) (reply : Reply)
    → Belongs who (wanted.Set key token value stamp) reply
    → Reads who key heard book → Reads who key (reply ∷ heard) (note_of (wanted.Set key token value stamp) reply book)
set-step who key token value stamp heard book (Reply.Set answer) belongs r = record { present = r.present; lease = tt }
set-step who key token value stamp heard book (Reply.Fault fault) belongs r = record { present = r.present; lease = tt }
set-step who key token value stamp heard book other belongs r = elim belongs [ ]

nothing-step : (who : Sid) (key : QKey) (heard : List Reply) (book : Book) (reply : Reply) → Belongs who wanted.Nothing reply
    → Reads who key heard book → Reads who key (reply ∷ heard) (note_of wanted.Nothing reply book)
nothing-step who key heard book Reply.Nothing belongs r = record { present = r.present; lease = tt }
nothing-step who key heard book other belongs r = elim belongs [ ]

-- whatever a session that reads is told, its book holds what it has to
pub read-step : (who : Sid) (key : QKey) (floor : ℕ) (heard : List Reply) (book : Book) (reply : Reply) → Belongs who (read_wants key floor heard) reply
    → Reads who key heard book → Reads who key (reply ∷ heard) (note_of (read_wants key floor heard) reply book)
read-step who key floor heard book reply belongs r =
    read_cases (λ request. Belongs who request reply → Reads who key (reply ∷ heard) (note_of request reply book)) key floor heard
    (λ b. get-step who key floor heard book reply b r) (λ b. ask-step who key heard book reply b r)
    (λ token answer rest e b. set-step who key token answer.value answer.stamp heard book reply b r)
    (λ b. nothing-step who key heard book reply b r) belongs

-- what a session that reads wants is borne out by its book
pub read-borne : (who : Sid) (key : QKey) (floor : ℕ) (heard : List Reply) (book : Book) → Reads who key heard book
    → IsBorne book who (read_wants key floor heard)
read-borne who key floor heard book r =
    read_cases (λ request. IsBorne book who request) key floor heard tt tt
    (λ token answer rest e.
    let h = subst (λ l. HoldsLease key l book) e r.lease in
    let Is : Answer → Type 0 = λ other. other ≡ record { key = key; value = answer.value; stamp = answer.stamp } in (
      is-now who false book r.present,
      h.0,
      subst (Any Is) (sym h.1) (any-here Is answer [] (λ i. record { key = h.2 i; value = answer.value; stamp = answer.stamp })),
    ))
    tt
