-- Whatever a session wants is borne out by the book of its calls.
use Rattle.std.proofs.Common.{ℕ, ◌≡◌, Bool, true, false, List, [], ◌∷◌, refl, sym, subst}
use Rattle.std.proofs.lemmas.Bool.{false≢true}
use Rattle.session_client.specs.Belongs.{Belongs}
use Rattle.rows_model.specs.declared.keys.QKey.{QKey}
use Rattle.rows_model.specs.declared.keys.Sid.{Sid}
use Rattle.session_client.specs.declared.plans.Plan.{Plan}
use Rattle.session_client.specs.declared.plans.Plan.TheVariants.{Read, Write, Look, Quit, Skip, Raise, Renew}
use Rattle.session_client.specs.declared.replies.Reply.{Reply}
use Rattle.session_client.specs.Desks.{Exchange}
use Rattle.session_client.specs.Plans.{writes}
use Rattle.session_client.specs.Wants.{wants, write_wants, Writing, writing_of}
use Rattle.session_client.proofs.WantCases.{plan-once}
use Rattle.desk_book.specs.Books.{first_book}
use Rattle.desk_book.specs.Heard.{note_of, book_of}
use Rattle.desk_book.specs.Borne.{IsBorne}
use Rattle.desk_book.specs.Laws.{HasAsked, WantsAreBorne}
use Rattle.desk_book.proofs.WriterLemmas.{IsBooked, noted-now}
use Rattle.desk_book.proofs.WriterSteps.{write-step}
use Rattle.desk_book.proofs.BorneLemmas.{write-borne}
use Rattle.desk_book.proofs.ReaderLemmas.{Reads, read-step, read-borne}

-- the book of a session that has just begun
begun-stands : (who : Sid) (writing : Writing) → IsBooked who writing [] (first_book who true)
begun-stands who writing = record {
  present = refl;
  commit = refl;
  held = refl;
  own = tt;
  apart = tt;
  asked = tt;
  going = λ still on. (refl, refl);
  ended = λ ends. absurd (false≢true ends);
  back = λ came. absurd (false≢true came);
}

reads-good : (who : Sid) (key : QKey) (floor : ℕ) (short : Bool) (heard : List Reply) (calls : List Exchange)
    → HasAsked who (Read key floor) short heard calls → Reads who key heard (book_of calls)
reads-good who key floor short [] calls h =
    subst (λ l. Reads who key [] (book_of l)) (sym h.1) (record { present = refl; lease = tt })
reads-good who key floor short (reply ∷ heard) calls h =
    let before = h.0 in
    let earlier = h.1 in
    let r = reads-good who key floor before heard earlier h.2 in
    let request = wants (Read key floor) before heard in
    subst (λ l. Reads who key (reply ∷ heard) (book_of l)) (sym h.5)
    (subst (Reads who key (reply ∷ heard)) (sym (noted-now who false (note_of request reply) (book_of earlier) r.present))
    (read-step who key floor heard (book_of earlier) reply h.3 r))

-- a plan that writes wants what its writing wants
abbrev IsWriting : Plan → Type 0
IsWriting plan =
    (writes plan ≡ true) × ((short : Bool) (heard : List Reply) → wants plan short heard ≡ write_wants (writing_of plan) short heard)

writes-good : (who : Sid) (plan : Plan) (short : Bool) (heard : List Reply) (calls : List Exchange) → IsWriting plan
    → HasAsked who plan short heard calls → IsBooked who (writing_of plan) heard (book_of calls)
writes-good who plan short [] calls is h =
    subst (λ l. IsBooked who (writing_of plan) [] (book_of l)) (sym h.1)
    (subst (λ b. IsBooked who (writing_of plan) [] (first_book who b)) (sym is.0) (begun-stands who (writing_of plan)))
writes-good who plan short (reply ∷ heard) calls is h =
    let before = h.0 in
    let earlier = h.1 in
    let s = writes-good who plan before heard earlier is h.2 in
    let request = wants plan before heard in
    let same : request ≡ write_wants (writing_of plan) before heard = is.1 before heard in
    subst (λ l. IsBooked who (writing_of plan) (reply ∷ heard) (book_of l)) (sym h.5)
    (subst (IsBooked who (writing_of plan) (reply ∷ heard)) (sym (noted-now who true (note_of request reply) (book_of earlier) s.present))
    (subst (λ r. IsBooked who (writing_of plan) (reply ∷ heard) (note_of r reply (book_of earlier))) (sym same)
    (write-step who (writing_of plan) before heard (book_of earlier) reply (plan-once plan) (subst (λ r. Belongs who r reply) same h.3) s)))

writer-borne : (who : Sid) (plan : Plan) (short : Bool) (heard : List Reply) (calls : List Exchange) → IsWriting plan
    → HasAsked who plan short heard calls → IsBorne (book_of calls) who (wants plan short heard)
writer-borne who plan short heard calls is h =
    subst (IsBorne (book_of calls) who) (sym (is.1 short heard))
    (write-borne who (writing_of plan) short heard (book_of calls) (writes-good who plan short heard calls is h))

pub wants_are_borne : WantsAreBorne
wants_are_borne who (Read key floor) short heard calls h =
    read-borne who key floor heard (book_of calls) (reads-good who key floor short heard calls h)
wants_are_borne who (Write mode txn) short heard calls h = writer-borne who (Write mode txn) short heard calls (refl, λ s l. refl) h
wants_are_borne who (Look mode key txn) short heard calls h = writer-borne who (Look mode key txn) short heard calls (refl, λ s l. refl) h
wants_are_borne who (Quit mode txn) short heard calls h = writer-borne who (Quit mode txn) short heard calls (refl, λ s l. refl) h
wants_are_borne who (Skip key txn) short heard calls h = writer-borne who (Skip key txn) short heard calls (refl, λ s l. refl) h
wants_are_borne who (Raise txn) short heard calls h = writer-borne who (Raise txn) short heard calls (refl, λ s l. refl) h
wants_are_borne who (Renew mode txn) short heard calls h = writer-borne who (Renew mode txn) short heard calls (refl, λ s l. refl) h
