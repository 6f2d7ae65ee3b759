-- What the book of a session that writes holds, by what it was told.
use Rattle.std.proofs.Common.{ℕ, ◌≡◌, ◌+◌, ◌<◌, Bool, true, false, cond, List, [], ◌∷◌, ◌++◌, map, drop, count_by, Option, Some, None, slice_get}
use Rattle.std.proofs.Common.{append-nil, refl, sym, ap, subst, ◌∙◌, arith}
use Rattle.std.specs.List.{AllByRecursion}
use Rattle.std.proofs.lemmas.Bool.{false≢true, eq-eqb}
use Rattle.std.proofs.lemmas.List.Sums.{sum_by-cons}
use Rattle.rows_model.specs.declared.keys.QKey.{QKey}
use Rattle.rows_model.specs.declared.keys.Sid.{Sid}
use Rattle.rows_model.specs.declared.changes.Change.{Change}
use Rattle.session_client.specs.declared.replies.Reply.{Reply}
use Rattle.session_client.specs.declared.replies.Reply.TheVariants as Reply
use Rattle.session_client.specs.declared.replies.Wanted.{Wanted}
use Rattle.session_client.specs.declared.replies.Wanted.TheVariants as wanted
use Rattle.session_client.specs.Wants.{Given, given, given_by, given_in, is_had, is_release, number_of, released, turned, write_wants, Writing}
use Rattle.session_client.proofs.WantCases.{is_ending}
use Rattle.desk_book.specs.declared.facts.Committed.{Committed}
use Rattle.desk_book.specs.Books.{Book, is_of, is_present, noted_for}
use Rattle.desk_book.proofs.GivenLemmas.{held_of, Apart}
use Rattle.desk_book.proofs.ListLemmas.{each-weaker}

-- the commit of this number, if there is one
abbrev pub commit_in : List Change → Option ℕ → Option Committed
commit_in txn (Some number) = Some (record { number = number; txn = txn })
commit_in txn None = None

-- the session was told nothing last: it is done
abbrev pub is_over : List Reply → Bool
is_over [] = false
is_over (Reply.Nothing ∷ heard) = true
is_over (other ∷ heard) = false

-- a grant came back last
abbrev pub came_back : List Reply → Bool
came_back [] = false
came_back (Reply.SarBack grant ∷ heard) = true
came_back (other ∷ heard) = false

-- the key is one of the first so many
pub record WasAsked (keys : List QKey) (count : ℕ) (key : QKey) : Type 0 where
  pub place : ℕ
  pub before : place < count
  pub at : slice_get keys place ≡ Some key

-- the session has a number
pub record IsNumbered (heard : List Reply) : Type 0 where
  pub number : ℕ
  pub is : number_of heard ≡ Some number

-- the book of a session that writes and has heard this: it holds each grant that the session was given and hasn't released, knows of its
-- commit exactly where the session was told of one, and of its end where it was told of that and of no commit
pub record IsBooked (who : Sid) (writing : Writing) (heard : List Reply) (book : Book) : Type 0 where
  pub present : book.present ≡ Some (record { sid = who; writes = true })
  pub commit : book.commit ≡ commit_in writing.txn (number_of heard)
  pub held : book.held ≡ map (held_of writing.txn) (drop (released heard) (given heard))
  pub own : AllByRecursion (λ (one : Given). one.permit.sid ≡ who) (given heard)
  pub apart : Apart (given heard)
  pub asked : AllByRecursion (λ (one : Given). WasAsked writing.keys (count_by is_had heard) one.permit.key) (given heard)
  pub going : is_ending heard ≡ false → is_over heard ≡ false → (number_of heard ≡ None) × (released heard ≡ 0)
  pub ended : is_ending heard ≡ true → number_of heard ≡ None → book.ended ≡ true
  pub back : came_back heard ≡ true → IsNumbered heard

pub is-now : (who : Sid) (writes : Bool) (book : Book) → book.present ≡ Some (record { sid = who; writes = writes }) → is_present book who ≡ true
is-now who writes book e = ap (λ p. is_of p who) e ∙ eq-eqb who.number who.number refl

-- what is told to the present session is noted
pub noted-now : (who : Sid) (writes : Bool) (note : Book → Book) (book : Book) → book.present ≡ Some (record { sid = who; writes = writes })
    → noted_for who note book ≡ note book
noted-now who writes note book e = ap (λ b. cond b (note book) book) (is-now who writes book e)

-- a session that wants something isn't done
pub goes-on : (writing : Writing) (short : Bool) (heard : List Reply) (request : Wanted) → write_wants writing short heard ≡ request
    → (request ≡ wanted.Nothing → ⊥) → is_over heard ≡ false
goes-on writing short [] request e some = refl
goes-on writing short (Reply.Nothing ∷ heard) request e some = absurd (some (sym e))
goes-on writing short (other ∷ heard) request e some = refl

-- a reply that brings no grant and changes none, and is none of a release, a commit or an end
pub record IsMild (reply : Reply) : Type 0 where
  pub left : (place : ℕ) (ones : List Given) → given_by reply place ones ≡ ones
  pub none : given_in reply ≡ []
  pub release : is_release reply ≡ false
  pub number : (heard : List Reply) → number_of (reply ∷ heard) ≡ number_of heard
  pub ending : (heard : List Reply) → is_ending (reply ∷ heard) ≡ false
  pub back : (heard : List Reply) → came_back (reply ∷ heard) ≡ false

-- what a book knows of grants, commit and end is the same
pub record IsAlike (old new : Book) : Type 0 where
  pub present : new.present ≡ old.present
  pub commit : new.commit ≡ old.commit
  pub held : new.held ≡ old.held

pub alike : (book : Book) → IsAlike book book
alike book = record { present = refl; commit = refl; held = refl }

-- one more reply counts as one more, or as none
pub count-more : (p : Reply → Bool) (reply : Reply) (heard : List Reply) (b : Bool) → p reply ≡ b → count_by p (reply ∷ heard) ≡ cond b 1 0 + count_by p heard
count-more p reply heard b e = sum_by-cons (λ t. cond (p t) 1 0) reply heard ∙ ap (λ b. cond b 1 0 + count_by p heard) e

pub same-count : (p : Reply → Bool) (reply : Reply) (heard : List Reply) → p reply ≡ false → count_by p (reply ∷ heard) ≡ count_by p heard
same-count p reply heard e = let more = count-more p reply heard false e in omega (arith, more)

-- what was asked for before still was
pub asked-more : (keys : List QKey) (reply : Reply) (heard : List Reply) (ones : List Given)
    → AllByRecursion (λ (one : Given). WasAsked keys (count_by is_had heard) one.permit.key) ones
    → AllByRecursion (λ (one : Given). WasAsked keys (count_by is_had (reply ∷ heard)) one.permit.key) ones
asked-more keys reply heard ones h =
    each-weaker (λ (one : Given). WasAsked keys (count_by is_had heard) one.permit.key)
    (λ (one : Given). WasAsked keys (count_by is_had (reply ∷ heard)) one.permit.key) ones
    (λ one asked. let more = count-more is_had reply heard (is_had reply) refl in let before = asked.before in
    record { place = asked.place; before = omega (arith, more, before); at = asked.at }) h

-- a reply that leaves what was given
pub stays : (who : Sid) (writing : Writing) (reply : Reply) (heard : List Reply) (old new : Book)
    → given (reply ∷ heard) ≡ given heard → released (reply ∷ heard) ≡ released heard → new.present ≡ old.present → new.held ≡ old.held
    → new.commit ≡ commit_in writing.txn (number_of (reply ∷ heard))
    → (is_ending (reply ∷ heard) ≡ false → is_over (reply ∷ heard) ≡ false → (number_of (reply ∷ heard) ≡ None) × (released (reply ∷ heard) ≡ 0))
    → (is_ending (reply ∷ heard) ≡ true → number_of (reply ∷ heard) ≡ None → new.ended ≡ true)
    → (came_back (reply ∷ heard) ≡ true → IsNumbered (reply ∷ heard))
    → IsBooked who writing heard old → IsBooked who writing (reply ∷ heard) new
stays who writing reply heard old new same count present held commit going ended back s = record {
  present = present ∙ s.present;
  commit = commit;
  held = held ∙ s.held ∙ ap (λ n. map (held_of writing.txn) (drop n (given heard))) (sym count)
      ∙ ap (λ l. map (held_of writing.txn) (drop (released (reply ∷ heard)) l)) (sym same);
  own = subst (AllByRecursion (λ (one : Given). one.permit.sid ≡ who)) (sym same) s.own;
  apart = subst Apart (sym same) s.apart;
  asked = subst (AllByRecursion (λ (one : Given). WasAsked writing.keys (count_by is_had (reply ∷ heard)) one.permit.key)) (sym same)
      (asked-more writing.keys reply heard (given heard) s.asked);
  going = going;
  ended = ended;
  back = back;
}

-- a mild reply, of which a session that goes on is told
pub mild : (who : Sid) (writing : Writing) (reply : Reply) (heard : List Reply) (old new : Book) → IsMild reply → IsAlike old new
    → (is_over (reply ∷ heard) ≡ false → (number_of heard ≡ None) × (released heard ≡ 0))
    → IsBooked who writing heard old → IsBooked who writing (reply ∷ heard) new
mild who writing reply heard old new m like going s =
    let same : given (reply ∷ heard) ≡ given heard = ap (λ l. given_by reply (turned heard) (given heard) ++ l) m.none
    ∙ append-nil (given_by reply (turned heard) (given heard)) ∙ m.left (turned heard) (given heard) in
    let count : released (reply ∷ heard) ≡ released heard = same-count is_release reply heard m.release in
    stays who writing reply heard old new same count like.present like.held
    (like.commit ∙ s.commit ∙ ap (commit_in writing.txn) (sym (m.number heard)))
    (λ still on. (m.number heard ∙ (going on).0, count ∙ (going on).1))
    (λ ends. absurd (false≢true (sym (m.ending heard) ∙ ends)))
    (λ came. absurd (false≢true (sym (m.back heard) ∙ came))) s
