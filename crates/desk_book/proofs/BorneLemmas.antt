-- What a session that writes wants is borne out by its book.
use Rattle.std.proofs.Common.{ℕ, zero, suc, ◌≡◌, ◌<◌, Bool, true, false, List, [], ◌∷◌, length, map, drop, Option, Some, None, is_some, slice_get}
use Rattle.std.proofs.Common.{get_or, refl, sym, ap, subst, ◌∙◌, arith, All}
use Rattle.std.specs.List.{Any}
use Rattle.std.specs.Prelude.{IsTrue, IsSomeAnd}
use Rattle.std.proofs.lemmas.Bool.{false≢true}
use Rattle.rows_model.specs.declared.keys.QKey.{QKey}
use Rattle.rows_model.specs.declared.keys.Sid.{Sid}
use Rattle.rows_model.specs.declared.changes.Change.{Change}
use Rattle.rows_model.specs.Delta.{delta_of}
use Rattle.lease_table.specs.declared.records.Mode.{Mode}
use Rattle.lease_table.specs.declared.records.Mode.TheVariants.{Invalidate, Refresh, Delta}
use Rattle.key_shard.specs.Permit.{Permit}
use Rattle.session_client.specs.Plans.{mode_on, shift_in}
use Rattle.session_client.specs.declared.replies.Reply.{Reply}
use Rattle.session_client.specs.declared.replies.Reply.TheVariants as Reply
use Rattle.session_client.specs.declared.replies.Wanted.{Wanted}
use Rattle.session_client.specs.declared.replies.Wanted.TheVariants as wanted
use Rattle.session_client.specs.Wants.{Given, given, granted, number_of, released, turned, write_wants, Writing, quarantine_as, commit_with, new_value, release_next}
use Rattle.session_client.specs.Wants.{Keeps, release_by, release_after, release_of}
use Rattle.session_client.proofs.WantCases.{is_ending, asking-goes, write_cases, permits, granted-given}
use Rattle.desk_book.specs.declared.facts.Committed.{Committed}
use Rattle.desk_book.specs.Books.{Book, Held, may_write}
use Rattle.desk_book.specs.Borne.{IsBorne, IsPresent, IsDone, MayQuarantine, Holds, Refreshes, Shifts}
use Rattle.desk_book.proofs.ListLemmas.{each-at, any-here, any-later, drop_at}
use Rattle.desk_book.proofs.GivenLemmas.{held_of, given-at}
use Rattle.desk_book.proofs.WriterLemmas.{IsBooked, IsNumbered, is-now, commit_in, goes-on, came_back}
use Rattle.desk_book.proofs.WriterSteps.{IsUnended}

-- each grant of a list is held where the list is held
all-held : (txn : List Change) (ones : List Given) → All (λ (grant : Permit). Any (λ (one : Held). one.permit ≡ grant) (map (held_of txn) ones)) (permits ones)
all-held txn [] = λ k d less. absurd (omega (arith, less))
all-held txn (first ∷ ones) = λ k d less. by (all-held txn ones) k d less
  where
    by : All (λ (grant : Permit). Any (λ (one : Held). one.permit ≡ grant) (map (held_of txn) ones)) (permits ones)
        → (k : ℕ) (d : Permit) → k < length (permits (first ∷ ones))
        → Any (λ (one : Held). one.permit ≡ get_or (permits (first ∷ ones)) k d) (map (held_of txn) (first ∷ ones))
    by rest zero d less = any-here (λ (one : Held). one.permit ≡ first.permit) (held_of txn first) (map (held_of txn) ones) refl
    by rest (suc k) d less =
        any-later (λ (one : Held). one.permit ≡ get_or (permits ones) k d) (held_of txn first) (map (held_of txn) ones)
        (rest k d (omega (arith, less)))

-- the commit that a book knows
done-as : (book : Book) (P : List Change → Type 0) (txn : List Change) (number : ℕ) → book.commit ≡ Some (record { number = number; txn = txn })
    → P txn → IsDone book number P
done-as book P txn number e p = subst (λ c. IsSomeAnd c (λ (done : Committed). (done.number ≡ number) × P done.txn)) (sym e) (refl, p)

-- a session that has the number of no commit isn't told to drop, unless a grant came back
kept : (short : Bool) (heard : List Reply) → number_of heard ≡ None → came_back heard ≡ false → release_by short heard ≡ Keeps
kept short [] none back = refl
kept short (Reply.SarBack grant ∷ heard) none back = absurd (false≢true (sym back))
kept short (other ∷ heard) none back = ap (release_after short) none

-- a session that is ending wants a release
ending-wants : (writing : Writing) (short : Bool) (heard : List Reply) → is_ending heard ≡ true → write_wants writing short heard ≡ release_next writing short heard
ending-wants writing short [] ends = absurd (false≢true ends)
ending-wants writing short (Reply.Committed number txn grants ∷ heard) ends = refl
ending-wants writing short (Reply.End was ∷ heard) ends = refl
ending-wants writing short (Reply.Rel answer ∷ heard) ends = refl
ending-wants writing short (Reply.SarBack grant ∷ heard) ends = refl
ending-wants writing short (other ∷ heard) ends = absurd (false≢true ends)

not-kept : (txn : List Change) (o : Option Given) (grant : Permit) → release_of txn Keeps o ≡ wanted.Dar grant → ⊥
not-kept txn (Some one) grant e = cc
not-kept txn None grant e = cc

-- what a session wants that drops a key's value comes after its commit
dropped : (who : Sid) (writing : Writing) (short : Bool) (heard : List Reply) (book : Book) (grant : Permit) → is_ending heard ≡ true
    → write_wants writing short heard ≡ wanted.Dar grant → IsBooked who writing heard book → IsNumbered heard
dropped who writing short heard book grant ends e s = by (number_of heard) refl (came_back heard) refl
  where
    by : (n : Option ℕ) → number_of heard ≡ n → (b : Bool) → came_back heard ≡ b → IsNumbered heard
    by (Some number) is b back = record { number = number; is = is }
    by None is true back = s.back back
    by None is false back =
        absurd (not-kept writing.txn (slice_get (given heard) (released heard)) grant
        (ap (λ how. release_of writing.txn how (slice_get (given heard) (released heard))) (sym (kept short heard is back))
        ∙ sym (ending-wants writing short heard ends) ∙ e))

pub write-borne : (who : Sid) (writing : Writing) (short : Bool) (heard : List Reply) (book : Book) → IsBooked who writing heard book
    → IsBorne book who (write_wants writing short heard)
write-borne who writing short heard book s =
    write_cases (λ request. write_wants writing short heard ≡ request → IsBorne book who request) writing short heard
    (λ key at asks e. quarantine key (mode_on writing.mode key) (unended (quarantine_as (mode_on writing.mode key) key writing.txn) e
    (not-nothing (mode_on writing.mode key) key) (asking-goes heard asks)))
    (λ going e. (
      now,
      subst (λ l. All (Holds book) l) (sym (granted-given heard))
          (subst (λ held. All (λ (grant : Permit). Any (λ (one : Held). one.permit ≡ grant) held) (permits (given heard)))
          (sym (whole (unended (commit_with writing heard) e (λ no. cc) going))) (all-held writing.txn (given heard))),
    ))
    (λ key looks asks none e. tt)
    (λ key looks going e. tt)
    (λ going e. tt)
    (λ grant at going e.
    let found = given-at (given heard) (turned heard) grant (ap (λ l. slice_get l (turned heard)) (sym (granted-given heard)) ∙ at) in (
      (now, subst (λ (p : Permit). p.sid ≡ who) found.permit (own found.one (turned heard) found.at)),
      uncommitted (unended (wanted.Raise grant) e (λ no. cc) going).0,
    ))
    (λ grant at going e. tt)
    (λ one at ending none e. ((now, own one (released heard) at), uncommitted none, s.ended ending none))
    (λ one at ending e.
    let ended_so = dropped who writing short heard book one.permit ending e s in
    ((now, own one (released heard) at), has-committed ended_so.number ended_so.is))
    (λ one number at ending is refresh e. put one number at is (new_value one.permit.key writing.txn one.old) refl)
    (λ one number at ending is delta e. (
      (now, own one (released heard) at),
      done-as book (Shifts book one.permit) writing.txn number (committed number is)
          (first one at (λ (held : Held). (held.permit ≡ one.permit) × (held.by ≡ delta_of one.permit.key writing.txn))
          (refl, ap (λ m. shift_in m one.permit.key writing.txn) delta)),
    ))
    (λ e. tt) refl
  where
    now : IsPresent book who
    now = is-now who true book s.present

    unended : (request : Wanted) → write_wants writing short heard ≡ request → (request ≡ wanted.Nothing → ⊥) → is_ending heard ≡ false → IsUnended heard
    unended request e some going = s.going going (goes-on writing short heard request e some)

    not-nothing : (mode : Mode) (key : QKey) → quarantine_as mode key writing.txn ≡ wanted.Nothing → ⊥
    not-nothing Invalidate key e = cc
    not-nothing Refresh key e = cc
    not-nothing Delta key e = cc

    uncommitted : number_of heard ≡ None → book.commit ≡ None
    uncommitted none = s.commit ∙ ap (commit_in writing.txn) none

    committed : (number : ℕ) → number_of heard ≡ Some number → book.commit ≡ Some (record { number = number; txn = writing.txn })
    committed number is = s.commit ∙ ap (commit_in writing.txn) is

    has-committed : (number : ℕ) → number_of heard ≡ Some number → IsTrue (is_some book.commit)
    has-committed number is = ap is_some (committed number is)

    own : (one : Given) (i : ℕ) → slice_get (given heard) i ≡ Some one → one.permit.sid ≡ who
    own one i at = each-at (λ (o : Given). o.permit.sid ≡ who) (given heard) i one at s.own

    whole : IsUnended heard → book.held ≡ map (held_of writing.txn) (given heard)
    whole none = s.held ∙ ap (λ n. map (held_of writing.txn) (drop n (given heard))) none.1

    -- the next grant is the first that is held
    first : (one : Given) → slice_get (given heard) (released heard) ≡ Some one → (P : Held → Type 0) → P (held_of writing.txn one) → Any P book.held
    first one at P p =
        subst (Any P) (sym (s.held ∙ ap (map (held_of writing.txn)) (drop_at (given heard) (released heard) one at)))
        (any-here P (held_of writing.txn one) (map (held_of writing.txn) (drop (suc (released heard)) (given heard))) p)

    may : IsUnended heard → MayQuarantine book who
    may none = (now, ap may_write s.present, uncommitted none.0)

    quarantine : (key : QKey) (mode : Mode) → IsUnended heard → IsBorne book who (quarantine_as mode key writing.txn)
    quarantine key Invalidate none = may none
    quarantine key Refresh none = may none
    quarantine key Delta none = may none

    put : (one : Given) (number : ℕ) → slice_get (given heard) (released heard) ≡ Some one → number_of heard ≡ Some number
        → (value : Option (List ℕ)) → new_value one.permit.key writing.txn one.old ≡ value → IsBorne book who (wanted.Sar one.permit value number)
    put one number at is (Some value) made = (
      (now, own one (released heard) at),
      done-as book (Refreshes book one.permit value) writing.txn number (committed number is)
          (first one at (λ (held : Held). (held.permit ≡ one.permit) × (new_value one.permit.key writing.txn held.old ≡ Some value)) (refl, made)),
    )
    put one number at is None made = ((now, own one (released heard) at), has-committed number is)
