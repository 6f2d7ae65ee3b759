-- What a session wants, by cases of what it was told, and which keys it quarantines.
use Rattle.std.proofs.Common.{append-nil, ℕ, zero, suc, ◌≡◌, ◌+◌, ◌<◌, Bool, true, false, not, nat_lt, List, [], ◌∷◌, ◌++◌, length}
use Rattle.std.proofs.Common.{append_assoc, count_by, map, Option, Some, None, slice_get, get_or, All, AllPairs, refl, sym, ap, subst, ◌∙◌, inl}
use Rattle.std.proofs.Common.{inr, ◌⊎◌, arith}
use Rattle.std.proofs.lemmas.Bool.{cases_order, cond_both}
use Rattle.std.proofs.lemmas.Bool.Decides.{nat_tests}
use Rattle.std.proofs.lemmas.Option.{slice_get_within, get_or_from_slice_get}
use Rattle.std.proofs.lemmas.List.Kept.{AllPairs-filter}
use Rattle.rows_model.specs.declared.keys.QKey.{QKey}
use Rattle.rows_model.specs.declared.changes.Change.{Change}
use Rattle.rows_model.specs.Key.{same_key}
use Rattle.rows_model.proofs.FootprintLemmas.{footprints_are_exact_is}
use Rattle.rows_model.specs.Changes.{footprint, is_key_before}
use Rattle.lease_table.specs.declared.records.Mode.{Mode}
use Rattle.lease_table.specs.declared.records.Mode.TheVariants as mode
use Rattle.key_shard.specs.Permit.{Permit}
use Rattle.key_shard.specs.declared.replies.Got.{Got}
use Rattle.key_shard.specs.declared.replies.Got.TheVariants as got
use Rattle.key_shard.specs.declared.replies.QAnswer.TheVariants as quarantine
use Rattle.key_shard.specs.declared.replies.Raising.TheVariants as raising
use Rattle.sql_keeper.specs.declared.stores.Answer.{Answer}
use Rattle.session_client.specs.declared.plans.Plan.{Plan}
use Rattle.session_client.specs.declared.plans.Plan.TheVariants.{Read, Write, Look, Quit, Skip, Raise, Renew}
use Rattle.session_client.specs.declared.replies.Fault.{Fault}
use Rattle.session_client.specs.declared.replies.Reply.{Reply}
use Rattle.session_client.specs.declared.replies.Reply.TheVariants as Reply
use Rattle.session_client.specs.declared.replies.Wanted.{Wanted}
use Rattle.session_client.specs.declared.replies.Wanted.TheVariants as wanted
use Rattle.session_client.specs.Plans.{keys_of, mode_on, without_key}
use Rattle.session_client.proofs.TurnLemmas.{map_set, map_remove}
use Rattle.session_client.specs.Wants.{given_by, granted_by, turned, Raises, Renews, raise_or_commit, raise_next, renew_or_commit, renew_next}
use Rattle.session_client.specs.Wants.{Given, given, given_in, granted, grants_in, is_had, released, was_committed, number_of, Then}
use Rattle.session_client.specs.Wants.{Commits, Looks, Quits, Writing, quarantine_as, commit_with, then_wants, quarantine_or_then}
use Rattle.session_client.specs.Wants.{quarantine_next, has_all, look_after, after_fault, Release, Keeps, Drops, Finishes, release_after}
use Rattle.session_client.specs.Wants.{release_by, new_value, finish, release_of, release_next, write_wants, read_wants, set_after, agains}

-- a reply to a raise
abbrev pub is_raise : Reply → Bool
is_raise (Reply.Raise answer) = true
is_raise other = false

-- such a reply alone changes what was granted before
pub granted-kept : (reply : Reply) (place : ℕ) (grants : List Permit) → is_raise reply ≡ false → granted_by reply place grants ≡ grants
granted-kept (Reply.Raise answer) place grants e = cc
granted-kept other place grants e = refl

pub given-kept : (reply : Reply) (place : ℕ) (ones : List Given) → is_raise reply ≡ false → given_by reply place ones ≡ ones
given-kept (Reply.Raise answer) place ones e = cc
given-kept other place ones e = refl

first_none : (reply : Reply) (new : List Reply) → All (λ reply. is_raise reply ≡ false) (reply ∷ new) → is_raise reply ≡ false
first_none reply new none = none 0 reply (omega arith)

rest_none : (reply : Reply) (new : List Reply) → All (λ reply. is_raise reply ≡ false) (reply ∷ new) → All (λ reply. is_raise reply ≡ false) new
rest_none reply new none = λ k d less. none (suc k) d (omega (arith, less))

-- without such a reply, the grants of what was heard later follow those of what was heard before
pub grants-append : (new heard : List Reply) → All (λ reply. is_raise reply ≡ false) new → granted (new ++ heard) ≡ granted heard ++ granted new
grants-append [] heard none = sym (append-nil (granted heard))
grants-append (reply ∷ new) heard none =
    ap (λ l. l ++ grants_in reply) (granted-kept reply (turned (new ++ heard)) (granted (new ++ heard)) (first_none reply new none) ∙ grants-append new heard (rest_none reply new none))
    ∙ append_assoc (granted heard) (granted new) (grants_in reply)
    ∙ ap (λ l. granted heard ++ (l ++ grants_in reply)) (sym (granted-kept reply (turned new) (granted new) (first_none reply new none)))

-- and so what was given later follows what was given before
pub given-append : (new heard : List Reply) → All (λ reply. is_raise reply ≡ false) new → given (new ++ heard) ≡ given heard ++ given new
given-append [] heard none = sym (append-nil (given heard))
given-append (reply ∷ new) heard none =
    ap (λ l. l ++ given_in reply) (given-kept reply (turned (new ++ heard)) (given (new ++ heard)) (first_none reply new none) ∙ given-append new heard (rest_none reply new none))
    ∙ append_assoc (given heard) (given new) (given_in reply)
    ∙ ap (λ l. given heard ++ (l ++ given_in reply)) (sym (given-kept reply (turned new) (given new) (first_none reply new none)))

-- the grants of what was given
abbrev pub permits : List Given → List Permit
permits ones = map (λ (one : Given). one.permit) ones

permits-append : (ones more : List Given) → permits (ones ++ more) ≡ permits ones ++ permits more
permits-append [] more = refl
permits-append (one ∷ ones) more = ap (λ (l : List Permit). one.permit ∷ l) (permits-append ones more)

permits-in : (reply : Reply) → grants_in reply ≡ permits (given_in reply)
permits-in (Reply.Quar (quarantine.Granted grant old)) = refl
permits-in other = refl

permits-by : (reply : Reply) (place : ℕ) (ones : List Given) → granted_by reply place (permits ones) ≡ permits (given_by reply place ones)
permits-by (Reply.Raise (raising.Raised grant old)) place ones =
    sym (map_set (λ (one : Given). one.permit) ones place (record { permit = grant; old = old }))
permits-by (Reply.Raise (raising.Shared grant holder)) place ones = refl
permits-by (Reply.Raise raising.Gone) place ones = sym (map_remove (λ (one : Given). one.permit) ones place)
permits-by other place ones = refl

-- the grants that a session was given are those of what it was given
pub granted-given : (heard : List Reply) → granted heard ≡ permits (given heard)
granted-given [] = refl
granted-given (reply ∷ heard) =
    ap (λ l. granted_by reply (turned heard) l ++ grants_in reply) (granted-given heard)
    ∙ ap (λ l. l ++ grants_in reply) (permits-by reply (turned heard) (given heard))
    ∙ ap (λ l. permits (given_by reply (turned heard) (given heard)) ++ l) (permits-in reply)
    ∙ sym (permits-append (given_by reply (turned heard) (given heard)) (given_in reply))

some_same : {X : Type 0} {a b : X} → Some a ≡ Some b → a ≡ b
some_same e = cc

permit-at : (ones : List Given) (i : ℕ) (one : Given) → slice_get ones i ≡ Some one → slice_get (permits ones) i ≡ Some one.permit
permit-at [] i one e = cc
permit-at (first ∷ ones) zero one e = ap (λ (o : Given). Some o.permit) (some_same e)
permit-at (first ∷ ones) (suc i) one e = permit-at ones i one e

-- what was given at a place has the grant that was granted there
pub given-granted : (heard : List Reply) (i : ℕ) (one : Given) → slice_get (given heard) i ≡ Some one → slice_get (granted heard) i ≡ Some one.permit
given-granted heard i one e = ap (λ l. slice_get l i) (granted-given heard) ∙ permit-at (given heard) i one e

-- a session has no number of a commit exactly where it was told of none
record IsNumbered (b : Bool) (n : Option ℕ) : Type 0 where
  to : b ≡ false → n ≡ None
  from : n ≡ None → b ≡ false

committed_heard : (heard : List Reply) → IsNumbered (was_committed heard) (number_of heard)
committed_heard [] = record { to = λ _. refl; from = λ _. refl }
committed_heard (Reply.Committed number txn grants ∷ heard) = record { to = λ e. cc; from = λ e. cc }
committed_heard (Reply.Got found ∷ heard) = committed_heard heard
committed_heard (Reply.Answer answer ∷ heard) = committed_heard heard
committed_heard (Reply.Set answer ∷ heard) = committed_heard heard
committed_heard (Reply.Quar answer ∷ heard) = committed_heard heard
committed_heard (Reply.Staged value txn ∷ heard) = committed_heard heard
committed_heard (Reply.NotStaged fault txn ∷ heard) = committed_heard heard
committed_heard (Reply.NotCommitted fault txn grants ∷ heard) = committed_heard heard
committed_heard (Reply.End was ∷ heard) = committed_heard heard
committed_heard (Reply.Rel answer ∷ heard) = committed_heard heard
committed_heard (Reply.SarBack grant ∷ heard) = committed_heard heard
committed_heard (Reply.Fault fault ∷ heard) = committed_heard heard
committed_heard (Reply.Raise answer ∷ heard) = committed_heard heard
committed_heard (Reply.RaiseBack grant ∷ heard) = committed_heard heard
committed_heard (Reply.Renew grant answer ∷ heard) = committed_heard heard
committed_heard (Reply.Nothing ∷ heard) = committed_heard heard

pub uncommitted-none : (heard : List Reply) → was_committed heard ≡ false → number_of heard ≡ None
uncommitted-none heard = (committed_heard heard).to

pub none-uncommitted : (heard : List Reply) → number_of heard ≡ None → was_committed heard ≡ false
none-uncommitted heard = (committed_heard heard).from

-- a session that has the number of a commit was told of it
pub numbered-committed : (heard : List Reply) (number : ℕ) → number_of heard ≡ Some number → was_committed heard ≡ true
numbered-committed heard number e = by (was_committed heard) refl
  where
    by : (b : Bool) → was_committed heard ≡ b → b ≡ true
    by true was = refl
    by false was = let none = uncommitted-none heard was in cc

-- the session was told that it is committed or ended, that a grant of its is released, or that one came back
abbrev pub is_ending : List Reply → Bool
is_ending [] = false
is_ending (Reply.Committed number txn grants ∷ heard) = true
is_ending (Reply.End was ∷ heard) = true
is_ending (Reply.Rel answer ∷ heard) = true
is_ending (Reply.SarBack grant ∷ heard) = true
is_ending (other ∷ heard) = false

-- the session was told nothing yet, or that a quarantine stands
abbrev pub is_asking : List Reply → Bool
is_asking [] = true
is_asking (reply ∷ heard) = is_had reply

-- a session that is asking has not begun to end
pub asking-goes : (heard : List Reply) → is_asking heard ≡ true → is_ending heard ≡ false
asking-goes [] e = refl
asking-goes (Reply.Quar answer ∷ heard) e = refl
asking-goes (Reply.Got found ∷ heard) e = refl
asking-goes (Reply.Answer answer ∷ heard) e = refl
asking-goes (Reply.Set answer ∷ heard) e = refl
asking-goes (Reply.Staged value txn ∷ heard) e = refl
asking-goes (Reply.NotStaged fault txn ∷ heard) e = refl
asking-goes (Reply.NotCommitted fault txn grants ∷ heard) e = refl
asking-goes (Reply.Fault fault ∷ heard) e = refl
asking-goes (Reply.Raise answer ∷ heard) e = refl
asking-goes (Reply.RaiseBack grant ∷ heard) e = refl
asking-goes (Reply.Renew grant answer ∷ heard) e = refl
asking-goes (Reply.Nothing ∷ heard) e = refl
asking-goes (other ∷ heard) e = cc

-- each key stands once among these
abbrev pub AreOnce : List QKey → Type 0
AreOnce keys = (i j : ℕ) (key : QKey) → slice_get keys i ≡ Some key → slice_get keys j ≡ Some key → i ≡ j

-- what a writer wants that raises its quarantines, or renews them
raise_cases : (P : Wanted → Type 0) (writing : Writing) (heard : List Reply)
    → ((grant : Permit) → slice_get (granted heard) (turned heard) ≡ Some grant → P (wanted.Raise grant))
    → P (commit_with writing heard) → P (raise_next writing heard)
raise_cases P writing heard raise commit = by (slice_get (granted heard) (turned heard)) refl
  where
    by : (o : Option Permit) → slice_get (granted heard) (turned heard) ≡ o → P (raise_or_commit writing heard o)
    by (Some grant) e = raise grant e
    by None e = commit

renew_cases : (P : Wanted → Type 0) (writing : Writing) (heard : List Reply)
    → ((grant : Permit) → slice_get (granted heard) (turned heard) ≡ Some grant → P (wanted.Renew grant))
    → P (commit_with writing heard) → P (renew_next writing heard)
renew_cases P writing heard renew commit = by (slice_get (granted heard) (turned heard)) refl
  where
    by : (o : Option Permit) → slice_get (granted heard) (turned heard) ≡ o → P (renew_or_commit writing heard o)
    by (Some grant) e = renew grant e
    by None e = commit

-- what a writer wants that quarantines its keys
next_cases : (P : Wanted → Type 0) (writing : Writing) (heard : List Reply)
    → ((key : QKey) → slice_get writing.keys (count_by is_had heard) ≡ Some key → P (quarantine_as (mode_on writing.mode key) key writing.txn))
    → P (commit_with writing heard)
    → ((key : QKey) → writing.next ≡ Looks key → slice_get writing.keys (count_by is_had heard) ≡ None → P (wanted.Get key 0))
    → P wanted.End
    → ((grant : Permit) → slice_get (granted heard) (turned heard) ≡ Some grant → P (wanted.Raise grant))
    → ((grant : Permit) → slice_get (granted heard) (turned heard) ≡ Some grant → P (wanted.Renew grant))
    → P (quarantine_next writing heard)
next_cases P writing heard ask commit get end raise renew = by (slice_get writing.keys (count_by is_had heard)) refl
  where
    after : slice_get writing.keys (count_by is_had heard) ≡ None → (next : Then) → writing.next ≡ next → P (then_wants next writing heard)
    after none Commits e = commit
    after none (Looks key) e = get key e none
    after none Quits e = end
    after none Raises e = raise_cases P writing heard raise commit
    after none Renews e = renew_cases P writing heard renew commit

    by : (o : Option QKey) → slice_get writing.keys (count_by is_had heard) ≡ o → P (quarantine_or_then writing heard o)
    by (Some key) e = ask key e
    by None e = after e writing.next refl

-- what a writer wants that releases its grants
release_cases : (P : Wanted → Type 0) (writing : Writing) (short : Bool) (heard : List Reply)
    → ((one : Given) → slice_get (given heard) (released heard) ≡ Some one → number_of heard ≡ None → P (wanted.Abort one.permit))
    → ((one : Given) → slice_get (given heard) (released heard) ≡ Some one → P (wanted.Dar one.permit))
    → ((one : Given) (number : ℕ) → slice_get (given heard) (released heard) ≡ Some one → number_of heard ≡ Some number → one.permit.mode ≡ mode.Refresh
    → P (wanted.Sar one.permit (new_value one.permit.key writing.txn one.old) number))
    → ((one : Given) (number : ℕ) → slice_get (given heard) (released heard) ≡ Some one
    → number_of heard ≡ Some number → one.permit.mode ≡ mode.Delta → P (wanted.Apply one.permit number))
    → P wanted.Nothing → P (release_next writing short heard)
release_cases P writing short heard abort dar sar apply nothing = by heard refl
  where
    Result : Release → Type 0
    Result how = P (release_of writing.txn how (slice_get (given heard) (released heard)))

    finished : (one : Given) (number : ℕ) → slice_get (given heard) (released heard) ≡ Some one
        → number_of heard ≡ Some number → (m : Mode) → one.permit.mode ≡ m → P (finish m writing.txn number one)
    finished one number at numbered mode.Invalidate e = dar one at
    finished one number at numbered mode.Refresh e = sar one number at numbered e
    finished one number at numbered mode.Delta e = apply one number at numbered e

    keeps : number_of heard ≡ None → (o : Option Given) → slice_get (given heard) (released heard) ≡ o → P (release_of writing.txn Keeps o)
    keeps none (Some one) at = abort one at none
    keeps none None at = nothing

    drops : (o : Option Given) → slice_get (given heard) (released heard) ≡ o → P (release_of writing.txn Drops o)
    drops (Some one) at = dar one at
    drops None at = nothing

    finishes : (number : ℕ) → number_of heard ≡ Some number → (o : Option Given)
        → slice_get (given heard) (released heard) ≡ o → P (release_of writing.txn (Finishes number) o)
    finishes number numbered (Some one) at = finished one number at numbered one.permit.mode refl
    finishes number numbered None at = nothing

    after : (b : Bool) (n : Option ℕ) → number_of heard ≡ n → Result (release_after b n)
    after b None e = keeps e (slice_get (given heard) (released heard)) refl
    after true (Some number) e = drops (slice_get (given heard) (released heard)) refl
    after false (Some number) e = finishes number e (slice_get (given heard) (released heard)) refl

    kept : (l : List Reply) → release_by short l ≡ release_after short (number_of l) → heard ≡ l → Result (release_by short l)
    kept l plain e = subst Result (sym plain) (after short (number_of l) (ap number_of e))

    by : (l : List Reply) → heard ≡ l → Result (release_by short l)
    by [] e = kept [] refl e
    by (Reply.SarBack grant ∷ rest) e = drops (slice_get (given heard) (released heard)) refl
    by (Reply.Got found ∷ rest) e = kept (Reply.Got found ∷ rest) refl e
    by (Reply.Answer answer ∷ rest) e = kept (Reply.Answer answer ∷ rest) refl e
    by (Reply.Set answer ∷ rest) e = kept (Reply.Set answer ∷ rest) refl e
    by (Reply.Quar answer ∷ rest) e = kept (Reply.Quar answer ∷ rest) refl e
    by (Reply.Staged value txn ∷ rest) e = kept (Reply.Staged value txn ∷ rest) refl e
    by (Reply.NotStaged fault txn ∷ rest) e = kept (Reply.NotStaged fault txn ∷ rest) refl e
    by (Reply.Committed number txn grants ∷ rest) e = kept (Reply.Committed number txn grants ∷ rest) refl e
    by (Reply.NotCommitted fault txn grants ∷ rest) e = kept (Reply.NotCommitted fault txn grants ∷ rest) refl e
    by (Reply.End was ∷ rest) e = kept (Reply.End was ∷ rest) refl e
    by (Reply.Rel answer ∷ rest) e = kept (Reply.Rel answer ∷ rest) refl e
    by (Reply.Fault fault ∷ rest) e = kept (Reply.Fault fault ∷ rest) refl e
    by (Reply.Raise answer ∷ rest) e = kept (Reply.Raise answer ∷ rest) refl e
    by (Reply.RaiseBack grant ∷ rest) e = kept (Reply.RaiseBack grant ∷ rest) refl e
    by (Reply.Renew grant answer ∷ rest) e = kept (Reply.Renew grant answer ∷ rest) refl e
    by (Reply.Nothing ∷ rest) e = kept (Reply.Nothing ∷ rest) refl e

-- what a writer wants: a quarantine, a commit, its own key, the store's answer after its transaction, or to be ended;
-- a raise or a renewal of the next grant, one of four releases of it, or nothing
pub write_cases : (P : Wanted → Type 0) (writing : Writing) (short : Bool) (heard : List Reply)
    → ((key : QKey) → slice_get writing.keys (count_by is_had heard) ≡ Some key
    → is_asking heard ≡ true → P (quarantine_as (mode_on writing.mode key) key writing.txn))
    → (is_ending heard ≡ false → P (commit_with writing heard))
    → ((key : QKey) → writing.next ≡ Looks key → is_asking heard ≡ true → slice_get writing.keys (count_by is_had heard) ≡ None → P (wanted.Get key 0))
    → ((key : QKey) → writing.next ≡ Looks key → is_ending heard ≡ false → P (wanted.Staged key writing.txn))
    → (is_ending heard ≡ false → P wanted.End)
    → ((grant : Permit) → slice_get (granted heard) (turned heard) ≡ Some grant → is_ending heard ≡ false → P (wanted.Raise grant))
    → ((grant : Permit) → slice_get (granted heard) (turned heard) ≡ Some grant → is_ending heard ≡ false → P (wanted.Renew grant))
    → ((one : Given) → slice_get (given heard) (released heard) ≡ Some one → is_ending heard ≡ true → number_of heard ≡ None → P (wanted.Abort one.permit))
    → ((one : Given) → slice_get (given heard) (released heard) ≡ Some one → is_ending heard ≡ true → P (wanted.Dar one.permit))
    → ((one : Given) (number : ℕ) → slice_get (given heard) (released heard) ≡ Some one
    → is_ending heard ≡ true → number_of heard ≡ Some number → one.permit.mode ≡ mode.Refresh
    → P (wanted.Sar one.permit (new_value one.permit.key writing.txn one.old) number))
    → ((one : Given) (number : ℕ) → slice_get (given heard) (released heard) ≡ Some one
    → is_ending heard ≡ true → number_of heard ≡ Some number → one.permit.mode ≡ mode.Delta
    → P (wanted.Apply one.permit number))
    → P wanted.Nothing → P (write_wants writing short heard)
write_cases P writing short heard ask commit get staged end raise renew abort dar sar apply nothing = by heard refl
  where
    due : (reply : Reply) (rest : List Reply) → heard ≡ reply ∷ rest → is_ending (reply ∷ rest) ≡ true → P (release_next writing short (reply ∷ rest))
    due reply rest e ending =
        let ends : is_ending heard ≡ true = ap is_ending e ∙ ending in
        subst (λ l. P (release_next writing short l)) e
        (release_cases P writing short heard (λ one at none. abort one at ends none)
        (λ one at. dar one at ends) (λ one number at reply fits. sar one number at ends reply fits)
        (λ one number at reply fits. apply one number at ends reply fits) nothing)

    next : is_asking heard ≡ true → is_ending heard ≡ false → P (quarantine_next writing heard)
    next asks going = next_cases P writing heard (λ key at. ask key at asks) (commit going) (λ key looks none. get key looks asks none) (end going)
        (λ grant at. raise grant at going) (λ grant at. renew grant at going)

    more : (l : List Reply) → heard ≡ l → is_asking l ≡ true → is_ending l ≡ false → P (quarantine_next writing l)
    more l e asks going = subst (λ l. P (quarantine_next writing l)) e (next (ap is_asking e ∙ asks) (ap is_ending e ∙ going))

    raises : (l : List Reply) → heard ≡ l → is_ending l ≡ false → P (raise_next writing l)
    raises l e going =
        let goes : is_ending heard ≡ false = ap is_ending e ∙ going in
        subst (λ l. P (raise_next writing l)) e (raise_cases P writing heard (λ grant at. raise grant at goes) (commit goes))

    renews : (l : List Reply) → heard ≡ l → is_ending l ≡ false → P (renew_next writing l)
    renews l e going =
        let goes : is_ending heard ≡ false = ap is_ending e ∙ going in
        subst (λ l. P (renew_next writing l)) e (renew_cases P writing heard (λ grant at. renew grant at goes) (commit goes))

    committing : (reply : Reply) (rest : List Reply) → heard ≡ reply ∷ rest
        → is_ending (reply ∷ rest) ≡ false → granted (reply ∷ rest) ≡ granted rest → P (commit_with writing rest)
    committing reply rest e going same =
        let all : granted heard ≡ granted rest = ap granted e ∙ same in
        subst (λ items. P (wanted.Commit writing.txn (record { items = items; room = length writing.keys }))) all (commit (ap is_ending e ∙ going))

    looked : (found : Got) (rest : List Reply) → heard ≡ Reply.Got found ∷ rest → (next : Then) → writing.next ≡ next → P (look_after next writing found rest)
    looked got.Own rest e (Looks key) looks = staged key looks (ap is_ending e)
    looked (got.Hit value stamp) rest e (Looks key) looks = committing (Reply.Got (got.Hit value stamp)) rest e refl (append-nil (granted rest))
    looked (got.Lease token) rest e (Looks key) looks = committing (Reply.Got (got.Lease token)) rest e refl (append-nil (granted rest))
    looked (got.Again stands) rest e (Looks key) looks = committing (Reply.Got (got.Again stands)) rest e refl (append-nil (granted rest))
    looked found rest e Commits looks = committing (Reply.Got found) rest e refl (append-nil (granted rest))
    looked found rest e Quits looks = committing (Reply.Got found) rest e refl (append-nil (granted rest))
    looked found rest e Raises looks = committing (Reply.Got found) rest e refl (append-nil (granted rest))
    looked found rest e Renews looks = committing (Reply.Got found) rest e refl (append-nil (granted rest))

    faulty : (fault : Fault) (rest : List Reply) → heard ≡ Reply.Fault fault ∷ rest → (b : Bool) → P (after_fault b writing rest)
    faulty fault rest e true = committing (Reply.Fault fault) rest e refl (append-nil (granted rest))
    faulty fault rest e false = end (ap is_ending e)

    by : (l : List Reply) → heard ≡ l → P (write_wants writing short l)
    by [] e = more [] e refl refl
    by (Reply.Quar (quarantine.Granted grant old) ∷ rest) e = more (Reply.Quar (quarantine.Granted grant old) ∷ rest) e refl refl
    by (Reply.Quar quarantine.Held ∷ rest) e = more (Reply.Quar quarantine.Held ∷ rest) e refl refl
    by (Reply.Quar (quarantine.Refused holder held) ∷ rest) e = end (ap is_ending e)
    by (Reply.Fault fault ∷ rest) e = faulty fault rest e (has_all writing rest)
    by (Reply.Got found ∷ rest) e = looked found rest e writing.next refl
    by (Reply.Staged value txn ∷ rest) e = committing (Reply.Staged value txn) rest e refl (append-nil (granted rest))
    by (Reply.NotStaged fault txn ∷ rest) e = committing (Reply.NotStaged fault txn) rest e refl (append-nil (granted rest))
    by (Reply.Raise answer ∷ rest) e = raises (Reply.Raise answer ∷ rest) e refl
    by (Reply.RaiseBack grant ∷ rest) e = raises (Reply.RaiseBack grant ∷ rest) e refl
    by (Reply.Renew grant answer ∷ rest) e = renews (Reply.Renew grant answer ∷ rest) e refl
    by (Reply.NotCommitted fault txn grants ∷ rest) e = end (ap is_ending e)
    by (Reply.Committed number txn grants ∷ rest) e = due (Reply.Committed number txn grants) rest e refl
    by (Reply.End was ∷ rest) e = due (Reply.End was) rest e refl
    by (Reply.Rel answer ∷ rest) e = due (Reply.Rel answer) rest e refl
    by (Reply.SarBack grant ∷ rest) e = due (Reply.SarBack grant) rest e refl
    by (Reply.Answer answer ∷ rest) e = nothing
    by (Reply.Set answer ∷ rest) e = nothing
    by (Reply.Nothing ∷ rest) e = nothing

-- what a reader wants: what it sets is an answer that followed a lease
set_cases : (P : Wanted → Type 0) (key : QKey) (answer : Answer) (heard : List Reply)
    → ((token : ℕ) (rest : List Reply) → heard ≡ Reply.Got (got.Lease token) ∷ rest → P (wanted.Set key token answer.value answer.stamp)) → P wanted.Nothing
    → P (set_after key answer heard)
set_cases P key answer (Reply.Got (got.Lease token) ∷ heard) set nothing = set token heard refl
set_cases P key answer heard set nothing = nothing

pub read_cases : (P : Wanted → Type 0) (key : QKey) (floor : ℕ) (heard : List Reply) → P (wanted.Get key floor) → P (wanted.Ask key)
    → ((token : ℕ) (answer : Answer) (rest : List Reply) → heard ≡ Reply.Answer answer ∷ Reply.Got (got.Lease token) ∷ rest
    → P (wanted.Set key token answer.value answer.stamp))
    → P wanted.Nothing → P (read_wants key floor heard)
read_cases P key floor [] get ask set nothing = get
read_cases P key floor (Reply.Got (got.Lease token) ∷ heard) get ask set nothing = ask
read_cases P key floor (Reply.Got (got.Again stands) ∷ heard) get ask set nothing =
    cond_both (nat_lt (agains heard + 1) 16) (wanted.Get key floor) (wanted.Ask key) P (λ _. get) (λ _. ask)
read_cases P key floor (Reply.Got got.Own ∷ heard) get ask set nothing = ask
read_cases P key floor (Reply.Answer answer ∷ heard) get ask set nothing =
    set_cases P key answer heard (λ token rest e. set token answer rest (ap (λ l. Reply.Answer answer ∷ l) e)) nothing
read_cases P key floor (other ∷ heard) get ask set nothing = nothing

-- keys that ascend stand once each
never_before : (key : QKey) → is_key_before key key ≡ true → ⊥
never_before key h = grind (arith, nat_tests)

ascend_once : (keys : List QKey) → AllPairs (λ key later. is_key_before later key ≡ true) keys → AreOnce keys
ascend_once keys pairs i j key at_i at_j =
    by (cases_order i j)
  where
    clash : (i j : ℕ) → i < j → slice_get keys i ≡ Some key → slice_get keys j ≡ Some key → ⊥
    clash i j less at_i at_j =
        let e = pairs i j key less (slice_get_within keys j key at_j) in
        never_before key (subst (λ k. is_key_before k key ≡ true) (get_or_from_slice_get keys j key key at_j)
        (subst (λ k. is_key_before (get_or keys j key) k ≡ true) (get_or_from_slice_get keys i key key at_i) e))

    by : (i ≡ j) ⊎ ((i < j) ⊎ (j < i)) → i ≡ j
    by (inl same) = same
    by (inr (inl less)) = absurd (clash i j less at_i at_j)
    by (inr (inr more)) = absurd (clash j i more at_j at_i)

pub footprint-once : (txn : List Change) → AreOnce (footprint txn)
footprint-once txn = ascend_once (footprint txn) (footprints_are_exact_is txn).ascends

pub skipped-once : (key : QKey) (txn : List Change) → AreOnce (without_key key (footprint txn))
skipped-once key txn =
    ascend_once (without_key key (footprint txn))
    (AllPairs-filter (λ k later. is_key_before later k ≡ true) (λ other. not (same_key key other)) (footprint txn) (footprints_are_exact_is txn).ascends)

-- each key of a plan stands once among those that it quarantines
pub plan-once : (plan : Plan) → AreOnce (keys_of plan)
plan-once (Read key floor) = λ i j other at_i at_j. cc
plan-once (Write mode txn) = footprint-once txn
plan-once (Look mode key txn) = footprint-once txn
plan-once (Quit mode txn) = footprint-once txn
plan-once (Skip key txn) = skipped-once key txn
plan-once (Raise txn) = footprint-once txn
plan-once (Renew mode txn) = footprint-once txn
