-- The grants that a session was given, as a book holds them.
use Rattle.std.proofs.Common.{ℕ, pos, zero, suc, ◌≡◌, false, cond, List, [], ◌∷◌, ◌++◌, map, drop, set, Option, Some, slice_get}
use Rattle.std.proofs.Common.{refl, sym, ap, ◌∙◌}
use Rattle.std.specs.List.{AllByRecursion, remove}
use Rattle.std.proofs.lemmas.Option.{same_Some, none-some}
use Rattle.rows_model.specs.declared.changes.Change.{Change}
use Rattle.key_shard.specs.Permit.{Permit, same_permit}
use Rattle.key_shard.proofs.OutLemmas.{same_permit-true}
use Rattle.session_client.specs.Plans.{shift_in}
use Rattle.session_client.specs.Belongs.{IsRaised}
use Rattle.session_client.specs.Wants.{Given}
use Rattle.session_client.proofs.WantCases.{permits}
use Rattle.desk_book.specs.Books.{Held, raised, all_raised, all_but}
use Rattle.desk_book.proofs.ListLemmas.{each-push, each-remove, each-set, each-at, each-weaker, drop_at, not_true}
use Rattle.desk_book.proofs.PermitLemmas.{same_permit-refl, same_permit-equal, raised-back}

-- a grant that was given, as the book holds it
abbrev pub held_of : List Change → Given → Held
held_of txn one = record { permit = one.permit; old = one.old; by = shift_in one.permit.mode one.permit.key txn }

-- the grants are on keys of their own
abbrev pub Apart : List Given → Type 0
Apart [] = Unit {0}
Apart (one ∷ ones) = AllByRecursion (λ (other : Given). other.permit.key ≡ one.permit.key → ⊥) ones × Apart ones

pub apart-push : (ones : List Given) (new : Given) → Apart ones → AllByRecursion (λ (one : Given). new.permit.key ≡ one.permit.key → ⊥) ones
    → Apart (ones ++ new ∷ [])
apart-push [] new h k = (tt, tt)
apart-push (one ∷ ones) new h k =
    (each-push (λ (other : Given). other.permit.key ≡ one.permit.key → ⊥) ones new h.0 k.0, apart-push ones new h.1 k.1)

pub apart-remove : (ones : List Given) (i : ℕ) → Apart ones → Apart (remove ones i)
apart-remove [] zero h = tt
apart-remove [] (suc i) h = tt
apart-remove (one ∷ ones) zero h = h.1
apart-remove (one ∷ ones) (suc i) h =
    (each-remove (λ (other : Given). other.permit.key ≡ one.permit.key → ⊥) ones i h.0, apart-remove ones i h.1)

pub apart-set : (ones : List Given) (i : ℕ) (old new : Given) → slice_get ones i ≡ Some old → new.permit.key ≡ old.permit.key
    → Apart ones → Apart (set ones i new)
apart-set [] i old new at same h = tt
apart-set (one ∷ ones) zero old new at same h =
    let key : new.permit.key ≡ one.permit.key = same ∙ ap (λ (o : Given). o.permit.key) (sym (same_Some one old at)) in (
      each-weaker (λ (other : Given). other.permit.key ≡ one.permit.key → ⊥) (λ (other : Given). other.permit.key ≡ new.permit.key → ⊥) ones
          (λ other apart e. apart (e ∙ key)) h.0,
      h.1,
    )
apart-set (one ∷ ones) (suc i) old new at same h = (
  each-set (λ (other : Given). other.permit.key ≡ one.permit.key → ⊥) ones i new h.0
      (λ e. each-at (λ (other : Given). other.permit.key ≡ one.permit.key → ⊥) ones i old at h.0 (sym same ∙ e)),
  apart-set ones i old new at same h.1,
)

-- the grant at a place is that of what was given there
pub record IsGivenAt (ones : List Given) (i : ℕ) (grant : Permit) : Type 0 where
  pub one : Given
  pub at : slice_get ones i ≡ Some one
  pub permit : one.permit ≡ grant

pub given-at : (ones : List Given) (i : ℕ) (grant : Permit) → slice_get (permits ones) i ≡ Some grant → IsGivenAt ones i grant
given-at [] i grant e = absurd (none-some grant e)
given-at (one ∷ ones) zero grant e = record { one = one; at = refl; permit = same_Some one.permit grant e }
given-at (one ∷ ones) (suc i) grant e =
    let found = given-at ones i grant e in
    record { one = found.one; at = found.at; permit = found.permit }

shift-raised : (txn : List Change) (back : Permit) (lent : Permit) → IsRaised lent back → shift_in back.mode back.key txn ≡ pos 0
shift-raised txn back lent h = ap (λ m. shift_in m back.key txn) h.refreshes

-- the grant that was raised is changed at its place
pub raised-at : (txn : List Change) (ones : List Given) (i : ℕ) (one : Given) (back : Permit) (old : Option (List ℕ × ℕ)) → slice_get ones i ≡ Some one
    → IsRaised one.permit back → Apart ones
    → all_raised back old (map (held_of txn) ones) ≡ map (held_of txn) (set ones i (record { permit = back; old = old }))
raised-at txn [] i one back old at h apart = absurd (none-some one at)
raised-at txn (first ∷ ones) zero one back old at h apart =
    let here : raised first.permit ≡ back = ap (λ (o : Given). raised o.permit) (same_Some first one at) ∙ raised-back one.permit back h in
    ap (λ b. cond b (record { permit = back; old = old; by = pos 0 } ∷ map (held_of txn) ones)
    (held_of txn first ∷ all_raised back old (map (held_of txn) ones))) (same_permit-equal (raised first.permit) back here)
    ∙ ap (λ n. record { permit = back; old = old; by = n } ∷ map (held_of txn) ones) (sym (shift-raised txn back one.permit h))
raised-at txn (first ∷ ones) (suc i) one back old at h apart =
    let other : same_permit (raised first.permit) back ≡ false = not_true (same_permit (raised first.permit) back)
    (λ e. each-at (λ (other : Given). other.permit.key ≡ first.permit.key → ⊥) ones i one at apart.0
    (sym h.same_key ∙ ap (λ (p : Permit). p.key) (same_permit-true (raised first.permit) back e))) in
    ap (λ b. cond b (record { permit = back; old = old; by = pos 0 } ∷ map (held_of txn) ones)
    (held_of txn first ∷ all_raised back old (map (held_of txn) ones))) other
    ∙ ap (λ l. held_of txn first ∷ l) (raised-at txn ones i one back old at h apart.1)

-- the grant that is spent is taken out at its place
pub spent-at : (txn : List Change) (ones : List Given) (i : ℕ) (one : Given) → slice_get ones i ≡ Some one → Apart ones
    → all_but one.permit (map (held_of txn) ones) ≡ map (held_of txn) (remove ones i)
spent-at txn [] i one at apart = absurd (none-some one at)
spent-at txn (first ∷ ones) zero one at apart =
    ap (λ b. cond b (map (held_of txn) ones) (held_of txn first ∷ all_but one.permit (map (held_of txn) ones)))
    (same_permit-equal first.permit one.permit (ap (λ (o : Given). o.permit) (same_Some first one at)))
spent-at txn (first ∷ ones) (suc i) one at apart =
    let other : same_permit first.permit one.permit ≡ false = not_true (same_permit first.permit one.permit)
    (λ e. each-at (λ (other : Given). other.permit.key ≡ first.permit.key → ⊥) ones i one at apart.0
    (ap (λ (p : Permit). p.key) (same_permit-true first.permit one.permit e))) in
    ap (λ b. cond b (map (held_of txn) ones) (held_of txn first ∷ all_but one.permit (map (held_of txn) ones))) other
    ∙ ap (λ l. held_of txn first ∷ l) (spent-at txn ones i one at apart.1)

-- the grant that is released next is the first that is held
pub released-at : (txn : List Change) (ones : List Given) (n : ℕ) (one : Given) → slice_get ones n ≡ Some one
    → all_but one.permit (map (held_of txn) (drop n ones)) ≡ map (held_of txn) (drop (suc n) ones)
released-at txn ones n one at =
    ap (λ l. all_but one.permit (map (held_of txn) l)) (drop_at ones n one at)
    ∙ ap (λ b. cond b (map (held_of txn) (drop (suc n) ones)) (held_of txn one ∷ all_but one.permit (map (held_of txn) (drop (suc n) ones))))
    (same_permit-refl one.permit)
