-- Where the first grant on a key stands, and that one that is put back stands where it stood.
use Rattle.std.proofs.Common.{ℕ, zero, suc, ◌≡◌, ◌<◌, Bool, true, false, List, [], ◌∷◌, length, slice_get, get_or, position, Option}
use Rattle.std.proofs.Common.{Some, None, cond, refl, ap, sym, subst, arith}
use Rattle.std.specs.List.{insert, remove, position_or_len}
use Rattle.std.specs.Prelude.{IsSome, if◌then◌else◌}
use Rattle.std.proofs.lemmas.Bool.{lt-ltb}
use Rattle.std.proofs.lemmas.List.Quantifiers.{position-Some}
use Rattle.rows_model.specs.declared.keys.QKey.{QKey}
use Rattle.rows_model.specs.Key.{same_key}
use Rattle.key_shard.specs.Permit.{Permit}
use Rattle.conn_server.specs.Clients.{grant_on, grants_but}

-- the first grant on a key stands at this place
pub record StandsAt (key : QKey) (grants : List Permit) (place : ℕ) : Type 0 where
  pub within : place < length grants
  pub grant : slice_get grants place ≡ grant_on key grants
  pub others : remove grants place ≡ grants_but key grants

first_at : (key : QKey) (grants : List Permit) (place : ℕ) (d : Permit) → place < length grants
    → same_key (get_or grants place d).key key ≡ true
    → ((k : ℕ) → k < place → same_key (get_or grants k d).key key ≡ false)
    → StandsAt key grants place
first_at key [] place d within here before = absurd (omega arith)
first_at key (grant ∷ grants) zero d within here before =
    record { within = within; grant = rw here refl; others = rw here refl }
first_at key (grant ∷ grants) (suc place) d within here before =
    let rest = first_at key grants place d (omega arith) here (λ k lt. before (suc k) (omega arith)) in
    let apart = before zero (omega arith) in
    record {
      within = within;
      grant = rw apart rest.grant;
      others = rw apart (ap (λ (l : List Permit). grant ∷ l) rest.others);
    }

-- the place that is found is that of the first grant on the key
pub found_at : (key : QKey) (grants : List Permit) (place : ℕ) (d : Permit)
    → position (λ (grant : Permit). same_key grant.key key) grants ≡ Some place → StandsAt key grants place
found_at key grants place d e =
    let found = position-Some (λ (grant : Permit). same_key grant.key key) grants place d e in
    first_at key grants place d found.0 found.1 found.2

-- a grant that is put back where it was taken out
pub insert-remove : (grants : List Permit) (place : ℕ) (grant : Permit) → slice_get grants place ≡ Some grant
    → insert (remove grants place) place grant ≡ grants
insert-remove [] place grant e = cc
insert-remove (first ∷ grants) zero grant e = cc
insert-remove (first ∷ grants) (suc place) grant e = ap (λ (l : List Permit). first ∷ l) (insert-remove grants place grant e)

-- where a grant on the key is held, some place has the first of them
within_by : (test : Bool) (key : QKey) (first : Permit) (grants : List Permit) (grant : Permit) → same_key first.key key ≡ test
    → (grant_on key grants ≡ Some grant → position_or_len (λ (other : Permit). same_key other.key key) grants < length grants)
    → (if test then Some first else grant_on key grants) ≡ Some grant
    → position_or_len (λ (other : Permit). same_key other.key key) (first ∷ grants) < length (first ∷ grants)
within_by true key first grants grant is rest e = rw is (omega arith)
within_by false key first grants grant is rest e = let more = rest e in rw is (omega arith)

within_first : (key : QKey) (grants : List Permit) (grant : Permit) → grant_on key grants ≡ Some grant
    → position_or_len (λ (other : Permit). same_key other.key key) grants < length grants
within_first key [] grant e = cc
within_first key (first ∷ grants) grant e = within_by (same_key first.key key) key first grants grant refl (within_first key grants grant) e

pub some_place : (key : QKey) (grants : List Permit) (grant : Permit) → grant_on key grants ≡ Some grant
    → IsSome (position (λ (other : Permit). same_key other.key key) grants)
some_place key grants grant e =
    let place = position_or_len (λ (other : Permit). same_key other.key key) grants in
    let within = lt-ltb place (length grants) (within_first key grants grant e) in
    subst (λ (b : Bool). IsSome (cond b (Some place) None)) (sym within) refl

-- no place has one where none is held
none_by : (found : Option Permit) (key : QKey) (grants : List Permit) → grant_on key grants ≡ found
    → position (λ (other : Permit). same_key other.key key) grants ≡ None → found ≡ None
none_by None key grants is none = refl
none_by (Some grant) key grants is none =
    let some = subst (λ (place : Option ℕ). IsSome place) none (some_place key grants grant is) in
    cc

pub none_held : (key : QKey) (grants : List Permit) → position (λ (other : Permit). same_key other.key key) grants ≡ None → grant_on key grants ≡ None
none_held key grants none = none_by (grant_on key grants) key grants refl none
