-- The order of keys.
use Rattle.std.proofs.Common.{◌≡◌, ℕ, true, sym, refl, ap, subst, ◌∙◌, arith}
use Rattle.std.specs.Prelude.{◌==◌, ◌&&◌}
use Rattle.std.specs.declared.cmp.Ordering.{Ordering}
use Rattle.std.specs.Ordering.{ordering_then, nat_cmp, is_eq, eq_by_cmp}
use Rattle.std.specs.BTreeMap.{is_at}
use Rattle.std.specs.Cmp.{IsTotalOrder, IsEquivalence, nat_cmp_total, then_total, on_total, eq_by_cmp_equiv, tied_then, unsigned_tied}
use Rattle.std.proofs.lemmas.Bool.Decides.{nat_tests}
use Rattle.rows_model.specs.declared.keys.Kind.{Kind}
use Rattle.rows_model.specs.declared.keys.Kind.TheVariants.{Profile, Friends, Pending, NFriends, NPending, Blocked}
use Rattle.rows_model.specs.declared.keys.QKey.{QKey}
use Rattle.rows_model.specs.Key.{same_key, kind_number}
use Rattle.lease_table.specs.Standing.{key_cmp}

-- what two keys that are one have in common
pub record SameKey (a b : QKey) : Type 0 where
  pub kinds : kind_number a.kind ≡ kind_number b.kind
  pub ids : a.id ≡ b.id

pub SameKey-from_test : (a b : QKey) → same_key a b ≡ true → SameKey a b
SameKey-from_test a b e = record { kinds = grind (arith, nat_tests); ids = grind (arith, nat_tests) }

-- two keys that are one are the same to any other
pub same_key-left : (a b x : QKey) → same_key a b ≡ true → same_key a x ≡ same_key b x
same_key-left a b x e = let h = SameKey-from_test a b e in rw (h.kinds, h.ids) refl

-- keys are in order of kind, and then of id
abbrev pub rank_cmp : QKey → QKey → Ordering
rank_cmp a b = ordering_then (nat_cmp (kind_number a.kind) (kind_number b.kind)) (nat_cmp a.id b.id)

key_cmp-ranks : (k l : Kind) (i j : ℕ)
    → key_cmp (record { kind = k; id = i }) (record { kind = l; id = j }) ≡ rank_cmp (record { kind = k; id = i }) (record { kind = l; id = j })
key_cmp-ranks Profile Profile i j = refl
key_cmp-ranks Profile Friends i j = refl
key_cmp-ranks Profile Pending i j = refl
key_cmp-ranks Profile NFriends i j = refl
key_cmp-ranks Profile NPending i j = refl
key_cmp-ranks Profile Blocked i j = refl
key_cmp-ranks Friends Profile i j = refl
key_cmp-ranks Friends Friends i j = refl
key_cmp-ranks Friends Pending i j = refl
key_cmp-ranks Friends NFriends i j = refl
key_cmp-ranks Friends NPending i j = refl
key_cmp-ranks Friends Blocked i j = refl
key_cmp-ranks Pending Profile i j = refl
key_cmp-ranks Pending Friends i j = refl
key_cmp-ranks Pending Pending i j = refl
key_cmp-ranks Pending NFriends i j = refl
key_cmp-ranks Pending NPending i j = refl
key_cmp-ranks Pending Blocked i j = refl
key_cmp-ranks NFriends Profile i j = refl
key_cmp-ranks NFriends Friends i j = refl
key_cmp-ranks NFriends Pending i j = refl
key_cmp-ranks NFriends NFriends i j = refl
key_cmp-ranks NFriends NPending i j = refl
key_cmp-ranks NFriends Blocked i j = refl
key_cmp-ranks NPending Profile i j = refl
key_cmp-ranks NPending Friends i j = refl
key_cmp-ranks NPending Pending i j = refl
key_cmp-ranks NPending NFriends i j = refl
key_cmp-ranks NPending NPending i j = refl
key_cmp-ranks NPending Blocked i j = refl
key_cmp-ranks Blocked Profile i j = refl
key_cmp-ranks Blocked Friends i j = refl
key_cmp-ranks Blocked Pending i j = refl
key_cmp-ranks Blocked NFriends i j = refl
key_cmp-ranks Blocked NPending i j = refl
key_cmp-ranks Blocked Blocked i j = refl

pub key_cmp-rank : (a b : QKey) → key_cmp a b ≡ rank_cmp a b
key_cmp-rank a b = key_cmp-ranks a.kind b.kind a.id b.id

rank_order : IsTotalOrder rank_cmp
rank_order = then_total (on_total (λ (key : QKey). kind_number key.kind) nat_cmp_total) (on_total (λ (key : QKey). key.id) nat_cmp_total)

pub key_order : IsTotalOrder key_cmp
key_order = subst IsTotalOrder (λ i a b. sym (key_cmp-rank a b) i) rank_order

pub key_equivalence : IsEquivalence (eq_by_cmp key_cmp)
key_equivalence = eq_by_cmp_equiv key_order

-- the map finds a key by the test whether two keys are one
tied-ranks : (m n p q : ℕ) → is_eq (ordering_then (nat_cmp m n) (nat_cmp p q)) ≡ ((m == n) && (p == q))
tied-ranks m n p q = sym (tied_then (nat_cmp m n) (nat_cmp p q)) ∙ (λ i. unsigned_tied m n i && unsigned_tied p q i)

pub is_at-key : (a b : QKey) → is_at (key_cmp a) b ≡ same_key a b
is_at-key a b = ap is_eq (key_cmp-rank a b) ∙ tied-ranks (kind_number a.kind) (kind_number b.kind) a.id b.id
