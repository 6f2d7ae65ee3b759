-- The test of two keys tells whether they are one.
use Rattle.std.proofs.Common.{◌≡◌, ℕ, zero, suc, true, ◌==◌, refl, sym, ap, ◌∙◌, subst, Decides}
use Rattle.std.proofs.lemmas.Bool.{eqb-true, eq-eqb, and_parts, and_from}
use Rattle.std.proofs.lemmas.Bool.Decides.{same_from_decides}
use Rattle.rows_model.specs.declared.keys.Kind.{Kind}
use Rattle.rows_model.specs.declared.keys.Kind.TheVariants.{Profile, Friends, Pending, NFriends, NPending, Blocked}
use Rattle.rows_model.specs.declared.keys.QKey.{QKey}
use Rattle.rows_model.specs.Key.{kind_number, same_key}

-- the kind at a place in the order of keys
kind_at : ℕ → Kind
kind_at zero = Profile
kind_at (suc zero) = Friends
kind_at (suc (suc zero)) = Pending
kind_at (suc (suc (suc zero))) = NFriends
kind_at (suc (suc (suc (suc zero)))) = NPending
kind_at (suc (suc (suc (suc (suc n))))) = Blocked

kind_at-number : (k : Kind) → kind_at (kind_number k) ≡ k
unfolding kind_at
kind_at-number Profile = refl
kind_at-number Friends = refl
kind_at-number Pending = refl
kind_at-number NFriends = refl
kind_at-number NPending = refl
kind_at-number Blocked = refl

same_kind : (a b : Kind) → kind_number a ≡ kind_number b → a ≡ b
same_kind a b e = sym (kind_at-number a) ∙ ap kind_at e ∙ kind_at-number b

same_parts : (a b : QKey) → a.kind ≡ b.kind → a.id ≡ b.id → a ≡ b
same_parts a b kinds ids = λ i. record { kind = kinds i; id = ids i }

pub same_key-true : (a b : QKey) → same_key a b ≡ true → a ≡ b
same_key-true a b e =
    let parts = and_parts (kind_number a.kind == kind_number b.kind) (a.id == b.id) e in
    same_parts a b (same_kind a.kind b.kind (eqb-true _ _ parts.0)) (eqb-true _ _ parts.1)

pub same_key-refl : (a : QKey) → same_key a a ≡ true
same_key-refl a = and_from _ _ (eq-eqb (kind_number a.kind) (kind_number a.kind) refl) (eq-eqb a.id a.id refl)

-- the test of keys tells whether they are equal
pub Decides-same_key : (a b : QKey) → Decides (same_key a b) (a ≡ b)
Decides-same_key a b = (same_key-true a b, λ e. subst (λ (k : QKey). same_key a k ≡ true) e (same_key-refl a))

pub same_key-swap : (a b : QKey) → same_key a b ≡ same_key b a
same_key-swap a b =
    same_from_decides (same_key a b) (same_key b a) (Decides-same_key a b) ((λ e. sym (same_key-true b a e)), (λ e. (Decides-same_key b a).1 (sym e)))
