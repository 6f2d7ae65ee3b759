-- Places of a log, and what stays where more is known.
use Rattle.std.proofs.Common.{ℕ, zero, suc, ◌≡◌, ◌≤◌, ◌<◌, List, [], ◌∷◌, ◌++◌, length, length-append, take, Some, slice_get, refl, sym, ap}
use Rattle.std.proofs.Common.{subst, ◌∙◌, ◌⊎◌, inl, inr, ⊎_elim, append-nil, append_assoc, arith}
use Rattle.std.proofs.lemmas.Option.{slice_get_within}
use Rattle.rows_model.specs.declared.keys.QKey.{QKey}
use Rattle.sql_keeper.specs.declared.stores.Commit.{Commit}
use Rattle.key_freshness.specs.Marks.{Mark}
use Rattle.key_freshness.specs.Known.{Known, StandsAt, IsOver, IsMore, IsRuled}

pub stands-front : {X : Type 0} (xs ys : List X) (place : ℕ) (x : X) → slice_get xs place ≡ Some x → slice_get (xs ++ ys) place ≡ Some x
stands-front [] ys place x e = absurd cc
stands-front (y ∷ xs) ys zero x e = e
stands-front (y ∷ xs) ys (suc place) x e = stands-front xs ys place x e

pub stands-before : {X : Type 0} (xs ys : List X) (place : ℕ) (x : X) → slice_get (xs ++ ys) place ≡ Some x → place < length xs → slice_get xs place ≡ Some x
stands-before [] ys place x e lt = absurd (omega (arith, lt))
stands-before (y ∷ xs) ys zero x e lt = e
stands-before (y ∷ xs) ys (suc place) x e lt = stands-before xs ys place x e (omega (arith, lt))

-- what stands at a place after one more stood there before, or is the new one at the end
pub stands-pushed : {X : Type 0} (xs : List X) (y x : X) (place : ℕ)
    → slice_get (xs ++ y ∷ []) place ≡ Some x → (slice_get xs place ≡ Some x) ⊎ ((place ≡ length xs) × (y ≡ x))
stands-pushed [] y x zero e = inr (refl, cc)
stands-pushed [] y x (suc place) e = absurd cc
stands-pushed (z ∷ xs) y x zero e = inl e
stands-pushed (z ∷ xs) y x (suc place) e =
    ⊎_elim (λ h. inl h) (λ h. inr (let k = h.0 in omega (arith, k), h.1)) (stands-pushed xs y x place e)

-- something stands at each place before the end
pub stands-within : {X : Type 0} (xs : List X) (place : ℕ) → place < length xs → (x : X) × (slice_get xs place ≡ Some x)
stands-within [] place lt = absurd (omega (arith, lt))
stands-within (x ∷ xs) zero lt = (x, refl)
stands-within (x ∷ xs) (suc place) lt = stands-within xs place (omega (arith, lt))

pub take-front : {X : Type 0} (xs ys : List X) (n : ℕ) → n ≤ length xs → take n (xs ++ ys) ≡ take n xs
take-front [] ys zero le = refl
take-front [] ys (suc n) le = absurd (omega arith)
take-front (x ∷ xs) ys zero le = refl
take-front (x ∷ xs) ys (suc n) le = ap (λ l. x ∷ l) (take-front xs ys n (omega arith))

pub take-whole : {X : Type 0} (xs : List X) → take (length xs) xs ≡ xs
take-whole [] = refl
take-whole (x ∷ xs) = ap (λ l. x ∷ l) (take-whole xs)

pub more-refl : (known : Known) → IsMore known known
more-refl known = record { more = []; goes_on = sym (append-nil known.log); kept = λ who h. h }

pub more-trans : {a b c : Known} → IsMore a b → IsMore b c → IsMore a c
more-trans {a} {b} {c} first second = record {
  more = first.more ++ second.more;
  goes_on = second.goes_on ∙ ap (λ l. l ++ second.more) first.goes_on ∙ append_assoc a.log first.more second.more;
  kept = λ who h. second.kept who (first.kept who h);
}

pub more-length : {old new : Known} → IsMore old new → length old.log ≤ length new.log
more-length {old} {new} more = let e = ap (λ (l : List Commit). length l) more.goes_on in let k = length-append old.log more.more in omega (arith, e, k)

-- what stood in the log stands there still
pub more-stands : {old new : Known} → IsMore old new → (place : ℕ) (commit : Commit) → StandsAt old.log place commit → StandsAt new.log place commit
more-stands {old} {new} more place commit at =
    subst (λ l. StandsAt l place commit) (sym more.goes_on) (stands-front old.log more.more place commit at)

-- what stands within the old length stood there
pub more-stood : {old new : Known} → IsMore old new → (place : ℕ) (commit : Commit)
    → StandsAt new.log place commit → place < length old.log → StandsAt old.log place commit
more-stood {old} {new} more place commit at lt =
    stands-before old.log more.more place commit (subst (λ l. StandsAt l place commit) more.goes_on at) lt

-- no more commits than the old log has are the same
pub more-take : {old new : Known} → IsMore old new → (n : ℕ) → n ≤ length old.log → take n new.log ≡ take n old.log
more-take {old} {new} more n le = ap (λ l. take n l) more.goes_on ∙ take-front old.log more.more n le

-- a session that was over is over still
pub over-more : {old new : Known} → IsMore old new → (who : ℕ) → IsOver old who → IsOver new who
over-more {old} {new} more who (inl logged) =
    inl (record { place = logged.place; commit = logged.commit; at = more-stands more logged.place logged.commit logged.at; own = logged.own })
over-more {old} {new} more who (inr ended) = inr (more.kept who ended)

-- a commit that is known now, of a session that was over then, was known then
pub over-then : {old new : Known} (key : QKey) (marks : List Mark) → IsMore old new → IsRuled key marks new
    → (place : ℕ) (commit : Commit) → StandsAt new.log place commit → IsOver old commit.sid.number → place < length old.log
over-then {old} {new} key marks more ruled place commit at (inl logged) =
    let e = ruled.once place logged.place commit logged.commit at (more-stands more logged.place logged.commit logged.at) (sym logged.own) in
    let lt = slice_get_within old.log logged.place logged.commit logged.at in omega (arith, e, lt)
over-then {old} {new} key marks more ruled place commit at (inr ended) =
    absurd (ruled.apart place commit at (more.kept commit.sid.number ended))
