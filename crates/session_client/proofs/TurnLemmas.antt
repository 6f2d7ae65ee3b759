-- What a list is after the grant at a place was taken out, and put back or spent.
use Rattle.std.proofs.Common.{◌≡◌, ◌+◌, ◌<◌, ◌≤◌, ℕ, zero, suc, true, List, [], ◌∷◌, ◌++◌, length, map, drop, set}
use Rattle.std.proofs.Common.{Option, Some, None, slice_get, refl, ap, sym, subst, ◌∙◌, arith, append-nil}
use Rattle.std.proofs.Common.{cond}
use Rattle.std.specs.List.{insert, remove}
use Rattle.std.proofs.lemmas.List.Elements.{All-drop, All-push}
use Rattle.std.proofs.lemmas.List.Sums.{sum_by-cons}
use Rattle.session_client.specs.Follows.{RaiseAwaits, RenewAwaits}
use Rattle.session_client.specs.Wants.{Given, is_turn, turned}
use Rattle.session_client.specs.Writers.{old_value}
use Rattle.session_client.specs.declared.replies.Reply.{Reply}
use Rattle.key_shard.specs.Permit.{Permit}
use Rattle.lease_table.specs.declared.records.Mode.TheVariants as modes
use Rattle.lease_table.specs.declared.records.Mode.{Mode}
use Rattle.rows_model.specs.declared.keys.QKey.{QKey}
use Rattle.session_client.specs.Plans.{mode_on}
use Rattle.session_client.specs.Writers.{AreFor, AreToInvalidate, Suits}
use Rattle.session_client.specs.declared.stages.Next.{Next}
use Rattle.session_client.specs.declared.stages.Next.TheVariants as nexts

some_same : {X : Type 0} {a b : X} → Some a ≡ Some b → a ≡ b
some_same e = cc

-- the same one put back leaves the list as it was
pub back_same : {X : Type 0} (xs : List X) (i : ℕ) (x : X) → slice_get xs i ≡ Some x → insert (remove xs i) i x ≡ xs
back_same [] i x e = cc
back_same (y ∷ xs) zero x e = ap (λ z. z ∷ xs) (sym (some_same e))
back_same (y ∷ xs) (suc i) x e = ap (λ l. y ∷ l) (back_same xs i x e)

-- another put back stands in its place
pub back_other : {X : Type 0} (xs : List X) (i : ℕ) (x : X) → i < length xs → insert (remove xs i) i x ≡ set xs i x
back_other [] i x less = absurd (omega (arith, less))
back_other (y ∷ xs) zero x less = refl
back_other (y ∷ xs) (suc i) x less = ap (λ l. y ∷ l) (back_other xs i x (omega (arith, less)))

pub map_set : {X Y : Type 0} (f : X → Y) (xs : List X) (i : ℕ) (x : X) → map f (set xs i x) ≡ set (map f xs) i (f x)
map_set f [] i x = refl
map_set f (y ∷ xs) zero x = refl
map_set f (y ∷ xs) (suc i) x = ap (λ l. f y ∷ l) (map_set f xs i x)

pub map_remove : {X Y : Type 0} (f : X → Y) (xs : List X) (i : ℕ) → map f (remove xs i) ≡ remove (map f xs) i
map_remove f [] zero = refl
map_remove f [] (suc i) = refl
map_remove f (y ∷ xs) zero = refl
map_remove f (y ∷ xs) (suc i) = ap (λ l. f y ∷ l) (map_remove f xs i)

-- behind the place of one that was taken out stands what stood behind it
rest_of : {X : Type 0} (xs : List X) (i : ℕ) → drop i (remove xs i) ≡ drop (suc i) xs
rest_of [] zero = refl
rest_of [] (suc i) = refl
rest_of (y ∷ xs) zero = refl
rest_of (y ∷ xs) (suc i) = rest_of xs i

rest_back : {X : Type 0} (xs : List X) (i : ℕ) (x : X) → i ≤ length xs → drop (suc i) (insert xs i x) ≡ drop i xs
rest_back [] zero x h = refl
rest_back [] (suc i) x h = absurd (omega (arith, h))
rest_back (y ∷ xs) zero x h = refl
rest_back (y ∷ xs) (suc i) x h = rest_back xs i x (omega (arith, h))

drop_suc : {X : Type 0} (xs : List X) (n : ℕ) → drop 1 (drop n xs) ≡ drop (suc n) xs
drop_suc [] zero = refl
drop_suc [] (suc n) = refl
drop_suc (x ∷ xs) zero = refl
drop_suc (x ∷ xs) (suc n) = drop_suc xs n

suc-plus : (n : ℕ) → suc n ≡ n + 1
suc-plus n = omega arith

-- a grant that is to be raised is to invalidate, and so is each behind it
pub first_invalid : (grants : List Permit) (i : ℕ) (grant : Permit) → AreToInvalidate (drop i grants) → slice_get grants i ≡ Some grant
    → grant.mode ≡ modes.Invalidate
first_invalid [] i grant h e = cc
first_invalid (other ∷ grants) zero grant h e = ap (λ (g : Permit). g.mode) (sym (some_same e)) ∙ h 0 other (omega arith)
first_invalid (other ∷ grants) (suc i) grant h e = first_invalid grants i grant h e

abbrev IsInvalid : Permit → Type 0
IsInvalid grant = grant.mode ≡ modes.Invalidate

pub taken_invalid : (grants : List Permit) (i : ℕ) → AreToInvalidate (drop i grants) → AreToInvalidate (drop i (remove grants i))
taken_invalid grants i h =
    subst AreToInvalidate (drop_suc grants i ∙ sym (rest_of grants i)) (All-drop IsInvalid 1 (drop i grants) h)

pub back_invalid : (grants : List Permit) (i : ℕ) (grant : Permit) → i ≤ length grants → AreToInvalidate (drop i grants)
    → AreToInvalidate (drop (i + 1) (insert grants i grant))
back_invalid grants i grant h rest =
    subst AreToInvalidate (sym (rest_back grants i grant h) ∙ ap (λ n. drop n (insert grants i grant)) (suc-plus i)) rest

pub more_invalid : (grants : List Permit) (grant : Permit) → AreToInvalidate grants → grant.mode ≡ modes.Invalidate → AreToInvalidate (grants ++ grant ∷ [])
more_invalid grants grant all e = All-push IsInvalid grants grant all e

-- a new grant of a writer that is to raise is to invalidate
pub for_more : (next : Next) (mode : Mode) (key : QKey) (grants : List Permit) (grant : Permit)
    → Suits next mode → grant.mode ≡ mode_on mode key → AreFor next grants → AreFor next (grants ++ grant ∷ [])
for_more nexts.Raise mode key grants grant is e h = more_invalid grants grant h (e ∙ ap (λ (m : Mode). mode_on m key) is)
for_more nexts.Commit mode key grants grant is e h = tt
for_more (nexts.Look looked) mode key grants grant is e h = tt
for_more nexts.Quit mode key grants grant is e h = tt
for_more nexts.Renew mode key grants grant is e h = tt

-- a reply to a raise or a renewal is one of a grant that is there
pub record OfLent (at : Option Permit) (P : Permit → Type 0) : Type 0 where
  pub lent : Permit
  pub some : at ≡ Some lent
  pub awaits : P lent

pub raise_lent : (at : Option Permit) (reply : Reply) → RaiseAwaits at reply → OfLent at (λ lent. RaiseAwaits (Some lent) reply)
raise_lent (Some lent) reply h = record { lent = lent; some = refl; awaits = h }
raise_lent None reply h = elim h [ ]

pub renew_lent : (at : Option Permit) (reply : Reply) → RenewAwaits at reply → OfLent at (λ lent. RenewAwaits (Some lent) reply)
renew_lent (Some lent) reply h = record { lent = lent; some = refl; awaits = h }
renew_lent None reply h = elim h [ ]

-- the next place is one behind
pub turned_next : (reply : Reply) (heard : List Reply) (place : ℕ) → is_turn reply ≡ true → turned heard ≡ place → turned (reply ∷ heard) ≡ place + 1
turned_next reply heard place on e =
    sum_by-cons (λ (t : Reply). cond (is_turn t) 1 0) reply heard ∙ ap (λ b. cond b 1 0 + turned heard) on ∙ omega (arith, e)

-- a grant that was lent and came back is among the others as it was
pub same_items : (items grants : List Permit) (place : ℕ) (lent back : Permit)
    → items ≡ remove grants place → slice_get grants place ≡ Some lent → back ≡ lent → insert items place back ≡ grants ++ []
same_items items grants place lent back out at same =
    ap (λ l. insert l place back) out ∙ ap (λ (g : Permit). insert (remove grants place) place g) same
    ∙ back_same grants place lent at ∙ sym (append-nil grants)

pub same_values : (values : List (Option (List ℕ))) (ones : List Given) → values ≡ map old_value ones → values ≡ map old_value (ones ++ [])
same_values values ones e = e ∙ ap (λ l. map old_value l) (sym (append-nil ones))

-- one that was raised stands in its place
pub raised_items : (items grants : List Permit) (place turn : ℕ) (back : Permit)
    → items ≡ remove grants place → place < length grants → turn ≡ place → insert items place back ≡ set grants turn back ++ []
raised_items items grants place turn back out less e =
    ap (λ l. insert l place back) out ∙ back_other grants place back less ∙ ap (λ n. set grants n back) (sym e)
    ∙ sym (append-nil (set grants turn back))

pub raised_values : (values : List (Option (List ℕ))) (ones : List Given) (place turn : ℕ) (one : Given)
    → values ≡ map old_value ones → turn ≡ place → set values place (old_value one) ≡ map old_value (set ones turn one ++ [])
raised_values values ones place turn one e same =
    ap (λ l. set l place (old_value one)) e ∙ sym (map_set old_value ones place one)
    ∙ ap (λ n. map old_value (set ones n one)) (sym same) ∙ ap (λ l. map old_value l) (sym (append-nil (set ones turn one)))

-- one that is spent has left
pub spent_items : (items grants : List Permit) (place turn : ℕ) → items ≡ remove grants place → turn ≡ place → items ≡ remove grants turn ++ []
spent_items items grants place turn out e = out ∙ ap (λ n. remove grants n) (sym e) ∙ sym (append-nil (remove grants turn))

pub spent_values : (values : List (Option (List ℕ))) (ones : List Given) (place turn : ℕ)
    → values ≡ map old_value ones → turn ≡ place → remove values place ≡ map old_value (remove ones turn ++ [])
spent_values values ones place turn e same =
    ap (λ l. remove l place) e ∙ sym (map_remove old_value ones place)
    ∙ ap (λ n. map old_value (remove ones n)) (sym same) ∙ ap (λ l. map old_value l) (sym (append-nil (remove ones turn)))
