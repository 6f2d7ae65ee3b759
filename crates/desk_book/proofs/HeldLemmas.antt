-- The grants that are held after a raise and after a release, by the place of the one that it is about.
use Rattle.std.proofs.Common.{ℕ, pos, zero, suc, ◌≡◌, ◌<◌, ◌≤◌, nat_lt, Bool, true, false, cond, List, [], ◌∷◌, length, set, Option, Some, None, get_or, position}
use Rattle.std.specs.List.{position_or_len}
use Rattle.std.proofs.Common.{refl, sym, ap, ◌∙◌, arith}
use Rattle.std.specs.List.{remove, Any, list_any, list_all}
use Rattle.std.specs.Prelude.{IsTrue, ◌↔◌, All}
use Rattle.std.proofs.lemmas.List.Folds.{Any-from_list_any, list_any-from_Any}
use Rattle.std.proofs.lemmas.Bool.Decides.{nat_tests}
use Rattle.std.proofs.lemmas.List.Sums.{fails_before_first, AllPass-from_list_all, list_all-from_AllPass}
use Rattle.std.proofs.lemmas.Option.{none-some}
use Rattle.std.proofs.lemmas.List.Quantifiers.{position-Some}
use Rattle.key_shard.specs.Permit.{Permit, same_permit}
use Rattle.key_shard.proofs.OutLemmas.{same_permit-true}
use Rattle.desk_book.specs.Books.{Held, raised, all_raised, all_but}
use Rattle.desk_book.proofs.PermitLemmas.{same_permit-equal}

-- whether a grant is raised to this one
abbrev pub is_raised_to : Permit → Held → Bool
is_raised_to permit one = same_permit (raised one.permit) permit

-- whether a grant says this
abbrev pub says : Permit → Held → Bool
says permit one = same_permit one.permit permit

raised-there : (permit : Permit) (old : Option (List ℕ × ℕ)) (held : List Held) (i : ℕ) (d : Held) → i < length held
    → is_raised_to permit (get_or held i d) ≡ true → ((k : ℕ) → k < i → is_raised_to permit (get_or held k d) ≡ false)
    → all_raised permit old held ≡ set held i (record { permit = permit; old = old; by = pos 0 })
raised-there permit old [] i d less here before = absurd (omega (arith, less))
raised-there permit old (one ∷ held) zero d less here before =
    ap (λ b. cond b (record { permit = permit; old = old; by = pos 0 } ∷ held) (one ∷ all_raised permit old held)) here
raised-there permit old (one ∷ held) (suc i) d less here before =
    ap (λ b. cond b (record { permit = permit; old = old; by = pos 0 } ∷ held) (one ∷ all_raised permit old held)) (before 0 (omega arith))
    ∙ ap (λ l. one ∷ l) (raised-there permit old held i d (omega (arith, less)) here (λ k lower. before (suc k) (omega (arith, lower))))

-- the first grant that is raised to this one is changed at its place
pub raised_first : (permit : Permit) (old : Option (List ℕ × ℕ)) (held : List Held) (i : ℕ) → position (is_raised_to permit) held ≡ Some i
    → all_raised permit old held ≡ set held i (record { permit = permit; old = old; by = pos 0 })
raised_first permit old [] i e = absurd (none-some i e)
raised_first permit old (one ∷ held) i e =
    let found = position-Some (is_raised_to permit) (one ∷ held) i one e in
    raised-there permit old (one ∷ held) i one found.0 found.1 found.2

spent-there : (permit : Permit) (held : List Held) (i : ℕ) (d : Held) → i < length held
    → says permit (get_or held i d) ≡ true → ((k : ℕ) → k < i → says permit (get_or held k d) ≡ false)
    → all_but permit held ≡ remove held i
spent-there permit [] i d less here before = absurd (omega (arith, less))
spent-there permit (one ∷ held) zero d less here before = ap (λ b. cond b held (one ∷ all_but permit held)) here
spent-there permit (one ∷ held) (suc i) d less here before =
    ap (λ b. cond b held (one ∷ all_but permit held)) (before 0 (omega arith))
    ∙ ap (λ l. one ∷ l) (spent-there permit held i d (omega (arith, less)) here (λ k lower. before (suc k) (omega (arith, lower))))

-- the first grant that says this is taken out at its place
pub spent_first : (permit : Permit) (held : List Held) (i : ℕ) → position (says permit) held ≡ Some i → all_but permit held ≡ remove held i
spent_first permit [] i e = absurd (none-some i e)
spent_first permit (one ∷ held) i e =
    let found = position-Some (says permit) (one ∷ held) i one e in
    spent-there permit (one ∷ held) i one found.0 found.1 found.2

-- where no element passes, each fails
none-below : {X : Type 0} (p : X → Bool) (xs : List X) → position p xs ≡ None → length xs ≤ position_or_len p xs
none-below p xs e = by (nat_lt (position_or_len p xs) (length xs)) refl
  where
    by : (b : Bool) → nat_lt (position_or_len p xs) (length xs) ≡ b → length xs ≤ position_or_len p xs
    by true t =
        absurd (none-some (position_or_len p xs) (sym e ∙ ap (λ b. cond b (Some (position_or_len p xs)) None) t))
    by false f = grind (arith, nat_tests)

none-passes : {X : Type 0} (p : X → Bool) (xs : List X) (d : X) → position p xs ≡ None → (k : ℕ) → k < length xs → p (get_or xs k d) ≡ false
none-passes p xs d e k less =
    let below = none-below p xs e in
    fails_before_first p xs k d (omega (arith, less, below))

raised-kept : (permit : Permit) (old : Option (List ℕ × ℕ)) (held : List Held) (d : Held)
    → ((k : ℕ) → k < length held → is_raised_to permit (get_or held k d) ≡ false) → all_raised permit old held ≡ held
raised-kept permit old [] d fails = refl
raised-kept permit old (one ∷ held) d fails =
    ap (λ b. cond b (record { permit = permit; old = old; by = pos 0 } ∷ held) (one ∷ all_raised permit old held)) (fails 0 (omega arith))
    ∙ ap (λ l. one ∷ l) (raised-kept permit old held d (λ k less. fails (suc k) (omega (arith, less))))

-- where none is raised to this one, none is changed
pub raised_none : (permit : Permit) (old : Option (List ℕ × ℕ)) (held : List Held) → position (is_raised_to permit) held ≡ None → all_raised permit old held ≡ held
raised_none permit old [] e = refl
raised_none permit old (one ∷ held) e =
    raised-kept permit old (one ∷ held) one (none-passes (is_raised_to permit) (one ∷ held) one e)

spent-kept : (permit : Permit) (held : List Held) (d : Held)
    → ((k : ℕ) → k < length held → says permit (get_or held k d) ≡ false) → all_but permit held ≡ held
spent-kept permit [] d fails = refl
spent-kept permit (one ∷ held) d fails =
    ap (λ b. cond b held (one ∷ all_but permit held)) (fails 0 (omega arith))
    ∙ ap (λ l. one ∷ l) (spent-kept permit held d (λ k less. fails (suc k) (omega (arith, less))))

-- where none says this, none is taken out
pub spent_none : (permit : Permit) (held : List Held) → position (says permit) held ≡ None → all_but permit held ≡ held
spent_none permit [] e = refl
spent_none permit (one ∷ held) e = spent-kept permit (one ∷ held) one (none-passes (says permit) (one ∷ held) one e)

-- a grant is held where the test of those that are held finds it
pub held_tested : (grant : Permit) (held : List Held)
    → IsTrue (list_any (λ (one : Held). same_permit one.permit grant) held) ↔ Any (λ (one : Held). one.permit ≡ grant) held
held_tested grant held = (
  λ t. let found = Any-from_list_any (λ (one : Held). same_permit one.permit grant) held t in
      (found.0, found.1, found.2, found.3, sym (same_permit-true found.1.permit grant found.4)),
  λ any. list_any-from_Any (λ (one : Held). same_permit one.permit grant) held
      (any.0, any.1, any.2, any.3, same_permit-equal any.1.permit grant any.4),
)

-- and so is each of a list
pub all_tested : (held : List Held) (grants : List Permit)
    → IsTrue (list_all (λ (grant : Permit). list_any (λ (one : Held). same_permit one.permit grant) held) grants)
    ↔ All (λ (grant : Permit). Any (λ (one : Held). one.permit ≡ grant) held) grants
all_tested held grants = (
  λ t k d less. (held_tested (get_or grants k d) held).0 (AllPass-from_list_all (λ (grant : Permit). list_any (λ (one : Held). same_permit one.permit grant) held) grants t k d less),
  λ all. list_all-from_AllPass (λ (grant : Permit). list_any (λ (one : Held). same_permit one.permit grant) held) grants
      (λ k d less. (held_tested (get_or grants k d) held).1 (all k d less)),
)
