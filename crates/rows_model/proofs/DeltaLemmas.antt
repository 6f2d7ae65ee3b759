-- A count before changes, shifted by what they add, is the count after them; the changes add nothing to a key that is no count.
use Rattle.std.proofs.Common.{ℕ, ◌+◌, ◌-◌, ◌<◌, ◌≡◌, ◌^◌, ℤ, pos, negsuc, ◌+ℤ◌, true, false, List, [], ◌∷◌, map, fold, decimal, All, Option}
use Rattle.std.proofs.Common.{Some, None, Ok, refl, sym, ap, ◌∙◌, arith}
use Rattle.std.specs.Prelude.{nat_lt, option_map}
use Rattle.std.proofs.lemmas.Bool.Decides.{nat_tests}
use Rattle.std.proofs.lemmas.Int.{ints}
use Rattle.std.proofs.lemmas.List.Folds.{fold_along}
use Rattle.std.proofs.lemmas.Option.{same_Some}
use Rattle.rows_model.specs.declared.keys.Kind.{Kind}
use Rattle.rows_model.specs.declared.keys.Kind.TheVariants.{Profile, Friends, Pending, NFriends, NPending, Blocked}
use Rattle.rows_model.specs.declared.keys.QKey.{QKey}
use Rattle.rows_model.specs.declared.changes.Change.{Change}
use Rattle.rows_model.specs.declared.refreshing.Circle.{Circle}
use Rattle.rows_model.specs.declared.refreshing.Circle.TheVariants.{Befriended, Inviting}
use Rattle.rows_model.specs.declared.refreshing.IdStep.{IdStep}
use Rattle.rows_model.specs.declared.refreshing.IdStep.TheVariants.{Stay, Put, Take}
use Rattle.rows_model.specs.Rows.{Tables, Fit}
use Rattle.rows_model.specs.Query.{answer, answer_of}
use Rattle.rows_model.specs.Changes.{HasIds, changed, apply_from, apply_all}
use Rattle.rows_model.specs.Refresh.{step_in, counted, after_all}
use Rattle.rows_model.specs.Shift.{moved_by, number_in, shifted}
use Rattle.rows_model.specs.Delta.{is_counting, is_count, step_by, sum_of, delta_by, delta_of}
use Rattle.rows_model.specs.DeltaIsAnswer.{DeltaIsAnswer}
use Rattle.rows_model.proofs.StayFitLemmas.{Fit-apply_all}
use Rattle.rows_model.proofs.ShiftLemmas.{number_in-decimal, some_parts}
use Rattle.rows_model.proofs.RefreshStepLemmas.{count_of, few_ids, step_counted}
use Rattle.rows_model.proofs.RefreshLawLemmas.{law_from}

-- a step adds what it adds
step_adds : (step : IdStep) (n m : ℕ) → counted step n ≡ Some m → pos n +ℤ step_by step ≡ pos m
step_adds Stay n m e = let same = same_Some n m e in omega (arith, ints)
step_adds (Put id) n m e = let parts = some_parts (nat_lt (n + 1) (2 ^ 32)) (n + 1) m e in omega (arith, ints)
step_adds (Take id) n m e =
    let parts = some_parts (nat_lt 0 n) (n - 1) m e in
    let some : 0 < n = grind (arith, nat_tests) in
    omega (arith, ints)

-- a sum and what a change adds to it
abbrev added : Circle → ℕ → Change → ℤ → Option ℤ
added circle id change sum = Some (sum +ℤ step_by (step_in circle id change))

-- what changes add one after the other, they add together
all_added : (f : Change → ℤ) (changes : List Change) (sum : ℤ) → after_all (λ change z. Some (z +ℤ f change)) changes sum ≡ Some (fold ◌+ℤ◌ sum (map f changes))
all_added f [] sum = refl
all_added f (change ∷ changes) sum = all_added f changes (sum +ℤ f change)

-- a sum from a number on is that number and the sum from 0 on
sum_from : (n : ℤ) (xs : List ℤ) → fold ◌+ℤ◌ n xs ≡ n +ℤ fold ◌+ℤ◌ (pos 0) xs
sum_from n xs = fold_along ◌+ℤ◌ ◌+ℤ◌ (λ a b. a ≡ n +ℤ b) (λ a b x e. omega (arith, ints)) n (pos 0) xs (omega (arith, ints))

-- the count of a circle and what changes add to it are its count after them
count_moves : (circle : Circle) (id place : ℕ) (changes : List Change) (t after : Tables) → Fit t → All HasIds changes
    → apply_from place changes t ≡ Ok after → pos (count_of circle id t) +ℤ sum_of circle id changes ≡ pos (count_of circle id after)
count_moves circle id place changes t after fit ids e =
    let f : Change → ℤ = λ change. step_by (step_in circle id change) in
    let walked = law_from (added circle id) (λ u. pos (count_of circle id u))
    (λ change u good has takes. ap (λ (z : ℤ). Some z)
    (step_adds (step_in circle id change) (count_of circle id u) (count_of circle id (changed change u)) (step_counted circle id change u good has takes)))
    place changes t after fit ids e in
    sym (sum_from (pos (count_of circle id t)) (map f changes)) ∙ same_Some _ _ (sym (all_added f changes (pos (count_of circle id t))) ∙ walked)

-- a number to which an integer adds up, below 2^64, is where that integer moves to
moved_to : (by : ℤ) (n m : ℕ) → pos n +ℤ by ≡ pos m → m < 2 ^ 64 → moved_by by n ≡ m
moved_to (pos by) n m e small = let sum : n + by ≡ m = omega (arith, ints) in omega (arith, sum)
moved_to (negsuc by) n m e small = omega (arith, ints)

-- the text of a circle's count, shifted by what changes add
count_shifted : (circle : Circle) (id : ℕ) (changes : List Change) (t after : Tables) → Fit t → All HasIds changes → apply_all changes t ≡ Ok after
    → option_map decimal (shifted (decimal (count_of circle id t)) (sum_of circle id changes)) ≡ Some (decimal (count_of circle id after))
unfolding apply_all shifted
count_shifted circle id changes t after fit ids e =
    let by = sum_of circle id changes in
    let few = few_ids circle id t fit in
    let few_after = few_ids circle id after (Fit-apply_all changes t after fit ids e) in
    let read : number_in (decimal (count_of circle id t)) ≡ Some (count_of circle id t) = number_in-decimal (count_of circle id t) (omega (arith, few)) in
    let moved : moved_by by (count_of circle id t) ≡ count_of circle id after =
    moved_to by (count_of circle id t) (count_of circle id after) (count_moves circle id 0 changes t after fit ids e) (omega (arith, few_after)) in
    ap (λ (o : Option ℕ). option_map decimal (option_map (moved_by by) o)) read ∙ ap (λ (n : ℕ). Some (decimal n)) moved

kind_shifted : (kind : Kind) (id : ℕ) (changes : List Change) (t after : Tables) → is_counting kind ≡ true → Fit t → All HasIds changes
    → apply_all changes t ≡ Ok after
    → option_map decimal (shifted (answer_of kind id t) (delta_by kind id changes)) ≡ Some (answer_of kind id after)
kind_shifted Profile id changes t after counts fit ids e = absurd cc
kind_shifted Friends id changes t after counts fit ids e = absurd cc
kind_shifted Pending id changes t after counts fit ids e = absurd cc
kind_shifted NFriends id changes t after counts fit ids e = count_shifted Befriended id changes t after fit ids e
kind_shifted NPending id changes t after counts fit ids e = count_shifted Inviting id changes t after fit ids e
kind_shifted Blocked id changes t after counts fit ids e = absurd cc

-- the law
pub delta_shifts : DeltaIsAnswer
unfolding answer delta_of
delta_shifts key changes before after counts fit ids e = kind_shifted key.kind key.id changes before after counts fit ids e

mapped : {A : Type 0} (f : List ℕ → A) (o : Option ℕ) (text : List ℕ) → option_map decimal o ≡ Some text → option_map (λ n. f (decimal n)) o ≡ Some (f text)
mapped f (Some n) text e = ap (λ (t : List ℕ). Some (f t)) (same_Some (decimal n) text e)
mapped f None text e = absurd cc

-- the same where the count is put in something, as in an entry beside a stamp
pub delta_shifts_in : {A : Type 0} (f : List ℕ → A) (key : QKey) (changes : List Change) (before after : Tables) → is_count key ≡ true
    → Fit before → All HasIds changes → apply_all changes before ≡ Ok after
    → option_map (λ n. f (decimal n)) (shifted (answer key before) (delta_of key changes)) ≡ Some (f (answer key after))
delta_shifts_in f key changes before after counts fit ids e =
    mapped f (shifted (answer key before) (delta_of key changes)) (answer key after) (delta_shifts key changes before after counts fit ids e)

nothing_by : (kind : Kind) (id : ℕ) (changes : List Change) → is_counting kind ≡ false → delta_by kind id changes ≡ pos 0
nothing_by Profile id changes none = refl
nothing_by Friends id changes none = refl
nothing_by Pending id changes none = refl
nothing_by NFriends id changes none = absurd cc
nothing_by NPending id changes none = absurd cc
nothing_by Blocked id changes none = refl

-- changes add nothing to a key that is no count
pub delta_of-no_count : (key : QKey) (changes : List Change) → is_count key ≡ false → delta_of key changes ≡ pos 0
unfolding delta_of
delta_of-no_count key changes none = nothing_by key.kind key.id changes none
