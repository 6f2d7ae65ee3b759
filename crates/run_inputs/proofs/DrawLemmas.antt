-- What a generator draws, one word after another, and what a session's draws give.
use Rattle.std.proofs.Common.{ℕ, zero, suc, ◌+◌, ◌^◌, ◌≤◌, ◌<◌, ◌≡◌, Bool, true, false, [], ◌∷◌, ◌++◌, decimal, refl}
use Rattle.std.proofs.Common.{sym, ap, ◌∙◌, arith, zero-add, add-zero, suc-add}
use Rattle.std.specs.Prelude.{nat_le, if◌then◌else◌, codes}
use Rattle.std.proofs.lemmas.List.Elements.{All-cons}
use Rattle.rand_pcg.specs.Lcg.{Lcg, started, next, increment_of, state_after, next_state}
use Rattle.rand_pcg.specs.Pcg.{multiplier_64, pcg32}
use Rattle.rows_model.specs.Name.{IsName}
use Rattle.rows_model.specs.Changes.{HasIds, IsTxn}
use Rattle.rows_model.specs.declared.changes.Change.{Change}
use Rattle.rows_model.proofs.NameLemmas.{IsName-numbered}
use Rattle.session_client.specs.Plans.{IsPlan}
use Rattle.run_inputs.specs.Loads.{generator_of, after_draws, draw_after, draws_after, change_drawn, plan_drawn}

-- steps of a congruential generator after steps
steps_more : (w m p k n s : ℕ) → state_after w m p n (state_after w m p k s) ≡ state_after w m p (k + n) s
unfolding state_after
steps_more w m p zero n s = rw zero-add refl
steps_more w m p (suc k) n s = rw suc-add (steps_more w m p k n (next_state w m p s))

-- the generator at the start
pub generator_is : (seed : ℕ) → started 64 multiplier_64 seed (increment_of 64 1) ≡ generator_of seed
unfolding generator_of
generator_is seed = refl

-- no draw leaves it as it is
pub after_none : (g : Lcg) → after_draws 0 g ≡ g
unfolding after_draws state_after
after_none g = refl

-- draws after draws
pub after_more : (k n : ℕ) (g : Lcg) → after_draws n (after_draws k g) ≡ after_draws (k + n) g
unfolding after_draws
after_more k n g =
    ap (λ (s : ℕ). record { state = s; increment = g.increment }) (steps_more 64 multiplier_64 g.increment k n g.state)

-- one step is one draw
step_is : (g : Lcg) → next 64 multiplier_64 g ≡ after_draws 1 g
unfolding after_draws state_after
step_is g = refl

pub draw_more : (k n : ℕ) (g : Lcg) → draw_after n (after_draws k g) ≡ draw_after (k + n) g
unfolding draw_after
draw_more k n g = ap (λ (h : Lcg). (pcg32 h).0) (after_more k n g)

-- a draw is the word of the generator, and leaves it one draw further
pub drawn : (k word : ℕ) (g old new : Lcg) → old ≡ after_draws k g → (word, new) ≡ pcg32 old → (word ≡ draw_after k g) × (new ≡ after_draws (k + 1) g)
unfolding draw_after
drawn k word g old new e h =
    let word_is : word ≡ (pcg32 old).0 = ap (λ (p : ℕ × Lcg). p.0) h in
    let new_is : new ≡ (pcg32 old).1 = ap (λ (p : ℕ × Lcg). p.1) h in (
      word_is ∙ ap (λ (o : Lcg). (pcg32 o).0) e,
      new_is ∙ (ap (λ (o : Lcg). (pcg32 o).1) e ∙ (step_is (after_draws k g) ∙ after_more k 1 g)),
    )

-- the next four draws, after so many
pub draws_more : (k : ℕ) (g : Lcg) → draws_after 0 (after_draws k g) ≡ draws_after k g
draws_more k g =
    let first : draw_after 0 (after_draws k g) ≡ draw_after k g = draw_more k 0 g ∙ ap (λ (n : ℕ). draw_after n g) (add-zero k) in
    let second = draw_more k 1 g in
    let third = draw_more k 2 g in
    let last = draw_more k 3 g in
    cc

-- four draws, one after another
pub four_drawn : (g g₁ g₂ g₃ g₄ : Lcg) (roll first second manner : ℕ) → (roll, g₁) ≡ pcg32 g → (first, g₂) ≡ pcg32 g₁ → (second, g₃) ≡ pcg32 g₂
    → (manner, g₄) ≡ pcg32 g₃ → (record { roll = roll; first = first; second = second; manner = manner } ≡ draws_after 0 g) × (g₄ ≡ after_draws 4 g)
four_drawn g g₁ g₂ g₃ g₄ roll first second manner e₁ e₂ e₃ e₄ =
    let one = drawn 0 roll g g g₁ (sym (after_none g)) e₁ in
    let two = drawn 1 first g g₁ g₂ one.1 e₂ in
    let three = drawn 2 second g g₂ g₃ two.1 e₃ in
    let four = drawn 3 manner g g₃ g₄ three.1 e₄ in
    (cc (one.0, two.0, three.0, four.0), four.1)

-- a letter `n` and a number are a name
name_drawn : (n : ℕ) → n < 2 ^ 64 → IsName (codes "n" ++ decimal n)
name_drawn n small = IsName-numbered 110 n (omega arith, omega arith) small

-- by a test, one thing or another
by_test : {X : Type 0} (P : X → Type 0) (b : Bool) (x y : X) → P x → P y → P (if b then x else y)
by_test P true x y p q = p
by_test P false x y p q = q

-- the change of a writer has ids and a name
pub change_has_ids : (share a b : ℕ) → 1 ≤ a → 1 ≤ b → b < 2 ^ 64 → HasIds (change_drawn share a b)
change_has_ids share a b from_a from_b small =
    by_test HasIds (nat_le share 87) _ _ (from_a, from_b)
    (by_test HasIds (nat_le share 93) _ _ (from_a, from_b)
    (by_test HasIds (nat_le share 96) _ _ (from_a, from_b)
    (by_test HasIds (nat_le share 98) _ _ (from_a, from_b) (from_a, name_drawn b small))))

-- one change is a transaction
one_change : (change : Change) → HasIds change → IsTxn (change ∷ [])
one_change change has = record { some = omega arith; few = omega arith; ids = All-cons HasIds change [] has (λ k d l. absurd (omega arith)) }

-- the plan of a session is one that a session takes
pub plan_is_plan : (share a b manner : ℕ) → 1 ≤ a → 1 ≤ b → b < 2 ^ 64 → IsPlan (plan_drawn share a b manner)
plan_is_plan share a b manner from_a from_b small =
    by_test IsPlan (nat_le share 79) _ _ tt (one_change (change_drawn share a b) (change_has_ids share a b from_a from_b small))
