-- What a past with one step more shows, by that step and what the past showed.
use Rattle.std.proofs.Common.{ℕ, ◌≡◌, ◌+◌, Bool, true, false, not, cond, ◌&&◌, List, ◌∷◌, filter, is_some, inl, inr, refl, sym, ap, ◌∙◌, arith}
use Rattle.std.proofs.lemmas.Bool.{cases_Bool, cond-true, cond-false, false≢true}
use Rattle.std.proofs.lemmas.List.Elements.{filter_agree}
use Rattle.std.proofs.lemmas.List.Sums.{sum_by-cons}
use Rattle.rows_model.specs.declared.keys.QKey.{QKey}
use Rattle.rows_model.specs.declared.keys.Sid.{Sid}
use Rattle.rows_model.specs.Key.{same_key}
use Rattle.rows_model.proofs.SameKey.{same_key-true}
use Rattle.key_shard.specs.declared.steps.Ended.{Ended}
use Rattle.key_shard.specs.declared.steps.Ended.TheVariants.{Keep, Drop, Put, Shift}
use Rattle.key_shard.specs.declared.steps.Step.{Step}
use Rattle.key_shard.specs.declared.steps.Step.TheVariants.{Hit, Lease, Again, Own, Stored, Void, Granted, Held, Refused, Released, Gone, Raised, Shared, Renewed}
use Rattle.key_shard.specs.Past.{Terms, standing, recorded, entry, order, used, each_once, draws, next_token}
use Rattle.key_shard.specs.OneStep.{step_key, standing_after, recorded_after, entry_after, other_keys, order_after, order_ended, next_after, ReadersByOneStep}
use Rattle.key_shard.proofs.OrderLemmas.{filter-filter, filter_swap, order-hit, order-missed, order-put, order-ended}

-- of a step and what was there before: the quarantines, the lease to read, the entry
pub standing_by : (s : Step) (key : QKey) (past : List Step) → standing key (s ∷ past) ≡ standing_after s key (standing key past)
standing_by (Granted on sid mode shift now token deadline) key past = refl
standing_by (Released on sid token how) key past = refl
standing_by (Raised on sid token) key past = refl
standing_by (Renewed on sid token now deadline) key past = refl
standing_by s key past = refl

pub recorded_by : (s : Step) (key : QKey) (past : List Step) → recorded key (s ∷ past) ≡ recorded_after s key (recorded key past)
recorded_by (Granted on sid mode shift now token deadline) key past = refl
recorded_by s key past = refl

pub entry_by : (s : Step) (key : QKey) (past : List Step) → entry key (s ∷ past) ≡ entry_after s key (entry key past)
entry_by (Released on sid token how) key past = refl
entry_by s key past = refl

-- one token more where the step draws one
pub next_drawn : (terms : Terms) (s : Step) (past : List Step) → next_token terms (s ∷ past) ≡ next_token terms past + cond (draws s) 1 0
next_drawn terms s past = let one = sum_by-cons (λ x. cond (draws x) 1 0) s past in omega (arith, one)

-- the next token
pub next_by : (terms : Terms) (s : Step) (past : List Step) → next_token terms (s ∷ past) ≡ next_after s (next_token terms past)
next_by terms (Hit on sid floor value stamp) past = let e = next_drawn terms (Hit on sid floor value stamp) past in omega (arith, e)
next_by terms (Lease on sid floor now token deadline) past = next_drawn terms (Lease on sid floor now token deadline) past
next_by terms (Again on sid floor now stands) past = let e = next_drawn terms (Again on sid floor now stands) past in omega (arith, e)
next_by terms (Own on sid) past = let e = next_drawn terms (Own on sid) past in omega (arith, e)
next_by terms (Stored on token now value stamp evicted) past = let e = next_drawn terms (Stored on token now value stamp evicted) past in omega (arith, e)
next_by terms (Void on token now) past = let e = next_drawn terms (Void on token now) past in omega (arith, e)
next_by terms (Granted on sid mode shift now token deadline) past = next_drawn terms (Granted on sid mode shift now token deadline) past
next_by terms (Held on sid mode) past = let e = next_drawn terms (Held on sid mode) past in omega (arith, e)
next_by terms (Refused on sid mode holder held) past = let e = next_drawn terms (Refused on sid mode holder held) past in omega (arith, e)
next_by terms (Released on sid token how) past = let e = next_drawn terms (Released on sid token how) past in omega (arith, e)
next_by terms (Gone on sid token) past = let e = next_drawn terms (Gone on sid token) past in omega (arith, e)
next_by terms (Raised on sid token) past = let e = next_drawn terms (Raised on sid token) past in omega (arith, e)
next_by terms (Shared on sid token holder) past = let e = next_drawn terms (Shared on sid token holder) past in omega (arith, e)
next_by terms (Renewed on sid token now deadline) past = let e = next_drawn terms (Renewed on sid token now deadline) past in omega (arith, e)

-- a key that has no entry stands nowhere in the order
pub order-without : (past : List Step) (key : QKey) → is_some (entry key past) ≡ false → other_keys key (order past) ≡ order past
order-without past key none =
    filter-filter q p (each_once (used past)) ∙ filter_agree (λ k. p k && q k) p same (each_once (used past))
  where
    p : QKey → Bool
    p k = is_some (entry k past)

    q : QKey → Bool
    q other = not (same_key key other)

    same : (k : QKey) → (p k && q k) ≡ p k
    same k = by (same_key key k) refl (p k) refl
      where
        by : (b : Bool) → same_key key k ≡ b → (c : Bool) → p k ≡ c → (c && not b) ≡ c
        by true e true f = absurd (false≢true (sym none ∙ ap p (same_key-true key k e) ∙ f))
        by true e false f = refl
        by false e true f = refl
        by false e false f = refl

-- a hit brings its key to the front, if that has an entry
order-hit-any : (past : List Step) (on : QKey) (sid : Sid) (floor : ℕ) (value : List ℕ) (stamp : ℕ) →
    order (Hit on sid floor value stamp ∷ past) ≡ order_after (Hit on sid floor value stamp) (entry on past) (order past)
order-hit-any past on sid floor value stamp =
    elim (cases_Bool (is_some (entry on past))) [
      | inl some ↦ order-hit past on sid floor value stamp some ∙ sym (cond-true (is_some (entry on past)) (on ∷ other_keys on (order past)) (order past) some)
      | inr none ↦
          let keys = each_once (used past) in
          let p : QKey → Bool = λ k. is_some (entry k past) in
          let q : QKey → Bool = λ other. not (same_key on other) in
          cond-false (p on) (on ∷ filter p (filter q keys)) (filter p (filter q keys)) none
          ∙ filter_swap p q keys
          ∙ order-without past on none
          ∙ sym (cond-false (is_some (entry on past)) (on ∷ other_keys on (order past)) (order past) none)
    ]

-- the end of a quarantine that leaves the entries leaves their order
order-kept : (past : List Step) (on : QKey) (sid : Sid) (token : ℕ) → order (Released on sid token Keep ∷ past) ≡ order past
order-kept past on sid token =
    order-ended past on sid token Keep refl
    ∙ elim (cases_Bool (is_some (entry on past))) [
      | inl some ↦ cond-true (is_some (entry on past)) (order past) (other_keys on (order past)) some
      | inr none ↦ cond-false (is_some (entry on past)) (order past) (other_keys on (order past)) none ∙ order-without past on none
    ]

-- the end of a quarantine, each way
order-released : (past : List Step) (on : QKey) (sid : Sid) (token : ℕ) (how : Ended)
    → order (Released on sid token how ∷ past) ≡ order_ended how on (entry on past) (order past)
order-released past on sid token Keep = order-kept past on sid token
order-released past on sid token Drop = order-ended past on sid token Drop refl
order-released past on sid token (Put value stamp evicted) = order-put past on value stamp evicted
order-released past on sid token (Shift by stamp) = order-ended past on sid token (Shift by stamp) refl

-- the order of the entries
pub order_by : (s : Step) (past : List Step) → order (s ∷ past) ≡ order_after s (entry (step_key s) past) (order past)
order_by (Hit on sid floor value stamp) past = order-hit-any past on sid floor value stamp
order_by (Lease on sid floor now token deadline) past = order-missed past on
order_by (Again on sid floor now stands) past = order-missed past on
order_by (Stored on token now value stamp evicted) past = order-put past on value stamp evicted
order_by (Released on sid token how) past = order-released past on sid token how
order_by s past = refl

-- all of these, at each step
pub readers_by_one_step : ReadersByOneStep
readers_by_one_step terms s past = record {
  stands = λ key. standing_by s key past;
  reads = λ key. recorded_by s key past;
  entries = λ key. entry_by s key past;
  in_order = order_by s past;
  counted = next_by terms s past;
}
