-- How the order of the entries changes with each kind of step.
use Rattle.std.proofs.Common.{◌≡◌, ℕ, Bool, true, false, not, cond, ◌&&◌, List, [], ◌∷◌, filter, Option, Some, None, is_some, inl, inr, refl, sym, ap, ◌∙◌}
use Rattle.std.proofs.lemmas.Bool.{cases_Bool}
use Rattle.std.proofs.lemmas.List.Elements.{filter_agree}
use Rattle.rows_model.specs.declared.keys.QKey.{QKey}
use Rattle.rows_model.specs.declared.keys.Sid.{Sid}
use Rattle.rows_model.specs.Key.{same_key}
use Rattle.rows_model.proofs.SameKey.{same_key-true, same_key-refl, same_key-swap}
use Rattle.key_shard.specs.declared.steps.Step.{Step}
use Rattle.key_shard.specs.declared.steps.Step.TheVariants.{Hit, Released}
use Rattle.key_shard.specs.declared.steps.Ended.{Ended}
use Rattle.key_shard.specs.declared.steps.Ended.TheVariants.{Keep, Drop, Put, Shift}
use Rattle.key_shard.specs.Past.{entry, entry_ended, order, used, each_once, is_evicted, is_put}

filter-cond : {X : Type 0} (p : X → Bool) (x : X) (b : Bool) (front rest : List X)
    → filter p front ≡ rest → filter p (cond b (x ∷ front) front) ≡ cond (b && p x) (x ∷ rest) rest
filter-cond p x true front rest h = ap (λ r. cond (p x) (x ∷ r) r) h
filter-cond p x false front rest h = h

-- two filters are one
pub filter-filter : {X : Type 0} (p q : X → Bool) (xs : List X) → filter p (filter q xs) ≡ filter (λ x. q x && p x) xs
filter-filter p q [] = refl
filter-filter p q (x ∷ xs) = filter-cond p x (q x) (filter q xs) (filter (λ y. q y && p y) xs) (filter-filter p q xs)

and_comm : (a b : Bool) → (a && b) ≡ (b && a)
and_comm true true = refl
and_comm true false = refl
and_comm false true = refl
and_comm false false = refl

-- filters may be swapped
pub filter_swap : {X : Type 0} (p q : X → Bool) (xs : List X) → filter p (filter q xs) ≡ filter q (filter p xs)
filter_swap p q xs = filter-filter p q xs ∙ filter_agree (λ x. q x && p x) (λ x. p x && q x) (λ x. and_comm (q x) (p x)) xs ∙ sym (filter-filter q p xs)

-- a hit brings its key to the front
pub order-hit : (past : List Step) (key : QKey) (sid : Sid) (floor : ℕ) (value : List ℕ) (stamp : ℕ) → is_some (entry key past) ≡ true →
    order (Hit key sid floor value stamp ∷ past) ≡ key ∷ filter (λ other. not (same_key key other)) (order past)
order-hit past key sid floor value stamp h =
    let keys = each_once (used past) in
    let p : QKey → Bool = λ k. is_some (entry k past) in
    let q : QKey → Bool = λ other. not (same_key key other) in
    ap (λ b. cond b (key ∷ filter p (filter q keys)) (filter p (filter q keys))) h
    ∙ ap (λ ks. key ∷ ks) (filter_swap p q keys)

missed : (b : Bool) (o : Option (List ℕ × ℕ)) → is_some (cond b None o) ≡ (is_some o && not b)
missed true None = refl
missed true (Some e) = refl
missed false None = refl
missed false (Some e) = refl

-- a miss or a drop takes its key out
pub order-missed : (past : List Step) (key : QKey)
    → filter (λ k. is_some (cond (same_key k key) None (entry k past))) (each_once (used past)) ≡ filter (λ other. not (same_key key other)) (order past)
order-missed past key =
    let keys = each_once (used past) in
    let p : QKey → Bool = λ k. is_some (entry k past) in
    let q : QKey → Bool = λ other. not (same_key key other) in
    filter_agree (λ k. is_some (cond (same_key k key) None (entry k past))) (λ k. p k && q k) (λ k. missed (same_key k key) (entry k past)
    ∙ ap (λ b. is_some (entry k past) && not b) (same_key-swap k key)) keys
    ∙ sym (filter-filter q p keys)

put : (b c : Bool) (new : List ℕ × ℕ) (o : Option (List ℕ × ℕ)) → (not b && is_some (cond b (Some new) (cond c None o))) ≡ ((is_some o && not b) && not c)
put true c new None = refl
put true true new (Some e) = refl
put true false new (Some e) = refl
put false true new None = refl
put false true new (Some e) = refl
put false false new None = refl
put false false new (Some e) = refl

-- a value that is put brings its key to the front, and the key that makes room goes
pub order-put : (past : List Step) (key : QKey) (value : List ℕ) (stamp : ℕ) (evicted : Option QKey) →
    filter (λ k. is_some (cond (same_key k key) (Some (value, stamp)) (cond (is_evicted k evicted) None (entry k past)))) (each_once (key ∷ used past))
    ≡ key ∷ filter (λ other. not (is_evicted other evicted)) (filter (λ other. not (same_key key other)) (order past))
order-put past key value stamp evicted =
    let keys = each_once (used past) in
    let p : QKey → Bool = λ k. is_some (entry k past) in
    let q : QKey → Bool = λ other. not (same_key key other) in
    let r : QKey → Bool = λ other. not (is_evicted other evicted) in
    let p' : QKey → Bool = λ k. is_some (cond (same_key k key) (Some (value, stamp)) (cond (is_evicted k evicted) None (entry k past))) in
    let here : p' key ≡ true = ap (λ b. is_some (cond b (Some (value, stamp)) (cond (is_evicted key evicted) None (entry key past)))) (same_key-refl key) in
    let same : (k : QKey) → (q k && p' k) ≡ ((p k && q k) && r k) = λ k. ap (λ b. not b && p' k) (same_key-swap key k)
    ∙ put (same_key k key) (is_evicted k evicted) (value, stamp) (entry k past) ∙ ap (λ b. (p k && not b) && r k) (same_key-swap k key) in
    ap (λ b. cond b (key ∷ filter p' (filter q keys)) (filter p' (filter q keys))) here
    ∙ ap (λ ks. key ∷ ks) (filter-filter p' q keys ∙ filter_agree (λ k. q k && p' k) (λ k. (p k && q k) && r k) same keys
    ∙ sym (filter-filter r (λ k. p k && q k) keys) ∙ ap (filter r) (sym (filter-filter q p keys)))

-- the entry of a key where the quarantine of one ended with no new value
pub entry-ended : (past : List Step) (key k : QKey) (sid : Sid) (token : ℕ) (how : Ended)
    → is_put how ≡ false → entry k (Released key sid token how ∷ past) ≡ cond (same_key k key) (entry_ended how (entry k past)) (entry k past)
entry-ended past key k sid token Keep none = refl
entry-ended past key k sid token Drop none = refl
entry-ended past key k sid token (Put value stamp evicted) none = cc
entry-ended past key k sid token (Shift by stamp) none = refl

used-ended : (past : List Step) (key : QKey) (sid : Sid) (token : ℕ) (how : Ended) → is_put how ≡ false → used (Released key sid token how ∷ past) ≡ used past
used-ended past key sid token how none = ap (λ b. cond b (key ∷ used past) (used past)) none

-- where there was no entry, none is left
nothing-ended : (how : Ended) → is_put how ≡ false → entry_ended how None ≡ None
nothing-ended Keep none = refl
nothing-ended Drop none = refl
nothing-ended (Put value stamp evicted) none = cc
nothing-ended (Shift by stamp) none = refl

some-before : (how : Ended) (o : Option (List ℕ × ℕ)) → is_put how ≡ false → is_some (entry_ended how o) ≡ true → is_some o ≡ true
some-before how None none some = let e = ap is_some (nothing-ended how none) in cc
some-before how (Some f) none some = refl

-- a key that keeps its entry keeps its place, and one that loses it has none
pub order-ended : (past : List Step) (key : QKey) (sid : Sid) (token : ℕ) (how : Ended) → is_put how ≡ false
    → order (Released key sid token how ∷ past)
    ≡ cond (is_some (entry_ended how (entry key past))) (order past) (filter (λ other. not (same_key key other)) (order past))
order-ended past key sid token how none =
    let ended : QKey → Option (List ℕ × ℕ) = λ k. cond (same_key k key) (entry_ended how (entry k past)) (entry k past) in
    filter_agree (λ k. is_some (entry k (Released key sid token how ∷ past)))
    (λ k. is_some (ended k)) (λ k. ap is_some (entry-ended past key k sid token how none)) (each_once (used (Released key sid token how ∷ past)))
    ∙ ap (λ keys. filter (λ k. is_some (ended k)) (each_once keys)) (used-ended past key sid token how none)
    ∙ by_end
  where
    kept : is_some (entry_ended how (entry key past)) ≡ true → (k : QKey)
        → is_some (cond (same_key k key) (entry_ended how (entry k past)) (entry k past)) ≡ is_some (entry k past)
    kept some k =
        elim (cases_Bool (same_key k key)) [
          | inl same ↦ ap (λ b. is_some (cond b (entry_ended how (entry k past)) (entry k past))) same
              ∙ ap (λ x. is_some (entry_ended how (entry x past))) (same_key-true k key same)
              ∙ some ∙ sym (ap (λ x. is_some (entry x past)) (same_key-true k key same) ∙ some-before how (entry key past) none some)
          | inr apart ↦ ap (λ b. is_some (cond b (entry_ended how (entry k past)) (entry k past))) apart
        ]

    lost : is_some (entry_ended how (entry key past)) ≡ false → (k : QKey)
        → is_some (cond (same_key k key) (entry_ended how (entry k past)) (entry k past)) ≡ is_some (cond (same_key k key) None (entry k past))
    lost gone k =
        elim (cases_Bool (same_key k key)) [
          | inl same ↦ ap (λ b. is_some (cond b (entry_ended how (entry k past)) (entry k past))) same
              ∙ ap (λ x. is_some (entry_ended how (entry x past))) (same_key-true k key same) ∙ gone ∙ sym (ap (λ b. is_some (cond b None (entry k past))) same)
          | inr apart ↦ ap (λ b. is_some (cond b (entry_ended how (entry k past)) (entry k past))) apart
              ∙ sym (ap (λ b. is_some (cond b None (entry k past))) apart)
        ]

    by_end : filter (λ k. is_some (cond (same_key k key) (entry_ended how (entry k past)) (entry k past))) (each_once (used past))
        ≡ cond (is_some (entry_ended how (entry key past))) (order past) (filter (λ other. not (same_key key other)) (order past))
    by_end =
        elim (cases_Bool (is_some (entry_ended how (entry key past)))) [
          | inl some ↦ filter_agree (λ k. is_some (cond (same_key k key) (entry_ended how (entry k past)) (entry k past))) (λ k. is_some (entry k past))
              (kept some) (each_once (used past)) ∙ sym (ap (λ b. cond b (order past) (filter (λ other. not (same_key key other)) (order past))) some)
          | inr gone ↦ filter_agree (λ k. is_some (cond (same_key k key) (entry_ended how (entry k past)) (entry k past)))
              (λ k. is_some (cond (same_key k key) None (entry k past))) (lost gone) (each_once (used past))
              ∙ order-missed past key ∙ sym (ap (λ b. cond b (order past) (filter (λ other. not (same_key key other)) (order past))) gone)
        ]
