-- Plans that are dealt to workers, one session after another.
use Rattle.std.proofs.Common.{ℕ, ◌+◌, ◌*◌, ◌%◌, ◌≤◌, ◌<◌, ◌≡◌, Bool, true, false, cond, List, [], ◌∷◌, ◌++◌, length, map, get_or, set}
use Rattle.std.proofs.Common.{replicate, All, refl, sym, ap, ◌∙◌, inl, inr, arith, eqb, rules, tests}
use Rattle.std.specs.List.{range_with_len, filter}
use Rattle.std.proofs.Math.ListN.{length-set}
use Rattle.std.proofs.lemmas.Bool.{cases_eq, eq-eqb}
use Rattle.std.proofs.lemmas.List.{map-id, map-set, map-append, length-map, get_or-set_same, get_or-set_other, get_or-map, append-nil}
use Rattle.std.proofs.lemmas.List.{length-replicate, get_or-replicate}
use Rattle.std.proofs.lemmas.List.Elements.{filter-append, All-map, All-same}
use Rattle.std.proofs.lemmas.List.FromFn.{length-map-range_with_len, get_or-map-range_with_len, map-range_with_len_more, fill_by_all}
use Rattle.session_client.specs.declared.plans.Plan.{Plan}
use Rattle.session_client.specs.Plans.{IsPlan}
use Rattle.run_inputs.specs.declared.loads.WorkSpec.{WorkSpec}
use Rattle.rand_pcg.specs.Lcg.{Lcg}
use Rattle.run_inputs.specs.declared.draws.Draws.{Draws}
use Rattle.run_inputs.specs.Loads.{IsWork, plan_at, plan_of_draws, draws_after, after_draws, member_drawn, other_drawn, generator_of, sessions_of, load}
use Rattle.run_inputs.proofs.DrawLemmas.{plan_is_plan, draws_more, after_more}

-- the plans of a worker, of the sessions before this one
abbrev pub plans_until : WorkSpec → ℕ → ℕ → List Plan
plans_until spec count worker = map (plan_at spec) (sessions_of (record spec { sessions = count }) worker)

-- what is dealt of the sessions before this one
abbrev pub dealt : WorkSpec → ℕ → List (List Plan)
dealt spec count = map (plans_until spec count) (range_with_len 0 spec.workers)

-- all sessions are dealt
pub dealt_all : (spec : WorkSpec) → load spec ≡ dealt spec spec.sessions
unfolding load
dealt_all spec = refl

-- one number more
range_more : (a n j : ℕ) → a + n ≡ j → range_with_len a (n + 1) ≡ range_with_len a n ++ j ∷ []
range_more a n j e =
    let one_more = map-range_with_len_more (λ (k : ℕ). k) a n j e in
    sym (map-id (range_with_len a (n + 1))) ∙ (one_more ∙ ap (λ (ks : List ℕ). ks ++ j ∷ []) (map-id (range_with_len a n)))

-- the plans of a worker with one session more
until_more : (spec : WorkSpec) (n worker : ℕ)
    → plans_until spec (n + 1) worker ≡ plans_until spec n worker ++ map (plan_at spec) (cond (eqb (n % spec.workers) worker) (n ∷ []) [])
until_more spec n worker =
    let test = λ (session : ℕ). eqb (session % spec.workers) worker in
    let kept : filter test (range_with_len 0 (n + 1)) ≡ filter test (range_with_len 0 n) ++ filter test (n ∷ []) =
    ap (filter test) (range_more 0 n n (omega arith)) ∙ filter-append test (range_with_len 0 n) (n ∷ []) in
    ap (map (plan_at spec)) kept ∙ map-append (plan_at spec) (filter test (range_with_len 0 n)) (filter test (n ∷ []))

-- the session is the worker's
mine_more : (spec : WorkSpec) (n worker : ℕ) → worker ≡ n % spec.workers → plans_until spec (n + 1) worker ≡ plans_until spec n worker ++ plan_at spec n ∷ []
mine_more spec n worker e =
    let mine : eqb (n % spec.workers) worker ≡ true = eq-eqb _ _ (sym e) in
    until_more spec n worker ∙ ap (λ (b : Bool). plans_until spec n worker ++ map (plan_at spec) (cond b (n ∷ []) [])) mine

-- the session is another worker's
other_more : (spec : WorkSpec) (n worker : ℕ) → (worker ≡ n % spec.workers → ⊥) → plans_until spec (n + 1) worker ≡ plans_until spec n worker
other_more spec n worker not =
    let other : (n % spec.workers ≡ worker) → ⊥ = λ e. not (sym e) in
    let theirs : eqb (n % spec.workers) worker ≡ false = search (rules, tests) in
    until_more spec n worker ∙ (ap (λ (b : Bool). plans_until spec n worker ++ map (plan_at spec) (cond b (n ∷ []) [])) theirs
    ∙ append-nil (plans_until spec n worker))

-- the session is dealt to its worker
pub dealt_more : (spec : WorkSpec) (n at : ℕ) (lists : List (List Plan))
    → 1 ≤ spec.workers → at ≡ n % spec.workers → lists ≡ dealt spec n → set lists at (get_or lists at [] ++ plan_at spec n ∷ []) ≡ dealt spec (n + 1)
dealt_more spec n at lists some e h =
    let count : length lists ≡ spec.workers = ap length h ∙ length-map-range_with_len (plans_until spec n) 0 spec.workers in
    let below : at < length lists = omega arith in
    let had : (k : ℕ) → k < spec.workers → get_or lists k [] ≡ plans_until spec n k =
    λ k l. ap (λ (ls : List (List Plan)). get_or ls k []) h ∙ get_or-map-range_with_len (plans_until spec n) 0 spec.workers k k [] l (omega arith) in
    let new = get_or lists at [] ++ plan_at spec n ∷ [] in
    fill_by_all (plans_until spec (n + 1)) (set lists at new) spec.workers [] (length-set lists at new ∙ count) (λ k l.
    elim (cases_eq k at) [
      | inl same ↦ rw same (get_or-set_same lists at new [] below
          ∙ (ap (λ (ps : List Plan). ps ++ plan_at spec n ∷ []) (had at (omega arith)) ∙ sym (mine_more spec n at e)))
      | inr other ↦ get_or-set_other lists at k new [] other ∙ (had k l ∙ sym (other_more spec n k (λ f. other (f ∙ sym e))))
    ])

-- nothing is dealt
pub dealt_none : (spec : WorkSpec) (lists : List (List Plan)) → lists ≡ replicate spec.workers [] → lists ≡ dealt spec 0
dealt_none spec lists h =
    let count : length lists ≡ spec.workers = ap length h ∙ length-replicate spec.workers [] in
    fill_by_all (plans_until spec 0) lists spec.workers [] count (λ k l.
    ap (λ (ls : List (List Plan)). get_or ls k []) h ∙ get_or-replicate spec.workers k [] [] l)

-- how many lists there are
pub dealt_len : {V : Type 0} (items : V → List Plan) (spec : WorkSpec) (n : ℕ) (vs : List V) → map items vs ≡ dealt spec n → length vs ≡ spec.workers
dealt_len items spec n vs h =
    sym (length-map vs items) ∙ (ap length h ∙ length-map-range_with_len (plans_until spec n) 0 spec.workers)

-- a plan is put behind the others of its worker
pub dealt_push : {V : Type 0} (items : V → List Plan) (spec : WorkSpec) (n : ℕ) (vs : List V) (old new : V) (plan : Plan) → IsWork spec
    → map items vs ≡ dealt spec n → old ≡ get_or vs (n % spec.workers) old
    → items new ≡ items old ++ plan ∷ [] → plan ≡ plan_at spec n → map items (set vs (n % spec.workers) new) ≡ dealt spec (n + 1)
dealt_push items spec n vs old new plan work h was pushed p =
    let at = n % spec.workers in
    let some : 1 ≤ spec.workers = work.some_workers in
    let count : length vs ≡ spec.workers = dealt_len items spec n vs h in
    let had : get_or (map items vs) at [] ≡ items old = get_or-map items vs at old [] (omega arith) ∙ ap items (sym was) in
    let more : items new ≡ get_or (map items vs) at [] ++ plan_at spec n ∷ [] =
    pushed ∙ (ap (λ (ps : List Plan). ps ++ plan ∷ []) (sym had) ∙ ap (λ (q : Plan). get_or (map items vs) at [] ++ q ∷ []) p) in
    map-set items vs at new ∙ (ap (λ (ps : List Plan). set (map items vs) at ps) more ∙ dealt_more spec n at (map items vs) some refl h)

-- the plan of the session whose turn it is
pub plan_is : (spec : WorkSpec) (n : ℕ) (g : Lcg) (draws : Draws) (plan : Plan)
    → g ≡ after_draws (4 * n) (generator_of spec.seed) → draws ≡ draws_after 0 g → plan ≡ plan_of_draws spec.members draws → plan ≡ plan_at spec n
unfolding plan_at
plan_is spec n g draws plan e d p =
    p ∙ ap (plan_of_draws spec.members) (d ∙ (ap (draws_after 0) e ∙ draws_more (4 * n) (generator_of spec.seed)))

-- four draws a session
pub four_more : (n : ℕ) (g₀ g g' : Lcg) → g ≡ after_draws (4 * n) g₀ → g' ≡ after_draws 4 g → g' ≡ after_draws (4 * (n + 1)) g₀
four_more n g₀ g g' e f =
    let count : 4 * n + 4 ≡ 4 * (n + 1) = omega arith in
    f ∙ (ap (after_draws 4) e ∙ (after_more (4 * n) 4 g₀ ∙ ap (λ (k : ℕ). after_draws k g₀) count))

-- each plan of a load is one that a session takes
pub plan_at_is : (spec : WorkSpec) (session : ℕ) → IsWork spec → IsPlan (plan_at spec session)
unfolding plan_at
plan_at_is spec session work =
    let some : 1 ≤ spec.members = work.some_members in
    let few : spec.members ≤ 100000 = work.few_members in
    let draws = draws_after (4 * session) (generator_of spec.seed) in
    let a = member_drawn spec.members draws in
    let b = other_drawn spec.members draws in
    plan_is_plan (draws.roll % 100) a b draws.manner (omega arith) (omega arith) (omega arith)

pub plans_are : {V : Type 0} (items : V → List Plan) (spec : WorkSpec) (vs : List V)
    → IsWork spec → map items vs ≡ dealt spec spec.sessions → All (λ v. All IsPlan (items v)) vs
plans_are items spec vs work h k d l =
    let n = spec.sessions in
    let below : k < spec.workers = omega (arith, dealt_len items spec n vs h) in
    let these : items (get_or vs k d) ≡ plans_until spec n k =
    sym (get_or-map items vs k d [] l) ∙ (ap (λ (ls : List (List Plan)). get_or ls k []) h
    ∙ get_or-map-range_with_len (plans_until spec n) 0 spec.workers k k [] below (omega arith)) in
    All-same IsPlan (items (get_or vs k d)) (plans_until spec n k) these
    (All-map IsPlan (plan_at spec) (sessions_of spec k) (λ j e m. plan_at_is spec (get_or (sessions_of spec k) j e) work))
