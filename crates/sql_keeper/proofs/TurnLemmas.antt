-- What is in memory of sessions, as they begin and end.
use Rattle.std.proofs.Common.{◌≡◌, ℕ, ◌+◌, ◌-◌, ◌==◌, ◌≤◌, ◌⊎◌, inl, inr, if◌then◌else◌, Bool, true, false, zero, suc, List, [], ◌∷◌, ◌++◌, length, map}
use Rattle.std.proofs.Common.{Option, Some, None, slice_get, slice_set, refl, sym, ap, ◌∙◌, arith}
use Rattle.std.specs.Option.{unwrap_or}
use Rattle.std.specs.Map.{lookup}
use Rattle.std.specs.Ordering.{nat_cmp}
use Rattle.std.specs.BTreeMap.{BTreeMap, get, is_at, UpdatesBy}
use Rattle.std.specs.Prelude.{Result, Ok, Err, is_err, OnOk}
use Rattle.std.proofs.lemmas.Bool.{cases_Bool, false≢true}
use Rattle.std.proofs.lemmas.Bool.Decides.{nat_tests}
use Rattle.std.proofs.lemmas.List.{length-map, length_push}
use Rattle.std.proofs.lemmas.List.Sums.{fold-append}
use Rattle.std.proofs.lemmas.Option.{slice_get_past}
use Rattle.rows_model.specs.declared.keys.Sid.{Sid}
use Rattle.sql_keeper.specs.declared.sessions.Turn.{Turn}
use Rattle.sql_keeper.specs.declared.stores.Phase.{Phase}
use Rattle.sql_keeper.specs.declared.stores.Phase.TheVariants.{Reads, Open, Committed, Ended}
use Rattle.sql_keeper.specs.Sessions.{phase_of, may_commit, is_open, with_begun, with_phase, closed}
use Rattle.sql_keeper.specs.Turns.{after_turn, after_turns, AreLive}
use Rattle.sql_keeper.proofs.StoreLemmas.{phase-elsewhere, has-phase, may-open}

-- the sessions once one more turn is put behind
pub turned : (turns : List (Turn × Unit {0})) (e : Turn × Unit {0}) → after_turns (turns ++ e ∷ []) ≡ after_turn (after_turns turns) e.0
turned turns e = fold-append (λ (sessions : List Phase) (turn : Turn × Unit {0}). after_turn sessions turn.0) [] turns (e ∷ [])

-- ---- one more session

get-next : (sessions : List Phase) (place : ℕ) (phase : Phase) → (place ≡ length sessions → ⊥)
    → slice_get (sessions ++ phase ∷ []) place ≡ slice_get sessions place
get-next [] zero phase apart = absurd (apart refl)
get-next [] (suc place) phase apart = refl
get-next (x ∷ xs) zero phase apart = refl
get-next (x ∷ xs) (suc place) phase apart = get-next xs place phase (λ e. apart (ap suc e))

get-last : (sessions : List Phase) (phase : Phase) → slice_get (sessions ++ phase ∷ []) (length sessions) ≡ Some phase
get-last [] phase = refl
get-last (x ∷ xs) phase = get-last xs phase

-- where a session of a number from 1 stands
phase-at : (number : ℕ) (sessions : List Phase) → 1 ≤ number → (if number == 0 then None else slice_get sessions (number - 1)) ≡ slice_get sessions (number - 1)
phase-at zero sessions some = absurd (omega (arith, some))
phase-at (suc n) sessions some = grind arith

phase-next : (number : ℕ) (sessions : List Phase) (phase : Phase) → (number ≡ length sessions + 1 → ⊥)
    → (if number == 0 then None else slice_get (sessions ++ phase ∷ []) (number - 1)) ≡ (if number == 0 then None else slice_get sessions (number - 1))
phase-next zero sessions phase apart = refl
phase-next (suc n) sessions phase apart =
    phase-at (suc n) (sessions ++ phase ∷ []) (omega arith)
    ∙ get-next sessions (suc n - 1) phase (λ e. apart (omega (arith, e)))
    ∙ sym (phase-at (suc n) sessions (omega arith))

phase-last : (number : ℕ) (sessions : List Phase) (phase : Phase) → number ≡ length sessions + 1
    → (if number == 0 then None else slice_get (sessions ++ phase ∷ []) (number - 1)) ≡ Some phase
phase-last number sessions phase is =
    let place : number - 1 ≡ length sessions = omega (arith, is) in
    phase-at number (sessions ++ phase ∷ []) (omega (arith, is))
    ∙ ap (λ (n : ℕ). slice_get (sessions ++ phase ∷ []) n) place ∙ get-last sessions phase

phase-beyond : (number : ℕ) (sessions : List Phase) → number ≡ length sessions + 1
    → (if number == 0 then None else slice_get sessions (number - 1)) ≡ None
phase-beyond number sessions is =
    phase-at number sessions (omega (arith, is)) ∙ slice_get_past sessions (number - 1) (omega (arith, is))

-- ---- what is in memory of a session

-- a map is asked for another number than the one that was written
others : (number who : ℕ) → (who ≡ number → ⊥) → is_at (nat_cmp number) who ≡ false
others number who apart = grind (arith, nat_tests, apart)

-- the session of this number stands so now, and is so in memory; each other is as it was
changed : (number begun : ℕ) (held : Option Bool) (live next : BTreeMap ℕ Bool) (old new : List Phase) (was : ℕ) → AreLive was live old
    → begun ≡ length new
    → get nat_cmp next number ≡ held
    → ((who : ℕ) → (who ≡ number → ⊥) → get nat_cmp next who ≡ get nat_cmp live who)
    → ((who : ℕ) → (who ≡ number → ⊥) → phase_of (record { number = who }) new ≡ phase_of (record { number = who }) old)
    → is_open (record { number = number }) new ≡ unwrap_or held false
    → (held ≡ Some false → phase_of (record { number = number }) new ≡ Some Ended)
    → AreLive begun next new
changed number begun held live next old new was h count here there same stands cut = record {
  counted = count;
  opens = λ who. open-at who (decide who);
  cut = λ who. cut-at who (decide who);
}
  where
    decide : (who : ℕ) → (who ≡ number) ⊎ (who ≡ number → ⊥)
    decide who =
        elim (cases_Bool (who == number)) [
          | inl e ↦ inl (grind (arith, nat_tests, e))
          | inr e ↦ inr (λ is. grind (arith, nat_tests, e, is))
        ]

    open-at : (who : ℕ) → (who ≡ number) ⊎ (who ≡ number → ⊥) → is_open (record { number = who }) new ≡ unwrap_or (get nat_cmp next who) false
    open-at who (inl is) =
        ap (λ (n : ℕ). is_open (record { number = n }) new) is ∙ stands
        ∙ ap (λ (b : Option Bool). unwrap_or b false) (sym (ap (λ (n : ℕ). get nat_cmp next n) is ∙ here))
    open-at who (inr apart) =
        ap may_commit (same who apart) ∙ h.opens who ∙ ap (λ (b : Option Bool). unwrap_or b false) (sym (there who apart))

    cut-at : (who : ℕ) → (who ≡ number) ⊎ (who ≡ number → ⊥) → get nat_cmp next who ≡ Some false
        → phase_of (record { number = who }) new ≡ Some Ended
    cut-at who (inl is) at =
        ap (λ (n : ℕ). phase_of (record { number = n }) new) is
        ∙ cut (sym here ∙ ap (λ (n : ℕ). get nat_cmp next n) (sym is) ∙ at)
    cut-at who (inr apart) at = same who apart ∙ h.cut who (sym (there who apart) ∙ at)

-- what a map has is the same where its entries are
pub same-live : (begun : ℕ) (live next : BTreeMap ℕ Bool) (sessions : List Phase) → AreLive begun live sessions → next.entries ≡ live.entries
    → AreLive begun next sessions
same-live begun live next sessions h same = record {
  counted = h.counted;
  opens = λ who. h.opens who ∙ ap (λ (es : List (ℕ × Bool)). unwrap_or (lookup (is_at (nat_cmp who)) es) false) (sym same);
  cut = λ who at. h.cut who (ap (λ (es : List (ℕ × Bool)). lookup (is_at (nat_cmp who)) es) (sym same) ∙ at);
}

-- nothing isn't something
none-some : (o : Option Bool) (b : Bool) → o ≡ None → o ≡ Some b → ⊥
none-some None b none some = cc
none-some (Some c) b none some = cc

no-phase : (o : Option Phase) (phase : Phase) → o ≡ None → o ≡ Some phase → ⊥
no-phase None phase none some = cc
no-phase (Some other) phase none some = cc

-- a session began to write: it is open
pub live-writing : (begun number : ℕ) (live next : BTreeMap ℕ Bool) (sessions : List Phase) → AreLive begun live sessions
    → number ≡ begun + 1 → UpdatesBy nat_cmp (nat_cmp number) live next (Some true) → AreLive number next (with_begun true sessions)
live-writing begun number live next sessions h is written =
    let last : number ≡ length sessions + 1 = omega (arith, is, h.counted) in
    let there = phase-last number sessions Open last in
    changed number number (Some true) live next sessions (with_begun true sessions) begun h
    (last ∙ sym (length_push sessions Open))
    written.1
    (λ who apart. written.2 who (others number who apart))
    (λ who apart. phase-next who sessions Open (λ e. apart (omega (arith, e, last))))
    (ap may_commit there)
    (λ e. grind (arith, e))

-- a session began to read: nothing is kept of it
pub live-reading : (begun number : ℕ) (live : BTreeMap ℕ Bool) (sessions : List Phase) → AreLive begun live sessions
    → number ≡ begun + 1 → AreLive number live (with_begun false sessions)
live-reading begun number live sessions h is =
    let last : number ≡ length sessions + 1 = omega (arith, is, h.counted) in
    let beyond = phase-beyond number sessions last in
    let there = phase-last number sessions Reads last in
    changed number number (get nat_cmp live number) live live sessions (with_begun false sessions) begun h
    (last ∙ sym (length_push sessions Reads))
    refl
    (λ who apart. refl)
    (λ who apart. phase-next who sessions Reads (λ e. apart (omega (arith, e, last))))
    (ap may_commit there ∙ sym (ap may_commit beyond) ∙ h.opens number)
    (λ e. absurd (no-phase _ _ beyond (h.cut number e)))

length-set : (xs : List Phase) (i : ℕ) (x : Phase) → length (slice_set xs i x) ≡ length xs
length-set [] i x = refl
length-set (y ∷ ys) zero x = refl
length-set (y ∷ ys) (suc i) x = ap suc (length-set ys i x)

-- an open session was ended
pub live-ended : (begun : ℕ) (live next : BTreeMap ℕ Bool) (sessions : List Phase) (who : Sid) → AreLive begun live sessions
    → is_open who sessions ≡ true → UpdatesBy nat_cmp (nat_cmp who.number) live next (Some false)
    → AreLive begun next (with_phase who Ended sessions)
live-ended begun live next sessions who h may written =
    let was = may-open (phase_of who sessions) may in
    let there = has-phase who Ended sessions was in
    changed who.number begun (Some false) live next sessions (with_phase who Ended sessions) begun h
    (h.counted ∙ sym (length-set sessions (who.number - 1) Ended))
    written.1
    (λ other apart. written.2 other (others who.number other apart))
    (λ other apart. phase-elsewhere who (record { number = other }) Ended sessions was apart)
    (ap may_commit there)
    (λ e. there)

-- an open session has committed
pub live-committed : (begun : ℕ) (live next : BTreeMap ℕ Bool) (sessions : List Phase) (who : Sid) → AreLive begun live sessions
    → is_open who sessions ≡ true → UpdatesBy nat_cmp (nat_cmp who.number) live next None
    → AreLive begun next (with_phase who Committed sessions)
live-committed begun live next sessions who h may written =
    let was = may-open (phase_of who sessions) may in
    let there = has-phase who Committed sessions was in
    changed who.number begun None live next sessions (with_phase who Committed sessions) begun h
    (h.counted ∙ sym (length-set sessions (who.number - 1) Committed))
    written.1
    (λ other apart. written.2 other (others who.number other apart))
    (λ other apart. phase-elsewhere who (record { number = other }) Committed sessions was apart)
    (ap may_commit there)
    (λ e. absurd (none-some _ _ refl e))

-- a session that isn't open was forgotten
pub live-forgotten : (begun : ℕ) (live next : BTreeMap ℕ Bool) (sessions : List Phase) (who : Sid) → AreLive begun live sessions
    → is_open who sessions ≡ false → UpdatesBy nat_cmp (nat_cmp who.number) live next None → AreLive begun next sessions
live-forgotten begun live next sessions who h shut written =
    changed who.number begun None live next sessions sessions begun h
    h.counted
    written.1
    (λ other apart. written.2 other (others who.number other apart))
    (λ other apart. refl)
    shut
    (λ e. absurd (none-some _ _ refl e))

-- ---- all end

closed-shut : (phase : Phase) → may_commit (Some (closed phase)) ≡ false
closed-shut Reads = refl
closed-shut Open = refl
closed-shut Committed = refl
closed-shut Ended = refl

get-closed : (sessions : List Phase) (place : ℕ) → may_commit (slice_get (map closed sessions) place) ≡ false
get-closed [] place = refl
get-closed (x ∷ xs) zero = closed-shut x
get-closed (x ∷ xs) (suc place) = get-closed xs place

shut-at : (number : ℕ) (sessions : List Phase) → may_commit (if number == 0 then None else slice_get (map closed sessions) (number - 1)) ≡ false
shut-at zero sessions = refl
shut-at (suc n) sessions = ap may_commit (phase-at (suc n) (map closed sessions) (omega arith)) ∙ get-closed sessions (suc n - 1)

-- each session is closed, and none is in memory
pub live-none : (begun : ℕ) (live next : BTreeMap ℕ Bool) (sessions : List Phase) → AreLive begun live sessions → next.entries ≡ []
    → AreLive begun next (map closed sessions)
live-none begun live next sessions h empty = record {
  counted = h.counted ∙ sym (length-map sessions closed);
  opens = λ who. shut-at who sessions ∙ ap (λ (es : List (ℕ × Bool)). unwrap_or (lookup (is_at (nat_cmp who)) es) false) (sym empty);
  cut = λ who at. absurd (none-some _ _ (ap (λ (es : List (ℕ × Bool)). lookup (is_at (nat_cmp who)) es) empty) at);
}

-- what is so of a result that is fine is so where it is no error
pub where-ok : {A E : Type 0} (P : Type 0) (result : Result A E) → is_err result ≡ false → OnOk result P → P
where-ok P (Ok value) fine h = h
where-ok P (Err error) fine h = absurd (false≢true (sym fine))
