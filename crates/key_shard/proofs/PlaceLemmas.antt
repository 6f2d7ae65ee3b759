-- What stands after a step stood before it, and the places that the grants that are out may still take.
use Rattle.std.proofs.Common.{◌≡◌, ◌<◌, ◌≤◌, ◌+◌, ◌==◌, ◌||◌, ℕ, Bool, true, false, not, cond, List, [], ◌∷◌, ◌++◌, Option, Some, None}
use Rattle.std.proofs.Common.{is_some, find, filter, refl, sym, ap, subst, ◌∙◌, inl, inr, arith}
use Rattle.std.specs.Prelude.{ℤ}
use Rattle.std.specs.List.{All, list_any, sum_by, count_by}
use Rattle.std.specs.Option.{option_or}
use Rattle.std.proofs.lemmas.Bool.{cases_Bool, and_parts, eq-eqb, eqb-true, false≢true}
use Rattle.std.proofs.lemmas.List.Elements.{All-head, All-tail, All-filter}
use Rattle.std.proofs.lemmas.List.Filters.{sum_by-filter_both}
use Rattle.std.proofs.lemmas.List.Folds.{find-append}
use Rattle.std.proofs.lemmas.List.Sums.{sum_by-cons, sum_by_push}
use Rattle.rows_model.specs.declared.keys.QKey.{QKey}
use Rattle.rows_model.specs.declared.keys.Sid.{Sid}
use Rattle.rows_model.specs.Key.{same_key}
use Rattle.rows_model.proofs.SameKey.{same_key-true, same_key-refl}
use Rattle.lease_table.specs.declared.records.Mode.{Mode}
use Rattle.lease_table.specs.declared.records.Quar.{Quar}
use Rattle.lease_table.specs.Leases.{has_token}
use Rattle.key_shard.specs.declared.outs.Out.{Out}
use Rattle.key_shard.specs.declared.steps.Ended.{Ended}
use Rattle.key_shard.specs.declared.steps.Step.{Step}
use Rattle.key_shard.specs.declared.steps.Step.TheVariants.{Hit, Lease, Again, Own, Stored, Void, Granted, Held, Refused, Released, Gone, Raised, Shared, Renewed}
use Rattle.key_shard.specs.Past.{Terms, standing, quar_of, draws, next_token}
use Rattle.key_shard.specs.Kept.{IsOut, IsQuiet, is_for, places_for, places_of}

-- of a token drawn before, what stands after a step stood before it
abbrev pub StoodBefore : Terms → List Step → Step → Type 0
StoodBefore terms past step =
    (key : QKey) (token : ℕ) (quar : Quar) → token < next_token terms past → quar_of key token (step ∷ past) ≡ Some quar → quar_of key token past ≡ Some quar

-- what stands after a step stood before it, of whichever token
abbrev pub AddsNone : List Step → Step → Type 0
AddsNone past step =
    (key : QKey) (token : ℕ) (quar : Quar) → quar_of key token (step ∷ past) ≡ Some quar → quar_of key token past ≡ Some quar

pub stood-still : (terms : Terms) (past : List Step) (step : Step) → AddsNone past step → StoodBefore terms past step
stood-still terms past step none key token quar low e = none key token quar e

-- what is found behind a filter that keeps all that the test passes
find-kept-step : (p : Quar → Bool) (x : Quar) (xs ys : List Quar) (b c : Bool)
    → p x ≡ b → (b ≡ true → c ≡ true) → find p ys ≡ find p xs → find p (cond c (x ∷ ys) ys) ≡ cond b (Some x) (find p xs)
find-kept-step p x xs ys true true e keeps same = rw e refl
find-kept-step p x xs ys false true e keeps same = rw e same
find-kept-step p x xs ys false false e keeps same = same
find-kept-step p x xs ys true false e keeps same = absurd (false≢true (keeps refl))

find-kept : (p q : Quar → Bool) → ((x : Quar) → p x ≡ true → q x ≡ true) → (xs : List Quar) → find p (filter q xs) ≡ find p xs
find-kept p q keeps [] = refl
find-kept p q keeps (x ∷ xs) =
    find-kept-step p x xs (filter q xs) (p x) (q x) refl (keeps x) (find-kept p q keeps xs)

-- what passes a test isn't found where all that do were taken away
find-lost-step : (p : Quar → Bool) (x : Quar) (ys : List Quar) (b : Bool) → p x ≡ b → find p ys ≡ None → find p (cond (not b) (x ∷ ys) ys) ≡ None
find-lost-step p x ys true e none = none
find-lost-step p x ys false e none = rw e none

pub find-lost : (p : Quar → Bool) (xs : List Quar) → find p (filter (λ x. not (p x)) xs) ≡ None
find-lost p [] = refl
find-lost p (x ∷ xs) = find-lost-step p x (filter (λ y. not (p y)) xs) (p x) refl (find-lost p xs)

other-token : (n a b : ℕ) → (b == a) ≡ false → (n == a) ≡ true → not (n == b) ≡ true
other-token n a b apart same =
    elim (cases_Bool (n == b)) [
      | inl e ↦ let na : n ≡ a = eqb-true n a same in let nb : n ≡ b = eqb-true n b e in absurd (false≢true (sym apart ∙ ap (λ m. m == a) (sym nb) ∙ same))
      | inr e ↦ ap not e
    ]

-- a quarantine that stands less those of a token stood
ended-from : (token gone : ℕ) (quars : List Quar) (quar : Quar)
    → find (has_token token) (filter (λ q. not (has_token gone q)) quars) ≡ Some quar → find (has_token token) quars ≡ Some quar
ended-from token gone quars quar e =
    elim (cases_Bool (gone == token)) [
      | inl same ↦ let lost : find (has_token token) (filter (λ q. not (has_token gone q)) quars) ≡ None =
          subst (λ t. find (has_token t) (filter (λ q. not (has_token gone q)) quars) ≡ None) (eqb-true gone token same) (find-lost (has_token gone) quars) in
          absurd cc
      | inr apart ↦ sym (find-kept (has_token token) (λ q. not (has_token gone q)) (λ q has. other-token q.token token gone apart has) quars) ∙ e
    ]

-- the end of a quarantine leaves only what stood
pub ended-adds_none : (past : List Step) (on : QKey) (sid : Sid) (gone : ℕ) (how : Ended) → AddsNone past (Released on sid gone how)
ended-adds_none past on sid gone how key token quar e =
    by (same_key key on) e
  where
    by : (b : Bool) → find (has_token token) (cond b (filter (λ q. not (has_token gone q)) (standing key past)) (standing key past)) ≡ Some quar
        → quar_of key token past ≡ Some quar
    by true h = ended-from token gone (standing key past) quar h
    by false h = h

-- of the quarantine that ended nothing stands
pub ended-gone : (past : List Step) (key : QKey) (sid : Sid) (token : ℕ) (how : Ended) → quar_of key token (Released key sid token how ∷ past) ≡ None
ended-gone past key sid token how =
    ap (λ b. find (has_token token) (cond b (filter (λ q. not (has_token token q)) (standing key past)) (standing key past))) (same_key-refl key)
    ∙ find-lost (has_token token) (standing key past)

pub or-none : (o : Option Quar) → option_or o None ≡ o
or-none None = refl
or-none (Some q) = refl

pub found-one : (token : ℕ) (quar : Quar) (b : Bool) → has_token token quar ≡ b → find (has_token token) (quar ∷ []) ≡ cond b (Some quar) None
found-one token quar b e = rw e refl

below-apart : (drawn token : ℕ) → token < drawn → (drawn == token) ≡ false
below-apart drawn token low =
    elim (cases_Bool (drawn == token)) [
      | inl e ↦ let same : drawn ≡ token = eqb-true drawn token e in absurd (omega arith)
      | inr e ↦ e
    ]

-- a quarantine that is granted has a token of its own
pub stood-granted : (terms : Terms) (past : List Step) (on : QKey) (sid : Sid) (mode : Mode) (shift : ℤ) (now token deadline : ℕ)
    → token ≡ next_token terms past → StoodBefore terms past (Granted on sid mode shift now token deadline)
stood-granted terms past on sid mode shift now drawn deadline next key token quar low e =
    by (same_key key on) e
  where
    new : Quar
    new = record { sid = sid; mode = mode; token = drawn; deadline = deadline; shift = shift }

    apart : (drawn == token) ≡ false
    apart = let lower : token < drawn = omega (arith, low, next) in below-apart drawn token lower

    same : find (has_token token) (standing key past ++ new ∷ []) ≡ find (has_token token) (standing key past)
    same = find-append (has_token token) (standing key past) (new ∷ [])
        ∙ ap (option_or (find (has_token token) (standing key past))) (found-one token new false apart) ∙ or-none (find (has_token token) (standing key past))

    by : (b : Bool) → find (has_token token) (cond b (standing key past ++ new ∷ []) (standing key past)) ≡ Some quar → quar_of key token past ≡ Some quar
    by true h = sym same ∙ h
    by false h = h

find-below-step : (next : ℕ) (x : Quar) (xs : List Quar) (b : Bool)
    → has_token next x ≡ b → b ≡ false → find (has_token next) xs ≡ None → find (has_token next) (x ∷ xs) ≡ None
find-below-step next x xs true e f none = absurd (false≢true (sym f))
find-below-step next x xs false e f none = rw e none

above-apart : (token next : ℕ) → token < next → (token == next) ≡ false
above-apart token next low =
    elim (cases_Bool (token == next)) [
      | inl e ↦ let same : token ≡ next = eqb-true token next e in absurd (omega arith)
      | inr e ↦ e
    ]

-- the next token isn't found among those below it
find-below : (next : ℕ) (quars : List Quar) → All (λ quar. quar.token < next) quars → find (has_token next) quars ≡ None
find-below next [] h = refl
find-below next (x ∷ xs) h =
    find-below-step next x xs (has_token next x) refl (above-apart x.token next (All-head (λ quar. quar.token < next) x xs h))
    (find-below next xs (All-tail (λ quar. quar.token < next) x xs h))

-- behind the tokens below it, the last one is found
pub found-last : (quar : Quar) (quars : List Quar) → All (λ q. q.token < quar.token) quars → find (has_token quar.token) (quars ++ quar ∷ []) ≡ Some quar
found-last quar quars below =
    find-append (has_token quar.token) quars (quar ∷ []) ∙ ap (λ o. option_or o (find (has_token quar.token) (quar ∷ []))) (find-below quar.token quars below)
    ∙ found-one quar.token quar true (eq-eqb quar.token quar.token refl)

-- tokens aren't given back
pub next-grows : (terms : Terms) (past : List Step) (step : Step) → next_token terms past ≤ next_token terms (step ∷ past)
next-grows terms past step =
    let more : count_by draws (step ∷ past) ≡ cond (draws step) 1 0 + count_by draws past =
    sum_by-cons (λ s. cond (draws s) 1 0) step past in omega (arith, more)

-- a sum of what is no more
sum-le : {X : Type 0} (f g : X → ℕ) (P : X → Type 0) → ((x : X) → P x → f x ≤ g x) → (xs : List X) → All P xs → sum_by f xs ≤ sum_by g xs
sum-le f g P le [] h = omega arith
sum-le f g P le (x ∷ xs) h =
    let here = le x (All-head P x xs h) in
    let rest = sum-le f g P le xs (All-tail P x xs h) in
    let fs = sum_by-cons f x xs in
    let gs = sum_by-cons g x xs in
    omega (arith, here, rest, fs, gs)

any-rest : (a b : Bool) → (a || b) ≡ true → a ≡ false → b ≡ true
any-rest true b h e = cc
any-rest false b h e = h

-- what passes a test is worth this much together, where each one is and there is one
sum-some : {X : Type 0} (p : X → Bool) (g : X → ℕ) (n : ℕ) → ((x : X) → p x ≡ true → n ≤ g x)
    → (xs : List X) → list_any p xs ≡ true → n ≤ sum_by g (filter p xs)
sum-some p g n worth [] h = absurd (false≢true h)
sum-some p g n worth (x ∷ xs) h =
    elim (cases_Bool (p x)) [
      | inl yes_ ↦ let here = worth x yes_ in let more = sum_by-cons g x (filter p xs) in rw yes_ (omega (arith, here, more))
      | inr no_ ↦ rw no_ (sum-some p g n worth xs (any-rest (p x) (list_any p xs) h no_))
    ]

-- less what passes a test, a sum of what is no more is less by what one that passes is worth
sum-less : {X : Type 0} (p : X → Bool) (f g : X → ℕ) (P : X → Type 0) (n : ℕ) → ((x : X) → P x → f x ≤ g x)
    → ((x : X) → p x ≡ true → n ≤ g x) → (xs : List X) → All P xs → list_any p xs ≡ true → sum_by f (filter (λ x. not (p x)) xs) + n ≤ sum_by g xs
sum-less p f g P n le worth xs h some =
    let parts = sum_by-filter_both p (λ x. not (p x)) (λ x. refl) g xs in
    let out = sum-some p g n worth xs some in
    let left = sum-le f g P le (filter (λ x. not (p x)) xs) (All-filter (λ x. not (p x)) P xs h) in
    omega (arith, parts, out, left)

-- a sum of what is no more is less where what passes a test is less, and there is one
sum-drops : {X : Type 0} (p : X → Bool) (f g : X → ℕ) (P : X → Type 0)
    → ((x : X) → P x → f x ≤ g x) → ((x : X) → p x ≡ true → f x + 1 ≤ g x) → (xs : List X) → All P xs → list_any p xs ≡ true → sum_by f xs + 1 ≤ sum_by g xs
sum-drops p f g P le less [] h some = absurd (false≢true some)
sum-drops p f g P le less (x ∷ xs) h some =
    let fs = sum_by-cons f x xs in
    let gs = sum_by-cons g x xs in
    elim (cases_Bool (p x)) [
      | inl here ↦ let one = less x here in let rest = sum-le f g P le xs (All-tail P x xs h) in omega (arith, one, rest, fs, gs)
      | inr apart ↦ let one = le x (All-head P x xs h) in let rest =
          sum-drops p f g P le less xs (All-tail P x xs h) (any-rest (p x) (list_any p xs) some apart) in omega (arith, one, rest, fs, gs)
    ]

no-more : (new old : Option Quar) → ((quar : Quar) → new ≡ Some quar → old ≡ Some quar) → cond (is_some new) 2 1 ≤ cond (is_some old) 2 1
no-more None None stood = omega arith
no-more None (Some q) stood = omega arith
no-more (Some p) None stood = let e = stood p refl in absurd cc
no-more (Some p) (Some q) stood = omega arith

-- a grant that is out may take no more places after a step than before
places-later : (terms : Terms) (past : List Step) (step : Step)
    → StoodBefore terms past step → (out : Out) → IsOut terms past out → places_for (step ∷ past) out ≤ places_for past out
places-later terms past step stood out h =
    no-more (quar_of out.key out.token (step ∷ past)) (quar_of out.key out.token past) (λ quar e. stood out.key out.token quar h.drawn e)

pub places-kept : (terms : Terms) (past : List Step) (step : Step)
    → StoodBefore terms past step → (outs : List Out) → All (IsOut terms past) outs → places_of (step ∷ past) outs ≤ places_of past outs
places-kept terms past step stood outs h =
    sum-le (places_for (step ∷ past)) (places_for past) (IsOut terms past) (places-later terms past step stood) outs h

-- of each quarantine that stands after a step one of its token stood before it
abbrev pub StoodSome : List Step → Step → Type 0
StoodSome past step =
    (key : QKey) (token : ℕ) (quar : Quar) → quar_of key token (step ∷ past) ≡ Some quar → (old : Quar) × (quar_of key token past ≡ Some old)

no-more_some : (new old : Option Quar) → ((quar : Quar) → new ≡ Some quar → (other : Quar) × (old ≡ Some other)) → cond (is_some new) 2 1 ≤ cond (is_some old) 2 1
no-more_some None None stood = omega arith
no-more_some None (Some q) stood = omega arith
no-more_some (Some p) None stood = let e = (stood p refl).1 in absurd cc
no-more_some (Some p) (Some q) stood = omega arith

pub places-some_kept : (terms : Terms) (past : List Step) (step : Step) → StoodSome past step
    → (outs : List Out) → All (IsOut terms past) outs → places_of (step ∷ past) outs ≤ places_of past outs
places-some_kept terms past step stood outs h =
    sum-le (places_for (step ∷ past)) (places_for past) (IsOut terms past)
    (λ out _. no-more_some (quar_of out.key out.token (step ∷ past)) (quar_of out.key out.token past) (stood out.key out.token)) outs h

-- the places of the grants that are out less one, which could take so many
pub places-less : (terms : Terms) (past : List Step) (step : Step) (p : Out → Bool) (n : ℕ) → StoodBefore terms past step
    → ((out : Out) → p out ≡ true → n ≤ places_for past out) → (outs : List Out)
    → All (IsOut terms past) outs → list_any p outs ≡ true → places_of (step ∷ past) (filter (λ out. not (p out)) outs) + n ≤ places_of past outs
places-less terms past step p n stood worth outs h some =
    sum-less p (places_for (step ∷ past)) (places_for past) (IsOut terms past) n (places-later terms past step stood) worth outs h some

-- so many places are kept for one that is out
pub places-some : (past : List Step) (p : Out → Bool) (n : ℕ)
    → ((out : Out) → p out ≡ true → n ≤ places_for past out) → (outs : List Out) → list_any p outs ≡ true → n ≤ places_of past outs
places-some past p n worth outs some =
    let parts = sum_by-filter_both p (λ x. not (p x)) (λ x. refl) (places_for past) outs in
    let out = sum-some p (places_for past) n worth outs some in omega (arith, parts, out)

-- one place for each, and two where its quarantine stands
pub place-one : (past : List Step) (out : Out) → 1 ≤ places_for past out
place-one past out = one (is_some (quar_of out.key out.token past))
  where
    one : (b : Bool) → 1 ≤ cond b 2 1
    one true = omega arith
    one false = omega arith

place-most : (past : List Step) (out : Out) → places_for past out ≤ 2
place-most past out = most (is_some (quar_of out.key out.token past))
  where
    most : (b : Bool) → cond b 2 1 ≤ 2
    most true = omega arith
    most false = omega arith

pub place-two : (past : List Step) (out : Out) (quar : Quar) → quar_of out.key out.token past ≡ Some quar → 2 ≤ places_for past out
place-two past out quar e =
    subst (λ o. 2 ≤ cond (is_some o) 2 1) (sym e) two
  where
    two : 2 ≤ 2
    two = omega arith

-- the end of a quarantine gives back a place of a grant that is out for it
pub places-dropped : (terms : Terms) (past : List Step) (key : QKey) (sid : Sid) (token : ℕ) (how : Ended) (quar : Quar) → quar_of key token past ≡ Some quar
    → (outs : List Out) → All (IsOut terms past) outs → list_any (is_for key token) outs ≡ true
    → places_of (Released key sid token how ∷ past) outs + 1 ≤ places_of past outs
places-dropped terms past key sid token how quar stands outs h some =
    sum-drops (is_for key token) (places_for (step ∷ past)) (places_for past)
    (IsOut terms past) (places-later terms past step (stood-still terms past step (ended-adds_none past key sid token how))) less outs h some
  where
    step : Step
    step = Released key sid token how

    two : 1 + 1 ≤ 2
    two = omega arith

    less : (out : Out) → is_for key token out ≡ true → places_for (step ∷ past) out + 1 ≤ places_for past out
    less out for =
        let parts = and_parts (same_key key out.key) (out.token == token) for in
        let at_key : key ≡ out.key = same_key-true key out.key parts.0 in
        let at_token : out.token ≡ token = eqb-true out.token token parts.1 in
        let stood : quar_of out.key out.token past ≡ Some quar =
        ap (λ t. quar_of out.key t past) at_token ∙ ap (λ k. quar_of k token past) (sym at_key) ∙ stands in
        let gone : quar_of out.key out.token (step ∷ past) ≡ None =
        ap (λ t. quar_of out.key t (step ∷ past)) at_token ∙ ap (λ k. quar_of k token (step ∷ past)) (sym at_key) ∙ ended-gone past key sid token how in
        subst (λ o. cond (is_some (quar_of out.key out.token (step ∷ past))) 2 1 + 1
        ≤ cond (is_some o) 2 1) (sym stood) (subst (λ o. cond (is_some o) 2 1 + 1 ≤ 2) (sym gone) two)

-- the places with those of one more
pub places-more : (terms : Terms) (past : List Step) (step : Step) → StoodBefore terms past step
    → (outs : List Out) (out : Out) → All (IsOut terms past) outs → places_of (step ∷ past) (outs ++ out ∷ []) ≤ places_of past outs + 2
places-more terms past step stood outs out h =
    let grown = sum_by_push (places_for (step ∷ past)) outs out in
    let before = places-kept terms past step stood outs h in
    let one = place-most (step ∷ past) out in
    omega (arith, grown, before, one)

-- a step that changes no entry, order or lease leaves what stands
pub quiet-adds_none : (past : List Step) (step : Step) → IsQuiet step → AddsNone past step
quiet-adds_none past (Hit key sid floor value stamp) quiet = absurd quiet
quiet-adds_none past (Lease key sid floor now token deadline) quiet = absurd quiet
quiet-adds_none past (Again key sid floor now stands) quiet = absurd quiet
quiet-adds_none past (Stored key token now value stamp evicted) quiet = absurd quiet
quiet-adds_none past (Granted key sid mode shift now token deadline) quiet = absurd quiet
quiet-adds_none past (Released key sid token how) quiet = absurd quiet
quiet-adds_none past (Own key sid) quiet = λ k t q e. e
quiet-adds_none past (Void key token now) quiet = absurd quiet
quiet-adds_none past (Held key sid mode) quiet = λ k t q e. e
quiet-adds_none past (Refused key sid mode holder held) quiet = λ k t q e. e
quiet-adds_none past (Gone key sid token) quiet = λ k t q e. e
quiet-adds_none past (Shared key sid token holder) quiet = λ k t q e. e
quiet-adds_none past (Raised key sid token) quiet = absurd quiet
quiet-adds_none past (Renewed key sid token now deadline) quiet = absurd quiet
