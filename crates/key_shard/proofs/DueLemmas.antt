-- What a scan finds: the first quarantine whose deadline has come is the same however it is looked for.
use Rattle.std.proofs.Common.{ℕ, ◌≡◌, ◌≢◌, ◌<◌, ◌≤◌, Bool, true, false, not, cond, zero, suc, List, [], ◌∷◌, ◌++◌, map, filter, find, length}
use Rattle.std.proofs.Common.{get_or, Option, Some, None, refl, sym, ap, subst, ◌∙◌, inl, inr, ◌⊎◌, arith}
use Rattle.std.specs.Prelude.{Any, IfSome, IfNone, flat_map, nat_le}
use Rattle.std.specs.List.{All, AllByRecursion}
use Rattle.std.proofs.lemmas.Bool.{cond_both, eq-eqb, eqb-true, false_from_ne_true}
use Rattle.std.proofs.lemmas.Bool.Decides.{nat_tests}
use Rattle.std.proofs.lemmas.List.Concat.{flat_map-cons}
use Rattle.std.proofs.lemmas.List.Elements.{All-from_recursion, recursion_from_All}
use Rattle.rows_model.specs.declared.keys.QKey.{QKey}
use Rattle.rows_model.specs.Key.{same_key}
use Rattle.rows_model.proofs.SameKey.{same_key-true}
use Rattle.lease_table.specs.declared.records.Due.{Due}
use Rattle.lease_table.specs.declared.records.Quar.{Quar}
use Rattle.lease_table.specs.Leases.{has_token, raised, renewed}
use Rattle.lease_table.specs.Expiry.{comes_before, due_as, IsDue, StandsDue, NoneDueBefore, NoneDue}
use Rattle.key_shard.specs.declared.steps.Step.{Step}
use Rattle.key_shard.specs.declared.steps.Step.TheVariants as step
use Rattle.key_shard.specs.Past.{Terms, standing, quar_of}
use Rattle.key_shard.specs.Answers.{IsLegalPast}
use Rattle.key_shard.specs.Dues.{due_now, due_by, sooner, first_of, first_due}
use Rattle.key_shard.proofs.RaiseLemmas.{every-mapped, raised-same, renewed-same}
use Rattle.key_shard.proofs.LegalLemmas.{AllOfOwnToken, distinct, every-append, every-filter, every-weaker, legal_stands_well}

-- P holds of one of these
abbrev pub OneOf : {X : Type 0} → (X → Type 0) → List X → Type 0
OneOf P [] = ⊥
OneOf P (x ∷ xs) = P x ⊎ OneOf P xs

pub one-weaker : {X : Type 0} (P Q : X → Type 0) (xs : List X) → ((x : X) → P x → Q x) → OneOf P xs → OneOf Q xs
one-weaker P Q [] f h = h
one-weaker P Q (x ∷ xs) f (inl here) = inl (f x here)
one-weaker P Q (x ∷ xs) f (inr there) = inr (one-weaker P Q xs f there)

pub one-left : {X : Type 0} (P : X → Type 0) (xs ys : List X) → OneOf P xs → OneOf P (xs ++ ys)
one-left P [] ys h = absurd h
one-left P (x ∷ xs) ys (inl here) = inl here
one-left P (x ∷ xs) ys (inr there) = inr (one-left P xs ys there)

pub one-right : {X : Type 0} (P : X → Type 0) (xs ys : List X) → OneOf P ys → OneOf P (xs ++ ys)
one-right P [] ys h = h
one-right P (x ∷ xs) ys h = inr (one-right P xs ys h)

-- what holds of each holds of one
pub one-has : {X : Type 0} (P Q : X → Type 0) (xs : List X) → AllByRecursion P xs → OneOf Q xs → (x : X) × P x × Q x
one-has P Q [] all h = absurd h
one-has P Q (x ∷ xs) all (inl here) = (x, all.0, here)
one-has P Q (x ∷ xs) all (inr there) = one-has P Q xs all.1 there

-- and so by place
pub one-any : {X : Type 0} (P : X → Type 0) (xs : List X) → OneOf P xs → Any P xs
one-any P [] h = absurd h
one-any P (x ∷ xs) (inl here) = (0, x, omega arith, refl, here)
one-any P (x ∷ xs) (inr there) =
    let h = one-any P xs there in
    (suc h.0, h.1, (let low = h.2 in omega (arith, low)), h.3, h.4)

pub any-one : {X : Type 0} (P : X → Type 0) (xs : List X) → Any P xs → OneOf P xs
any-one P [] h = absurd (let low = h.2 in omega (arith, low))
any-one P (x ∷ xs) h = by h.0 h.2 h.3 (any-one P xs)
  where
    by : (place : ℕ) → place < length (x ∷ xs) → get_or (x ∷ xs) place h.1 ≡ h.1 → (Any P xs → OneOf P xs) → P x ⊎ OneOf P xs
    by zero low at rest = inl (subst P (sym at) h.4)
    by (suc place) low at rest = inr (rest (place, h.1, omega (arith, low), at, h.4))

-- what holds of each, and what holds too, both hold
pub every-both : {X : Type 0} (P Q : X → Type 0) (xs : List X) → AllByRecursion P xs → AllByRecursion Q xs → AllByRecursion (λ x. P x × Q x) xs
every-both P Q [] h k = tt
every-both P Q (x ∷ xs) h k = ((h.0, k.0), every-both P Q xs h.1 k.1)

-- ---- which quarantines are looked at

-- the step grants the quarantine of this token on this key
abbrev pub IsGrantOf : QKey → ℕ → Step → Type 0
IsGrantOf key token (step.Granted on sid mode shift now given deadline) = (key ≡ on) × (token ≡ given)
IsGrantOf key token other = ⊥

-- it is one of these
abbrev WasGrantedIn : QKey → List Step → Quar → Type 0
WasGrantedIn key past quar = OneOf (IsGrantOf key quar.token) past

granted-later : (key : QKey) (s : Step) (past : List Step) (quars : List Quar) → AllByRecursion (WasGrantedIn key past) quars
    → AllByRecursion (WasGrantedIn key (s ∷ past)) quars
granted-later key s past quars h =
    every-weaker (WasGrantedIn key past) (WasGrantedIn key (s ∷ past)) quars (λ quar was. inr was) h

-- also where each was changed but for its token
granted-changed : (key : QKey) (s : Step) (past : List Step) (b : Bool) (f : Quar → Quar) → ((quar : Quar) → (f quar).token ≡ quar.token)
    → AllByRecursion (WasGrantedIn key past) (standing key past)
    → AllByRecursion (WasGrantedIn key (s ∷ past)) (cond b (map f (standing key past)) (standing key past))
granted-changed key s past b f tokens h =
    let old = granted-later key s past (standing key past) h in
    cond_both b (map f (standing key past)) (standing key past) (AllByRecursion (WasGrantedIn key (s ∷ past)))
    (λ _. every-mapped (WasGrantedIn key (s ∷ past)) (WasGrantedIn key (s ∷ past)) f
    (λ quar was. subst (λ n. OneOf (IsGrantOf key n) (s ∷ past)) (sym (tokens quar)) was) (standing key past) old)
    (λ _. old)

-- each quarantine that stands was granted by a step of the past
pub standing-granted : (key : QKey) (past : List Step) → AllByRecursion (λ quar. OneOf (IsGrantOf key quar.token) past) (standing key past)
standing-granted key [] = tt
standing-granted key (step.Granted on sid mode shift now token deadline ∷ past) =
    let s = step.Granted on sid mode shift now token deadline in
    let new : Quar = record { sid = sid; mode = mode; token = token; deadline = deadline; shift = shift } in
    let old = granted-later key s past (standing key past) (standing-granted key past) in
    cond_both (same_key key on) (standing key past ++ new ∷ []) (standing key past) (AllByRecursion (WasGrantedIn key (s ∷ past)))
    (λ same. every-append (WasGrantedIn key (s ∷ past)) (standing key past) (new ∷ []) old (inl (same_key-true key on same, refl), tt))
    (λ _. old)
standing-granted key (step.Released on sid token how ∷ past) =
    let s = step.Released on sid token how in
    let old = granted-later key s past (standing key past) (standing-granted key past) in
    cond_both (same_key key on) (filter (λ quar. not (has_token token quar)) (standing key past))
    (standing key past) (AllByRecursion (WasGrantedIn key (s ∷ past)))
    (λ _. every-filter (WasGrantedIn key (s ∷ past)) (λ quar. not (has_token token quar)) (standing key past) old)
    (λ _. old)
standing-granted key (step.Hit on sid floor value stamp ∷ past) =
    granted-later key (step.Hit on sid floor value stamp) past (standing key past) (standing-granted key past)
standing-granted key (step.Lease on sid floor now token deadline ∷ past) =
    granted-later key (step.Lease on sid floor now token deadline) past (standing key past) (standing-granted key past)
standing-granted key (step.Again on sid floor now stands ∷ past) =
    granted-later key (step.Again on sid floor now stands) past (standing key past) (standing-granted key past)
standing-granted key (step.Own on sid ∷ past) = granted-later key (step.Own on sid) past (standing key past) (standing-granted key past)
standing-granted key (step.Stored on token now value stamp evicted ∷ past) =
    granted-later key (step.Stored on token now value stamp evicted) past (standing key past) (standing-granted key past)
standing-granted key (step.Void on token now ∷ past) = granted-later key (step.Void on token now) past (standing key past) (standing-granted key past)
standing-granted key (step.Held on sid mode ∷ past) = granted-later key (step.Held on sid mode) past (standing key past) (standing-granted key past)
standing-granted key (step.Refused on sid mode holder held ∷ past) =
    granted-later key (step.Refused on sid mode holder held) past (standing key past) (standing-granted key past)
standing-granted key (step.Gone on sid token ∷ past) = granted-later key (step.Gone on sid token) past (standing key past) (standing-granted key past)
standing-granted key (step.Shared on sid token holder ∷ past) =
    granted-later key (step.Shared on sid token holder) past (standing key past) (standing-granted key past)
standing-granted key (step.Raised on sid token ∷ past) =
    granted-changed key (step.Raised on sid token) past (same_key key on) (raised token) (λ quar. raised-same (λ q. q.token) token quar refl)
    (standing-granted key past)
standing-granted key (step.Renewed on sid token now deadline ∷ past) =
    granted-changed key (step.Renewed on sid token now deadline) past (same_key key on) (renewed token deadline)
    (λ quar. renewed-same (λ q. q.token) token deadline quar refl) (standing-granted key past)

-- where each has a token of its own, each is the one that is found by its token
pub found-own_token : (quars : List Quar) → AllOfOwnToken quars → AllByRecursion (λ quar. find (has_token quar.token) quars ≡ Some quar) quars
found-own_token [] h = tt
found-own_token (one ∷ quars) h =
    let itself : find (has_token one.token) (one ∷ quars) ≡ Some one =
    ap (λ b. cond b (Some one) (find (has_token one.token) quars)) (eq-eqb one.token one.token refl) in
    let P : Quar → Type 0 = λ quar. one.token ≢ quar.token in
    let Q : Quar → Type 0 = λ quar. find (has_token quar.token) quars ≡ Some quar in (
      itself,
      every-weaker (λ quar. P quar × Q quar) (λ quar. find (has_token quar.token) (one ∷ quars)
          ≡ Some quar) quars behind (every-both P Q quars h.0 (found-own_token quars h.1)),
    )
  where
    behind : (quar : Quar) → (one.token ≢ quar.token) × (find (has_token quar.token) quars ≡ Some quar) → find (has_token quar.token) (one ∷ quars) ≡ Some quar
    behind quar h =
        let apart : has_token quar.token one ≡ false = false_from_ne_true (has_token quar.token one) (λ same. h.0 (eqb-true one.token quar.token same)) in
        ap (λ b. cond b (Some one) (find (has_token quar.token) quars)) apart ∙ h.1

some_same : {a b : Quar} → Some a ≡ Some b → a ≡ b
some_same e = cc

-- what is found is there
pub found-there : (p : Quar → Bool) (quars : List Quar) (quar : Quar) → find p quars ≡ Some quar → OneOf (λ other. other ≡ quar) quars
found-there p [] quar e = cc
found-there p (one ∷ quars) quar e = by (p one) refl (found-there p quars quar)
  where
    by : (b : Bool) → p one ≡ b → (find p quars ≡ Some quar → OneOf (λ other. other ≡ quar) quars) → (one ≡ quar) ⊎ OneOf (λ other. other ≡ quar) quars
    by true h rest = inl (some_same (sym (ap (λ b. cond b (Some one) (find p quars)) h) ∙ e))
    by false h rest = inr (rest (sym (ap (λ b. cond b (Some one) (find p quars)) h) ∙ e))

-- ---- those that are due, listed by the steps that granted them

-- what the steps of this list granted, of what stands after the whole past and is due
abbrev listed : ℕ → List Step → List Step → List Due
listed now past steps = flat_map (due_by now past) steps

-- a quarantine that stands and is due is listed where it was granted
due-listed_by : (now : ℕ) (past : List Step) (s : Step) (key : QKey) (quar : Quar) → IsGrantOf key quar.token s → quar_of key quar.token past ≡ Some quar
    → quar.deadline ≤ now
    → OneOf (λ due. due ≡ due_as key quar) (due_by now past s)
due-listed_by now past (step.Granted on sid mode shift at token deadline) key quar is stands late =
    let P : List Due → Type 0 = OneOf (λ due. due ≡ due_as key quar) in
    let found : quar_of on token past ≡ Some quar = ap (λ k. quar_of k token past) (sym is.0) ∙ ap (λ t. quar_of key t past) (sym is.1) ∙ stands in
    let passed : nat_le quar.deadline now ≡ true = grind (arith, nat_tests) in
    subst (λ found. P (due_now now on found)) (sym found)
    (subst (λ b. P (cond b (due_as on quar ∷ []) [])) (sym passed) (inl (ap (λ k. due_as k quar) (sym is.0))))
due-listed_by now past (step.Hit on sid floor value stamp) key quar is stands late = absurd is
due-listed_by now past (step.Lease on sid floor at token deadline) key quar is stands late = absurd is
due-listed_by now past (step.Again on sid floor at standing) key quar is stands late = absurd is
due-listed_by now past (step.Own on sid) key quar is stands late = absurd is
due-listed_by now past (step.Stored on token at value stamp evicted) key quar is stands late = absurd is
due-listed_by now past (step.Void on token at) key quar is stands late = absurd is
due-listed_by now past (step.Held on sid mode) key quar is stands late = absurd is
due-listed_by now past (step.Refused on sid mode holder held) key quar is stands late = absurd is
due-listed_by now past (step.Released on sid token how) key quar is stands late = absurd is
due-listed_by now past (step.Gone on sid token) key quar is stands late = absurd is
due-listed_by now past (step.Raised on sid token) key quar is stands late = absurd is
due-listed_by now past (step.Shared on sid token holder) key quar is stands late = absurd is
due-listed_by now past (step.Renewed on sid token at deadline) key quar is stands late = absurd is

due-listed : (now : ℕ) (past steps : List Step) (key : QKey) (quar : Quar) → OneOf (IsGrantOf key quar.token) steps → quar_of key quar.token past ≡ Some quar
    → quar.deadline ≤ now
    → OneOf (λ due. due ≡ due_as key quar) (listed now past steps)
due-listed now past [] key quar was stands late = absurd was
due-listed now past (s ∷ steps) key quar was stands late =
    let P : Due → Type 0 = λ due. due ≡ due_as key quar in
    subst (OneOf P) (sym (flat_map-cons (due_by now past) s steps)) (elim was [
      | inl here ↦ one-left P (due_by now past s) (listed now past steps) (due-listed_by now past s key quar here stands late)
      | inr there ↦ one-right P (due_by now past s) (listed now past steps) (due-listed now past steps key quar there stands late)
    ])

-- one of these is due, and is told as this
abbrev pub IsToldOf : ℕ → QKey → Due → Quar → Type 0
IsToldOf now key due quar = IsDue now quar × (due ≡ due_as key quar)

-- what is listed stands and is due
abbrev StandsListed : ℕ → List Step → Due → Type 0
StandsListed now past due = OneOf (IsToldOf now due.key due) (standing due.key past)

listed-due_now : (now : ℕ) (past : List Step) (key : QKey) (token : ℕ) (found : Option Quar) → quar_of key token past ≡ found
    → AllByRecursion (StandsListed now past) (due_now now key found)
listed-due_now now past key token None e = tt
listed-due_now now past key token (Some quar) e =
    let there = found-there (has_token token) (standing key past) quar e in
    cond_both (nat_le quar.deadline now) (due_as key quar ∷ []) [] (AllByRecursion (StandsListed now past))
    (λ passed. let late : quar.deadline ≤ now = grind (arith, nat_tests) in (
      one-weaker (λ other. other ≡ quar) (IsToldOf now key (due_as key quar))
          (standing key past) (λ other same. subst (IsToldOf now key (due_as key quar)) (sym same) (late, refl)) there,
      tt,
    ))
    (λ _. tt)

listed-due_by : (now : ℕ) (past : List Step) (s : Step) → AllByRecursion (StandsListed now past) (due_by now past s)
listed-due_by now past (step.Granted on sid mode shift at token deadline) = listed-due_now now past on token (quar_of on token past) refl
listed-due_by now past (step.Hit on sid floor value stamp) = tt
listed-due_by now past (step.Lease on sid floor at token deadline) = tt
listed-due_by now past (step.Again on sid floor at standing) = tt
listed-due_by now past (step.Own on sid) = tt
listed-due_by now past (step.Stored on token at value stamp evicted) = tt
listed-due_by now past (step.Void on token at) = tt
listed-due_by now past (step.Held on sid mode) = tt
listed-due_by now past (step.Refused on sid mode holder held) = tt
listed-due_by now past (step.Released on sid token how) = tt
listed-due_by now past (step.Gone on sid token) = tt
listed-due_by now past (step.Raised on sid token) = tt
listed-due_by now past (step.Shared on sid token holder) = tt
listed-due_by now past (step.Renewed on sid token at deadline) = tt

listed-due : (now : ℕ) (past steps : List Step) → AllByRecursion (StandsListed now past) (listed now past steps)
listed-due now past [] = tt
listed-due now past (s ∷ steps) =
    let P = StandsListed now past in
    subst (AllByRecursion P) (sym (flat_map-cons (due_by now past) s steps))
    (every-append P (due_by now past s) (listed now past steps) (listed-due_by now past s) (listed-due now past steps))

-- ---- the first of a list

-- none comes before itself; of two one comes first; and what comes after one that is no earlier comes after it
before-self : (a : Due) → comes_before a a ≡ false
before-self a = grind (arith, nat_tests)

before-other : (a b : Due) → comes_before a b ≡ true → comes_before b a ≡ false
before-other a b h = grind (arith, nat_tests)

before-none : (a b c : Due) → comes_before a b ≡ false → comes_before b c ≡ false → comes_before a c ≡ false
before-none a b c h k = grind (arith, nat_tests)

-- it is one of these, and none of these comes before it; there is none where there are none
abbrev pub IsFirstOf : List Due → Option Due → Type 0
IsFirstOf dues None = dues ≡ []
IsFirstOf dues (Some due) = OneOf (λ other. other ≡ due) dues × AllByRecursion (λ other. comes_before other due ≡ false) dues

pub first-of : (dues : List Due) → IsFirstOf dues (first_of dues)
first-of [] = refl
first-of (due ∷ dues) = by (first_of dues) (first-of dues)
  where
    by : (first : Option Due) → IsFirstOf dues first → IsFirstOf (due ∷ dues) (sooner due first)
    by None none = (inl refl, (before-self due, subst (AllByRecursion (λ other. comes_before other due ≡ false)) (sym none) tt))
    by (Some first) h =
        cond_both (comes_before first due) (Some first) (Some due) (IsFirstOf (due ∷ dues))
        (λ before. (inr h.0, (before-other first due before, h.1)))
        (λ after. (
          inl refl,
          (
            before-self due,
            every-weaker (λ other. comes_before other first ≡ false) (λ other. comes_before other due
                ≡ false) dues (λ other later. before-none other first due later after) h.1,
          ),
        ))

-- ---- the first that is due

-- what a scan tells, by what stands on each key
abbrev pub IsFirstDue : ℕ → (QKey → List Quar) → Option Due → Type 0
IsFirstDue now stands None = NoneDue now stands
IsFirstDue now stands (Some due) = StandsDue now stands due × NoneDueBefore now stands due

-- each key's quarantines have tokens of their own
abbrev pub AreOfOwnToken : (QKey → List Quar) → Type 0
AreOfOwnToken stands = (key : QKey) → AllOfOwnToken (stands key)

-- what is found by looking back is that
pub first_due-is : (now : ℕ) (past : List Step) → AreOfOwnToken (λ key. standing key past) → IsFirstDue now (λ key. standing key past) (first_due now past)
first_due-is now past own = by (first_due now past) (first-of (listed now past past))
  where
    stands : QKey → List Quar
    stands key = standing key past

    -- each quarantine that stands on a key is listed, if it is due
    each : (key : QKey) → AllByRecursion (λ quar. quar.deadline ≤ now → OneOf (λ due. due ≡ due_as key quar) (listed now past past)) (stands key)
    each key =
        every-weaker (λ quar. OneOf (IsGrantOf key quar.token) past × (quar_of key quar.token past ≡ Some quar)) (λ quar. quar.deadline ≤ now
        → OneOf (λ due. due ≡ due_as key quar) (listed now past past)) (stands key)
        (λ quar h late. due-listed now past past key quar h.0 h.1 late)
        (every-both (λ quar. OneOf (IsGrantOf key quar.token) past) (λ quar. quar_of key quar.token past
        ≡ Some quar) (stands key) (standing-granted key past) (found-own_token (stands key) (own key)))

    all : (P : QKey → Quar → Type 0)
        → ((key : QKey) (quar : Quar) → (quar.deadline ≤ now → OneOf (λ due. due ≡ due_as key quar) (listed now past past)) → P key quar) → (key : QKey)
        → All (P key) (stands key)
    all P f key = All-from_recursion (P key) (stands key) (every-weaker _ (P key) (stands key) (f key) (each key))

    ahead : listed now past past ≡ [] → (key : QKey) (quar : Quar) → (quar.deadline ≤ now → OneOf (λ due. due ≡ due_as key quar) (listed now past past))
        → now < quar.deadline
    ahead none key quar h =
        let no : quar.deadline ≤ now → ⊥ = λ late. subst (OneOf (λ due. due ≡ due_as key quar)) none (h late) in
        omega (arith, no)

    by : (found : Option Due) → IsFirstOf (listed now past past) found → IsFirstDue now stands found
    by None none = all (λ key quar. now < quar.deadline) (ahead none)
    by (Some due) h =
        let least = h.1 in
        let there = one-has (StandsListed now past) (λ other. other ≡ due) (listed now past past) (listed-due now past past) h.0 in (
          one-any (IsToldOf now due.key due) (stands due.key) (subst (StandsListed now past) there.2 there.1),
          all (λ key quar. IsDue now quar → comes_before (due_as key quar) due ≡ false) (λ key quar there late.
              let one = one-has (λ other. comes_before other due ≡ false) (λ other. other ≡ due_as key quar) (listed now past past) least (there late) in
              subst (λ other. comes_before other due ≡ false) one.2 one.1),
        )

-- two places of which neither comes before the other are of one key and token
same-place : (a b : Due) → comes_before a b ≡ false → comes_before b a ≡ false → (same_key a.key b.key ≡ true) × (a.token ≡ b.token)
same-place a b h k =
    let same : same_key a.key b.key ≡ true = grind (arith, nat_tests) in
    (same, grind (arith, nat_tests))

-- of what stands on a key one is told this way at most
pub same-due : (quars : List Quar) (key : QKey) (a b : Quar) → AllOfOwnToken quars → OneOf (λ quar. quar ≡ a) quars → OneOf (λ quar. quar ≡ b) quars
    → a.token ≡ b.token → a ≡ b
same-due quars key a b own here there same =
    some_same (sym (find-there a here) ∙ ap (λ t. find (has_token t) quars) same ∙ find-there b there)
  where
    find-there : (one : Quar) → OneOf (λ quar. quar ≡ one) quars → find (has_token one.token) quars ≡ Some one
    find-there one is =
        let found = one-has (λ quar. find (has_token quar.token) quars ≡ Some quar) (λ quar. quar ≡ one) quars (found-own_token quars own) is in
        subst (λ quar. find (has_token quar.token) quars ≡ Some quar) found.2 found.1

-- what stands and is told
due-there : (now : ℕ) (key : QKey) (due : Due) (quars : List Quar) → OneOf (IsToldOf now key due) quars
    → (quar : Quar) × OneOf (λ other. other ≡ quar) quars × IsToldOf now key due quar
due-there now key due [] h = absurd h
due-there now key due (one ∷ quars) (inl here) = (one, inl refl, here)
due-there now key due (one ∷ quars) (inr there) =
    let h = due-there now key due quars there in
    (h.0, inr h.1, h.2)

-- where nothing is due nothing due stands
none-stands : (now : ℕ) (stands : QKey → List Quar) (due : Due) → NoneDue now stands → StandsDue now stands due → ⊥
none-stands now stands due none there =
    let one =
    one-has (λ quar. now < quar.deadline) (IsToldOf now due.key due) (stands due.key)
    (recursion_from_All (λ quar. now < quar.deadline) (stands due.key) (none due.key)) (any-one (IsToldOf now due.key due) (stands due.key) there) in
    let ahead = one.1 in
    let late = one.2.0 in
    omega (arith, ahead, late)

-- what stands and is due doesn't come before the first
none-before : (now : ℕ) (stands : QKey → List Quar) (first due : Due) → NoneDueBefore now stands first
    → (quar : Quar) × OneOf (λ other. other ≡ quar) (stands due.key) × IsToldOf now due.key due quar → comes_before due first ≡ false
none-before now stands first due none there =
    let P : Quar → Type 0 = λ quar. IsDue now quar → comes_before (due_as due.key quar) first ≡ false in
    let one = one-has P (λ other. other ≡ there.0) (stands due.key) (recursion_from_All P (stands due.key) (none due.key)) there.1 in
    let here : P there.0 = subst P one.2 one.1 in
    subst (λ d. comes_before d first ≡ false) (sym there.2.1) (here there.2.0)

-- where each key's quarantines have tokens of their own, a scan can tell one thing only
pub one-first_due : (now : ℕ) (stands : QKey → List Quar) (a b : Option Due) → AreOfOwnToken stands → IsFirstDue now stands a → IsFirstDue now stands b → a ≡ b
one-first_due now stands None None own h k = refl
one-first_due now stands None (Some due) own h k = absurd (none-stands now stands due h k.0)
one-first_due now stands (Some due) None own h k = absurd (none-stands now stands due k h.0)
one-first_due now stands (Some a) (Some b) own h k =
    let p = due-there now a.key a (stands a.key) (any-one (IsToldOf now a.key a) (stands a.key) h.0) in
    let q = due-there now b.key b (stands b.key) (any-one (IsToldOf now b.key b) (stands b.key) k.0) in
    let before = none-before now stands a b h.1 q in
    let after = none-before now stands b a k.1 p in
    let one = same-place b a before after in
    let keys : b.key ≡ a.key = same_key-true b.key a.key one.0 in
    let theirs : OneOf (λ other. other ≡ q.0) (stands a.key) = subst (λ key. OneOf (λ other. other ≡ q.0) (stands key)) keys q.1 in
    let tokens : p.0.token ≡ q.0.token = sym (ap (λ d. d.token) p.2.1) ∙ sym one.1 ∙ ap (λ d. d.token) q.2.1 in
    let quars : p.0 ≡ q.0 = same-due (stands a.key) a.key p.0 q.0 (own a.key) p.1 theirs tokens in
    ap Some (p.2.1 ∙ ap (due_as a.key) quars ∙ ap (λ key. due_as key q.0) (sym keys) ∙ sym q.2.1)

-- after a legal past what a scan tells is what is found by looking back
pub first_due-one : (terms : Terms) (past : List Step) (now : ℕ) (found : Option Due) → IsLegalPast terms past
    → IsFirstDue now (λ key. standing key past) found → found ≡ first_due now past
first_due-one terms past now found legal h =
    one-first_due now (λ key. standing key past) found (first_due now past) own h (first_due-is now past own)
  where
    own : AreOfOwnToken (λ key. standing key past)
    own key = distinct terms past key (legal_stands_well terms past legal key)

-- so is what is told by a table that has what stands on each key
pub first_due-found : (terms : Terms) (past : List Step) (now : ℕ) (stands : QKey → List Quar) (found : Option Due) → IsLegalPast terms past
    → ((key : QKey) → stands key ≡ standing key past)
    → IfSome found (StandsDue now stands) → IfSome found (NoneDueBefore now stands) → IfNone found (NoneDue now stands) → found ≡ first_due now past
first_due-found terms past now stands found legal same due least none =
    first_due-one terms past now found legal (subst (λ (f : QKey → List Quar). IsFirstDue now f found) (λ i key. same key i) (by found due least none))
  where
    by : (found : Option Due) → IfSome found (StandsDue now stands) → IfSome found (NoneDueBefore now stands) → IfNone found (NoneDue now stands)
        → IsFirstDue now stands found
    by None due least none = none
    by (Some one) due least none = (due, least)
