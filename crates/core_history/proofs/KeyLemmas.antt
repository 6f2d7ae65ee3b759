-- Which steps leave what stands on a key, that what stands was granted, and which tokens steps draw.
use Rattle.std.proofs.Common.{ℕ, ◌≡◌, ◌<◌, ◌≤◌, ◌+◌, ◌==◌, Bool, true, false, not, cond, ◌&&◌, ◌||◌, List, [], ◌∷◌, ◌++◌, map, filter, find}
use Rattle.std.proofs.Common.{Some, refl, sym, ap, subst, ◌∙◌, inl, inr, ◌⊎◌, arith}
use Rattle.std.specs.List.{AllByRecursion, list_any}
use Rattle.std.proofs.lemmas.Bool.{false≢true, eqb-true, eq-eqb}
use Rattle.std.proofs.lemmas.List.Folds.{list_any-append}
use Rattle.rows_model.specs.declared.keys.QKey.{QKey}
use Rattle.rows_model.specs.declared.keys.Sid.{Sid}
use Rattle.rows_model.specs.Key.{same_key}
use Rattle.rows_model.proofs.SameKey.{same_key-true}
use Rattle.lease_table.specs.declared.records.Quar.{Quar}
use Rattle.lease_table.specs.Leases.{is_of, has_token, raised, renewed}
use Rattle.key_shard.specs.Permit.{Permit}
use Rattle.key_shard.specs.declared.steps.Step.{Step}
use Rattle.key_shard.specs.declared.steps.Step.TheVariants as step
use Rattle.key_shard.specs.Past.{Terms, standing, quar_of, draws, next_token, grants}
use Rattle.key_shard.specs.Answers.{Request, Get, Set, Quarantine, Release, Replace, Raise, Renew, Answers, IsAtHome, IsLegalPast}
use Rattle.key_shard.specs.Answers.{step_of, key_of}
use Rattle.key_shard.specs.Shards.{out_after}
use Rattle.key_shard.proofs.CaseLemmas.{got_cases, set_cases, quarantine_cases, release_cases, replace_cases, raise_cases, renew_cases}
use Rattle.key_shard.proofs.LegalLemmas.{AllOfOwnToken}
use Rattle.key_shard.proofs.OneStepLemmas.{next_drawn}
use Rattle.key_shard.proofs.PermitLemmas.{is_of_permit, find_permit}
use Rattle.key_shard.proofs.PlaceLemmas.{ended-adds_none}
use Rattle.key_shard.proofs.RaiseLemmas.{any-mapped, every-mapped, raised-same, renewed-same, quar-raised, quar-renewed, raised-sid, renewed-sid}
use Rattle.key_shard.proofs.RaiseLemmas.{raised-apart, renewed-mode}
use Rattle.sql_keeper.specs.Fresh.{quarantines}
use Rattle.core_history.specs.Facts.{grants_as}
use Rattle.core_history.proofs.ListLemmas.{choose, or_inl, or_inr, or_elim, and_elim, not_true, any-filter, every-weaker, every-append}
use Rattle.core_history.proofs.ListLemmas.{every-filter, every-found, find-front, count-append, every-any}

-- a step that neither grants nor ends a quarantine, and neither raises nor renews one
abbrev pub IsQuietStep : Step → Type 0
IsQuietStep (step.Granted on sid mode shift now token deadline) = ⊥
IsQuietStep (step.Released on sid token how) = ⊥
IsQuietStep (step.Raised on sid token) = ⊥
IsQuietStep (step.Renewed on sid token now deadline) = ⊥
IsQuietStep other = Unit {0}

-- a step that neither raises nor renews a quarantine
abbrev pub IsSteady : Step → Type 0
IsSteady (step.Raised on sid token) = ⊥
IsSteady (step.Renewed on sid token now deadline) = ⊥
IsSteady other = Unit {0}

-- whether a step grants the quarantine of this token on the key anew
abbrev pub news_as : QKey → ℕ → Step → Bool
news_as key token (step.Granted on sid mode shift now given deadline) = same_key key on && (given == token)
news_as key token other = false

-- a step that grants or raises none grants none anew
pub not_new : (key : QKey) (token : ℕ) (s : Step) → grants_as key token s ≡ false → news_as key token s ≡ false
not_new key token (step.Granted on sid mode shift now given deadline) none = none
not_new key token other none = refl

pub quiet-stands : (s : Step) → IsQuietStep s → (key : QKey) (past : List Step) → standing key (s ∷ past) ≡ standing key past
quiet-stands (step.Granted on sid mode shift now token deadline) quiet key past = absurd quiet
quiet-stands (step.Released on sid token how) quiet key past = absurd quiet
quiet-stands (step.Raised on sid token) quiet key past = absurd quiet
quiet-stands (step.Renewed on sid token now deadline) quiet key past = absurd quiet
quiet-stands other quiet key past = refl

pub quiet-grants : (s : Step) → IsQuietStep s → (key : QKey) (who : Sid) → quarantines key who s ≡ false
quiet-grants (step.Granted on sid mode shift now token deadline) quiet key who = absurd quiet
quiet-grants other quiet key who = refl

pub quiet-as : (s : Step) → IsQuietStep s → (key : QKey) (token : ℕ) → grants_as key token s ≡ false
quiet-as (step.Granted on sid mode shift now given deadline) quiet key token = absurd quiet
quiet-as (step.Raised on sid given) quiet key token = absurd quiet
quiet-as other quiet key token = refl

pub quiet-out : (s : Step) → IsQuietStep s → (terms : Terms) (out : List Permit) → out_after terms s out ≡ out
quiet-out (step.Granted on sid mode shift now token deadline) quiet terms out = absurd quiet
quiet-out (step.Raised on sid token) quiet terms out = absurd quiet
quiet-out other quiet terms out = refl

-- a session whose quarantine stands was granted it
any_pushed : (who : Sid) (quars : List Quar) (quar : Quar) → list_any (is_of who) (quars ++ quar ∷ []) ≡ true
    → (list_any (is_of who) quars ≡ true) ⊎ (is_of who quar ≡ true)
any_pushed who quars quar h =
    elim (or_elim (list_any (is_of who) quars) (is_of who quar || false) (sym (list_any-append (is_of who) quars (quar ∷ [])) ∙ h)) [
      | inl old ↦ inl old
      | inr new ↦ elim (or_elim (is_of who quar) false new) [
        | inl is ↦ inr is
        | inr e ↦ absurd (false≢true e)
      ]
    ]

any_kept : (p q : Quar → Bool) (quars : List Quar) → list_any p (filter q quars) ≡ true → list_any p quars ≡ true
any_kept p q [] h = h
any_kept p q (quar ∷ quars) h =
    choose (λ l. list_any p l ≡ true → list_any p (quar ∷ quars) ≡ true) (q quar) (quar ∷ filter q quars) (filter q quars)
    (λ _ some. elim (or_elim (p quar) (list_any p (filter q quars)) some) [
      | inl here ↦ or_inl (p quar) (list_any p quars) here
      | inr there ↦ or_inr (p quar) (list_any p quars) (any_kept p q quars there)
    ])
    (λ _ some. or_inr (p quar) (list_any p quars) (any_kept p q quars some)) h

pub granted_standing : (key : QKey) (who : Sid) (past : List Step)
    → list_any (is_of who) (standing key past) ≡ true → list_any (quarantines key who) past ≡ true
granted_standing key who [] h = h
granted_standing key who (step.Granted on sid mode shift now token deadline ∷ past) h =
    let quar : Quar = record { sid = sid; mode = mode; token = token; deadline = deadline; shift = shift } in
    choose (λ l. list_any (is_of who) l ≡ true → (same_key key on && (sid.number == who.number) || list_any (quarantines key who) past)
    ≡ true) (same_key key on) (standing key past ++ quar ∷ []) (standing key past)
    (λ same some. elim (any_pushed who (standing key past) quar some) [
      | inl old ↦ or_inr _ _ (granted_standing key who past old)
      | inr new ↦ or_inl _ _ (ap (λ b. b && (sid.number == who.number)) same ∙ new)
    ])
    (λ _ some. or_inr _ _ (granted_standing key who past some)) h
granted_standing key who (step.Released on sid token how ∷ past) h =
    choose (λ l. list_any (is_of who) l ≡ true
    → list_any (quarantines key who) past ≡ true) (same_key key on) (filter (λ quar. not (has_token token quar)) (standing key past)) (standing key past)
    (λ _ some. granted_standing key who past (any_kept (is_of who) (λ quar. not (has_token token quar)) (standing key past) some))
    (λ _ some. granted_standing key who past some) h
granted_standing key who (step.Hit on sid floor value stamp ∷ past) h = granted_standing key who past h
granted_standing key who (step.Lease on sid floor now token deadline ∷ past) h = granted_standing key who past h
granted_standing key who (step.Again on sid floor now stands ∷ past) h = granted_standing key who past h
granted_standing key who (step.Own on sid ∷ past) h = granted_standing key who past h
granted_standing key who (step.Stored on token now value stamp evicted ∷ past) h = granted_standing key who past h
granted_standing key who (step.Void on token now ∷ past) h = granted_standing key who past h
granted_standing key who (step.Held on sid mode ∷ past) h = granted_standing key who past h
granted_standing key who (step.Refused on sid mode holder held ∷ past) h = granted_standing key who past h
granted_standing key who (step.Gone on sid token ∷ past) h = granted_standing key who past h
granted_standing key who (step.Raised on sid token ∷ past) h =
    choose (λ l. list_any (is_of who) l ≡ true
    → list_any (quarantines key who) past ≡ true) (same_key key on) (map (raised token) (standing key past)) (standing key past)
    (λ _ some. granted_standing key who past
    (sym (any-mapped (is_of who) (raised token) (λ q. raised-same (is_of who) token q refl) (standing key past)) ∙ some))
    (λ _ some. granted_standing key who past some) h
granted_standing key who (step.Shared on sid token holder ∷ past) h = granted_standing key who past h
granted_standing key who (step.Renewed on sid token now deadline ∷ past) h =
    choose (λ l. list_any (is_of who) l ≡ true
    → list_any (quarantines key who) past ≡ true) (same_key key on) (map (renewed token deadline) (standing key past)) (standing key past)
    (λ _ some. granted_standing key who past
    (sym (any-mapped (is_of who) (renewed token deadline) (λ q. renewed-same (is_of who) token deadline q refl) (standing key past)) ∙ some))
    (λ _ some. granted_standing key who past some) h

-- each quarantine that stands is as the step says that granted it, and stays so where it is raised or renewed
abbrev pub GrantsSo : (QKey → Quar → Type 0) → Step → Type 0
GrantsSo P (step.Granted on sid mode shift now token deadline) = P on (record { sid = sid; mode = mode; token = token; deadline = deadline; shift = shift })
GrantsSo P (step.Raised on sid token) = (quar : Quar) → P on quar → P on (raised token quar)
GrantsSo P (step.Renewed on sid token now deadline) = (quar : Quar) → P on quar → P on (renewed token deadline quar)
GrantsSo P other = Unit {0}

-- what is so of a quarantine by its token and its session alone
abbrev pub IsOfOwner : (QKey → Quar → Type 0) → Type 0
IsOfOwner P = (key : QKey) (old new : Quar) → new.token ≡ old.token → new.sid ≡ old.sid → P key old → P key new

-- stays so
pub raised-so : (P : QKey → Quar → Type 0) → IsOfOwner P → (on : QKey) (token : ℕ) (quar : Quar) → P on quar → P on (raised token quar)
raised-so P owner on token quar h =
    owner on quar (raised token quar)
    (raised-same (λ (q : Quar). q.token) token quar refl) (raised-same (λ (q : Quar). q.sid) token quar refl) h

pub renewed-so : (P : QKey → Quar → Type 0) → IsOfOwner P → (on : QKey) (token deadline : ℕ) (quar : Quar) → P on quar → P on (renewed token deadline quar)
renewed-so P owner on token deadline quar h =
    owner on quar (renewed token deadline quar)
    (renewed-same (λ (q : Quar). q.token) token deadline quar refl) (renewed-same (λ (q : Quar). q.sid) token deadline quar refl) h

pub standing-every : (P : QKey → Quar → Type 0) (key : QKey) (past : List Step) → AllByRecursion (GrantsSo P) past → AllByRecursion (P key) (standing key past)
standing-every P key [] h = tt
standing-every P key (step.Granted on sid mode shift now token deadline ∷ past) h =
    let quar : Quar = record { sid = sid; mode = mode; token = token; deadline = deadline; shift = shift } in
    let old = standing-every P key past h.1 in
    choose (AllByRecursion (P key)) (same_key key on) (standing key past ++ quar ∷ []) (standing key past)
    (λ same. every-append (P key) (standing key past) (quar ∷ []) old (subst (λ k. P k quar) (sym (same_key-true key on same)) h.0, tt))
    (λ _. old)
standing-every P key (step.Released on sid token how ∷ past) h =
    let old = standing-every P key past h.1 in
    choose (AllByRecursion (P key)) (same_key key on) (filter (λ quar. not (has_token token quar)) (standing key past)) (standing key past)
    (λ _. every-filter (P key) (λ quar. not (has_token token quar)) (standing key past) old)
    (λ _. old)
standing-every P key (step.Hit on sid floor value stamp ∷ past) h = standing-every P key past h.1
standing-every P key (step.Lease on sid floor now token deadline ∷ past) h = standing-every P key past h.1
standing-every P key (step.Again on sid floor now stands ∷ past) h = standing-every P key past h.1
standing-every P key (step.Own on sid ∷ past) h = standing-every P key past h.1
standing-every P key (step.Stored on token now value stamp evicted ∷ past) h = standing-every P key past h.1
standing-every P key (step.Void on token now ∷ past) h = standing-every P key past h.1
standing-every P key (step.Held on sid mode ∷ past) h = standing-every P key past h.1
standing-every P key (step.Refused on sid mode holder held ∷ past) h = standing-every P key past h.1
standing-every P key (step.Gone on sid token ∷ past) h = standing-every P key past h.1
standing-every P key (step.Raised on sid token ∷ past) h =
    let old = standing-every P key past h.1 in
    choose (AllByRecursion (P key)) (same_key key on) (map (raised token) (standing key past)) (standing key past)
    (λ same. every-mapped (P key) (P key) (raised token)
    (λ q. subst (λ k. P k q → P k (raised token q)) (sym (same_key-true key on same)) (h.0 q)) (standing key past) old)
    (λ _. old)
standing-every P key (step.Shared on sid token holder ∷ past) h = standing-every P key past h.1
standing-every P key (step.Renewed on sid token now deadline ∷ past) h =
    let old = standing-every P key past h.1 in
    choose (AllByRecursion (P key)) (same_key key on) (map (renewed token deadline) (standing key past)) (standing key past)
    (λ same. every-mapped (P key) (P key) (renewed token deadline)
    (λ q. subst (λ k. P k q → P k (renewed token deadline q)) (sym (same_key-true key on same)) (h.0 q)) (standing key past) old)
    (λ _. old)

pub quar-every : (P : QKey → Quar → Type 0) (key : QKey) (token : ℕ) (past : List Step) (quar : Quar)
    → AllByRecursion (GrantsSo P) past → quar_of key token past ≡ Some quar → P key quar × (quar.token ≡ token)
quar-every P key token past quar h found =
    let is = every-found (P key) (has_token token) (standing key past) quar (standing-every P key past h) found in
    (is.0, eqb-true quar.token token is.1)

-- the end of one session's quarantine leaves each that stands for another
same_quar : {a b : Quar} → Some a ≡ Some b → a ≡ b
same_quar e = cc

pub stays-apart : (grant : Permit) (gone : ℕ) (quar : Quar) (quars : List Quar)
    → AllOfOwnToken quars → list_any (is_of_permit grant) quars ≡ true → find (has_token gone) quars ≡ Some quar
    → (quar.sid.number ≡ grant.sid.number → ⊥) → list_any (is_of_permit grant) (filter (λ q. not (has_token gone q)) quars) ≡ true
stays-apart grant gone quar quars distinct mine found other =
    any-filter (is_of_permit grant) (λ q. not (has_token gone q)) quars (each quars) mine
  where
    apart : grant.token ≡ gone → ⊥
    apart same =
        let at = find_permit grant quars distinct mine in
        let one : at.0 ≡ quar = same_quar (sym at.1 ∙ ap (λ t. find (has_token t) quars) same ∙ found) in
        other (ap (λ (q : Quar). q.sid.number) (sym one) ∙ ap (λ (s : Sid). s.number) at.2.sid)

    each : (l : List Quar) → AllByRecursion (λ q. is_of_permit grant q ≡ true → not (has_token gone q) ≡ true) l
    each [] = tt
    each (q ∷ l) = (
      (λ is. ap not (not_true (has_token gone q) (λ same. apart (sym (eqb-true q.token grant.token (and_elim _ _ is).1) ∙ eqb-true q.token gone same)))),
      each l,
    )

-- no step that neither raises nor renews brings back a quarantine of a token that it doesn't grant
pub quar-old : (s : Step) (key : QKey) (token : ℕ) (past : List Step) (quar : Quar) → IsSteady s
    → news_as key token s ≡ false → quar_of key token (s ∷ past) ≡ Some quar → quar_of key token past ≡ Some quar
quar-old (step.Granted on sid mode shift now given deadline) key token past quar steady none =
    let new : Quar = record { sid = sid; mode = mode; token = given; deadline = deadline; shift = shift } in
    let xs = standing key past in
    choose (λ l. find (has_token token) l ≡ Some quar → find (has_token token) xs ≡ Some quar) (same_key key on) (xs ++ new ∷ []) xs
    (λ same h. find-front (has_token token) xs new quar (sym (ap (λ b. b && (given == token)) same) ∙ none) h)
    (λ _ h. h)
quar-old (step.Released on sid gone how) key token past quar steady none = ended-adds_none past on sid gone how key token quar
quar-old (step.Hit on sid floor value stamp) key token past quar steady none = λ h. h
quar-old (step.Lease on sid floor now given deadline) key token past quar steady none = λ h. h
quar-old (step.Again on sid floor now stands) key token past quar steady none = λ h. h
quar-old (step.Own on sid) key token past quar steady none = λ h. h
quar-old (step.Stored on given now value stamp evicted) key token past quar steady none = λ h. h
quar-old (step.Void on given now) key token past quar steady none = λ h. h
quar-old (step.Held on sid mode) key token past quar steady none = λ h. h
quar-old (step.Refused on sid mode holder held) key token past quar steady none = λ h. h
quar-old (step.Gone on sid given) key token past quar steady none = λ h. h
quar-old (step.Raised on sid given) key token past quar steady none = absurd steady
quar-old (step.Shared on sid given holder) key token past quar steady none = λ h. h
quar-old (step.Renewed on sid given now deadline) key token past quar steady none = absurd steady

-- a quarantine of the same session stands under the token
abbrev pub StandsAs : QKey → ℕ → List Step → Quar → Type 0
StandsAs key token past quar = (old : Quar) × (quar_of key token past ≡ Some old) × (old.sid ≡ quar.sid)

-- whatever the step, a quarantine of a token that it doesn't grant stood before, in whichever mode and until whichever deadline
pub quar-was : (s : Step) (key : QKey) (token : ℕ) (past : List Step) (quar : Quar)
    → news_as key token s ≡ false → quar_of key token (s ∷ past) ≡ Some quar → StandsAs key token past quar
quar-was (step.Raised on sid given) key token past quar none h =
    let was = quar-raised past on sid given key token quar h in
    (was.0, was.1, raised-sid given (same_key key on) was.0 quar was.2)
quar-was (step.Renewed on sid given now deadline) key token past quar none h =
    let was = quar-renewed past on sid given now deadline key token quar h in
    (was.0, was.1, renewed-sid given deadline (same_key key on) was.0 quar was.2)
quar-was other key token past quar none h = (quar, quar-old other key token past quar tt none h, refl)

-- a quarantine of the same mode stands under the token
abbrev pub StandsIn : QKey → ℕ → List Step → Quar → Type 0
StandsIn key token past quar = (old : Quar) × (quar_of key token past ≡ Some old) × (old.mode ≡ quar.mode)

-- a raise of another token, or on another key, leaves the mode of a quarantine
raised-mode : (given token : ℕ) (b : Bool) (old quar : Quar) → (b && (given == token)) ≡ false → old.token ≡ token
    → cond b (raised given old) old ≡ quar → old.mode ≡ quar.mode
raised-mode given token false old quar none its e = ap (λ (q : Quar). q.mode) e
raised-mode given token true old quar none its e =
    ap (λ (q : Quar). q.mode) (sym (raised-apart given old (not_true (has_token given old) (λ same.
    false≢true (sym none ∙ eq-eqb given token (sym (eqb-true old.token given same) ∙ its))))) ∙ e)

-- whatever the step, a quarantine of a token that it neither grants nor raises stood before in its mode
pub quar-kept : (s : Step) (key : QKey) (token : ℕ) (past : List Step) (quar : Quar)
    → grants_as key token s ≡ false → quar_of key token (s ∷ past) ≡ Some quar → StandsIn key token past quar
quar-kept (step.Raised on sid given) key token past quar none h =
    let was = quar-raised past on sid given key token quar h in
    let its = (every-found (λ q. Unit {0}) (has_token token) (standing key past) was.0 (all-so (standing key past)) was.1).1 in
    (was.0, was.1, raised-mode given token (same_key key on) was.0 quar none (eqb-true was.0.token token its) was.2)
  where
    all-so : (quars : List Quar) → AllByRecursion (λ q. Unit {0}) quars
    all-so [] = tt
    all-so (q ∷ quars) = (tt, all-so quars)
quar-kept (step.Renewed on sid given now deadline) key token past quar none h =
    let was = quar-renewed past on sid given now deadline key token quar h in
    (was.0, was.1, renewed-mode given deadline (same_key key on) was.0 quar was.2)
quar-kept other key token past quar none h = (quar, quar-old other key token past quar tt (not_new key token other none) h, refl)

-- a token that a step gives is the next one, on a key of its shard
abbrev pub DrawsNext : Terms → ℕ → Step → Type 0
DrawsNext terms next (step.Granted on sid mode shift now token deadline) = (token ≡ next) × IsAtHome terms on
DrawsNext terms next (step.Lease on sid floor now token deadline) = (token ≡ next) × IsAtHome terms on
DrawsNext terms next other = Unit {0}

pub answers-draw : (terms : Terms) (past : List Step) (s : Step) → Answers terms past s → DrawsNext terms (next_token terms past) s
answers-draw terms past s a = subst P (sym a.answer) (by a.request a.at_home)
  where
    P : Step → Type 0
    P x = DrawsNext terms (next_token terms past) x

    by : (request : Request) → IsAtHome terms (key_of request) → P (step_of terms past request)
    by (Get key who floor now) home = got_cases P terms past key who floor now (λ value stamp _. tt) tt (λ stands. tt) (λ none. (refl, home))
    by (Set key token value stamp now) home = set_cases P terms past key token value stamp now (λ _. tt) (λ _. tt)
    by (Quarantine key who mode shift now) home = quarantine_cases P terms past key who mode shift now (λ none. (refl, home)) tt (λ quar _. tt)
    by (Release permit how) home = release_cases P past permit how (λ quar _. tt) (λ _. tt)
    by (Replace permit value stamp) home = replace_cases P terms past permit value stamp (λ quar _. tt) (λ _. tt)
    by (Raise permit) home = raise_cases P past permit (λ _. tt) (λ other _. tt) tt
    by (Renew permit now) home = renew_cases P terms past permit now (λ quar _. tt) (λ _. tt)

-- the next token is no lower after more steps
pub next-append : (terms : Terms) (new steps : List Step) → next_token terms steps ≤ next_token terms (new ++ steps)
next-append terms new steps = let a = count-append draws new steps in omega (arith, a)

-- each token that was granted is below the next
abbrev IsBelow : ℕ → QKey → Quar → Type 0
IsBelow next key quar = quar.token < next

below-owner : (next : ℕ) → IsOfOwner (IsBelow next)
below-owner next key old new token own low = omega (arith, token, low)

grants-later : (low high : ℕ) → low ≤ high → (s : Step) → GrantsSo (IsBelow low) s → GrantsSo (IsBelow high) s
grants-later low high le (step.Granted on sid mode shift now token deadline) h = omega (arith, le, h)
grants-later low high le (step.Raised on sid token) h = raised-so (IsBelow high) (below-owner high) on token
grants-later low high le (step.Renewed on sid token now deadline) h = renewed-so (IsBelow high) (below-owner high) on token deadline
grants-later low high le other h = tt

grants-below : (terms : Terms) (past : List Step) → IsLegalPast terms past → AllByRecursion (GrantsSo (IsBelow (next_token terms past))) past
grants-below terms [] legal = tt
grants-below terms (s ∷ past) legal =
    let next = next_token terms past in
    let high = next_token terms (s ∷ past) in
    let more = next-append terms (s ∷ []) past in (
      here s (answers-draw terms past s legal.0) (next_drawn terms s past),
      every-weaker (GrantsSo (IsBelow next)) (GrantsSo (IsBelow high)) past (grants-later next high more) (grants-below terms past legal.1),
    )
  where
    here : (x : Step) → DrawsNext terms (next_token terms past) x
        → next_token terms (s ∷ past) ≡ next_token terms past + cond (draws x) 1 0 → GrantsSo (IsBelow (next_token terms (s ∷ past))) x
    here (step.Granted on sid mode shift now token deadline) drawn one = let is = drawn.0 in omega (arith, is, one)
    here (step.Raised on sid token) drawn one = raised-so (IsBelow (next_token terms (s ∷ past))) (below-owner (next_token terms (s ∷ past))) on token
    here (step.Renewed on sid token now deadline) drawn one =
        renewed-so (IsBelow (next_token terms (s ∷ past))) (below-owner (next_token terms (s ∷ past))) on token deadline
    here other drawn one = tt

-- the grants of one token on a key are of one session
abbrev OfOne : Permit → QKey → Quar → Type 0
OfOne grant key quar = key ≡ grant.key → quar.token ≡ grant.token → quar.sid ≡ grant.sid

one-owner : (grant : Permit) → IsOfOwner (OfOne grant)
one-owner grant key old new token own one = λ at is. own ∙ one at (sym token ∙ is)

grant-token : (grant : Permit) (on : QKey) (sid : Sid) (token : ℕ)
    → (same_key grant.key on && (grant.sid.number == sid.number) && (grant.token == token)) ≡ true → grant.token ≡ token
grant-token grant on sid token is = eqb-true grant.token token (and_elim _ _ is).1

grant-below : (next : ℕ) (grant : Permit) (s : Step) → GrantsSo (IsBelow next) s → grants grant s ≡ true → grant.token < next
grant-below next grant (step.Granted on sid mode shift now token deadline) below is =
    let same = grant-token grant on sid token is in omega (arith, same, below)
grant-below next grant other below is = absurd (false≢true is)

was-below : (next : ℕ) (grant : Permit) (past : List Step) → AllByRecursion (GrantsSo (IsBelow next)) past
    → list_any (grants grant) past ≡ true → grant.token < next
was-below next grant past below was =
    let found = every-any (GrantsSo (IsBelow next)) (grants grant) past below was in
    grant-below next grant found.0 found.1 found.2

-- the step that is the grant, one of an earlier token, and one of a later
one-here : (grant : Permit) (s : Step) → grants grant s ≡ true → GrantsSo (OfOne grant) s
one-here grant (step.Granted on sid mode shift now token deadline) is =
    let who = eqb-true grant.sid.number sid.number (and_elim _ _ (and_elim _ _ is).0).1 in
    λ _ _. ap (λ (n : ℕ). record { number = n }) (sym who)
one-here grant (step.Raised on sid token) is = raised-so (OfOne grant) (one-owner grant) on token
one-here grant (step.Renewed on sid token now deadline) is = renewed-so (OfOne grant) (one-owner grant) on token deadline
one-here grant other is = tt

one-earlier : (grant : Permit) (s : Step) → GrantsSo (IsBelow grant.token) s → GrantsSo (OfOne grant) s
one-earlier grant (step.Granted on sid mode shift now token deadline) below = λ _ same. absurd (omega (arith, same, below))
one-earlier grant (step.Raised on sid token) below = raised-so (OfOne grant) (one-owner grant) on token
one-earlier grant (step.Renewed on sid token now deadline) below = renewed-so (OfOne grant) (one-owner grant) on token deadline
one-earlier grant other below = tt

one-later : (grant : Permit) (terms : Terms) (next : ℕ) (s : Step) → DrawsNext terms next s → grant.token < next → GrantsSo (OfOne grant) s
one-later grant terms next (step.Granted on sid mode shift now token deadline) drawn low = λ _ same. let is = drawn.0 in absurd (omega (arith, same, is, low))
one-later grant terms next (step.Raised on sid token) drawn low = raised-so (OfOne grant) (one-owner grant) on token
one-later grant terms next (step.Renewed on sid token now deadline) drawn low = renewed-so (OfOne grant) (one-owner grant) on token deadline
one-later grant terms next other drawn low = tt

grants-next : (terms : Terms) (grant : Permit) (next : ℕ) (s : Step) → DrawsNext terms next s → grants grant s ≡ true → grant.token ≡ next
grants-next terms grant next (step.Granted on sid mode shift now token deadline) drawn is = grant-token grant on sid token is ∙ drawn.0
grants-next terms grant next other drawn is = absurd (false≢true is)

of_one : (terms : Terms) (past : List Step) (grant : Permit)
    → IsLegalPast terms past → list_any (grants grant) past ≡ true → AllByRecursion (GrantsSo (OfOne grant)) past
of_one terms [] grant legal was = tt
of_one terms (s ∷ past) grant legal was =
    let next = next_token terms past in
    let draws_next = answers-draw terms past s legal.0 in
    let below = grants-below terms past legal.1 in
    elim (or_elim (grants grant s) (list_any (grants grant) past) was) [
      | inl here ↦
          let is = grants-next terms grant next s draws_next here in (
            one-here grant s here,
            every-weaker (GrantsSo (IsBelow next))
                (GrantsSo (OfOne grant)) past (λ x low. one-earlier grant x (subst (λ n. GrantsSo (IsBelow n) x) (sym is) low)) below,
          )
      | inr there ↦ (one-later grant terms next s draws_next (was-below next grant past below there), of_one terms past grant legal.1 there)
    ]

-- a quarantine that stands under the token of a grant is of the grant's session
pub was-quar : (terms : Terms) (past : List Step) (grant : Permit) (quar : Quar)
    → IsLegalPast terms past → list_any (grants grant) past ≡ true → quar_of grant.key grant.token past ≡ Some quar
    → quar.sid ≡ grant.sid
was-quar terms past grant quar legal was found =
    let is = quar-every (OfOne grant) grant.key grant.token past quar (of_one terms past grant legal was) found in
    is.0 refl is.1
