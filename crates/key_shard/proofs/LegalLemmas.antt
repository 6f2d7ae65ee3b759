-- What stands on a key after a legal past: by one step, by induction, and what follows of it.
use Rattle.std.proofs.Common.{ℕ, ◌≡◌, ◌≢◌, ◌+◌, ◌<◌, ◌≤◌, ◌==◌, Bool, true, false, not, cond, ◌&&◌, ◌||◌, Option, Some, None, option_map, inl, inr, ◌⊎◌}
use Rattle.std.proofs.Common.{refl, sym, ap, subst, ◌∙◌, arith}
use Rattle.std.proofs.Common.{List, [], ◌∷◌, ◌++◌, map, filter, find, length}
use Rattle.std.specs.Prelude.{ℤ, IsTrue}
use Rattle.std.specs.List.{All, AllByRecursion, list_all, list_any}
use Rattle.std.proofs.lemmas.Bool.{cond_both, false≢true, eq-eqb, eqb-true, and_from, and_parts, or_cases, or_left, or_right, false_from_ne_true}
use Rattle.std.proofs.lemmas.List.Elements.{All-append, All-filter, All-weaker, All-from_recursion, recursion_from_All}
use Rattle.rows_model.specs.declared.keys.QKey.{QKey}
use Rattle.rows_model.specs.declared.keys.Sid.{Sid}
use Rattle.rows_model.specs.Key.{same_key}
use Rattle.rows_model.proofs.SameKey.{same_key-true}
use Rattle.case_tables.specs.Compatibility.{Way, invalidate, refresh, delta, is_invalidate, raise_verdict}
use Rattle.case_tables.specs.declared.grids.Verdict.TheVariants as verdicts
use Rattle.lease_table.specs.declared.records.Mode.{Mode}
use Rattle.lease_table.specs.declared.records.Mode.TheVariants.{Invalidate, Refresh, Delta}
use Rattle.lease_table.specs.declared.records.Quar.{Quar}
use Rattle.lease_table.specs.declared.records.ReadLease.{ReadLease}
use Rattle.lease_table.specs.Lapses.{is_lapsed, unlapsed}
use Rattle.lease_table.specs.Leases.{way_of, is_of, has_token, own_in, others_in, is_raisable, raise_in, raised, renewed, StandBeside}
use Rattle.lease_table.proofs.ListLemmas.{find-none}
use Rattle.key_shard.specs.declared.steps.Ended.{Ended}
use Rattle.key_shard.specs.declared.steps.Step.{Step}
use Rattle.key_shard.specs.declared.steps.Step.TheVariants as step
use Rattle.key_shard.specs.Past.{Terms, standing, recorded, own_of, quar_of, evicts, next_token, deadline_at}
use Rattle.key_shard.specs.Answers.{Request, Get, Set, Quarantine, Release, Replace, Raise, Renew, Answers, step_of, ended_as}
use Rattle.key_shard.specs.LegalStands.{AllStandBeside, StandsWell, LegalStandsWell}
use Rattle.key_shard.proofs.CaseLemmas.{MayJoin, map_none, got_cases, set_cases, verdict_cases, release_cases, replace_cases, raise_cases, renew_cases}
use Rattle.key_shard.proofs.OneStepLemmas.{next_drawn}
use Rattle.key_shard.proofs.RaiseLemmas.{every-mapped, raised-same, renewed-same}

-- what holds of each of two lists holds of each of both, of some, and what is weaker holds too
pub every-append : {X : Type 0} (P : X → Type 0) (xs ys : List X) → AllByRecursion P xs → AllByRecursion P ys → AllByRecursion P (xs ++ ys)
every-append P xs ys h k =
    recursion_from_All P (xs ++ ys) (All-append P xs ys (All-from_recursion P xs h) (All-from_recursion P ys k))

pub every-filter : {X : Type 0} (P : X → Type 0) (p : X → Bool) (xs : List X) → AllByRecursion P xs → AllByRecursion P (filter p xs)
every-filter P p xs h =
    recursion_from_All P (filter p xs) (All-filter p P xs (All-from_recursion P xs h))

pub every-weaker : {X : Type 0} (P Q : X → Type 0) (xs : List X) → ((x : X) → P x → Q x) → AllByRecursion P xs → AllByRecursion Q xs
every-weaker P Q xs f h = recursion_from_All Q xs (All-weaker P Q f xs (All-from_recursion P xs h))

-- what stands well, told of the quarantines and the lease to read themselves
abbrev Well : ℕ → List Quar → Option ReadLease → Type 0
Well next quars reader =
    AllByRecursion (λ quar. quar.token < next) quars × AllStandBeside quars × ((reader ≡ None) ⊎ (quars ≡ []))

-- what is below a number is below a later one
below-later : (next later : ℕ) (quars : List Quar) → next ≤ later
    → AllByRecursion (λ quar. quar.token < next) quars → AllByRecursion (λ quar. quar.token < later) quars
below-later next later quars more h =
    every-weaker (λ quar. quar.token < next) (λ quar. quar.token < later) quars (λ quar low. omega (arith, more, low)) h

well-later : (next later : ℕ) (quars : List Quar) (reader : Option ReadLease) → next ≤ later → Well next quars reader → Well later quars reader
well-later next later quars reader more h = (below-later next later quars more h.0, h.1, h.2)

-- some of what stands beside one another stands so too
beside-filter : (p : Quar → Bool) (quars : List Quar) → AllStandBeside quars → AllStandBeside (filter p quars)
beside-filter p [] h = tt
beside-filter p (quar ∷ quars) h =
    cond_both (p quar) (quar ∷ filter p quars) (filter p quars) AllStandBeside
    (λ _. (every-filter (StandBeside quar) p quars h.0, beside-filter p quars h.1)) (λ _. beside-filter p quars h.1)

-- the end of some
well-filter : (p : Quar → Bool) (next : ℕ) (quars : List Quar) (reader : Option ReadLease) → Well next quars reader → Well next (filter p quars) reader
well-filter p next quars reader h =
    (every-filter (λ quar. quar.token < next) p quars h.0, beside-filter p quars h.1, elim h.2 [ inl none ↦ inl none | inr none ↦ inr (ap (filter p) none) ])

-- where no quarantine stands any lease to read may be recorded
well-lease : (next : ℕ) (quars : List Quar) (reader : Option ReadLease)
    → quars ≡ [] → Well next quars reader → (lease : Option ReadLease) → Well next quars lease
well-lease next quars reader none h lease = (h.0, h.1, inr none)

-- no lease to read
well-free : (next : ℕ) (quars : List Quar) (reader : Option ReadLease) → Well next quars reader → Well next quars None
well-free next quars reader h = (h.0, h.1, inl refl)

-- another session's quarantine to invalidate, of a later token, stands beside those to invalidate
beside-push : (quars : List Quar) (new : Quar) → AllByRecursion (λ quar. quar.token < new.token) quars →
    AllByRecursion (λ quar. is_of new.sid quar ≡ false) quars → is_invalidate (way_of new.mode) ≡ true →
    list_all is_invalidate (map (λ quar. way_of quar.mode) quars) ≡ true → AllStandBeside quars → AllStandBeside (quars ++ new ∷ [])
beside-push [] new low others one all h = (tt, tt)
beside-push (quar ∷ quars) new low others one all h =
    let parts = and_parts (is_invalidate (way_of quar.mode)) (list_all is_invalidate (map (λ q. way_of q.mode) quars)) all in
    let here : StandBeside quar new = record {
      in_order = low.0;
      of_two = λ same. false≢true (sym others.0 ∙ eq-eqb quar.sid.number new.sid.number same);
      one_invalidates = parts.0;
      other_invalidates = one;
    } in
    (every-append (StandBeside quar) quars (new ∷ []) h.0 (here, tt), beside-push quars new low.1 others.1 one parts.1 h.1)

-- a quarantine that was granted, of the next token
well-push : (next : ℕ) (quars : List Quar) (new : Quar) (reader : Option ReadLease) → new.token ≡ next → own_in new.sid quars ≡ None → MayJoin new.mode quars →
    Well next quars reader → Well (next + 1) (quars ++ new ∷ []) None
well-push next quars new reader drawn none join h =
    let here : new.token < next + 1 = omega (arith, drawn) in
    let low = every-weaker (λ quar. quar.token < next) (λ quar. quar.token < new.token) quars (λ quar l. omega (arith, l, drawn)) h.0 in
    let others = recursion_from_All (λ quar. is_of new.sid quar ≡ false) quars (find-none (is_of new.sid) quars none) in (
      every-append (λ quar. quar.token < next + 1) quars (new ∷ []) (below-later next (next + 1) quars (omega arith) h.0) (here, tt),
      elim join [
        | inl empty ↦ subst (λ quars. AllStandBeside (quars ++ new ∷ [])) (sym empty) (tt, tt)
        | inr all ↦ let parts = and_parts (is_invalidate (way_of new.mode)) (list_all is_invalidate (map (λ quar. way_of quar.mode) quars)) all in
            beside-push quars new low others parts.0 parts.1 h.1
      ],
      inl refl,
    )

-- the next token is no lower after a step
next-more : (terms : Terms) (s : Step) (past : List Step) → next_token terms past ≤ next_token terms (s ∷ past)
next-more terms s past = let one = next_drawn terms s past in omega (arith, one)

-- the two forms are one
well-of : {terms : Terms} {past : List Step} {key : QKey} → StandsWell terms past key → Well (next_token terms past) (standing key past) (recorded key past)
well-of h = (h.below, h.beside, h.apart)

of-well : (terms : Terms) (past : List Step) (key : QKey) → Well (next_token terms past) (standing key past) (recorded key past) → StandsWell terms past key
of-well terms past key h = record { below = h.0; beside = h.1; apart = h.2 }

-- every key stands well
abbrev pub AllWell : Terms → List Step → Type 0
AllWell terms past = (key : QKey) → StandsWell terms past key

-- what stood well stands so by the next token after a step
old-well : (terms : Terms) (past : List Step) (s : Step) (key : QKey)
    → AllWell terms past → Well (next_token terms (s ∷ past)) (standing key past) (recorded key past)
old-well terms past s key h =
    well-later (next_token terms past) (next_token terms (s ∷ past)) (standing key past) (recorded key past) (next-more terms s past) (well-of (h key))

-- each kind of step that changes what stands leaves each key standing well
lease-well : (terms : Terms) (past : List Step) (on : QKey) (who : Sid) (floor now token deadline : ℕ) → standing on past ≡ [] → AllWell terms past →
    AllWell terms (step.Lease on who floor now token deadline ∷ past)
lease-well terms past on who floor now token deadline none h key =
    let s = step.Lease on who floor now token deadline in
    let old = old-well terms past s key h in
    of-well terms (s ∷ past) key
    (cond_both (same_key key on) (Some (record { sid = who; token = token; deadline = deadline }))
    (recorded key past) (λ lease. Well (next_token terms (s ∷ past)) (standing key past) lease)
    (λ same. well-lease (next_token terms (s ∷ past)) (standing key past)
    (recorded key past) (ap (λ k. standing k past) (same_key-true key on same) ∙ none) old _)
    (λ _. old))

stored-well : (terms : Terms) (past : List Step) (on : QKey) (token now : ℕ) (value : List ℕ) (stamp : ℕ) (evicted : Option QKey) → AllWell terms past →
    AllWell terms (step.Stored on token now value stamp evicted ∷ past)
stored-well terms past on token now value stamp evicted h key =
    let s = step.Stored on token now value stamp evicted in
    let old = old-well terms past s key h in
    of-well terms (s ∷ past) key
    (cond_both (same_key key on) None (recorded key past) (λ lease. Well (next_token terms (s ∷ past)) (standing key past) lease)
    (λ _. well-free (next_token terms (s ∷ past)) (standing key past) (recorded key past) old)
    (λ _. old))

-- a set that is void leaves what was recorded, or nothing
void-well : (terms : Terms) (past : List Step) (on : QKey) (token now : ℕ) → AllWell terms past → AllWell terms (step.Void on token now ∷ past)
void-well terms past on token now h key =
    let s = step.Void on token now in
    let old = old-well terms past s key h in
    of-well terms (s ∷ past) key
    (cond_both (same_key key on) (unlapsed token now (recorded key past)) (recorded key past) (λ lease. Well (next_token terms (s ∷ past)) (standing key past) lease)
    (λ _. cond_both (is_lapsed token now (recorded key past)) None (recorded key past) (λ lease. Well (next_token terms (s ∷ past)) (standing key past) lease)
    (λ _. well-free (next_token terms (s ∷ past)) (standing key past) (recorded key past) old)
    (λ _. old))
    (λ _. old))

released-well : (terms : Terms) (past : List Step) (on : QKey) (who : Sid) (token : ℕ) (how : Ended)
    → AllWell terms past → AllWell terms (step.Released on who token how ∷ past)
released-well terms past on who token how h key =
    let s = step.Released on who token how in
    let old = old-well terms past s key h in
    let stays : Quar → Bool = λ quar. not (has_token token quar) in
    of-well terms (s ∷ past) key
    (cond_both (same_key key on) (filter stays (standing key past)) (standing key past) (λ quars. Well (next_token terms (s ∷ past)) quars (recorded key past))
    (λ _. well-filter stays (next_token terms (s ∷ past)) (standing key past) (recorded key past) old)
    (λ _. old))

granted-well : (terms : Terms) (past : List Step) (on : QKey) (who : Sid) (mode : Mode) (shift : ℤ) (now deadline : ℕ) → own_of on who past ≡ None →
    MayJoin mode (standing on past) → AllWell terms past → AllWell terms (step.Granted on who mode shift now (next_token terms past) deadline ∷ past)
granted-well terms past on who mode shift now deadline none join h key =
    of-well terms (s ∷ past) key (by (same_key key on) refl)
  where
    s : Step
    s = step.Granted on who mode shift now (next_token terms past) deadline

    new : Quar
    new = record { sid = who; mode = mode; token = next_token terms past; deadline = deadline; shift = shift }

    by : (b : Bool) → same_key key on ≡ b
        → Well (next_token terms (s ∷ past)) (cond b (standing key past ++ new ∷ []) (standing key past)) (cond b None (recorded key past))
    by true same =
        let here : key ≡ on = same_key-true key on same in
        let free : own_of key who past ≡ None = ap (λ k. own_of k who past) here ∙ none in
        let joins : MayJoin mode (standing key past) = subst (λ k. MayJoin mode (standing k past)) (sym here) join in
        subst (λ n. Well n (standing key past ++ new ∷ []) None) (sym (next_drawn terms s past))
        (well-push (next_token terms past) (standing key past) new (recorded key past) refl free joins (well-of (h key)))
    by false other = old-well terms past s key h

-- a quarantine may be raised only where no other session's stands beside it
raised-alone : (own : Option Way) (others : List Way) → raise_verdict own others ≡ verdicts.Raise → others ≡ []
raised-alone None others e = cc
raised-alone (Some invalidate) [] e = refl
raised-alone (Some invalidate) (w ∷ ws) e = cc
raised-alone (Some refresh) others e = cc
raised-alone (Some delta) others e = cc

raise-alone : (who : Sid) (token : ℕ) (quars : List Quar) → raise_in who token quars ≡ verdicts.Raise → others_in who quars ≡ []
raise-alone who token quars = by (list_any (is_raisable who token) quars)
  where
    by : (b : Bool) → cond b (raise_verdict (option_map (λ quar. way_of quar.mode) (own_in who quars)) (map (λ quar. way_of quar.mode) (others_in who quars)))
        verdicts.Gone ≡ verdicts.Raise → others_in who quars ≡ []
    by true e = map_none (others_in who quars) (raised-alone _ _ e)
    by false e = cc

-- where no other session's stands, each is the session's own
others-none : (who : Sid) (quar : Quar) (quars : List Quar) → others_in who (quar ∷ quars) ≡ [] → (is_of who quar ≡ true) × (others_in who quars ≡ [])
others-none who quar quars = by (is_of who quar) refl
  where
    by : (b : Bool) → is_of who quar ≡ b → cond (not b) (quar ∷ others_in who quars) (others_in who quars) ≡ []
        → (is_of who quar ≡ true) × (others_in who quars ≡ [])
    by true e none = (e, none)
    by false e none = cc

-- of what stands beside one another two are of two sessions, so there is one at most, and any change of it stands well
alone-mapped : (who : Sid) (f : Quar → Quar) (quars : List Quar) → others_in who quars ≡ [] → AllStandBeside quars → AllStandBeside (map f quars)
alone-mapped who f [] none h = tt
alone-mapped who f (one ∷ []) none h = (tt, tt)
alone-mapped who f (one ∷ two ∷ quars) none h =
    let first = others-none who one (two ∷ quars) none in
    let second = others-none who two quars first.1 in
    absurd (h.0.0.of_two (eqb-true one.sid.number who.number first.0 ∙ sym (eqb-true two.sid.number who.number second.0)))

well-raised : (next : ℕ) (who : Sid) (token : ℕ) (quars : List Quar) (reader : Option ReadLease)
    → raise_in who token quars ≡ verdicts.Raise → Well next quars reader → Well next (map (raised token) quars) reader
well-raised next who token quars reader e h = (
  every-mapped (λ quar. quar.token < next) (λ quar. quar.token < next) (raised token)
      (λ quar low. subst (λ n. n < next) (sym (raised-same (λ q. q.token) token quar refl)) low) quars h.0,
  alone-mapped who (raised token) quars (raise-alone who token quars e) h.1,
  elim h.2 [ inl none ↦ inl none | inr none ↦ inr (ap (map (raised token)) none) ],
)

-- two that stand beside one another do so with other deadlines
beside-renewed : (token deadline : ℕ) (a b : Quar) → StandBeside a b → StandBeside (renewed token deadline a) (renewed token deadline b)
beside-renewed token deadline a b h = record {
  in_order = subst (λ n. n < (renewed token deadline b).token) (sym (tokens a)) (subst (λ n. a.token < n) (sym (tokens b)) h.in_order);
  of_two = λ same. h.of_two (sym (numbers a) ∙ same ∙ numbers b);
  one_invalidates = subst (λ m. IsTrue (is_invalidate (way_of m))) (sym (modes a)) h.one_invalidates;
  other_invalidates = subst (λ m. IsTrue (is_invalidate (way_of m))) (sym (modes b)) h.other_invalidates;
}
  where
    tokens : (quar : Quar) → (renewed token deadline quar).token ≡ quar.token
    tokens quar = renewed-same (λ q. q.token) token deadline quar refl

    numbers : (quar : Quar) → (renewed token deadline quar).sid.number ≡ quar.sid.number
    numbers quar = renewed-same (λ q. q.sid.number) token deadline quar refl

    modes : (quar : Quar) → (renewed token deadline quar).mode ≡ quar.mode
    modes quar = renewed-same (λ q. q.mode) token deadline quar refl

all-renewed : (token deadline : ℕ) (quars : List Quar) → AllStandBeside quars → AllStandBeside (map (renewed token deadline) quars)
all-renewed token deadline [] h = tt
all-renewed token deadline (quar ∷ quars) h = (
  every-mapped (StandBeside quar) (StandBeside (renewed token deadline quar)) (renewed token deadline)
      (λ other beside. beside-renewed token deadline quar other beside) quars h.0,
  all-renewed token deadline quars h.1,
)

well-renewed : (next : ℕ) (token deadline : ℕ) (quars : List Quar) (reader : Option ReadLease)
    → Well next quars reader → Well next (map (renewed token deadline) quars) reader
well-renewed next token deadline quars reader h = (
  every-mapped (λ quar. quar.token < next) (λ quar. quar.token < next) (renewed token deadline)
      (λ quar low. subst (λ n. n < next) (sym (renewed-same (λ q. q.token) token deadline quar refl)) low) quars h.0,
  all-renewed token deadline quars h.1,
  elim h.2 [ inl none ↦ inl none | inr none ↦ inr (ap (map (renewed token deadline)) none) ],
)

raise-well : (terms : Terms) (past : List Step) (on : QKey) (who : Sid) (token : ℕ)
    → raise_in who token (standing on past) ≡ verdicts.Raise → AllWell terms past → AllWell terms (step.Raised on who token ∷ past)
raise-well terms past on who token alone h key =
    of-well terms (s ∷ past) key (by (same_key key on) refl)
  where
    s : Step
    s = step.Raised on who token

    by : (b : Bool) → same_key key on ≡ b
        → Well (next_token terms (s ∷ past)) (cond b (map (raised token) (standing key past)) (standing key past)) (recorded key past)
    by true same =
        well-raised (next_token terms (s ∷ past)) who token (standing key past) (recorded key past)
        (ap (λ k. raise_in who token (standing k past)) (same_key-true key on same) ∙ alone) (old-well terms past s key h)
    by false other = old-well terms past s key h

renew-well : (terms : Terms) (past : List Step) (on : QKey) (who : Sid) (token now deadline : ℕ)
    → AllWell terms past → AllWell terms (step.Renewed on who token now deadline ∷ past)
renew-well terms past on who token now deadline h key =
    of-well terms (s ∷ past) key (by (same_key key on) refl)
  where
    s : Step
    s = step.Renewed on who token now deadline

    by : (b : Bool) → same_key key on ≡ b
        → Well (next_token terms (s ∷ past)) (cond b (map (renewed token deadline) (standing key past)) (standing key past)) (recorded key past)
    by true same =
        well-renewed (next_token terms (s ∷ past)) token deadline (standing key past) (recorded key past) (old-well terms past s key h)
    by false other = old-well terms past s key h

-- a step that answers a request leaves each key standing well
pub stands_well_step : (terms : Terms) (past : List Step) (s : Step)
    → Answers terms past s → ((key : QKey) → StandsWell terms past key) → (key : QKey) → StandsWell terms (s ∷ past) key
stands_well_step terms past s a h = subst P (sym a.answer) (by a.request)
  where
    P : Step → Type 0
    P x = AllWell terms (x ∷ past)

    by : (request : Request) → P (step_of terms past request)
    by (Get key who floor now) =
        got_cases P terms past key who floor now
        (λ value stamp _ k. of-well terms (step.Hit key who floor value stamp ∷ past) k (old-well terms past (step.Hit key who floor value stamp) k h))
        (λ k. of-well terms (step.Own key who ∷ past) k (old-well terms past (step.Own key who) k h))
        (λ stands k. of-well terms (step.Again key who floor now stands ∷ past) k (old-well terms past (step.Again key who floor now stands) k h))
        (λ none. lease-well terms past key who floor now (next_token terms past) (deadline_at terms now) none h)
    by (Set key token value stamp now) =
        set_cases P terms past key token value stamp now
        (λ _. stored-well terms past key token now value stamp (evicts terms key past) h)
        (λ _. void-well terms past key token now h)
    by (Quarantine key who mode shift now) =
        verdict_cases P terms past key who mode shift now
        (λ none join. granted-well terms past key who mode shift now (deadline_at terms now) none join h)
        (λ _ _ k. of-well terms (step.Held key who mode ∷ past) k (old-well terms past (step.Held key who mode) k h))
        (λ quar _ k. of-well terms (step.Refused key who mode quar.sid quar.mode
        ∷ past) k (old-well terms past (step.Refused key who mode quar.sid quar.mode) k h))
    by (Release permit how) =
        release_cases P past permit how
        (λ quar _. released-well terms past permit.key quar.sid permit.token (ended_as quar how) h)
        (λ _ k. of-well terms (step.Gone permit.key permit.sid permit.token ∷ past) k (old-well terms past (step.Gone permit.key permit.sid permit.token) k h))
    by (Replace permit value stamp) =
        replace_cases P terms past permit value stamp
        (λ quar _. released-well terms past permit.key quar.sid permit.token _ h)
        (λ _ k. of-well terms (step.Gone permit.key permit.sid permit.token ∷ past) k (old-well terms past (step.Gone permit.key permit.sid permit.token) k h))
    by (Raise permit) =
        raise_cases P past permit
        (λ alone. raise-well terms past permit.key permit.sid permit.token alone h)
        (λ other _ k. of-well terms (step.Shared permit.key permit.sid permit.token other.sid
        ∷ past) k (old-well terms past (step.Shared permit.key permit.sid permit.token other.sid) k h))
        (λ k. of-well terms (step.Gone permit.key permit.sid permit.token ∷ past) k (old-well terms past (step.Gone permit.key permit.sid permit.token) k h))
    by (Renew permit now) =
        renew_cases P terms past permit now
        (λ _ _. renew-well terms past permit.key permit.sid permit.token now (deadline_at terms now) h)
        (λ _ k. of-well terms (step.Gone permit.key permit.sid permit.token ∷ past) k (old-well terms past (step.Gone permit.key permit.sid permit.token) k h))

-- nothing stands at the start
pub stands_well_start : (terms : Terms) (key : QKey) → StandsWell terms [] key
stands_well_start terms key = record { below = tt; beside = tt; apart = inl refl }

-- so after each legal past each key stands well
pub legal_stands_well : LegalStandsWell
legal_stands_well terms [] legal = stands_well_start terms
legal_stands_well terms (s ∷ past) legal =
    stands_well_step terms past s legal.0 (legal_stands_well terms past legal.1)

-- the mode of a quarantine to invalidate
is-invalidate : (mode : Mode) → IsTrue (is_invalidate (way_of mode)) → mode ≡ Invalidate
is-invalidate Invalidate h = refl
is-invalidate Refresh h = absurd (false≢true h)
is-invalidate Delta h = absurd (false≢true h)

-- where one of the quarantines isn't to invalidate it is the only one
alone-in : (quars : List Quar) → AllStandBeside quars → AllByRecursion (λ quar. quar.mode ≢ Invalidate → length quars ≡ 1) quars
alone-in [] h = tt
alone-in (one ∷ []) h = ((λ _. refl), tt)
alone-in (one ∷ two ∷ quars) h =
    let first : one.mode ≢ Invalidate → length (one ∷ two ∷ quars) ≡ 1 = λ other. absurd (other (is-invalidate one.mode h.0.0.one_invalidates)) in (
      first,
      every-weaker (StandBeside one) (λ quar. quar.mode ≢ Invalidate → length (one ∷ two ∷ quars) ≡ 1) (two ∷ quars)
          (λ quar beside other. absurd (other (is-invalidate quar.mode beside.other_invalidates))) h.0,
    )

pub alone : (terms : Terms) (past : List Step) (key : QKey) → StandsWell terms past key
    → All (λ quar. quar.mode ≢ Invalidate → length (standing key past) ≡ 1) (standing key past)
alone terms past key h =
    All-from_recursion (λ quar. quar.mode ≢ Invalidate → length (standing key past) ≡ 1) (standing key past) (alone-in (standing key past) h.beside)

-- each token is another
abbrev pub AllOfOwnToken : List Quar → Type 0
AllOfOwnToken [] = Unit {0}
AllOfOwnToken (quar ∷ quars) = AllByRecursion (λ other. quar.token ≢ other.token) quars × AllOfOwnToken quars

-- of two that stand beside one another each has another token
distinct-in : (quars : List Quar) → AllStandBeside quars → AllOfOwnToken quars
distinct-in [] h = tt
distinct-in (quar ∷ quars) h = (
  every-weaker (StandBeside quar) (λ other. quar.token ≢ other.token) quars (λ other beside same. let low = beside.in_order in
      absurd (omega (arith, low, same))) h.0,
  distinct-in quars h.1,
)

pub distinct : (terms : Terms) (past : List Step) (key : QKey) → StandsWell terms past key → AllOfOwnToken (standing key past)
distinct terms past key h = distinct-in (standing key past) h.beside

-- whether a quarantine is of this session's number and this token
abbrev pub is_quar : ℕ → ℕ → Quar → Bool
is_quar who token quar = (quar.sid.number == who) && (quar.token == token)

-- what passes a test is there, and has what each has
pub some-passes : {X : Type 0} (P : X → Type 0) (p : X → Bool) (xs : List X) → AllByRecursion P xs → list_any p xs ≡ true → (x : X) × P x × (p x ≡ true)
some-passes P p [] h e = absurd (false≢true e)
some-passes P p (x ∷ xs) h e =
    elim (or_cases (p x) (list_any p xs) e) [
      | inl here ↦ (x, h.0, here)
      | inr there ↦ some-passes P p xs h.1 there
    ]

found-in : (who token : ℕ) (quars : List Quar) → AllOfOwnToken quars
    → list_any (is_quar who token) quars ≡ true → (quar : Quar) × (find (has_token token) quars ≡ Some quar) × (quar.sid.number ≡ who)
found-in who token [] h e = absurd (false≢true e)
found-in who token (quar ∷ quars) h e =
    elim (or_cases (is_quar who token quar) (list_any (is_quar who token) quars) e) [
      | inl here ↦ let parts = and_parts (quar.sid.number == who) (quar.token == token) here in
          (quar, ap (λ b. cond b (Some quar) (find (has_token token) quars)) parts.1, eqb-true quar.sid.number who parts.0)
      | inr there ↦
          let other = some-passes (λ q. quar.token ≢ q.token) (is_quar who token) quars h.0 there in
          let theirs : other.0.token ≡ token = eqb-true other.0.token token (and_parts (other.0.sid.number == who) (other.0.token == token) other.2).1 in
          let apart : (quar.token == token) ≡ false =
          false_from_ne_true (quar.token == token) (λ same. other.1 (eqb-true quar.token token same ∙ sym theirs)) in
          let found = found-in who token quars h.1 there in
          (found.0, ap (λ b. cond b (Some quar) (find (has_token token) quars)) apart ∙ found.1, found.2)
    ]

some_same : {a b : Quar} → Some a ≡ Some b → a ≡ b
some_same e = cc

-- where a session has a quarantine of a token, the quarantine of that token is its own
pub found_token : (terms : Terms) (past : List Step) (key : QKey) (who token : ℕ) → StandsWell terms past key →
    list_any (is_quar who token) (standing key past) ≡ true → (quar : Quar) × (quar_of key token past ≡ Some quar) × (quar.sid.number ≡ who)
found_token terms past key who token h e =
    found-in who token (standing key past) (distinct-in (standing key past) h.beside) e

pub own_token : (terms : Terms) (past : List Step) (key : QKey) (who token : ℕ) (quar : Quar) → StandsWell terms past key →
    list_any (λ q. (q.sid.number == who) && (q.token == token)) (standing key past) ≡ true → quar_of key token past ≡ Some quar → quar.sid.number ≡ who
own_token terms past key who token quar h e found =
    let own = found_token terms past key who token h e in
    let same : own.0 ≡ quar = some_same (sym own.1 ∙ found) in
    sym (ap (λ q. q.sid.number) same) ∙ own.2

-- what is found passes the test, and is there
pub found-passes : (p q : Quar → Bool) (quars : List Quar) (quar : Quar) → (p quar ≡ true → q quar ≡ true) → find p quars ≡ Some quar → list_any q quars ≡ true
found-passes p q [] quar more e = cc
found-passes p q (x ∷ xs) quar more e = by (p x) refl (found-passes p q xs quar more)
  where
    by : (b : Bool) → p x ≡ b → (find p xs ≡ Some quar → list_any q xs ≡ true) → (q x || list_any q xs) ≡ true
    by true h rest =
        let same : x ≡ quar = some_same (sym (ap (λ b. cond b (Some x) (find p xs)) h) ∙ e) in
        or_left (q x) (list_any q xs) (ap q same ∙ more (sym (ap p same) ∙ h))
    by false h rest =
        or_right (q x) (list_any q xs) (rest (sym (ap (λ b. cond b (Some x) (find p xs)) h) ∙ e))

-- the quarantine of a token is there, as its session's
pub token_stands : (key : QKey) (token : ℕ) (past : List Step) (quar : Quar) → quar_of key token past ≡ Some quar →
    list_any (is_quar quar.sid.number token) (standing key past) ≡ true
token_stands key token past quar e =
    found-passes (has_token token) (is_quar quar.sid.number token) (standing key past) quar
    (λ has. and_from (quar.sid.number == quar.sid.number) (quar.token == token) (eq-eqb quar.sid.number quar.sid.number refl) has)
    e

-- a session's own quarantine is there, as that of its token
pub own_stands : (key : QKey) (who : Sid) (past : List Step) (quar : Quar) → own_of key who past ≡ Some quar →
    list_any (is_quar who.number quar.token) (standing key past) ≡ true
own_stands key who past quar e =
    found-passes (is_of who) (is_quar who.number quar.token) (standing key past) quar
    (λ own. and_from (quar.sid.number == who.number) (quar.token == quar.token) own (eq-eqb quar.token quar.token refl))
    e

own-in : (who : Sid) (token : ℕ) (quars : List Quar) → AllStandBeside quars → list_any (is_quar who.number token) quars ≡ true →
    (quar : Quar) × (own_in who quars ≡ Some quar) × (quar.token ≡ token)
own-in who token [] h e = absurd (false≢true e)
own-in who token (quar ∷ quars) h e =
    elim (or_cases (is_quar who.number token quar) (list_any (is_quar who.number token) quars) e) [
      | inl here ↦ let parts = and_parts (quar.sid.number == who.number) (quar.token == token) here in
          (quar, ap (λ b. cond b (Some quar) (own_in who quars)) parts.0, eqb-true quar.token token parts.1)
      | inr there ↦
          let other = some-passes (StandBeside quar) (is_quar who.number token) quars h.0 there in
          let theirs : other.0.sid.number ≡ who.number =
          eqb-true other.0.sid.number who.number (and_parts (other.0.sid.number == who.number) (other.0.token == token) other.2).0 in
          let beside : StandBeside quar other.0 = other.1 in
          let apart : is_of who quar ≡ false =
          false_from_ne_true (is_of who quar) (λ same. beside.of_two (eqb-true quar.sid.number who.number same ∙ sym theirs)) in
          let found = own-in who token quars h.1 there in
          (found.0, ap (λ b. cond b (Some quar) (own_in who quars)) apart ∙ found.1, found.2)
    ]

-- where a session has a quarantine of a token, its own is the one of that token
pub found_own : (terms : Terms) (past : List Step) (key : QKey) (who : Sid) (token : ℕ) → StandsWell terms past key →
    list_any (is_quar who.number token) (standing key past) ≡ true → (quar : Quar) × (own_of key who past ≡ Some quar) × (quar.token ≡ token)
found_own terms past key who token h e = own-in who token (standing key past) h.beside e

-- the end of a token leaves another
stays-in : (who token gone : ℕ) (quars : List Quar) → token ≢ gone → list_any (is_quar who token) quars ≡ true →
    list_any (is_quar who token) (filter (λ quar. not (has_token gone quar)) quars) ≡ true
stays-in who token gone [] apart e = e
stays-in who token gone (quar ∷ quars) apart e =
    let rest = filter (λ q. not (has_token gone q)) quars in
    let P : List Quar → Type 0 = λ l. list_any (is_quar who token) l ≡ true in
    elim (or_cases (is_quar who token quar) (list_any (is_quar who token) quars) e) [
      | inl here ↦
          let mine = eqb-true quar.token token (and_parts (quar.sid.number == who) (quar.token == token) here).1 in
          let stays : has_token gone quar ≡ false = false_from_ne_true (has_token gone quar) (λ same. apart (sym mine ∙ eqb-true quar.token gone same)) in
          subst (λ b. P (cond (not b) (quar ∷ rest) rest)) (sym stays) (or_left (is_quar who token quar) (list_any (is_quar who token) rest) here)
      | inr there ↦
          let later = stays-in who token gone quars apart there in
          cond_both (not (has_token gone quar)) (quar ∷ rest) rest P
          (λ _. or_right (is_quar who token quar) (list_any (is_quar who token) rest) later) (λ _. later)
    ]

-- the end of one session's quarantine leaves another's
pub other_stays : (terms : Terms) (past : List Step) (key : QKey) (who token other gone : ℕ) → StandsWell terms past key →
    list_any (is_quar who token) (standing key past) ≡ true → list_any (is_quar other gone) (standing key past) ≡ true → who ≢ other →
    list_any (is_quar who token) (filter (λ quar. not (has_token gone quar)) (standing key past)) ≡ true
other_stays terms past key who token other gone h mine theirs apart =
    stays-in who token gone (standing key past) two mine
  where
    two : token ≢ gone
    two same =
        let a = found_token terms past key who token h mine in
        let b = found_token terms past key other gone h theirs in
        let one : a.0 ≡ b.0 = some_same (sym a.1 ∙ ap (λ t. quar_of key t past) same ∙ b.1) in
        apart (sym a.2 ∙ ap (λ q. q.sid.number) one ∙ b.2)
