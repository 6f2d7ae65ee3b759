-- A quarantine to refresh or to shift stands alone: it is a moment of its session when it comes to stand
-- so, and while it stands no other is granted.
use Rattle.std.proofs.Common.{ℕ, ◌≡◌, ◌≢◌, ◌⊎◌, ◌<◌, ◌==◌, ◌&&◌, Bool, true, false, not, cond, List, [], ◌∷◌, ◌++◌, map, filter, find, Some, None, refl, sym, ap, subst, ◌∙◌, inl, inr, ⊎_elim, arith}
use Rattle.std.specs.List.{list_all, AllByRecursion}
use Rattle.std.proofs.lemmas.Bool.{false≢true, eqb-true, eq-eqb, and_parts, or_cases}
use Rattle.rows_model.specs.declared.keys.QKey.{QKey}
use Rattle.rows_model.specs.declared.keys.Sid.{Sid}
use Rattle.rows_model.specs.Key.{same_key}
use Rattle.rows_model.proofs.SameKey.{same_key-true}
use Rattle.case_tables.specs.Compatibility.{is_invalidate}
use Rattle.lease_table.specs.declared.records.Mode.{Mode}
use Rattle.lease_table.specs.declared.records.Mode.TheVariants.{Invalidate, Refresh, Delta}
use Rattle.lease_table.specs.declared.records.Quar.{Quar}
use Rattle.lease_table.specs.Leases.{way_of, has_token, raised, renewed, StandBeside}
use Rattle.key_shard.specs.declared.steps.Step.{Step}
use Rattle.key_shard.specs.declared.steps.Step.TheVariants as step
use Rattle.key_shard.specs.LegalStands.{AllStandBeside}
use Rattle.key_shard.specs.Past.{Terms, standing, recorded, quar_of, next_token}
use Rattle.key_shard.specs.Answers.{IsLegalPast}
use Rattle.key_shard.proofs.CaseLemmas.{MayJoin}
use Rattle.key_shard.proofs.LegalLemmas.{legal_stands_well, token_stands}
use Rattle.key_shard.proofs.ModeLemmas.{answers_end_by_mode}
use Rattle.key_shard.proofs.RaiseLemmas.{quar-raised, quar-renewed, renewed-sid, renewed-mode, renewed-shift}
use Rattle.sql_keeper.specs.Fresh.{quarantines}
use Rattle.key_freshness.specs.Marks.{Granted, Ended, Leased, Wrote, Has, writes_by, marks_in, marks_of}
use Rattle.key_freshness.specs.Held.{stands_as}
use Rattle.key_freshness.proofs.GrantMarks.{none_in, one_in, step-granted}
use Rattle.key_freshness.proofs.MarkLemmas.{by_test, has-split}
use Rattle.bound_hub.proofs.LeaseLemmas.{current_lease}
use Rattle.bound_hub.proofs.MadeLemmas.{well_made}

-- the same quarantine, of the same session and shift, and to refresh or to shift if it was that before
pub record IsStill (old new : Quar) : Type 0 where
  pub sid : old.sid ≡ new.sid
  pub shift : old.shift ≡ new.shift
  pub alone : old.mode ≢ Invalidate → new.mode ≢ Invalidate

still : (quar : Quar) → IsStill quar quar
still quar = record { sid = refl; shift = refl; alone = λ h. h }

some_same : {a b : Quar} → Some a ≡ Some b → a ≡ b
some_same e = cc

-- raised it is to refresh, or as it was
raised_still : (token : ℕ) (old new : Quar) (b : Bool) → cond b (raised token old) old ≡ new → IsStill old new
raised_still token old new true e =
    by_test (λ c. cond c (record { sid = old.sid; mode = Refresh; token = old.token; deadline = old.deadline; shift = old.shift }) old ≡ new → IsStill old new) (has_token token old)
    (λ _ is. subst (IsStill old) is (record { sid = refl; shift = refl; alone = λ h none. let two : Refresh ≡ Invalidate = none in cc }))
    (λ _ is. subst (IsStill old) is (still old))
    e
raised_still token old new false e = subst (IsStill old) e (still old)

renewed_still : (token deadline : ℕ) (old new : Quar) (b : Bool) → cond b (renewed token deadline old) old ≡ new → IsStill old new
renewed_still token deadline old new b e = record {
  sid = renewed-sid token deadline b old new e;
  shift = renewed-shift token deadline b old new e;
  alone = λ h is. h (renewed-mode token deadline b old new e ∙ is);
}

find_front : (token : ℕ) (xs : List Quar) (new quar : Quar) → find (has_token token) (xs ++ new ∷ []) ≡ Some quar → (find (has_token token) xs ≡ Some quar) ⊎ (new.token ≡ token)
find_front token [] new quar e =
    by_test (λ b. cond b (Some new) None ≡ Some quar → (None ≡ Some quar) ⊎ (new.token ≡ token)) (new.token == token) (λ is _. inr (eqb-true new.token token is)) (λ _ none. inl none) e
find_front token (x ∷ xs) new quar e =
    by_test (λ b. cond b (Some x) (find (has_token token) (xs ++ new ∷ [])) ≡ Some quar → (cond b (Some x) (find (has_token token) xs) ≡ Some quar) ⊎ (new.token ≡ token)) (x.token == token)
    (λ _ here. inl here) (λ _ there. find_front token xs new quar there) e

none_left : (token gone : ℕ) (xs : List Quar) (quar : Quar) → token ≡ gone → find (has_token token) (filter (λ q. not (has_token gone q)) xs) ≡ Some quar → ⊥
none_left token gone [] quar same e = absurd cc
none_left token gone (x ∷ xs) quar same e =
    by_test (λ b. (x.token == gone) ≡ b → find (has_token token) (cond (not b) (x ∷ filter (λ q. not (has_token gone q)) xs) (filter (λ q. not (has_token gone q)) xs)) ≡ Some quar → ⊥) (x.token == gone)
    (λ _ _ k. none_left token gone xs quar same k)
    (λ _ other k. by_test (λ b. (x.token == token) ≡ b → cond b (Some x) (find (has_token token) (filter (λ q. not (has_token gone q)) xs)) ≡ Some quar → ⊥) (x.token == token)
    (λ is _ _. false≢true (sym other ∙ eq-eqb x.token gone (eqb-true x.token token is ∙ same)))
    (λ _ _ there. none_left token gone xs quar same there) refl k)
    refl e

find_left : (token gone : ℕ) (xs : List Quar) (quar : Quar) → find (has_token token) (filter (λ q. not (has_token gone q)) xs) ≡ Some quar → find (has_token token) xs ≡ Some quar
find_left token gone [] quar e = e
find_left token gone (x ∷ xs) quar e =
    by_test (λ b. (x.token == gone) ≡ b → find (has_token token) (cond (not b) (x ∷ rest) rest) ≡ Some quar → cond (x.token == token) (Some x) (find (has_token token) xs) ≡ Some quar) (x.token == gone)
    (λ is _ k. by_test (λ b. (x.token == token) ≡ b → cond b (Some x) (find (has_token token) xs) ≡ Some quar) (x.token == token)
    (λ mine _. absurd (none_left token gone xs quar (sym (eqb-true x.token token mine) ∙ eqb-true x.token gone is) k))
    (λ _ _. find_left token gone xs quar k) refl)
    (λ _ _ k. by_test (λ b. cond b (Some x) (find (has_token token) rest) ≡ Some quar → cond b (Some x) (find (has_token token) xs) ≡ Some quar) (x.token == token)
    (λ _ here. here) (λ _ there. find_left token gone xs quar there) k)
    refl e
  where
    rest : List Quar
    rest = filter (λ q. not (has_token gone q)) xs

-- the step grants a quarantine under this token
abbrev GrantsUnder : ℕ → Step → Type 0
GrantsUnder token (step.Granted on sid mode shift now its deadline) = its ≡ token
GrantsUnder token other = ⊥

-- the quarantine of a token stood so on the key
pub record Stood (key : QKey) (token : ℕ) (past : List Step) (quar : Quar) : Type 0 where
  pub old : Quar
  pub stands : quar_of key token past ≡ Some old
  pub is_still : IsStill old quar

-- a quarantine that stands after a step stood before it, unless the step granted it
quar_back : (key : QKey) (token : ℕ) (s : Step) (past : List Step) (quar : Quar) → quar_of key token (s ∷ past) ≡ Some quar → Stood key token past quar ⊎ GrantsUnder token s
quar_back key token (step.Granted on sid mode shift now its deadline) past quar e =
    let new : Quar = record { sid = sid; mode = mode; token = its; deadline = deadline; shift = shift } in
    by_test (λ b. find (has_token token) (cond b (standing key past ++ new ∷ []) (standing key past)) ≡ Some quar → Stood key token past quar ⊎ (its ≡ token)) (same_key key on)
    (λ _ k. ⊎_elim (λ old. inl (record { old = quar; stands = old; is_still = still quar })) (λ mine. inr mine) (find_front token (standing key past) new quar k))
    (λ _ k. inl (record { old = quar; stands = k; is_still = still quar }))
    e
quar_back key token (step.Released on sid its how) past quar e =
    by_test (λ b. find (has_token token) (cond b (filter (λ q. not (has_token its q)) (standing key past)) (standing key past)) ≡ Some quar → Stood key token past quar ⊎ ⊥) (same_key key on)
    (λ _ k. inl (record { old = quar; stands = find_left token its (standing key past) quar k; is_still = still quar }))
    (λ _ k. inl (record { old = quar; stands = k; is_still = still quar }))
    e
quar_back key token (step.Raised on sid its) past quar e =
    let was = quar-raised past on sid its key token quar e in
    inl (record { old = was.0; stands = was.1; is_still = raised_still its was.0 quar (same_key key on) was.2 })
quar_back key token (step.Renewed on sid its now deadline) past quar e =
    let was = quar-renewed past on sid its now deadline key token quar e in
    inl (record { old = was.0; stands = was.1; is_still = renewed_still its deadline was.0 quar (same_key key on) was.2 })
quar_back key token other past quar e = inl (record { old = quar; stands = e; is_still = still quar })

-- what a grant was given under was the next token
grants_next : (terms : Terms) (past : List Step) (s : Step) (token : ℕ) → IsLegalPast terms (s ∷ past) → GrantsUnder token s → token ≡ next_token terms past
grants_next terms past (step.Granted on sid mode shift now its deadline) token legal under =
    sym under ∙ (well_made terms past (step.Granted on sid mode shift now its deadline) legal.0).0
grants_next terms past other token legal under = absurd under

is-invalidate : (mode : Mode) → is_invalidate (way_of mode) ≡ true → mode ≡ Invalidate
is-invalidate Invalidate h = refl
is-invalidate Refresh h = absurd (false≢true h)
is-invalidate Delta h = absurd (false≢true h)

-- where all are to invalidate, so is the one that is found
all_invalidate : (token : ℕ) (quars : List Quar) (quar : Quar) → list_all is_invalidate (map (λ q. way_of q.mode) quars) ≡ true → find (has_token token) quars ≡ Some quar → quar.mode ≡ Invalidate
all_invalidate token [] quar all e = absurd cc
all_invalidate token (x ∷ xs) quar all e =
    let both = and_parts (is_invalidate (way_of x.mode)) (list_all is_invalidate (map (λ q. way_of q.mode) xs)) all in
    by_test (λ b. cond b (Some x) (find (has_token token) xs) ≡ Some quar → quar.mode ≡ Invalidate) (x.token == token)
    (λ _ here. ap (λ (q : Quar). q.mode) (sym (some_same here)) ∙ is-invalidate x.mode both.0)
    (λ _ there. all_invalidate token xs quar both.1 there)
    e

-- beside a quarantine that isn't to invalidate none is granted
none_beside : (token : ℕ) (mode : Mode) (quars : List Quar) (quar : Quar) → MayJoin mode quars → find (has_token token) quars ≡ Some quar → quar.mode ≢ Invalidate → ⊥
none_beside token mode quars quar join found alone =
    ⊎_elim
    (λ none. let two : None ≡ Some quar = sym (ap (find (has_token token)) none) ∙ found in absurd cc)
    (λ all. alone (all_invalidate token quars quar (and_parts (is_invalidate (way_of mode)) (list_all is_invalidate (map (λ q. way_of q.mode) quars)) all).1 found))
    join

-- a step that grants a quarantine of the key may join what stands there
grants_join : (terms : Terms) (key : QKey) (who : Sid) (past : List Step) (s : Step) (token : ℕ) (quar : Quar) → IsLegalPast terms (s ∷ past) → quarantines key who s ≡ true
    → quar_of key token past ≡ Some quar → quar.mode ≢ Invalidate → ⊥
grants_join terms key who past (step.Granted on sid mode shift now its deadline) token quar legal e found alone =
    let same = same_key-true key on (and_parts (same_key key on) (sid.number == who.number) e).0 in
    none_beside token mode (standing on past) quar (well_made terms past (step.Granted on sid mode shift now its deadline) legal.0).1
    (subst (λ k. find (has_token token) (standing k past) ≡ Some quar) same found) alone
grants_join terms key who past other token quar legal e found alone = absurd (false≢true e)

-- each of these is to invalidate
found_invalidates : (token : ℕ) (x : Quar) (xs : List Quar) (quar : Quar) → AllByRecursion (StandBeside x) xs → find (has_token token) xs ≡ Some quar → quar.mode ≡ Invalidate
found_invalidates token x [] quar all e = absurd cc
found_invalidates token x (y ∷ ys) quar all e =
    by_test (λ b. cond b (Some y) (find (has_token token) ys) ≡ Some quar → quar.mode ≡ Invalidate) (y.token == token)
    (λ _ here. ap (λ (q : Quar). q.mode) (sym (some_same here)) ∙ is-invalidate y.mode all.0.other_invalidates)
    (λ _ there. found_invalidates token x ys quar all.1 there)
    e

-- where one of those that stand isn't to invalidate, each is that one
pub alone_one : (token : ℕ) (quars : List Quar) (quar : Quar) → AllStandBeside quars → find (has_token token) quars ≡ Some quar → quar.mode ≢ Invalidate
    → (who its : ℕ) → stands_as who its quars ≡ true → (who ≡ quar.sid.number) × (its ≡ token)
alone_one token [] quar beside found alone who its h = absurd cc
alone_one token (x ∷ []) quar beside found alone who its h =
    by_test (λ b. (x.token == token) ≡ b → cond b (Some x) None ≡ Some quar → (who ≡ quar.sid.number) × (its ≡ token)) (x.token == token)
    (λ is _ here. ⊎_elim
    (λ mine. let parts = and_parts (x.sid.number == who) (x.token == its) mine in
    (sym (eqb-true x.sid.number who parts.0) ∙ ap (λ (q : Quar). q.sid.number) (some_same here), sym (eqb-true x.token its parts.1) ∙ eqb-true x.token token is))
    (λ none. absurd (false≢true none))
    (or_cases ((x.sid.number == who) && (x.token == its)) false h))
    (λ _ _ none. absurd cc)
    refl found
alone_one token (x ∷ y ∷ ys) quar beside found alone who its h =
    by_test (λ b. cond b (Some x) (find (has_token token) (y ∷ ys)) ≡ Some quar → (who ≡ quar.sid.number) × (its ≡ token)) (x.token == token)
    (λ _ here. absurd (alone (ap (λ (q : Quar). q.mode) (sym (some_same here)) ∙ is-invalidate x.mode beside.0.0.one_invalidates)))
    (λ _ there. absurd (alone (found_invalidates token x (y ∷ ys) quar beside.0 there)))
    found

-- while such a one stands nothing is written on the key
writes_none : (terms : Terms) (key : QKey) (token : ℕ) (s : Step) (past : List Step) (old quar : Quar) → IsLegalPast terms (s ∷ past) → quar_of key token past ≡ Some old → old.mode ≢ Invalidate
    → quar_of key token (s ∷ past) ≡ Some quar → (stamp : ℕ) → Has (Wrote stamp) (marks_in key s) → ⊥
writes_none terms key token (step.Stored on its now value n evicted) past old quar legal stood alone e stamp h =
    by_test (λ b. (same_key key on) ≡ b → Has (Wrote stamp) (cond b (Wrote n ∷ []) []) → ⊥) (same_key key on)
    (λ is _ _.
    let lease = current_lease its now (recorded on past) (well_made terms past (step.Stored on its now value n evicted) legal.0) in
    ⊎_elim
    (λ none. let two : Some lease.0 ≡ None = sym lease.1 ∙ none in absurd cc)
    (λ none. let two : None ≡ Some old = sym (ap (find (has_token token)) (subst (λ k. standing k past ≡ []) (sym (same_key-true key on is)) none)) ∙ stood in absurd cc)
    (legal_stands_well terms past legal.1 on).apart)
    (λ _ _ f. f)
    refl h
writes_none terms key token (step.Released on sid its how) past old quar legal stood alone e stamp h =
    by_test (λ b. (same_key key on) ≡ b → find (has_token token) (cond b (filter (λ q. not (has_token its q)) (standing key past)) (standing key past)) ≡ Some quar
    → Has (Wrote stamp) (cond b (writes_by how ++ Ended sid.number its ∷ []) []) → ⊥) (same_key key on)
    (λ is _ k _.
    let ended = answers_end_by_mode terms past on sid its how legal.0 in
    let there = subst (λ x. stands_as ended.0.sid.number its (standing x past) ≡ true) (sym (same_key-true key on is)) (token_stands on its past ended.0 ended.1) in
    let mine = (alone_one token (standing key past) old (legal_stands_well terms past legal.1 key).beside stood alone ended.0.sid.number its there).1 in
    none_left token its (standing key past) quar (sym mine) k)
    (λ _ _ _ f. f)
    refl e h
writes_none terms key token (step.Lease on sid floor now its deadline) past old quar legal stood alone e stamp h = one_in (Wrote stamp) (Leased its) (same_key key on) (λ x. cc) h
writes_none terms key token (step.Granted on sid mode shift now its deadline) past old quar legal stood alone e stamp h =
    one_in (Wrote stamp) (Granted sid.number its) (same_key key on) (λ x. cc) h
writes_none terms key token (step.Hit on sid floor value n) past old quar legal stood alone e stamp h = none_in (Wrote stamp) (same_key key on) h
writes_none terms key token (step.Again on sid floor now stands) past old quar legal stood alone e stamp h = none_in (Wrote stamp) (same_key key on) h
writes_none terms key token (step.Own on sid) past old quar legal stood alone e stamp h = none_in (Wrote stamp) (same_key key on) h
writes_none terms key token (step.Void on its now) past old quar legal stood alone e stamp h = none_in (Wrote stamp) (same_key key on) h
writes_none terms key token (step.Held on sid mode) past old quar legal stood alone e stamp h = none_in (Wrote stamp) (same_key key on) h
writes_none terms key token (step.Refused on sid mode holder held) past old quar legal stood alone e stamp h = none_in (Wrote stamp) (same_key key on) h
writes_none terms key token (step.Gone on sid its) past old quar legal stood alone e stamp h = none_in (Wrote stamp) (same_key key on) h
writes_none terms key token (step.Raised on sid its) past old quar legal stood alone e stamp h = none_in (Wrote stamp) (same_key key on) h
writes_none terms key token (step.Shared on sid its holder) past old quar legal stood alone e stamp h = none_in (Wrote stamp) (same_key key on) h
writes_none terms key token (step.Renewed on sid its now deadline) past old quar legal stood alone e stamp h = none_in (Wrote stamp) (same_key key on) h

-- what a quarantine that stands alone leaves of the later steps: none of them granted one of its key or wrote on it, and it is as it was
pub record StillAlone (key : QKey) (later : List Step) (old new : Quar) : Type 0 where
  pub unwritten : (stamp : ℕ) → Has (Wrote stamp) (marks_of key later) → ⊥
  pub none : (who token : ℕ) → Has (Granted who token) (marks_of key later) → ⊥
  pub is_still : IsStill old new

still_on : {a b c : Quar} → IsStill a b → IsStill b c → IsStill a c
still_on h k = record { sid = h.sid ∙ k.sid; shift = h.shift ∙ k.shift; alone = λ x. k.alone (h.alone x) }

pub still_alone : (terms : Terms) (key : QKey) (token : ℕ) (base : List Step) (old : Quar) → quar_of key token base ≡ Some old → old.mode ≢ Invalidate
    → ((more : List Step) → token < next_token terms (more ++ base)) → (later : List Step) → IsLegalPast terms (later ++ base)
    → (quar : Quar) → quar_of key token (later ++ base) ≡ Some quar → StillAlone key later old quar
still_alone terms key token base old stood alone below [] legal quar e =
    record { unwritten = λ n h. h; none = λ who t h. h; is_still = subst (IsStill old) (some_same (sym stood ∙ e)) (still old) }
still_alone terms key token base old stood alone below (s ∷ later) legal quar e =
    ⊎_elim
    (λ (was : Stood key token (later ++ base) quar).
    let before = still_alone terms key token base old stood alone below later legal.1 was.old was.stands in
    record {
      unwritten = λ n h.
          ⊎_elim
          (λ here. writes_none terms key token s (later ++ base) was.old quar legal was.stands (before.is_still.alone alone) e n here)
          (λ there. before.unwritten n there)
          (has-split (Wrote n) (marks_in key s) (marks_of key later) h);
      none = λ who t h.
          ⊎_elim
          (λ here. grants_join terms key (record { number = who }) (later ++ base) s token was.old legal (step-granted key (record { number = who }) t s here) was.stands (before.is_still.alone alone))
          (λ there. before.none who t there)
          (has-split (Granted who t) (marks_in key s) (marks_of key later) h);
      is_still = still_on before.is_still was.is_still;
    })
    (λ under. let is = grants_next terms (later ++ base) s token legal under in let low = below later in absurd (omega (arith, is, low)))
    (quar_back key token s (later ++ base) quar e)
