-- The grants that are out, behind a raise and behind a renewal.
use Rattle.std.proofs.Common.{◌≡◌, ◌<◌, ◌≤◌, ◌&&◌, ◌==◌, ℕ, Bool, true, false, cond, List, [], ◌∷◌, ◌++◌}
use Rattle.std.proofs.Common.{Option, Some, None, MatchBool, is_some, option_map, map, find, refl, sym, ap, subst, ◌∙◌, arith}
use Rattle.std.specs.List.{All, list_any, sum_by}
use Rattle.std.proofs.lemmas.Bool.{and_parts, and_from, eq-eqb, eqb-true, or_right}
use Rattle.std.proofs.lemmas.List.Elements.{All-nil, All-cons, All-head, All-tail, All-weaker}
use Rattle.std.proofs.lemmas.List.Sums.{sum_by-cons}
use Rattle.rows_model.specs.declared.keys.QKey.{QKey}
use Rattle.rows_model.specs.declared.keys.Sid.{Sid}
use Rattle.rows_model.specs.Key.{same_key}
use Rattle.rows_model.proofs.SameKey.{same_key-swap}
use Rattle.lease_table.specs.declared.records.Mode.TheVariants.{Invalidate, Refresh}
use Rattle.lease_table.specs.declared.records.Quar.{Quar}
use Rattle.lease_table.specs.Leases as leases
use Rattle.lease_table.specs.Leases.{Leaves, first, has_token, is_of, is_raisable, own_in, others_in, raise_in, raised, renewed, way_of}
use Rattle.lease_table.specs.declared.records.Lease.{Lease}
use Rattle.case_tables.specs.Compatibility.{Way, invalidate, refresh, delta, is_invalidate, is_raised, raise_verdict}
use Rattle.case_tables.specs.declared.grids.Verdict.{Verdict}
use Rattle.case_tables.specs.declared.grids.Verdict.TheVariants as verdicts
use Rattle.entry_table.specs.Entries.{Item}
use Rattle.key_shard.specs.declared.bodies.Body.{Body}
use Rattle.key_shard.specs.declared.outs.Out.{Out}
use Rattle.key_shard.specs.declared.steps.Step.{Step}
use Rattle.key_shard.specs.declared.steps.Step.TheVariants.{Raised, Shared, Renewed}
use Rattle.key_shard.specs.Permit.{Permit}
use Rattle.key_shard.specs.Past.{Terms, standing, quar_of, next_token, grants}
use Rattle.key_shard.specs.Answers.{Answers, IsOf, OwesRaise, OwesRenew, Raise, raise_by, raise_step, shared_step}
use Rattle.key_shard.specs.LegalStands.{StandsWell}
use Rattle.key_shard.specs.Kept.{Ties, IsKept, IsOut, AreHeld, is_for, permit_of, places_for, places_of, raised_out, shown, steps_of, terms_of}
use Rattle.key_shard.specs.Shards.{ShardView, is_out, raised_permit, stepped}
use Rattle.key_shard.proofs.GrantLemmas.{granted-same}
use Rattle.key_shard.proofs.DueLemmas.{found-there, same-due}
use Rattle.key_shard.proofs.LegalLemmas.{distinct, found_own, found-passes, token_stands}
use Rattle.key_shard.proofs.OutLemmas.{any-map, out-granted, out-stands}
use Rattle.key_shard.proofs.PlaceLemmas.{StoodSome, next-grows, places-some_kept}
use Rattle.key_shard.proofs.RaiseLemmas.{quar-raised, quar-renewed, raised-here, raised-apart, renewed-sid, renewed-mode}

-- a grant in mode Refresh in the place of this one
abbrev lifted_out : Out → Out
lifted_out out = record { key = out.key; sid = out.sid; mode = Refresh; token = out.token }

-- what is told of a grant but its mode is as it was before a raise
raised_out-same : {Y : Type 0} (f : Out → Y) (key : QKey) (token : ℕ) (out : Out) → f (lifted_out out) ≡ f out → f (raised_out key token out) ≡ f out
raised_out-same f key token out e = by (is_for key token out)
  where
    by : (b : Bool) → f (cond b (lifted_out out) out) ≡ f out
    by true = e
    by false = refl

-- what is found by its token has it
found-token : (token : ℕ) (quars : List Quar) (quar : Quar) → find (has_token token) quars ≡ Some quar → quar.token ≡ token
found-token token [] quar e = cc
found-token token (one ∷ quars) quar e = by (has_token token one) refl (found-token token quars quar) e
  where
    by : (b : Bool) → has_token token one ≡ b → (find (has_token token) quars ≡ Some quar → quar.token ≡ token)
        → cond b (Some one) (find (has_token token) quars) ≡ Some quar → quar.token ≡ token
    by true here rest e = let same : one ≡ quar = cc in ap (λ q. q.token) (sym same) ∙ eqb-true one.token token here
    by false apart rest e = rest e

-- ---- behind a renewal

stood-renewed : (past : List Step) (on : QKey) (sid : Sid) (token now deadline : ℕ) → StoodSome past (Renewed on sid token now deadline)
stood-renewed past on sid token now deadline key of quar e =
    let was = quar-renewed past on sid token now deadline key of quar e in (was.0, was.1)

pub places-renewed : (terms : Terms) (past : List Step) (on : QKey) (sid : Sid) (token now deadline : ℕ) (outs : List Out)
    → All (IsOut terms past) outs → places_of (Renewed on sid token now deadline ∷ past) outs ≤ places_of past outs
places-renewed terms past on sid token now deadline outs h =
    places-some_kept terms past (Renewed on sid token now deadline) (stood-renewed past on sid token now deadline) outs h

pub held-renewed : (past : List Step) (on : QKey) (sid : Sid) (token now deadline : ℕ) (outs : List Out)
    → AreHeld past outs → AreHeld (Renewed on sid token now deadline ∷ past) outs
held-renewed past on sid token now deadline outs held key of quar e =
    let was = quar-renewed past on sid token now deadline key of quar e in held key of was.0 was.1

pub IsOut-renewed : (terms : Terms) (past : List Step) (on : QKey) (sid : Sid) (token now deadline : ℕ) (outs : List Out)
    → All (IsOut terms past) outs → All (IsOut terms (Renewed on sid token now deadline ∷ past)) outs
IsOut-renewed terms past on sid token now deadline outs h =
    All-weaker (IsOut terms past) (IsOut terms (step ∷ past)) (λ o was. record {
      at_home = was.at_home;
      granted = or_right (grants (permit_of terms.no o) (Renewed on sid token now deadline)) (list_any (grants (permit_of terms.no o)) past) was.granted;
      drawn = omega (arith, grows, was.drawn);
      stands = λ quar e.
          let old = quar-renewed past on sid token now deadline o.key o.token quar e in
          let of = was.stands old.0 old.1 in
          record {
            sid = sym (renewed-sid token deadline (same_key o.key on) old.0 quar old.2) ∙ of.sid;
            mode = sym (renewed-mode token deadline (same_key o.key on) old.0 quar old.2) ∙ of.mode;
          };
    }) outs h
  where
    step : Step
    step = Renewed on sid token now deadline

    grows : next_token terms past ≤ next_token terms (step ∷ past)
    grows = next-grows terms past step

-- ---- behind a raise

stood-raised : (past : List Step) (on : QKey) (sid : Sid) (token : ℕ) → StoodSome past (Raised on sid token)
stood-raised past on sid token key of quar e = let was = quar-raised past on sid token key of quar e in (was.0, was.1)

sum-mapped : (f : Out → ℕ) (g : Out → Out) → ((out : Out) → f (g out) ≡ f out) → (outs : List Out) → sum_by f (map g outs) ≡ sum_by f outs
sum-mapped f g same [] = refl
sum-mapped f g same (out ∷ outs) =
    let here = same out in
    let rest = sum-mapped f g same outs in
    let new = sum_by-cons f (g out) (map g outs) in
    let old = sum_by-cons f out outs in
    omega (arith, here, rest, new, old)

pub places-raised : (terms : Terms) (past : List Step) (on : QKey) (sid : Sid) (token : ℕ) (outs : List Out)
    → All (IsOut terms past) outs → places_of (Raised on sid token ∷ past) (map (raised_out on token) outs) ≤ places_of past outs
places-raised terms past on sid token outs h =
    let kept = places-some_kept terms past (Raised on sid token) (stood-raised past on sid token) outs h in
    let same = sum-mapped (places_for (Raised on sid token ∷ past)) (raised_out on token)
    (λ out. raised_out-same (places_for (Raised on sid token ∷ past)) on token out refl) outs in
    omega (arith, kept, same)

pub held-raised : (past : List Step) (on : QKey) (sid : Sid) (token : ℕ) (outs : List Out)
    → AreHeld past outs → AreHeld (Raised on sid token ∷ past) (map (raised_out on token) outs)
held-raised past on sid token outs held key of quar e =
    let was = quar-raised past on sid token key of quar e in
    any-map (is_for key of) (raised_out on token) outs
    ∙ ap (λ p. list_any p outs) (λ i out. raised_out-same (is_for key of) on token out refl i) ∙ held key of was.0 was.1

-- the one grant of the raised quarantine, and each other
module _ (terms : Terms) (past : List Step) (on : QKey) (sid : Sid) (token : ℕ) (o : Out) (was : IsOut terms past o) where
  abbrev step : Step
  step = Raised on sid token

  drawn : o.token < next_token terms (step ∷ past)
  drawn = let grows = next-grows terms past step in omega (arith, grows, was.drawn)

  -- the quarantine that the grant speaks of, once it is raised
  of-raised : is_for on token o ≡ true → (quar : Quar) → quar_of o.key o.token (step ∷ past) ≡ Some quar → IsOf (permit_of terms.no (lifted_out o)) quar
  of-raised for quar e =
      let old = quar-raised past on sid token o.key o.token quar e in
      let parts = and_parts (same_key on o.key) (o.token == token) for in
      let of = was.stands old.0 old.1 in
      let named : old.0.token ≡ token = found-token o.token (standing o.key past) old.0 old.1 ∙ eqb-true o.token token parts.1 in
      let here : raised token old.0 ≡ quar =
      ap (λ b. cond b (raised token old.0) old.0) (sym (same_key-swap o.key on ∙ parts.0)) ∙ old.2 in
      let is = sym (raised-here token old.0 (eq-eqb old.0.token token named)) ∙ here in
      record { sid = ap (λ (q : Quar). q.sid) (sym is) ∙ of.sid; mode = ap (λ (q : Quar). q.mode) (sym is) }

  -- and where it is another
  of-other : is_for on token o ≡ false → (quar : Quar) → quar_of o.key o.token (step ∷ past) ≡ Some quar → IsOf (permit_of terms.no o) quar
  of-other apart quar e =
      let old = quar-raised past on sid token o.key o.token quar e in
      subst (IsOf (permit_of terms.no o)) (by old.0 old.1 (same_key o.key on) refl ∙ old.2) (was.stands old.0 old.1)
    where
      by : (old : Quar) → quar_of o.key o.token past ≡ Some old → (b : Bool) → same_key o.key on ≡ b → old ≡ cond b (raised token old) old
      by old stood true same =
          let others : (o.token == token) ≡ false =
          ap (λ b. b && (o.token == token)) (sym (same_key-swap on o.key ∙ same)) ∙ apart in
          let named = found-token o.token (standing o.key past) old stood in
          sym (raised-apart token old (ap (λ n. n == token) named ∙ others))
      by old stood false other = refl

  pub IsOut-raised_one : IsOut terms (step ∷ past) (raised_out on token o)
  IsOut-raised_one = by (is_for on token o) refl
    where
      by : (b : Bool) → is_for on token o ≡ b → IsOut terms (step ∷ past) (cond b (lifted_out o) o)
      by true for = record {
        at_home = was.at_home;
        granted = or_right (grants (permit_of terms.no (lifted_out o)) (Raised on sid token)) (list_any (grants (permit_of terms.no (lifted_out o))) past)
            (granted-same (permit_of terms.no o) (permit_of terms.no (lifted_out o)) refl refl refl past was.granted);
        drawn = drawn;
        stands = of-raised for;
      }
      by false apart = record {
        at_home = was.at_home;
        granted = or_right (grants (permit_of terms.no o) (Raised on sid token)) (list_any (grants (permit_of terms.no o)) past) was.granted;
        drawn = drawn;
        stands = of-other apart;
      }

pub IsOut-raised : (terms : Terms) (past : List Step) (on : QKey) (sid : Sid) (token : ℕ) (outs : List Out)
    → All (IsOut terms past) outs → All (IsOut terms (Raised on sid token ∷ past)) (map (raised_out on token) outs)
IsOut-raised terms past on sid token [] h = All-nil (IsOut terms (Raised on sid token ∷ past))
IsOut-raised terms past on sid token (out ∷ outs) h =
    All-cons (IsOut terms (Raised on sid token ∷ past)) (raised_out on token out) (map (raised_out on token) outs)
    (IsOut-raised_one terms past on sid token out (All-head (IsOut terms past) out outs h))
    (IsOut-raised terms past on sid token outs (All-tail (IsOut terms past) out outs h))

-- ---- what callers see of it

permit-raised : (number : ℕ) (key : QKey) (token : ℕ) (out : Out)
    → permit_of number (raised_out key token out) ≡ raised_permit key token (permit_of number out)
permit-raised number key token out = by (is_for key token out)
  where
    by : (b : Bool) → permit_of number (cond b (lifted_out out) out)
        ≡ cond b (record { shard = number; key = out.key; sid = out.sid; mode = Refresh; token = out.token }) (permit_of number out)
    by true = refl
    by false = refl

pub permits-raised : (number : ℕ) (key : QKey) (token : ℕ) (outs : List Out)
    → map (permit_of number) (map (raised_out key token) outs) ≡ map (raised_permit key token) (map (permit_of number) outs)
permits-raised number key token [] = refl
permits-raised number key token (out ∷ outs) =
    let here = permit-raised number key token out in
    let rest = permits-raised number key token outs in
    λ i. here i ∷ rest i

pub view-raised : (old : Body) (terms : Terms) (history : List Step) (outs : List Out) (key : QKey) (sid : Sid) (token : ℕ) → terms ≡ terms_of old
    → history ≡ old.history.steps ++ Raised key sid token ∷ [] → outs ≡ map (raised_out key token) old.out
    → record { terms = terms; history = history; out = map (permit_of old.no) outs } ≡ stepped (shown old) (Raised key sid token)
view-raised old terms history outs key sid token same pushed less =
    let made : Terms → List Step → List Permit → ShardView = λ t h o. record { terms = t; history = h; out = o } in
    ap (λ t. made t history (map (permit_of old.no) outs)) same
    ∙ ap (λ h. made (terms_of old) h (map (permit_of old.no) outs)) pushed
    ∙ ap (made (terms_of old) (old.history.steps ++ Raised key sid token ∷ [])) (ap (map (permit_of old.no)) less ∙ permits-raised old.no key token old.out)

-- ---- what a raise and a renewal owe of a grant that is out

pub owes-raise : (body : Body) (grant : Permit) → IsKept body → is_out (shown body) grant ≡ true → grant.mode ≡ Invalidate
    → OwesRaise (steps_of body) grant (quar_of grant.key grant.token (steps_of body))
owes-raise body grant kept out invalidates = by (quar_of grant.key grant.token (steps_of body)) refl
  where
    by : (o : Option Quar) → quar_of grant.key grant.token (steps_of body) ≡ o → OwesRaise (steps_of body) grant o
    by None is = (out-granted body grant kept out).0
    by (Some quar) is = let of = out-stands body grant kept out quar is in (of, of.mode ∙ invalidates)

pub owes-renew : (body : Body) (grant : Permit) → IsKept body → is_out (shown body) grant ≡ true
    → OwesRenew (steps_of body) grant (quar_of grant.key grant.token (steps_of body))
owes-renew body grant kept out = by (quar_of grant.key grant.token (steps_of body)) refl
  where
    by : (o : Option Quar) → quar_of grant.key grant.token (steps_of body) ≡ o → OwesRenew (steps_of body) grant o
    by None is = (out-granted body grant kept out).0
    by (Some quar) is = out-stands body grant kept out quar is

-- ---- the verdict on a raise

-- as the past tells it
pub raise-found : {terms : Terms} {past : List Step} {list : List Item} {table : List Lease} {next : ℕ} → Ties terms past list table next
    → (key key' : QKey) (sid sid' : Sid) (token token' : ℕ) (v : Verdict) → key' ≡ key → sid' ≡ sid → token' ≡ token
    → v ≡ raise_in sid' token' (leases.quars key' table) → raise_in sid token (standing key past) ≡ v
raise-found {table = table} h key key' sid sid' token token' v keys sids tokens e =
    sym (e ∙ ap (λ s. raise_in s token' (leases.quars key' table)) sids ∙ ap (λ t. raise_in sid t (leases.quars key' table)) tokens
    ∙ ap (λ k. raise_in sid token (leases.quars k table)) keys ∙ ap (raise_in sid token) (h.quars key))

-- the other session's quarantine, as the past tells it
pub other-found : {terms : Terms} {past : List Step} {list : List Item} {table : List Lease} {next : ℕ} → Ties terms past list table next
    → (key key' : QKey) (sid sid' : Sid) (found : Option Quar) → key' ≡ key → sid' ≡ sid
    → found ≡ first (others_in sid' (leases.quars key' table)) → found ≡ first (others_in sid (standing key past))
other-found {table = table} h key key' sid sid' found keys sids e =
    e ∙ ap (λ s. first (others_in s (leases.quars key' table))) sids
    ∙ ap (λ k. first (others_in sid (leases.quars k table))) keys ∙ ap (λ qs. first (others_in sid qs)) (h.quars key)

-- the step that names it
pub shared-named : {terms : Terms} {past : List Step} {list : List Item} {table : List Lease} {next : ℕ} → Ties terms past list table next
    → (permit : Permit) (key : QKey) (sid : Sid) (token : ℕ) (found : Option Quar) (quar : Quar) → key ≡ permit.key → sid ≡ permit.sid → token ≡ permit.token
    → found ≡ first (others_in sid (leases.quars key table)) → found ≡ Some quar
    → shared_step permit (first (others_in permit.sid (standing permit.key past))) ≡ Shared key sid token quar.sid
shared-named h permit key sid token found quar keys sids tokens e is =
    ap (shared_step permit) (sym (other-found h permit.key key permit.sid sid found keys sids e) ∙ is)
    ∙ sym (ap (λ k. Shared k sid token quar.sid) keys ∙ ap (λ s. Shared permit.key s token quar.sid) sids
    ∙ ap (λ t. Shared permit.key permit.sid t quar.sid) tokens)

-- what a raise leaves that is one
pub raise-leaves : {terms : Terms} {past : List Step} {list : List Item} {table : List Lease} {next : ℕ} → Ties terms past list table next
    → (key key' : QKey) (sid sid' : Sid) (token token' : ℕ) (v : Verdict) (new : List Lease) → key' ≡ key → sid' ≡ sid → token' ≡ token
    → v ≡ raise_in sid' token' (leases.quars key' table)
    → MatchBool (is_raised v) (Leaves key' (leases.recorded key' table) (map (raised token') (leases.quars key' table)) table new) (new ≡ table)
    → raise_in sid token (standing key past) ≡ verdicts.Raise
    → Leaves key (leases.recorded key table) (map (raised token) (leases.quars key table)) table new
raise-leaves {table = table} h key key' sid sid' token token' v new keys sids tokens e after raises =
    let is : v ≡ verdicts.Raise = sym (raise-found h key key' sid sid' token token' v keys sids tokens e) ∙ raises in
    let leaves : Leaves key' (leases.recorded key' table) (map (raised token') (leases.quars key' table)) table new =
    subst (λ x. MatchBool (is_raised x) (Leaves key' (leases.recorded key' table) (map (raised token') (leases.quars key' table)) table new)
    (new ≡ table)) is after in
    subst (λ t. Leaves key (leases.recorded key table) (map (raised t) (leases.quars key table)) table new) tokens
    (subst (λ k. Leaves k (leases.recorded k table) (map (raised token') (leases.quars k table)) table new) keys leaves)

-- what a renewal leaves of a quarantine that is there
pub renew-leaves : {terms : Terms} {past : List Step} {list : List Item} {table : List Lease} {next : ℕ} → Ties terms past list table next
    → (key key' : QKey) (token token' deadline deadline' : ℕ) (flag : Bool) (new : List Lease) → key' ≡ key → token' ≡ token → deadline' ≡ deadline
    → flag ≡ is_some (find (has_token token') (leases.quars key' table))
    → MatchBool flag (Leaves key' (leases.recorded key' table) (map (renewed token' deadline') (leases.quars key' table)) table new) (new ≡ table)
    → is_some (quar_of key token past) ≡ true
    → Leaves key (leases.recorded key table) (map (renewed token deadline) (leases.quars key table)) table new
renew-leaves {table = table} h key key' token token' deadline deadline' flag new keys tokens until e after stands =
    let is : flag ≡ true =
    e ∙ ap (λ t. is_some (find (has_token t) (leases.quars key' table))) tokens
    ∙ ap (λ k. is_some (find (has_token token) (leases.quars k table))) keys ∙ ap (λ qs. is_some (find (has_token token) qs)) (h.quars key) ∙ stands in
    let leaves : Leaves key' (leases.recorded key' table) (map (renewed token' deadline') (leases.quars key' table)) table new =
    subst (λ b. MatchBool b (Leaves key' (leases.recorded key' table) (map (renewed token' deadline') (leases.quars key' table)) table new)
    (new ≡ table)) is after in
    subst (λ d. Leaves key (leases.recorded key table) (map (renewed token d) (leases.quars key table)) table new) until
    (subst (λ t. Leaves key (leases.recorded key table) (map (renewed t deadline') (leases.quars key table)) table new) tokens
    (subst (λ k. Leaves k (leases.recorded k table) (map (renewed token' deadline') (leases.quars k table)) table new) keys leaves))

-- where it is refused another's is there
refused-any : (own : Option Way) (others : List Way) → raise_verdict own others ≡ verdicts.Refuse → others ≡ [] → ⊥
refused-any None others e none = cc
refused-any (Some invalidate) [] e none = cc
refused-any (Some invalidate) (w ∷ ws) e none = cc
refused-any (Some refresh) others e none = cc
refused-any (Some delta) others e none = cc

some-first : (quars : List Quar) → (map (λ quar. way_of quar.mode) quars ≡ [] → ⊥) → is_some (first quars) ≡ true
some-first [] h = absurd (h refl)
some-first (quar ∷ quars) h = refl

pub raise-beside : (who : Sid) (token : ℕ) (quars : List Quar) → raise_in who token quars ≡ verdicts.Refuse → is_some (first (others_in who quars)) ≡ true
raise-beside who token quars = by (list_any (is_raisable who token) quars)
  where
    by : (b : Bool) → cond b (raise_verdict (option_map (λ quar. way_of quar.mode) (own_in who quars)) (map (λ quar. way_of quar.mode) (others_in who quars)))
        verdicts.Gone ≡ verdicts.Refuse → is_some (first (others_in who quars)) ≡ true
    by true e = some-first (others_in who quars) (refused-any _ _ e)
    by false e = cc

-- an own quarantine to invalidate is raised or refused
invalidate-judged : (others : List Way) → (raise_verdict (Some invalidate) others ≡ verdicts.Raise → ⊥)
    → (raise_verdict (Some invalidate) others ≡ verdicts.Refuse → ⊥) → ⊥
invalidate-judged [] raise refuse = raise refl
invalidate-judged (w ∷ ws) raise refuse = refuse refl

some_same : {a b : Quar} → Some a ≡ Some b → a ≡ b
some_same e = cc

-- so where a raise is neither, the quarantine of a grant to invalidate is there no longer
pub raise-none : (terms : Terms) (past : List Step) (permit : Permit) → StandsWell terms past permit.key
    → ((quar : Quar) → quar_of permit.key permit.token past ≡ Some quar → IsOf permit quar) → permit.mode ≡ Invalidate
    → (raise_in permit.sid permit.token (standing permit.key past) ≡ verdicts.Raise → ⊥)
    → (raise_in permit.sid permit.token (standing permit.key past) ≡ verdicts.Refuse → ⊥) → quar_of permit.key permit.token past ≡ None
raise-none terms past permit well of invalidates raise refuse = by (quar_of permit.key permit.token past) refl
  where
    quars : List Quar
    quars = standing permit.key past

    judged : (quar : Quar) → quar_of permit.key permit.token past ≡ Some quar
        → raise_in permit.sid permit.token (standing permit.key past)
        ≡ raise_verdict (Some invalidate) (map (λ q. way_of q.mode) (others_in permit.sid (standing permit.key past)))
    judged quar e =
        let is = of quar e in
        let named : quar.token ≡ permit.token = found-token permit.token (standing permit.key past) quar e in
        let mine : list_any (λ q. (q.sid.number == permit.sid.number) && (q.token == permit.token)) (standing permit.key past) ≡ true =
        ap (λ n. list_any (λ q. (q.sid.number == n) && (q.token == permit.token)) (standing permit.key past)) (ap (λ (s : Sid). s.number) (sym is.sid))
        ∙ token_stands permit.key permit.token past quar e in
        let own = found_own terms past permit.key permit.sid permit.token well mine in
        let one : own.0 ≡ quar =
        same-due (standing permit.key past) permit.key own.0 quar (distinct terms past permit.key well)
        (found-there (is_of permit.sid) (standing permit.key past) own.0 own.1)
        (found-there (has_token permit.token) (standing permit.key past) quar e) (own.2 ∙ sym named) in
        let way : way_of own.0.mode ≡ invalidate = ap (λ (q : Quar). way_of q.mode) one ∙ ap way_of (is.mode ∙ invalidates) in
        let passes : is_raisable permit.sid permit.token quar ≡ true =
        and_from (is_of permit.sid quar) (has_token permit.token quar && is_invalidate (way_of quar.mode))
        (eq-eqb quar.sid.number permit.sid.number (ap (λ (s : Sid). s.number) is.sid))
        (and_from (has_token permit.token quar) (is_invalidate (way_of quar.mode)) (eq-eqb quar.token permit.token named)
        (ap (λ m. is_invalidate (way_of m)) (is.mode ∙ invalidates))) in
        let any : list_any (is_raisable permit.sid permit.token) (standing permit.key past) ≡ true =
        found-passes (has_token permit.token) (is_raisable permit.sid permit.token) (standing permit.key past) quar (λ _. passes) e in
        ap (λ b. cond b (raise_verdict (option_map (λ q. way_of q.mode) (own_in permit.sid (standing permit.key past)))
        (map (λ q. way_of q.mode) (others_in permit.sid (standing permit.key past)))) verdicts.Gone) any
        ∙ ap (λ o. raise_verdict (option_map (λ q. way_of q.mode) o) (map (λ q. way_of q.mode) (others_in permit.sid (standing permit.key past)))) own.1
        ∙ ap (λ w. raise_verdict (Some w) (map (λ q. way_of q.mode) (others_in permit.sid (standing permit.key past)))) way

    by : (o : Option Quar) → quar_of permit.key permit.token past ≡ o → quar_of permit.key permit.token past ≡ None
    by None e = e
    by (Some quar) e =
        let is = judged quar e in
        absurd (invalidate-judged (map (λ q. way_of q.mode) (others_in permit.sid (standing permit.key past))) (λ r. raise (is ∙ r)) (λ r. refuse (is ∙ r)))

-- the step of a raise of a grant that is out answers it
pub raise-answers : (body : Body) (grant : Permit) → IsKept body → is_out (shown body) grant ≡ true → grant.mode ≡ Invalidate
    → (s : Step) → s ≡ raise_step (steps_of body) grant → Answers (terms_of body) (steps_of body) s
raise-answers body grant kept out invalidates s is = record {
  request = Raise grant;
  at_home = (out-granted body grant kept out).1;
  owed = owes-raise body grant kept out invalidates;
  answer = is;
}

-- so does the step that the verdict gives
pub raise-judged : (body : Body) (grant : Permit) → IsKept body → is_out (shown body) grant ≡ true → grant.mode ≡ Invalidate
    → (key : QKey) (sid : Sid) (token : ℕ) (v w : Verdict) → key ≡ grant.key → sid ≡ grant.sid → token ≡ grant.token
    → v ≡ raise_in sid token (leases.quars key body.leases) → v ≡ w
    → Answers (terms_of body) (steps_of body) (raise_by grant (first (others_in grant.sid (standing grant.key (steps_of body)))) w)
raise-judged body grant kept out invalidates key sid token v w keys sids tokens e is =
    raise-answers body grant kept out invalidates _ (sym (ap (raise_by grant (first (others_in grant.sid (standing grant.key (steps_of body)))))
    (raise-found kept.ties grant.key key grant.sid sid grant.token token v keys sids tokens e ∙ is)))
