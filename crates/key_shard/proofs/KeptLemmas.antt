-- A shard keeps what it keeps through a step.
use Rattle.std.proofs.Common.{◌≡◌, ◌<◌, ◌≤◌, ◌+◌, ◌==◌, ◌||◌, ℕ, Bool, true, false, cond, find, List, [], ◌∷◌, ◌++◌, reverse, Some, refl}
use Rattle.std.proofs.Common.{sym, ap, subst, ◌∙◌, arith}
use Rattle.std.specs.List.{All, count_by, list_any}
use Rattle.std.specs.Option.{option_or}
use Rattle.std.proofs.lemmas.List.Folds.{find-append, list_any-append}
use Rattle.rows_model.specs.Key.{same_key}
use Rattle.std.proofs.lemmas.Bool.{or_left, or_right, and_from, eq-eqb}
use Rattle.std.specs.Prelude.{ℤ}
use Rattle.rows_model.proofs.SameKey.{same_key-refl}
use Rattle.lease_table.specs.declared.records.Quar.{Quar}
use Rattle.lease_table.specs.Leases.{has_token}
use Rattle.std.proofs.lemmas.List.Sums.{sum_by-cons}
use Rattle.std.proofs.lemmas.List.{reverse-append}
use Rattle.std.proofs.lemmas.List.Elements.{All-nil, All-weaker}
use Rattle.entry_table.proofs.EntriesLemmas.{lookup-nil, keys-nil}
use Rattle.key_shard.specs.declared.bodies.Body.{Body}
use Rattle.key_shard.specs.declared.outs.Out.{Out}
use Rattle.key_shard.specs.declared.steps.Step.{Step}
use Rattle.key_shard.specs.declared.steps.Step.TheVariants.{Granted}
use Rattle.key_shard.specs.Shards.{ShardView, stepped, out_after}
use Rattle.key_shard.specs.Past.{Terms, standing, quar_of, draws, next_token}
use Rattle.key_shard.specs.Permit.{Permit}
use Rattle.key_shard.specs.Answers.{IsAtHome, IsOf}
use Rattle.key_shard.specs.Kept.{Ties, IsKept, IsOut, AreHeld, is_for, permit_of, places_of, terms_of, steps_of}
use Rattle.key_shard.proofs.PlaceLemmas.{StoodBefore, AddsNone, stood-still, next-grows, places-kept, found-last, found-one, or-none}

-- what was granted stays so, and what stands of it stood
pub IsOut-later : (terms : Terms) (past : List Step) (step : Step)
    → StoodBefore terms past step → (out : List Out) → All (IsOut terms past) out → All (IsOut terms (step ∷ past)) out
IsOut-later terms past step stood out h =
    let grows = next-grows terms past step in
    All-weaker (IsOut terms past) (IsOut terms (step ∷ past)) (λ o was. record {
      at_home = was.at_home;
      granted = or_right _ _ was.granted;
      drawn = omega (arith, grows, was.drawn);
      stands = λ quar e. was.stands quar (stood o.key o.token quar was.drawn e);
    }) out h

pub steps-pushed : (history new : List Step) (step : Step) → new ≡ history ++ step ∷ [] → reverse new ≡ step ∷ reverse history
steps-pushed history new step e = ap reverse e ∙ reverse-append history (step ∷ [])

-- each quarantine that stands has a grant that is out, where a step adds no quarantine
pub held-later : (past : List Step) (step : Step) → AddsNone past step → (outs : List Out) → AreHeld past outs → AreHeld (step ∷ past) outs
held-later past step none outs held key token quar e = held key token quar (none key token quar e)

-- and where it adds the one whose grant is out behind it
pub held-granted : (past : List Step) (outs : List Out) (out : Out) (shift : ℤ) (now deadline : ℕ)
    → AreHeld past outs → AreHeld (Granted out.key out.sid out.mode shift now out.token deadline ∷ past) (outs ++ out ∷ [])
held-granted past outs out shift now deadline held key token quar e =
    list_any-append (is_for key token) outs (out ∷ []) ∙ by (same_key key out.key) refl e
  where
    new : Quar
    new = record { sid = out.sid; mode = out.mode; token = out.token; deadline = deadline; shift = shift }

    IsHeld : Type 0
    IsHeld = (list_any (is_for key token) outs || list_any (is_for key token) (out ∷ [])) ≡ true

    before : quar_of key token past ≡ Some quar → IsHeld
    before f =
        or_left (list_any (is_for key token) outs) (list_any (is_for key token) (out ∷ [])) (held key token quar f)

    at_token : same_key key out.key ≡ true → (b : Bool) → (out.token == token) ≡ b → find (has_token token) (standing key past ++ new ∷ []) ≡ Some quar → IsHeld
    at_token same true here f =
        or_right (list_any (is_for key token) outs) (list_any (is_for key token) (out ∷ []))
        (or_left (is_for key token out) false (and_from (same_key key out.key) (out.token == token) same here))
    at_token same false other f =
        let less : find (has_token token) (standing key past ++ new ∷ []) ≡ quar_of key token past =
        find-append (has_token token) (standing key past) (new ∷ [])
        ∙ ap (option_or (quar_of key token past)) (found-one token new false other) ∙ or-none (quar_of key token past) in
        before (sym less ∙ f)

    by : (b : Bool) → same_key key out.key ≡ b → find (has_token token) (cond b (standing key past ++ new ∷ []) (standing key past)) ≡ Some quar → IsHeld
    by true same f = at_token same (out.token == token) refl f
    by false apart f = before f

-- what callers see behind a step
pub view-after : (old new : ShardView) (step : Step) → new.terms ≡ old.terms → new.history ≡ old.history ++ step ∷ [] → new.out ≡ old.out
    → out_after old.terms step old.out ≡ old.out → new ≡ stepped old step
view-after old new step terms history out quiet =
    let made : Terms → List Step → List Permit → ShardView = λ t h o. record { terms = t; history = h; out = o } in
    ap (λ t. made t new.history new.out) terms ∙ ap (λ h. made old.terms h new.out) history
    ∙ ap (made old.terms (old.history ++ step ∷ [])) (out ∙ sym quiet)

-- what a shard keeps after a step
pub IsKept-after : (old new : Body) (step : Step) → new.history.steps ≡ old.history.steps ++ step ∷ [] → terms_of new ≡ terms_of old
    → Ties (terms_of old) (step ∷ steps_of old) new.entries.list new.leases new.next → new.no < new.count
    → All (IsOut (terms_of old) (step ∷ steps_of old)) new.out → AreHeld (step ∷ steps_of old) new.out
    → places_of (step ∷ steps_of old) new.out ≤ new.promised → new.history.used + new.promised ≤ new.history.room → IsKept new
IsKept-after old new step pushed same ties one outs held promises reserved =
    let past : steps_of new ≡ step ∷ steps_of old = steps-pushed old.history.steps new.history.steps step pushed in
    record {
      one_of = one;
      ties = subst (λ p. Ties (terms_of new) p new.entries.list new.leases new.next)
          (sym past) (subst (λ t. Ties t (step ∷ steps_of old) new.entries.list new.leases new.next) (sym same) ties);
      outs = subst (λ p. All (IsOut (terms_of new) p) new.out) (sym past) (subst (λ t. All (IsOut t (step ∷ steps_of old)) new.out) (sym same) outs);
      held = subst (λ p. AreHeld p new.out) (sym past) held;
      promises = subst (λ p. places_of p new.out ≤ new.promised) (sym past) promises;
      reserved = reserved;
    }

-- a step that makes no grant
pub IsKept-step : (old new : Body) (step : Step) → AddsNone (steps_of old) step → IsKept old → new.history.steps ≡ old.history.steps ++ step ∷ []
    → terms_of new ≡ terms_of old → Ties (terms_of old) (step ∷ steps_of old) new.entries.list new.leases new.next → new.no < new.count
    → All (IsOut (terms_of old) (steps_of old)) new.out → AreHeld (steps_of old) new.out
    → places_of (steps_of old) new.out ≤ new.promised → new.history.used + new.promised ≤ new.history.room → IsKept new
IsKept-step old new step none kept pushed same ties one outs held promises reserved =
    let stood = stood-still (terms_of old) (steps_of old) step none in
    let kept_places = places-kept (terms_of old) (steps_of old) step stood new.out outs in
    IsKept-after old new step pushed same ties one (IsOut-later (terms_of old) (steps_of old) step stood new.out outs)
    (held-later (steps_of old) step none new.out held) (omega (arith, kept_places, promises)) reserved

-- what a shard keeps where all stays but the room of its lists
pub IsKept-still : (old new : Body) → IsKept old → terms_of new ≡ terms_of old → new.history.steps ≡ old.history.steps → new.entries.list ≡ old.entries.list
    → new.leases ≡ old.leases → new.next ≡ old.next → new.out ≡ old.out
    → new.no < new.count → places_of (steps_of old) old.out ≤ new.promised → new.history.used + new.promised ≤ new.history.room → IsKept new
IsKept-still old new kept same history list table next out one promises reserved =
    let past : steps_of new ≡ steps_of old = ap reverse history in
    let ties : Ties (terms_of old) (steps_of old) new.entries.list new.leases new.next =
    subst (λ n. Ties (terms_of old) (steps_of old) new.entries.list new.leases n) (sym next)
    (subst (λ t. Ties (terms_of old) (steps_of old) new.entries.list t old.next)
    (sym table) (subst (λ l. Ties (terms_of old) (steps_of old) l old.leases old.next) (sym list) kept.ties)) in
    let outs : All (IsOut (terms_of old) (steps_of old)) new.out = subst (All (IsOut (terms_of old) (steps_of old))) (sym out) kept.outs in
    record {
      one_of = one;
      ties = subst (λ p. Ties (terms_of new) p new.entries.list new.leases new.next)
          (sym past) (subst (λ t. Ties t (steps_of old) new.entries.list new.leases new.next) (sym same) ties);
      outs = subst (λ p. All (IsOut (terms_of new) p) new.out) (sym past) (subst (λ t. All (IsOut t (steps_of old)) new.out) (sym same) outs);
      held = subst (λ p. AreHeld p new.out) (sym past) (subst (AreHeld (steps_of old)) (sym out) kept.held);
      promises = subst (λ p. places_of p new.out ≤ new.promised) (sym past) (subst (λ l. places_of (steps_of old) l ≤ new.promised) (sym out) promises);
      reserved = reserved;
    }

-- the grant of a step is out behind it
pub IsOut-granted : (terms : Terms) (past : List Step) (out : Out) (shift : ℤ) (now deadline : ℕ) → IsAtHome terms out.key → out.token ≡ next_token terms past
    → All (λ quar. quar.token < out.token) (standing out.key past) → IsOut terms (Granted out.key out.sid out.mode shift now out.token deadline ∷ past) out
IsOut-granted terms past out shift now deadline home next below = record {
  at_home = home;
  granted = or_left _ _ (and_from _ _ (and_from _ _ (same_key-refl out.key) (eq-eqb out.sid.number out.sid.number refl)) (eq-eqb out.token out.token refl));
  drawn = omega (arith, next, one_more);
  stands = λ quar e. the_one quar (sym found ∙ e);
}
  where
    new : Quar
    new = record { sid = out.sid; mode = out.mode; token = out.token; deadline = deadline; shift = shift }

    step : Step
    step = Granted out.key out.sid out.mode shift now out.token deadline

    one_more : count_by draws (step ∷ past) ≡ 1 + count_by draws past
    one_more = sum_by-cons (λ s. cond (draws s) 1 0) step past

    found : quar_of out.key out.token (step ∷ past) ≡ Some new
    found = ap (λ b. find (has_token out.token) (cond b (standing out.key past ++ new ∷ []) (standing out.key past))) (same_key-refl out.key)
        ∙ found-last new (standing out.key past) below

    the_one : (quar : Quar) → Some new ≡ Some quar → IsOf (permit_of terms.no out) quar
    the_one quar e = let same : new ≡ quar = cc in subst (IsOf (permit_of terms.no out)) same (record { sid = refl; mode = refl })

-- the terms, of a body with another table of as much room and a history that rolls as it did
abbrev terms_with : Body → ℕ → Bool → Terms
terms_with body room rolls = record { no = body.no; count = body.count; room = room; life = body.life; first = body.first; rolls = rolls }

pub terms-kept : (body : Body) (room : ℕ) (rolls : Bool) → room ≡ body.entries.room → rolls ≡ body.history.rolls → terms_with body room rolls ≡ terms_of body
terms-kept body room rolls e same = ap (λ r. terms_with body r rolls) e ∙ ap (terms_with body body.entries.room) same

pub terms-rolled : (body : Body) {rolls : Bool} → rolls ≡ body.history.rolls → terms_with body body.entries.room rolls ≡ terms_of body
terms-rolled body same = ap (terms_with body body.entries.room) same

-- what a new shard keeps
pub IsKept-new : (body : Body) → body.no < body.count → 1 ≤ body.entries.room → body.entries.list ≡ []
    → body.leases ≡ [] → body.out ≡ [] → body.history.steps ≡ [] → body.next ≡ body.first → body.promised ≡ 0 → body.history.used ≡ 0 → IsKept body
IsKept-new body one roomy entries leases out history next promised empty =
    let start : Ties (terms_of body) [] [] [] body.next = record {
      entries = λ k. lookup-nil k;
      in_order = keys-nil;
      sound = record { roomy = roomy; within = omega arith; distinct = tt };
      quars = λ k. refl;
      reads = λ k. refl;
      counted = omega (arith, next);
      below = λ k. All-nil (λ quar. quar.token < body.next);
      legal = tt;
    } in
    let past : steps_of body ≡ [] = ap reverse history in
    let none : places_of (steps_of body) body.out ≡ 0 = ap (places_of (steps_of body)) out in
    record {
      one_of = one;
      ties = subst (λ p. Ties (terms_of body) p body.entries.list body.leases body.next) (sym past)
          (subst (λ l. Ties (terms_of body) [] l body.leases body.next) (sym entries) (subst (λ l. Ties (terms_of body) [] [] l body.next) (sym leases) start));
      outs = subst (All (IsOut (terms_of body) (steps_of body))) (sym out) (All-nil (IsOut (terms_of body) (steps_of body)));
      held = subst (λ p. AreHeld p body.out) (sym past) (λ key token quar e. absurd cc);
      promises = omega (arith, none);
      reserved = omega (arith, empty, promised);
    }
