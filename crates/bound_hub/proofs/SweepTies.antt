-- What a sweeper finds was granted, and its drop is honest where the session is over.
use Rattle.std.proofs.Common.{ℕ, ◌≡◌, ◌==◌, ◌&&◌, Bool, true, false, List, [], ◌∷◌, Option, Some, None, IfSome, option_map, refl, sym, ap, subst, ◌∙◌, ⊎_elim}
use Rattle.std.specs.List.{list_any}
use Rattle.std.proofs.lemmas.Bool.{false≢true, eqb-true, eq-eqb, and_parts, and_from, or_cases, or_left, or_right}
use Rattle.std.proofs.lemmas.List.Folds.{list_any-append, list_any-from_Any}
use Rattle.rows_model.specs.declared.keys.QKey.{QKey}
use Rattle.rows_model.specs.declared.keys.Sid.{Sid}
use Rattle.rows_model.specs.Key.{same_key}
use Rattle.rows_model.specs.Rows.{Tables}
use Rattle.lease_table.specs.declared.records.Due.{Due}
use Rattle.lease_table.specs.declared.records.Quar.{Quar}
use Rattle.lease_table.specs.Expiry.{StandsDue, due_as}
use Rattle.key_shard.specs.declared.replies.Rel.TheVariants as rel
use Rattle.key_shard.specs.declared.steps.Ended as ends
use Rattle.key_shard.specs.declared.steps.Ended.TheVariants as ended
use Rattle.key_shard.specs.declared.steps.Step.{Step}
use Rattle.key_shard.specs.declared.steps.Step.TheVariants as step
use Rattle.key_shard.specs.Past.{standing, quar_of, grants}
use Rattle.key_shard.specs.Answers.{IsLegalPast, sweep_step}
use Rattle.key_shard.specs.Replies.{sweep_answer}
use Rattle.key_shard.specs.Shards.{ShardView, past_of}
use Rattle.key_shard.proofs.LegalLemmas.{legal_stands_well, own_token, token_stands}
use Rattle.log_word.specs.declared.seen.Seen.{Seen}
use Rattle.log_word.specs.Events.{is_over}
use Rattle.log_word.specs.Lists.{steps_of}
use Rattle.log_word.specs.Steps.{IsBeginning, is_grant}
use Rattle.log_word.specs.Passes.{WordView, ShardPassView}
use Rattle.key_freshness.specs.Known.{IsOver}
use Rattle.key_freshness.specs.Held.{stands_as}
use Rattle.bound_hub.specs.Knowns.{known_of}
use Rattle.bound_hub.specs.Shorts.{kind_of_end, short_of, shorts_of}
use Rattle.bound_hub.specs.Sweeps.{grants_as, HasSeenGrant}
use Rattle.bound_hub.specs.Ties.{IsBoundShard}
use Rattle.bound_hub.proofs.EventLemmas.{over_is_known}
use Rattle.bound_hub.proofs.StandingGrants.{quar_as, stands_by_grant, one_session}
use Rattle.bound_hub.proofs.StepFacts.{IsHonestStep}

-- a grant that was seen is seen later, too
pub grant_goes_on : (number : ℕ) (key : QKey) (who token : ℕ) (old new : Seen) → IsBeginning old new → HasSeenGrant number key who token old → HasSeenGrant number key who token new
grant_goes_on number key who token old new begins seen =
    let p = grants_as key who token in
    let start = begins.steps number in
    ap (list_any p) start.1 ∙ list_any-append p start.0 (steps_of number old.steps) ∙ or_right (list_any p start.0) (list_any p (steps_of number old.steps)) seen

no_end_grants : (how : ends.Ended) → is_grant (kind_of_end how) ≡ false
no_end_grants ended.Keep = refl
no_end_grants ended.Drop = refl
no_end_grants (ended.Put value stamp evicted) = refl
no_end_grants (ended.Shift by stamp) = refl

flip_eq : (a b : ℕ) → (a == b) ≡ true → (b == a) ≡ true
flip_eq a b e = eq-eqb b a (sym (eqb-true a b e))

-- a step grants in short what it grants
made_by_short : (key : QKey) (who token : ℕ) (s : Step) (has : Bool) → grants_as key who token (short_of s has) ≡ true → grants (quar_as key who token) s ≡ true
made_by_short key who token (step.Granted on sid mode shift now its deadline) has e =
    let all = and_parts (same_key key on && (sid.number == who)) (its == token) e in
    let both = and_parts (same_key key on) (sid.number == who) all.0 in
    and_from (same_key key on && (who == sid.number)) (token == its) (and_from (same_key key on) (who == sid.number) both.0 (flip_eq sid.number who both.1)) (flip_eq its token all.1)
made_by_short key who token (step.Released on sid its how) has e =
    let all = and_parts (is_grant (kind_of_end how) && same_key key on && (sid.number == who)) (its == token) e in
    let more = and_parts (is_grant (kind_of_end how) && same_key key on) (sid.number == who) all.0 in
    absurd (false≢true (sym (no_end_grants how) ∙ (and_parts (is_grant (kind_of_end how)) (same_key key on) more.0).0))
made_by_short key who token other has e = absurd (false≢true e)

short_by_made : (key : QKey) (who token : ℕ) (s : Step) (has : Bool) → grants (quar_as key who token) s ≡ true → grants_as key who token (short_of s has) ≡ true
short_by_made key who token (step.Granted on sid mode shift now its deadline) has e =
    let all = and_parts (same_key key on && (who == sid.number)) (token == its) e in
    let both = and_parts (same_key key on) (who == sid.number) all.0 in
    and_from (same_key key on && (sid.number == who)) (its == token) (and_from (same_key key on) (sid.number == who) both.0 (flip_eq who sid.number both.1)) (flip_eq token its all.1)
short_by_made key who token other has e = absurd (false≢true e)

pub grant_was_made : (key : QKey) (who token : ℕ) (before more : List Step) → list_any (grants_as key who token) (shorts_of before more) ≡ true → list_any (grants (quar_as key who token)) more ≡ true
grant_was_made key who token before [] e = absurd (false≢true e)
grant_was_made key who token before (s ∷ more) e =
    let p = grants (quar_as key who token) in
    ⊎_elim
    (λ here. or_left (p s) (list_any p more) (made_by_short key who token s _ here))
    (λ there. or_right (p s) (list_any p more) (grant_was_made key who token before more there))
    (or_cases (grants_as key who token (short_of s _)) (list_any (grants_as key who token) (shorts_of before more)) e)

pub grant_is_seen : (key : QKey) (who token : ℕ) (before more : List Step) → list_any (grants (quar_as key who token)) more ≡ true → list_any (grants_as key who token) (shorts_of before more) ≡ true
grant_is_seen key who token before [] e = absurd (false≢true e)
grant_is_seen key who token before (s ∷ more) e =
    let p = grants_as key who token in
    ⊎_elim
    (λ here. or_left (p (short_of s _)) (list_any p (shorts_of before more)) (short_by_made key who token s _ here))
    (λ there. or_right (p (short_of s _)) (list_any p (shorts_of before more)) (grant_is_seen key who token before more there))
    (or_cases (grants (quar_as key who token) s) (list_any (grants (quar_as key who token)) more) e)

-- what is due stands as its session's, under its token
due_stands : (now : ℕ) (past : List Step) (due : Due) → StandsDue now (λ key. standing key past) due → stands_as due.sid.number due.token (standing due.key past) ≡ true
due_stands now past due h =
    list_any-from_Any (λ quar. (quar.sid.number == due.sid.number) && (quar.token == due.token)) (standing due.key past) (h.0, h.1, h.2, h.3, mine h.1 h.4.1)
  where
    mine : (quar : Quar) → due ≡ due_as due.key quar → ((quar.sid.number == due.sid.number) && (quar.token == due.token)) ≡ true
    mine quar is =
        and_from (quar.sid.number == due.sid.number) (quar.token == due.token) (eq-eqb quar.sid.number due.sid.number (sym (ap (λ (d : Due). d.sid.number) is)))
        (eq-eqb quar.token due.token (sym (ap (λ (d : Due). d.token) is)))

-- so its grant has been seen by the pass beside the shard
pub due_was_granted : (word : WordView) (opening : Tables) (before : ℕ → List Step) (shard : ShardView) (pass : ShardPassView) → IsBoundShard word opening before shard pass
    → (now : ℕ) (due : Due) → StandsDue now (λ key. standing key (past_of shard)) due → HasSeenGrant shard.terms.no due.key due.sid.number due.token pass.seen
due_was_granted word opening before shard pass bound now due h =
    let n = shard.terms.no in
    let here = subst (λ past. stands_as due.sid.number due.token (standing due.key past) ≡ true) bound.goes_on (due_stands now (past_of shard) due h) in
    let made = stands_by_grant due.key due.sid.number due.token (before n) bound.quiet bound.more here in
    subst (λ l. list_any (grants_as due.key due.sid.number due.token) l ≡ true) (sym bound.shorts_are) (grant_is_seen due.key due.sid.number due.token (before n) bound.more made)

pub each_due_was_granted : (word : WordView) (opening : Tables) (before : ℕ → List Step) (shard : ShardView) (pass : ShardPassView) → IsBoundShard word opening before shard pass
    → (now : ℕ) (found : Option Due) → IfSome found (StandsDue now (λ key. standing key (past_of shard)))
    → IfSome found (λ due. HasSeenGrant shard.terms.no due.key due.sid.number due.token pass.seen)
each_due_was_granted word opening before shard pass bound now None h = tt
each_due_was_granted word opening before shard pass bound now (Some due) h = due_was_granted word opening before shard pass bound now due h

-- a sweep that isn't Gone ended a quarantine that stood
pub swept_one : (past : List Step) (key : QKey) (token : ℕ) (evicted : _) → rel.Released evicted ≡ sweep_answer (sweep_step past key token)
    → (quar : Quar) × (quar_of key token past ≡ Some quar) × (sweep_step past key token ≡ Some (step.Released key quar.sid token ended.Drop))
swept_one past key token evicted is_so = by (quar_of key token past) refl
  where
    by : (o : Option Quar) → quar_of key token past ≡ o → (quar : Quar) × (quar_of key token past ≡ Some quar) × (sweep_step past key token ≡ Some (step.Released key quar.sid token ended.Drop))
    by (Some quar) is = (quar, is, ap (λ o. option_map (λ (q : Quar). step.Released key q.sid token ended.Drop) o) is)
    by None is =
        let same : rel.Released evicted ≡ rel.Gone = is_so ∙ ap (λ o. sweep_answer (option_map (λ (q : Quar). step.Released key q.sid token ended.Drop) o)) is in
        absurd cc

same_sid : (a b : Sid) → a.number ≡ b.number → a ≡ b
same_sid a b e = λ i. record { number = e i }

module _ (word : WordView) (opening : Tables) (before : ℕ → List Step) (old : ShardView) (pass : ShardPassView) (bound : IsBoundShard word opening before old pass)
    (legal : IsLegalPast old.terms (past_of old)) (key : QKey) (sid : Sid) (token : ℕ) (granted : HasSeenGrant old.terms.no key sid.number token pass.seen)
    (quar : Quar) (stands : quar_of key token (past_of old) ≡ Some quar) where
  abbrev number : ℕ
  number = old.terms.no

  -- it is the session's that was granted it
  pub swept_sid : quar.sid ≡ sid
  swept_sid =
      let as_now = subst (λ past. stands_as quar.sid.number token (standing key past) ≡ true) bound.goes_on (token_stands key token (past_of old) quar stands) in
      same_sid quar.sid sid
      (one_session old.terms (before number) (quar_as key quar.sid.number token) (quar_as key sid.number token) refl bound.more (subst (IsLegalPast old.terms) bound.goes_on legal)
      (stands_by_grant key quar.sid.number token (before number) bound.quiet bound.more as_now)
      (grant_was_made key sid.number token (before number) bound.more (subst (λ l. list_any (grants_as key sid.number token) l ≡ true) bound.shorts_are granted)))

  pub sweep_is_honest : is_over sid.number pass.seen.events ≡ true → IsHonestStep opening (before number) bound.more pass.seen (step.Released key quar.sid token ended.Drop)
  sweep_is_honest over = record {
    own = λ who its.
        sym (own_token old.terms (past_of old) key who token quar (legal_stands_well old.terms (past_of old) legal key)
        (subst (λ past. stands_as who token (standing key past) ≡ true) (sym bound.goes_on) its) stands);
    honest = subst (λ (x : Sid). IsOver (known_of pass.seen.events) x.number) (sym swept_sid) (over_is_known pass.seen.events sid.number over);
    true_step = λ _. tt;
    fresh_step = λ _. tt;
  }
