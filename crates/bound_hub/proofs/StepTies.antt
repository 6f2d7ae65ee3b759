-- A shard and its pass still belong together when a step was made and seen that is honest.
use Rattle.std.proofs.Common.{ℕ, ◌≡◌, ◌≤◌, Bool, true, false, List, [], ◌∷◌, ◌++◌, Some, is_some, sym, ap, subst, ◌∙◌}
use Rattle.std.proofs.lemmas.List.{reverse-append}
use Rattle.rows_model.specs.declared.keys.QKey.{QKey}
use Rattle.rows_model.specs.Rows.{Tables}
use Rattle.rows_model.specs.Placement.{shard_of}
use Rattle.key_shard.specs.declared.steps.Step.{Step}
use Rattle.key_shard.specs.Past.{Terms, entry}
use Rattle.key_shard.specs.Permit.{Permit}
use Rattle.key_shard.specs.Answers.{IsLegalPast}
use Rattle.key_shard.specs.Shards.{ShardView, past_of, is_out, stepped, returned}
use Rattle.sql_keeper.specs.Fresh.{IsFreshPast}
use Rattle.shard_lock.specs.Names.{IsNamed, IsTokenOf}
use Rattle.log_word.specs.declared.events.Short.{Short}
use Rattle.log_word.specs.declared.seen.Seen.{Seen}
use Rattle.log_word.specs.Lists.{steps_of}
use Rattle.log_word.specs.Steps.{IsSound, IsBeginning}
use Rattle.log_word.specs.Views.{with_step}
use Rattle.log_word.specs.Passes.{WordView, ShardPassView}
use Rattle.log_word.proofs.StepListLemmas.{steps_with_step}
use Rattle.log_word.proofs.ViewLemmas.{step_goes_on}
use Rattle.key_freshness.specs.Marks.{key_of, marks_of}
use Rattle.key_freshness.specs.Known.{IsRuled}
use Rattle.key_freshness.specs.Held.{IsEntryHeld, IsEntryRight}
use Rattle.bound_hub.specs.Shorts.{short_of, shorts_of}
use Rattle.bound_hub.specs.Knowns.{commits_of, known_of}
use Rattle.bound_hub.specs.Facts.{answer_after, HoldsFacts, AreOfStampZero, IsQuiet, WasGrantedOr}
use Rattle.bound_hub.specs.Ties.{IsBoundShard}
use Rattle.bound_hub.specs.Gets.{IsSeenHeld, IsLastStep}
use Rattle.bound_hub.proofs.MadeLemmas.{made_at_home}
use Rattle.bound_hub.proofs.OutLemmas.{AreOutOr, outs_stepped, outs_returned, granted_since}
use Rattle.bound_hub.proofs.RuledLemmas.{keys_are_ruled}
use Rattle.bound_hub.proofs.StepFacts.{IsHonestStep, facts_with_step}

-- a shard has made one step more
pub record HasStepped (old new : ShardView) (s : Step) : Type 0 where
  pub terms : new.terms ≡ old.terms
  pub past : past_of new ≡ s ∷ past_of old
  pub outs : AreOutOr old.out new.out s

pub has_stepped : (old new : ShardView) (s : Step) → new ≡ stepped old s → HasStepped old new s
has_stepped old new s made = record {
  terms = ap (λ (v : ShardView). v.terms) made;
  past = ap (λ (v : ShardView). past_of v) made ∙ reverse-append old.history (s ∷ []);
  outs = subst (λ (v : ShardView). AreOutOr old.out v.out s) (sym made) (outs_stepped old.terms old.out s);
}

pub has_returned : (old new : ShardView) (grant : Permit) (s : Step) → new ≡ returned old grant s → HasStepped old new s
has_returned old new grant s made = record {
  terms = ap (λ (v : ShardView). v.terms) made;
  past = ap (λ (v : ShardView). past_of v) made ∙ reverse-append old.history (s ∷ []);
  outs = subst (λ (v : ShardView). AreOutOr old.out v.out s) (sym made) (outs_returned grant old.out s);
}

-- and its pass has seen it
pub record HasNoted (new : ShardView) (s : Step) (x : Short) (pass after : ShardPassView) : Type 0 where
  pub short_is : x ≡ short_of s (is_some (entry (key_of s) (past_of new)))
  pub word : after.word ≡ pass.word
  pub shard : after.shard ≡ pass.shard
  pub seen : after.seen ≡ with_step pass.shard x pass.seen

module _ (word : WordView) (opening : Tables) (before : ℕ → List Step) (old : ShardView) (pass : ShardPassView) (bound : IsBoundShard word opening before old pass) where
  abbrev number : ℕ
  number = old.terms.no

  -- the marks of each key of the shard keep its rule
  pub bound_rules : IsSound pass.word.shards pass.seen → (key : QKey) → shard_of key word.shards ≡ number → IsRuled key (marks_of key bound.more) (known_of pass.seen.events)
  bound_rules sound key home =
      keys_are_ruled word.shards pass.seen key (before number) bound.more (subst (λ (w : WordView). IsSound w.shards pass.seen) bound.word_is sound)
      (subst (λ n. steps_of n pass.seen.steps ≡ shorts_of (before number) bound.more) (sym home) bound.shorts_are)

  module _ (sound : IsSound pass.word.shards pass.seen) (s : Step) (brings : IsHonestStep opening (before number) bound.more pass.seen s)
      (new : ShardView) (made : HasStepped old new s) (x : Short) (after : ShardPassView) (saw : HasNoted new s x pass after) where
    same_no : new.terms.no ≡ number
    same_no = ap (λ (t : Terms). t.no) made.terms

    past_is : past_of new ≡ s ∷ bound.more ++ before number
    past_is = made.past ∙ ap (λ l. s ∷ l) bound.goes_on

    seen_is : after.seen ≡ with_step number x pass.seen
    seen_is = saw.seen ∙ ap (λ n. with_step n x pass.seen) bound.number

    short_is : x ≡ short_of s (is_some (entry (key_of s) (s ∷ bound.more ++ before number)))
    short_is = saw.short_is ∙ ap (λ l. short_of s (is_some (entry (key_of s) l))) past_is

    steps_are : steps_of number after.seen.steps ≡ shorts_of (before number) (s ∷ bound.more)
    steps_are =
        ap (λ (v : Seen). steps_of number v.steps) seen_is ∙ steps_with_step number x pass.seen.steps
        ∙ ap (λ l. x ∷ l) bound.shorts_are ∙ ap (λ y. y ∷ shorts_of (before number) bound.more) short_is

    facts_now : (key : QKey) → shard_of key word.shards ≡ number → HoldsFacts opening (before number) (s ∷ bound.more) after.seen key
    facts_now key home =
        subst (λ (v : Seen). HoldsFacts opening (before number) (s ∷ bound.more) v key) (sym seen_is)
        (with_same (facts_with_step opening (before number) bound.more pass.seen key s bound.quiet bound.stamps brings (bound_rules sound key home) (bound.facts key home)))
      where
        with_same : HoldsFacts opening (before number) (s ∷ bound.more) pass.seen key → HoldsFacts opening (before number) (s ∷ bound.more) (with_step number x pass.seen) key
        with_same h = record { tied = h.tied; held = h.held; right = h.right }

    outs_now : (permit : Permit) → is_out new permit ≡ true → WasGrantedOr old.terms (before number) (s ∷ bound.more) permit
    outs_now = granted_since old.terms (before number) bound.more s old.out new.out made.outs bound.outs

    hits_now : after.seen.stopped ≡ false → IsFreshPast opening (commits_of after.seen.events) (s ∷ bound.more)
    hits_now =
        subst (λ (v : Seen). v.stopped ≡ false → IsFreshPast opening (commits_of v.events) (s ∷ bound.more)) (sym seen_is)
        (λ running. (brings.fresh_step running, bound.hits running))

    pub bound_with_step : IsBoundShard word opening before new after
    bound_with_step =
        let at_no : (P : ℕ → Type 0) → P number → P new.terms.no = λ P p. subst P (sym same_no) p in
        record {
          word_is = saw.word ∙ bound.word_is;
          number = saw.shard ∙ bound.number ∙ sym same_no;
          count = ap (λ (t : Terms). t.count) made.terms ∙ bound.count;
          from_one = subst (λ (t : Terms). 1 ≤ t.first) (sym made.terms) bound.from_one;
          quiet = at_no (λ n. IsQuiet (before n)) bound.quiet;
          stamps = at_no (λ n. AreOfStampZero (before n)) bound.stamps;
          more = s ∷ bound.more;
          goes_on = at_no (λ n. past_of new ≡ s ∷ bound.more ++ before n) past_is;
          shorts_are = at_no (λ n. steps_of n after.seen.steps ≡ shorts_of (before n) (s ∷ bound.more)) steps_are;
          outs = subst (λ (t : Terms). (permit : Permit) → is_out new permit ≡ true → WasGrantedOr t (before t.no) (s ∷ bound.more) permit) (sym made.terms) outs_now;
          facts = at_no (λ n. (key : QKey) → shard_of key word.shards ≡ n → HoldsFacts opening (before n) (s ∷ bound.more) after.seen key) facts_now;
          hits = hits_now;
        }

-- its pass has seen it, where the answer tells it in short, and the entry is looked at
pub told_so : (s : Step) (x : Short) (has : Bool) (key : QKey) (new : ShardView) (pass after : ShardPassView) → x ≡ short_of s has → key_of s ≡ key → has ≡ is_some (entry key (past_of new))
    → after.word ≡ pass.word → after.shard ≡ pass.shard → after.seen ≡ with_step pass.shard x pass.seen → HasNoted new s x pass after
told_so s x has key new pass after tells on has_entry word shard seen = record {
  short_is = tells ∙ ap (short_of s) (has_entry ∙ ap (λ k. is_some (entry k (past_of new))) (sym on));
  word = word;
  shard = shard;
  seen = seen;
}

-- what lies under the lock is as it was named, and belongs together, after an honest step
pub invariant_after : (terms : ℕ → Terms) (parts amount : ℕ) (word : WordView) (opening : Tables) (before : ℕ → List Step) (old : ShardView) (pass : ShardPassView)
    (is : IsNamed terms old × IsTokenOf old.terms.no parts amount × IsBoundShard word opening before old pass) → IsSound pass.word.shards pass.seen
    → (s : Step) → IsHonestStep opening (before old.terms.no) is.2.more pass.seen s → (new : ShardView) → HasStepped old new s → (x : Short) (after : ShardPassView) → HasNoted new s x pass after
    → IsNamed terms new × IsTokenOf new.terms.no parts amount × IsBoundShard word opening before new after
invariant_after terms parts amount word opening before old pass is sound s brings new made x after saw = (
  subst (λ (t : Terms). t ≡ terms t.no) (sym made.terms) is.0,
  subst (λ (t : Terms). IsTokenOf t.no parts amount) (sym made.terms) is.1,
  bound_with_step word opening before old pass is.2 sound s brings new made x after saw,
)

-- and where no step was made it is as it was
pub invariant_still : (terms : ℕ → Terms) (parts amount : ℕ) (word : WordView) (opening : Tables) (before : ℕ → List Step) (old new : ShardView) (pass after : ShardPassView)
    → new ≡ old → after ≡ pass → IsNamed terms old × IsTokenOf old.terms.no parts amount × IsBoundShard word opening before old pass
    → IsNamed terms new × IsTokenOf new.terms.no parts amount × IsBoundShard word opening before new after
invariant_still terms parts amount word opening before old new pass after same kept is =
    subst (λ (v : ShardView). IsNamed terms v × IsTokenOf v.terms.no parts amount × IsBoundShard word opening before v after) (sym same)
    (subst (λ (p : ShardPassView). IsNamed terms old × IsTokenOf old.terms.no parts amount × IsBoundShard word opening before old p) (sym kept) is)

-- what was seen is a beginning of what is seen with the step, which then stands last
pub step_is_more : (number : ℕ) (x : Short) (here now : Seen) → now ≡ with_step number x here → IsBeginning here now
step_is_more number x here now is = subst (IsBeginning here) (sym is) (step_goes_on number x here)

pub step_is_last : (shard number : ℕ) (x y : Short) (here now : Seen) → shard ≡ number → x ≡ y → now ≡ with_step shard x here → IsLastStep number y now
step_is_last shard number x y here now same is_so is =
    (steps_of number here.steps, ap (λ (v : Seen). steps_of number v.steps) (is ∙ (λ i. with_step (same i) (is_so i) here)) ∙ steps_with_step number y here.steps)

-- a step that was made is on a key of the shard
pub home_of_made : (word : WordView) (opening : Tables) (before : ℕ → List Step) (old new : ShardView) (pass : ShardPassView) → IsBoundShard word opening before old pass
    → (s : Step) → HasStepped old new s → IsLegalPast new.terms (past_of new) → (key : QKey) → key_of s ≡ key → shard_of key word.shards ≡ old.terms.no
home_of_made word opening before old new pass bound s made legal key on =
    let at = made_at_home new.terms (past_of old) s (subst (IsLegalPast new.terms) made.past legal).0 in
    let of_old = subst (λ (t : Terms). shard_of (key_of s) t.count ≡ t.no) made.terms at in
    subst (λ n. shard_of key n ≡ old.terms.no) bound.count (subst (λ k. shard_of k old.terms.count ≡ old.terms.no) on of_old)

-- the entry of a key is held by what the pass beside the shard has seen
pub entry_is_seen : (word : WordView) (opening : Tables) (before : ℕ → List Step) (shard : ShardView) (pass : ShardPassView)
    → IsBoundShard word opening before shard pass → (key : QKey) → shard_of key word.shards ≡ shard.terms.no → (value : List ℕ) (stamp : ℕ)
    → entry key (past_of shard) ≡ Some (value, stamp) → IsSeenHeld opening (before shard.terms.no) shard.terms.no pass.seen key value stamp
entry_is_seen word opening before shard pass bound key home value stamp found =
    let facts = bound.facts key home in
    let is : entry key (bound.more ++ before shard.terms.no) ≡ Some (value, stamp) = ap (entry key) (sym bound.goes_on) ∙ found in
    record {
      more = bound.more;
      shorts_are = bound.shorts_are;
      held = subst (IsEntryHeld key (marks_of key bound.more) (known_of pass.seen.events)) is facts.held;
      right = λ rows. subst (IsEntryRight (answer_after opening key) (commits_of pass.seen.events)) is (facts.right rows);
    }
