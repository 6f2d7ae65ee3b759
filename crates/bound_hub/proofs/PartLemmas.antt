-- What a shard's pass and the store's have seen together keeps each entry of the shard beside the store.
use Rattle.std.proofs.Common.{ℕ, ◌≡◌, ◌≤◌, Bool, true, false, ◌||◌, List, [], ◌∷◌, ◌++◌, length, length-append, append_assoc, All, take, slice_get, Option, Some, None, IsSome, is_none, refl, sym, ap, subst, ◌∙◌, arith}
use Rattle.std.proofs.lemmas.Bool.{false≢true}
use Rattle.std.proofs.lemmas.List.Elements.{All-weaker}
use Rattle.rows_model.specs.declared.keys.QKey.{QKey}
use Rattle.rows_model.specs.Rows.{Tables}
use Rattle.rows_model.specs.Placement.{shard_of}
use Rattle.key_shard.specs.declared.steps.Step.{Step}
use Rattle.key_shard.specs.Past.{entry, standing}
use Rattle.key_shard.specs.Shards.{ShardView}
use Rattle.sql_keeper.specs.declared.stores.Commit.{Commit}
use Rattle.sql_keeper.specs.Stores.{StoreView}
use Rattle.sql_keeper.specs.Fresh.{IsFreshPast}
use Rattle.log_word.specs.declared.seen.Seen.{Seen}
use Rattle.log_word.specs.Lists.{IsStart, longer, steps_of}
use Rattle.log_word.specs.Steps.{IsSound, IsBeginning}
use Rattle.log_word.specs.Passes.{WordView, PassView, IsTogether}
use Rattle.log_word.proofs.StartLemmas.{longer_elim, start_trans}
use Rattle.log_word.proofs.ViewLemmas.{beginning_trans}
use Rattle.key_freshness.specs.Marks.{marks_of}
use Rattle.key_freshness.specs.Held.{IsEntryHeld, IsEntryRight}
use Rattle.key_freshness.proofs.GrantMarks.{granted-quarantined}
use Rattle.key_freshness.proofs.HitLemmas.{lacking_stands}
use Rattle.bound_hub.specs.Shorts.{shorts_of}
use Rattle.bound_hub.specs.Knowns.{commits_of, known_of}
use Rattle.bound_hub.specs.Facts.{answer_after, stamp_of}
use Rattle.bound_hub.specs.Ties.{IsBoundShard, IsBoundStore}
use Rattle.bound_hub.specs.Parts.{IsKept, IsLeft}
use Rattle.bound_hub.proofs.RuledLemmas.{keys_are_ruled}

-- of two lists of which the first begins the second, the longer is the second
longer_is_second : {A : Type 0} (xs ys : List A) → IsStart xs ys → longer xs ys ≡ ys
longer_is_second {A} xs ys start =
    longer_elim (λ l. l ≡ ys) xs ys (λ _. refl) (λ most. whole start.0 start.1 most)
  where
    whole : (more : List A) → ys ≡ more ++ xs → length ys ≤ length xs → xs ≡ ys
    whole [] is most = sym is
    whole (x ∷ more) is most =
        let e : length ys ≡ length ((x ∷ more) ++ xs) = ap (λ (l : List A). length l) is in
        let sum = length-append more xs in
        absurd (omega (arith, e, most, sum))

-- the store's events are those that the shard has seen, once each has joined the other
pub same_events : (shard store both : Seen) → IsBeginning shard store → IsTogether shard store both → both.events ≡ store.events
same_events shard store both begins together = together.events ∙ longer_is_second shard.events store.events begins.events

-- and neither knows of a stop that the other doesn't
pub same_stop : (shard store both : Seen) → IsBeginning shard store → IsTogether shard store both → store.stopped ≡ false → both.stopped ≡ false
same_stop shard store both begins together running = together.stopped ∙ by shard.stopped refl
  where
    by : (b : Bool) → shard.stopped ≡ b → (b || store.stopped) ≡ false
    by true is = absurd (false≢true (sym running ∙ begins.stopped is))
    by false is = running

tells : (known_rows : Option Tables) → IsSome known_rows → is_none known_rows ≡ false
tells None h = absurd (false≢true h)
tells (Some rows) h = refl

module _ (word : WordView) (opening : Tables) (before : ℕ → List Step) (begun failed : ℕ) (shard : ShardView) (store : StoreView) (mine theirs : Seen)
    (bound : IsBoundShard word opening before shard (record { word = word; shard = shard.terms.no; seen = mine })) (sound : IsSound word.shards mine)
    (tied : IsBoundStore word begun failed store (record { word = word; seen = theirs }))
    (events : mine.events ≡ theirs.events) (running : theirs.stopped ≡ false → mine.stopped ≡ false)
    (early : Seen) (steps : IsStart (steps_of shard.terms.no early.steps) (steps_of shard.terms.no mine.steps)) where
  -- the log is the commits that the shard has seen
  log_is : store.ledger.log ≡ commits_of mine.events
  log_is = tied.log ∙ sym (ap commits_of events)

  is_kept : (key : QKey) (value : List ℕ) (stamp : ℕ) → shard_of key word.shards ≡ shard.terms.no → entry key (bound.more ++ before shard.terms.no) ≡ Some (value, stamp)
      → IsKept opening store key (standing key (bound.more ++ before shard.terms.no)) value stamp
  is_kept key value stamp home at =
      let past = bound.more ++ before shard.terms.no in
      let marks = marks_of key bound.more in
      let facts = bound.facts key home in
      let held = subst (IsEntryHeld key marks (known_of mine.events)) at facts.held in
      let steps_here = subst (λ n. steps_of n mine.steps ≡ shorts_of (before shard.terms.no) bound.more) (sym home) bound.shorts_are in
      let ruled = keys_are_ruled word.shards mine key (before shard.terms.no) bound.more sound steps_here in
      record {
        within = let most = held.within in let e : length store.ledger.log ≡ length (commits_of mine.events) = ap (λ (l : List Commit). length l) log_is in omega (arith, most, e);
        lacking = λ place commit stands from touched.
            lacking_stands key marks (known_of mine.events) (stamp_of (entry key (before shard.terms.no))) (standing key past) (entry key past) stamp ruled facts.tied held place commit
            (subst (λ l. slice_get l place ≡ Some commit) log_is stands) from touched;
        right = λ some.
            let value_is = subst (IsEntryRight (answer_after opening key) (commits_of mine.events)) at (facts.right (running (tied.stopped ∙ tells store.known_rows some))) in
            value_is ∙ sym (ap (λ log. answer_after opening key (take stamp log)) log_is);
      }

  pub is_left : IsLeft opening before store early shard
  is_left = record {
    more = bound.more;
    goes_on = bound.goes_on;
    shorts_are = subst (IsStart (steps_of shard.terms.no early.steps)) bound.shorts_are steps;
    entries = λ key value stamp home at.
        subst (λ past. IsKept opening store key (standing key past) value stamp) (sym bound.goes_on)
        (is_kept key value stamp (subst (λ n. shard_of key n ≡ shard.terms.no) bound.count home) (subst (λ past. entry key past ≡ Some (value, stamp)) bound.goes_on at));
    hits = λ some.
        subst (λ (log : List Commit). IsFreshPast opening log bound.more) (sym log_is) (bound.hits (running (tied.stopped ∙ tells store.known_rows some)));
    covered = λ place commit key stands touched home.
        let home_of_word = subst (λ n. shard_of key n ≡ shard.terms.no) bound.count home in
        let steps_here = subst (λ n. steps_of n mine.steps ≡ shorts_of (before shard.terms.no) bound.more) (sym home_of_word) bound.shorts_are in
        let ruled = keys_are_ruled word.shards mine key (before shard.terms.no) bound.more sound steps_here in
        granted-quarantined key commit.sid bound.more (ruled.covered place commit (subst (λ l. slice_get l place ≡ Some commit) log_is stands) touched);
  }

-- who has seen less has seen the first of what was seen
pub left_early : (opening : Tables) (before : ℕ → List Step) (store : StoreView) (shard : ShardView) (early late : Seen) → IsBeginning early late
    → IsLeft opening before store late shard → IsLeft opening before store early shard
left_early opening before store shard early late begins left = record {
  more = left.more;
  goes_on = left.goes_on;
  shorts_are =
      start_trans (steps_of shard.terms.no early.steps) (steps_of shard.terms.no late.steps) (shorts_of (before shard.terms.no) left.more) (begins.steps shard.terms.no) left.shorts_are;
  entries = left.entries;
  hits = left.hits;
  covered = left.covered;
}

-- passes that are left and those that are gathered are all there are
pub gather_last : (left all done : List PassView) (last : PassView) (rest : List PassView) → all ≡ left ++ done → left ≡ rest ++ last ∷ [] → all ≡ rest ++ last ∷ done
gather_last left all done last rest are is = are ∙ ap (λ (l : List PassView). l ++ done) is ∙ append_assoc rest (last ∷ []) done

-- what began what was seen begins what is seen now
pub all_begin : (old new : Seen) (passes : List PassView) → IsBeginning old new → All (λ pass. IsBeginning pass.seen old) passes → All (λ pass. IsBeginning pass.seen new) passes
all_begin old new passes goes all = All-weaker (λ (pass : PassView). IsBeginning pass.seen old) (λ (pass : PassView). IsBeginning pass.seen new) (λ pass h. beginning_trans pass.seen old new h goes) passes all
