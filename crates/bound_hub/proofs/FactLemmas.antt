-- The facts of a key hold at first, and where more was seen.
use Rattle.std.proofs.Common.{ℕ, ◌≡◌, Bool, true, false, List, [], ◌++◌, take, Option, None, Some, refl, sym, subst, ◌∙◌, inr, true≢false, arith}
use Rattle.std.specs.List.{AllByRecursion}
use Rattle.rows_model.specs.declared.keys.QKey.{QKey}
use Rattle.rows_model.specs.Rows.{Tables}
use Rattle.rows_model.specs.Placement.{shard_of}
use Rattle.key_shard.specs.declared.steps.Step.{Step}
use Rattle.key_shard.specs.Past.{entry}
use Rattle.key_shard.specs.Shards.{ShardView}
use Rattle.sql_keeper.specs.declared.stores.Commit.{Commit}
use Rattle.log_word.specs.declared.seen.Seen.{Seen}
use Rattle.log_word.specs.Lists.{steps_of}
use Rattle.log_word.specs.Steps.{IsBorneOut, IsSound, IsBeginning}
use Rattle.log_word.specs.Passes.{WordView, ShardPassView, IsSameOf}
use Rattle.key_freshness.specs.Marks.{Mark, marks_of}
use Rattle.key_freshness.specs.Known.{Known, IsRuled, IsMore}
use Rattle.key_freshness.specs.Held.{IsStamped, IsEntryHeld, IsEntryRight}
use Rattle.key_freshness.proofs.MomentLemmas.{more_is_held, more_is_right}
use Rattle.bound_hub.specs.Shorts.{shorts_of}
use Rattle.bound_hub.specs.Knowns.{commits_of, known_of}
use Rattle.bound_hub.specs.Facts.{answer_after, stamp_of, HoldsFacts, IsFirst}
use Rattle.bound_hub.specs.Ties.{IsBoundShard, IsNewShard}
use Rattle.bound_hub.proofs.HitsLemmas.{hits_go_on}
use Rattle.bound_hub.proofs.RuledLemmas.{keys_are_ruled, more_is_known}

pub stamped_first : (found : Option (List ℕ × ℕ)) → IsStamped [] (stamp_of found) found
stamped_first None = tt
stamped_first (Some found) = refl

held_first : (opening : Tables) (stopped : Bool) (key : QKey) (found : Option (List ℕ × ℕ)) → IsFirst opening stopped key found → IsEntryHeld key [] (known_of []) found
held_first opening stopped key None first = tt
held_first opening stopped key (Some found) first = record {
  within = let e = first.0 in omega (arith, e);
  pending = λ place commit token at from touched h. h;
  settled = λ place commit at before touched. absurd cc;
}

right_first : (opening : Tables) (stopped : Bool) (key : QKey) (found : Option (List ℕ × ℕ)) → IsFirst opening stopped key found → stopped ≡ false
    → IsEntryRight (answer_after opening key) [] found
right_first opening stopped key None first same = tt
right_first opening stopped key (Some found) first same =
    subst (λ n. found.0 ≡ answer_after opening key (take n [])) (sym first.0) (first.1 same)

pub first_facts : (opening : Tables) (before : List Step) (seen : Seen) (key : QKey) → seen.events ≡ [] → IsFirst opening seen.stopped key (entry key before)
    → HoldsFacts opening before [] seen key
first_facts opening before seen key none first = record {
  tied = record { granted = λ who token h. absurd h; stamped = stamped_first (entry key before) };
  held = subst (λ l. IsEntryHeld key [] (known_of l) (entry key before)) (sym none) (held_first opening seen.stopped key (entry key before) first);
  right = λ telling. subst (λ l. IsEntryRight (answer_after opening key) (commits_of l) (entry key before)) (sym none) (right_first opening seen.stopped key (entry key before) first telling);
}

still_held : (key : QKey) (marks : List Mark) (old new : Known) (found : Option (List ℕ × ℕ)) → IsMore old new → IsRuled key marks old → IsRuled key marks new
    → IsEntryHeld key marks old found → IsEntryHeld key marks new found
still_held key marks old new None more was is held = tt
still_held key marks old new (Some found) more was is held = more_is_held key marks old new found.1 more was is held

still_right : (answer : List Commit → List ℕ) (key : QKey) (marks : List Mark) (old new : Known) (found : Option (List ℕ × ℕ)) → IsMore old new
    → IsEntryHeld key marks old found → IsEntryRight answer old.log found → IsEntryRight answer new.log found
still_right answer key marks old new None more held right = tt
still_right answer key marks old new (Some found) more held right = more_is_right answer old new found.0 found.1 more held.within right

-- what isn't seen now wasn't seen before
pub was_not : (old new : Bool) → (old ≡ true → new ≡ true) → new ≡ false → old ≡ false
was_not true new stays e = absurd (true≢false (sym (stays refl) ∙ e))
was_not false new stays e = refl

pub facts_go_on : (opening : Tables) (shards : ℕ) (before more : List Step) (old new : Seen) (key : QKey) → IsSound shards old → IsSound shards new
    → steps_of (shard_of key shards) old.steps ≡ shorts_of before more → steps_of (shard_of key shards) new.steps ≡ shorts_of before more
    → IsBeginning old new → HoldsFacts opening before more old key → HoldsFacts opening before more new key
facts_go_on opening shards before more old new key sound_old sound_new were are begins facts =
    let knows = more_is_known old new begins in
    let found = entry key (more ++ before) in
    let marks = marks_of key more in
    record {
      tied = facts.tied;
      held = still_held key marks (known_of old.events) (known_of new.events) found knows (keys_are_ruled shards old key before more sound_old were)
          (keys_are_ruled shards new key before more sound_new are) facts.held;
      right = λ telling.
          still_right (answer_after opening key) key marks (known_of old.events) (known_of new.events) found knows facts.held
          (facts.right (was_not old.stopped new.stopped begins.stopped telling));
    }

zero_first : (opening : Tables) (stopped : Bool) (key : QKey) (found : Option (List ℕ × ℕ)) → IsFirst opening stopped key found
    → (stamp : ℕ) → stamp_of found ≡ Some stamp → stamp ≡ 0
zero_first opening stopped key None first stamp e = absurd cc
zero_first opening stopped key (Some found) first stamp e = let same : found.1 ≡ stamp = cc in sym same ∙ first.0

-- the tie of a new shard
pub bound_first : (word : WordView) (opening : Tables) (before : ℕ → List Step) (shard : ShardView) (pass : ShardPassView) → pass.word ≡ word
    → pass.shard ≡ shard.terms.no → shard.terms.count ≡ word.shards → pass.seen.events ≡ [] → steps_of shard.terms.no pass.seen.steps ≡ []
    → IsNewShard opening before pass.seen.stopped shard → IsBoundShard word opening before shard pass
bound_first word opening before shard pass at number count none blind new = record {
  word_is = at;
  number = number;
  count = count;
  from_one = new.from_one;
  quiet = new.quiet;
  stamps = λ key stamp e. zero_first opening pass.seen.stopped key (entry key (before shard.terms.no)) (new.entries key) stamp e;
  more = [];
  goes_on = new.past_is;
  shorts_are = blind;
  outs = λ permit is. inr (new.drawn permit is);
  facts = λ key home. first_facts opening (before shard.terms.no) pass.seen key none (new.entries key);
  hits = λ _. tt;
}

-- the tie of a shard whose pass has seen more
pub bound_goes_on : (word : WordView) (opening : Tables) (before : ℕ → List Step) (shard : ShardView) (old new : ShardPassView)
    → IsBoundShard word opening before shard old → new.word ≡ old.word → new.shard ≡ old.shard → IsBeginning old.seen new.seen
    → IsSameOf old.shard old.seen new.seen → IsSound old.word.shards old.seen → IsSound new.word.shards new.seen
    → IsBoundShard word opening before shard new
bound_goes_on word opening before shard old new bound same_word same_shard begins same sound_old sound_new = record {
  word_is = same_word ∙ bound.word_is;
  number = same_shard ∙ bound.number;
  count = bound.count;
  from_one = bound.from_one;
  quiet = bound.quiet;
  stamps = bound.stamps;
  more = bound.more;
  goes_on = bound.goes_on;
  shorts_are = steps_same;
  outs = bound.outs;
  facts = λ key home.
      facts_go_on opening word.shards (before shard.terms.no) bound.more old.seen new.seen key
      (subst (λ (w : WordView). IsSound w.shards old.seen) bound.word_is sound_old)
      (subst (λ (w : WordView). IsSound w.shards new.seen) (same_word ∙ bound.word_is) sound_new)
      (subst (λ n. steps_of n old.seen.steps ≡ shorts_of (before shard.terms.no) bound.more) (sym home) bound.shorts_are)
      (subst (λ n. steps_of n new.seen.steps ≡ shorts_of (before shard.terms.no) bound.more) (sym home) steps_same)
      begins (bound.facts key home);
  hits = λ told_now.
      hits_go_on opening old.seen.events new.seen.events (more_is_known old.seen new.seen begins) sound_new.in_order (before shard.terms.no) bound.more
      (subst (AllByRecursion (IsBorneOut old.seen.events)) bound.shorts_are (sound_old.borne_out shard.terms.no))
      (bound.hits (was_not old.seen.stopped new.seen.stopped begins.stopped told_now));
}
  where
    steps_same : steps_of shard.terms.no new.seen.steps ≡ shorts_of (before shard.terms.no) bound.more
    steps_same = subst (λ n. steps_of n new.seen.steps ≡ steps_of n old.seen.steps) bound.number same ∙ bound.shorts_are
