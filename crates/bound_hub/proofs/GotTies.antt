-- A shard and its pass still belong together when a get was made and seen.
use Rattle.std.proofs.Common.{ℕ, ◌≡◌, Bool, false, List, ◌++◌, Some, is_some, sym, ap, subst, ◌∙◌}
use Rattle.rows_model.specs.declared.keys.QKey.{QKey}
use Rattle.rows_model.specs.declared.keys.Sid.{Sid}
use Rattle.rows_model.specs.Rows.{Tables}
use Rattle.rows_model.specs.Placement.{shard_of}
use Rattle.key_shard.specs.declared.steps.Step.{Step}
use Rattle.key_shard.specs.declared.replies.Got.{Got}
use Rattle.key_shard.specs.declared.replies.Got.TheVariants as got
use Rattle.key_shard.specs.Past.{entry}
use Rattle.key_shard.specs.Answers.{get_step}
use Rattle.key_shard.specs.Replies.{ShowsGot}
use Rattle.key_shard.specs.Shards.{ShardView, past_of, stepped}
use Rattle.sql_keeper.specs.Fresh.{IsFreshStep}
use Rattle.log_word.specs.Steps.{IsBorneOut, IsSound}
use Rattle.log_word.specs.Views.{with_step}
use Rattle.log_word.specs.Passes.{WordView, ShardPassView}
use Rattle.key_freshness.specs.Marks.{key_of, marks_of}
use Rattle.bound_hub.specs.Shorts.{short_of}
use Rattle.bound_hub.specs.Knowns.{commits_of}
use Rattle.bound_hub.specs.Facts.{HoldsFacts}
use Rattle.bound_hub.specs.Ties.{IsBoundShard}
use Rattle.bound_hub.specs.Gets.{got_short, IsGotHeld}
use Rattle.bound_hub.proofs.GetLemmas.{got_is_honest, got_is_fresh, hit_leaves, get_tells, get_finds, got_borne_out, IsTheEntry}
use Rattle.bound_hub.proofs.StepTies.{HasNoted, has_stepped, bound_with_step, entry_is_seen}

module _ (word : WordView) (opening : Tables) (before : ℕ → List Step) (old : ShardView) (pass : ShardPassView) (bound : IsBoundShard word opening before old pass)
    (key : QKey) (who : Sid) (floor now : ℕ) (answer : Got) (home : shard_of key old.terms.count ≡ old.terms.no) (shows : ShowsGot (get_step old.terms (past_of old) key who floor now) answer) where
  abbrev number : ℕ
  number = old.terms.no

  abbrev s : Step
  s = get_step old.terms (past_of old) key who floor now

  the_entry : IsTheEntry (entry key (past_of old)) answer
  the_entry = get_finds old.terms (past_of old) key who floor now answer shows

  -- what was hit is there behind the get
  pub hit_is_there : (new : ShardView) → new ≡ stepped old s → (value : List ℕ) (stamp : ℕ)
      → answer ≡ got.Hit value stamp → entry key (past_of new) ≡ Some (value, stamp)
  hit_is_there new made value stamp is =
      ap (entry key) (has_stepped old new s made).past ∙ hit_leaves key (past_of old) s value stamp (subst (ShowsGot s) is shows)
      ∙ subst (IsTheEntry (entry key (past_of old))) is the_entry

  facts : HoldsFacts opening (before number) bound.more pass.seen key
  facts = bound.facts key (subst (λ n. shard_of key n ≡ number) bound.count home)

  -- a hit is fresh
  fresh_got : key_of s ≡ key → pass.seen.stopped ≡ false → IsFreshStep opening (commits_of pass.seen.events) bound.more s
  fresh_got same running =
      got_is_fresh opening pass.seen.events bound.more key (entry key (bound.more ++ before number)) s answer shows same
      (subst (λ past. IsTheEntry (entry key past) answer) bound.goes_on the_entry) facts.held (facts.right running)

  -- the step in short may be seen
  pub got_is_borne_out : (has : Bool) → IsBorneOut pass.seen.events (got_short key who answer has)
  got_is_borne_out has =
      got_borne_out pass.seen.events key (marks_of key bound.more) who answer has (entry key (bound.more ++ before number))
      (subst (λ past. IsTheEntry (entry key past) answer) bound.goes_on the_entry)
      facts.held

  module _ (sound : IsSound pass.word.shards pass.seen) (new : ShardView) (after : ShardPassView) (has : Bool) (made : new ≡ stepped old s)
      (has_entry : has ≡ is_some (entry key (past_of new))) (at : after.word ≡ pass.word) (same : after.shard ≡ pass.shard)
      (seen : after.seen ≡ with_step pass.shard (got_short key who answer has) pass.seen) where
    tells : (got_short key who answer has ≡ short_of s has) × (key_of s ≡ key)
    tells = get_tells old.terms (past_of old) key who floor now answer has shows

    saw : HasNoted new s (got_short key who answer has) pass after
    saw = record {
      short_is = tells.0 ∙ ap (short_of s) (has_entry ∙ ap (λ k. is_some (entry k (past_of new))) (sym tells.1));
      word = at;
      shard = same;
      seen = seen;
    }

    pub bound_with_got : IsBoundShard word opening before new after
    bound_with_got =
        bound_with_step word opening before old pass bound sound s (got_is_honest opening (before number) bound.more pass.seen s answer shows (fresh_got tells.1))
        new (has_stepped old new s made) (got_short key who answer has) after saw

    same_no : new.terms.no ≡ number
    same_no = ap (λ (v : ShardView). v.terms.no) made

    home_of_word : shard_of key word.shards ≡ new.terms.no
    home_of_word = subst (λ n. shard_of key n ≡ number) bound.count home ∙ sym same_no

    pub got_is_held : IsGotHeld opening (before number) number after.seen key answer
    got_is_held = subst (λ n. IsGotHeld opening (before n) n after.seen key answer) same_no (by answer shows the_entry)
      where
        by : (a : Got) → ShowsGot s a → IsTheEntry (entry key (past_of old)) a → IsGotHeld opening (before new.terms.no) new.terms.no after.seen key a
        by (got.Hit value stamp) shown is =
            entry_is_seen word opening before new after bound_with_got key home_of_word value stamp
            (ap (entry key) (has_stepped old new s made).past ∙ hit_leaves key (past_of old) s value stamp shown ∙ is)
        by (got.Lease token) shown is = tt
        by (got.Again stands) shown is = tt
        by got.Own shown is = tt
