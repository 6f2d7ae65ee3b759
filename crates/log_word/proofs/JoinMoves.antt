-- A seat joins another, and the load after it tells that both had seen a beginning: the rule is kept.
use Rattle.std.proofs.Common.{◌≡◌, ◌≢◌, ℕ, List, set, refl, sym, ap, ◌∙◌, subst, ⊎_elim, arith}
use mathlib.Core.Option.{some}
use lib.ListN.{get_elem?}
use Rattle.atomic_table.proofs.Lists.{at_set}
use Rattle.log_word.specs.declared.seen.Seen.{Seen}
use Rattle.log_word.specs.declared.seen.View.{View}
use Rattle.log_word.specs.declared.seen.Part.{Part}
use Rattle.log_word.specs.declared.seen.Part.TheVariants.{Caller, Store, Shard}
use Rattle.log_word.specs.Lists.{IsStart, steps_of}
use Rattle.log_word.specs.Rule.{OwnsItsPart, HasBegun, Fits, Kept}
use Rattle.log_word.specs.Views.{joined, view_joined, settled, spent_view}
use Rattle.log_word.specs.Passes.{IsTogether}
use Rattle.log_word.proofs.SoundLemmas.{sound_together}
use Rattle.log_word.proofs.ViewLemmas.{each_set, once_set, once_spent, first_begins_both, second_begins_both, both_begin_truth}
use Rattle.log_word.proofs.OwnLemmas.{HasNoMore, joined_is_together, store_keeps_events, store_keeps_failures, store_keeps_stopped, shard_keeps_steps}
use Rattle.log_word.proofs.EventMoves.{spent_fits}

pub kept_joined : (shards : ℕ) (words : List ℕ) (views : List View) (id : ℕ) (mine : View) (from : ℕ) (other : View) → Kept shards words views → get_elem? views id ≡ some mine
    → (from ≡ id → ⊥) → get_elem? (set views id (view_joined mine other)) from ≡ some other
    → Kept shards words (set (set views id (view_joined mine other)) from spent_view)
kept_joined shards words views id mine from other kept at_id apart at_from = record {
  truth = kept.truth;
  word = kept.word;
  unmade = kept.unmade;
  fits = each_set (set views id both) from spent_view (Fits shards kept.truth)
      (λ j view _ at_j. each_set views id both (Fits shards kept.truth) (λ k x _ at_k. kept.fits k x at_k) here j view at_j) (spent_fits shards kept.truth);
  once = once_spent (set views id both) from spent_view (λ own. own) (once_set views id mine both at_id refl kept.once);
}
  where
    both : View
    both = view_joined mine other

    truth : Seen
    truth = kept.truth.seen

    f : Fits shards kept.truth mine
    f = kept.fits id mine at_id

    g : Fits shards kept.truth other
    g = kept.fits from other (⊎_elim (λ (t : (from ≡ id) × (both ≡ other)). absurd (apart t.0)) (λ (t : (from ≢ id) × (get_elem? views from ≡ some other)). t.1)
        (at_set views id from both other at_from))

    no_more : (p : Part) → OwnsItsPart kept.truth mine p → HasNoMore p mine.seen other.seen
    no_more Caller o = tt
    no_more Store o = (
      subst (IsStart other.seen.events) (sym o.0) g.beginning.events,
      (let a = o.1 in let b = g.beginning.failures in omega (arith, a, b)),
      λ e. o.2 ∙ g.beginning.stopped e,
    )
    no_more (Shard shard) o = subst (IsStart (steps_of shard other.seen.steps)) (sym o.1) (g.beginning.steps shard)

    is : IsTogether mine.seen other.seen both.seen
    is = joined_is_together mine.part mine.seen other.seen (no_more mine.part f.whole)

    still_whole : (p : Part) → mine.part ≡ p → OwnsItsPart kept.truth mine p → OwnsItsPart kept.truth both p
    still_whole Caller e o = tt
    still_whole Store e o = (
      ap (λ q. (joined q mine.seen other.seen).events) e ∙ store_keeps_events mine.seen other.seen ∙ o.0,
      ap (λ q. (joined q mine.seen other.seen).failures) e ∙ store_keeps_failures mine.seen other.seen ∙ o.1,
      ap (λ q. (joined q mine.seen other.seen).stopped) e ∙ store_keeps_stopped mine.seen other.seen ∙ o.2,
      o.3,
    )
    still_whole (Shard shard) e o = (o.0, ap (λ q. steps_of shard (joined q mine.seen other.seen).steps) e ∙ shard_keeps_steps shard mine.seen other.seen ∙ o.1)

    here : Fits shards kept.truth both
    here = record {
      beginning = both_begin_truth mine.seen other.seen both.seen truth is f.beginning g.beginning;
      sound = sound_together shards mine.seen other.seen both.seen truth is f.sound g.sound f.beginning g.beginning;
      begun = (first_begins_both mine.seen other.seen both.seen truth is f.beginning g.beginning, (second_begins_both mine.seen other.seen both.seen truth is f.beginning g.beginning, tt));
      whole = still_whole mine.part refl f.whole;
    }

pub kept_settled : (shards : ℕ) (words : List ℕ) (views : List View) (id : ℕ) (mine : View) → Kept shards words views → get_elem? views id ≡ some mine
    → Kept shards words (set views id (settled mine)) × HasBegun mine
kept_settled shards words views id mine kept at_id = (
  record {
    truth = kept.truth;
    word = kept.word;
    unmade = kept.unmade;
    fits = each_set views id (settled mine) (Fits shards kept.truth) (λ j view _ there. kept.fits j view there)
        (record { beginning = f.beginning; sound = f.sound; begun = tt; whole = still_whole mine.part f.whole });
    once = once_set views id mine (settled mine) at_id refl kept.once;
  },
  f.begun,
)
  where
    f : Fits shards kept.truth mine
    f = kept.fits id mine at_id

    still_whole : (p : Part) → OwnsItsPart kept.truth mine p → OwnsItsPart kept.truth (settled mine) p
    still_whole Caller o = tt
    still_whole Store o = o
    still_whole (Shard shard) o = o
