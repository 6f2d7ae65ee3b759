-- A note is made of a seat, and the store's seat makes a shard's, and the rule is kept.
use Rattle.std.proofs.Common.{◌≡◌, ◌≢◌, ℕ, zero, suc, List, [], ◌∷◌, ◌++◌, set, refl, sym, ap, subst, arith}
use mathlib.Core.Option.{some, some-ne-none}
use lib.ListN.{get_elem?}
use Rattle.atomic_table.proofs.Lists.{set_again}
use Rattle.log_word.specs.declared.seen.View.{View}
use Rattle.log_word.specs.declared.seen.Part.TheVariants.{Store, Shard}
use Rattle.log_word.specs.Rule.{Truth, OwnsItsPart, IsOwned, Fits, Kept}
use Rattle.log_word.specs.Views.{noted, with_shard, shard_view}
use Rattle.log_word.proofs.SoundLemmas.{nothing_is_sound}
use Rattle.log_word.proofs.ViewLemmas.{beginning_same, nothing_begins, owned, each_set, once_set, once_more, each_more}
use Rattle.log_word.proofs.EventMoves.{others_fit}

-- a note beside the seats
kept_beside_note : (shards : ℕ) (words : List ℕ) (views : List View) (id : ℕ) (mine : View) → Kept shards words views → get_elem? views id ≡ some mine
    → Kept shards words (views ++ noted mine ∷ [])
kept_beside_note shards words views id mine kept at_id = record {
  truth = kept.truth;
  word = kept.word;
  unmade = kept.unmade;
  fits = let f = kept.fits id mine at_id in each_more views (noted mine) (Fits shards kept.truth) kept.fits (record { beginning = f.beginning; sound = f.sound; begun = tt; whole = tt });
  once = once_more views (noted mine) (λ j view there same own. own) kept.once;
}

pub kept_with_note : (shards : ℕ) (words : List ℕ) (views : List View) (id : ℕ) (mine : View) → Kept shards words views → get_elem? views id ≡ some mine
    → Kept shards words (set views id mine ++ noted mine ∷ [])
kept_with_note shards words views id mine kept at_id =
    subst (λ l. Kept shards words (l ++ noted mine ∷ [])) (sym (set_again views id mine at_id)) (kept_beside_note shards words views id mine kept at_id)

-- where a seat was changed its new view is
set_is_there : (views : List View) (id : ℕ) (old new : View) → get_elem? views id ≡ some old → get_elem? (set views id new) id ≡ some new
set_is_there [] id old new e = absurd (some-ne-none old (sym e))
set_is_there (x ∷ xs) zero old new e = refl
set_is_there (x ∷ xs) (suc id) old new e = set_is_there xs id old new e

pub kept_with_told : (shards : ℕ) (words : List ℕ) (views : List View) (id : ℕ) (old new : View) → Kept shards words (set views id new) → get_elem? views id ≡ some old
    → Kept shards words (set views id new ++ noted new ∷ [])
kept_with_told shards words views id old new kept at_id = kept_beside_note shards words (set views id new) id new kept (set_is_there views id old new at_id)

pub kept_with_shard : (shards : ℕ) (words : List ℕ) (views : List View) (id : ℕ) (mine : View) → Kept shards words views → get_elem? views id ≡ some mine
    → mine.part ≡ Store → Kept shards words (set views id (with_shard mine) ++ shard_view mine ∷ [])
kept_with_shard shards words views id mine kept at_id store = record {
  truth = new;
  word = kept.word;
  unmade = λ k h. kept.unmade k (omega (arith, h));
  fits = each_more (set views id (with_shard mine)) (shard_view mine) (Fits shards new) (each_set views id (with_shard mine) (Fits shards new) others here) there;
  once = once_more (set views id (with_shard mine)) (shard_view mine) fresh (once_set views id mine (with_shard mine) at_id refl kept.once);
}
  where
    f : Fits shards kept.truth mine
    f = kept.fits id mine at_id

    own : OwnsItsPart kept.truth mine Store
    own = owned shards kept.truth mine f Store store

    new : Truth
    new = record { seen = kept.truth.seen; made = suc kept.truth.made }

    others : (j : ℕ) (view : View) → j ≢ id → get_elem? views j ≡ some view → Fits shards new view
    others = others_fit shards views id mine kept.truth kept.fits kept.once at_id store new (beginning_same kept.truth.seen) (λ k. refl) (omega arith)

    here : Fits shards new (with_shard mine)
    here = record { beginning = f.beginning; sound = f.sound; begun = tt; whole = subst (OwnsItsPart new (with_shard mine)) (sym store) (own.0, own.1, own.2, ap suc own.3) }

    there : Fits shards new (shard_view mine)
    there = record {
      beginning = nothing_begins new.seen;
      sound = nothing_is_sound shards;
      begun = tt;
      whole = (let e = own.3 in omega (arith, e), sym (kept.unmade mine.made (let e = own.3 in omega (arith, e))));
    }

    below : (view : View) → Fits shards kept.truth view → view.part ≡ Shard mine.made → ⊥
    below view g e = let h = (owned shards kept.truth view g (Shard mine.made) e).0 in let k = own.3 in omega (arith, h, k)

    fresh : (j : ℕ) (view : View) → get_elem? (set views id (with_shard mine)) j ≡ some view → view.part ≡ Shard mine.made → IsOwned (Shard mine.made) → ⊥
    fresh j view at_j e own_it =
        each_set views id (with_shard mine) (λ x. x.part ≡ Shard mine.made → ⊥) (λ k x _ at_k. below x (kept.fits k x at_k)) (λ (is : mine.part ≡ Shard mine.made). below mine f is) j view at_j e
