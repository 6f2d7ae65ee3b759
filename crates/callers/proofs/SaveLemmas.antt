-- What follows from what a server leaves in the file of its cache.
use Rattle.std.proofs.Common.{◌≡◌, ℕ, ◌<◌, List, length, Option, Some, None, IsSome, refl, sym, subst, ◌∙◌}
use Rattle.std.specs.Prelude.{IfSome, Result, Ok, Err, Vec}
use Rattle.std.specs.Global.{Global}
use Rattle.std.proofs.lemmas.Option.{slice_get_within}
use Rattle.rows_model.specs.Rows.{Tables}
use Rattle.key_freshness.proofs.KnownLemmas.{stands-within}
use Rattle.cache_file.specs.Files.{SameTexts}
use Rattle.run_words.specs.declared.words.ServeSpec.{ServeSpec}
use Rattle.run_words.specs.declared.words.Words.{Words}
use Rattle.run_words.specs.declared.words.Words.TheVariants as words
use Rattle.run_words.specs.declared.words.WordsFault.{WordsFault}
use Rattle.top_run.specs.Commands.{SavedAs}
use Rattle.top_run.specs.declared.runs.Status.{Status}
use Rattle.top_run.specs.declared.runs.Status.TheVariants as status
use Rattle.top_run.specs.Runs.{Left}
use Rattle.top_run.specs.Begins.{Files}
use Rattle.top_run.specs.Saves.{IsSavedText, SavesAt}
use Rattle.top_run.specs.Serves.{Course, IsServed, ServeEnded}
use Rattle.callers.specs.Runs.{IsRightCache, HasSavedRight}

-- words that are refused touch no file
pub same_files_of_usage : (read : Result Words WordsFault) (ended : Status) (rows : Option Tables) (left : Left) (old new : Files)
    → SavedAs read ended rows left old new → ended ≡ status.Usage → SameTexts old new
same_files_of_usage (Ok (words.Replay at)) ended rows left old new h is = h
same_files_of_usage (Ok (words.Work at spec)) ended rows left old new h is = h
same_files_of_usage (Ok (words.Warm at spec)) ended rows left old new h is = h
same_files_of_usage (Ok (words.Page text)) ended rows left old new h is = h
same_files_of_usage (Err fault) ended rows left old new h is = h
same_files_of_usage (Ok (words.Serve at spec)) ended rows left old new h is =
    by spec.warm (subst (λ (e : Status). SavesAt spec.warm e spec rows left old new) is h)
  where
    by : (path : Option (Vec ℕ Global)) → SavesAt path status.Usage spec rows left old new → SameTexts old new
    by None h = h
    by (Some path) h = h

-- what a server saved is right: there are as many dumps as there are shards whose steps are left
right_cache : (spec : ServeSpec) (course : Course) (text : List ℕ) → IsServed spec status.Done course
    → IsSavedText spec course.after.rows course.left text → IsSome course.after.rows → IsRightCache spec course.left text
right_cache spec course text served saved some = record {
  opening = saved.opening;
  opening_is = saved.opening_is;
  dumps = saved.dumps;
  is_text = record { are = saved.are_dumps; written = saved.text_is };
  each = λ place dump at.
      let below : place < length course.left.histories =
      subst (λ (n : ℕ). place < n) (saved.are_dumps.all ∙ sym served.kept.as_many) (slice_get_within saved.dumps place dump at) in
      let there = stands-within course.left.histories place below in
      let is = saved.each place there.0 dump there.1 at in
      record {
        steps = there.0;
        is_left = there.1;
        given_up = is.given_up;
        legal = is.legal;
        rows_are = is.rows_are some;
        right = is.right some;
      };
}

-- so it is of a server that ended Done, over a keeper that tells its rows
pub saved_right : (ended : Status) (spec : ServeSpec) (course : Course) (old new : Files) → ServeEnded ended spec course
    → SavesAt spec.warm ended spec course.after.rows course.left old new → ended ≡ status.Done → (IsSome course.left.opening → IsSome course.after.rows)
    → IfSome spec.warm (λ path. HasSavedRight path.items spec course.left old new)
saved_right ended spec course old new h saves is started =
    by spec.warm (subst (λ (e : Status). SavesAt spec.warm e spec course.after.rows course.left old new) is saves)
  where
    served : IsServed spec status.Done course
    served = subst (λ (e : Status). ServeEnded e spec course) is h

    some : IsSome course.after.rows
    some = started (subst (λ (o : Option Tables). IsSome o) (sym served.kept.opening_is) refl)

    by : (path : Option (Vec ℕ Global)) → SavesAt path status.Done spec course.after.rows course.left old new
        → IfSome path (λ path. HasSavedRight path.items spec course.left old new)
    by None h = tt
    by (Some path) h =
        record {
          saved = λ known here. let has = h.saved known here in (has.0, has.1, right_cache spec course has.0 served has.2 some);
          others = h.others;
        }
