-- What a server leaves in the file of its cache.
use Rattle.std.specs.Prelude.{ℕ, ◌≡◌, List, ◌++◌, length, map, reverse, All, Option, Some, IsSome, slice_get, Vec}
use Rattle.std.specs.Global.{Global}
use Rattle.std.specs.Option.{ForSome}
use Rattle.rows_model.specs.Rows.{Tables}
use Rattle.rows_model.specs.Query.{answer}
use Rattle.key_shard.specs.declared.steps.Step.{Step}
use Rattle.key_shard.specs.Answers.{Legal}
use Rattle.key_shard.specs.Past.{Terms}
use Rattle.key_shard.specs.Shards.{ShardView}
use Rattle.sql_keeper.specs.declared.stores.Commit.{Commit}
use Rattle.sql_keeper.specs.Log.{rows_after}
use Rattle.shard_dump.specs.declared.rows.Dump.{Dump}
use Rattle.shard_dump.specs.declared.rows.DumpRow.{DumpRow}
use Rattle.shard_dump.specs.Answered.{AreAmong, IsAnswered, answered_rows, entry_rows}
use Rattle.shard_dump.specs.Texts.{IsDumpText, dump_text}
use Rattle.cache_file.specs.Files.{Told, SameElsewhere, SameTexts}
use Rattle.cache_file.specs.Texts.{AreDumps, cache_text}
use Rattle.run_words.specs.declared.words.ServeSpec.{ServeSpec}
use Rattle.top_run.specs.declared.runs.Status.{Status}
use Rattle.top_run.specs.declared.runs.Status.TheVariants as status
use Rattle.top_run.specs.Begins.{Files}
use Rattle.top_run.specs.Runs.{Left}
use Rattle.top_run.specs.Serves.{serve_shape, serve_rolls}
use Rattle.top_run.specs.Works.{hub_terms}

-- The rows of all entries of a shard with this history, the least recent first.
abbrev pub entries_in : List Step → List DumpRow
entries_in history = entry_rows (reverse history)

-- And of those whose values are their keys' answers on these rows.
abbrev pub right_in : Tables → List Step → List DumpRow
right_in rows history = answered_rows rows (reverse history)

-- A dump has rows of entries of a shard with these terms, in their order, of whose legal history these are the last steps. Where the
-- keeper tells its rows, it has those of exactly the entries that are right on the rows after the log, which it was asked for.
pub record IsDumpedOf (terms : Terms) (rows : Option Tables) (opening : Tables) (log : List Commit) (steps : List Step) (dump : Dump) : Type 0 where
  pub given_up : List Step
  pub legal : Legal terms (given_up ++ steps)
  pub among : AreAmong dump.rows (entries_in (given_up ++ steps))
  pub rows_are : IsSome rows → dump.rows ≡ right_in (rows_after opening log) (given_up ++ steps)
  pub right : IsSome rows → All (λ row. row.value ≡ answer row.key (rows_after opening log)) dump.rows

-- The text is that of a cache's file, with the dump of each shard that a server left.
pub record IsSavedText (spec : ServeSpec) (rows : Option Tables) (left : Left) (text : List ℕ) : Type 0 where
  pub opening : Tables
  pub opening_is : left.opening ≡ Some opening
  pub dumps : List Dump
  pub are_dumps : AreDumps spec.shards dumps
  pub text_is : text ≡ cache_text (map dump_text dumps)
  pub each : (place : ℕ) (steps : List Step) (dump : Dump) → slice_get left.histories place ≡ Some steps → slice_get dumps place ≡ Some dump
      → IsDumpedOf (hub_terms (serve_shape spec) serve_rolls place) rows opening left.log steps dump

-- The text is that of a cache's file, with a dump of each of these shards, beside a store with these rows that was asked.
pub record IsCacheOf (known_rows : Option Tables) (rows : Tables) (shards : List ShardView) (text : List ℕ) : Type 0 where
  pub dumps : List Dump
  pub as_many : length dumps ≡ length shards
  pub text_is : text ≡ cache_text (map dump_text dumps)
  pub each : (place : ℕ) (shard : ShardView) (dump : Dump) → slice_get shards place ≡ Some shard → slice_get dumps place ≡ Some dump
      → IsDumpText (dump_text dump) dump × IsAnswered known_rows rows shard dump

-- Where it is told what a file has, it is a text of which this is so.
abbrev pub HasText : (List ℕ → Type 0) → Told → Type 0
HasText right told = ForSome told (λ known. (text : List ℕ) × (known ≡ Some text) × right text)

-- The file at this path has the text of a server's cache, where that is told; and it is told where it was before. Each other file has
-- what it had.
pub record HasSaved (path : List ℕ) (spec : ServeSpec) (rows : Option Tables) (left : Left) (old new : Files) : Type 0 where
  pub saved : HasText (IsSavedText spec rows left) (new path)
  pub tells : IsSome (old path) → IsSome (new path)
  pub others : SameElsewhere path old new

-- A server that was asked to, and that ended with all done, has saved its cache at the path that was named. Else each file has what it had.
abbrev pub SavesAt : Option (Vec ℕ Global) → Status → ServeSpec → Option Tables → Left → Files → Files → Type 0
SavesAt (Some path) status.Done spec rows left old new = HasSaved path.items spec rows left old new
SavesAt path ended spec rows left old new = SameTexts old new

-- How a server ends that had ended so before its cache was to be saved. Where a file is named and all was done the file is written, or
-- that failed, or a call of the keeper did, or memory ran out. Else nothing is written.
abbrev pub EndsSaved : Option (Vec ℕ Global) → Status → Status → Option Tables → Tables → List ShardView → Files → Files → Type 0
EndsSaved (Some path) status.Done status.Done known rows shards old new =
    HasText (IsCacheOf known rows shards) (new path.items) × (IsSome (old path.items) → IsSome (new path.items))
    × SameElsewhere path.items old new
EndsSaved (Some path) status.Done status.FileFault known rows shards old new = SameTexts old new
EndsSaved (Some path) status.Done status.KeepFault known rows shards old new = SameTexts old new
EndsSaved (Some path) status.Done status.Memory known rows shards old new = SameTexts old new
EndsSaved (Some path) status.Done other known rows shards old new = ⊥
EndsSaved path before after known rows shards old new = (after ≡ before) × SameTexts old new
