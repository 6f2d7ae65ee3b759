-- How a server's cache begins, by what its file has and what the store answers.
use Rattle.std.specs.Prelude.{ℕ, ◌≡◌, ◌≢◌, ◌≤◌, ◌+◌, List, [], ◌∷◌, length, All, Option, Some, None, IsSome, slice_get, Vec}
use Rattle.std.specs.Global.{Global}
use Rattle.iq_outside.specs.Outside.{Rose}
use Rattle.rows_model.specs.Rows.{Tables}
use Rattle.rows_model.specs.Query.{answer}
use Rattle.key_shard.specs.Shards.{ShardView, past_of}
use Rattle.sql_keeper.specs.Stores.{StoreView}
use Rattle.shard_dump.specs.declared.rows.Dump.{Dump}
use Rattle.shard_dump.specs.Loads.{HasRows}
use Rattle.cache_file.specs.declared.files.CacheFile.{Ghosts as CacheFiles}
use Rattle.cache_file.specs.Files.{Told, IsTold, IsAbsent}
use Rattle.cache_file.specs.Texts.{IsCacheText}
use Rattle.run_words.specs.declared.words.ServeSpec.{ServeSpec}
use Rattle.top_run.specs.declared.runs.Status.{Status}
use Rattle.top_run.specs.declared.runs.Status.TheVariants as status
use Rattle.top_run.specs.declared.serves.Begun.{Begun}
use Rattle.top_run.specs.declared.serves.Begun.TheVariants as cache
use Rattle.top_run.specs.declared.serves.ColdCause.{ColdCause}
use Rattle.top_run.specs.declared.serves.ColdCause.TheVariants as why

-- What is told of the file at each path.
abbrev pub Files : Type 0
Files = List ℕ → Told

-- What is known of a place of files: what is told of each, and how often it failed.
pub record FilesSeen : Type 0 where
  pub texts : Files
  pub faults : ℕ

abbrev pub files_seen : {F : Type 0} → CacheFiles F → F → FilesSeen
files_seen files file = record { texts = files.text_at file; faults = files.faults file }

-- What is known where a cache begins: of its files before and behind it, of the rows that the store began with, of the keeper's rows
-- where these are told, and of how many of the keeper's calls have failed.
pub record Beginning : Type 0 where
  pub files_before : FilesSeen
  pub files_after : FilesSeen
  pub opening : Tables
  pub rows : Option Tables
  pub failed : ℕ

-- So it is of these files, and of this store.
abbrev pub beginning_of : FilesSeen → FilesSeen → StoreView → Beginning
beginning_of files_before files_after store = record {
  files_before = files_before;
  files_after = files_after;
  opening = store.ledger.opening;
  rows = store.known_rows;
  failed = store.ledger.failed;
}

-- How many rows dumps have.
abbrev pub rows_count : List Dump → ℕ
rows_count [] = 0
rows_count (dump ∷ dumps) = length dump.rows + rows_count dumps

-- A server's shard has room for the rows of each dump.
abbrev pub HaveRoom : List Dump → Type 0
HaveRoom dumps = All (λ dump. length dump.rows ≤ 4096) dumps

-- Each value in the dumps is its key's answer on these rows.
abbrev pub AreRightOn : Tables → List Dump → Type 0
AreRightOn tables dumps = All (λ dump. All (λ row. row.value ≡ answer row.key tables) dump.rows) dumps

-- The entries of each shard are the rows of the dump in its place.
abbrev pub HoldRows : List Dump → List ShardView → Type 0
HoldRows dumps shards =
    (place : ℕ) (dump : Dump) (shard : ShardView) → slice_get dumps place ≡ Some dump → slice_get shards place ≡ Some shard
    → HasRows (past_of shard) dump.rows

-- Where this is told of a file, it has the cache of so many shards, with so many rows, for which there is room. Where the keeper tells its
-- rows, each value is its key's answer on the opening ones.
pub record IsTakenOver (shards : ℕ) (found : Told) (rows : Option Tables) (opening : Tables) (count : ℕ) : Type 0 where
  pub text : List ℕ
  pub has_text : IsTold found text
  pub dumps : List Dump
  pub is_cache : IsCacheText shards text dumps
  pub room : HaveRoom dumps
  pub right : IsSome rows → AreRightOn opening dumps
  pub count_is : count ≡ rows_count dumps

-- Where this is told of a file, it has no cache of so many shards, or one with more rows than there is room for.
pub record HasNoCache (shards : ℕ) (found : Told) : Type 0 where
  pub text : List ℕ
  pub has_text : IsTold found text
  pub none : (dumps : List Dump) → IsCacheText shards text dumps → HaveRoom dumps → ⊥

-- Where this is told of a file, it has the cache of so many shards. Where the keeper tells its rows, some value isn't its key's answer on
-- the opening ones.
pub record HasOtherRows (shards : ℕ) (found : Told) (rows : Option Tables) (opening : Tables) : Type 0 where
  pub text : List ℕ
  pub has_text : IsTold found text
  pub dumps : List Dump
  pub is_cache : IsCacheText shards text dumps
  pub wrong : IsSome rows → AreRightOn opening dumps → ⊥

-- Why nothing is taken over from a file of which this is told.
abbrev pub IsCold : ℕ → Told → Beginning → ColdCause → Type 0
IsCold shards found known why.NoFile = IsAbsent found
IsCold shards found known why.FileFault = Rose known.files_before.faults known.files_after.faults
IsCold shards found known why.NoCache = HasNoCache shards found
IsCold shards found known why.OtherRows = HasOtherRows shards found known.rows known.opening
IsCold shards found known why.StoreFault = 1 ≤ known.failed
IsCold shards found known why.Memory = Unit {0}

-- How the cache of a server begins whose words name this file, or none, with so many shards.
abbrev pub BeginsAs : Option (Vec ℕ Global) → ℕ → Beginning → Begun → Type 0
BeginsAs None shards known begun = begun ≡ cache.New
BeginsAs (Some path) shards known cache.New = ⊥
BeginsAs (Some path) shards known (cache.Cold cause) = IsCold shards (known.files_before.texts path.items) known cause
BeginsAs (Some path) shards known (cache.Warm rows) =
    IsTakenOver shards (known.files_before.texts path.items) known.rows known.opening rows

-- The cache of a server began so. The files failed only where that is told.
pub record HasBegun (spec : ServeSpec) (known : Beginning) (begun : Begun) : Type 0 where
  pub begins_as : BeginsAs spec.warm spec.shards known begun
  pub fail_only_told : begun ≢ cache.Cold why.FileFault → known.files_after.faults ≡ known.files_before.faults
  pub never_falls : known.files_before.faults ≤ known.files_after.faults

-- The files failed only where the lines of a server, or its end, say so.
abbrev pub FailOnlyTold : Begun → Status → FilesSeen → FilesSeen → Type 0
FailOnlyTold begun ended before after =
    begun ≢ cache.Cold why.FileFault → ended ≢ status.FileFault → after.faults ≡ before.faults

-- Why shards aren't filled with these dumps, beside a store that is this now.
abbrev pub StopsFilling : StoreView → List Dump → ColdCause → Type 0
StopsFilling store dumps why.NoFile = ⊥
StopsFilling store dumps why.FileFault = ⊥
StopsFilling store dumps why.NoCache = HaveRoom dumps → ⊥
StopsFilling store dumps why.OtherRows = IsSome store.known_rows → AreRightOn store.ledger.opening dumps → ⊥
StopsFilling store dumps why.StoreFault = 1 ≤ store.ledger.failed
StopsFilling store dumps why.Memory = Unit {0}

-- These shards were filled with these dumps: each has the rows of its own, for which there is room, and these are so many. Where the keeper
-- tells its rows, each value is its key's answer on the opening ones.
pub record AreFilledWith (dumps : List Dump) (rows : Option Tables) (opening : Tables) (shards : List ShardView) (count : ℕ) : Type 0 where
  pub hold : HoldRows dumps shards
  pub room : HaveRoom dumps
  pub right : IsSome rows → AreRightOn opening dumps
  pub count_is : count ≡ rows_count dumps

-- Where this is told of a file, these shards hold what it has.
pub record HoldCache (shards : ℕ) (found : Told) (made : List ShardView) : Type 0 where
  pub text : List ℕ
  pub has_text : IsTold found text
  pub dumps : List Dump
  pub is_cache : IsCacheText shards text dumps
  pub hold : HoldRows dumps made

-- Shards that a cache begins with which is taken over hold what its file has, where that is told.
abbrev pub HoldsAs : Option (Vec ℕ Global) → ℕ → Files → List ShardView → Begun → Type 0
HoldsAs (Some path) shards texts made (cache.Warm rows) = HoldCache shards (texts path.items) made
HoldsAs path shards texts made begun = Unit {0}
