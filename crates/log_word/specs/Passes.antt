-- What contracts see of the word and of passes.
use Rattle.std.specs.Prelude.{ℕ, zero, suc, max, ◌≡◌, ◌||◌, List, [], ◌∷◌, ◌++◌}
use Rattle.atomic_table.specs.Table.{Me}
use Rattle.atomic_table.specs.Seated.{TableId}
use Rattle.atomic_table.specs.declared.shared.Seat.{Seat}
use Rattle.log_word.specs.declared.seen.Seen.{Seen}
use Rattle.log_word.specs.declared.seen.View.{View}
use Rattle.log_word.specs.Lists.{steps_of, longer}
use Rattle.log_word.specs.Steps.{IsSound}
use Rattle.log_word.specs.Views.{nothing_seen, shard_number}

-- A word: which one it is, and of how many shards.
pub record WordView : Type 0 where
  pub id : TableId
  pub shards : ℕ

-- A pass or a note: the word that it is of, and what it has seen.
pub record PassView : Type 0 where
  pub word : WordView
  pub seen : Seen

-- The pass of a shard: the word that it is of, the shard's number, and what it has seen.
pub record ShardPassView : Type 0 where
  pub word : WordView
  pub shard : ℕ
  pub seen : Seen

-- The word that a seat is at.
abbrev pub word_at : Seat (Unit {0}) View → WordView
word_at seat = record { id = seat.table_id; shards = seat.me.0.shards }

-- The pass of a seat, of the store or of a caller.
abbrev pub pass_at : Seat (Unit {0}) View → PassView
pass_at seat = record { word = word_at seat; seen = seat.me.0.seen }

-- The pass of a shard's seat.
abbrev pub shard_pass_at : Seat (Unit {0}) View → ShardPassView
shard_pass_at seat =
    record { word = word_at seat; shard = shard_number seat.me.0.part; seen = seat.me.0.seen }

-- What a shard's pass tells others.
abbrev pub pass_of : ShardPassView → PassView
pass_of pass = record { word = pass.word; seen = pass.seen }

-- A pass that has seen nothing.
abbrev pub blind_pass : WordView → PassView
blind_pass word = record { word = word; seen = nothing_seen }

-- The passes of so many shards, by number, which have seen nothing.
abbrev pub blind_shard_passes : WordView → ℕ → List ShardPassView
blind_shard_passes word zero = []
blind_shard_passes word (suc count) =
    blind_shard_passes word count ++ record { word = word; shard = count; seen = nothing_seen } ∷ []

-- What two have seen is seen now: of lists the longer, of failed calls the greater number, and that
-- the store has stopped telling where either knew.
pub record IsTogether (one other new : Seen) : Type 0 where
  pub events : new.events ≡ longer one.events other.events
  pub failures : new.failures ≡ max one.failures other.failures
  pub stopped : new.stopped ≡ (one.stopped || other.stopped)
  pub steps : (shard : ℕ)
      → steps_of shard new.steps ≡ longer (steps_of shard one.steps) (steps_of shard other.steps)

-- The shard has made no step that is seen only now.
abbrev pub IsSameOf : ℕ → Seen → Seen → Type 0
IsSameOf shard old new = steps_of shard new.steps ≡ steps_of shard old.steps

-- The seat of a pass: it holds no slot, is between no join and its load, and has seen what is sound.
pub record IsSeat (me : Me (Unit {0}) View) : Type 0 where
  pub empty : me.1 ≡ []
  pub settled : me.0.olds ≡ []
  pub sound : IsSound me.0.shards me.0.seen

-- The seat is at this word.
pub record IsAt (word : WordView) (seat : Seat (Unit {0}) View) : Type 0 where
  pub id : seat.table_id ≡ word.id
  pub shards : seat.me.0.shards ≡ word.shards

-- The seat has this view now, and is else as it was.
pub record Becomes (view : View) (old new : Seat (Unit {0}) View) : Type 0 where
  pub id : new.table_id ≡ old.table_id
  pub view_is : new.me.0 ≡ view
  pub holds : new.me.1 ≡ old.me.1
