use Rattle.std.proofs.Common.{◌≡◌, take, if◌then◌else◌}
use Rattle.rows_model.specs.declared.keys.QKey.{QKey}
use Rattle.rows_model.specs.Changes.{has_key}
use Rattle.shard_dump.specs.Touches.{number_of}
use Rattle.shard_dump.proofs.touches.LastTouches.note.Given as goal

abbrev pub invariant-loop-key : goal.invariant-loop-key
invariant-loop-key l =
    (key : QKey) → number_of key l.self
    ≡ (if has_key key (take l.key-index l.keys) then l.number else number_of key l.initial.self)
