use Rattle.std.proofs.Common.{ℕ, List, cond, ap, ◌∙◌}
use Rattle.rows_model.specs.declared.keys.QKey.{QKey}
use Rattle.rows_model.specs.Key.{same_key}
use Rattle.shard_dump.specs.Touches.{number_of}
use Rattle.shard_dump.proofs.TouchLemmas.{number-put}
use Rattle.shard_dump.proofs.touches.LastTouches.put.Goals as goal

pub returns : goal.returns
returns c = λ other.
    number-put c.self.inside.numbers c.insert.new.self c.args.key.now c.args.number c.in_ok-insert.ensures.updates.0 other
    ∙ ap (λ (old : List (QKey × ℕ)). cond (same_key other c.args.key.now) c.args.number (number_of other old)) c.self.view_is
