use Rattle.std.proofs.Common.{subst}
use Rattle.std.specs.List.{All}
use Rattle.std.specs.Prelude.{◌<◌}
use Rattle.key_shard.proofs.bodies.Body.next_due.Goals as goal

pub returns : goal.returns
returns c =
    λ now early key.
    subst (λ quars. All (λ quar. now < quar.deadline) quars) (c.requires.ties.quars key) (c.next_due.ensures now early key)
