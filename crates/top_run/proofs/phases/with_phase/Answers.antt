use Rattle.std.proofs.Common.{refl}
use Rattle.top_run.proofs.phases.with_phase.Goals as goal

pub returns : goal.returns
returns c = rw (c.push_reserved.ensures.items, c.requires.none_earlier, c.histories_of.ensures.whole c.requires.whole) refl
