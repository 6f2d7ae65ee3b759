use Rattle.std.proofs.Common.{◌∙◌}
use Rattle.sqlite_keeper.proofs.BondLemmas.{reaches_as_is}
use Rattle.sqlite_keeper.proofs.bonds.is_paired.Goals as goal

pub returns-clause-told : goal.returns-clause-told
returns-clause-told g c clean lists are =
    let between = c.in_ok-between.ensures.found clean lists are in
    let reached = rw (c.as_slice.ensures.value, between) at c.reaches_as.ensures in
    reached ∙ reaches_as_is c.args.wanted c.args.a c.args.b lists
