use Rattle.std.proofs.Common.{ap, ◌∙◌}
use Rattle.std.specs.Option.{is_some}
use Rattle.sqlite_keeper.proofs.BondLemmas.{member_named}
use Rattle.sqlite_keeper.proofs.bonds.is_member.Goals as goal

pub returns-clause-told : goal.returns-clause-told
returns-clause-told g c clean lists are =
    c.is_some.ensures ∙ (ap is_some (c.in_ok-name_of.ensures.found clean lists are) ∙ member_named c.args.id lists)
