use Rattle.std.proofs.Common.{◌∙◌, sym}
use Rattle.sqlite_keeper.proofs.BondLemmas.{if_ok, invited_is}
use Rattle.sqlite_keeper.proofs.bonds.is_invited.Goals as goal

pub returns-clause-told : goal.returns-clause-told
returns-clause-told g c clean lists are =
    if_ok c.is_paired.result (λ _ e. e ∙ sym (invited_is c.args.a c.args.b lists.pairs)) (c.is_paired.ensures.told clean lists are)
