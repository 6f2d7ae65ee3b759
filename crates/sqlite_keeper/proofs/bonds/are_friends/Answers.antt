use Rattle.std.proofs.Common.{◌∙◌, arith}
use Rattle.sqlite_keeper.proofs.AnswerLemmas.{smaller_first}
use Rattle.sqlite_keeper.proofs.BondLemmas.{if_ok, friends_low, friends_high}
use Rattle.sqlite_keeper.proofs.bonds.are_friends.Goals as goal

pub returns-then-a-b-clause-told : goal.returns-then-a-b-clause-told
returns-then-a-b-clause-told g c clean lists are fit =
    let smaller = smaller_first lists.pairs (λ k d l. (fit.links_join k d l).smaller_first) in
    if_ok c.is_paired.result (λ _ e. e ∙ friends_low c.args.a c.args.b lists (omega arith) smaller) (c.is_paired.ensures.told clean lists are)

pub returns-else-a-b-clause-told : goal.returns-else-a-b-clause-told
returns-else-a-b-clause-told g c clean lists are fit =
    let smaller = smaller_first lists.pairs (λ k d l. (fit.links_join k d l).smaller_first) in
    if_ok c.is_paired-else-a-b.result (λ _ e. e ∙ friends_high c.args.a c.args.b lists (omega arith) smaller) (c.is_paired-else-a-b.ensures.told clean lists are)
