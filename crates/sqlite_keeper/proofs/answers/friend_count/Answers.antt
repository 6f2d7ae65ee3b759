use Rattle.std.proofs.Common.{decimal, sym, ap, ◌∙◌}
use Rattle.sqlite_keeper.proofs.AnswerLemmas.{friends_counted, smaller_first}
use Rattle.sqlite_keeper.proofs.answers.friend_count.Goals as goal

pub returns-clause-told : goal.returns-clause-told
returns-clause-told g c clean lists are fit =
    let from = c.in_ok-around.ensures.from clean lists are in
    let to = c.in_ok-around.ensures.to clean lists are in
    let smaller = smaller_first lists.pairs (λ k d l. (fit.links_join k d l).smaller_first) in
    let text = rw (from, to) at c.in_ok-friend_count_text.ensures in
    text ∙ sym (ap decimal (friends_counted c.args.id lists.pairs are.pairs_ascend smaller))
