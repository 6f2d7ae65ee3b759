use Rattle.std.proofs.Common.{sym, ap, ◌∙◌}
use Rattle.rows_model.specs.Query.{id_list}
use Rattle.sqlite_keeper.proofs.AnswerLemmas.{befriended, smaller_first}
use Rattle.sqlite_keeper.proofs.answers.friends.Goals as goal

pub returns-clause-told : goal.returns-clause-told
returns-clause-told g c clean lists are fit =
    let from = c.in_ok-around.ensures.from clean lists are in
    let to = c.in_ok-around.ensures.to clean lists are in
    let smaller = smaller_first lists.pairs (λ k d l. (fit.links_join k d l).smaller_first) in
    let text = rw (from, to) at c.in_ok-friends_text.ensures in
    text ∙ sym (ap id_list (befriended c.args.id lists.pairs are.pairs_ascend smaller))
