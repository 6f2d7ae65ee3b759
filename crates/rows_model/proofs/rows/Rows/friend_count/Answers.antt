use Rattle.std.proofs.Common.{◌≡◌, count_by, ap, ◌∙◌, rules}
use Rattle.rows_model.specs.Query.{befriends}
use Rattle.rows_model.proofs.IndexLemmas.{counted_in_list, friend_is_end}
use Rattle.rows_model.proofs.rows.Rows.friend_count.Goals as goal

pub returns : goal.returns
returns c =
    let n : c.count.result ≡ count_by (befriends c.args.id) c.links_of.result.now = search rules in
    n ∙ (ap (count_by (befriends c.args.id)) c.links_of.ensures
    ∙ counted_in_list (befriends c.args.id) c.args.id c.args.self.now.links (friend_is_end c.args.id))
