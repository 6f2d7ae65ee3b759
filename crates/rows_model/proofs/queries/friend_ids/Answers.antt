use Rattle.std.proofs.Common.{filter, ap, ◌∙◌}
use Rattle.rows_model.specs.Query.{befriends}
use Rattle.rows_model.proofs.IndexLemmas.{kept_in_list, friend_is_end}
use Rattle.rows_model.proofs.queries.friend_ids.Goals as goal

pub returns : goal.returns
returns c =
    let links = ap (filter (befriends c.args.id)) c.links_of.ensures
    ∙ kept_in_list (befriends c.args.id) c.args.id c.args.rows.now.links (friend_is_end c.args.id) in
    rw (← links) c.friends_among.ensures
