use Rattle.std.proofs.Common.{◌≡◌, count_by, ap, ◌∙◌, rules}
use Rattle.rows_model.specs.Query.{invites}
use Rattle.rows_model.proofs.IndexLemmas.{counted_in_list, inviter_is_end}
use Rattle.rows_model.proofs.rows.Rows.pending_count.Goals as goal

pub returns : goal.returns
returns c =
    let n : c.count.result ≡ count_by (invites c.args.id) c.links_of.result.now = search rules in
    n ∙ (ap (count_by (invites c.args.id)) c.links_of.ensures ∙ counted_in_list (invites c.args.id) c.args.id c.args.self.now.links (inviter_is_end c.args.id))
