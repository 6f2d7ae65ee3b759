use Rattle.std.proofs.Common.{arith}
use Rattle.rows_model.proofs.RefreshLemmas.{person_told}
use Rattle.rows_model.proofs.refreshing.person_of.Goals as goal

pub returns : goal.returns
returns c =
    let text_is = person_told c.args.words.now _ c.in_ok-friends.friends c.in_ok-pending.pending
    (omega arith) (omega arith) c.in_ok-name.ensures.valid c.in_ok-friends.ensures c.in_ok-pending.ensures in
    rw c.in_ok-name.ensures.found text_is
