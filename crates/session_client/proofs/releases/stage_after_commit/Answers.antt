use Rattle.session_client.proofs.HandLemmas.{after_commit, committed_wants}
use Rattle.session_client.proofs.releases.stage_after_commit.Goals as goal

pub returns-in-Ok-clause-follows : goal.returns-in-Ok-clause-follows
returns-in-Ok-clause-follows c = λ writing short heard awaits granted_so out.
    let awaited = rw c.in-Committed.is at awaits in
    let (values, none, before, roomy) = out in
    let wants = committed_wants writing c.in-Committed.number c.in-Committed.txn c.in-Committed.grants short heard roomy in
    let ending =
    after_commit writing c.args.hand.now c.in-Committed.number c.args.hand.now.room c.in-Committed.txn c.in-Committed.grants short heard awaited granted_so out in
    let new = rw c.take_back.ensures at c.in-Ok.ensures.ok in
    rw c.in-Committed.is (c.releasing-stage.ensures.follows writing short _ wants (rw new ending))
