use Rattle.session_client.proofs.HandLemmas.{renewed_next}
use Rattle.session_client.proofs.hands.refresh_all.Goals as goal

pub loop-i-preserved : goal.loop-i-preserved
loop-i-preserved c =
    renewed_next c.args.txn.now c.args.notes.now c.args.values.now c.loop-i.values c.loop-i.i c.index-notes-i.result
    c.index-values-i.result c.refresh_one.new.value c.loop-i-test.true c.requires c.loop-i.invariant c.index-notes-i.is c.in_ok-refresh_one.ensures.ok
