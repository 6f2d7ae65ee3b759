use Rattle.session_client.proofs.HandLemmas.{after_back}
use Rattle.session_client.proofs.releases.stage_after_release.Goals as goal

pub returns-in-SarBack-clause-follows : goal.returns-in-SarBack-clause-follows
returns-in-SarBack-clause-follows c = λ writing back short heard awaits follows.
    let named = rw c.in-SarBack.is at awaits in
    rw (c.in-SarBack.is, c.put_back.ensures) (after_back writing c.args.hand.now c.args.outcome c.args.how back c.in-SarBack.grant short heard named follows)
