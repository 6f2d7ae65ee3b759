use Rattle.std.proofs.lemmas.Result.{IfErr-weaker}
use Rattle.callers.proofs.StoreLemmas.{closed-fault, closed-later, log-kept}
use Rattle.callers.proofs.stores.commit_after_end.Goals as goal

pub returns-clause-cause : goal.returns-clause-cause
returns-clause-cause g c =
    let closed = closed-later c.closed_stays_closed.ensures _ _ _
    c.args.sid c.begin.result c.requires c.end.ensures.ledger c.end.ensures.ended c.begin.ensures.ledger c.begin.ensures.err in
    IfErr-weaker c.commit.result _ _ (λ back. closed-fault _ _ _ _ _ _ back.0 closed) c.commit.ensures.refusal

pub returns-clause-log : goal.returns-clause-log
returns-clause-log g c =
    let closed = closed-later c.closed_stays_closed.ensures _ _ _
    c.args.sid c.begin.result c.requires c.end.ensures.ledger c.end.ensures.ended c.begin.ensures.ledger c.begin.ensures.err in
    log-kept _ _ _ _ _ _ _ c.begin.result c.commit.result c.end.ensures.ledger
    c.begin.ensures.ledger c.begin.ensures.err closed c.commit.ensures.admitted c.commit.ensures.err
