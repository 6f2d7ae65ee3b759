use Rattle.core_history.proofs.SweptLemmas.{end_reply_is}
use Rattle.core_history.proofs.sweeps.end.Goals as goal

pub returns-clause-sweeps : goal.returns-clause-sweeps
returns-clause-sweeps g c origin world stands =
    end_reply_is c.args.store.now c.end.new.self origin world c.args.sid
    c.end.result stands c.requires c.end.ensures.sid c.end.ensures.was c.end.ensures.ledger c.end.ensures.keeper.0 c.end.ensures.keeper.1
