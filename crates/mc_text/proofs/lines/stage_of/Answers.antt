use Rattle.mc_text.specs.Words.{words_in}
use Rattle.mc_text.proofs.TxnLemmas.{staged}
use Rattle.mc_text.proofs.lines.stage_of.Goals as goal

pub returns-in_err-txn-clause-memory : goal.returns-in_err-txn-clause-memory
returns-in_err-txn-clause-memory c =
    staged c.from_residual.result (words_in c.args.args.now) (words_in c.in-Some.rest.now) (words_in c.in-Some-take_sid.rest.now) c.in-Some.key
    c.in-Some-take_sid.sid c.in-Some.ensures.found c.in-Some-take_sid.ensures.found c.in_err-txn.ensures.memory
