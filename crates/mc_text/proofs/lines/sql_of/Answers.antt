use Rattle.mc_text.specs.Words.{words_in}
use Rattle.mc_text.proofs.TxnLemmas.{committed}
use Rattle.mc_text.proofs.lines.sql_of.Goals as goal

pub returns-in_err-txn-clause-memory : goal.returns-in_err-txn-clause-memory
returns-in_err-txn-clause-memory c =
    committed c.from_residual.result (words_in c.args.args.now) (words_in c.in-Some.rest.now) c.in-Some.sid c.in-Some.ensures.found
    c.in_err-txn.ensures.memory
