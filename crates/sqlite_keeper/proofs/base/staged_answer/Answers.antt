use Rattle.rows_model.specs.Query.{answer}
use Rattle.sqlite_tables.specs.Lists.{tables_of}
use Rattle.sqlite_keeper.proofs.MakeLemmas.{no_answer}
use Rattle.sqlite_keeper.proofs.base.staged_answer.Goals as goal

pub returns-in-Err-clause-told : goal.returns-in-Err-clause-told
returns-in-Err-clause-told g c clean lists are fit = rw c.staged.ensures (no_answer (answer c.args.key.now (tables_of lists)) c.in-Err.fault)
