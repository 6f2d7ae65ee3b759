use Rattle.std.proofs.Common.{sym}
use Rattle.std.proofs.lemmas.Result.{on_err_weaker}
use Rattle.lease_table.proofs.TableLemmas.{Stays-through}
use Rattle.lease_table.proofs.edits.put_quar.Goals as goal

pub returns-in-Some-clause-err : goal.returns-in-Some-clause-err
returns-in-Some-clause-err c =
    on_err_weaker c.add_quar.result (λ same. Stays-through c.args.key c.args.leases.now _ _ _
    (sym c.in-Some.ensures.value) same (c.get_mut.follows.holds c.add_quar.new.there)) c.add_quar.ensures.err
