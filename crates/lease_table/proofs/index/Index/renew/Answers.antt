use Rattle.lease_table.proofs.IndexLemmas.{listed-later}
use Rattle.lease_table.proofs.index.Index.renew.Goals as goal

pub returns-then-was-deadline-clause-listed : goal.returns-then-was-deadline-clause-listed
returns-then-was-deadline-clause-listed c =
    listed-later c.args.key.now c.args.token c.args.was c.args.deadline c.args.self.now c.if-was-deadline.true c.requires.listed
