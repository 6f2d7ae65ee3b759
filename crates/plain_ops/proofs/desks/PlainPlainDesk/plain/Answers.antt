use Rattle.plain_ops.proofs.BelongLemmas.{step_belongs}
use Rattle.plain_ops.proofs.desks.PlainPlainDesk.plain.Goals as goal

pub returns-clause-belongs : goal.returns-clause-belongs
returns-clause-belongs c = step_belongs c.args.self.now c.run.new.self c.args.command.now c.run.result c.run.ensures
