use Rattle.mc_text.proofs.FrontLemmas.{line_wants}
use Rattle.mc_text.proofs.items.with_line.Goals as goal

pub returns-in_err-said-clause-memory : goal.returns-in_err-said-clause-memory
returns-in_err-said-clause-memory c =
    line_wants c.args.stream.now c.args.long c.from_residual.result c.requires c.in_err-said.ensures.memory
