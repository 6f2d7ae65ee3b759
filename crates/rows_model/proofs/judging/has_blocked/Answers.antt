use Rattle.std.proofs.Common.{ap, ◌∙◌}
use Rattle.rows_model.specs.Refresh.{has_id}
use Rattle.rows_model.proofs.JudgeLemmas.{blocked_is}
use Rattle.rows_model.proofs.judging.has_blocked.Goals as goal

pub returns : goal.returns
returns c = c.has_id.ensures ∙ (ap (has_id c.args.b) c.blocked_by.ensures ∙ blocked_is c.args.a c.args.b c.args.rows.now)
