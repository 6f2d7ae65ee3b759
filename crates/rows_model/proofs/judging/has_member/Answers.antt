use Rattle.std.proofs.Common.{sym, ap, ◌∙◌}
use Rattle.std.specs.Prelude.{◌==◌}
use Rattle.std.specs.Option.{is_some}
use Rattle.rows_model.proofs.JudgeLemmas.{is_some-copied, is_some-find}
use Rattle.rows_model.proofs.judging.has_member.Goals as goal

pub returns : goal.returns
returns c =
    c.is_some.ensures ∙ (sym (is_some-copied c.member.result) ∙ (ap is_some c.member.ensures ∙ is_some-find (λ m. m.id == c.args.id) c.args.rows.now.members))
