use Rattle.mc_text.specs.Words.{words_in}
use Rattle.mc_text.proofs.PlainLineLemmas.{no_add}
use Rattle.mc_text.proofs.plain_lines.add_of.Goals as goal

pub returns-in_err-fields-clause-none : goal.returns-in_err-fields-clause-none
returns-in_err-fields-clause-none c = rw c.from_residual.ensures (no_add (words_in c.args.args.now) c.in_err-fields.ensures.none)
