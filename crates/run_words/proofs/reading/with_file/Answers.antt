use Rattle.std.proofs.Common.{sym, ◌∙◌}
use Rattle.run_words.proofs.WordLemmas.{no_file}
use Rattle.run_words.proofs.reading.with_file.Goals as goal

pub returns-in_default-clause-none : goal.returns-in_default-clause-none
returns-in_default-clause-none c = no_file c.args.spec c.args.path.now (λ plain. sym c.most.ensures ∙ c.in_default.is)
