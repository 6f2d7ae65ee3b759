use Rattle.std.proofs.Common.{refl, take}
use Rattle.mc_text.specs.Words.{words_in}
use Rattle.mc_text.specs.Verbs.{lease_text}
use Rattle.mc_text.proofs.FrontLemmas.{line_wants}
use Rattle.mc_text.proofs.VerbLemmas.{told_line, txn_told}
use Rattle.mc_text.proofs.items.front_by.Goals as goal

pub with_said-requires-clause-told : goal.with_said-requires-clause-told
with_said-requires-clause-told c =
    told_line (words_in (take c.args.long c.args.stream.now)) (words_in c.args.args.now) (lease_text c.args.verb) c.args.verb c.in_ok-said.said c.requires.words refl
    c.in_ok-said.ensures.tells

pub returns-in_err-said-clause-memory : goal.returns-in_err-said-clause-memory
returns-in_err-said-clause-memory c =
    line_wants c.args.stream.now c.args.long c.from_residual.result c.requires.line
    (txn_told (words_in (take c.args.long c.args.stream.now)) (words_in c.args.args.now) (lease_text c.args.verb) c.args.verb c.requires.words refl
    c.in_err-said.ensures.memory)
