use Rattle.std.proofs.Common.{refl}
use Rattle.mc_text.specs.Words.{words_in}
use Rattle.mc_text.proofs.VerbLemmas.{line_told, txn_line, unknown_line}
use Rattle.mc_text.proofs.lines.said_of.Goals as goal

pub returns-in-Some-lease_verb-clause-told : goal.returns-in-Some-lease_verb-clause-told
returns-in-Some-lease_verb-clause-told c =
    line_told (words_in c.args.line.now) (words_in c.in-Some.args.now) c.in-Some.word.now c.in-Some-lease_verb.verb c.said_by.result
    c.in-Some.ensures.found c.in-Some-lease_verb.ensures.found c.said_by.ensures.tells

pub returns-in-Some-lease_verb-clause-memory : goal.returns-in-Some-lease_verb-clause-memory
returns-in-Some-lease_verb-clause-memory c =
    txn_line (words_in c.args.line.now) (words_in c.in-Some.args.now) c.in-Some.word.now c.in-Some-lease_verb.verb c.said_by.result
    c.in-Some.ensures.found c.in-Some-lease_verb.ensures.found c.said_by.ensures.memory

pub returns-in-None-clause-told : goal.returns-in-None-clause-told
returns-in-None-clause-told c = (
  unknown_line (words_in c.args.line.now) (words_in c.in-Some.args.now) c.in-Some.word.now c.in-Some.ensures.found c.in-None.ensures.none,
  refl,
)
