use Rattle.std.proofs.Common.{inl, inr}
use Rattle.mc_text.specs.Words.{words_in}
use Rattle.mixed_lines.proofs.ReadLemmas.{whole_front, headed_line, bad_front}
use Rattle.mixed_lines.proofs.fronts.with_verb.Goals as goal

pub returns-in-Whole : goal.returns-in-Whole
returns-in-Whole c =
    inl (whole_front c.args.stream.now c.args.long c.args.verb (words_in c.args.args.now) c.in-Whole.said c.in-Whole.noreply c.requires.line c.requires.words
    (rw c.in-Whole.is at c.in_ok-said.ensures.tells))

pub with_head-requires-clause-line : goal.with_head-requires-clause-line
with_head-requires-clause-line c =
    headed_line c.args.stream.now c.args.long c.args.verb (words_in c.args.args.now) c.in-Headed.head c.requires.line c.requires.words (rw c.in-Headed.is at c.in_ok-said.ensures.tells)

pub returns-in-Bad : goal.returns-in-Bad
returns-in-Bad c =
    inr (bad_front c.args.stream.now c.args.long c.args.verb (words_in c.args.args.now) c.requires.line c.requires.words
    (rw c.in-Bad.is at c.in_ok-said.ensures.tells))
