use Rattle.std.proofs.Common.{length}
use Rattle.mc_text.specs.Words.{words_in}
use Rattle.mc_text.proofs.PlainWordLemmas.{HasRead}
use Rattle.mc_text.proofs.plain_lines.keys_of.Given as goal

abbrev pub invariant-loop-word : goal.invariant-loop-word
invariant-loop-word l = HasRead (words_in l.args) l.keys.items l.are_plain (words_in l.rest)

abbrev pub decreases-loop-word : goal.decreases-loop-word
decreases-loop-word l = length (words_in l.rest)
