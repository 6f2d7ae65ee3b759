use Rattle.std.proofs.Common.{sym}
use Rattle.std.proofs.lemmas.List.{take_rest}
use Rattle.mc_text.proofs.SplitLemmas.{word_cut, word_last, no_word}
use Rattle.mc_text.proofs.words.next_word.Goals as goal

pub returns-in_err-from-clause-none : goal.returns-in_err-from-clause-none
returns-in_err-from-clause-none c = rw c.from_residual.ensures (no_word c.args.text.now (sym c.in_err-from.ensures))

pub returns-in-Some-clause-found : goal.returns-in-Some-clause-found
returns-in-Some-clause-found c =
    rw (take_rest, take_rest) (word_cut c.args.text.now c.in_ok-from.from c.in-Some.at (sym c.in_ok-from.ensures) (rw take_rest at (sym c.in-Some.ensures)))

pub returns-in-None-clause-found : goal.returns-in-None-clause-found
returns-in-None-clause-found c =
    rw take_rest (word_last c.args.text.now c.in_ok-from.from (sym c.in_ok-from.ensures) (rw take_rest at (sym c.in-None.ensures)))
