use Rattle.mc_text.specs.Words.{words_in}
use Rattle.mc_text.proofs.TxnLemmas.{HasRead}
use Rattle.mc_text.proofs.txns.are_txn.Given as goal

-- the changes so far were read off the front
abbrev pub invariant-loop : goal.invariant-loop
invariant-loop l = HasRead (words_in l.words) l.counter (words_in l.rest)
