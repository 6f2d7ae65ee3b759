use Rattle.run_inputs.proofs.DrawLemmas.{four_drawn}
use Rattle.run_inputs.proofs.draws.Draws.next.Goals as goal

pub returns-clause-draws : goal.returns-clause-draws
returns-clause-draws c =
    (four_drawn c.args.generator.now _ _ _ _ _ _ _ _ c.next_word-roll.ensures c.next_word-first.ensures c.next_word-second.ensures c.next_word-manner.ensures).0

pub returns-clause-left : goal.returns-clause-left
returns-clause-left c =
    (four_drawn c.args.generator.now _ _ _ _ _ _ _ _ c.next_word-roll.ensures c.next_word-first.ensures c.next_word-second.ensures c.next_word-manner.ensures).1
