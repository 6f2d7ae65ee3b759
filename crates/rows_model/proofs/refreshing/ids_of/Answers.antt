use Rattle.std.proofs.Common.{arith, sym, ◌∙◌}
use Rattle.rows_model.proofs.RefreshLemmas.{ids_no_number, ids_too_low, ids_more}
use Rattle.rows_model.proofs.refreshing.ids_of.Goals as goal

pub returns-in_default : goal.returns-in_default
returns-in_default c =
    sym (ids_no_number c.args.words.now c.loop-word.word-index _ c.loop-word.least c.loop-word.ids.items c.loop-word-test.true c.in_default.ensures)
    ∙ c.loop-word.invariant

pub returns-then-from-least : goal.returns-then-from-least
returns-then-from-least c =
    sym (ids_too_low c.args.words.now c.loop-word.word-index _ c.loop-word.least
    c.in-Some.id c.loop-word.ids.items c.loop-word-test.true c.in-Some.ensures (omega arith))
    ∙ c.loop-word.invariant

pub loop-word-preserved : goal.loop-word-preserved
loop-word-preserved c =
    let more = ids_more c.args.words.now c.loop-word.word-index _
    c.loop-word.least c.in-Some.id c.loop-word.ids.items c.loop-word-test.true c.in-Some.ensures (omega arith) in
    rw (c.in_ok-push.ensures.items, c.from-least.ensures) (sym more ∙ c.loop-word.invariant)
