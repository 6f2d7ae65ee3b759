use Rattle.std.proofs.Common.{◌∙◌, List, Ok, Err, subst}
use Rattle.rows_model.specs.declared.changes.Change.{Change}
use Rattle.rows_model.proofs.ApplyLemmas.{apply_all_is}
use Rattle.sqlite.specs.Held.{state}
use Rattle.sqlite_tables.specs.Lists.{lists_of}
use Rattle.sqlite_keeper.specs.Bases.{rows_in}
use Rattle.sqlite_keeper.specs.Makes.{MakesFrom}
use Rattle.sqlite_keeper.proofs.BaseLemmas.{rejected_at}
use Rattle.sqlite_keeper.proofs.LeavesLemmas.{clean_before}
use Rattle.sqlite_keeper.proofs.MakeLemmas.{answers_after}
use Rattle.sqlite_keeper.proofs.base.answer_after.Goals as goal

pub returns-in-Ok-clause-told : goal.returns-in-Ok-clause-told
returns-in-Ok-clause-told g c clean counted =
    let early = clean_before g.S.Store c.make_from.new.tx.conn.now c.staged_answer.new.tx.conn.now c.staged_answer.ensures.leaves clean in
    let was = rows_in (state g.S.Store c.args.tx.now.conn.now).now in
    let mid = (state g.S.Store c.make_from.new.tx.conn.now).now in
    let made : MakesFrom 0 c.args.txn.now was mid (Ok c.in-Ok.field-0) =
    subst (λ (changes : List Change). MakesFrom 0 changes was mid (Ok c.in-Ok.field-0)) c.changes.ensures.items (c.in-Ok.ensures.made early counted) in
    answers_after c.args.txn.now c.args.key.now was (rows_in mid) c.staged_answer.result (apply_all_is c.args.txn.now was ∙ made.1)
    (c.staged_answer.ensures.told clean (lists_of mid) made.0.lists made.0.fit)

pub returns-in-Err-clause-told : goal.returns-in-Err-clause-told
returns-in-Err-clause-told g c clean counted =
    let was = rows_in (state g.S.Store c.args.tx.now.conn.now).now in
    let mid = (state g.S.Store c.make_from.new.tx.conn.now).now in
    let made : MakesFrom 0 c.args.txn.now was mid (Err c.in-Err.fault) =
    subst (λ (changes : List Change). MakesFrom 0 changes was mid (Err c.in-Err.fault)) c.changes.ensures.items (c.in-Err.ensures.made clean counted) in
    rejected_at c.args.txn.now was mid c.in-Err.fault made
