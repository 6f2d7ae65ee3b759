use Rattle.std.proofs.Common.{[]}
use Rattle.sqlite.specs.Held.{state}
use Rattle.sqlite_tables.proofs.Meanings.{index_text}
use Rattle.sqlite_tables.proofs.LeaveLemmas.{ran_keeps}
use Rattle.sqlite_tables.proofs.OpeningLemmas.{index_made}
use Rattle.sqlite_tables.proofs.WriteLemmas.{ran_inside}
use Rattle.sqlite_tables.proofs.opening.make_index.Goals as goal

pub returns-in-Ok-clause-made : goal.returns-in-Ok-clause-made
returns-in-Ok-clause-made g c honest before =
    let old = state g.S.Store c.args.tx.now.conn.now in
    let new = state g.S.Store c.run_plain.new.tx.conn.now in
    ran_inside old.in_transaction c.in-Ok.field-0 _ c.in-Ok.ensures.ended (λ inside. index_made old new c.in-Ok.field-0 before (c.in-Ok.ensures.runs honest inside).0)

pub returns-in-Err-clause-kept : goal.returns-in-Err-clause-kept
returns-in-Err-clause-kept g c honest =
    ran_keeps g.S.Store c.args.tx.now.conn.now c.run_plain.new.tx.conn.now index_text [] c.run_plain.ensures.clean c.run_plain.result (λ out.
    (c.run_plain.ensures.ended out).1) (c.run_plain.ensures.runs honest)
