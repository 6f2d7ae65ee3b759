use Rattle.std.proofs.Common.{pos, [], ◌∷◌}
use Rattle.sqlite.specs.declared.types.Value.TheVariants.{Int, Text}
use Rattle.sqlite.specs.Held.{state}
use Rattle.sqlite_tables.proofs.Meanings.{update_text}
use Rattle.sqlite_tables.proofs.LeaveLemmas.{leaves_ran}
use Rattle.sqlite_tables.proofs.WriteLemmas.{ran_inside, set}
use Rattle.sqlite_tables.proofs.writes.set_name.Goals as goal

pub returns-in-Ok-clause-named : goal.returns-in-Ok-clause-named
returns-in-Ok-clause-named g c honest lists are =
    let old = state g.S.Store c.args.tx.now.conn.now in
    let new = state g.S.Store c.run_named.new.tx.conn.now in
    ran_inside old.in_transaction c.in-Ok.field-0 _ c.in-Ok.ensures.ended
    (λ inside. set old new lists are c.in-Ok.field-0 c.args.id c.args.name.now (rw c.bytes.ensures.value at (c.in-Ok.ensures.runs honest inside)))

pub returns-in-Err-clause-leaves : goal.returns-in-Err-clause-leaves
returns-in-Err-clause-leaves g c =
    leaves_ran g.S.Store c.args.tx.now.conn.now c.run_named.new.tx.conn.now update_text (Int (pos c.args.id) ∷ Text c.bytes.result.now ∷ []) c.run_named.ensures.clean
    c.run_named.result (λ out. (c.run_named.ensures.ended out).1) c.run_named.ensures.runs
