use Rattle.std.proofs.Common.{pos, [], ◌∷◌}
use Rattle.sqlite.specs.declared.types.Value.TheVariants.{Int}
use Rattle.sqlite.specs.Held.{state}
use Rattle.sqlite_tables.proofs.Meanings.{insert_text}
use Rattle.sqlite_tables.proofs.LeaveLemmas.{leaves_ran}
use Rattle.sqlite_tables.proofs.WriteLemmas.{ran_inside, put}
use Rattle.sqlite_tables.proofs.writes.put_link.Goals as goal

pub returns-in-Ok-clause-put : goal.returns-in-Ok-clause-put
returns-in-Ok-clause-put g c honest lists are free =
    let old = state g.S.Store c.args.tx.now.conn.now in
    let new = state g.S.Store c.run_three.new.tx.conn.now in
    ran_inside old.in_transaction c.in-Ok.field-0 _ c.in-Ok.ensures.ended
    (λ inside. put old new lists are c.in-Ok.field-0 c.args.pair free (rw c.number.ensures at (c.in-Ok.ensures.runs honest inside)))

pub returns-in-Err-clause-leaves : goal.returns-in-Err-clause-leaves
returns-in-Err-clause-leaves g c =
    leaves_ran g.S.Store c.args.tx.now.conn.now c.run_three.new.tx.conn.now insert_text (Int (pos c.args.pair.a) ∷ Int (pos c.args.pair.b) ∷ Int (pos c.number.result) ∷ []) c.run_three.ensures.clean
    c.run_three.result (λ out. (c.run_three.ensures.ended out).1) c.run_three.ensures.runs
