use Rattle.std.proofs.Common.{pos, [], ◌∷◌}
use Rattle.sqlite.specs.declared.types.Value.TheVariants.{Int}
use Rattle.sqlite.specs.Held.{state}
use Rattle.sqlite_tables.proofs.Meanings.{delete_text}
use Rattle.sqlite_tables.proofs.LeaveLemmas.{leaves_ran}
use Rattle.sqlite_tables.proofs.WriteLemmas.{ran_inside, taken}
use Rattle.sqlite_tables.proofs.writes.take_link.Goals as goal

pub returns-in-Ok-clause-taken : goal.returns-in-Ok-clause-taken
returns-in-Ok-clause-taken g c honest lists are =
    let old = state g.S.Store c.args.tx.now.conn.now in
    let new = state g.S.Store c.run_two.new.tx.conn.now in
    ran_inside old.in_transaction c.in-Ok.field-0 _ c.in-Ok.ensures.ended (λ inside. taken old new lists are c.in-Ok.field-0 c.args.a c.args.b (c.in-Ok.ensures.runs honest inside))

pub returns-in-Err-clause-leaves : goal.returns-in-Err-clause-leaves
returns-in-Err-clause-leaves g c =
    leaves_ran g.S.Store c.args.tx.now.conn.now c.run_two.new.tx.conn.now delete_text (Int (pos c.args.a) ∷ Int (pos c.args.b) ∷ []) c.run_two.ensures.clean
    c.run_two.result (λ out. (c.run_two.ensures.ended out).1) c.run_two.ensures.runs
