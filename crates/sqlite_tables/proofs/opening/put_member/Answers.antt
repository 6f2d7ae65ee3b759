use Rattle.std.proofs.Common.{pos, [], ◌∷◌}
use Rattle.sqlite.specs.declared.types.Value.TheVariants.{Int, Text}
use Rattle.sqlite.specs.Held.{state}
use Rattle.sqlite_tables.proofs.Meanings.{put_text}
use Rattle.sqlite_tables.proofs.LeaveLemmas.{leaves_ran}
use Rattle.sqlite_tables.proofs.OpeningLemmas.{member_put}
use Rattle.sqlite_tables.proofs.WriteLemmas.{ran_inside}
use Rattle.sqlite_tables.proofs.opening.put_member.Goals as goal

pub returns-in-Ok-clause-put : goal.returns-in-Ok-clause-put
returns-in-Ok-clause-put g c honest lists are last =
    let old = state g.S.Store c.args.tx.now.conn.now in
    let new = state g.S.Store c.run_named.new.tx.conn.now in
    ran_inside old.in_transaction c.in-Ok.field-0 _ c.in-Ok.ensures.ended
    (λ inside. member_put old new c.args.member.now lists c.in-Ok.field-0 are last (rw c.bytes.ensures.value at (c.in-Ok.ensures.runs honest inside)).0)

pub returns-in-Err-clause-leaves : goal.returns-in-Err-clause-leaves
returns-in-Err-clause-leaves g c =
    leaves_ran g.S.Store c.args.tx.now.conn.now c.run_named.new.tx.conn.now put_text (Int (pos c.args.member.now.id) ∷ Text c.bytes.result.now ∷ []) c.run_named.ensures.clean
    c.run_named.result (λ out. (c.run_named.ensures.ended out).1) c.run_named.ensures.runs
