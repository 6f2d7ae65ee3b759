use Rattle.std.proofs.Common.{◌≡◌, true, sym, ◌∙◌, arith}
use Rattle.rows_model.specs.Changes.{applies}
use Rattle.sqlite.specs.Held.{state}
use Rattle.sqlite_tables.specs.Lists.{lists_of}
use Rattle.sqlite_keeper.specs.Bases.{rows_in}
use Rattle.sqlite_keeper.proofs.LeavesLemmas.{clean_before, same_lists}
use Rattle.sqlite_keeper.proofs.MakeLemmas.{made_one, free_before}
use Rattle.sqlite_keeper.proofs.changes.make_one.Goals as goal

pub returns-clause-made : goal.returns-clause-made
returns-clause-made g c clean counted =
    let was = (state g.S.Store c.args.tx.now.conn.now).now in
    let change = c.args.change.now in
    let early = clean_before g.S.Store c.applies.new.tx.conn.now c.make.new.tx.conn.now c.make.ensures.leaves clean in
    let made = c.in_ok-applies.ensures.told early (lists_of was) counted.lists counted.fit counted.tallied in
    let can : applies change (rows_in was) ≡ true = sym made ∙ grind arith in
    let here = same_lists g.S.Store c.args.tx.now.conn.now c.applies.new.tx.conn.now (λ k l r. c.in_ok-applies.ensures.same k l r) early (lists_of was) counted.lists in
    let are = c.in_ok-make.ensures.made clean (lists_of was) here (free_before change was c.args.tally counted can) in
    let out = made_one change was (state g.S.Store c.make.new.tx.conn.now).now c.args.tally c.requires counted can are in
    (can, rw c.after.ensures out.0, out.1)
