use Rattle.sqlite.specs.Held.{state}
use Rattle.sqlite_keeper.specs.Bases.{rows_in}
use Rattle.sqlite_keeper.proofs.MakeLemmas.{no_place}
use Rattle.sqlite_keeper.proofs.changes.+make_from.Goals as goal

pub returns-in-Err-clause-made : goal.returns-in-Err-clause-made
returns-in-Err-clause-made g t c clean counted =
    rw c.staged.ensures (no_place c.args.place c.args.changes.now (rows_in (state g.S.Store c.args.tx.now.conn.now).now)
    (state g.S.Store c.make_one.new.tx.conn.now).now c.in-Err.fault)
