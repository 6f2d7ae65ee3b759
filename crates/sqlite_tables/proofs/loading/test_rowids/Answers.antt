use Rattle.std.proofs.Common.{inl, []}
use Rattle.sqlite.proofs.InsideLemmas.{unchanged_keeps}
use Rattle.sqlite.specs.Held.{state}
use Rattle.sqlite_tables.proofs.Meanings.{rowids_text}
use Rattle.sqlite_tables.proofs.LeaveLemmas.{query_fails}
use Rattle.sqlite_tables.proofs.LoadingLemmas.{rowids_shown, rowids_same, rowids_told}
use Rattle.sqlite_tables.proofs.WriteLemmas.{on_ok}
use Rattle.sqlite_tables.proofs.loading.test_rowids.Goals as goal

pub returns-in-Ok-clause-found : goal.returns-in-Ok-clause-found
returns-in-Ok-clause-found g c honest has =
    let old = state g.S.Store c.args.tx.now.conn.now in
    let new = state g.S.Store c.ask_all.new.tx.conn.now in
    rowids_told (old.now.trees 1) c.in-Ok.rows.items c.as_slice.result.now c.test_numbers.result (rowids_shown old new c.in-Ok.rows.items has
    (c.in-Ok.ensures.shown honest)) c.as_slice.ensures.value c.test_numbers.ensures

pub returns-in-Ok-clause-same : goal.returns-in-Ok-clause-same
returns-in-Ok-clause-same g c honest has =
    let old = state g.S.Store c.args.tx.now.conn.now in
    let new = state g.S.Store c.ask_all.new.tx.conn.now in
    on_ok c.test_numbers.result (rowids_same old new c.in-Ok.rows.items has (c.in-Ok.ensures.shown honest)).0.now_is

pub returns-in-Ok-clause-kept : goal.returns-in-Ok-clause-kept
returns-in-Ok-clause-kept g c honest has =
    let old = state g.S.Store c.args.tx.now.conn.now in
    let new = state g.S.Store c.ask_all.new.tx.conn.now in unchanged_keeps old new (inl (rowids_same old new c.in-Ok.rows.items has (c.in-Ok.ensures.shown honest)))

pub returns-in-Err-clause-kept : goal.returns-in-Err-clause-kept
returns-in-Err-clause-kept g c honest has =
    let old = state g.S.Store c.args.tx.now.conn.now in
    let new = state g.S.Store c.ask_all.new.tx.conn.now in unchanged_keeps old new (query_fails rowids_text [] old new c.in-Err.error (c.in-Err.ensures.refused honest))
