use Rattle.std.proofs.Common.{inl, []}
use Rattle.sqlite.proofs.InsideLemmas.{unchanged_keeps}
use Rattle.sqlite.specs.Held.{state}
use Rattle.sqlite_tables.specs.Lists.{member_values}
use Rattle.sqlite_tables.proofs.Meanings.{members_text}
use Rattle.sqlite_tables.proofs.LeaveLemmas.{query_fails}
use Rattle.sqlite_tables.proofs.LoadingLemmas.{members_shown, members_same, shows_as}
use Rattle.sqlite_tables.proofs.WriteLemmas.{on_ok}
use Rattle.sqlite_tables.proofs.loading.found_members.Goals as goal

pub returns-in-Ok-clause-found : goal.returns-in-Ok-clause-found
returns-in-Ok-clause-found g c honest has =
    let old = state g.S.Store c.args.tx.now.conn.now in
    let new = state g.S.Store c.ask_all.new.tx.conn.now in
    shows_as member_values (λ v. v.items) _ c.in-Ok.rows.items c.as_slice.result.now c.members_in.result (members_shown old new c.in-Ok.rows.items has
    (c.in-Ok.ensures.shown honest)) c.as_slice.ensures.value c.members_in.ensures.told

pub returns-in-Ok-clause-same : goal.returns-in-Ok-clause-same
returns-in-Ok-clause-same g c honest has =
    let old = state g.S.Store c.args.tx.now.conn.now in
    let new = state g.S.Store c.ask_all.new.tx.conn.now in
    on_ok c.members_in.result (members_same old new c.in-Ok.rows.items has (c.in-Ok.ensures.shown honest)).0.now_is

pub returns-in-Ok-clause-kept : goal.returns-in-Ok-clause-kept
returns-in-Ok-clause-kept g c honest has =
    let old = state g.S.Store c.args.tx.now.conn.now in
    let new = state g.S.Store c.ask_all.new.tx.conn.now in unchanged_keeps old new (inl (members_same old new c.in-Ok.rows.items has (c.in-Ok.ensures.shown honest)))

pub returns-in-Err-clause-kept : goal.returns-in-Err-clause-kept
returns-in-Err-clause-kept g c honest has =
    let old = state g.S.Store c.args.tx.now.conn.now in
    let new = state g.S.Store c.ask_all.new.tx.conn.now in unchanged_keeps old new (query_fails members_text [] old new c.in-Err.error (c.in-Err.ensures.refused honest))
