use Rattle.std.proofs.Common.{pos, [], ◌∷◌, ◌∙◌}
use Rattle.sqlite.specs.declared.types.Value.TheVariants.{Int}
use Rattle.sqlite.specs.Held.{state}
use Rattle.sqlite_tables.specs.Lists.{pairs_to}
use Rattle.sqlite_tables.proofs.Meanings.{to_text, to_plain}
use Rattle.sqlite_tables.proofs.LeaveLemmas.{shown_same, leaves_shown, leaves_failed}
use Rattle.sqlite_tables.proofs.ReadLemmas.{to_shown}
use Rattle.sqlite_tables.proofs.WriteLemmas.{on_ok}
use Rattle.sqlite_tables.proofs.reads.links_to.Goals as goal

pub returns-in-Ok-clause-found : goal.returns-in-Ok-clause-found
returns-in-Ok-clause-found g c honest lists are =
    c.pairs_in.ensures (pairs_to c.args.id lists)
    (c.as_slice.ensures.value ∙ to_shown (state g.S.Store c.args.tx.now.conn.now) (state g.S.Store c.ask.new.tx.conn.now) c.args.id lists are c.in-Ok.rows.items (c.in-Ok.ensures.shown honest))

pub returns-in-Ok-clause-same : goal.returns-in-Ok-clause-same
returns-in-Ok-clause-same g c honest lists are =
    on_ok c.pairs_in.result
    (shown_same to_text (Int (pos c.args.id) ∷ []) (state g.S.Store c.args.tx.now.conn.now)
    (state g.S.Store c.ask.new.tx.conn.now) c.in-Ok.rows.items are.tables to_plain.0 (c.in-Ok.ensures.shown honest)).0.now_is

pub returns-in-Ok-clause-leaves : goal.returns-in-Ok-clause-leaves
returns-in-Ok-clause-leaves g c =
    leaves_shown g.S.Store c.args.tx.now.conn.now c.ask.new.tx.conn.now to_text (Int (pos c.args.id) ∷ []) c.ask.ensures.clean c.in-Ok.rows.items to_plain.0 c.in-Ok.ensures.shown

pub returns-in-Err-clause-leaves : goal.returns-in-Err-clause-leaves
returns-in-Err-clause-leaves g c =
    leaves_failed g.S.Store c.args.tx.now.conn.now c.ask.new.tx.conn.now to_text (Int (pos c.args.id) ∷ []) c.ask.ensures.clean c.in-Err.error c.in-Err.ensures.refused
