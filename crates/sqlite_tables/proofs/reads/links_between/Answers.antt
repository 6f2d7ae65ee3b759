use Rattle.std.proofs.Common.{pos, [], ◌∷◌, ◌∙◌}
use Rattle.sqlite.specs.declared.types.Value.TheVariants.{Int}
use Rattle.sqlite.specs.Held.{state}
use Rattle.sqlite_tables.specs.Lists.{pairs_between}
use Rattle.sqlite_tables.proofs.Meanings.{between_text, between_plain}
use Rattle.sqlite_tables.proofs.LeaveLemmas.{shown_same, leaves_shown, leaves_failed}
use Rattle.sqlite_tables.proofs.ReadLemmas.{between_shown}
use Rattle.sqlite_tables.proofs.WriteLemmas.{on_ok}
use Rattle.sqlite_tables.proofs.reads.links_between.Goals as goal

pub returns-in-Ok-clause-found : goal.returns-in-Ok-clause-found
returns-in-Ok-clause-found g c honest lists are =
    c.pairs_in.ensures (pairs_between c.args.a c.args.b lists)
    (c.as_slice.ensures.value ∙ between_shown (state g.S.Store c.args.tx.now.conn.now) (state g.S.Store c.ask_two.new.tx.conn.now) c.args.a c.args.b lists are c.in-Ok.rows.items (c.in-Ok.ensures.shown honest))

pub returns-in-Ok-clause-same : goal.returns-in-Ok-clause-same
returns-in-Ok-clause-same g c honest lists are =
    on_ok c.pairs_in.result
    (shown_same between_text (Int (pos c.args.a) ∷ Int (pos c.args.b) ∷ []) (state g.S.Store c.args.tx.now.conn.now)
    (state g.S.Store c.ask_two.new.tx.conn.now) c.in-Ok.rows.items are.tables between_plain.0 (c.in-Ok.ensures.shown honest)).0.now_is

pub returns-in-Ok-clause-leaves : goal.returns-in-Ok-clause-leaves
returns-in-Ok-clause-leaves g c =
    leaves_shown g.S.Store c.args.tx.now.conn.now c.ask_two.new.tx.conn.now between_text (Int (pos c.args.a) ∷ Int (pos c.args.b) ∷ []) c.ask_two.ensures.clean c.in-Ok.rows.items between_plain.0 c.in-Ok.ensures.shown

pub returns-in-Err-clause-leaves : goal.returns-in-Err-clause-leaves
returns-in-Err-clause-leaves g c =
    leaves_failed g.S.Store c.args.tx.now.conn.now c.ask_two.new.tx.conn.now between_text (Int (pos c.args.a) ∷ Int (pos c.args.b) ∷ []) c.ask_two.ensures.clean c.in-Err.error c.in-Err.ensures.refused
