use Rattle.std.proofs.Common.{sym, ap, subst}
use Rattle.std.specs.Prelude.{Option, is_some}
use Rattle.rows_model.specs.Rows.{Tables}
use Rattle.session_client.specs.declared.plans.Shape.{Shape}
use Rattle.top_run.specs.Runs.{Held, held_at, IsOpened}
use Rattle.top_run.proofs.RunLemmas.{new_core}
use Rattle.top_run.proofs.runs.start_script.Goals as goal

pub new-requires : goal.new-requires
new-requires g c = rw c.shape-2.ensures c.requires.shape_fits

pub play_core-requires-clause-new : goal.play_core-requires-clause-new
play_core-requires-clause-new g c =
    new_core c.in-Ok-new.core c.shape-2.result c.args.script.shape c.shape-2.ensures c.in-Ok-new.ensures.begins

pub returns-in-Ok-new-clause-ended : goal.returns-in-Ok-new-clause-ended
returns-in-Ok-new-clause-ended g c = λ unread read is_read.
    let core = c.in-Ok-new.core in
    let held : Held = held_at c.args.place.now (g.K.Keeper.holds c.args.keeper c.args.place.now) in
    let opened : IsOpened held c.args.script.shape core.store.ledger.opening core.store.known_rows =
    subst (λ (shape : Shape). IsOpened held shape core.store.ledger.opening core.store.known_rows) c.shape-2.ensures
    (record { fresh = c.in-Ok-new.ensures.fresh; opened = λ rows is. c.in-Ok-new.ensures.held (ap (λ (o : Option Tables). is_some o) is) }) in
    rw (sym c.in-Ok-new.ensures.counts) (c.play_core.ensures.ended unread read (g.K.Keeper.rows c.args.keeper) held is_read opened)
