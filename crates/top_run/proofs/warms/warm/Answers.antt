use Rattle.std.proofs.Common.{ap, sym}
use Rattle.std.specs.Prelude.{Option, is_some}
use Rattle.rows_model.specs.Rows.{Tables}
use Rattle.top_run.specs.Runs.{held_at, IsOpened}
use Rattle.top_run.specs.Works.{work_shape}
use Rattle.top_run.proofs.warms.warm.Goals as goal

pub returns-in-Ok-new-clause-ended : goal.returns-in-Ok-new-clause-ended
returns-in-Ok-new-clause-ended g c = λ unread door files.
    let store = c.in-Ok-new.store in
    let held = held_at c.args.place.now (g.K.Keeper.holds c.args.keeper c.args.place.now) in
    let opened : IsOpened held (work_shape c.args.spec.now) store.ledger.opening store.known_rows =
    record { fresh = c.in-Ok-new.ensures.fresh; opened = λ rows is. c.in-Ok-new.ensures.held (ap (λ (o : Option Tables). is_some o) is) } in
    rw (sym c.in-Ok-new.ensures.counts) (c.run_first.ensures.ended unread door files (g.K.Keeper.rows c.args.keeper) held opened)
