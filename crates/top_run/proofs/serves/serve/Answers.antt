use Rattle.std.proofs.Common.{ap, sym, refl, ◌∙◌}
use Rattle.std.specs.Prelude.{Option, is_some}
use Rattle.rows_model.specs.Rows.{Tables}
use Rattle.top_run.specs.Runs.{held_at, IsOpened}
use Rattle.top_run.specs.Serves.{serve_shape}
use Rattle.top_run.proofs.SaveLemmas.{is_done, no_file_fault, unsaved_at, unstarted}
use Rattle.top_run.proofs.ServeLemmas.{none_served}
use Rattle.top_run.proofs.serves.serve.Goals as goal

pub returns-in-Ok-new-clause-ended : goal.returns-in-Ok-new-clause-ended
returns-in-Ok-new-clause-ended g c = λ unread.
    let store = c.in-Ok-new.store in
    let held = held_at c.args.place.now (g.K.Keeper.holds c.args.keeper c.args.place.now) in
    let opened : IsOpened held (serve_shape c.args.spec.now) store.ledger.opening store.known_rows =
    record { fresh = c.in-Ok-new.ensures.fresh; opened = λ rows is. c.in-Ok-new.ensures.held (ap (λ (o : Option Tables). is_some o) is) } in
    rw (sym c.in-Ok-new.ensures.counts) (c.serve_begun.ensures.ended unread (g.K.Keeper.rows c.args.keeper) held opened)

pub returns-in-Err-clause-lines : goal.returns-in-Err-clause-lines
returns-in-Err-clause-lines g c = λ fresh. none_served _ _ _ _ c.not_started-in-Err.ensures.ends refl

pub returns-in-Err-clause-saves : goal.returns-in-Err-clause-saves
returns-in-Err-clause-saves g c =
    unsaved_at c.args.spec.now.warm c.not_started-in-Err.result.status c.args.spec.now _ _ _ _
    (ap is_done (c.not_started-in-Err.ensures.status ∙ c.start_status.ensures) ∙ unstarted c.in-Err.field-0.cause) (λ path. refl)

pub returns-in-Err-clause-file_fault : goal.returns-in-Err-clause-file_fault
returns-in-Err-clause-file_fault g c = λ is.
    absurd (no_file_fault c.in-Err.field-0.cause (sym (c.not_started-in-Err.ensures.status ∙ c.start_status.ensures) ∙ is))

pub returns-in_default-clause-saves : goal.returns-in_default-clause-saves
returns-in_default-clause-saves g c =
    unsaved_at c.args.spec.now.warm c.not_started.result.status c.args.spec.now _ _ _ _ (ap is_done c.not_started.ensures.status) (λ path. refl)
