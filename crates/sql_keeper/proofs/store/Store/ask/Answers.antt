use Rattle.std.proofs.Common.{ap, ◌∙◌, is_some}
use Rattle.rows_model.specs.Query.{answer}
use Rattle.sql_keeper.proofs.StoreLemmas.{known-at, failed-same}
use Rattle.sql_keeper.proofs.store.Store.ask.Goals as goal

pub invariant_of-self : goal.invariant_of-self
invariant_of-self g c = (
  c.ask.ensures.started,
  c.self.invariant.1,
  λ known_rows is_told. c.self.invariant.2 known_rows (c.ask.ensures.tells known_rows is_told).0,
  failed-same _ _ _ _ c.self.invariant.3 c.in-Ok.ensures.counts,
  c.self.invariant.4,
)

pub returns-in-Ok-clause-tells : goal.returns-in-Ok-clause-tells
returns-in-Ok-clause-tells g c =
    rw (← c.self.view_is)
    (λ some.
    let known = known-at _ some in
    let before = c.in-Ok.ensures.tells known.0 known.1 in
    (ap is_some before.0, before.1 ∙ ap (answer c.args.key.now) (c.self.invariant.2 known.0 before.0)))
