use Rattle.std.proofs.Common.{◌≡◌, drop}
use Rattle.std.specs.Prelude.{option_map}
use Rattle.rows_model.specs.Query.{id_list}
use Rattle.rows_model.specs.Refresh.{ids_after, refreshed_ids}
use Rattle.rows_model.proofs.refreshing.refresh_ids.Given as goal

abbrev pub invariant-loop-change : goal.invariant-loop-change
invariant-loop-change l =
    option_map id_list (ids_after l.fn.circle l.fn.id (drop l.change-index l.change-items) l.ids.items)
    ≡ refreshed_ids l.fn.circle l.fn.id l.fn.old l.change-items
