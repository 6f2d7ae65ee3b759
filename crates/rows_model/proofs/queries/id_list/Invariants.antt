use Rattle.std.proofs.Common.{◌≡◌, take}
use Rattle.rows_model.specs.Query.{id_list}
use Rattle.rows_model.proofs.queries.id_list.Given as goal

abbrev pub invariant-loop-id : goal.invariant-loop-id
invariant-loop-id l = l.text.items ≡ id_list (take l.id-index l.ids)
