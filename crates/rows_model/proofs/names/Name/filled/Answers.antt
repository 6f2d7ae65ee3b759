use Rattle.std.proofs.Common.{refl}
use Rattle.rows_model.proofs.NameLemmas.{filled_is}
use Rattle.rows_model.proofs.names.Name.filled.Goals as goal

pub invariant_of-result : goal.invariant_of-result
invariant_of-result c = filled_is c.args.text.now c.copy_from_slice.new.self _ c.requires c.copy_from_slice.ensures.after refl
