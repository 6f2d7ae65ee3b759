use Rattle.std.proofs.Common.{arith, ◌∙◌}
use Rattle.rows_model.proofs.NameLemmas.{IsName-front}
use Rattle.rows_model.proofs.names.Name.numbered.Goals as goal

pub filled-requires : goal.filled-requires
filled-requires c =
    IsName-front 109 c.args.number c.as_bytes-digits.result.now c.copy_from_slice.new.self _ (omega arith, omega arith) (omega arith) (c.as_bytes-digits.ensures.value
    ∙ c.format.ensures.text) c.copy_from_slice.ensures.after
