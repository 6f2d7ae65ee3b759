use Rattle.std.proofs.Common.{arith, ◌∙◌}
use Rattle.rows_model.proofs.NameLemmas.{IsName-front}
use Rattle.run_inputs.proofs.loads.name_of.Goals as goal

pub unreachable-requires : goal.unreachable-requires
unreachable-requires c =
    c.in-None.ensures.none (IsName-front 110 c.args.number c.as_bytes-digits.result.now c.copy_from_slice.new.self _ (omega arith, omega arith) (omega arith)
    (c.as_bytes-digits.ensures.value ∙ c.format.ensures.text) c.copy_from_slice.ensures.after)
