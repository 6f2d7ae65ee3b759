use Rattle.std.proofs.Common.{arith, rules, sym, ◌∙◌}
use Rattle.rows_model.proofs.FootLemmas.{keys_more, keys_all}
use Rattle.rows_model.proofs.footprints.put_keys.Goals as goal

pub loop-kind-preserved : goal.loop-kind-preserved
loop-kind-preserved c =
    keys_more c.loop-kind.keys.items c.put_key.new.keys.items c.args.id c.args.kinds.now c.loop-kind.kind-index _
    (omega arith) (search rules) c.in_ok-put_key.ensures
    ∙ c.loop-kind.invariant

pub returns : goal.returns
returns c = sym (keys_all c.loop-kind.keys.items c.args.id c.args.kinds.now c.loop-kind.kind-index (omega arith)) ∙ c.loop-kind.invariant
