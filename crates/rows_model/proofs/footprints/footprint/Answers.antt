use Rattle.std.proofs.Common.{arith, sym, ap, ◌∙◌}
use Rattle.rows_model.specs.Changes.{footprint}
use Rattle.rows_model.proofs.FootLemmas.{foot_more, foot_all}
use Rattle.rows_model.proofs.footprints.footprint.Goals as goal

pub loop-change-preserved : goal.loop-change-preserved
loop-change-preserved c =
    foot_more c.loop-change.keys.items c.put_keys.new.keys.items c.put_keys-in-loop-change.new.keys.items c.changes-change-items.result.now
    c.loop-change.change-index c.change-item.result c.of-foot.result.first c.of-foot.result.second c.of-foot.result.of_first.now c.of-foot.result.of_second.now
    (omega arith) c.change-item.is c.of-foot.ensures c.in_ok-put_keys.ensures c.in_ok-put_keys-2.ensures
    ∙ c.loop-change.invariant

pub returns : goal.returns
returns c =
    sym (foot_all c.loop-change.keys.items c.changes-change-items.result.now c.loop-change.change-index (omega arith))
    ∙ (c.loop-change.invariant ∙ ap footprint c.changes-change-items.ensures.items)
