use Rattle.mc_text.proofs.PlainTextLemmas.{items_next}
use Rattle.mc_text.proofs.plain_texts.push_items.Goals as goal

pub loop-item-preserved : goal.loop-item-preserved
loop-item-preserved c =
    items_next c.args.is_told c.args.found.now c.loop-item.item-index c.item-item.result c.args.out.now.items c.loop-item.out.items c.push_item.new.out.items
    c.loop-item-test.true c.item-item.is c.loop-item.invariant c.in_ok-push_item.ensures.ok
