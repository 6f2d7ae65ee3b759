use Rattle.mc_text.proofs.RoomLemmas.{stamped_ok}
use Rattle.mc_text.proofs.replies.push_stamped.Goals as goal

pub returns-clause-ok : goal.returns-clause-ok
returns-clause-ok c =
    stamped_ok c.push_lines.result c.args.out.now.items c.push_value_kind.new.out.items c.push_numbers.new.out.items c.push_lines.new.out.items
    c.args.value.now c.bytes.result.now c.bytes-2.result.now c.args.key c.args.stamp c.bytes.ensures c.bytes-2.ensures
    c.in_ok-push_value_kind.ensures.ok c.in_ok-push_numbers.ensures.ok c.push_lines.ensures.ok
