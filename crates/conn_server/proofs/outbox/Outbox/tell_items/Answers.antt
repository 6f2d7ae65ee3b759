use Rattle.std.proofs.Common.{arith, ◌∙◌}
use Rattle.std.proofs.lemmas.List.{take_all}
use Rattle.std.proofs.lemmas.Result.{err_from_is_err_and}
use Rattle.conn_server.proofs.OutboxLemmas.{items_next, items_stop, items_end}
use Rattle.conn_server.proofs.outbox.Outbox.tell_items.Goals as goal

pub returns-in_err-tell_item-clause-puts : goal.returns-in_err-tell_item-clause-puts
returns-in_err-tell_item-clause-puts g c =
    let p = err_from_is_err_and c.from_residual.result c.from_residual.ensures.1 in
    rw (p.1, p.2)
    (items_stop _ c.args.is_told c.args.found.now c.loop-item.item-index c.item-item.result (g.L.Source.write_side c.args.line.now)
    (g.L.Source.write_side c.loop-item.line) (g.L.Source.write_side c.tell_item.new.line) c.args.self.now c.loop-item.self c.tell_item.new.self
    c.loop-item-test.true c.item-item.is c.loop-item.invariant.sends c.in_err-tell_item.ensures.puts)

pub loop-item-preserved : goal.loop-item-preserved
loop-item-preserved g c = record {
  sends = items_next c.args.is_told c.args.found.now c.loop-item.item-index c.item-item.result (g.L.Source.write_side c.args.line.now)
      (g.L.Source.write_side c.loop-item.line) (g.L.Source.write_side c.tell_item.new.line) c.args.self.now c.loop-item.self c.tell_item.new.self
      c.loop-item-test.true c.item-item.is c.loop-item.invariant.sends c.in_ok-tell_item.ensures.puts;
  reads = c.tell_item.ensures.keeps_reading ∙ c.loop-item.invariant.reads;
}

pub returns-clause-puts : goal.returns-clause-puts
returns-clause-puts g c =
    items_end c.tell_end.result c.args.is_told c.args.found.now c.loop-item.item-index (g.L.Source.write_side c.args.line.now)
    (g.L.Source.write_side c.loop-item.line) (g.L.Source.write_side c.tell_end.new.line) c.args.self.now c.loop-item.self c.tell_end.new.self
    (take_all c.loop-item.item-index c.args.found.now (omega (arith, c.loop-item-test.false))) c.loop-item.invariant.sends c.tell_end.ensures.puts
