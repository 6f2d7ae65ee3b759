use Rattle.std.proofs.Common.{◌≡◌, ◌++◌, take}
use Rattle.std.specs.List.{flat_map}
use Rattle.mc_text.specs.PlainReplies.{item_text}
use Rattle.conn_server.specs.Outbox.{Sends}
use Rattle.conn_server.proofs.outbox.Outbox.tell_items.Given as goal

abbrev pub invariant-loop-item : goal.invariant-loop-item
invariant-loop-item g l = record {
  sends : Sends (g.L.Source.write_side l.initial.line) (g.L.Source.write_side l.line)
      (l.initial.self ++ flat_map (item_text l.is_told) (take l.item-index l.found)) l.self;
  reads : g.L.Sink.read_side l.line ≡ g.L.Sink.read_side l.initial.line;
}
