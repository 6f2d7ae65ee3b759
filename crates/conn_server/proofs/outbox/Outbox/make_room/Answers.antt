use Rattle.conn_server.proofs.OutboxLemmas.{flush_puts}
use Rattle.conn_server.proofs.outbox.Outbox.make_room.Goals as goal

pub returns-clause-puts : goal.returns-clause-puts
returns-clause-puts g c =
    flush_puts c.send.result (g.L.Source.write_side c.args.line.now) (g.L.Source.write_side c.send.new.line) c.args.self.now c.send.new.self
    c.send.ensures.flushes c.send.ensures.none
