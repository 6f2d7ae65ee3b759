use Rattle.std.proofs.Common.{◌≡◌, ◌++◌, ℕ, List, false, subst}
use Rattle.conn_server.specs.Outbox.{Puts}
use Rattle.conn_server.proofs.OutboxLemmas.{values_text, uniques_text}
use Rattle.conn_server.proofs.outbox.Outbox.tell.Goals as goal

pub returns-in-Values-clause-puts : goal.returns-in-Values-clause-puts
returns-in-Values-clause-puts g c =
    let w = c.in-Plain-default-false in
    let silent : w.noreply ≡ false = cc in
    subst (λ (text : List ℕ). Puts c.tell_items.result (g.L.Source.write_side c.args.line.now) (g.L.Source.write_side c.tell_items.new.line)
    (c.args.self.now ++ text) c.tell_items.new.self)
    (values_text c.args.response.now w.reply c.in-Values.found c.items.result.now w.noreply w.is c.in-Values.is silent c.items.ensures)
    c.tell_items.ensures.puts

pub returns-in-Uniques-clause-puts : goal.returns-in-Uniques-clause-puts
returns-in-Uniques-clause-puts g c =
    let w = c.in-Plain-default-false in
    let items = c.items-in-Uniques in
    let t = c.tell_items-in-Uniques in
    let silent : w.noreply ≡ false = cc in
    subst (λ (text : List ℕ). Puts t.result (g.L.Source.write_side c.args.line.now) (g.L.Source.write_side t.new.line)
    (c.args.self.now ++ text) t.new.self)
    (uniques_text c.args.response.now w.reply c.in-Uniques.found items.result.now w.noreply w.is c.in-Uniques.is silent items.ensures) t.ensures.puts
