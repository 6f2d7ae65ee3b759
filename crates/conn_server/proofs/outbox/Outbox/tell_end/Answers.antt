use Rattle.std.proofs.Common.{◌<◌, ℕ, List, length, sym, subst}
use Rattle.conn_server.proofs.OutboxLemmas.{waits_end, waits_same}
use Rattle.conn_server.proofs.outbox.Outbox.tell_end.Goals as goal
use Rattle.conn_server.proofs.outbox.Outbox.tell_end.Goals.{in-Ok, in-Err}

pub invariant_of-self : goal.invariant_of-self
invariant_of-self g c =
    let short = subst (λ (xs : List ℕ). length xs < 65536) (sym c.self.view_is) c.in_ok-make_room.ensures.room in
    elim c.match-write_end.branch [
      | in-Ok w ↦ waits_end c.self.inside.bytes.items c.write_end.new.out.items short w.in-Ok.ensures.ok
      | in-Err w ↦ waits_same c.self.inside.bytes.items c.write_end.new.out.items short w.in-Err.ensures.err
    ]
