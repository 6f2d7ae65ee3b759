use Rattle.std.proofs.Common.{◌≡◌, ◌+◌, ◌≤◌, length}
use Rattle.conn_server.specs.Closing.{release_way}
use Rattle.conn_server.proofs.ClosingLemmas.{Releasing}
use Rattle.conn_server.proofs.closing.release_all.Given as goal

abbrev pub invariant-loop : goal.invariant-loop
invariant-loop g l = record {
  releasing : Releasing l.who (release_way l.committed) l.fn.grants.items l.grants.items (g.D.Desk.record_of l.fn.desk) (g.D.Desk.record_of l.desk) l.count;
  left : length l.grants.items + l.counter ≡ length l.fn.grants.items;
  few : l.count ≤ l.counter;
  untended : g.D.Desk.tends l.desk ≡ g.D.Desk.tends l.fn.desk;
  room : l.grants.room ≡ l.fn.grants.room;
}
