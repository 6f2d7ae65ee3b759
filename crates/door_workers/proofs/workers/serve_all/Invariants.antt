use Rattle.door_workers.specs.Attending.{seen_at}
use Rattle.door_workers.proofs.workers.serve_all.Given as goal

-- the door as it is handed in, and a part of the ledger for each desk
abbrev pub ghosts-attend-N-DoorName : goal.ghosts-attend-N-DoorName
ghosts-attend-N-DoorName g a = record {
  door = a.lent.door.ghost_name;
  first = seen_at g.D.Door.bound g.D.Door.lines g.D.Door.faults g.D.Door.ended g.D.Door.closed a.lent.door.now;
  closed = g.D.Door.closed a.lent.door.now;
  fresh = g.D.Door.fresh a.lent.door.now;
  most = a.so_far.now.most;
}

abbrev pub ghosts-attend-N-Ledger : goal.ghosts-attend-N-Ledger
ghosts-attend-N-Ledger g a = record { name = a.ledger.name; parts = a.ledger.parts }
