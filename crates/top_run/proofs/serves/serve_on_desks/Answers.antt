use Rattle.run_words.specs.Words.{most_served}
use Rattle.door_workers.specs.Attending.{seen_at}
use Rattle.top_run.proofs.ServeLemmas.{unserved_short, unserved_lines}
use Rattle.top_run.proofs.serves.serve_on_desks.Goals as goal

pub returns-clause-served : goal.returns-clause-served
returns-clause-served g c =
    let tells = seen_at g.D.Door.bound g.D.Door.lines g.D.Door.faults g.D.Door.ended g.D.Door.closed in
    unserved_short g.W.Sink c.args.server.now.spec.now c.args.begun c.args.sink.now (tells c.args.door.now) c.args.ends c.unserved.result c.unserved.ensures c.requires.none

pub returns-clause-lines : goal.returns-clause-lines
returns-clause-lines g c = λ fresh.
    unserved_lines (most_served c.args.server.now.spec.now.conns) (g.D.Door.closed c.args.door.now) c.args.ends c.unserved.result c.unserved.ensures c.requires.none
