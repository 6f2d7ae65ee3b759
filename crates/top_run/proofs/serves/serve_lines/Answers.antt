use Rattle.std.proofs.Common.{ℕ, ◌≡◌, List, [], Option, Some, ap, length, subst, ◌∙◌}
use Rattle.std.specs.Prelude.{◌≢◌}
use Rattle.std.specs.Option.{option_map}
use Rattle.iq_outside.specs.Outside.{LineRecord}
use Rattle.run_words.specs.Words.{most_served}
use Rattle.door_workers.specs.Attending.{seen_at}
use Rattle.door_workers.specs.Ends.{AreServed}
use Rattle.top_run.proofs.ServeLemmas.{unattended, none_served}
use Rattle.top_run.proofs.serves.serve_lines.Goals as goal

pub returns-in-Err-clause-served : goal.returns-in-Err-clause-served
returns-in-Err-clause-served g c =
    let halted = c.in-Err.ensures.halted c.args.begun (c.as_slice-2.ensures.value ∙ c.in-Ok.ensures) in
    let bound = subst (λ (addr : List ℕ). halted.0 ≢ [] → g.D.Door.bound c.open_up.new.door ≡ Some addr) c.as_slice.ensures.value halted.1 in
    let tells = seen_at g.D.Door.bound g.D.Door.lines g.D.Door.faults g.D.Door.ended g.D.Door.closed in
    record {
      unsaved = c.in-Err.ensures.unsaved;
      unfailed = c.in-Err.ensures.unfailed;
      attended = rw c.requires.none
          (unattended c.args.server.now.spec.now c.args.begun c.in-Err.status (g.W.Sink.taken c.args.sink.now) (g.W.Sink.taken c.open_up.new.sink)
          (tells c.args.door.now) (tells c.open_up.new.door) halted.0 c.open_up.new.written
          c.open_up.ensures.no_line (ap (option_map length) c.open_up.ensures.keeps_closed) c.in-Err.ensures.unfinished bound halted.2 halted.3);
      writes = (c.in-Err.ensures.writes, c.open_up.ensures.sink_never_falls);
      doors = (c.in-Err.ensures.doors, c.open_up.ensures.door_never_falls);
    }

pub returns-in-Err-clause-lines : goal.returns-in-Err-clause-lines
returns-in-Err-clause-lines g c = λ fresh.
    none_served (most_served c.args.server.now.spec.now.conns) c.args.ends.items (g.D.Door.closed c.args.door.now) (g.D.Door.closed c.open_up.new.door)
    c.requires.none c.open_up.ensures.keeps_closed

pub returns-clause-lines : goal.returns-clause-lines
returns-clause-lines g c = λ fresh.
    subst (λ (before : Option (List LineRecord)).
    AreServed (most_served c.args.server.now.spec.now.conns) c.serve_all-served.result.ends.items before (g.D.Door.closed c.serve_all-served.new.door))
    c.open_up.ensures.keeps_closed
    (subst (λ most. AreServed most c.serve_all-served.result.ends.items (g.D.Door.closed c.open_up.new.door) (g.D.Door.closed c.serve_all-served.new.door))
    c.most.ensures (c.serve_all-served.ensures.handed_back (c.open_up.ensures.stays_fresh fresh)))
