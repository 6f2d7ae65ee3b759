use Rattle.std.proofs.Common.{ap, arith, sym, subst}
use Rattle.sql_keeper.specs.Stores.{StoreView}
use Rattle.shard_lock.specs.Names.{AreLegal}
use Rattle.run_words.specs.Words.{most_served}
use Rattle.door_workers.specs.Attending.{seen_at}
use Rattle.top_run.specs.Warming.{AreRight}
use Rattle.top_run.proofs.WarmLemmas.{left_right, new_right}
use Rattle.top_run.proofs.BeginLemmas.{least_of}
use Rattle.top_run.proofs.ServeLemmas.{unserved_short, unserved_lines}
use Rattle.top_run.proofs.serves.serve_over_hub.Goals as goal

pub returns-in-Err-clause-served : goal.returns-in-Err-clause-served
returns-in-Err-clause-served g c =
    let tells = seen_at g.D.Door.bound g.D.Door.lines g.D.Door.faults g.D.Door.ended g.D.Door.closed in
    unserved_short g.W.Sink c.args.server.now.spec.now c.args.begun c.args.sink.now (tells c.args.door.now) c.args.ends c.unserved.result c.unserved.ensures c.requires.none

pub returns-in-Err-clause-lines : goal.returns-in-Err-clause-lines
returns-in-Err-clause-lines g c = λ fresh.
    unserved_lines (most_served c.args.server.now.spec.now.conns) (g.D.Door.closed c.args.door.now) c.args.ends c.unserved.result c.unserved.ensures c.requires.none

pub returns-in-Ok-clause-right : goal.returns-in-Ok-clause-right
returns-in-Ok-clause-right g c = λ some.
    let left = c.into_parts-store.ensures.kept in
    left_right g.H.HubName.opening g.H.BoundName.before c.into_parts-store.result.0 left.0 c.into_parts-store.result.1.items left.2 some
    (c.into_parts-store.ensures.true_log some)

pub returns-in-Err-clause-right : goal.returns-in-Err-clause-right
returns-in-Err-clause-right g c = λ some.
    subst (AreRight g.H.HubName.opening c.in-Err.store.ledger.log) (sym c.in-Err.ensures.1)
    (new_right g.H.HubName.opening g.H.BoundName.before c.in-Err.store c.args.store c.args.parts.shards.items _ _ c.in-Err.ensures.0 c.requires.new c.requires.parts.new some)

pub returns-in-Err-clause-legal : goal.returns-in-Err-clause-legal
returns-in-Err-clause-legal g c = subst AreLegal (sym c.in-Err.ensures.1) c.requires.legal

pub returns-in-Ok-clause-never_fewer : goal.returns-in-Ok-clause-never_fewer
returns-in-Ok-clause-never_fewer g c =
    let left = c.into_parts-store.ensures.kept in
    least_of g.H.BoundName.failed left.0.failures c.into_parts-store.result.0.ledger.failed left.1.failures c.requires.new.few

pub returns-in-Err-clause-never_fewer : goal.returns-in-Err-clause-never_fewer
returns-in-Err-clause-never_fewer g c =
    let same = ap (λ (s : StoreView). s.ledger.failed) c.in-Err.ensures.0 in
    let named = c.requires.new.failed_is in
    omega (arith, same, named)
