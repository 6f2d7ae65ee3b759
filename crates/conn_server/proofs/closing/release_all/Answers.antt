use Rattle.std.proofs.Common.{List, refl, subst, ◌∙◌, arith}
use Rattle.key_shard.specs.Permit.{Permit}
use Rattle.conn_server.specs.Closing.{release_way}
use Rattle.conn_server.proofs.ClosingLemmas.{Releasing, none_left, one_less, releasing_all, releasing_next, releasing_none}
use Rattle.conn_server.proofs.closing.release_all.Goals as goal

pub loop-init : goal.loop-init
loop-init g c = record {
  releasing = releasing_none c.args.who (release_way c.args.committed) c.args.grants.now.items (g.D.Desk.record_of c.args.desk.now);
  left = omega arith;
  few = omega arith;
  untended = refl;
  room = refl;
}

pub loop-preserved : goal.loop-preserved
loop-preserved g c =
    let less = one_less c.loop.grants.items c.take.new.self.items c.take.result c.take.ensures.grant c.take.ensures.items in
    let before = c.loop.invariant in
    record {
      releasing = releasing_next c.args.committed c.args.who c.args.grants.now.items c.loop.grants.items c.take.new.self.items c.take.result
          (g.D.Desk.record_of c.args.desk.now) (g.D.Desk.record_of c.loop.desk) (g.D.Desk.record_of c.call.new.self) c.loop.count
          c.ended_by-count.result c.release_of-wanted.result c.call.result before.releasing c.take.ensures.grant c.take.ensures.items
          c.release_of-wanted.ensures.way c.call.ensures.belongs c.call.ensures.recorded c.ended_by-count.ensures.told;
      left = omega (arith, less, before.left);
      few = omega (arith, before.few, c.ended_by-count.ensures.most);
      untended = c.call.ensures.tends ∙ before.untended;
      room = c.take.ensures.room ∙ before.room;
    }

pub returns-clause-releases : goal.returns-clause-releases
returns-clause-releases g c =
    let way = release_way c.args.committed in
    let none = none_left c.loop.grants.items (omega (arith, c.len-end.ensures, c.loop.invariant.left, c.loop-test.false)) in
    let before = g.D.Desk.record_of c.args.desk.now in
    let now = g.D.Desk.record_of c.loop.desk in
    releasing_all c.args.who way c.args.grants.now.items before now c.loop.count
    (subst (λ (l : List Permit). Releasing c.args.who way c.args.grants.now.items l before now c.loop.count) none c.loop.invariant.releasing)

pub returns-clause-none : goal.returns-clause-none
returns-clause-none g c = none_left c.loop.grants.items (omega (arith, c.len-end.ensures, c.loop.invariant.left, c.loop-test.false))
