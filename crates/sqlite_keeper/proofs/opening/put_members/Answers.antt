use Rattle.std.proofs.Common.{◌∙◌, take, subst, arith}
use Rattle.sqlite.specs.Held.{state}
use Rattle.sqlite_tables.specs.Lists.{Lists, AreLists}
use Rattle.sqlite_keeper.specs.Openings.{members_alone}
use Rattle.sqlite_keeper.proofs.LeavesLemmas.{clean_before}
use Rattle.sqlite_keeper.proofs.OpeningLemmas.{below_next, members_more}
use Rattle.sqlite_keeper.proofs.opening.put_members.Goals as goal

pub loop-member-preserved : goal.loop-member-preserved
loop-member-preserved g c =
    let members = c.args.members.now in
    let at = c.loop-member.member-index in
    let m = c.member-item.result in
    record {
      same_reference = c.put_member.ensures.same_reference ∙ c.loop-member.invariant.same_reference;
      clean = omega (arith, c.loop-member.invariant.clean, c.put_member.ensures.leaves.clean);
      put = λ clean none.
          let early = clean_before g.S.Store c.loop-member.tx.conn.now c.put_member.new.tx.conn.now c.put_member.ensures.leaves clean in
          let are = c.loop-member.invariant.put early none in
          let below = below_next members at m c.loop-member-test.true c.member-item.is c.requires in
          let put = c.in_ok-put_member.ensures.put clean (members_alone (take at members)) are below in
          subst (λ (l : Lists). AreLists (state g.S.Store c.put_member.new.tx.conn.now).now l) (members_more members at m c.loop-member-test.true c.member-item.is) put;
    }
