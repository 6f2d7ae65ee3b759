use Rattle.std.proofs.Common.{◌≡◌, true, ℕ, length, List, All, take, ◌∙◌, ap, subst, arith}
use Rattle.std.proofs.Math.Seq.{take-length}
use Rattle.rows_model.specs.declared.rows.Member.{Member}
use Rattle.rows_model.specs.Name.{IsName}
use Rattle.rows_model.specs.Members.{is_next}
use Rattle.rows_model.proofs.MemberLemmas.{ascend_more, all_more}
use Rattle.rows_model.proofs.rows.are_members.Goals as goal

pub loop-member-preserved : goal.loop-member-preserved
loop-member-preserved c =
    let m = c.member-item.result in
    let next : is_next c.loop-member.last m ≡ true = grind arith in
    record {
      same = c.loop-member.invariant.same ∙ ascend_more c.args.members.now c.loop-member.member-index c.loop-member.last m c.loop-member-test.true c.member-item.is next;
      names = all_more (λ n. IsName n.name) c.args.members.now c.loop-member.member-index m c.loop-member-test.true c.member-item.is c.loop-member.invariant.names c.is_next.ensures.name;
    }

pub returns-clause-names : goal.returns-clause-names
returns-clause-names c _ =
    let end : c.loop-member.member-index ≡ length c.args.members.now = omega arith in
    let full : take c.loop-member.member-index c.args.members.now ≡ c.args.members.now =
    ap (λ (n : ℕ). take n c.args.members.now) end ∙ take-length c.args.members.now in
    subst (λ (ms : List Member). All (λ n. IsName n.name) ms) full c.loop-member.invariant.names
