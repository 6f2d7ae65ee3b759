use Rattle.std.proofs.Common.{◌≡◌, take, drop, All}
use Rattle.rows_model.specs.Name.{IsName}
use Rattle.rows_model.specs.Members.{ascend_from}
use Rattle.rows_model.proofs.rows.are_members.Given as goal

abbrev pub invariant-loop-member : goal.invariant-loop-member
invariant-loop-member l = record {
  same : ascend_from 0 l.members ≡ ascend_from l.last (drop l.member-index l.members);
  names : All (λ member. IsName member.name) (take l.member-index l.members);
}
