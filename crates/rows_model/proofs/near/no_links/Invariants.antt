use Rattle.std.proofs.Common.{◌≡◌, length, map, take, All}
use Rattle.rows_model.proofs.near.no_links.Given as goal

abbrev pub invariant-loop-member : goal.invariant-loop-member
invariant-loop-member l = record {
  ids : map (λ one. one.id) l.near.items ≡ map (λ member. member.id) (take l.member-index l.members);
  none : All (λ one. length one.links.items ≡ 0) l.near.items;
  free : All (λ one. length one.blocked.items ≡ 0) l.near.items;
}
