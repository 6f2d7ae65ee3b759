-- Members that are found, of whom rows are made.
use Rattle.std.specs.Prelude.{ℕ, ◌<◌, ◌≤◌, Bool, true, ◌&&◌, nat_lt, List, [], ◌∷◌, All, AllPairs}
use Rattle.rows_model.specs.declared.rows.Member.{Member}
use Rattle.rows_model.specs.Rows.{Tables}

-- the ids of members ascend, and each is from 1 to 100,000
pub record AreMembers (members : List Member) : Type 0 where
  pub ids : All (λ member. (1 ≤ member.id) × (member.id ≤ 100000)) members
  pub ascend : AllPairs (λ member later. member.id < later.id) members

-- these members, no links and no blocks
abbrev pub members_only : List Member → Tables
members_only members = record { members = members; links = []; blocks = [] }

-- whether a member's id is above this one, and at most 100,000
abbrev pub is_next : ℕ → Member → Bool
is_next last member = nat_lt last member.id && nat_lt member.id 100001

-- whether the ids of members ascend from above this one, and each is at most 100,000
abbrev pub ascend_from : ℕ → List Member → Bool
ascend_from last [] = true
ascend_from last (member ∷ members) = is_next last member && ascend_from member.id members
