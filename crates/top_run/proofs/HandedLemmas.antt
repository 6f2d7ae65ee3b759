-- What shards hand out, one after another.
use Rattle.std.proofs.Common.{false, suc, ◌≡◌, ◌<◌, List, [], ◌∷◌, ◌++◌, length, map, None, append_assoc, get_or, arith, sym, ap, ◌∙◌, subst}
use Rattle.std.specs.List.{remove}
use Rattle.key_shard.specs.declared.steps.Step.{Step}
use Rattle.key_shard.specs.Shards.{ShardView}
use Rattle.run_audit.specs.Findings.{AreWhole}

-- the first of those that are left hands out its steps
pub handed_next : (f : ShardView → List Step) (before all : List (List Step)) (shards rest : List ShardView) (shard : ShardView) (steps : List Step)
    → 0 < length shards → shard ≡ get_or shards 0 shard → rest ≡ remove shards 0 → steps ≡ f shard
    → before ++ map f shards ≡ all → (before ++ steps ∷ []) ++ map f rest ≡ all
handed_next f before all [] rest shard steps some first left is same = absurd (omega (arith, some))
handed_next f before all (one ∷ later) rest shard steps some first left is same =
    let steps_are : steps ≡ f one = is ∙ ap f first in
    let rest_are : map f rest ≡ map f later = ap (λ (l : List ShardView). map f l) left in
    let both : steps ∷ map f rest ≡ f one ∷ map f later = cc in
    append_assoc before (steps ∷ []) (map f rest) ∙ ap (λ (l : List (List Step)). before ++ l) both ∙ same

-- it is whole where all are
pub whole_first : (shards : List ShardView) (shard : ShardView) → 0 < length shards → shard ≡ get_or shards 0 shard → AreWhole shards → shard.terms.rolls ≡ false
whole_first shards shard some first whole = ap (λ (s : ShardView). s.terms.rolls) first ∙ whole 0 shard some

-- and so are the others
pub whole_rest : (shards rest : List ShardView) → rest ≡ remove shards 0 → 0 < length shards → AreWhole shards → AreWhole rest
whole_rest [] rest left some whole = absurd (omega (arith, some))
whole_rest (one ∷ later) rest left some whole =
    let others : AreWhole later = λ place default below. whole (suc place) default (omega (arith, below)) in
    subst AreWhole (sym left) others
