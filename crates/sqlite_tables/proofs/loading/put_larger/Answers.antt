use Rattle.std.proofs.Common.{◌≡◌, ◌<ℤ◌, ℤ, List, [], ◌∷◌, ◌++◌, sym, subst, IsTrue, rules, to_z-of_z, w64}
use Rattle.std.specs.List.{AllPairs, All}
use Rattle.std.proofs.lemmas.List.Quantifiers.{all_pairs_push}
use Rattle.sqlite_tables.proofs.loading.put_larger.Goals as goal

pub returns-clause-larger : goal.returns-clause-larger
returns-clause-larger c up =
    let items = c.args.numbers.now.items in
    let number = to_z-of_z {w = w64} {z = c.args.number} c.ranges.number in
    let same : c.as_slice.result.now ≡ items = c.as_slice.ensures.value in
    let yes : IsTrue c.is_larger.result = search rules in
    let above : All (λ n. n <ℤ c.args.number) c.as_slice.result.now = rw number at (c.is_larger.ensures yes (subst (AllPairs (λ m n. m <ℤ n)) (sym same) up)) in
    let over : All (λ n. n <ℤ c.args.number) items = subst (λ (l : List ℤ). All (λ n. n <ℤ c.args.number) l) same above in
    let pushed : c.push_number.new.numbers.items ≡ items ++ c.args.number ∷ [] = rw number at c.in_ok-push_number.ensures in
    subst (AllPairs (λ m n. m <ℤ n)) (sym pushed) (all_pairs_push (λ m n. m <ℤ n) items c.args.number up over)
