use Rattle.std.proofs.Common.{◌≡◌, List, sym, subst, IsTrue, rules}
use Rattle.std.specs.List.{AllPairs, All}
use Rattle.std.proofs.lemmas.List.Quantifiers.{all_pairs_push}
use Rattle.sqlite_tables.specs.declared.pairs.Pair.{Pair}
use Rattle.sqlite_tables.specs.Lists.{IsPairBefore}
use Rattle.sqlite_tables.proofs.loading.put_behind.Goals as goal

pub returns-clause-behind : goal.returns-clause-behind
returns-clause-behind c up =
    let items = c.args.pairs.now.items in
    let same : c.as_slice.result.now ≡ items = c.as_slice.ensures.value in
    let yes : IsTrue c.is_behind.result = search rules in
    let above : All (λ (one : Pair). IsPairBefore one c.args.pair) items =
    subst (λ (l : List Pair). All (λ (one : Pair). IsPairBefore one c.args.pair) l) same (c.is_behind.ensures yes (subst (AllPairs IsPairBefore) (sym same) up)) in
    subst (AllPairs IsPairBefore) (sym c.in_ok-push.ensures) (all_pairs_push IsPairBefore items c.args.pair up above)
