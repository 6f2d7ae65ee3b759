use Rattle.std.proofs.Common.{◌≡◌, ◌≤◌, length, map, arith, sym, ap, ◌∙◌}
use Rattle.std.proofs.lemmas.Bool.Decides.{nat_tests}
use Rattle.rows_model.specs.Refresh.{words_of}
use Rattle.rows_model.proofs.RefreshLemmas.{ids_in_none, ids_in_some}
use Rattle.rows_model.proofs.refreshing.ids_in.Goals as goal

pub returns-then-is_empty : goal.returns-then-is_empty
returns-then-is_empty c =
    let none : length c.args.text.now ≡ 0 = grind (arith, nat_tests) in rw c.new.ensures.items (ids_in_none c.args.text.now none)

pub returns : goal.returns
returns c =
    let some : 1 ≤ length c.args.text.now = grind (arith, nat_tests) in
    let words : map (λ word. word.now) c.as_slice.result.now ≡ words_of 44 c.args.text.now =
    ap (map (λ word. word.now)) c.as_slice.ensures.value ∙ c.in_ok-words.ensures in
    rw (ids_in_some c.args.text.now some, sym words) c.ids_of.ensures
