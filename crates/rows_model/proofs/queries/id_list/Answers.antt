use Rattle.std.proofs.Common.{ℕ, ◌≡◌, ◌≤◌, [], ◌∷◌, ◌++◌, length, get_or, Vec, Global, take, arith, rules, ap, sym, ◌∙◌}
use Rattle.std.proofs.lemmas.Bool.Decides.{nat_tests}
use Rattle.std.proofs.lemmas.List.{take_all}
use Rattle.rows_model.specs.Query.{id_list}
use Rattle.rows_model.proofs.ListTextLemmas.{listed_first, listed_next}
use Rattle.rows_model.proofs.queries.id_list.Goals as goal
use Rattle.rows_model.proofs.queries.id_list.Goals.{then-not-is_empty+in_ok-push, else-not-is_empty}

pub loop-id-preserved : goal.loop-id-preserved
loop-id-preserved c = elim c.if-not-is_empty.branch [
  | then-not-is_empty+in_ok-push w ↦
      let some : 1 ≤ length c.loop-id.text.items = grind (arith, nat_tests) in
      let pushed : c.if-not-is_empty.text.items ≡ c.loop-id.text.items ++ 44 ∷ [] = ap (λ (v : Vec ℕ Global). v.items) w.text-is ∙ w.in_ok-push.ensures.items in
      let next = listed_next c.args.ids.now c.loop-id.id-index c.loop-id.text.items (omega arith) c.loop-id.invariant some in
      let id : c.from.result ≡ get_or c.args.ids.now c.loop-id.id-index 0 = search rules in
      rw (c.in_ok-push_decimal.ensures, pushed, id) next
  | else-not-is_empty w ↦
      let none : length c.loop-id.text.items ≡ 0 = grind (arith, nat_tests) in
      let same : c.if-not-is_empty.text.items ≡ c.loop-id.text.items = ap (λ (v : Vec ℕ Global). v.items) w.text-is in
      let first = listed_first c.args.ids.now c.loop-id.id-index c.loop-id.text.items (omega arith) c.loop-id.invariant none in
      let id : c.from.result ≡ get_or c.args.ids.now c.loop-id.id-index 0 = search rules in
      rw (c.in_ok-push_decimal.ensures, same, id) first
]

pub returns : goal.returns
returns c =
    let all : take c.loop-id.id-index c.args.ids.now ≡ c.args.ids.now = take_all c.loop-id.id-index c.args.ids.now (omega arith) in
    rw (sym (c.loop-id.invariant ∙ ap id_list all)) c.shared.ensures
