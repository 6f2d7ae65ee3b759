use Rattle.std.proofs.Common.{◌≡◌, ◌≢◌, ◌==◌, ◌<◌, ◌+◌, ◌∙◌, List, AllPairs, length, vec_len, sym, ap, subst, arith}
use Rattle.std.proofs.lemmas.Bool.{eq-eqb, false≢true}
use Rattle.std.proofs.lemmas.Result.{IfOk-weaker}
use Rattle.sqlite.specs.Effect.{Database}
use Rattle.sqlite.specs.State.{HasCleanDisk}
use Rattle.sqlite.specs.Held.{state}
use Rattle.sqlite_tables.specs.declared.pairs.Pair.{Pair}
use Rattle.sqlite_tables.specs.Lists.{Lists, HoldLists, HasTables, IsPairBefore, tables_of}
use Rattle.sqlite_keeper.specs.Openings.{begun}
use Rattle.sqlite_keeper.proofs.OpeningLemmas.{holds_rows, held_are_one, begun_bare, begun_lists}
use Rattle.sqlite_keeper.proofs.opening.loaded.Goals.{else-is_empty-via-then-is_empty+else-is_empty-2, else-is_empty-via-else-is_empty}
use Rattle.sqlite_keeper.proofs.opening.loaded.Goals as goal

pub returns-clause-held : goal.returns-clause-held
returns-clause-held g c clean tables =
    let early : HasCleanDisk (state g.S.Store c.found_lists.new.tx.conn.now) = omega (arith, c.add_index.ensures.clean, clean) in
    let same = c.in_ok-found.ensures.same early tables in
    let found = c.in_ok-found.ensures.found early tables in
    let lists : Lists = record { members = c.in_ok-found.found.members.items; pairs = c.in_ok-found.found.pairs.items } in
    let here = subst (λ (db : Database). HasTables db.schema) (sym same) tables in
    let holds = subst (λ (db : Database). HoldLists db.trees lists) (sym same) found in
    let are = c.in_ok-add_index.ensures.added clean here lists holds in
    let held_so = subst
    (λ (ps : List Pair). AllPairs IsPairBefore ps → c.in_ok-rows.rows ≡ tables_of (record { members = c.in_ok-found.found.members.items; pairs = ps }))
    c.as_slice.ensures.value c.in_ok-rows.ensures in
    holds_rows (state g.S.Store c.add_index.new.tx.conn.now).now lists c.in_ok-rows.rows are (held_so found.pairs_ascend)

pub returns-clause-begun : goal.returns-clause-begun
returns-clause-begun g c clean tables lists holds =
    let early : HasCleanDisk (state g.S.Store c.found_lists.new.tx.conn.now) = omega (arith, c.add_index.ensures.clean, clean) in
    let found = c.in_ok-found.ensures.found early tables in
    let here : Lists = record { members = c.in_ok-found.found.members.items; pairs = c.in_ok-found.found.pairs.items } in
    let one = held_are_one (state g.S.Store c.args.tx.now.conn.now).now.trees here lists found holds in
    let held_so = subst
    (λ (ps : List Pair). AllPairs IsPairBefore ps → c.in_ok-rows.rows ≡ tables_of (record { members = c.in_ok-found.found.members.items; pairs = ps }))
    c.as_slice.ensures.value c.in_ok-rows.ensures in
    let many : length c.in_ok-found.found.members.items ≡ vec_len c.in_ok-found.found.members = grind arith in
    let paired : length c.in_ok-found.found.pairs.items ≡ vec_len c.in_ok-found.found.pairs = grind arith in
    let some : 0 < length c.in_ok-found.found.members.items + length c.in_ok-found.found.pairs.items = elim c.else-is_empty.branch [
      | else-is_empty-via-then-is_empty+else-is_empty-2 w ↦
          let is : w.is_empty-then-is_empty.result ≡ (vec_len c.in_ok-found.found.pairs == 0) = w.is_empty-then-is_empty.ensures in
          let apart : vec_len c.in_ok-found.found.pairs ≢ 0 = λ e. false≢true (sym w.if-is_empty-2.false ∙ (is ∙ eq-eqb (vec_len c.in_ok-found.found.pairs) 0 e)) in
          omega (arith, apart, paired)
      | else-is_empty-via-else-is_empty w ↦
          let is : c.is_empty.result ≡ (vec_len c.in_ok-found.found.members == 0) = c.is_empty.ensures in
          let apart : vec_len c.in_ok-found.found.members ≢ 0 = λ e. false≢true (sym w.if-is_empty.false ∙ (is ∙ eq-eqb (vec_len c.in_ok-found.found.members) 0 e)) in
          omega (arith, apart, many)
    ] in
    subst (λ (l : Lists). c.in_ok-rows.rows ≡ begun c.args.members l) one
    (held_so found.pairs_ascend ∙ sym (begun_lists c.args.members here.members here.pairs some))

pub returns-then-is_empty-2-clause-begun : goal.returns-then-is_empty-2-clause-begun
returns-then-is_empty-2-clause-begun g c = λ clean tables lists holds.
    let early : HasCleanDisk (state g.S.Store c.found_lists.new.tx.conn.now) = omega (arith, c.fill.ensures.clean, clean) in
    let found = c.in_ok-found.ensures.found early tables in
    let here : Lists = record { members = c.in_ok-found.found.members.items; pairs = c.in_ok-found.found.pairs.items } in
    let one = held_are_one (state g.S.Store c.args.tx.now.conn.now).now.trees here lists found holds in
    let none : length c.in_ok-found.found.members.items ≡ 0 = grind (arith, c.if-is_empty.true) in
    let bare : length c.in_ok-found.found.pairs.items ≡ 0 = grind (arith, c.if-is_empty-2.true) in
    let is = begun_bare c.args.members c.in_ok-found.found.members.items c.in_ok-found.found.pairs.items none bare in
    IfOk-weaker c.fill.result _ _ (λ rows same. same ∙ (sym is ∙ ap (begun c.args.members) one)) c.fill.ensures.begun
