use Rattle.std.proofs.Common.{◌≡◌, ◌<◌, [], ◌∷◌, ◌++◌, length, get_or, sym, ap, ◌∙◌}
use Rattle.std.proofs.lemmas.List.{take_more, get_or-map, length-map}
use Rattle.sqlite_tables.specs.declared.pairs.Pair.{Pair}
use Rattle.sqlite_tables.specs.Lists.{pair_values}
use Rattle.sqlite_tables.proofs.pairs.pairs_in.Goals as goal

pub loop-row-preserved : goal.loop-row-preserved
loop-row-preserved c pairs is =
    let at = c.loop-row.row-index in
    let pair : Pair = get_or pairs at c.in_ok-pair_in.field-0 in
    let within : at < length pairs = rw (is, length-map) at c.loop-row-test.true in
    let row : c.row-item.result ≡ pair_values pair = c.row-item.is ∙ ap (λ rows. get_or rows at c.row-item.result) is ∙ get_or-map pair_values pairs at _ _ within in
    let found : c.in_ok-pair_in.field-0 ≡ pair = c.in_ok-pair_in.ensures pair row in
    c.in_ok-push.ensures ∙ ap (λ p. c.loop-row.pairs.items ++ p ∷ []) found ∙ ap (λ l. l ++ pair ∷ []) (c.loop-row.invariant pairs is) ∙ sym (take_more pairs at c.in_ok-pair_in.field-0 within)
