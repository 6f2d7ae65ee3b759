use Rattle.std.proofs.Common.{◌≡◌, drop, map, ◌++◌}
use Rattle.std.specs.Prelude.{option_map}
use Rattle.rows_model.specs.Refresh.{ids_from}
use Rattle.rows_model.proofs.refreshing.ids_of.Given as goal

abbrev pub invariant-loop-word : goal.invariant-loop-word
invariant-loop-word l =
    option_map (λ more. l.ids.items ++ more) (ids_from l.least (map (λ word. word.now) (drop l.word-index l.words)))
    ≡ ids_from 0 (map (λ word. word.now) l.words)
