use Rattle.std.proofs.Common.{◌≡◌, ◌∷◌, map, take}
use Rattle.std.specs.Prelude.{codes}
use Rattle.run_words.proofs.reading.work_of.Given as goal

abbrev pub invariant-loop-value : goal.invariant-loop-value
invariant-loop-value l =
    map (λ word. word.items) l.words.items ≡ codes "work" ∷ map (λ value. value.now) (take l.value-index l.values)
