use Rattle.std.proofs.Common.{arith, map}
use Rattle.run_words.proofs.WordLemmas.{five_texts, none_served}
use Rattle.run_words.proofs.reading.cold_of.Goals as goal

pub returns-clause-none : goal.returns-clause-none
returns-clause-none c =
    none_served (map (λ value. value.now) c.args.values.now) _ _ _ _ _ c.spec_of.result
    (five_texts (λ value. value.now) _ c.args.values.now (omega (arith, c.in-len5.len_at_least)) (omega (arith, c.in-len5.len_below)))
    c.spec_of.ensures.none
