use Rattle.run_inputs.proofs.WordLemmas.{two_words}
use Rattle.run_inputs.proofs.cuts.only_number.Goals as goal

pub returns-in-Some-clause-none : goal.returns-in-Some-clause-none
returns-in-Some-clause-none c =
    rw (c.in_ok-args.was, c.cut.ensures.parts, c.in-Some.is) (two_words c.cut.result.0.now c.in-Some.field-0.now)
