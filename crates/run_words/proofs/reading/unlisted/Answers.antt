use Rattle.std.proofs.Common.{map, sym, subst}
use Rattle.std.specs.Prelude.{All}
use Rattle.std.specs.Str.{IsUtf8}
use Rattle.std.proofs.lemmas.List.{take_all}
use Rattle.run_words.proofs.WordLemmas.{more_pass, one_fails}
use Rattle.run_words.proofs.reading.unlisted.Goals as goal

pub returns-in_default-clause-usage : goal.returns-in_default-clause-usage
returns-in_default-clause-usage c = λ e.
    one_fails IsUtf8 (λ word. word.items) c.args.words.now c.loop-word.word-index c.word-item.result c.loop-word-test.true c.word-item.is
    (λ h. c.in_default.ensures.cases.0 (subst IsUtf8 (sym c.deref.ensures.value) h))

pub loop-word-preserved : goal.loop-word-preserved
loop-word-preserved c =
    more_pass IsUtf8 (λ word. word.items) c.args.words.now c.loop-word.word-index c.word-item.result c.loop-word-test.true c.word-item.is
    (subst IsUtf8 c.deref.ensures.value c.in-Ok.ensures.cases.1) c.loop-word.invariant

pub returns-clause-memory : goal.returns-clause-memory
returns-clause-memory c = λ e.
    subst (λ ws. All IsUtf8 (map (λ word. word.items) ws)) (take_all c.loop-word.word-index c.args.words.now c.loop-word-test.false) c.loop-word.invariant
