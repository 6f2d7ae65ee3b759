use Rattle.std.proofs.Common.{◌∙◌, [], map, sym, ap, subst}
use Rattle.std.specs.Prelude.{All}
use Rattle.std.specs.Str.{IsUtf8}
use Rattle.std.proofs.lemmas.List.{take_all}
use Rattle.run_words.proofs.WordLemmas.{more_texts, more_pass, one_fails}
use Rattle.run_words.proofs.reading.texts_of.Goals as goal

pub returns-in_default-clause-usage : goal.returns-in_default-clause-usage
returns-in_default-clause-usage c = λ e.
    one_fails IsUtf8 (λ word. word.items) c.args.words.now c.loop-word.word-index c.word-item.result c.loop-word-test.true c.word-item.is
    (λ h. c.in_default.ensures.cases.0 (subst IsUtf8 (sym c.deref.ensures.value) h))

pub loop-word-preserved : goal.loop-word-preserved
loop-word-preserved c = (
  ap (map (λ text. text.now)) c.in-Ok-push.ensures.items
      ∙ more_texts (λ text. text.now) (λ word. word.items) [] c.loop-word.texts.items c.args.words.now c.loop-word.word-index c.in-Ok.text c.word-item.result
      c.loop-word-test.true c.word-item.is (c.in-Ok.ensures.cases.0 ∙ c.deref.ensures.value) c.loop-word.invariant.0,
  more_pass IsUtf8 (λ word. word.items) c.args.words.now c.loop-word.word-index c.word-item.result c.loop-word-test.true c.word-item.is
      (subst IsUtf8 c.deref.ensures.value c.in-Ok.ensures.cases.1) c.loop-word.invariant.1,
)

pub returns-clause-utf8 : goal.returns-clause-utf8
returns-clause-utf8 c =
    subst (λ ws. All IsUtf8 (map (λ word. word.items) ws)) (take_all c.loop-word.word-index c.args.words.now c.loop-word-test.false) c.loop-word.invariant.1
