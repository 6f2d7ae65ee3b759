use Rattle.std.proofs.Common.{◌≡◌, ◌∙◌, List, ℕ, map, sym, ap, subst, Err}
use Rattle.std.specs.Prelude.{IfOk}
use Rattle.std.proofs.lemmas.Result.{err_from_is_err_and}
use Rattle.run_words.specs.Reading.{AreSaid, IsSaid}
use Rattle.run_words.proofs.AcceptLemmas.{accepted, read, unread}
use Rattle.run_words.proofs.reading.read_words.Goals as goal

pub returns-in_err-texts-clause-accepts : goal.returns-in_err-texts-clause-accepts
returns-in_err-texts-clause-accepts c = λ command h.
    let p = err_from_is_err_and c.from_residual.result c.from_residual.ensures.1 in
    rw (p.1, p.2) (unread _ c.in_err-texts.field-0.0 (λ e. c.in_err-texts.ensures.usage (ap Err e)) command h)

pub returns-clause-read : goal.returns-clause-read
returns-clause-read c =
    let same : map (λ text. text.now) c.as_slice.result.now ≡ map (λ word. word.items) c.args.words.now =
    ap (map (λ text. text.now)) c.as_slice.ensures.value ∙ c.in_ok-texts.ensures.texts in
    read _ c.read_texts.result c.in_ok-texts.ensures.utf8 (subst (λ (ws : List (List ℕ)). IfOk c.read_texts.result (IsSaid ws)) same c.read_texts.ensures.said)

pub returns-clause-usage : goal.returns-clause-usage
returns-clause-usage c = λ e command h.
    let same : map (λ text. text.now) c.as_slice.result.now ≡ map (λ word. word.items) c.args.words.now =
    ap (map (λ text. text.now)) c.as_slice.ensures.value ∙ c.in_ok-texts.ensures.texts in
    c.read_texts.ensures.usage e command (subst (λ (ws : List (List ℕ)). AreSaid ws command) (sym same) h.1)

pub returns-clause-accepts : goal.returns-clause-accepts
returns-clause-accepts c =
    let same : map (λ text. text.now) c.as_slice.result.now ≡ map (λ word. word.items) c.args.words.now =
    ap (map (λ text. text.now)) c.as_slice.ensures.value ∙ c.in_ok-texts.ensures.texts in
    accepted _ c.read_texts.result (subst (λ (ws : List (List ℕ)). IfOk c.read_texts.result (IsSaid ws)) same c.read_texts.ensures.said)
    (λ e command h. c.read_texts.ensures.usage e command (subst (λ (ws : List (List ℕ)). AreSaid ws command) (sym same) h))
