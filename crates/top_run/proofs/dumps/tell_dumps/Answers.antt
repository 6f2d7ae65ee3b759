use Rattle.std.proofs.Common.{List, ℕ, [], subst, sym, ◌++◌, ◌∙◌, refl, inr}
use Rattle.std.proofs.lemmas.List.{append-nil}
use Rattle.top_run.specs.Runs.{Prints}
use Rattle.top_run.proofs.dumps.tell_dumps.Goals as goal

pub returns-in-Ok-print-clause-all : goal.returns-in-Ok-print-clause-all
returns-in-Ok-print-clause-all g c = λ taken printed before.
    subst (λ (bytes : List ℕ). Prints taken (g.W.Sink.taken c.print.new.sink) (printed ++ bytes) c.print.new.written)
    (c.as_slice.ensures.value ∙ c.in-Ok.ensures) (c.in-Ok-print.ensures.all taken printed before)

pub returns-in_default-clause-some : goal.returns-in_default-clause-some
returns-in_default-clause-some g c = λ taken printed before. (
  [],
  inr refl,
  subst (λ (bytes : List ℕ). Prints taken (g.W.Sink.taken c.args.sink.now) bytes c.args.written.now) (sym (append-nil printed)) before,
)

pub returns-clause-some : goal.returns-clause-some
returns-clause-some g c = λ taken printed before.
    let cut = c.in-Err.ensures.some taken printed before in
    (cut.0, (cut.1, cut.2 ∙ c.as_slice.ensures.value ∙ c.in-Ok.ensures), cut.3)
