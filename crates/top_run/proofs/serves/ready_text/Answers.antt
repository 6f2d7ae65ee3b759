use Rattle.std.proofs.Common.{List, ℕ, ◌++◌, ap, sym, ◌∙◌}
use Rattle.std.specs.Prelude.{codes}
use Rattle.top_run.specs.Serves.{begun_line}
use Rattle.top_run.proofs.ServeLemmas.{ready_is}
use Rattle.top_run.proofs.serves.ready_text.Goals as goal

pub returns : goal.returns
returns c =
    c.in_ok-extend_from_slice.ensures.items ∙ ap (λ (bytes : List ℕ). bytes ++ codes "ready\n") c.in_ok-text.ensures
    ∙ ap (λ (bytes : List ℕ). begun_line c.args.begun ++ bytes) (sym ready_is)
