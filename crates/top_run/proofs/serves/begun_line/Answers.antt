use Rattle.std.proofs.Common.{List, ℕ, [], ◌∷◌, ◌++◌, decimal, ap, sym, ◌∙◌}
use Rattle.std.specs.Prelude.{codes}
use Rattle.top_run.specs.Serves.{begun_line}
use Rattle.top_run.proofs.ServeLemmas.{new_is, cold_is, warm_is}
use Rattle.top_run.proofs.serves.begun_line.Goals as goal

pub returns-in-New : goal.returns-in-New
returns-in-New c = c.new-text.ensures.items ∙ sym (ap begun_line c.in-New.is ∙ new_is)

pub returns-in_ok-push-in-Cold : goal.returns-in_ok-push-in-Cold
returns-in_ok-push-in-Cold c =
    c.in_ok-push-in-Cold.ensures.items
    ∙ ap (λ (bytes : List ℕ). bytes ++ 10 ∷ [])
    (c.in_ok-extend_from_slice-in-Cold-2.ensures.items
    ∙ ap (λ (bytes : List ℕ). bytes ++ c.cold_words.result.now)
    (c.in_ok-extend_from_slice-in-Cold.ensures.items ∙ ap (λ (bytes : List ℕ). bytes ++ codes "cold ") c.new-text.ensures.items)
    ∙ ap (λ (bytes : List ℕ). codes "cold " ++ bytes) c.cold_words.ensures)
    ∙ sym (ap begun_line c.in-Cold.is ∙ cold_is c.in-Cold.cause)

pub returns-in_ok-push-in-Warm : goal.returns-in_ok-push-in-Warm
returns-in_ok-push-in-Warm c =
    c.in_ok-push-in-Warm.ensures.items
    ∙ ap (λ (bytes : List ℕ). bytes ++ 10 ∷ [])
    (c.in_ok-push_field-in-Warm.ensures ∙ ap (λ (bytes : List ℕ). bytes ++ (codes "warm " ++ decimal c.in-Warm.rows)) c.new-text.ensures.items)
    ∙ sym (ap begun_line c.in-Warm.is ∙ warm_is c.in-Warm.rows)
