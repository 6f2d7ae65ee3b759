use Rattle.mc_text.specs.Words.{words_in}
use Rattle.mc_text.proofs.PlainLineLemmas.{fields_alone, fields_then, fields_behind}
use Rattle.mc_text.proofs.plain_lines.all_fields.Goals as goal

pub returns-in_err-fields-clause-none : goal.returns-in_err-fields-clause-none
returns-in_err-fields-clause-none c =
    rw c.from_residual.ensures (λ fields noreply h. c.in_err-fields.ensures.none fields (fields_alone fields _ (words_in c.args.args.now) h))

pub returns-in_err-noreply-clause-none : goal.returns-in_err-noreply-clause-none
returns-in_err-noreply-clause-none c =
    rw c.from_residual-in_err-noreply.ensures
    (λ fields noreply h. c.in_err-noreply.ensures.none noreply (fields_behind (words_in c.args.args.now) _ _ fields _ c.in_ok-fields.ensures.found h))

pub returns-clause-found : goal.returns-clause-found
returns-clause-found c = fields_then (words_in c.args.args.now) _ _ _ c.in_ok-fields.ensures.found c.in_ok-noreply.ensures.found
