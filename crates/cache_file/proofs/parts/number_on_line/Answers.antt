use Rattle.std.proofs.Common.{sym, ap, ◌∙◌, ◌++◌, ◌∷◌, List, ℕ, arith}
use Rattle.rows_model.proofs.ShiftLemmas.{number_in-written}
use Rattle.shard_dump.proofs.TextLemmas.{if_none}
use Rattle.shard_dump.proofs.ReadLemmas.{no_number, no_cut}
use Rattle.cache_file.proofs.parts.number_on_line.Goals as goal

pub returns-in_err-word-clause-none : goal.returns-in_err-word-clause-none
returns-in_err-word-clause-none c = if_none _ _ (no_cut 10 c.args.text.now c.in_err-word.ensures.none)

pub returns-in_err-number-clause-none : goal.returns-in_err-number-clause-none
returns-in_err-number-clause-none c =
    if_none _ _
    (no_number 10 c.args.text.now c.in_ok-word.word.now c.in_ok-word.rest.now (omega arith) c.in_ok-word.ensures.found c.in_ok-word.ensures.first
    (sym c.in_err-number.ensures))

pub returns-clause-found : goal.returns-clause-found
returns-clause-found c =
    c.in_ok-word.ensures.found
    ∙ ap (λ (w : List ℕ). w ++ 10 ∷ c.in_ok-word.rest.now) (number_in-written c.in_ok-word.word.now c.in_ok-number.number (sym c.in_ok-number.ensures)).0
