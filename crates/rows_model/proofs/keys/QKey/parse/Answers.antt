use Rattle.std.proofs.Common.{sym}
use Rattle.rows_model.proofs.KeyLemmas.{none_without_colon, none_without_word, none_without_id, key_joined}
use Rattle.rows_model.proofs.keys.QKey.parse.Goals as goal

pub returns-in_err-colon-clause-none : goal.returns-in_err-colon-clause-none
returns-in_err-colon-clause-none c =
    rw c.from_residual.ensures (none_without_colon c.args.text.now (sym c.in_err-colon.ensures))

pub returns-in_err-kind-clause-none : goal.returns-in_err-kind-clause-none
returns-in_err-kind-clause-none c =
    rw c.from_residual-in_err-kind.ensures (none_without_word c.args.text.now c.in_ok-colon.colon (sym c.in_ok-colon.ensures) c.in_err-kind.ensures.none)

pub returns-in_err-id-clause-none : goal.returns-in_err-id-clause-none
returns-in_err-id-clause-none c =
    rw c.from_residual-in_err-id.ensures (none_without_id c.args.text.now c.in_ok-colon.colon (sym c.in_ok-colon.ensures) c.in_err-id.ensures.none)

pub returns-clause-found : goal.returns-clause-found
returns-clause-found c =
    key_joined c.args.text.now c.in_ok-colon.colon c.in_ok-kind.kind c.in_ok-id.id
    (sym c.in_ok-colon.ensures) c.in_ok-kind.ensures.found c.in_ok-id.ensures.found
