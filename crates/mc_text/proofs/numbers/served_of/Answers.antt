use Rattle.mc_text.proofs.KindLemmas.{no_kind, no_member, served}
use Rattle.mc_text.proofs.numbers.served_of.Goals as goal

pub returns-in_err-kind : goal.returns-in_err-kind
returns-in_err-kind c = rw c.from_residual.ensures (no_kind c.args.word.now c.in_err-kind.ensures.none)

pub returns-in_err-id : goal.returns-in_err-id
returns-in_err-id c =
    rw c.from_residual-in_err-id.ensures
    (no_member c.args.word.now c.in_ok-kind.digits.now c.in_ok-kind.kind c.in_ok-kind.ensures.found c.in_err-id.ensures.none)

pub returns : goal.returns
returns c = served c.args.word.now c.in_ok-kind.digits.now c.in_ok-kind.kind c.in_ok-id.id c.in_ok-kind.ensures.found c.in_ok-id.ensures.found
