use Rattle.std.proofs.Common.{arith}
use Rattle.mc_text.proofs.LookupLemmas.{key_in_front}
use Rattle.mc_text.proofs.lookups.front_key.Goals as goal

pub returns : goal.returns
returns c =
    key_in_front c.args.text.now c.in_ok-kind.kind c.in_ok-kind.digits.now c.in_ok-number.number c.in_ok-number.rest.now
    c.in_ok-kind.ensures (omega arith) c.in_ok-number.ensures (omega arith)
