use Rattle.std.proofs.Common.{◌≡◌, length, arith}
use Rattle.std.proofs.lemmas.Bool.Decides.{nat_tests}
use Rattle.mixed_lines.proofs.ReadLemmas.{nothing_stands}
use Rattle.mixed_lines.proofs.streams.is_spent.Goals as goal

pub returns : goal.returns
returns c = λ yes.
    let none : length c.rest.result.now ≡ 0 = grind (arith, nat_tests) in
    nothing_stands c.args.framer.now.rest (rw c.rest.ensures at none)
