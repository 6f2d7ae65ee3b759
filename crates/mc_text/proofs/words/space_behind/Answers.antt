use Rattle.std.proofs.Common.{◌≡◌, get_or, arith}
use Rattle.std.proofs.lemmas.Bool.Decides.{nat_tests}
use Rattle.mc_text.proofs.SplitLemmas.{space_found, no_space_found}
use Rattle.mc_text.proofs.words.space_behind.Goals as goal

pub returns-then-text-at-eq32 : goal.returns-then-text-at-eq32
returns-then-text-at-eq32 c =
    let byte : get_or c.args.text.now c.loop-at.at 0 ≡ 32 = grind (arith, nat_tests) in
    space_found c.args.text.now c.loop-at.at (omega arith) c.loop-at.invariant.none byte

pub returns : goal.returns
returns c = no_space_found c.args.text.now (λ place h. c.loop-at.invariant.none place (omega arith))
