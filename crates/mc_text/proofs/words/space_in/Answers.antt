use Rattle.std.proofs.Common.{◌+◌, ◌≡◌, get_or, arith}
use Rattle.std.proofs.lemmas.Bool.Decides.{nat_tests}
use Rattle.mc_text.proofs.SplitLemmas.{space_found, none_yet}
use Rattle.mc_text.proofs.words.space_in.Goals as goal

pub returns-then-text-at-eq32 : goal.returns-then-text-at-eq32
returns-then-text-at-eq32 c =
    let byte : get_or c.args.text.now c.loop-at.at 0 ≡ 32 = grind (arith, nat_tests) in
    space_found c.args.text.now c.loop-at.at (omega arith) c.loop-at.invariant.none byte

pub returns-then-text-at-eq32-2 : goal.returns-then-text-at-eq32-2
returns-then-text-at-eq32-2 c =
    let text = c.args.text.now in
    let at = c.loop-at.at in
    let byte : get_or text (at + 1) 0 ≡ 32 = grind (arith, nat_tests) in
    let one = none_yet text at (at + 1) (omega arith) c.loop-at.invariant.none (λ e. grind (arith, nat_tests)) in
    space_found text (at + 1) (omega arith) one byte

pub returns-then-text-at-eq32-3 : goal.returns-then-text-at-eq32-3
returns-then-text-at-eq32-3 c =
    let text = c.args.text.now in
    let at = c.loop-at.at in
    let byte : get_or text (at + 2) 0 ≡ 32 = grind (arith, nat_tests) in
    let one = none_yet text at (at + 1) (omega arith) c.loop-at.invariant.none (λ e. grind (arith, nat_tests)) in
    let two = none_yet text (at + 1) (at + 2) (omega arith) one (λ e. grind (arith, nat_tests)) in
    space_found text (at + 2) (omega arith) two byte

pub returns-then-text-at-eq32-4 : goal.returns-then-text-at-eq32-4
returns-then-text-at-eq32-4 c =
    let text = c.args.text.now in
    let at = c.loop-at.at in
    let byte : get_or text (at + 3) 0 ≡ 32 = grind (arith, nat_tests) in
    let one = none_yet text at (at + 1) (omega arith) c.loop-at.invariant.none (λ e. grind (arith, nat_tests)) in
    let two = none_yet text (at + 1) (at + 2) (omega arith) one (λ e. grind (arith, nat_tests)) in
    let three = none_yet text (at + 2) (at + 3) (omega arith) two (λ e. grind (arith, nat_tests)) in
    space_found text (at + 3) (omega arith) three byte
