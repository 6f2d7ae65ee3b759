use Rattle.std.proofs.Common.{◌<ℤ◌, ℤ}
use Rattle.std.proofs.lemmas.Int.{ints}
use Rattle.sqlite_tables.proofs.ListLemmas.{all_to_last}
use Rattle.sqlite_tables.proofs.loading.is_larger.Goals as goal
use native.Mathlib.Omega.{arith}

chain : (a b c : ℤ) → a <ℤ b → b <ℤ c → a <ℤ c
chain a b c h k = grind (arith, ints)

pub returns-in-Some : goal.returns-in-Some
returns-in-Some c low up k d within =
    let item = c.in-Some.ensures.item in
    let below : c.in-Some.last.now <ℤ c.args.number = grind (arith, ints, low) in
    all_to_last (λ m n. m <ℤ n) (λ n. n <ℤ c.args.number) c.args.numbers.now c.in-Some.last.now up item.3.0 item.3.1 below (λ x h. chain x c.in-Some.last.now c.args.number h below) k d within
