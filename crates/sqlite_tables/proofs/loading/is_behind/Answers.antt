use Rattle.std.proofs.Common.{◌≡◌, ◌<◌, ltb-true}
use Rattle.sqlite_tables.specs.declared.pairs.Pair.{Pair}
use Rattle.sqlite_tables.specs.Lists.{IsPairBefore}
use Rattle.sqlite_tables.proofs.ListLemmas.{all_to_last}
use Rattle.sqlite_tables.proofs.loading.is_behind.Goals as goal
use native.Mathlib.Omega.{arith}

then_before : (x y z : Pair) → IsPairBefore x y → IsPairBefore y z → IsPairBefore x z
then_before x y z h k = (
  omega (arith, h.0, k.0),
  λ e.
      let one : x.a ≡ y.a = omega (arith, h.0, k.0, e) in
      let other : y.a ≡ z.a = omega (arith, h.0, k.0, e) in
      let low = h.1 one in
      let high = k.1 other in omega (arith, low, high),
)

pub returns-then-last-pair : goal.returns-then-last-pair
returns-then-last-pair c low up k d within =
    let item = c.in-Some.ensures.item in
    let below : c.in-Some.last.now.a < c.args.pair.now.a = ltb-true _ _ low in
    let before : IsPairBefore c.in-Some.last.now c.args.pair.now = (omega (arith, below), λ e. absurd (omega (arith, below, e))) in
    all_to_last IsPairBefore (λ (x : Pair). IsPairBefore x c.args.pair.now) c.args.pairs.now c.in-Some.last.now up item.3.0 item.3.1 before
    (λ x h. then_before x c.in-Some.last.now c.args.pair.now h before) k d within

pub returns-then-last-pair-2 : goal.returns-then-last-pair-2
returns-then-last-pair-2 c low up k d within =
    let item = c.in-Some.ensures.item in
    let same : c.in-Some.last.now.a ≡ c.args.pair.now.a = c.if-last-pair-2.true in
    let below : c.in-Some.last.now.b < c.args.pair.now.b = ltb-true _ _ low in
    let before : IsPairBefore c.in-Some.last.now c.args.pair.now = (omega (arith, same), λ e. below) in
    all_to_last IsPairBefore (λ (x : Pair). IsPairBefore x c.args.pair.now) c.args.pairs.now c.in-Some.last.now up item.3.0 item.3.1 before
    (λ x h. then_before x c.in-Some.last.now c.args.pair.now h before) k d within
