use Rattle.std.proofs.Common.{ℕ, ◌+◌, ◌-◌, ◌≡◌, length, take, get_or, length-take, arith, sym, ◌∙◌}
use Rattle.mc_text.proofs.LineLemmas.{searched, feed_byte, searched_byte, searched_long, no_end_before, no_end_yet, first_end}
use Rattle.mc_text.proofs.items.line_end.Goals as goal

pub returns-in_default-clause-none : goal.returns-in_default-clause-none
returns-in_default-clause-none c = λ place l e.
    let stream = c.args.stream.now in
    let near = c.min.result in
    let from = c.loop-from.from in
    let many : ℕ = length (take near stream) - from in
    let within = length-take near stream in
    let long : length (searched stream near from many) ≡ near - from = searched_long stream near from (omega arith) in
    let whole = e.whole in
    no_end_before stream near from many (near - from) (λ k z s. c.in_default.ensures k z (omega (arith, long)))
    (omega (arith, within)) (omega (arith, within, c.loop-from-test.true)) c.loop-from.invariant place (omega (arith, within, c.loop-from-test.true)) e

pub returns-then-is_behind_return-clause-found : goal.returns-then-is_behind_return-clause-found
returns-then-is_behind_return-clause-found c =
    let stream = c.args.stream.now in
    let near = c.min.result in
    let from = c.loop-from.from in
    let behind = c.in-Some.behind in
    let many : ℕ = length (take near stream) - from in
    let within = length-take near stream in
    let long : length (searched stream near from many) ≡ near - from = searched_long stream near from (omega arith) in
    let first = c.in-Some.ensures.0 in
    let high = first.high in
    let byte : get_or (searched stream near from many) behind 0 ≡ 10 = feed_byte (get_or (searched stream near from many) behind 0) c.in-Some.ensures.1 in
    let lf : get_or stream (from + behind) 0 ≡ 10 =
    sym (searched_byte stream near from many behind (omega (arith, long, within, high)) (omega (arith, long, within, high, c.loop-from-test.true))) ∙ byte in
    let return = c.is_behind_return.ensures.yes c.if-is_behind_return.true in
    first_end stream near (from + behind) (omega arith) (omega arith) (omega (arith, long, within, high, c.loop-from-test.true)) return.0 return.1 lf
    (no_end_before stream near from many behind first.before (omega (arith, long, within, high))
    (omega (arith, long, within, high, c.loop-from-test.true)) c.loop-from.invariant)

pub loop-from-preserved : goal.loop-from-preserved
loop-from-preserved c =
    let stream = c.args.stream.now in
    let near = c.min.result in
    let from = c.loop-from.from in
    let behind = c.in-Some.behind in
    let many : ℕ = length (take near stream) - from in
    let within = length-take near stream in
    let long : length (searched stream near from many) ≡ near - from = searched_long stream near from (omega arith) in
    let first = c.in-Some.ensures.0 in
    let high = first.high in
    no_end_yet stream near (from + behind) (omega (arith, long, within, high, c.loop-from-test.true))
    (c.is_behind_return.ensures.no c.if-is_behind_return.false)
    (no_end_before stream near from many behind first.before (omega (arith, long, within, high))
    (omega (arith, long, within, high, c.loop-from-test.true)) c.loop-from.invariant)
