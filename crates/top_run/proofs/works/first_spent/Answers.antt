use Rattle.std.proofs.Common.{◌≡◌, ◌+◌, Some, drop, arith, ap, sym, ◌∙◌}
use Rattle.std.specs.Prelude.{Bool, true, false, cond}
use Rattle.std.specs.List.{position_from}
use Rattle.run_audit.specs.Findings.{histories_in}
use Rattle.top_run.specs.Works.{has_spent}
use Rattle.top_run.proofs.WorkLemmas.{spent_first, spent_next, spent_none, whole_at}
use Rattle.top_run.proofs.works.first_spent.Goals as goal

pub loop-place-init : goal.loop-place-init
loop-place-init c = spent_first c.args.shards.now

pub loop-place-preserved : goal.loop-place-preserved
loop-place-preserved c =
    let shards = c.args.shards.now in
    let place = c.loop-place.place in
    let shard = c.index-shards-place.result in
    let whole = whole_at shards place shard (omega arith) c.index-shards-place.is c.requires.whole in
    let here : has_spent shard.history ≡ false =
    ap has_spent (sym (c.history.ensures.whole whole)) ∙ sym c.has_spent.ensures ∙ c.if-has_spent.false in
    c.loop-place.invariant
    ∙ spent_next shards place shard (omega arith) c.index-shards-place.is
    ∙ ap (λ (b : Bool). cond b (Some place) (position_from has_spent (place + 1) (histories_in (drop (place + 1) shards)))) here

pub returns-then-has_spent : goal.returns-then-has_spent
returns-then-has_spent c =
    let shards = c.args.shards.now in
    let place = c.loop-place.place in
    let shard = c.index-shards-place.result in
    let whole = whole_at shards place shard (omega arith) c.index-shards-place.is c.requires.whole in
    let here : has_spent shard.history ≡ true =
    ap has_spent (sym (c.history.ensures.whole whole)) ∙ sym c.has_spent.ensures ∙ c.if-has_spent.true in
    sym (
    c.loop-place.invariant
    ∙ spent_next shards place shard (omega arith) c.index-shards-place.is
    ∙ ap (λ (b : Bool). cond b (Some place) (position_from has_spent (place + 1) (histories_in (drop (place + 1) shards)))) here)

pub returns : goal.returns
returns c = sym (c.loop-place.invariant ∙ spent_none c.args.shards.now c.loop-place.place (omega arith))
