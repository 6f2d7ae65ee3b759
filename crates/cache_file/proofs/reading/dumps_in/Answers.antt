use Rattle.std.proofs.Common.{ℕ, ◌≡◌, ◌<◌, ◌^◌, ◌++◌, ◌∷◌, [], List, length, arith, sym, ap, ◌∙◌, subst}
use Rattle.shard_dump.specs.declared.rows.Dump.{Dump}
use Rattle.cache_file.specs.Texts.{IsDumpOf}
use Rattle.cache_file.specs.Reading.{BeginsWith, HasNoPart, IsNoBody}
use Rattle.cache_file.proofs.PartLemmas.{begins_more, no_next, no_more, some_by, fault_more}
use Rattle.cache_file.proofs.reading.dumps_in.Goals as goal

pub loop-alloc-preserved : goal.loop-alloc-preserved
loop-alloc-preserved c =
    let dumps = c.loop-alloc.dumps.items in
    let few : length dumps < c.args.count = omega (arith, c.len.ensures, c.loop-alloc-test.true) in
    let long : c.len-in-loop-alloc.result ≡ length dumps = omega (arith, c.len-in-loop-alloc.ensures) in
    let right : IsDumpOf c.args.count (length dumps) c.in-Ok.dump = subst (λ (n : ℕ). IsDumpOf c.args.count n c.in-Ok.dump) long c.in-Ok.ensures.right in
    let more = begins_more c.args.count c.args.body.now dumps c.in-Ok.dump c.loop-alloc.rest.now c.in-Ok.more.now c.loop-alloc.invariant few right c.in-Ok.ensures.found in
    let pushed : c.push_reserved.new.self.items ≡ dumps ++ c.in-Ok.dump ∷ [] =
    c.push_reserved.ensures.items ∙ ap (λ (ds : List Dump). ds ++ c.in-Ok.dump ∷ []) c.in_ok-reserve-in-Ok.ensures.items in
    subst (λ (ds : List Dump). BeginsWith c.args.count c.args.body.now ds c.in-Ok.more.now) (sym pushed) more

pub returns-in-Err-clause-none : goal.returns-in-Err-clause-none
returns-in-Err-clause-none c =
    let dumps = c.loop-alloc.dumps.items in
    let small : length c.args.body.now < 2 ^ 64 = omega arith in
    let few : length dumps < c.args.count = omega (arith, c.len.ensures, c.loop-alloc-test.true) in
    let long : c.len-in-loop-alloc.result ≡ length dumps = omega (arith, c.len-in-loop-alloc.ensures) in
    fault_more (HasNoPart c.args.count c.len-in-loop-alloc.result c.loop-alloc.rest.now) (IsNoBody c.args.count c.args.body.now) c.in-Err.fault
    (λ none. no_next c.args.count c.args.body.now dumps c.loop-alloc.rest.now c.loop-alloc.invariant small few
    (subst (λ (n : ℕ). HasNoPart c.args.count n c.loop-alloc.rest.now) long none))
    c.in-Err.ensures.none

pub returns-then-not-is_empty-clause-none : goal.returns-then-not-is_empty-clause-none
returns-then-not-is_empty-clause-none c =
    let dumps = c.loop-alloc.dumps.items in
    let small : length c.args.body.now < 2 ^ 64 = omega arith in
    let full : length dumps ≡ c.args.count = omega (arith, c.len.ensures, c.loop-alloc-test.false, c.loop-alloc.invariant.few) in
    no_more c.args.count c.args.body.now dumps c.loop-alloc.rest.now c.loop-alloc.invariant small full
    (some_by (length c.loop-alloc.rest.now) (sym c.is_empty.ensures ∙ c.if-not-is_empty.true))
