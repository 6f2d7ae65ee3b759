use Rattle.std.proofs.Common.{◌≡◌, ◌<◌, ◌^◌, length, arith, sym, subst}
use Rattle.std.proofs.lemmas.Result.{err_from_is_err_and}
use Rattle.cache_file.specs.Texts.{IsFaultOf}
use Rattle.cache_file.specs.Reading.{HasNoDump, HasNoPart}
use Rattle.cache_file.proofs.PartLemmas.{no_part, other_part, fault_more}
use Rattle.cache_file.proofs.reading.next_dump.Goals as goal

pub returns-then-not-is_of-clause-none : goal.returns-then-not-is_of-clause-none
returns-then-not-is_of-clause-none c =
    let small : length c.args.text.now < 2 ^ 64 = omega arith in
    other_part c.args.count c.args.shard c.args.text.now c.in-Some.part.now c.in-Some.rest.now c.in_ok-dump.dump c.in-Some.ensures.found small c.in_ok-dump.ensures.found
    (c.is_of.ensures.no c.if-not-is_of.true)

pub returns-in_err-dump-clause-none : goal.returns-in_err-dump-clause-none
returns-in_err-dump-clause-none c =
    let small : length c.args.text.now < 2 ^ 64 = omega arith in
    let p = err_from_is_err_and c.from_residual.result c.from_residual.ensures.1 in
    let same : p.0 ≡ c.in_err-dump.field-0.0 = p.2 in
    rw p.1
    (fault_more (HasNoDump c.in-Some.part.now) (HasNoPart c.args.count c.args.shard c.args.text.now) p.0
    (no_part c.args.count c.args.shard c.args.text.now c.in-Some.part.now c.in-Some.rest.now c.in-Some.ensures.found small)
    (subst (IsFaultOf (HasNoDump c.in-Some.part.now)) (sym same) c.in_err-dump.ensures.none))
