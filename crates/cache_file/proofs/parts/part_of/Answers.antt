use Rattle.std.proofs.Common.{◌≡◌, ◌<◌, ◌++◌, ◌^◌, length, arith, ap, sym, ◌∙◌, length-append}
use Rattle.shard_dump.proofs.TextLemmas.{number_once}
use Rattle.cache_file.proofs.PartLemmas.{part_long, part_regrouped}
use Rattle.cache_file.proofs.parts.part_of.Goals as goal

pub returns-then-bytes-rest-clause-none : goal.returns-then-bytes-rest-clause-none
returns-then-bytes-rest-clause-none c dump rest e =
    let long = part_long c.args.text.now dump rest e in
    let small : length dump < 2 ^ 64 = omega (arith, long) in
    let once = number_once 10 c.in_ok-bytes.bytes (length dump) c.in_ok-bytes.rest.now (dump ++ rest) (omega arith) c.in_ok-bytes.ensures.small small
    (sym c.in_ok-bytes.ensures.found ∙ (e ∙ part_regrouped dump rest)) in
    let lengths : length c.in_ok-bytes.rest.now ≡ length (dump ++ rest) = ap length once.1 in
    let sum = length-append dump rest in
    absurd (omega (arith, once.0, lengths, sum, c.if-bytes-rest.true))
