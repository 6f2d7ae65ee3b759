use Rattle.std.proofs.Common.{List, ℕ, arith, sym, subst}
use Rattle.std.proofs.lemmas.Grind.{common_steps}
use Rattle.shard_dump.specs.Dumps.{dump_of}
use Rattle.shard_dump.specs.Texts.{IsDumpText}
use Rattle.top_run.proofs.WarmingLemmas.{dumped_more, dumped_of}
use Rattle.top_run.proofs.dumps.dumps_of.Goals as goal

pub dumped_in-requires : goal.dumped_in-requires
dumped_in-requires c =
    let dump = dump_of c.args.log.now c.shard-item.result in
    (dump, subst (λ (t : List ℕ). IsDumpText t dump) (sym c.as_slice.ensures.value) (c.in_ok-text.ensures.text c.args.log.now c.in_ok-touches.ensures))

pub loop-shard-preserved : goal.loop-shard-preserved
loop-shard-preserved c =
    let was = c.loop-shard.invariant in
    let dump = dump_of c.args.log.now c.shard-item.result in
    let here = c.in_ok-text.ensures.text c.args.log.now c.in_ok-touches.ensures in
    let is = subst (λ (t : List ℕ). IsDumpText t dump) (sym c.as_slice.ensures.value) here in
    record {
      dumped =
          rw c.push_reserved.ensures.items
          (dumped_more c.args.log.now c.args.shards.now c.loop-shard.dumps.items c.loop-shard.shard-index c.shard-item.result c.in_ok-dumped_in.field-0
          (omega arith) c.shard-item.is (grind (arith, common_steps, was.many, was.dumped.as_many)) was.dumped
          (dumped_of c.args.log.now c.shard-item.result c.in_ok-dumped_in.field-0.dump c.in_ok-text.text.items c.in_ok-dumped_in.field-0.bytes here
          (c.in_ok-dumped_in.ensures.only dump is) (rw c.as_slice.ensures.value at c.in_ok-dumped_in.ensures.bytes)));
      many = grind (arith, common_steps, was.many, c.push_reserved.ensures.len);
      room = grind (arith, common_steps, was.room, c.push_reserved.ensures.capacity);
    }
