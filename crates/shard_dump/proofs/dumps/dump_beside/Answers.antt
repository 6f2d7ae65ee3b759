use Rattle.std.proofs.Common.{arith}
use Rattle.key_shard.specs.Shards.{past_of}
use Rattle.shard_dump.proofs.ShardLemmas.{order_few}
use Rattle.shard_dump.proofs.DumpLemmas.{text_is_dump}
use Rattle.shard_dump.proofs.dumps.dump_beside.Goals as goal

pub overflow_cast-head : goal.overflow_cast-head
overflow_cast-head c =
    let few = order_few c.args.shard.now.terms (past_of c.args.shard.now) 65536 c.requires.roomy (omega arith) c.in_ok-rows.ensures.legal in
    let count = c.in_ok-rows.ensures.few in
    omega (arith, few, count, c.len.ensures)

pub returns : goal.returns
returns c = record {
  text = λ log tells.
      text_is_dump log c.args.shard.now c.in_ok-rows.rows.items c.as_slice.result.now c.no.result c.count.result c.len.result c.text_of.result
      c.requires.one_of c.requires.few c.requires.roomy c.in_ok-rows.ensures.legal (c.in_ok-rows.ensures.rows log tells) c.in_ok-rows.ensures.ids
      c.as_slice.ensures.value c.no.ensures c.count.ensures (omega (arith, c.len.ensures)) c.text_of.ensures;
}
