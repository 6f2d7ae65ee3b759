use Rattle.std.proofs.Common.{arith}
use Rattle.key_shard.specs.Shards.{past_of}
use Rattle.sql_keeper.specs.Stores.{rows_of}
use Rattle.shard_dump.proofs.ShardLemmas.{order_few}
use Rattle.shard_dump.proofs.AnsweredLemmas.{text_is_dump}
use Rattle.shard_dump.proofs.answered.dump_answered.Goals as goal

pub overflow_cast-head : goal.overflow_cast-head
overflow_cast-head g c =
    let few = order_few c.args.shard.now.terms (past_of c.args.shard.now) 65536 c.requires.roomy (omega arith) c.in_ok-rows.ensures.legal in
    let count = c.in_ok-rows.ensures.few in
    omega (arith, few, count, c.len.ensures)

pub returns-clause-text : goal.returns-clause-text
returns-clause-text g c =
    let given = c.in_ok-rows.ensures in
    text_is_dump c.rows_answered.new.store.known_rows (rows_of c.args.store.now.ledger) c.args.shard.now c.in_ok-rows.rows.items c.as_slice.result.now
    c.no.result c.count.result c.len.result c.in_ok-text_of.field-0.items c.requires.one_of c.requires.few c.requires.roomy given.legal
    (record { among = given.among; right = given.right; few = given.few; stand = given.stand; ids = given.ids })
    c.as_slice.ensures.value c.no.ensures c.count.ensures (omega (arith, c.len.ensures)) c.in_ok-text_of.ensures
