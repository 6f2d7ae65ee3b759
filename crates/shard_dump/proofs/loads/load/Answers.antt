use Rattle.std.proofs.Common.{rules, ap}
use Rattle.key_shard.specs.Shards.{past_of}
use Rattle.sql_keeper.specs.Stores.{Ledger}
use Rattle.shard_dump.specs.Loads.{AreAtHome, StopsStore, last_session}
use Rattle.shard_dump.proofs.LoadLemmas.{none_loaded, stops_store, rows_right}
use Rattle.shard_dump.proofs.loads.load.Goals as goal

pub returns-in_err-who-clause-shard : goal.returns-in_err-who-clause-shard
returns-in_err-who-clause-shard g c =
    let home : AreAtHome c.args.shard.now c.args.rows.items = search rules in
    let none = none_loaded (last_session c.begin.new.self) c.args.now c.args.rows.items c.args.shard.now c.requires.empty home in
    search (rules, none)

pub returns-in_err-load_rows-clause-store : goal.returns-in_err-load_rows-clause-store
returns-in_err-load_rows-clause-store g c =
    let home : AreAtHome c.args.shard.now c.args.rows.items = search rules in
    let stops : StopsStore c.args.store.now c.begin.new.self c.in_err-load_rows.field-0.0 = stops_store c.in_ok-who.who c.args.now c.args.rows.items c.args.shard.now c.load_rows.new.shard c.args.store.now c.begin.new.self
    c.in_err-load_rows.field-0.0 home c.in_err-load_rows.ensures.shard c.in_ok-who.ensures.ledger in
    search (rules, stops)

pub returns-clause-right : goal.returns-clause-right
returns-clause-right g c = λ some.
    rows_right c.args.store.now.known_rows c.begin.new.self.known_rows c.args.store.now.ledger.opening c.begin.new.self.ledger.opening (past_of c.load_rows.new.shard)
    c.args.rows.items c.requires.answers c.begin.ensures.keeper.0 (ap (λ (l : Ledger). l.opening) c.in_ok-who.ensures.ledger)
    c.in_ok-load_rows.ensures.loaded.has some
