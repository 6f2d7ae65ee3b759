use Rattle.std.proofs.Common.{ℕ, Option, ◌≡◌, ◌≤◌, refl, sym, ap, subst, arith}
use Rattle.std.specs.Option.{ForSome}
use Rattle.rows_model.specs.Rows.{Tables}
use Rattle.sql_keeper.specs.Stores.{Ledger}
use Rattle.top_run.specs.Runs.{IsOpened}
use Rattle.top_run.specs.Begins.{files_seen}
use Rattle.top_run.specs.Serves.{serve_shape}
use Rattle.top_run.specs.Warming.{AsksOn}
use Rattle.top_run.proofs.KeepLemmas.{opened_since}
use Rattle.top_run.proofs.SaveLemmas.{rose_since, saves_since}
use Rattle.top_run.proofs.WarmStartLemmas.{begun_anew, new_to_serve}
use Rattle.top_run.proofs.serves.serve_begun.Goals as goal

pub shards_begun-shards-requires-clause-new : goal.shards_begun-shards-requires-clause-new
shards_begun-shards-requires-clause-new g c =
    new_to_serve c.args.server.now.spec.now c.named-store.result.known_rows c.named-store.result.ledger.opening c.args.ready.parts c.requires.ready.parts

pub shards_begun-shards-requires-clause-log : goal.shards_begun-shards-requires-clause-log
shards_begun-shards-requires-clause-log g c = rw c.named-store.ensures (ap (λ (l : Ledger). l.log) c.requires.new)

pub serve_store-requires-clause-anew : goal.serve_store-requires-clause-anew
serve_store-requires-clause-anew g c κs within =
    begun_anew _ c.args.store c.shards_begun-shards.new.store c.requires.new (rw c.named-store.ensures at c.shards_begun-shards.ensures.asks_on) c.log.ensures.told

pub serve_store-requires-clause-ready : goal.serve_store-requires-clause-ready
serve_store-requires-clause-ready g c κs within =
    let ready = c.requires.ready in
    let word = ready.parts.word in
    record {
      shards = c.shards_begun-shards.ensures.shards;
      as_many = c.shards_begun-shards.ensures.as_many;
      one_each = ready.parts.one_each;
      word = record { of_shards = word.of_shards; store_pass = word.store_pass; shard_passes = word.shard_passes; caller = word.caller };
      none = ready.parts.none;
      room = ready.parts.room;
      no_ends = ready.none;
      for_ends = ready.room;
      begins = c.shards_begun-shards.ensures.begins;
    }

pub serve_store-requires-clause-named : goal.serve_store-requires-clause-named
serve_store-requires-clause-named g c κs within = record {
  terms_are = λ place. refl;
  opening_is = refl;
  cap_is = refl;
  told_is = refl;
  start_is = refl;
  ledger = (refl, refl);
  word_is = refl;
  before_is = λ place. refl;
  begun_is = refl;
  failed_is = refl;
  few_failed = omega (arith, c.failed.ensures.count, c.failed.type_inv);
}

pub serve_store-requires-clause-never_fell : goal.serve_store-requires-clause-never_fell
serve_store-requires-clause-never_fell g c κs within =
    let asks : AsksOn c.args.store c.shards_begun-shards.new.store = (rw c.named-store.ensures at c.shards_begun-shards.ensures.asks_on) in
    subst (λ (count : Option ℕ). ForSome count (λ start. start ≤ c.shards_begun-shards.new.store.faults)) (sym c.requires.start)
    (λ n is.
    let same : c.args.store.faults ≡ n = cc in
    let never = asks.never_falls in
    omega (arith, same, never))

pub returns-clause-ended : goal.returns-clause-ended
returns-clause-ended g c = λ unread rows held opens.
    let given = c.args.store in
    let store = c.shards_begun-shards.new.store in
    let shape = serve_shape c.args.server.now.spec.now in
    let asks : AsksOn given store = (rw c.named-store.ensures at c.shards_begun-shards.ensures.asks_on) in
    c.serve_store.ensures.ended unread rows given.faults held (files_seen g.F.CacheFile c.args.file.now) c.requires.start
    (subst (λ (opening : Tables). IsOpened held shape opening store.known_rows) (sym asks.opening_is)
    (opened_since held shape given.ledger.opening given.known_rows store.known_rows asks.tells opens))
    c.shards_begun-shards.ensures.begun

pub returns-clause-keeper_never_falls : goal.returns-clause-keeper_never_falls
returns-clause-keeper_never_falls g c =
    subst (λ (count : Option ℕ). ForSome count (λ start. start ≤ g.K.Keeper.faults c.serve_store.result.keeper)) c.requires.start
    c.serve_store.ensures.keeper_never_falls c.args.store.faults refl

pub returns-clause-saves : goal.returns-clause-saves
returns-clause-saves g c =
    saves_since c.args.server.now.spec.now.warm c.serve_store.result.status c.args.server.now.spec.now _ _ _ _ _
    c.shards_begun-shards.ensures.untouched c.serve_store.ensures.saves

pub returns-clause-file_fault : goal.returns-clause-file_fault
returns-clause-file_fault g c = λ is.
    rose_since _ _ _ c.shards_begun-shards.ensures.begun.never_falls (c.serve_store.ensures.file_fault is)

pub returns-clause-file_never_falls : goal.returns-clause-file_never_falls
returns-clause-file_never_falls g c =
    omega (arith, c.shards_begun-shards.ensures.begun.never_falls, c.serve_store.ensures.file_never_falls)
