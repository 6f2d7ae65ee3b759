use Rattle.std.proofs.Common.{ℕ, ◌≡◌, List, length, map, refl, ap, subst, ◌∙◌, arith}
use Rattle.std.specs.Prelude.{Vec}
use Rattle.std.specs.Global.{Global}
use Rattle.sql_keeper.specs.Stores.{Ledger, rows_of}
use Rattle.shard_dump.specs.Answered.{IsAnsweredText}
use Rattle.cache_file.specs.Texts.{cache_text}
use Rattle.top_run.proofs.SaveLemmas.{AreTexts, no_texts, texts_are_cache, texts_more}
use Rattle.top_run.proofs.saves.saved_text.Goals as goal

pub loop-shard-init : goal.loop-shard-init
loop-shard-init g c = record {
  texts = rw c.new-texts.ensures.items (no_texts c.args.store.now.known_rows (rows_of c.args.store.now.ledger) c.args.shards.now);
  ledger = refl;
  tells = λ some. some;
  faults = refl;
}

pub loop-shard-preserved : goal.loop-shard-preserved
loop-shard-preserved g c =
    let was = c.loop-shard.invariant in
    let tables = rows_of c.args.store.now.ledger in
    let known = c.dump_answered.new.store.known_rows in
    let one : IsAnsweredText known tables c.shard-item.result c.in_ok-text.text.items =
    subst (λ (l : Ledger). IsAnsweredText known (rows_of l) c.shard-item.result c.in_ok-text.text.items) was.ledger c.in_ok-text.ensures.text in
    record {
      texts = rw c.in_ok-push_text.ensures
          (texts_more c.loop-shard.store.known_rows known tables c.args.shards.now c.loop-shard.shard-index c.loop-shard.texts.items c.shard-item.result
          c.in_ok-text.text c.in_ok-text.ensures.tells (omega arith) c.shard-item.is one was.texts);
      ledger = c.in_ok-text.ensures.ledger ∙ was.ledger;
      tells = λ some. was.tells (c.in_ok-text.ensures.tells some);
      faults = c.in_ok-text.ensures.counts ∙ was.faults;
    }

pub returns-clause-text : goal.returns-clause-text
returns-clause-text g c =
    let tables = rows_of c.args.store.now.ledger in
    let whole : c.loop-shard.shard-index ≡ length c.args.shards.now = omega arith in
    let are : AreTexts c.loop-shard.store.known_rows tables c.args.shards.now (length c.args.shards.now) c.loop-shard.texts.items =
    subst (λ (n : ℕ). AreTexts c.loop-shard.store.known_rows tables c.args.shards.now n c.loop-shard.texts.items) whole c.loop-shard.invariant.texts in
    texts_are_cache c.loop-shard.store.known_rows tables c.args.shards.now c.loop-shard.texts.items c.in_ok-cache_text.field-0.items are
    (c.in_ok-cache_text.ensures
    ∙ ap (λ (l : List (Vec ℕ Global)). cache_text (map (λ (t : Vec ℕ Global). t.items) l)) c.as_slice.ensures.value)
