use Rattle.std.proofs.Common.{◌≡◌, ◌+◌, ◌<◌, ◌++◌, ◌∷◌, [], length, take, cond, arith, sym, ap, subst, ◌∙◌}
use Rattle.std.proofs.lemmas.List.{take_more, length-take}
use Rattle.rows_model.specs.declared.keys.QKey.{QKey}
use Rattle.rows_model.specs.Changes.{footprint, has_key}
use Rattle.sql_keeper.specs.declared.stores.Commit.{Commit}
use Rattle.shard_dump.specs.Touches.{number_of, TellsTouches}
use Rattle.shard_dump.proofs.TouchLemmas.{tells-push}
use Rattle.shard_dump.proofs.touches.LastTouches.of.Goals as goal

pub loop-place-preserved : goal.loop-place-preserved
loop-place-preserved c =
    let place = c.loop-place.place in
    let commit = c.index-log-place.result in
    let inside : place < length c.args.log.now = omega arith in
    let keys : c.as_slice.result.now ≡ footprint commit.txn = c.as_slice.ensures.value ∙ c.in_ok-keys.ensures in
    let more : take (place + 1) c.args.log.now ≡ take place c.args.log.now ++ commit ∷ [] =
    take_more c.args.log.now place commit inside ∙ ap (λ (x : Commit). take place c.args.log.now ++ x ∷ []) (sym c.index-log-place.is) in
    let noted : (key : QKey) → number_of key c.note.new.self ≡ cond (has_key key (footprint commit.txn)) (place + 1) (number_of key c.loop-place.touches) =
    λ key. c.in_ok-note.ensures key ∙ ap (λ ks. cond (has_key key ks) (place + 1) (number_of key c.loop-place.touches)) keys in
    subst (λ log. TellsTouches log c.note.new.self) (sym more)
    (tells-push (take place c.args.log.now) commit c.loop-place.touches c.note.new.self (place + 1) c.loop-place.invariant
    (omega (arith, length-take place c.args.log.now)) noted)
