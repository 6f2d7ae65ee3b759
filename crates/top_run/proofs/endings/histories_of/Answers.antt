use Rattle.std.proofs.Common.{◌≡◌, ◌<◌, ◌++◌, ◌∷◌, [], List, length, map, ap, ◌∙◌, arith}
use Rattle.std.proofs.lemmas.Grind.{common_steps}
use Rattle.std.proofs.lemmas.List.{map_push}
use Rattle.std.specs.Global.{Global}
use Rattle.std.specs.Prelude.{Vec}
use Rattle.key_shard.specs.declared.steps.Step.{Step}
use Rattle.key_shard.specs.Shards.{ShardView, kept_of}
use Rattle.top_run.proofs.HandedLemmas.{handed_next, whole_first, whole_rest}
use Rattle.top_run.proofs.endings.histories_of.Goals as goal

pub loop-shards-preserved : goal.loop-shards-preserved
loop-shards-preserved c =
    let was = c.loop-shards.invariant in
    let shards = c.loop-shards.shards.items in
    let rest = c.remove-shard.new.self.items in
    let shard = c.remove-shard.result in
    let one = c.take_history.result in
    let gone = c.remove-shard.ensures in
    let made = c.take_history.ensures in
    let items : Vec Step Global → List Step = λ history. history.items in
    let history : ShardView → List Step = λ view. view.history in
    let before = map items c.loop-shards.histories.items in
    let some : 0 < length shards = grind (arith, common_steps) in
    let out : map items c.push_reserved.new.self.items ≡ before ++ one.items ∷ [] =
    ap (λ (l : List (Vec Step Global)). map items l) c.push_reserved.ensures.items ∙ map_push items c.loop-shards.histories.items one in
    record {
      handed = rw out (handed_next kept_of before _ shards rest shard one.items some gone.value gone.items made.steps was.handed);
      room = grind (arith, common_steps, was.room, gone.len, c.push_reserved.ensures.len, c.push_reserved.ensures.capacity);
      left = λ whole. whole_rest shards rest gone.items some (was.left whole);
      whole = λ whole. rw out (handed_next history before _ shards rest shard one.items some gone.value gone.items
          (made.whole (whole_first shards shard some gone.value (was.left whole))) (was.whole whole));
    }
