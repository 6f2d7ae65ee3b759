use Rattle.std.proofs.Common.{◌≡◌, ◌<◌, sym, ap, ◌∙◌, arith}
use Rattle.log_word.specs.Passes.{WordView}
use Rattle.log_word.proofs.CallLemmas.{allows_stop}
use Rattle.log_word.proofs.words.LogWord.watch.Goals as goal

pub load-requires : goal.load-requires
load-requires g c =
    let word = c.self.inside.table.shared in
    let seat = c.args.seat.now in
    let here : seat.table_id ≡ word.table_id = c.requires.word.id ∙ sym (ap (λ (v : WordView). v.id) c.self.view_is) in
    let some : 0 < word.table_id.words = let one = c.self.invariant in omega (arith, one) in
    (here, some, allows_stop word.key word.table_id.slots seat.id seat.me.0 seat.me.1 g.F.TellsStop.stopped c.requires.store)
