use Rattle.std.proofs.Common.{◌≡◌, ◌<◌, sym, ap, ◌∙◌, subst, arith}
use Rattle.log_word.specs.Passes.{WordView}
use Rattle.log_word.specs.Steps.{IsBorneOut}
use Rattle.log_word.proofs.CallLemmas.{allows_step}
use Rattle.log_word.proofs.words.LogWord.step.Goals as goal

pub load-requires : goal.load-requires
load-requires g c =
    let word = c.self.inside.table.shared in
    let seat = c.args.seat.now in
    let here : seat.table_id ≡ word.table_id = c.requires.word.id ∙ sym (ap (λ (v : WordView). v.id) c.self.view_is) in
    let some : 0 < word.table_id.words = let one = c.self.invariant in omega (arith, one) in
    let step = g.T.TellsStep.step in
    let borne_out : IsBorneOut seat.me.0.seen.events step = subst (IsBorneOut seat.me.0.seen.events) (sym c.requires.step) c.requires.borne_out in
    (here, some, allows_step word.key word.table_id.slots seat.id seat.me.0 seat.me.1 step c.requires.shard borne_out)
