use Rattle.std.proofs.Common.{◌≡◌, ◌<◌, sym, ap, ◌∙◌, subst, arith}
use Rattle.log_word.specs.Passes.{WordView}
use Rattle.log_word.specs.Events.{MayFollow}
use Rattle.log_word.specs.Steps.{IsGranted}
use Rattle.log_word.proofs.CallLemmas.{allows_event}
use Rattle.log_word.proofs.words.LogWord.count.Goals as goal

pub fetch_add-requires : goal.fetch_add-requires
fetch_add-requires g c =
    let word = c.self.inside.table.shared in
    let seat = c.args.seat.now in
    let here : seat.table_id ≡ word.table_id = c.requires.word.id ∙ sym (ap (λ (v : WordView). v.id) c.self.view_is) in
    let some : 0 < word.table_id.words = let one = c.self.invariant in omega (arith, one) in
    let shards : seat.me.0.shards ≡ word.key = c.requires.word.shards ∙ sym (ap (λ (v : WordView). v.shards) c.self.view_is) in
    let event = g.E.TellsEvent.event in
    let seen = seat.me.0.seen in
    let follows : MayFollow seen.events event = subst (MayFollow seen.events) (sym c.requires.event) c.requires.follows in
    let granted : IsGranted seat.me.0.shards seen.steps event = subst (IsGranted seat.me.0.shards seen.steps) (sym c.requires.event) c.requires.granted in
    (here, some, allows_event word.key word.table_id.slots seat.id seat.me.0 seat.me.1 event c.requires.store follows (subst (λ n. IsGranted n seen.steps event) shards granted))
