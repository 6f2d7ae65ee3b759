use Rattle.std.proofs.Common.{◌≡◌, ◌<◌, sym, ap, ◌∙◌, arith}
use Rattle.log_word.specs.Passes.{WordView}
use Rattle.log_word.proofs.CallLemmas.{joins_seats, allows_settling}
use Rattle.log_word.proofs.words.LogWord.gather.Goals as goal

pub join_seat-requires : goal.join_seat-requires
join_seat-requires c =
    let word = c.self.inside.table.shared in
    let seat = c.args.seat.now in
    let here : seat.table_id ≡ word.table_id = c.requires.word.id ∙ sym (ap (λ (v : WordView). v.id) c.self.view_is) in
    let some : 0 < word.table_id.words = let one = c.self.invariant in omega (arith, one) in
    let other = c.args.other in
    let there : other.table_id ≡ word.table_id = c.requires.other.0 ∙ sym (ap (λ (v : WordView). v.id) c.self.view_is) in
    (here, there, c.requires.other.1, some, joins_seats word.key word.table_id.slots seat.id seat.me.0 seat.me.1 other.id other.me.0)

pub load-requires : goal.load-requires
load-requires c =
    let word = c.self.inside.table.shared in
    let seat = c.join_seat.new.seat in
    let here : seat.table_id ≡ word.table_id = c.join_seat.ensures.0 ∙ c.requires.word.id ∙ sym (ap (λ (v : WordView). v.id) c.self.view_is) in
    let some : 0 < word.table_id.words = let one = c.self.invariant in omega (arith, one) in
    (here, some, allows_settling word.key word.table_id.slots seat.id seat.me.0 seat.me.1)
