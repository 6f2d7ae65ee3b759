use Rattle.std.proofs.Common.{◌≡◌, None, pos, sym, subst}
use Rattle.log_word.specs.Passes.{WordView}
use Rattle.log_word.specs.Steps.{IsSound}
use Rattle.desk_book.specs.Books.{with_raised}
use Rattle.bound_desk.specs.Bound.{BoundBookView, IsBoundBook}
use Rattle.bound_desk.specs.Writing.{IsReadyToWrite, StoodAlone}
use Rattle.bound_desk.proofs.BoundLemmas.{noted_is_bound}
use Rattle.bound_desk.proofs.RaiseLemmas.{raised_is_bound}
use Rattle.bound_desk.proofs.WritingLemmas.{noted_is_ready, raised_is_ready}
use Rattle.bound_desk.proofs.bound_books.BoundBook.note_raised.Goals as goal

pub invariant_of-self : goal.invariant_of-self
invariant_of-self g c =
    let a = c.args in
    let opening = g.H.HubName.opening in
    let before = g.H.BoundName.before in
    let shards = g.H.BoundName.word.shards in
    let book = c.self.inside.book.book in
    let seen = c.self.inside.pass.seen in
    let sound = subst (λ (w : WordView). IsSound w.shards seen) c.self.invariant.0 c.sound.ensures in
    let stood = subst (λ (v : BoundBookView). StoodAlone opening before shards v.seen (record { permit = a.ticket; old = a.old; by = pos 0 })) (sym c.self.view_is) c.requires.alone in
    let none = subst (λ (v : BoundBookView). v.book.book.commit ≡ None) (sym c.self.view_is) c.requires.none in (
      c.self.invariant.0,
      subst (λ b. IsBoundBook opening shards b seen) (sym c.note_raised.ensures)
          (noted_is_bound opening shards a.who (with_raised a.ticket a.old) book seen c.self.invariant.1
          (λ _. raised_is_bound opening shards book seen a.ticket a.old c.self.invariant.1)),
      subst (λ b. IsReadyToWrite opening before shards b seen) (sym c.note_raised.ensures)
          (noted_is_ready opening before shards a.who (with_raised a.ticket a.old) book seen c.self.invariant.2
          (λ _. raised_is_ready opening before shards book seen a.ticket a.old sound none stood c.self.invariant.2)),
      c.self.invariant.3,
    )
