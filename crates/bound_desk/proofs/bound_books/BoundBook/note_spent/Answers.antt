use Rattle.std.proofs.Common.{sym, subst}
use Rattle.desk_book.specs.Books.{without_grant}
use Rattle.bound_desk.specs.Bound.{IsBoundBook}
use Rattle.bound_desk.specs.Writing.{IsReadyToWrite}
use Rattle.bound_desk.proofs.BoundLemmas.{noted_is_bound}
use Rattle.bound_desk.proofs.GrantNotes.{spent_is_bound}
use Rattle.bound_desk.proofs.WritingLemmas.{noted_is_ready, spent_is_ready}
use Rattle.bound_desk.proofs.bound_books.BoundBook.note_spent.Goals as goal

pub invariant_of-self : goal.invariant_of-self
invariant_of-self g c =
    let a = c.args in
    let opening = g.H.HubName.opening in
    let before = g.H.BoundName.before in
    let shards = g.H.BoundName.word.shards in
    let book = c.self.inside.book.book in
    let seen = c.self.inside.pass.seen in
    let ticket = a.ticket.now in (
      c.self.invariant.0,
      subst (λ b. IsBoundBook opening shards b seen) (sym c.note_spent.ensures)
          (noted_is_bound opening shards a.who (without_grant ticket) book seen c.self.invariant.1
          (λ _. spent_is_bound opening shards book seen ticket c.self.invariant.1)),
      subst (λ b. IsReadyToWrite opening before shards b seen) (sym c.note_spent.ensures)
          (noted_is_ready opening before shards a.who (without_grant ticket) book seen c.self.invariant.2
          (λ _. spent_is_ready opening before shards book seen ticket c.self.invariant.2)),
      c.self.invariant.3,
    )
