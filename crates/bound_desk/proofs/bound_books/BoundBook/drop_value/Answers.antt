use Rattle.std.proofs.Common.{sym, subst}
use Rattle.desk_book.specs.Books.{without_grant}
use Rattle.bound_desk.specs.Bound.{IsBoundBook}
use Rattle.bound_desk.specs.Writing.{IsReadyToWrite}
use Rattle.bound_desk.proofs.BoundLemmas.{book_goes_on, noted_is_bound}
use Rattle.bound_desk.proofs.GrantNotes.{spent_is_bound}
use Rattle.bound_desk.proofs.WriteLemmas.{quit_goes_on}
use Rattle.bound_desk.proofs.WritingLemmas.{noted_is_ready, ready_goes_on, spent_is_ready}
use Rattle.bound_desk.proofs.bound_books.BoundBook.drop_value.Goals as goal

pub invariant_of-self : goal.invariant_of-self
invariant_of-self g c =
    let opening = g.H.HubName.opening in
    let before = g.H.BoundName.before in
    let shards = g.H.BoundName.word.shards in
    let book = c.self.inside.book.book in
    let seen = c.release-answer.new.pass.seen in
    let ticket = c.of-ticket.result in
    let still = book_goes_on opening shards book c.self.inside.pass.seen seen c.release-answer.ensures.seen c.self.invariant.1 in
    let ready = ready_goes_on opening before shards book c.self.inside.pass.seen seen c.release-answer.ensures.seen c.self.invariant.2 in (
      c.release-answer.ensures.word,
      subst (λ b. IsBoundBook opening shards b seen) (sym c.note_spent.ensures)
          (noted_is_bound opening shards c.args.who (without_grant ticket) book seen still (λ _. spent_is_bound opening shards book seen ticket still)),
      subst (λ b. IsReadyToWrite opening before shards b seen) (sym c.note_spent.ensures)
          (noted_is_ready opening before shards c.args.who (without_grant ticket) book seen ready (λ _. spent_is_ready opening before shards book seen ticket ready)),
      quit_goes_on c.self.inside.quit c.self.inside.pass.seen seen c.release-answer.ensures.seen c.self.invariant.3,
    )
