use Rattle.std.proofs.Common.{sym, subst}
use Rattle.desk_book.specs.Books.{with_answer}
use Rattle.bound_hub.specs.Stores.{ShowsAnswer}
use Rattle.bound_desk.specs.Bound.{BoundBookView, IsBoundBook}
use Rattle.bound_desk.specs.Writing.{IsReadyToWrite}
use Rattle.bound_desk.proofs.BoundLemmas.{answered_is_bound, noted_is_bound}
use Rattle.bound_desk.proofs.WritingLemmas.{answered_is_ready, noted_is_ready}
use Rattle.bound_desk.proofs.bound_books.BoundBook.note_answer.Goals as goal

pub invariant_of-self : goal.invariant_of-self
invariant_of-self g c =
    let a = c.args in
    let opening = g.H.HubName.opening in
    let before = g.H.BoundName.before in
    let shards = g.H.BoundName.word.shards in
    let book = c.self.inside.book.book in
    let seen = c.self.inside.pass.seen in
    let shown = subst (λ (v : BoundBookView). ShowsAnswer opening a.answer.key v.seen a.answer) (sym c.self.view_is) c.requires.shown in (
      c.self.invariant.0,
      subst (λ b. IsBoundBook opening shards b seen) (sym c.note_answer.ensures)
          (noted_is_bound opening shards a.who (with_answer a.answer) book seen c.self.invariant.1
          (λ _. answered_is_bound opening shards book seen a.answer shown c.self.invariant.1)),
      subst (λ b. IsReadyToWrite opening before shards b seen) (sym c.note_answer.ensures)
          (noted_is_ready opening before shards a.who (with_answer a.answer) book seen c.self.invariant.2
          (λ _. answered_is_ready opening before shards book seen a.answer c.self.invariant.2)),
      c.self.invariant.3,
    )
