use Rattle.std.proofs.Common.{◌||◌, false, sym, ap, subst, ◌∙◌}
use Rattle.std.proofs.lemmas.Bool.{false≢true}
use Rattle.log_word.specs.Passes.{WordView}
use Rattle.log_word.specs.Steps.{IsSound}
use Rattle.bound_desk.proofs.BoundLemmas.{book_goes_on}
use Rattle.bound_desk.proofs.GrantNotes.{close_is_over}
use Rattle.bound_desk.proofs.WriteLemmas.{quit_goes_on}
use Rattle.bound_desk.proofs.WritingLemmas.{ready_goes_on}
use Rattle.bound_desk.proofs.bound_books.BoundBook.close.Goals as goal
use Rattle.bound_desk.proofs.bound_books.BoundBook.close.Goals.{then-was, else-was}

pub invariant_of-self : goal.invariant_of-self
invariant_of-self g c = (
  c.end-closed.ensures.word,
  book_goes_on g.H.HubName.opening g.H.BoundName.word.shards c.self.inside.book.book c.self.inside.pass.seen c.end-closed.new.pass.seen c.end-closed.ensures.seen c.self.invariant.1,
  ready_goes_on g.H.HubName.opening g.H.BoundName.before g.H.BoundName.word.shards c.self.inside.book.book c.self.inside.pass.seen c.end-closed.new.pass.seen c.end-closed.ensures.seen c.self.invariant.2,
  quit_goes_on c.self.inside.quit c.self.inside.pass.seen c.end-closed.new.pass.seen c.end-closed.ensures.seen c.self.invariant.3,
)

pub returns-clause-over : goal.returns-clause-over
returns-clause-over g c = λ over.
    let who = c.args.who in
    let shards = g.H.BoundName.word.shards in
    let book = c.self.inside.book.book in
    let seen = c.end-closed.new.pass.seen in
    let still = book_goes_on g.H.HubName.opening shards book c.self.inside.pass.seen seen c.end-closed.ensures.seen c.self.invariant.1 in
    let sound = subst (λ (w : WordView). IsSound w.shards seen) c.end-closed.ensures.word c.sound.ensures in
    let was = c.end-closed.result.was in
    elim c.if-was.branch [
      | then-was w ↦
          close_is_over shards seen who book.present was false sound c.end-closed.ensures.shows still.present (λ e. absurd (false≢true e))
          (ap (λ b. b || false) (sym c.was.ensures ∙ w.if-was.true))
      | else-was w ↦
          close_is_over shards seen who book.present was w.is_writing.result sound c.end-closed.ensures.shows still.present w.is_writing.ensures.0
          (ap (λ b. b || w.is_writing.result) (sym c.was.ensures ∙ w.if-was.false) ∙ sym w.result-is ∙ over)
    ]

pub returns-clause-shows : goal.returns-clause-shows
returns-clause-shows g c = (
  c.end-closed.result.was,
  c.end-closed.ensures.shows,
  λ opened. elim c.if-was.branch [
    | then-was w ↦ w.result-is ∙ w.if-was.true
    | else-was w ↦ absurd (false≢true (sym (sym c.was.ensures ∙ w.if-was.false) ∙ opened))
  ],
)
