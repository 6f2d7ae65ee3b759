use Rattle.std.proofs.Common.{◌≡◌, sym, ap, subst, ◌∙◌}
use Rattle.log_word.specs.Passes.{PassView, WordView}
use Rattle.log_word.specs.Steps.{IsBeginning, IsSound}
use Rattle.bound_hub.specs.Stores.{ShowsEnd}
use Rattle.desk_book.specs.Books.{with_end}
use Rattle.bound_desk.specs.Bound.{BoundBookView, IsBoundBook, IsQuitSeen}
use Rattle.bound_desk.specs.Writing.{IsReadyToWrite}
use Rattle.bound_desk.proofs.BoundLemmas.{book_goes_on, noted_is_bound}
use Rattle.bound_desk.proofs.GrantNotes.{ended_is_bound}
use Rattle.bound_desk.proofs.WriteLemmas.{end_quits, quit_goes_on}
use Rattle.bound_desk.proofs.WritingLemmas.{ended_is_ready, noted_is_ready, ready_goes_on}
use Rattle.bound_desk.proofs.bound_books.BoundBook.end.Goals as goal

pub invariant_of-self : goal.invariant_of-self
invariant_of-self g c =
    let opening = g.H.HubName.opening in
    let before = g.H.BoundName.before in
    let shards = g.H.BoundName.word.shards in
    let who = c.args.who in
    let book = c.self.inside.book.book in
    let seen = c.end-closed.new.pass.seen in
    let same : c.may_have_committed-may_have.new.pass ≡ c.end-closed.new.pass = c.may_have_committed-may_have.ensures.same in
    let still = book_goes_on opening shards book c.self.inside.pass.seen seen c.end-closed.ensures.seen c.self.invariant.1 in
    let ready = ready_goes_on opening before shards book c.self.inside.pass.seen seen c.end-closed.ensures.seen c.self.invariant.2 in
    let quit = quit_goes_on c.self.inside.quit c.self.inside.pass.seen seen c.end-closed.ensures.seen c.self.invariant.3 in
    let sound = subst (λ (w : WordView). IsSound w.shards seen) c.end-closed.ensures.word c.sound.ensures in
    let shows = subst (ShowsEnd who seen) (sym c.was.ensures) c.end-closed.ensures.shows in
    let has_quit =
    end_quits shards seen who book.present c.self.inside.quit c.was.result c.is_writing-writes.result c.may_have_committed-may_have.result sound shows still.present
    c.is_writing-writes.ensures.0 c.may_have_committed-may_have.ensures.shows quit in (
      ap (λ (p : PassView). p.word) same ∙ c.end-closed.ensures.word,
      subst (λ (p : PassView). IsBoundBook opening shards c.note_end.new.self.book p.seen) (sym same)
          (subst (λ b. IsBoundBook opening shards b seen) (sym c.note_end.ensures)
          (noted_is_bound opening shards who with_end book seen still (λ _. ended_is_bound opening shards book seen still))),
      subst (λ (p : PassView). IsReadyToWrite opening before shards c.note_end.new.self.book p.seen) (sym same)
          (subst (λ b. IsReadyToWrite opening before shards b seen) (sym c.note_end.ensures)
          (noted_is_ready opening before shards who with_end book seen ready (λ _. ended_is_ready opening before shards book seen ready))),
      subst (λ (p : PassView). IsQuitSeen c.quit_after-self-inside.result p.seen) (sym same) (subst (λ o. IsQuitSeen o seen) (sym c.quit_after-self-inside.ensures) has_quit),
    )

pub returns-clause-seen : goal.returns-clause-seen
returns-clause-seen g c =
    subst (λ (v : BoundBookView). IsBeginning v.seen c.may_have_committed-may_have.new.pass.seen) c.self.view_is
    (subst (λ (p : PassView). IsBeginning c.self.inside.pass.seen p.seen) (sym c.may_have_committed-may_have.ensures.same) c.end-closed.ensures.seen)

pub returns-clause-shows : goal.returns-clause-shows
returns-clause-shows g c =
    subst (λ (p : PassView). ShowsEnd c.args.who p.seen c.end-closed.result.was) (sym c.may_have_committed-may_have.ensures.same) c.end-closed.ensures.shows
