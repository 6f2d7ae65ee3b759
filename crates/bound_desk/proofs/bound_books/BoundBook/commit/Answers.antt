use Rattle.std.proofs.Common.{◌<◌, All, IfOk, List, length, sym, subst}
use Rattle.rows_model.specs.declared.changes.Change.{Change}
use Rattle.desk_book.specs.Books.{with_commit}
use Rattle.desk_book.specs.Borne.{Holds}
use Rattle.bound_hub.specs.Knowns.{commits_of}
use Rattle.bound_hub.specs.Stores.{ShowsCommit}
use Rattle.bound_desk.specs.Bound.{BoundBookView, IsBoundBook}
use Rattle.bound_desk.specs.Writing.{IsReadyToWrite}
use Rattle.bound_desk.proofs.BoundLemmas.{book_goes_on, noted_is_bound}
use Rattle.bound_desk.proofs.GrantNotes.{commit_is_over, committed_is_bound, held_are_seen}
use Rattle.bound_desk.proofs.WriteLemmas.{quit_goes_on}
use Rattle.bound_desk.proofs.WritingLemmas.{committed_is_ready, noted_is_ready, ready_goes_on}
use Rattle.bound_desk.proofs.bound_books.BoundBook.commit.Goals as goal

pub commit-answer-requires-clause-granted : goal.commit-answer-requires-clause-granted
commit-answer-requires-clause-granted g c =
    held_are_seen g.H.HubName.opening g.H.BoundName.word.shards c.self.inside.book.book c.self.inside.pass.seen c.args.grants.now c.self.invariant.1
    (subst (λ (v : BoundBookView). All (Holds v.book.book) c.args.grants.now) (sym c.self.view_is) c.requires.held)

pub invariant_of-self : goal.invariant_of-self
invariant_of-self g c =
    let a = c.args in
    let opening = g.H.HubName.opening in
    let cap = g.H.HubName.cap in
    let before = g.H.BoundName.before in
    let shards = g.H.BoundName.word.shards in
    let book = c.self.inside.book.book in
    let seen = c.commit-answer.new.pass.seen in
    let number = c.in-Ok-answer.number in
    let still = book_goes_on opening shards book c.self.inside.pass.seen seen c.commit-answer.ensures.seen c.self.invariant.1 in
    let shows = subst (λ r. IfOk r (ShowsCommit opening cap a.who a.txn a.grants.now seen)) c.in-Ok-answer.is c.commit-answer.ensures.ok in
    let ready = ready_goes_on opening before shards book c.self.inside.pass.seen seen c.commit-answer.ensures.seen c.self.invariant.2 in
    let late = subst (λ r. IfOk r (λ n. length (commits_of c.self.inside.pass.seen.events) < n)) c.in-Ok-answer.is c.commit-answer.ensures.late in
    let copied = subst (λ (t : List Change). ShowsCommit opening cap a.who t a.grants.now seen number) (sym c.in-Ok.ensures) shows in
    let over = commit_is_over opening cap a.who a.txn a.grants.now seen number shows in (
      c.commit-answer.ensures.word,
      subst (λ b. IsBoundBook opening shards b seen) (sym c.note_commit.ensures)
          (noted_is_bound opening shards a.who (with_commit number c.in-Ok.copy) book seen still
          (λ is. committed_is_bound opening shards book seen a.who number c.in-Ok.copy over is still)),
      subst (λ b. IsReadyToWrite opening before shards b seen) (sym c.note_commit.ensures)
          (noted_is_ready opening before shards a.who (with_commit number c.in-Ok.copy) book seen ready
          (λ is. committed_is_ready opening before shards book c.self.inside.pass.seen seen cap a.who c.in-Ok.copy a.grants.now number c.commit-answer.ensures.seen late copied
          c.commit-answer.ensures.true_so_far is c.self.invariant.2)),
      quit_goes_on c.self.inside.quit c.self.inside.pass.seen seen c.commit-answer.ensures.seen c.self.invariant.3,
    )

pub invariant_of-self-in-Err-answer : goal.invariant_of-self-in-Err-answer
invariant_of-self-in-Err-answer g c = (
  c.commit-answer.ensures.word,
  book_goes_on g.H.HubName.opening g.H.BoundName.word.shards c.self.inside.book.book c.self.inside.pass.seen c.commit-answer.new.pass.seen c.commit-answer.ensures.seen c.self.invariant.1,
  ready_goes_on g.H.HubName.opening g.H.BoundName.before g.H.BoundName.word.shards c.self.inside.book.book c.self.inside.pass.seen c.commit-answer.new.pass.seen c.commit-answer.ensures.seen c.self.invariant.2,
  quit_goes_on c.self.inside.quit c.self.inside.pass.seen c.commit-answer.new.pass.seen c.commit-answer.ensures.seen c.self.invariant.3,
)
