use Rattle.std.proofs.Common.{sym, ap, subst}
use Rattle.desk_book.specs.Books.{Book}
use Rattle.bound_desk.specs.Bound.{IsBoundBook}
use Rattle.bound_desk.proofs.BoundLemmas.{begun_is_bound, book_goes_on}
use Rattle.bound_desk.proofs.WriteLemmas.{quit_goes_on}
use Rattle.bound_desk.proofs.WritingLemmas.{none_is_ready, ready_goes_on}
use Rattle.bound_desk.proofs.bound_books.BoundBook.begin.Goals as goal

pub invariant_of-self : goal.invariant_of-self
invariant_of-self g c = (
  c.begin.ensures.word,
  book_goes_on g.H.HubName.opening g.H.BoundName.word.shards c.self.inside.book.book c.self.inside.pass.seen c.begin.new.pass.seen c.begin.ensures.seen c.self.invariant.1,
  ready_goes_on g.H.HubName.opening g.H.BoundName.before g.H.BoundName.word.shards c.self.inside.book.book c.self.inside.pass.seen c.begin.new.pass.seen c.begin.ensures.seen c.self.invariant.2,
  quit_goes_on c.self.inside.quit c.self.inside.pass.seen c.begin.new.pass.seen c.begin.ensures.seen c.self.invariant.3,
)

pub invariant_of-self-2 : goal.invariant_of-self-2
invariant_of-self-2 g c =
    let opening = g.H.HubName.opening in
    let before = g.H.BoundName.before in
    let shards = g.H.BoundName.word.shards in
    let book = c.begin-2.new.self.book in
    let seen = c.begin.new.pass.seen in (
      c.begin.ensures.word,
      subst (λ b. IsBoundBook opening shards b seen) (sym c.begin-2.ensures)
          (begun_is_bound opening shards seen _ _ c.args.writes c.in_ok-sid.sid c.in_ok-sid.ensures.shows),
      none_is_ready opening before shards book seen (ap (λ (b : Book). b.held) c.begin-2.ensures) (ap (λ (b : Book). b.commit) c.begin-2.ensures),
      quit_goes_on c.self.inside.quit c.self.inside.pass.seen seen c.begin.ensures.seen c.self.invariant.3,
    )
