use Rattle.std.proofs.Common.{List, sym, ap, subst, ◌∙◌}
use Rattle.desk_book.specs.Books.{BookView}
use Rattle.session_client.specs.Desks.{Exchange}
use Rattle.bound_desk.specs.Records.{IsRecordSeen}
use Rattle.bound_desk.proofs.RecordLemmas.{begun_since, record_goes_on, record_with_begin}
use Rattle.bound_desk.proofs.ToldLemmas.{shown_by_same, shown_goes_on, shown_with_begin}
use Rattle.bound_desk.proofs.desks.BoundDeskDesk.begin.Goals as goal

pub invariant_of-self : goal.invariant_of-self
invariant_of-self g c = (
  c.self.invariant.0,
  record_goes_on g.H.HubName.terms g.H.BoundName.before g.H.BoundName.word.shards c.self.inside.worker c.self.inside.calls c.self.inside.notes.seen c.begin.new.self.seen
      c.begin.ensures.seen c.self.invariant.1,
  λ first is. ap (λ (b : BookView). b.book) c.in_err-sid.ensures.err ∙ c.self.invariant.2 first is,
  shown_by_same g.H.HubName.opening g.H.HubName.cap g.H.HubName.terms g.H.BoundName.before g.H.BoundName.word.shards c.self.inside.calls c.self.inside.notes.book.book
      c.begin.new.self.book.book c.begin.new.self.seen (ap (λ (b : BookView). b.book) c.in_err-sid.ensures.err)
      (shown_goes_on g.H.HubName.opening g.H.HubName.cap g.H.HubName.terms g.H.BoundName.before g.H.BoundName.word.shards c.self.inside.calls c.self.inside.notes.book.book
      c.self.inside.notes.seen c.begin.new.self.seen c.begin.ensures.seen c.self.invariant.3),
)

pub invariant_of-self-2 : goal.invariant_of-self-2
invariant_of-self-2 g c =
    let sid = c.in_ok-sid.sid in
    let is = c.began-self-inside.ensures in
    let made = c.in_ok-sid.ensures in (
      c.self.invariant.0,
      subst (λ (l : List Exchange). IsRecordSeen g.H.HubName.terms g.H.BoundName.before g.H.BoundName.word.shards c.self.inside.worker l c.begin.new.self.seen) (sym is)
          (record_with_begin g.H.HubName.terms g.H.BoundName.before g.H.BoundName.word.shards c.self.inside.worker g.H.BoundName.begun c.args.writes c.self.inside.calls
          c.self.inside.notes.seen c.begin.new.self.seen sid c.begin.ensures.seen made.first made.shows c.self.invariant.1),
      begun_since c.began-self-inside.result c.self.inside.calls sid c.args.writes c.begin.new.self.book.book is made.book,
      shown_with_begin g.H.HubName.opening g.H.HubName.cap g.H.HubName.terms g.H.BoundName.before g.H.BoundName.word.shards c.args.writes sid c.self.inside.calls
          c.began-self-inside.result c.begin.new.self.book.book c.self.inside.notes.book.book c.self.inside.notes.seen c.begin.new.self.seen is made.book c.begin.ensures.seen
          c.self.invariant.3,
    )
