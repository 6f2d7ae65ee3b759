use Rattle.std.proofs.Common.{◌≡◌, ◌⊎◌, sym, subst}
use Rattle.session_client.specs.declared.replies.Wanted.TheVariants as wanted
use Rattle.desk_book.specs.Borne.{IsBorne}
use Rattle.bound_hub.specs.Asked.{MaySet}
use Rattle.bound_desk.specs.Bound.{BoundBookView}
use Rattle.bound_desk.proofs.BoundLemmas.{book_goes_on, borne_may_set}
use Rattle.bound_desk.proofs.WriteLemmas.{quit_goes_on}
use Rattle.bound_desk.proofs.WritingLemmas.{ready_goes_on}
use Rattle.bound_desk.proofs.bound_books.BoundBook.set.Goals as goal

pub set-requires-clause-asked : goal.set-requires-clause-asked
set-requires-clause-asked g c =
    let a = c.args in
    let borne = subst (λ (v : BoundBookView). (a.token ≡ 0) ⊎ IsBorne v.book.book a.who (wanted.Set a.key a.token a.value a.stamp)) (sym c.self.view_is) c.requires.borne in
    subst (λ n. MaySet g.H.HubName.opening g.H.BoundName.word.shards n a.key a.token a.value a.stamp c.self.inside.pass.seen) (sym c.requires.place)
    (borne_may_set g.H.HubName.opening g.H.BoundName.word.shards c.self.inside.book.book c.self.inside.pass.seen a.who a.key a.token a.value a.stamp c.self.invariant.1 borne)

pub invariant_of-self : goal.invariant_of-self
invariant_of-self g c = (
  c.set.ensures.word,
  book_goes_on g.H.HubName.opening g.H.BoundName.word.shards c.self.inside.book.book c.self.inside.pass.seen c.set.new.pass.seen c.set.ensures.seen c.self.invariant.1,
  ready_goes_on g.H.HubName.opening g.H.BoundName.before g.H.BoundName.word.shards c.self.inside.book.book c.self.inside.pass.seen c.set.new.pass.seen c.set.ensures.seen c.self.invariant.2,
  quit_goes_on c.self.inside.quit c.self.inside.pass.seen c.set.new.pass.seen c.set.ensures.seen c.self.invariant.3,
)
