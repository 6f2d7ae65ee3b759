use Rattle.std.proofs.Common.{sym, subst}
use Rattle.key_shard.specs.declared.replies.How.TheVariants as hows
use Rattle.session_client.specs.declared.replies.Wanted.TheVariants as wanted
use Rattle.desk_book.specs.Books.{without_grant}
use Rattle.desk_book.specs.Borne.{IsBorne}
use Rattle.bound_hub.specs.Releases.{MayRelease}
use Rattle.bound_desk.specs.Bound.{BoundBookView, IsBoundBook}
use Rattle.bound_desk.specs.Writing.{IsReadyToWrite}
use Rattle.bound_desk.proofs.BoundLemmas.{book_goes_on, noted_is_bound}
use Rattle.bound_desk.proofs.GrantNotes.{spent_is_bound}
use Rattle.bound_desk.proofs.WriteLemmas.{borne_may_shift, quit_goes_on}
use Rattle.bound_desk.proofs.WritingLemmas.{noted_is_ready, ready_goes_on, spent_is_ready}
use Rattle.bound_desk.proofs.bound_books.BoundBook.shift_value.Goals as goal

pub release-answer-requires-clause-honest : goal.release-answer-requires-clause-honest
release-answer-requires-clause-honest g c =
    let a = c.args in
    let opening = g.H.HubName.opening in
    let shards = g.H.BoundName.word.shards in
    let seen = c.self.inside.pass.seen in
    let borne = subst (λ (v : BoundBookView). IsBorne v.book.book a.who (wanted.Apply a.grant a.stamp)) (sym c.self.view_is) c.requires.borne in
    subst (λ n. MayRelease opening shards n a.grant (hows.Shift a.stamp) seen) (sym c.requires.place)
    (borne_may_shift opening g.H.BoundName.before shards c.self.inside.book.book seen a.who a.grant a.stamp c.self.invariant.2 c.requires.mode c.requires.count borne)

pub invariant_of-self : goal.invariant_of-self
invariant_of-self g c =
    let opening = g.H.HubName.opening in
    let before = g.H.BoundName.before in
    let shards = g.H.BoundName.word.shards in
    let who = c.args.who in
    let book = c.self.inside.book.book in
    let seen = c.release-answer.new.pass.seen in
    let ticket = c.of-ticket.result in
    let still = book_goes_on opening shards book c.self.inside.pass.seen seen c.release-answer.ensures.seen c.self.invariant.1 in
    let ready = ready_goes_on opening before shards book c.self.inside.pass.seen seen c.release-answer.ensures.seen c.self.invariant.2 in (
      c.release-answer.ensures.word,
      subst (λ b. IsBoundBook opening shards b seen) (sym c.note_spent.ensures)
          (noted_is_bound opening shards who (without_grant ticket) book seen still (λ _. spent_is_bound opening shards book seen ticket still)),
      subst (λ b. IsReadyToWrite opening before shards b seen) (sym c.note_spent.ensures)
          (noted_is_ready opening before shards who (without_grant ticket) book seen ready (λ _. spent_is_ready opening before shards book seen ticket ready)),
      quit_goes_on c.self.inside.quit c.self.inside.pass.seen seen c.release-answer.ensures.seen c.self.invariant.3,
    )
