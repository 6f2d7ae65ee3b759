use Rattle.std.proofs.Common.{◌≡◌, true, None, w32, sym, ap, subst, ◌∙◌}
use Rattle.std.proofs.lemmas.Int.{to_z-of_z}
use Rattle.log_word.specs.Passes.{WordView}
use Rattle.log_word.specs.Steps.{IsSound}
use Rattle.desk_book.specs.Books.{noted_for, with_grant}
use Rattle.bound_hub.specs.Shorts.{is_alone}
use Rattle.bound_hub.specs.Stores.{IsGrantSeen}
use Rattle.bound_desk.specs.Bound.{BoundBookView, IsBoundBook}
use Rattle.bound_desk.specs.Writing.{IsReadyToWrite, StoodAlone}
use Rattle.bound_desk.proofs.BoundLemmas.{noted_is_bound}
use Rattle.bound_desk.proofs.GrantNotes.{granted_is_bound}
use Rattle.bound_desk.proofs.WritingLemmas.{granted_is_ready, noted_is_ready}
use Rattle.bound_desk.proofs.bound_books.BoundBook.note_grant.Goals as goal

pub invariant_of-self : goal.invariant_of-self
invariant_of-self g c =
    let a = c.args in
    let opening = g.H.HubName.opening in
    let before = g.H.BoundName.before in
    let shards = g.H.BoundName.word.shards in
    let book = c.self.inside.book.book in
    let seen = c.self.inside.pass.seen in
    let sound = subst (λ (w : WordView). IsSound w.shards seen) c.self.invariant.0 c.sound.ensures in
    let granted = subst (λ (v : BoundBookView). IsGrantSeen shards v.seen a.ticket) (sym c.self.view_is) c.requires.granted in
    let stood = subst (λ (v : BoundBookView). is_alone a.ticket.mode ≡ true → StoodAlone opening before shards v.seen (record { permit = a.ticket; old = a.old; by = a.by }))
    (sym c.self.view_is) c.requires.alone in
    let is = c.note_grant.ensures ∙ ap (λ by. noted_for a.who (with_grant a.ticket a.old by) book) (to_z-of_z w32 a.by c.ranges.by) in
    let none = subst (λ (v : BoundBookView). v.book.book.commit ≡ None) (sym c.self.view_is) c.requires.none in (
      c.self.invariant.0,
      subst (λ b. IsBoundBook opening shards b seen) (sym is)
          (noted_is_bound opening shards a.who (with_grant a.ticket a.old a.by) book seen c.self.invariant.1
          (λ _. granted_is_bound opening shards book seen a.ticket a.old a.by granted c.self.invariant.1)),
      subst (λ b. IsReadyToWrite opening before shards b seen) (sym is)
          (noted_is_ready opening before shards a.who (with_grant a.ticket a.old a.by) book seen c.self.invariant.2
          (λ _. granted_is_ready opening before shards book seen a.ticket a.old a.by sound none stood c.self.invariant.2)),
      c.self.invariant.3,
    )
