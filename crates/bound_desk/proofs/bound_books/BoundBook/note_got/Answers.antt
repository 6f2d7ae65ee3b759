use Rattle.std.proofs.Common.{Bool, refl, sym, subst}
use Rattle.rows_model.specs.Placement.{shard_of}
use Rattle.key_shard.specs.declared.replies.Got.TheVariants as got
use Rattle.log_word.specs.Passes.{WordView}
use Rattle.log_word.specs.Steps.{IsSound}
use Rattle.desk_book.specs.Books.{with_lease}
use Rattle.bound_hub.specs.Gets.{got_short, IsLastStep}
use Rattle.bound_desk.specs.Bound.{BoundBookView, IsBoundBook}
use Rattle.bound_desk.specs.Writing.{IsReadyToWrite}
use Rattle.bound_desk.proofs.BoundLemmas.{leased_is_bound, noted_is_bound}
use Rattle.bound_desk.proofs.WritingLemmas.{leased_is_ready, noted_is_ready}
use Rattle.bound_desk.proofs.bound_books.BoundBook.note_got.Goals as goal

pub invariant_of-self : goal.invariant_of-self
invariant_of-self g c =
    let a = c.args in
    let opening = g.H.HubName.opening in
    let before = g.H.BoundName.before in
    let shards = g.H.BoundName.word.shards in
    let book = c.self.inside.book.book in
    let pass = c.self.inside.pass in
    let token = c.in-Lease.token in
    let last = subst (λ (v : BoundBookView). (has : Bool) × IsLastStep (shard_of a.key shards) (got_short a.key a.who a.got.now has) v.seen) (sym c.self.view_is) c.requires in
    let sound = subst (λ (w : WordView). IsSound w.shards pass.seen) c.self.invariant.0 c.sound.ensures in
    let leased =
    leased_is_bound opening shards book pass.seen a.key token (got_short a.key a.who (got.Lease token) last.0) sound
    (subst (λ x. IsLastStep (shard_of a.key shards) (got_short a.key a.who x last.0) pass.seen) c.in-Lease.is last.1)
    (record { kind = refl; on = refl; under = refl }) c.self.invariant.1 in (
      c.self.invariant.0,
      subst (λ b. IsBoundBook opening shards b pass.seen) (sym c.note_lease.ensures)
          (noted_is_bound opening shards a.who (with_lease a.key token) book pass.seen c.self.invariant.1 (λ _. leased)),
      subst (λ b. IsReadyToWrite opening before shards b pass.seen) (sym c.note_lease.ensures)
          (noted_is_ready opening before shards a.who (with_lease a.key token) book pass.seen c.self.invariant.2
          (λ _. leased_is_ready opening before shards book pass.seen a.key token c.self.invariant.2)),
      c.self.invariant.3,
    )
