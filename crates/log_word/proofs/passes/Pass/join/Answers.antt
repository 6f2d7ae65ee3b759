use Rattle.std.proofs.Common.{◌≡◌, sym, ap, ◌∙◌, subst}
use Rattle.log_word.specs.declared.seen.View.{View}
use Rattle.log_word.specs.Passes.{WordView, PassView, IsTogether}
use Rattle.log_word.proofs.CallLemmas.{gathered_seat, gathered_together}
use Rattle.log_word.proofs.passes.Pass.join.Goals as goal

pub invariant_of-self : goal.invariant_of-self
invariant_of-self c =
    let mine = c.self.inside.seat in
    let other = c.note.inside.seat in
    let same : other.me.0.shards ≡ mine.me.0.shards =
    ap (λ (v : PassView). v.word.shards) c.note.view_is ∙ ap (λ (w : WordView). w.shards) (c.requires.note ∙ sym c.requires.word)
    ∙ sym (ap (λ (v : PassView). v.word.shards) c.self.view_is) in (
      ap (λ (u : View). u.part) c.gather.ensures.seat.view_is
          ∙ c.self.invariant.0,
      gathered_seat mine other c.gather.new.seat c.gather.ensures.seat c.gather.ensures.begun same c.self.invariant.1 c.note.invariant.1,
    )

pub returns-clause-together : goal.returns-clause-together
returns-clause-together c =
    let new = c.gather.new.seat in
    subst (λ (v : PassView). IsTogether v.seen c.args.note.seen new.me.0.seen) c.self.view_is
    (subst (λ (v : PassView). IsTogether c.self.inside.seat.me.0.seen v.seen new.me.0.seen) c.note.view_is
    (gathered_together c.self.inside.seat c.note.inside.seat new c.gather.ensures.seat c.gather.ensures.begun))
