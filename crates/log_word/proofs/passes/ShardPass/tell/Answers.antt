use Rattle.std.proofs.Common.{refl, sym, subst}
use Rattle.log_word.specs.declared.seen.View.{View}
use Rattle.log_word.specs.Steps.{IsBorneOut}
use Rattle.log_word.specs.Rule.{IsShard}
use Rattle.log_word.specs.Views.{shard_number, view_with_step}
use Rattle.log_word.specs.Passes.{ShardPassView}
use Rattle.log_word.proofs.SoundLemmas.{sound_with_step}
use Rattle.log_word.proofs.CallLemmas.{seat_after, seat_noted}
use Rattle.log_word.proofs.passes.ShardPass.tell.Goals as goal

pub invariant_of-self : goal.invariant_of-self
invariant_of-self c =
    let seat = c.self.inside.seat in
    let mine = seat.me.0 in
    let step = c.args.step.now in
    let is = c.self.invariant.1 in
    let borne_out : IsBorneOut mine.seen.events step = subst (λ (v : ShardPassView). IsBorneOut v.seen.events step) (sym c.self.view_is) c.requires.borne_out in (
      subst (λ (u : View). IsShard u.part) (sym c.tell.ensures.seat.view_is) c.self.invariant.0,
      seat_after (view_with_step step mine) seat c.tell.new.seat c.tell.ensures.seat is.empty refl
          (sound_with_step mine.shards mine.seen (shard_number mine.part) step is.sound borne_out),
    )

pub invariant_of-result : goal.invariant_of-result
invariant_of-result c =
    let mine = c.self.inside.seat.me.0 in
    let step = c.args.step.now in
    let borne_out : IsBorneOut mine.seen.events step = subst (λ (v : ShardPassView). IsBorneOut v.seen.events step) (sym c.self.view_is) c.requires.borne_out in
    seat_noted (view_with_step step mine) c.tell.result c.tell.ensures.note (sound_with_step mine.shards mine.seen (shard_number mine.part) step c.self.invariant.1.sound borne_out)
