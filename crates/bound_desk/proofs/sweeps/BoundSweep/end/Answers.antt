use Rattle.std.proofs.Common.{◌≡◌, true, sym, subst, ◌∙◌}
use Rattle.std.proofs.lemmas.Bool.{eqb-true}
use Rattle.std.proofs.lemmas.Option.{same_Some}
use Rattle.log_word.specs.Events.{is_over}
use Rattle.log_word.specs.Passes.{WordView}
use Rattle.log_word.specs.Steps.{IsSound}
use Rattle.bound_hub.specs.Sweeps.{HasSeenGrant}
use Rattle.bound_desk.specs.Swept.{IsFoundSeen}
use Rattle.bound_desk.proofs.SweepLemmas.{ended_is_over, found_goes_on}
use Rattle.bound_desk.proofs.sweeps.BoundSweep.end.Goals as goal

pub invariant_of-self-else-eq : goal.invariant_of-self-else-eq
invariant_of-self-else-eq g c = (
  c.end-closed.ensures.word,
  found_goes_on c.self.inside.pass.seen c.end-closed.new.pass.seen c.self.inside.found c.end-closed.ensures.seen c.self.invariant.1,
)

pub invariant_of-self-2 : goal.invariant_of-self-2
invariant_of-self-2 g c =
    let seen = c.end-closed.new.pass.seen in
    let found = c.in-Some.found in
    let who = c.args.who in
    let still = found_goes_on c.self.inside.pass.seen seen c.self.inside.found c.end-closed.ensures.seen c.self.invariant.1 found c.in-Some.is in
    let same = eqb-true found.due.sid.number who.number (sym c.eq.ensures ∙ c.if-eq.true) in
    let sound = subst (λ (w : WordView). IsSound w.shards seen) c.end-closed.ensures.word c.sound.ensures in
    let granted = subst (λ n. HasSeenGrant found.place found.due.key n found.due.token seen) same still.granted in
    let over = ended_is_over g.H.BoundName.word.shards seen who c.end-closed.result.was found.place found.due.key found.due.token sound c.end-closed.ensures.shows granted in (
      c.end-closed.ensures.word,
      λ one is. subst (IsFoundSeen seen) (same_Some (record { place = found.place; due = found.due; ended = true }) one is)
          (record { granted = still.granted; over = λ _. subst (λ n. is_over n seen.events ≡ true) (sym same) over }),
    )
