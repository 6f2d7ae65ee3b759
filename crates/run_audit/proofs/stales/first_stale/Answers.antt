use Rattle.std.proofs.Common.{◌≡◌, ◌+◌, ◌∷◌, take, reverse, rules, arith, sym, ap, ◌∙◌}
use Rattle.std.proofs.lemmas.List.{take_all}
use Rattle.key_shard.specs.declared.steps.Step.{Step}
use Rattle.run_audit.proofs.ListLemmas.{clash, reverse-more}
use Rattle.run_audit.proofs.FloorLemmas.{floors-none, floors-more}
use Rattle.run_audit.proofs.StaleLemmas.{fresh-more, stale-found}
use Rattle.run_audit.proofs.stales.first_stale.Goals as goal

pub loop-place-init : goal.loop-place-init
loop-place-init c = λ opening log are. (tt, floors-none log c.new-floors.result (λ key. search rules))

pub returns-then-not-is_fresh : goal.returns-then-not-is_fresh
returns-then-not-is_fresh c = λ opening log are.
    let before = c.loop-place.invariant opening log are in
    let past = reverse (take c.loop-place.place c.args.history.now) in
    stale-found opening log c.args.history.now c.loop-place.place c.index-history-place.result (omega arith) c.index-history-place.is
    (λ fresh. clash ((c.is_fresh.ensures opening log past are before.1).1 fresh) c.if-not-is_fresh.true) before.0

pub loop-place-preserved : goal.loop-place-preserved
loop-place-preserved c = λ opening log are.
    let before = c.loop-place.invariant opening log are in
    let i = c.loop-place.place in
    let one = c.index-history-place.result in
    let history = c.args.history.now in
    let past = reverse (take i history) in
    let more : reverse (take (i + 1) history) ≡ one ∷ past =
    reverse-more history i one (omega arith) ∙ ap (λ (x : Step). x ∷ past) (sym c.index-history-place.is) in (
      fresh-more opening log history i one (omega arith) c.index-history-place.is
          ((c.is_fresh.ensures opening log past are before.1).0 c.if-not-is_fresh.false) before.0,
      rw more (floors-more log past one c.args.notes.now.numbers c.loop-place.floors c.raise_floor.new.floors are.numbers before.1 c.in_ok-raise_floor.ensures),
    )

pub returns : goal.returns
returns c = λ opening log are.
    let before = c.loop-place.invariant opening log are in
    rw (take_all c.loop-place.place c.args.history.now (omega arith)) at before.0
