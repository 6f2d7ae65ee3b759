use Rattle.std.proofs.Common.{◌≡◌, Option, true, false, refl, sym, subst, arith}
use Rattle.std.specs.Prelude.{IfSome}
use Rattle.std.proofs.lemmas.Bool.{false≢true}
use Rattle.lease_table.specs.declared.records.Lapse.{Lapse}
use Rattle.key_shard.specs.declared.steps.Step.{Step}
use Rattle.key_shard.specs.declared.steps.Step.TheVariants as step
use Rattle.key_shard.specs.Past.{entry}
use Rattle.key_shard.specs.Shards.{past_of, stepped}
use Rattle.log_word.specs.Steps.{IsBeginning, IsBorneOut}
use Rattle.bound_hub.specs.Ties.{BoundShardView}
use Rattle.bound_hub.proofs.GetLemmas.{has_mapped}
use Rattle.bound_hub.proofs.StepTies.{has_stepped, told_so, invariant_after, step_is_more}
use Rattle.bound_hub.proofs.bound_shards.BoundShard.lapse.Goals as goal

pub add-requires-clause-borne_out : goal.add-requires-clause-borne_out
add-requires-clause-borne_out g c =
    subst (IsBorneOut c.self.inside.pass.seen.events) (sym c.set_short-short.ensures)
    (record { begun = λ e. absurd (false≢true e); over = λ e. absurd (false≢true e); stamped = omega arith })

pub invariant_of-self-2 : goal.invariant_of-self-2
invariant_of-self-2 g c =
    let shard = c.self.inside.shard in
    let pass = c.self.inside.pass in
    let lapse = c.in-Some.lapse in
    let s : Step = step.Void lapse.key lapse.token c.args.now in
    let made = subst (λ (o : Option Lapse). IfSome o (λ l. c.lapse.new.self ≡ stepped shard (step.Void l.key l.token c.args.now)))
    c.in-Some.is c.in_ok-lapse.ensures.step in
    let has = has_mapped _ c.peek.result (entry lapse.key (past_of c.lapse.new.self)) c.is_some-has.result c.is_some-has.ensures c.peek.ensures in
    invariant_after g.H.HubName.terms c.self.inside.token.parts c.self.inside.token.amount g.H.BoundName.word g.H.HubName.opening g.H.BoundName.before
    shard pass c.self.invariant c.sound.ensures s
    (record { own = tt; honest = tt; true_step = λ _. tt; fresh_step = λ _. tt }) c.lapse.new.self (has_stepped shard c.lapse.new.self s made)
    c.set_short-short.result c.add.new.self
    (told_so s c.set_short-short.result c.is_some-has.result lapse.key c.lapse.new.self pass c.add.new.self c.set_short-short.ensures refl has
    c.add.ensures.word c.add.ensures.shard c.add.ensures.seen)

pub returns-clause-here : goal.returns-clause-here
returns-clause-here g c =
    subst (λ (v : BoundShardView). IsBeginning v.seen c.add.new.self.seen) c.self.view_is
    (step_is_more c.self.inside.pass.shard c.set_short-short.result c.self.inside.pass.seen c.add.new.self.seen c.add.ensures.seen)
