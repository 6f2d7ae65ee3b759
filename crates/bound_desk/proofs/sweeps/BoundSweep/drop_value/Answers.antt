use Rattle.bound_desk.proofs.SweepLemmas.{found_goes_on}
use Rattle.bound_desk.proofs.sweeps.BoundSweep.drop_value.Goals as goal

pub sweep-requires-clause-over : goal.sweep-requires-clause-over
sweep-requires-clause-over g c = (c.self.invariant.1 c.in-Some.found c.in-Some.is).over c.if-not-found.false

pub invariant_of-self : goal.invariant_of-self
invariant_of-self g c = (
  c.sweep.ensures.word,
  found_goes_on c.self.inside.pass.seen c.sweep.new.pass.seen c.self.inside.found c.sweep.ensures.seen c.self.invariant.1,
)
