use Rattle.std.proofs.Common.{ap, subst, ◌∙◌}
use Rattle.log_word.specs.Passes.{PassView}
use Rattle.log_word.specs.Steps.{IsBeginning}
use Rattle.bound_hub.proofs.FreshLemmas.{begins_on}
use Rattle.bound_hub.proofs.bound_shards.BoundShard.raise.Goals as goal

pub returns-clause-seen : goal.returns-clause-seen
returns-clause-seen g c =
    let here = c.join.new.self in
    let made = c.make_raise-result in
    begins_on c.args.pass.now.seen here.seen made.new.self.seen c.into_pass.result.seen (subst (λ (p : PassView). IsBeginning p.seen here.seen) c.note.ensures.note c.join.ensures.theirs)
    made.ensures.goes_on (ap (λ (p : PassView). p.seen) c.into_pass.ensures ∙ made.ensures.note.1)

pub returns-clause-here : goal.returns-clause-here
returns-clause-here g c =
    let here = c.join.new.self in
    let made = c.make_raise-result in
    begins_on c.args.self.now.seen here.seen made.new.self.seen c.into_pass.result.seen c.join.ensures.mine made.ensures.goes_on
    (ap (λ (p : PassView). p.seen) c.into_pass.ensures ∙ made.ensures.note.1)
