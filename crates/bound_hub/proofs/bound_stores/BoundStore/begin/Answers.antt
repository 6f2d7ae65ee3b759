use Rattle.std.proofs.Common.{ap, subst, ◌∙◌}
use Rattle.log_word.specs.Passes.{PassView}
use Rattle.log_word.specs.Steps.{IsBeginning}
use Rattle.bound_hub.proofs.ShowLemmas.{caller_goes_on, not_begun_before}
use Rattle.bound_hub.proofs.bound_stores.BoundStore.begin.Goals as goal

pub returns-clause-seen : goal.returns-clause-seen
returns-clause-seen g c =
    let now = ap (λ (p : PassView). p.seen) c.into_pass.ensures ∙ c.note-2.ensures.seen in
    caller_goes_on c.args.pass.now c.note.result c.join.new.self.seen c.make_begin-begun.new.self.seen c.into_pass.result.seen c.note.ensures.note c.join.ensures.theirs c.make_begin-begun.ensures.goes_on now

pub returns-clause-first : goal.returns-clause-first
returns-clause-first g c =
    let here = c.join.new.self.seen in
    let theirs = subst (λ (p : PassView). IsBeginning p.seen here) c.note.ensures.note c.join.ensures.theirs in
    not_begun_before c.args.pass.now.seen here c.make_begin-begun.result theirs c.make_begin-begun.ensures.first
