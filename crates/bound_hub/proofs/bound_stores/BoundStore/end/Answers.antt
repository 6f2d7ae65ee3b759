use Rattle.std.proofs.Common.{ap, ◌∙◌}
use Rattle.log_word.specs.Passes.{PassView}
use Rattle.bound_hub.proofs.ShowLemmas.{caller_goes_on}
use Rattle.bound_hub.proofs.bound_stores.BoundStore.end.Goals as goal

pub returns-clause-seen : goal.returns-clause-seen
returns-clause-seen g c =
    let now = ap (λ (p : PassView). p.seen) c.into_pass.ensures ∙ c.note-2.ensures.seen in
    caller_goes_on c.args.pass.now c.note.result c.join.new.self.seen c.make_end-closed.new.self.seen c.into_pass.result.seen c.note.ensures.note c.join.ensures.theirs c.make_end-closed.ensures.goes_on now
