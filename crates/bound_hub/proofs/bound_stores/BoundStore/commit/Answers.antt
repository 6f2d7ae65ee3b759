use Rattle.std.proofs.Common.{is_none, ap, subst, ◌∙◌}
use Rattle.log_word.specs.Passes.{PassView}
use Rattle.log_word.specs.Steps.{IsBeginning}
use Rattle.bound_hub.proofs.GrantLemmas.{all_go_on}
use Rattle.bound_hub.proofs.ShowLemmas.{caller_goes_on}
use Rattle.bound_hub.proofs.TrueLogLemmas.{commit_is_late}
use Rattle.bound_hub.proofs.bound_stores.BoundStore.commit.Goals as goal

pub returns-clause-seen : goal.returns-clause-seen
returns-clause-seen g c =
    let now = ap (λ (p : PassView). p.seen) c.into_pass.ensures ∙ c.note-2.ensures.seen in
    caller_goes_on c.args.pass.now c.note.result c.join.new.self.seen c.make_commit-made.new.self.seen c.into_pass.result.seen c.note.ensures.note c.join.ensures.theirs c.make_commit-made.ensures.goes_on now

pub make_commit-made-requires-clause-granted : goal.make_commit-made-requires-clause-granted
make_commit-made-requires-clause-granted g c =
    all_go_on g.H.BoundName.word.shards c.args.pass.now.seen c.join.new.self.seen c.args.grants.now
    (subst (λ (p : PassView). IsBeginning p.seen c.join.new.self.seen) c.note.ensures.note c.join.ensures.theirs) c.requires.granted

pub returns-clause-late : goal.returns-clause-late
returns-clause-late g c =
    let made = c.make_commit-made in
    commit_is_late g.H.HubName.opening g.H.HubName.cap c.args.sid c.args.txn c.args.grants.now c.args.pass.now.seen c.join.new.self.seen made.new.self.seen (is_none made.new.self.store.known_rows)
    made.result.0 _ (subst (λ (p : PassView). IsBeginning p.seen c.join.new.self.seen) c.note.ensures.note c.join.ensures.theirs) made.ensures.seen made.ensures.ok
