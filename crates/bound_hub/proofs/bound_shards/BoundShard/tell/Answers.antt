use Rattle.std.proofs.Common.{sym, ap, subst, ◌∙◌}
use Rattle.key_shard.specs.Shards.{ShardView}
use Rattle.shard_lock.specs.Names.{IsNamed}
use Rattle.log_word.specs.declared.seen.Seen.{Seen}
use Rattle.log_word.specs.Passes.{PassView}
use Rattle.log_word.specs.Steps.{IsBeginning}
use Rattle.bound_hub.specs.Spent.{HasSeenAll}
use Rattle.bound_hub.proofs.bound_shards.BoundShard.tell.Goals as goal

pub returns-clause-named : goal.returns-clause-named
returns-clause-named g c = subst (λ (v : ShardView). IsNamed g.H.HubName.terms v) c.join.ensures.shard c.whole_note.ensures.named

pub returns-clause-seen : goal.returns-clause-seen
returns-clause-seen g c =
    let here = c.join.new.self.seen in
    let now = ap (λ (p : PassView). p.seen) c.into_pass.ensures ∙ c.whole_note.ensures.seen in
    subst (IsBeginning c.args.pass.now.seen) (sym now) (subst (λ (p : PassView). IsBeginning p.seen here) c.note.ensures.note c.join.ensures.theirs)

pub returns-clause-whole : goal.returns-clause-whole
returns-clause-whole g c =
    let before = g.H.BoundName.before in
    let now = ap (λ (p : PassView). p.seen) c.into_pass.ensures in
    subst (λ (v : ShardView). HasSeenAll (before v.terms.no) v c.into_pass.result.seen) c.join.ensures.shard
    (subst (λ (s : Seen). HasSeenAll (before c.join.new.self.shard.terms.no) c.join.new.self.shard s) (sym now) c.whole_note.ensures.whole)
