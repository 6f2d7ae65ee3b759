use Rattle.key_shard.proofs.TokenLemmas.{AreByToken-added, values-added}
use Rattle.key_shard.proofs.outs.Outs.add.Goals as goal

pub invariant_of-self-2 : goal.invariant_of-self-2
invariant_of-self-2 c =
    let below = rw (← c.self.view_is) at c.requires in
    AreByToken-added c.self.inside.by_token c.insert.new.self c.args.out c.self.invariant below c.in_ok-insert.ensures.entries c.in_ok-insert.ensures.ordered

pub returns-clause-ok : goal.returns-clause-ok
returns-clause-ok c =
    let below = rw (← c.self.view_is) at c.requires in
    rw (← c.self.view_is) (values-added c.self.inside.by_token c.insert.new.self c.args.out c.self.invariant below c.in_ok-insert.ensures.entries)
