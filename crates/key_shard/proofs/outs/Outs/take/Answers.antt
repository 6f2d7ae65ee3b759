use Rattle.std.proofs.Common.{Bool, sym, ap, ◌∙◌}
use Rattle.std.specs.Map.{values_of}
use Rattle.key_shard.specs.declared.outs.Out.{Out}
use Rattle.key_shard.specs.Permit.{same_permit}
use Rattle.key_shard.specs.Kept.{permit_of}
use Rattle.key_shard.proofs.TokenLemmas.{AreByToken-taken, taken-at, token-named}
use Rattle.key_shard.proofs.outs.Outs.take.Goals as goal

pub invariant_of-self : goal.invariant_of-self
invariant_of-self c =
    AreByToken-taken c.self.inside.by_token c.remove.new.self c.token.result c.self.invariant c.remove.ensures.entries c.remove.ensures.ordered

pub returns : goal.returns
returns c =
    let same : Out → Bool = λ out. same_permit c.args.grant.now (permit_of c.args.no out) in
    let some = rw (← c.self.view_is) at c.requires in
    let taken = taken-at same c.token.result (λ out is. token-named c.args.no c.args.grant.now out is
    ∙ sym c.token.ensures) c.self.inside.by_token.entries c.self.invariant.in_order c.self.invariant.at_token some in
    rw (← c.self.view_is) (ap values_of c.remove.ensures.entries ∙ taken)
