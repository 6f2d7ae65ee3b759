use Rattle.std.proofs.Common.{Bool, sym, ap, ◌∙◌}
use Rattle.key_shard.specs.declared.outs.Out.{Out}
use Rattle.key_shard.specs.Permit.{same_permit}
use Rattle.key_shard.specs.Kept.{permit_of}
use Rattle.key_shard.proofs.TokenLemmas.{found-at, passes, token-named}
use Rattle.key_shard.proofs.outs.Outs.has.Goals as goal

pub returns-in-Some : goal.returns-in-Some
returns-in-Some c =
    let same : Out → Bool = λ out. same_permit c.args.grant.now (permit_of c.args.no out) in
    let found = found-at same c.token.result (λ out is. token-named c.args.no c.args.grant.now out is
    ∙ sym c.token.ensures) c.self.inside.by_token.entries c.self.invariant.in_order c.self.invariant.at_token in
    rw (← c.self.view_is) (c.is_grant.ensures ∙ sym (found ∙ ap (passes same) (sym c.in-Some.ensures.value)))

pub returns-in-None : goal.returns-in-None
returns-in-None c =
    let same : Out → Bool = λ out. same_permit c.args.grant.now (permit_of c.args.no out) in
    let found = found-at same c.token.result (λ out is. token-named c.args.no c.args.grant.now out is
    ∙ sym c.token.ensures) c.self.inside.by_token.entries c.self.invariant.in_order c.self.invariant.at_token in
    rw (← c.self.view_is) (sym (found ∙ ap (passes same) (sym c.in-None.ensures.value)))
