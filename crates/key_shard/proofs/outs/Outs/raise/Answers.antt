use Rattle.std.proofs.Common.{◌≡◌, Bool, true, Option, Some, None, map, refl, sym, ap, ◌∙◌, IsSome, MutBor}
use Rattle.std.specs.Map.{values_of, lookup}
use Rattle.std.specs.Option.{option_copied_mut}
use Rattle.std.specs.BTreeMap.{is_at}
use Rattle.std.specs.Ordering.{nat_cmp}
use Rattle.key_shard.specs.declared.outs.Out.{Out}
use Rattle.key_shard.specs.Permit.{same_permit}
use Rattle.key_shard.specs.Kept.{is_for, permit_of, raised_out}
use Rattle.key_shard.proofs.TokenLemmas.{AreByToken-raised, values-raised, found-at, lifted, passes-some, same-for, token-named}
use Rattle.key_shard.proofs.outs.Outs.raise.Goals as goal

-- what is there to be copied is there
some-copied : (r : Option (MutBor Out)) (out : Out) → option_copied_mut r ≡ Some out → IsSome r
some-copied None out e = cc
some-copied (Some r) out e = refl

some_one : {a b : Out} → Some a ≡ Some b → a ≡ b
some_one e = cc

pub unwrap-out-requires : goal.unwrap-out-requires
unwrap-out-requires c =
    let same : Out → Bool = λ out. same_permit c.args.grant.now (permit_of c.args.no out) in
    let found = found-at same c.token.result (λ out is. token-named c.args.no c.args.grant.now out is
    ∙ sym c.token.ensures) c.self.inside.by_token.entries c.self.invariant.in_order c.self.invariant.at_token in
    let some = rw (← c.self.view_is) at c.requires in
    let there = passes-some same (lookup (is_at (nat_cmp c.token.result)) c.self.inside.by_token.entries) (sym found ∙ some) in
    some-copied c.get_mut.result there.0 (c.get_mut.ensures.value ∙ there.1)

pub invariant_of-self : goal.invariant_of-self
invariant_of-self c =
    let out = c.unwrap-out.result.now in
    let at : lookup (is_at (nat_cmp c.token.result)) c.self.inside.by_token.entries ≡ Some out =
    sym c.get_mut.ensures.value ∙ ap option_copied_mut c.unwrap-out.ensures in
    let writes = c.get_mut.follows.holds (lifted out) in
    AreByToken-raised c.self.inside.by_token (c.get_mut.follows.lender (lifted out)) c.args.grant.now.key c.token.result out c.self.invariant at
    writes.0 writes.4

pub returns : goal.returns
returns c =
    let same : Out → Bool = λ out. same_permit c.args.grant.now (permit_of c.args.no out) in
    let found = found-at same c.token.result (λ out is. token-named c.args.no c.args.grant.now out is
    ∙ sym c.token.ensures) c.self.inside.by_token.entries c.self.invariant.in_order c.self.invariant.at_token in
    let some = rw (← c.self.view_is) at c.requires in
    let there = passes-some same (lookup (is_at (nat_cmp c.token.result)) c.self.inside.by_token.entries) (sym found ∙ some) in
    let out = c.unwrap-out.result.now in
    let at : lookup (is_at (nat_cmp c.token.result)) c.self.inside.by_token.entries ≡ Some out =
    sym c.get_mut.ensures.value ∙ ap option_copied_mut c.unwrap-out.ensures in
    let one : there.0 ≡ out = some_one (sym there.1 ∙ at) in
    let for : is_for c.args.grant.now.key c.token.result out ≡ true =
    ap (λ t. is_for c.args.grant.now.key t out) c.token.ensures
    ∙ same-for c.args.no c.args.grant.now out (ap same (sym one) ∙ there.2) in
    let writes = c.get_mut.follows.holds (lifted out) in
    rw (← c.self.view_is) (values-raised c.self.inside.by_token (c.get_mut.follows.lender (lifted out)) c.args.grant.now.key c.token.result out
    c.self.invariant at writes.0 for
    ∙ ap (λ t. map (raised_out c.args.grant.now.key t) (values_of c.self.inside.by_token.entries)) c.token.ensures)
