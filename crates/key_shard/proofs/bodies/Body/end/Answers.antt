use Rattle.std.proofs.Common.{[], ◌∷◌, ◌++◌, ap, subst, ◌∙◌, arith}
use Rattle.key_shard.specs.declared.steps.Ended.{Ended}
use Rattle.key_shard.specs.declared.steps.Step.{Step}
use Rattle.key_shard.specs.declared.steps.Step.TheVariants.{Released}
use Rattle.rows_model.specs.declared.keys.QKey.{QKey}
use Rattle.key_shard.specs.Answers.{ended_as}
use Rattle.key_shard.specs.Kept.{Ends, terms_of, steps_of}
use Rattle.key_shard.proofs.KeptLemmas.{terms-kept}
use Rattle.key_shard.proofs.OutLemmas.{IsKept-returned, some-out, may-take-two, two-places, view-returned, ended-leaves, puts-none}
use Rattle.key_shard.proofs.PlaceLemmas.{ended-adds_none, ended-gone}
use Rattle.key_shard.proofs.TiesLemmas.{Ties-ended}
use Rattle.key_shard.proofs.bodies.Body.end.Goals as goal

pub overflow_sub-self : goal.overflow_sub-self
overflow_sub-self c = omega (arith, two-places c.args.self.now c.args.grant c.args.quar c.requires.stands c.requires.kept c.requires.out)

pub push-requires : goal.push-requires
push-requires c =
    omega (arith, two-places c.args.self.now c.args.grant c.args.quar c.requires.stands c.requires.kept c.requires.out, c.requires.kept.reserved)

pub returns-clause-kept : goal.returns-clause-kept
returns-clause-kept c =
    let old = c.args.self.now in
    let grant = c.args.grant in
    let how : Ended = ended_as c.args.quar c.args.how in
    let step : Step = Released grant.key c.args.quar.sid grant.token how in
    let same = ap (λ k. Released k c.args.quar.sid c.token-token.result c.end_entry-how.result) c.key-key.ensures
    ∙ ap (λ t. Released grant.key c.args.quar.sid t c.end_entry-how.result) c.token-token.ensures
    ∙ ap (Released grant.key c.args.quar.sid grant.token) c.end_entry-how.ensures.how in
    let pushed = c.push.ensures.items ∙ ap (λ (s : Step). old.history.steps ++ s ∷ []) same in
    let leaves = ended-leaves c.requires.kept.ties grant.key grant.token c.key-key.result c.token-token.result
    c.end_q.result c.args.quar c.end_q.new.self c.key-key.ensures c.token-token.ensures c.end_q.ensures.ended c.end_q.ensures.after c.requires.stands in
    let ends : Ends grant.key how old.entries c.end_entry-how.new.entries =
    subst (λ (k : QKey). Ends k how old.entries c.end_entry-how.new.entries) c.key-key.ensures c.end_entry-how.ensures.ends in
    let ties = Ties-ended (terms_of old) (steps_of old) old.entries.list old.leases c.end_q.new.self old.next grant.key
    c.args.quar.sid grant.token how c.end_entry-how.new.entries (puts-none c.args.quar c.args.how) ends leaves c.requires.answers c.requires.kept.ties in
    let two = two-places old grant c.args.quar c.requires.stands c.requires.kept c.requires.out in
    IsKept-returned old _ step grant 2 (may-take-two old grant c.args.quar c.requires.stands)
    (ended-adds_none (steps_of old) grant.key c.args.quar.sid grant.token how) (ended-gone (steps_of old) grant.key c.args.quar.sid grant.token how)
    c.requires.kept c.requires.out c.take.ensures pushed (terms-kept old c.end_entry-how.new.entries.room _ ends.same_room c.push.ensures.rolls) ties c.requires.kept.one_of
    (omega (arith, two)) (omega (arith, two, c.requires.kept.reserved))

pub returns-clause-step : goal.returns-clause-step
returns-clause-step c =
    let old = c.args.self.now in
    let grant = c.args.grant in
    let how : Ended = ended_as c.args.quar c.args.how in
    let same = ap (λ k. Released k c.args.quar.sid c.token-token.result c.end_entry-how.result) c.key-key.ensures
    ∙ ap (λ t. Released grant.key c.args.quar.sid t c.end_entry-how.result) c.token-token.ensures
    ∙ ap (Released grant.key c.args.quar.sid grant.token) c.end_entry-how.ensures.how in
    let pushed = c.push.ensures.items ∙ ap (λ (s : Step). old.history.steps ++ s ∷ []) same in
    view-returned old _ c.push.new.self.steps c.take.new.self (Released grant.key c.args.quar.sid grant.token how) grant
    (terms-kept old c.end_entry-how.new.entries.room _ c.end_entry-how.ensures.ends.same_room c.push.ensures.rolls) pushed c.take.ensures

pub take-requires : goal.take-requires
take-requires c = some-out c.args.self.now c.args.grant c.requires.out
