use Rattle.std.proofs.Common.{ap, ◌∙◌, arith, List, ◌++◌, ◌∷◌, []}
use Rattle.key_shard.specs.declared.steps.Step.{Step}
use Rattle.key_shard.specs.declared.steps.Step.TheVariants.{Renewed}
use Rattle.key_shard.specs.Past.{deadline_at}
use Rattle.key_shard.specs.Kept.{terms_of, steps_of}
use Rattle.key_shard.proofs.KeptLemmas.{IsKept-after, terms-rolled}
use Rattle.key_shard.proofs.OutRaises.{IsOut-renewed, held-renewed, places-renewed, renew-leaves}
use Rattle.key_shard.proofs.TiesLemmas.{Ties-renewed}
use Rattle.key_shard.proofs.bodies.Body.prolong.Goals as goal

pub returns-clause-kept : goal.returns-clause-kept
returns-clause-kept c =
    let old = c.args.self.now in
    let grant = c.args.grant.now in
    let until = deadline_at (terms_of old) c.args.now in
    let step : Step = Renewed grant.key grant.sid grant.token c.args.now until in
    let same = ap (λ k. Renewed k c.sid-sid.result c.token-token.result c.args.now c.deadline-deadline.result) c.key-key.ensures
    ∙ ap (λ s. Renewed grant.key s c.token-token.result c.args.now c.deadline-deadline.result) c.sid-sid.ensures
    ∙ ap (λ t. Renewed grant.key grant.sid t c.args.now c.deadline-deadline.result) c.token-token.ensures
    ∙ ap (Renewed grant.key grant.sid grant.token c.args.now) c.deadline-deadline.ensures in
    let pushed = c.push.ensures.items
    ∙ ap (λ (h : List Step). h ++ Renewed c.key-key.result c.sid-sid.result c.token-token.result c.args.now c.deadline-deadline.result ∷ []) c.make_room.ensures.items
    ∙ ap (λ (s : Step). old.history.steps ++ s ∷ []) same in
    let leaves = renew-leaves c.requires.kept.ties grant.key c.key-key.result grant.token c.token-token.result until c.deadline-deadline.result
    c.renew.result c.renew.new.self c.key-key.ensures c.token-token.ensures c.deadline-deadline.ensures c.renew.ensures.told c.renew.ensures.after
    c.requires.stands in
    let ties = Ties-renewed (terms_of old) (steps_of old) old.entries.list old.leases c.renew.new.self old.next grant.key grant.sid grant.token c.args.now until
    leaves c.requires.answers c.requires.kept.ties in
    let places = places-renewed (terms_of old) (steps_of old) grant.key grant.sid grant.token c.args.now until old.out c.requires.kept.outs in
    IsKept-after old _ step pushed (terms-rolled old (c.push.ensures.rolls ∙ c.make_room.ensures.rolls)) ties c.requires.kept.one_of
    (IsOut-renewed (terms_of old) (steps_of old) grant.key grant.sid grant.token c.args.now until old.out c.requires.kept.outs)
    (held-renewed (steps_of old) grant.key grant.sid grant.token c.args.now until old.out c.requires.kept.held)
    (omega (arith, places, c.requires.kept.promises))
    (omega (arith, c.in_ok-make_room.ensures.ok, c.push.ensures.len, c.push.ensures.capacity))
