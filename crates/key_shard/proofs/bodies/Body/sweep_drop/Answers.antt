use Rattle.std.proofs.Common.{◌≡◌, refl, arith, Some}
use Rattle.lease_table.specs.declared.records.Quar.{Quar}
use Rattle.key_shard.specs.declared.steps.Ended.TheVariants as ended
use Rattle.key_shard.specs.declared.steps.Step.{Step}
use Rattle.key_shard.specs.declared.steps.Step.TheVariants.{Released}
use Rattle.key_shard.specs.Past.{quar_of}
use Rattle.key_shard.specs.Kept.{terms_of, steps_of}
use Rattle.key_shard.proofs.EndLemmas.{Ends-drop}
use Rattle.key_shard.proofs.KeptLemmas.{IsKept-after, IsOut-later, held-later, terms-kept}
use Rattle.key_shard.proofs.OutLemmas.{stands-found}
use Rattle.key_shard.proofs.PlaceLemmas.{ended-adds_none, stood-still, places-dropped}
use Rattle.key_shard.proofs.SweepLemmas.{sweep-answers}
use Rattle.key_shard.proofs.TiesLemmas.{Ties-ended}
use Rattle.key_shard.proofs.bodies.Body.sweep_drop.Goals as goal

pub overflow_sub-self : goal.overflow_sub-self
overflow_sub-self c =
    let old = c.args.self.now in
    let stands = stands-found c.requires.kept.ties c.args.key c.args.token c.args.key c.args.token (Some c.in-Some.quar) refl refl c.in-Some.ensures.ended in
    let fewer = places-dropped (terms_of old) (steps_of old) c.args.key c.in-Some.quar.sid
    c.args.token ended.Drop c.in-Some.quar stands old.out c.requires.kept.outs (c.requires.kept.held c.args.key c.args.token c.in-Some.quar stands) in
    omega (arith, fewer, c.requires.kept.promises)

pub push-requires : goal.push-requires
push-requires c =
    let old = c.args.self.now in
    let stands = stands-found c.requires.kept.ties c.args.key c.args.token c.args.key c.args.token (Some c.in-Some.quar) refl refl c.in-Some.ensures.ended in
    let fewer = places-dropped (terms_of old) (steps_of old) c.args.key c.in-Some.quar.sid
    c.args.token ended.Drop c.in-Some.quar stands old.out c.requires.kept.outs (c.requires.kept.held c.args.key c.args.token c.in-Some.quar stands) in
    omega (arith, fewer, c.requires.kept.promises, c.requires.kept.reserved)

pub returns-clause-kept : goal.returns-clause-kept
returns-clause-kept c =
    let old = c.args.self.now in
    let quar : Quar = c.in-Some.quar in
    let step : Step = Released c.args.key quar.sid c.args.token ended.Drop in
    let stands : quar_of c.args.key c.args.token (steps_of old) ≡ Some quar =
    stands-found c.requires.kept.ties c.args.key c.args.token c.args.key c.args.token (Some quar) refl refl c.in-Some.ensures.ended in
    let ends = Ends-drop c.args.key old.entries c.drop_key.new.self c.drop_key.ensures.list c.drop_key.ensures.room c.drop_key.ensures.sound in
    let answers = sweep-answers (terms_of old) (steps_of old) c.args.key c.args.token quar c.requires.home stands in
    let ties = Ties-ended (terms_of old) (steps_of old) old.entries.list old.leases
    c.end_q.new.self old.next c.args.key quar.sid c.args.token ended.Drop c.drop_key.new.self refl ends c.in-Some.ensures.after answers c.requires.kept.ties in
    let none = ended-adds_none (steps_of old) c.args.key quar.sid c.args.token ended.Drop in
    let outs = IsOut-later (terms_of old) (steps_of old) step (stood-still (terms_of old) (steps_of old) step none) old.out c.requires.kept.outs in
    let held = held-later (steps_of old) step none old.out c.requires.kept.held in
    let fewer = places-dropped (terms_of old) (steps_of old) c.args.key quar.sid c.args.token ended.Drop quar stands old.out c.requires.kept.outs
    (c.requires.kept.held c.args.key c.args.token quar stands) in
    IsKept-after old _ step c.push.ensures.items (terms-kept old c.drop_key.new.self.room _ c.drop_key.ensures.room c.push.ensures.rolls) ties c.requires.kept.one_of outs
    held (omega (arith, fewer, c.requires.kept.promises))
    (omega (arith, fewer, c.requires.kept.promises, c.requires.kept.reserved, c.push.ensures.len, c.push.ensures.capacity))
