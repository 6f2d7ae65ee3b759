use Rattle.std.proofs.Common.{◌≡◌, refl, ap, subst, ◌∙◌, arith, List, Option, None, ◌++◌, ◌∷◌, []}
use Rattle.std.proofs.lemmas.Bool.{MatchBool-at_true}
use Rattle.rows_model.specs.declared.keys.QKey.{QKey}
use Rattle.entry_table.specs.Entries.{Table}
use Rattle.lease_table.specs.Leases.{Leaves, quars, is_current}
use Rattle.key_shard.specs.declared.steps.Step.{Step}
use Rattle.key_shard.specs.declared.steps.Step.TheVariants.{Stored}
use Rattle.key_shard.specs.Past.{evicts}
use Rattle.key_shard.specs.Kept.{Puts, terms_of, steps_of}
use Rattle.key_shard.proofs.KeptLemmas.{IsKept-still, IsKept-step, terms-kept, terms-rolled}
use Rattle.key_shard.proofs.TiesLemmas.{Ties-stored, evicts-room}
use Rattle.key_shard.proofs.bodies.Body.store.Goals as goal

pub returns-clause-kept : goal.returns-clause-kept
returns-clause-kept c =
    let old = c.args.self.now in
    let evicted : Option QKey = evicts (terms_of old) c.args.key (steps_of old) in
    let step : Step = Stored c.args.key c.args.token c.args.now c.args.value c.args.stamp evicted in
    let put = c.put_in_front.new.entries in
    let same : c.in-Ok.evicted ≡ evicted = c.in-Ok.ensures.puts.room_by ∙ evicts-room c.requires.kept.ties c.args.key in
    let puts : Puts c.args.key c.args.value c.args.stamp evicted old.entries put =
    subst (λ e. Puts c.args.key c.args.value c.args.stamp e old.entries put) same
    (subst (λ v. Puts c.args.key v c.args.stamp c.in-Ok.evicted old.entries put) c.in_ok-copy.ensures c.in-Ok.ensures.puts) in
    let current = c.take_i.ensures.taken ∙ ap (is_current c.args.token c.args.now) (c.requires.kept.ties.reads c.args.key) ∙ c.requires.current in
    let leaves = MatchBool-at_true (Leaves c.args.key None (quars c.args.key old.leases) old.leases c.take_i.new.self)
    (c.take_i.new.self ≡ old.leases) current c.take_i.ensures.after in
    let pushed = c.push.ensures.items ∙ ap (λ (h : List Step). h ++ Stored c.args.key c.args.token c.args.now c.args.value c.args.stamp c.in-Ok.evicted
    ∷ []) c.make_room.ensures.items ∙ ap (λ e. old.history.steps ++ Stored c.args.key c.args.token c.args.now c.args.value c.args.stamp e ∷ []) same in
    let ties = Ties-stored (terms_of old) (steps_of old) old.entries.list old.leases
    c.take_i.new.self old.next c.args.key c.args.token c.args.now c.args.value c.args.stamp evicted put puts leaves c.requires.answers c.requires.kept.ties in
    IsKept-step old _ step (λ k t q e. e) c.requires.kept pushed (terms-kept old put.room _ puts.same_room (c.push.ensures.rolls ∙ c.make_room.ensures.rolls))
    ties c.requires.kept.one_of c.requires.kept.outs c.requires.kept.held c.requires.kept.promises (omega (arith, c.in_ok-make_room.ensures.ok))

pub returns-in_err-make_room-clause-kept : goal.returns-in_err-make_room-clause-kept
returns-in_err-make_room-clause-kept c =
    IsKept-still c.args.self.now _ c.requires.kept (terms-rolled c.args.self.now c.make_room.ensures.rolls) c.make_room.ensures.items
    refl refl refl refl c.requires.kept.one_of c.requires.kept.promises c.make_room.ensures.kept

pub returns-in_default-clause-kept : goal.returns-in_default-clause-kept
returns-in_default-clause-kept c =
    let same = c.in_default.ensures.err in
    IsKept-still c.args.self.now _ c.requires.kept (terms-kept c.args.self.now c.put_in_front.new.entries.room _ (ap (λ (t : Table). t.room) same) c.make_room.ensures.rolls)
    c.make_room.ensures.items (ap (λ (t : Table). t.list) same) refl refl refl c.requires.kept.one_of c.requires.kept.promises c.make_room.ensures.kept
