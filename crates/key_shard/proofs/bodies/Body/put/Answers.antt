use Rattle.std.proofs.Common.{◌≡◌, List, ℕ, Option, [], ◌∷◌, ◌++◌, refl, ap, subst, ◌∙◌, arith}
use Rattle.rows_model.specs.declared.keys.QKey.{QKey}
use Rattle.rows_model.specs.declared.keys.Sid.{Sid}
use Rattle.lease_table.specs.declared.records.Lease.{Lease}
use Rattle.entry_table.specs.Entries.{Item, Table}
use Rattle.key_shard.specs.declared.steps.Ended.{Ended}
use Rattle.key_shard.specs.declared.steps.Ended.TheVariants.{Put}
use Rattle.key_shard.specs.declared.steps.Step.{Step}
use Rattle.key_shard.specs.declared.steps.Step.TheVariants.{Released}
use Rattle.key_shard.specs.Past.{Terms, evicts}
use Rattle.key_shard.specs.Kept.{Ties, Puts, makes_room, terms_of, steps_of}
use Rattle.key_shard.proofs.KeptLemmas.{IsKept-still, terms-kept}
use Rattle.key_shard.proofs.OutLemmas.{IsKept-returned, some-out, may-take-two, two-places, view-returned, ended-leaves}
use Rattle.key_shard.proofs.PlaceLemmas.{ended-adds_none, ended-gone}
use Rattle.key_shard.proofs.TiesLemmas.{Ties-put, evicts-room}
use Rattle.key_shard.proofs.bodies.Body.put.Goals as goal

pub returns-in-Err-clause-kept : goal.returns-in-Err-clause-kept
returns-in-Err-clause-kept c =
    let same = c.in-Err.ensures.err in
    IsKept-still c.args.self.now _ c.requires.kept (terms-kept c.args.self.now c.put_in_front.new.entries.room _ (ap (λ (t : Table). t.room) same) refl) refl
    (ap (λ (t : Table). t.list) same) refl refl refl c.requires.kept.one_of c.requires.kept.promises c.requires.kept.reserved

-- the key that made room is the one that the past tells, also where the grant's key was read first
puts_same : (key key' : QKey) (value : List ℕ) (stamp : ℕ) (evicted evicted' : Option QKey) (old new : Table)
    → key' ≡ key → evicted' ≡ evicted → Puts key' value stamp evicted' old new → Puts key value stamp evicted old new
puts_same key key' value stamp evicted evicted' old new keys same puts =
    subst (λ e. Puts key value stamp e old new) same (subst (λ k. Puts k value stamp evicted' old new) keys puts)

room-evicted : {terms : Terms} {past : List Step} {list : List Item} {table : List Lease} {next : ℕ} {evicted : Option QKey}
    → Ties terms past list table next → (key key' : QKey) → key' ≡ key → evicted ≡ makes_room terms.room key' list → evicted ≡ evicts terms key past
room-evicted {terms = terms} {past = past} ties key key' keys by = by ∙ evicts-room ties key' ∙ ap (λ k. evicts terms k past) keys

-- the step of a put that is pushed is the one that the past tells
step-pushed : {new : List Step} {grant key : QKey} {token token' : ℕ} {value copy : List ℕ} {evicted evicted' : Option QKey}
    → (old : List Step) (sid : Sid) (stamp : ℕ) → new ≡ old ++ Released key sid token' (Put copy stamp evicted') ∷ []
    → key ≡ grant → token' ≡ token → copy ≡ value → evicted' ≡ evicted → new ≡ old ++ Released grant sid token (Put value stamp evicted) ∷ []
step-pushed {grant = grant} {key = key} {token = token} {token' = token'} {value = value} {copy = copy} {evicted' = evicted'} old sid stamp
    pushed keys tokens copied same =
    let put : List ℕ → Option QKey → Ended = λ v e. Put v stamp e in
    pushed ∙ ap (λ (s : Step). old ++ s ∷ []) (ap (λ k. Released k sid token' (put copy evicted')) keys
    ∙ ap (λ t. Released grant sid t (put copy evicted')) tokens ∙ ap (λ v. Released grant sid token (put v evicted')) copied
    ∙ ap (λ e. Released grant sid token (put value e)) same)

pub returns-clause-kept : goal.returns-clause-kept
returns-clause-kept c =
    let old = c.args.self.now in
    let grant = c.args.grant in
    let evicted : Option QKey = evicts (terms_of old) grant.key (steps_of old) in
    let step : Step = Released grant.key c.args.quar.sid grant.token (Put c.args.value c.args.stamp evicted) in
    let room = room-evicted c.requires.kept.ties grant.key c.key-key.result c.key-key.ensures c.in-Ok-put_in_front.ensures.puts.room_by in
    let pushed = step-pushed old.history.steps c.args.quar.sid c.args.stamp c.push.ensures.items c.key-key.ensures c.token-token.ensures
    c.in-Ok.ensures room in
    let puts = puts_same grant.key c.key-key.result c.args.value c.args.stamp
    evicted c.in-Ok-put_in_front.evicted old.entries c.put_in_front.new.entries c.key-key.ensures room c.in-Ok-put_in_front.ensures.puts in
    let leaves = ended-leaves c.requires.kept.ties grant.key grant.token c.key-key.result c.token-token.result
    c.end_q.result c.args.quar c.end_q.new.self c.key-key.ensures c.token-token.ensures c.end_q.ensures.ended c.end_q.ensures.after c.requires.stands in
    let ties = Ties-put (terms_of old) (steps_of old) old.entries.list old.leases c.end_q.new.self old.next
    grant.key c.args.quar.sid grant.token c.args.value c.args.stamp evicted c.put_in_front.new.entries puts leaves c.requires.answers c.requires.kept.ties in
    let two = two-places old grant c.args.quar c.requires.stands c.requires.kept c.requires.out in
    IsKept-returned old _ step grant 2 (may-take-two old grant c.args.quar c.requires.stands)
    (ended-adds_none (steps_of old) grant.key c.args.quar.sid grant.token (Put c.args.value c.args.stamp evicted))
    (ended-gone (steps_of old) grant.key c.args.quar.sid grant.token (Put c.args.value c.args.stamp evicted)) c.requires.kept c.requires.out c.take.ensures
    pushed (terms-kept old c.put_in_front.new.entries.room _ puts.same_room c.push.ensures.rolls) ties c.requires.kept.one_of
    (omega (arith, two)) (omega (arith, two, c.requires.kept.reserved))

pub returns-clause-step : goal.returns-clause-step
returns-clause-step c =
    let old = c.args.self.now in
    let grant = c.args.grant in
    let evicted : Option QKey = evicts (terms_of old) grant.key (steps_of old) in
    let room = room-evicted c.requires.kept.ties grant.key c.key-key.result c.key-key.ensures c.in-Ok-put_in_front.ensures.puts.room_by in
    let pushed = step-pushed old.history.steps c.args.quar.sid c.args.stamp c.push.ensures.items c.key-key.ensures c.token-token.ensures
    c.in-Ok.ensures room in
    view-returned old _ c.push.new.self.steps c.take.new.self (Released grant.key c.args.quar.sid grant.token (Put c.args.value c.args.stamp evicted))
    grant (terms-kept old c.put_in_front.new.entries.room _ c.in-Ok-put_in_front.ensures.puts.same_room c.push.ensures.rolls) pushed c.take.ensures

pub take-requires : goal.take-requires
take-requires c = some-out c.args.self.now c.args.grant c.requires.out

pub overflow_sub-self : goal.overflow_sub-self
overflow_sub-self c = omega (arith, two-places c.args.self.now c.args.grant c.args.quar c.requires.stands c.requires.kept c.requires.out)

pub push-requires : goal.push-requires
push-requires c =
    omega (arith, two-places c.args.self.now c.args.grant c.args.quar c.requires.stands c.requires.kept c.requires.out, c.requires.kept.reserved)
