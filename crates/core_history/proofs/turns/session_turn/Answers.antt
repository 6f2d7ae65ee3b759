use Rattle.std.proofs.Common.{◌≡◌, ◌<◌, ◌-◌, false, List, length, Some, subst, sym, refl, ◌∙◌, arith}
use Rattle.std.proofs.lemmas.Option.{slice_get_read}
use Rattle.session_client.specs.declared.sessions.Session.{Session}
use Rattle.session_client.specs.Follows.{plan_of, sid_of, Follows}
use Rattle.session_client.specs.Wants.{wants}
use Rattle.session_client.specs.declared.replies.Reply.{Reply}
use Rattle.core_history.specs.Cores.{Origin}
use Rattle.core_history.specs.Events.{now_of}
use Rattle.core_history.specs.Machine.{World}
use Rattle.core_history.specs.Requests.{AreAfter, TakesTurn}
use Rattle.core_history.proofs.turns.session_turn.Goals as goal

pub take_turn-requires-clause-waits : goal.take_turn-requires-clause-waits
take_turn-requires-clause-waits g c =
    let sessions = c.args.sessions.now.items in
    let within : c.args.who.number - 1 < length sessions = omega (arith, c.requires.some, c.requires.begun) in
    c.requires.waits c.index_mut.result.now
    (slice_get_read sessions (length sessions) (c.args.who.number - 1) c.index_mut.result.now refl within c.index_mut.ensures.value)

pub returns : goal.returns
returns g c session found =
    let sessions = c.args.sessions.now.items in
    let who = c.args.who in
    let after = c.take_turn.new.session in
    let within : who.number - 1 < length sessions = omega (arith, c.requires.some, c.requires.begun) in
    let read = slice_get_read sessions (length sessions) (who.number - 1) c.index_mut.result.now refl within c.index_mut.ensures.value in
    let P : Session → Type 0 = λ s. (plan_of after ≡ plan_of s) × (sid_of after ≡ sid_of s)
    × ((origin : Origin) (world : World) (heard : List Reply) → AreAfter c.args.shards.now.items c.args.store.now origin world
    → c.args.now ≡ now_of world.past → Follows s false heard
    → TakesTurn origin world who (wants (plan_of s) false heard) heard c.take_turn.new.shards.items c.take_turn.new.store after c.take_turn.result) in
    let h =
    subst P (some_same c.index_mut.result.now session (sym read ∙ found)) (c.take_turn.ensures.plan, c.take_turn.ensures.sid, c.take_turn.ensures.takes) in
    (after, refl, h.0, h.1, c.take_turn.ensures.ready, h.2)
  where
    some_same : (a b : Session) → Some a ≡ Some b → a ≡ b
    some_same a b e = cc
