use Rattle.std.proofs.Common.{false, Ok, subst, sym, inl, inr}
use Rattle.rows_model.specs.declared.keys.Sid.{Sid}
use Rattle.session_client.specs.Belongs.{Belongs}
use Rattle.session_client.specs.declared.replies.Wanted.{Wanted}
use Rattle.core_history.specs.Requests.{IsOutWhereReleased, AreAfter, Makes, TakesTurn, after}
use Rattle.core_history.specs.Machine.{Said, event_of}
use Rattle.core_history.proofs.TellLemmas.{turn_printed}
use Rattle.core_history.proofs.turns.take_turn.Goals as goal

pub make-requires-clause-out : goal.make-requires-clause-out
make-requires-clause-out g c =
    let w = c.requires.waits in
    let P : Wanted → Type 0 = λ r. IsOutWhereReleased c.args.shards.now.items r in
    subst P (sym (c.wants-request.ensures.wanted false w.heard w.follows)) w.released

pub make-requires-clause-proper : goal.make-requires-clause-proper
make-requires-clause-proper g c =
    let w = c.requires.waits in
    c.wants-request.ensures.proper false w.heard w.follows

pub hear-requires : goal.hear-requires
hear-requires g c =
    let w = c.requires.waits in
    let P : Sid → Type 0 = λ s. Belongs s c.wants-request.result c.in-Ok.reply in
    (c.wants-request.ensures.awaits false w.heard c.in-Ok.reply w.follows).1 (subst P (sym w.sid) c.in-Ok.ensures.belongs)

pub returns-in-Ok-hear-clause-takes : goal.returns-in-Ok-hear-clause-takes
returns-in-Ok-hear-clause-takes g c origin world heard stands time so_far =
    let who = c.args.who in
    let request = c.wants-request.result in
    let P : Wanted → Type 0 = λ w. TakesTurn origin world who w heard c.make.new.shards.items c.make.new.store c.hear.new.self c.told_of.result in
    subst P (c.wants-request.ensures.wanted false heard so_far)
    (turn_printed origin world who request c.of-asked.result heard c.make.new.shards.items
    c.make.new.store c.hear.new.self c.in-Ok.reply c.line_of-line.result c.tells_fault-fault.result c.told_of.result
    c.of-asked.ensures c.line_of-line.ensures c.tells_fault-fault.ensures c.told_of.ensures.ok
    (c.in-Ok.ensures.makes origin world stands time) (c.in-Ok-hear.ensures.follows false heard (c.wants-request.ensures.follows false heard so_far)))

pub returns-in-Err-hear-clause-takes : goal.returns-in-Err-hear-clause-takes
returns-in-Err-hear-clause-takes g c origin world heard stands time so_far =
    let who = c.args.who in
    let request = c.wants-request.result in
    let shards = c.make.new.shards.items in
    let store = c.make.new.store in
    let P : Wanted → Type 0 = λ w. (said : Said) × AreAfter shards store origin (after world (event_of origin.shape world who w said)) in
    let made : Makes origin world who request shards store (Ok c.in-Ok.reply) = c.in-Ok.ensures.makes origin world stands time in
    inr (subst P (c.wants-request.ensures.wanted false heard so_far) (made.0, made.2))

pub returns-in-Err-clause-takes : goal.returns-in-Err-clause-takes
returns-in-Err-clause-takes g c origin world heard stands time so_far =
    inl (c.in-Err.ensures.makes origin world stands time)
