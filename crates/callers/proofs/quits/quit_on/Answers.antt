use Rattle.std.proofs.Common.{false, sym, subst}
use Rattle.rows_model.specs.declared.keys.Sid.{Sid}
use Rattle.session_client.specs.Belongs.{Belongs}
use Rattle.callers.specs.Quits.{IsGivingUp}
use Rattle.callers.proofs.QuitLemmas.{wants-up, goes-on, not-refreshing}
use Rattle.callers.proofs.quits.quit_on.Goals as goal

pub give_up_on-requires : goal.give_up_on-requires
give_up_on-requires c =
    let way = c.requires.under_way in
    wants-up c.args.session.now c.wants-request.result c.requires.quits way (c.wants-request.ensures.wanted false way.heard way.follows)

pub hear-requires : goal.hear-requires
hear-requires c =
    let way = c.requires.under_way in
    (c.wants-request.ensures.awaits false way.heard c.in-Ok.reply way.follows).1
    (subst (λ (who : Sid). Belongs who c.wants-request.result c.in-Ok.reply) c.sid-sid.ensures c.in-Ok.ensures.belongs)

pub unreachable-requires : goal.unreachable-requires
unreachable-requires c =
    let way = c.requires.under_way in
    not-refreshing c.sid-sid.result c.wants-request.result c.in-Ok.reply
    (wants-up c.args.session.now c.wants-request.result c.requires.quits way (c.wants-request.ensures.wanted false way.heard way.follows))
    c.in-Ok.ensures.belongs c.in_default.ensures.memory

pub returns-in-Ok-hear-clause-goes_on : goal.returns-in-Ok-hear-clause-goes_on
returns-in-Ok-hear-clause-goes_on c = λ none.
    let way = c.requires.under_way in
    goes-on c.args.session.now c.wants-request.new.self c.hear.new.self c.wants-request.result c.in-Ok.reply way
    c.wants-request.ensures.plan c.wants-request.ensures.sid
    (c.wants-request.ensures.wanted false way.heard way.follows) (c.wants-request.ensures.follows false way.heard way.follows)
    c.in-Ok-hear.ensures.plan c.in-Ok-hear.ensures.sid c.in-Ok-hear.ensures.ready (c.in-Ok-hear.ensures.follows false way.heard)
    (subst (λ (who : Sid). Belongs who c.wants-request.result c.in-Ok.reply) c.sid-sid.ensures c.in-Ok.ensures.belongs)

pub returns-in-Err-clause-back : goal.returns-in-Err-clause-back
returns-in-Err-clause-back c =
    let way = c.requires.under_way in
    subst IsGivingUp (sym c.in-Err.ensures.back)
    (wants-up c.args.session.now c.wants-request.result c.requires.quits way (c.wants-request.ensures.wanted false way.heard way.follows))
