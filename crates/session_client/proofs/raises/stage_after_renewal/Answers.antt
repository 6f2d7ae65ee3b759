use Rattle.std.proofs.Common.{refl}
use Rattle.session_client.specs.declared.replies.Reply.TheVariants as Reply
use Rattle.session_client.specs.Wants.{given, granted}
use Rattle.session_client.proofs.TurnLemmas.{same_items, same_values, turned_next}
use Rattle.session_client.proofs.raises.stage_after_renewal.Goals as goal

pub returns-in-Renew-clause-follows : goal.returns-in-Renew-clause-follows
returns-in-Renew-clause-follows c = λ writing short heard granted_so follows.
    let (lent, at, awaits) = c.requires.awaits in
    let back = rw c.in-Renew.is at awaits in
    let (turn, same, out) = follows in
    let (items, roomy, values, kept, number, outcome, ample) = out in
    rw (c.in-Renew.is, c.put_at.ensures, c.behind-behind.ensures) (
      refl,
      turned_next (Reply.Renew c.in-Renew.grant c.in-Renew.answer) heard c.args.place refl turn,
      same,
      (
        same_items c.args.hand.now.grants.items (granted heard) c.args.place lent c.in-Renew.grant items (rw granted_so at at) back,
        roomy,
        same_values c.args.hand.now.values (given heard) values,
        kept,
        number,
        outcome,
        ample,
      ),
    )
