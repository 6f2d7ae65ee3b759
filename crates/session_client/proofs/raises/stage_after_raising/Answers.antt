use Rattle.std.proofs.Common.{refl, ◌<◌, length, length-set, arith, subst, List, ℕ}
use Rattle.std.specs.Option.{option_map}
use Rattle.std.proofs.lemmas.List.Edits.{length-insert, length-remove}
use Rattle.key_shard.specs.declared.replies.Raising.TheVariants as raising
use Rattle.session_client.specs.declared.replies.Reply.TheVariants as Reply
use Rattle.session_client.specs.Wants.{given, granted}
use Rattle.session_client.proofs.TurnLemmas.{back_invalid, raised_items, raised_values, same_items, same_values, spent_items, spent_values, turned_next}
use Rattle.session_client.proofs.raises.stage_after_raising.Goals as goal

pub returns-in-Raised-clause-room : goal.returns-in-Raised-clause-room
returns-in-Raised-clause-room c = λ next keys.
    let (less, items, values, room, long) = c.requires.room in
    let more = length-insert c.args.hand.now.grants.items c.args.place c.in-Raised.grant (omega (arith, less, items)) in
    let same = length-set c.args.hand.now.given c.args.place c.in-Raised.grant in
    let value = length-set c.args.hand.now.values c.args.place (option_map (λ (o : List ℕ × ℕ). o.0) c.in-Raised.old) in
    rw (c.put_raised.ensures, c.behind-behind.ensures) (
      (omega (arith, more, same, items), omega (arith, value, same, values), omega (arith, same, room), long),
      back_invalid c.args.hand.now.grants.items c.args.place c.in-Raised.grant (omega (arith, less, items)) c.requires.rest,
    )

pub returns-in-Raised-clause-follows : goal.returns-in-Raised-clause-follows
returns-in-Raised-clause-follows c = λ writing short heard granted_so follows.
    let (turn, same, lent) = follows in
    let (items, roomy, values, kept, number, outcome, ample) = lent in
    let less = c.requires.room.0 in
    let within : c.args.place < length (granted heard) = subst (λ l. c.args.place < length l) granted_so less in
    rw (c.in-Raised.is, c.put_raised.ensures, c.behind-behind.ensures) (
      refl,
      turned_next (Reply.Raise (raising.Raised c.in-Raised.grant c.in-Raised.old)) heard c.args.place refl turn,
      same,
      (
        raised_items c.args.hand.now.grants.items (granted heard) c.args.place _ c.in-Raised.grant items within turn,
        roomy,
        raised_values c.args.hand.now.values (given heard) c.args.place _ (record { permit = c.in-Raised.grant; old = c.in-Raised.old }) values turn,
        kept,
        number,
        outcome,
        ample,
      ),
    )

pub returns-in-Shared-clause-room : goal.returns-in-Shared-clause-room
returns-in-Shared-clause-room c = λ next keys.
    let (less, items, values, room, long) = c.requires.room in
    let more = length-insert c.args.hand.now.grants.items c.args.place c.in-Shared.grant (omega (arith, less, items)) in
    rw (c.put_at.ensures, c.behind-behind-in-Shared.ensures) (
      (omega (arith, more, items), values, room, long),
      back_invalid c.args.hand.now.grants.items c.args.place c.in-Shared.grant (omega (arith, less, items)) c.requires.rest,
    )

pub returns-in-Shared-clause-follows : goal.returns-in-Shared-clause-follows
returns-in-Shared-clause-follows c = λ writing short heard granted_so follows.
    let (lent, at, awaits) = c.requires.awaits in
    let back = rw c.in-Shared.is at awaits in
    let (turn, same, out) = follows in
    let (items, roomy, values, kept, number, outcome, ample) = out in
    rw (c.in-Shared.is, c.put_at.ensures, c.behind-behind-in-Shared.ensures) (
      refl,
      turned_next (Reply.Raise (raising.Shared c.in-Shared.grant c.in-Shared.holder)) heard c.args.place refl turn,
      same,
      (
        same_items c.args.hand.now.grants.items (granted heard) c.args.place lent c.in-Shared.grant items (rw granted_so at at) back,
        roomy,
        same_values c.args.hand.now.values (given heard) values,
        kept,
        number,
        outcome,
        ample,
      ),
    )

pub returns-in-Gone-clause-room : goal.returns-in-Gone-clause-room
returns-in-Gone-clause-room c = λ next keys.
    let (less, items, values, room, long) = c.requires.room in
    let fewer = length-remove c.args.hand.now.given c.args.place less in
    let lighter = length-remove c.args.hand.now.values c.args.place (omega (arith, less, values)) in
    rw c.forget.ensures
    ((omega (arith, fewer, items), omega (arith, fewer, lighter, values), omega (arith, fewer, room), long), c.requires.rest)

pub returns-in-Gone-clause-follows : goal.returns-in-Gone-clause-follows
returns-in-Gone-clause-follows c = λ writing short heard granted_so follows.
    let (turn, same, out) = follows in
    let (items, roomy, values, kept, number, outcome, ample) = out in
    rw (c.in-Gone.is, c.forget.ensures) (
      refl,
      turn,
      same,
      (
        spent_items c.args.hand.now.grants.items (granted heard) c.args.place _ items turn,
        roomy,
        spent_values c.args.hand.now.values (given heard) c.args.place _ values turn,
        kept,
        number,
        outcome,
        ample,
      ),
    )
