use Rattle.std.proofs.Common.{arith}
use Rattle.std.proofs.lemmas.List.Edits.{length-remove}
use Rattle.session_client.proofs.HandLemmas.{after_take, after_take_alone, commits_raised, commits_renewed, next_drop, next_release}
use Rattle.session_client.proofs.TurnLemmas.{first_invalid, taken_invalid}
use Rattle.session_client.proofs.writers.Writer.wants.Goals as goal

pub returns-in-Releasing-clause-wanted : goal.returns-in-Releasing-clause-wanted
returns-in-Releasing-clause-wanted c = λ changes short heard follows.
    let h = rw (← c.self.view_is, ← c.replace.ensures.value, c.in-Releasing.is) at follows in
    rw (← c.self.view_is) (next_release _ c.self.inside.hand c.in-Releasing.outcome
    c.in-Releasing.how _ _ _ short heard c.take-grant.ensures.grant c.take-grant.ensures.value c.release-request.ensures.wanted h.1)

pub returns-in-Releasing-clause-follows : goal.returns-in-Releasing-clause-follows
returns-in-Releasing-clause-follows c = λ changes short heard follows.
    let h = rw (← c.self.view_is, ← c.replace.ensures.value, c.in-Releasing.is) at follows in
    rw c.take-grant.ensures.hand (
      h.0,
      after_take _ c.self.inside.hand c.in-Releasing.outcome c.in-Releasing.how _ _ short heard c.take-grant.ensures.grant c.release-request.ensures.back h.1,
    )

pub returns-in-Dropping-clause-wanted : goal.returns-in-Dropping-clause-wanted
returns-in-Dropping-clause-wanted c = λ changes short heard follows.
    let h = rw (← c.self.view_is, ← c.replace.ensures.value, c.in-Dropping.is) at follows in
    rw (← c.self.view_is) (next_drop _ c.self.inside.hand c.in-Dropping.outcome c.in-Dropping.how _ short heard c.take_alone.ensures.grant h.1)

pub returns-in-Dropping-clause-follows : goal.returns-in-Dropping-clause-follows
returns-in-Dropping-clause-follows c = λ changes short heard follows.
    let h = rw (← c.self.view_is, ← c.replace.ensures.value, c.in-Dropping.is) at follows in
    rw c.take_alone.ensures.hand (h.0, after_take_alone _ c.self.inside.hand c.in-Dropping.outcome c.in-Dropping.how short heard h.1)

pub invariant_of-self-then-place-len : goal.invariant_of-self-then-place-len
invariant_of-self-then-place-len c =
    let (holds, rest) = rw (← c.replace.ensures.value, c.in-Raising.is) at c.self.invariant.1 in
    let (items, values, room, long) = holds in
    let before = c.if-place-len.true in
    let count = c.len.ensures in
    let fewer = length-remove c.self.inside.hand.grants.items c.in-Raising.place (omega (arith, before, count)) in
    rw c.take_at.ensures.hand (
      c.self.invariant.0,
      (
        (omega (arith, before, count, items), omega (arith, fewer, items), values, room, long),
        taken_invalid c.self.inside.hand.grants.items c.in-Raising.place rest,
      ),
      c.self.invariant.2,
    )

pub returns-then-place-len-clause-proper : goal.returns-then-place-len-clause-proper
returns-then-place-len-clause-proper c =
    let (holds, rest) = rw (← c.replace.ensures.value, c.in-Raising.is) at c.self.invariant.1 in
    first_invalid c.self.inside.hand.grants.items c.in-Raising.place c.take_at.result rest c.take_at.ensures.grant

pub returns-in-Raising-clause-wanted : goal.returns-in-Raising-clause-wanted
returns-in-Raising-clause-wanted c = λ changes short heard follows.
    let h = rw (← c.self.view_is, ← c.replace.ensures.value, c.in-Raising.is) at follows in
    let past = c.if-place-len.false in
    let count = c.len.ensures in
    rw (← c.self.view_is, c.commit.ensures.wanted)
    (commits_raised _ c.self.inside.hand c.in-Raising.place c.in-Raising.txn short heard (omega (arith, past, count)) h.1)

pub returns-in-Renewing-clause-wanted : goal.returns-in-Renewing-clause-wanted
returns-in-Renewing-clause-wanted c = λ changes short heard follows.
    let h = rw (← c.self.view_is, ← c.replace.ensures.value, c.in-Renewing.is) at follows in
    let past = c.if-place-len-2.false in
    let count = c.len-in-Renewing.ensures in
    rw (← c.self.view_is, c.commit-else-place-len-2.ensures.wanted)
    (commits_renewed _ c.self.inside.hand c.in-Renewing.place c.in-Renewing.txn short heard (omega (arith, past, count)) h.1)
