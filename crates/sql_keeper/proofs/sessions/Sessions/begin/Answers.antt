use Rattle.std.proofs.Common.{List, sym, subst, arith, ◌≡◌, ◌+◌}
use Rattle.sql_keeper.specs.declared.stores.Phase.{Phase}
use Rattle.sql_keeper.specs.Turns.{after_turns, AreLive}
use Rattle.sql_keeper.proofs.TurnLemmas.{turned, live-writing, live-reading}
use Rattle.sql_keeper.proofs.sessions.Sessions.begin.Goals as goal
use Rattle.sql_keeper.proofs.sessions.Sessions.begin.Goals.{then-writes+in_ok-insert, else-writes}

pub invariant_of-self-2 : goal.invariant_of-self-2
invariant_of-self-2 c =
    let next : c.in-Some.number ≡ c.self.inside.begun + 1 = omega (arith, c.in-Some.ensures) in
    rw c.and-self-inside.ensures
    (subst (λ (sessions : List Phase). AreLive c.in-Some.number c.if-writes.self-inside.live sessions) (sym (turned c.if-writes.self-inside.turns.items _))
    (elim c.if-writes.branch [
      | then-writes+in_ok-insert w ↦ rw (w.self-inside-is, w.if-writes.true)
          (live-writing c.self.inside.begun c.in-Some.number c.self.inside.live w.insert.new.self (after_turns c.self.inside.turns.items) c.self.invariant next
          w.in_ok-insert.ensures.updates)
      | else-writes w ↦ rw (w.self-inside-is, w.if-writes.false)
          (live-reading c.self.inside.begun c.in-Some.number c.self.inside.live (after_turns c.self.inside.turns.items) c.self.invariant next)
    ]))
