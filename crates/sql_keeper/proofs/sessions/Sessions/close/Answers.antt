use Rattle.std.proofs.Common.{List, sym, subst}
use Rattle.sql_keeper.specs.declared.stores.Phase.{Phase}
use Rattle.sql_keeper.specs.Turns.{after_turns, AreLive}
use Rattle.sql_keeper.proofs.TurnLemmas.{turned, live-committed}
use Rattle.sql_keeper.proofs.sessions.Sessions.close.Goals as goal

pub invariant_of-self : goal.invariant_of-self
invariant_of-self c =
    let may = rw (← c.self.view_is) at c.requires in
    rw c.and-self-inside.ensures
    (subst (λ (sessions : List Phase). AreLive c.self.inside.begun c.remove.new.self sessions) (sym (turned c.self.inside.turns.items _))
    (live-committed c.self.inside.begun c.self.inside.live c.remove.new.self (after_turns c.self.inside.turns.items) c.args.sid c.self.invariant may
    c.remove.ensures.updates))
