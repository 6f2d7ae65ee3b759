use Rattle.std.proofs.Common.{List, sym, subst}
use Rattle.sql_keeper.specs.declared.stores.Phase.{Phase}
use Rattle.sql_keeper.specs.Turns.{after_turns, AreLive}
use Rattle.sql_keeper.proofs.TurnLemmas.{turned, live-none}
use Rattle.sql_keeper.proofs.sessions.Sessions.end_all.Goals as goal

pub invariant_of-self : goal.invariant_of-self
invariant_of-self c =
    rw c.and-self-inside.ensures
    (subst (λ (sessions : List Phase). AreLive c.self.inside.begun c.clear.new.self sessions) (sym (turned c.self.inside.turns.items _))
    (live-none c.self.inside.begun c.self.inside.live c.clear.new.self (after_turns c.self.inside.turns.items) c.self.invariant c.clear.ensures.empty))
