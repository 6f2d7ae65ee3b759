use Rattle.std.proofs.Common.{List, sym, subst, ◌∙◌}
use Rattle.sql_keeper.specs.declared.stores.Phase.{Phase}
use Rattle.sql_keeper.specs.Turns.{after_turns, AreLive}
use Rattle.sql_keeper.proofs.TurnLemmas.{turned, live-ended, where-ok}
use Rattle.sql_keeper.proofs.sessions.Sessions.cut_off.Goals as goal

pub invariant_of-self : goal.invariant_of-self
invariant_of-self c =
    let may = rw (← c.self.view_is) at c.requires in
    let written = where-ok _ c.insert.result (sym c.is_err.ensures.value ∙ c.if-is_err.false) c.insert.ensures.updates in
    rw c.and-self-inside.ensures
    (subst (λ (sessions : List Phase). AreLive c.self.inside.begun c.insert.new.self sessions) (sym (turned c.self.inside.turns.items _))
    (live-ended c.self.inside.begun c.self.inside.live c.insert.new.self (after_turns c.self.inside.turns.items) c.args.sid c.self.invariant may written))
