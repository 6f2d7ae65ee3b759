use Rattle.std.proofs.Common.{◌≡◌, true, sym, subst, ◌∙◌}
use Rattle.sql_keeper.specs.Sessions.{is_open}
use Rattle.bound_hub.specs.Ties.{BoundStoreView}
use Rattle.log_word.specs.Steps.{IsBeginning}
use Rattle.bound_hub.proofs.SessionLemmas.{open_by, open_by_events}
use Rattle.bound_hub.proofs.StoreTies.{bound_with_end, named_with_end}
use Rattle.bound_hub.proofs.ShowLemmas.{end_goes_on}
use Rattle.bound_hub.proofs.TrueLogLemmas.{true_with_end}
use Rattle.bound_hub.proofs.bound_stores.BoundStore.make_end.Goals as goal

pub add-requires-clause-follows : goal.add-requires-clause-follows
add-requires-clause-follows g c =
    let may : is_open c.args.sid c.self.inside.store.ledger.sessions ≡ true = sym c.end-closed.ensures.was ∙ sym c.was.ensures ∙ c.if-not-was.false in
    open_by_events c.args.sid.number c.self.inside.pass.seen.events c.sound.ensures.in_order
    (open_by g.H.BoundName.begun c.self.inside.pass.seen.events c.self.inside.store.ledger.sessions c.self.invariant.1.sessions c.args.sid may)

pub invariant_of-self-2 : goal.invariant_of-self-2
invariant_of-self-2 g c =
    let may : is_open c.args.sid c.self.inside.store.ledger.sessions ≡ true = sym c.end-closed.ensures.was ∙ sym c.was.ensures ∙ c.if-not-was.false in
    let made = c.end-closed.ensures in (
      named_with_end g.H.HubName.opening g.H.HubName.cap g.H.HubName.known_rows g.H.HubName.start c.self.inside.store c.end-closed.new.self c.args.sid
          c.self.invariant.0 made.ledger made.keeper.0 made.keeper.1,
      bound_with_end g.H.BoundName.word g.H.BoundName.begun g.H.BoundName.failed c.self.inside.store c.end-closed.new.self c.self.inside.pass c.self.invariant.1
          c.args.sid true c.add.new.self may made.ledger made.keeper.0 c.add.ensures.word c.add.ensures.seen,
      true_with_end g.H.HubName.opening c.self.inside.pass.seen c.add.new.self.seen c.args.sid true c.add.ensures.seen c.self.invariant.2,
    )

pub returns-clause-goes_on : goal.returns-clause-goes_on
returns-clause-goes_on g c =
    subst (λ (v : BoundStoreView). IsBeginning v.seen c.add.new.self.seen) c.self.view_is
    (end_goes_on c.args.sid true c.self.inside.pass.seen c.add.new.self.seen c.add.ensures.seen)
