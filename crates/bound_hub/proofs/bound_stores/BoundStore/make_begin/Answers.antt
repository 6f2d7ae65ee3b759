use Rattle.std.proofs.Common.{◌≡◌, false, sym, subst}
use Rattle.log_word.specs.declared.events.StoreEvent.TheVariants as event
use Rattle.log_word.specs.declared.seen.Seen.{Seen}
use Rattle.log_word.specs.Events.{has_begun}
use Rattle.log_word.specs.Steps.{IsBeginning}
use Rattle.log_word.proofs.ViewLemmas.{event_goes_on}
use Rattle.bound_hub.specs.Ties.{BoundStoreView}
use Rattle.bound_hub.proofs.StoreTies.{begin_may_follow, bound_with_begin, named_with_begin}
use Rattle.bound_hub.proofs.ShowLemmas.{begin_shows}
use Rattle.bound_hub.proofs.TrueLogLemmas.{true_with_begin}
use Rattle.bound_hub.proofs.bound_stores.BoundStore.make_begin.Goals as goal

pub add-requires-clause-follows : goal.add-requires-clause-follows
add-requires-clause-follows g c =
    let made = c.in_ok-sid.ensures in
    begin_may_follow g.H.BoundName.word g.H.BoundName.begun g.H.BoundName.failed c.self.inside.store c.begin.new.self.ledger c.self.inside.pass c.args.writes c.in_ok-sid.sid
    c.self.invariant.1 made.ledger made.number

pub invariant_of-self-2 : goal.invariant_of-self-2
invariant_of-self-2 g c =
    let made = c.in_ok-sid.ensures in (
      named_with_begin g.H.HubName.opening g.H.HubName.cap g.H.HubName.known_rows g.H.HubName.start c.self.inside.store c.begin.new.self c.args.writes
          c.self.invariant.0 made.ledger made.keeper.0 made.keeper.1,
      bound_with_begin g.H.BoundName.word g.H.BoundName.begun g.H.BoundName.failed c.self.inside.store c.begin.new.self c.self.inside.pass c.add.new.self c.in_ok-sid.sid c.args.worker c.args.writes
          c.self.invariant.1 made.ledger made.keeper.0 made.number c.add.ensures.word c.add.ensures.seen,
      true_with_begin g.H.HubName.opening c.self.inside.pass.seen c.add.new.self.seen c.in_ok-sid.sid c.args.worker c.args.writes c.add.ensures.seen c.self.invariant.2,
    )

pub returns-clause-goes_on : goal.returns-clause-goes_on
returns-clause-goes_on g c =
    subst (λ (v : BoundStoreView). IsBeginning v.seen c.add.new.self.seen) c.self.view_is
    (subst (λ (s : Seen). IsBeginning c.self.inside.pass.seen s) (sym c.add.ensures.seen)
    (event_goes_on (event.Begin c.in_ok-sid.sid c.args.worker c.args.writes) c.self.inside.pass.seen))

pub returns-clause-shows : goal.returns-clause-shows
returns-clause-shows g c =
    let made = c.in_ok-sid.ensures in
    begin_shows g.H.BoundName.word g.H.BoundName.begun g.H.BoundName.failed c.self.inside.store c.begin.new.self c.self.inside.pass c.self.invariant.1
    c.in_ok-sid.sid c.args.worker c.args.writes c.add.new.self.seen made.ledger made.number c.add.ensures.seen

pub returns-clause-first : goal.returns-clause-first
returns-clause-first g c =
    let made = c.in_ok-sid.ensures in
    subst (λ (v : BoundStoreView). has_begun c.in_ok-sid.sid.number v.seen.events ≡ false) c.self.view_is
    (begin_may_follow g.H.BoundName.word g.H.BoundName.begun g.H.BoundName.failed c.self.inside.store c.begin.new.self.ledger c.self.inside.pass c.args.writes c.in_ok-sid.sid
    c.self.invariant.1 made.ledger made.number)
