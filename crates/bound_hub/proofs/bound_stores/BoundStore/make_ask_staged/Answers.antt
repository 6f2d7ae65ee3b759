use Rattle.std.proofs.Common.{is_none, ap, subst, ◌∙◌}
use Rattle.sql_keeper.specs.Faults.{staged_failed}
use Rattle.log_word.specs.Steps.{IsBeginning}
use Rattle.bound_hub.specs.Ties.{BoundStoreView}
use Rattle.bound_hub.specs.Stores.{with_keeper_call}
use Rattle.bound_hub.proofs.StoreTies.{bound_with_call, named_with_call}
use Rattle.bound_hub.proofs.ShowLemmas.{staged_goes, staged_is, staged_shows, call_goes_on}
use Rattle.bound_hub.proofs.TrueLogLemmas.{true_with_call}
use Rattle.bound_hub.proofs.bound_stores.BoundStore.make_ask_staged.Goals as goal

pub invariant_of-self : goal.invariant_of-self
invariant_of-self g c =
    let old = c.self.inside.store in
    let new = c.ask_staged-asked.new.self in
    let pass = c.self.inside.pass in
    let asked = c.ask_staged-asked.result in
    let made = c.ask_staged-asked.ensures in
    let goes = staged_goes old new asked made.ledger made.counts made.tells in
    let seen = c.hear.ensures.seen ∙ ap (λ b. with_keeper_call b (is_none new.known_rows) pass.seen) c.has_failed_staged.ensures in (
      named_with_call g.H.HubName.opening g.H.HubName.cap g.H.HubName.known_rows g.H.HubName.start old new (staged_failed asked) c.self.invariant.0 goes made.never_falls,
      bound_with_call g.H.BoundName.word g.H.BoundName.begun g.H.BoundName.failed old new pass c.self.invariant.1 (staged_failed asked) c.hear.new.pass goes c.hear.ensures.word seen,
      true_with_call g.H.HubName.opening pass.seen c.hear.new.pass.seen (staged_failed asked) (is_none new.known_rows) seen c.self.invariant.2,
    )

pub returns-clause-goes_on : goal.returns-clause-goes_on
returns-clause-goes_on g c =
    let new = c.ask_staged-asked.new.self in
    let pass = c.self.inside.pass in
    subst (λ (v : BoundStoreView). IsBeginning v.seen c.hear.new.pass.seen) c.self.view_is
    (call_goes_on c.has_failed_staged.result (is_none new.known_rows) pass.seen c.hear.new.pass.seen c.hear.ensures.seen)

pub returns-clause-shows : goal.returns-clause-shows
returns-clause-shows g c =
    let old = c.self.inside.store in
    let new = c.ask_staged-asked.new.self in
    let pass = c.self.inside.pass in
    let asked = c.ask_staged-asked.result in
    let made = c.ask_staged-asked.ensures in
    let seen = c.hear.ensures.seen ∙ ap (λ b. with_keeper_call b (is_none new.known_rows) pass.seen) c.has_failed_staged.ensures in
    staged_shows g.H.BoundName.word g.H.BoundName.begun g.H.BoundName.failed old new pass c.self.invariant.1 g.H.HubName.opening g.H.HubName.cap g.H.HubName.known_rows g.H.HubName.start c.self.invariant.0
    c.args.key.now c.args.txn.now asked (staged_failed asked) c.hear.new.pass.seen (staged_is c.args.key.now c.args.txn.now old new asked made.ledger made.counts made.tells) seen
