use Rattle.std.proofs.Common.{false, List, All, length, is_none, sym, ap, subst, ◌∙◌}
use Rattle.rows_model.specs.declared.changes.Change.{Change}
use Rattle.rows_model.specs.Changes.{HasIds}
use Rattle.sql_keeper.specs.Sessions.{is_open}
use Rattle.sql_keeper.specs.Faults.{is_failure}
use Rattle.sql_keeper.specs.Stores.{with_call, with_commit}
use Rattle.executor.specs.OnStore.{Goes, IsCommitted, IsRefused}
use Rattle.log_word.specs.declared.events.StoreEvent.TheVariants as event
use Rattle.log_word.specs.declared.seen.Seen.{Seen}
use Rattle.log_word.specs.Steps.{IsBeginning, IsGranted}
use Rattle.log_word.specs.Views.{with_event}
use Rattle.log_word.specs.Passes.{WordView}
use Rattle.bound_hub.specs.Ties.{BoundStoreView, phase_by}
use Rattle.bound_hub.specs.Stores.{with_keeper_call, IsGrantSeen, ShowsRefusal}
use Rattle.bound_hub.proofs.SessionLemmas.{open_by, open_by_events}
use Rattle.bound_hub.proofs.GrantLemmas.{admitted_is_open, admitted_is_granted}
use Rattle.bound_hub.proofs.StoreTies.{bound_with_call, bound_with_commit, named_with_call, named_with_commit}
use Rattle.bound_hub.proofs.ShowLemmas.{commit_shows, copy_refused, heard_already, refusal_shows, commit_goes_on, call_goes_on}
use Rattle.bound_hub.proofs.TrueLogLemmas.{true_with_call, true_with_commit}
use Rattle.bound_hub.proofs.bound_stores.BoundStore.make_commit.Goals as goal
use Rattle.bound_hub.proofs.bound_stores.BoundStore.make_commit.Goals.{in-Ok-commit, in-Err-commit}

pub returns-in-Err-clause-made : goal.returns-in-Err-clause-made
returns-in-Err-clause-made g c =
    let made = c.in-Err.ensures in
    subst (λ (v : BoundStoreView). IsRefused c.args.sid c.args.txn c.args.grants.now v.store v.store c.in-Err.fault) c.self.view_is
    (copy_refused c.args.sid c.args.txn c.args.grants.now c.self.inside.store c.in-Err.fault made.unasked (made.refusal c.args.grants.now) made.any_rows)

pub returns-in-Err-clause-err : goal.returns-in-Err-clause-err
returns-in-Err-clause-err g c =
    let made = c.in-Err.ensures in
    let old = c.self.inside.store in
    let pass = c.self.inside.pass in
    let refused = copy_refused c.args.sid c.args.txn c.args.grants.now old c.in-Err.fault made.unasked (made.refusal c.args.grants.now) made.any_rows in
    let heard = heard_already g.H.BoundName.word g.H.BoundName.begun g.H.BoundName.failed old old pass c.self.invariant.1 in
    subst (λ (v : BoundStoreView). ShowsRefusal g.H.HubName.opening g.H.HubName.cap c.args.sid c.args.txn c.args.grants.now v.seen c.in-Err.fault) c.self.view_is
    (refusal_shows g.H.BoundName.word g.H.BoundName.begun g.H.BoundName.failed old old pass c.self.invariant.1 g.H.HubName.opening g.H.HubName.cap g.H.HubName.known_rows g.H.HubName.start c.self.invariant.0
    c.args.sid c.args.txn c.args.grants.now c.in-Err.fault false pass.seen refused heard)

pub add_commit-requires-clause-open : goal.add_commit-requires-clause-open
add_commit-requires-clause-open g c =
    let old = c.self.inside.store.ledger in
    let events = c.self.inside.pass.seen.events in
    let may = admitted_is_open (is_open c.args.sid old.sessions) c.args.sid c.args.grants.now c.in-Ok.copy (length old.log) old.cap c.in-Ok-commit.ensures.admitted in
    let same = ap (λ (s : Seen). s.events) c.hear.ensures.seen in
    open_by_events c.args.sid.number c.hear.new.pass.seen.events c.sound.ensures.in_order
    (ap (λ e. phase_by c.args.sid.number e) same ∙ open_by g.H.BoundName.begun events old.sessions c.self.invariant.1.sessions c.args.sid may)

pub add_commit-requires-clause-granted : goal.add_commit-requires-clause-granted
add_commit-requires-clause-granted g c =
    let old = c.self.inside.store.ledger in
    let seen = c.self.inside.pass.seen in
    let granted =
    admitted_is_granted g.H.BoundName.word.shards seen (is_open c.args.sid old.sessions) c.args.sid c.args.grants.now c.in-Ok.copy (length old.log) old.cap
    c.in-Ok-commit.ensures.admitted (subst (λ (v : BoundStoreView). All (IsGrantSeen g.H.BoundName.word.shards v.seen) c.args.grants.now) (sym c.self.view_is) c.requires.granted) in
    let same = ap (λ (s : Seen). s.steps) c.hear.ensures.seen in
    let word = c.hear.ensures.word ∙ c.self.invariant.1.word_is in
    subst (λ (w : WordView). IsGranted w.shards c.hear.new.pass.seen.steps (event.Commit c.args.sid c.args.txn)) (sym word)
    (subst (λ l. IsGranted g.H.BoundName.word.shards l (event.Commit c.args.sid c.args.txn)) (sym same)
    (subst (λ (t : List Change). IsGranted g.H.BoundName.word.shards seen.steps (event.Commit c.args.sid t)) c.in-Ok.ensures.copy granted))

pub invariant_of-self : goal.invariant_of-self
invariant_of-self g c =
    let old = c.self.inside.store in
    let new = c.commit.new.self in
    let pass = c.self.inside.pass in
    let made = c.in-Ok-commit.ensures in
    let goes : Goes false (with_commit c.args.sid c.in-Ok.copy old.ledger) old new = record { ledger_is = made.ledger; counted = made.counts; known_before = made.tells } in
    let goes_on = subst (λ (t : List Change). Goes false (with_commit c.args.sid t old.ledger) old new) c.in-Ok.ensures.copy goes in
    let may = admitted_is_open (is_open c.args.sid old.ledger.sessions) c.args.sid c.args.grants.now c.in-Ok.copy (length old.ledger.log) old.ledger.cap made.admitted in
    let seen = c.add_commit.ensures.seen ∙ ap (λ (s : Seen). with_event (event.Commit c.args.sid c.args.txn) s) c.hear.ensures.seen in
    let ids = subst (λ (t : List Change). All HasIds t) c.in-Ok.ensures.copy c.in-Ok.ensures.ids in
    let same : IsCommitted c.args.sid c.in-Ok.copy c.args.grants.now old new c.in-Ok-commit.number =
    record { admitted = made.admitted; goes = goes; number_is = made.number; applied = made.applied } in
    let done = subst (λ (t : List Change). IsCommitted c.args.sid t c.args.grants.now old new c.in-Ok-commit.number) c.in-Ok.ensures.copy same in (
      named_with_commit g.H.HubName.opening g.H.HubName.cap g.H.HubName.known_rows g.H.HubName.start old new c.args.sid c.args.txn c.self.invariant.0 goes_on made.never_falls,
      bound_with_commit g.H.BoundName.word g.H.BoundName.begun g.H.BoundName.failed old new pass c.self.invariant.1 c.args.sid c.args.txn c.add_commit.new.pass may goes_on
          (c.add_commit.ensures.word ∙ c.hear.ensures.word) seen,
      true_with_commit g.H.HubName.opening g.H.HubName.cap c.args.sid c.args.txn c.args.grants.now c.in-Ok-commit.number pass.seen c.add_commit.new.pass.seen (is_none new.known_rows) seen ids
          (commit_shows g.H.BoundName.word g.H.BoundName.begun g.H.BoundName.failed old new pass c.self.invariant.1 g.H.HubName.opening g.H.HubName.cap g.H.HubName.known_rows g.H.HubName.start
          c.self.invariant.0 c.args.sid c.args.txn c.args.grants.now c.in-Ok-commit.number c.add_commit.new.pass.seen done seen) c.self.invariant.2,
    )

pub invariant_of-self-in-Err-commit : goal.invariant_of-self-in-Err-commit
invariant_of-self-in-Err-commit g c =
    let old = c.self.inside.store in
    let new = c.commit.new.self in
    let pass = c.self.inside.pass in
    let made = c.in-Err-commit.ensures in
    let did_fail = is_failure c.in-Err-commit.fault in
    let goes : Goes did_fail (with_call did_fail old.ledger) old new = record { ledger_is = made.err; counted = made.counts; known_before = made.tells } in
    let heard = c.hear-in-Err-commit in
    let seen = heard.ensures.seen ∙ ap (λ b. with_keeper_call b (is_none new.known_rows) pass.seen) c.has_failed.ensures in (
      named_with_call g.H.HubName.opening g.H.HubName.cap g.H.HubName.known_rows g.H.HubName.start old new did_fail c.self.invariant.0 goes made.never_falls,
      bound_with_call g.H.BoundName.word g.H.BoundName.begun g.H.BoundName.failed old new pass c.self.invariant.1 did_fail heard.new.pass goes heard.ensures.word seen,
      true_with_call g.H.HubName.opening pass.seen heard.new.pass.seen did_fail (is_none new.known_rows) seen c.self.invariant.2,
    )

pub returns-clause-goes_on : goal.returns-clause-goes_on
returns-clause-goes_on g c =
    let pass = c.self.inside.pass in
    let stop = is_none c.commit.new.self.known_rows in
    subst (λ (v : BoundStoreView). IsBeginning v.seen c.match-commit.self.seen) c.self.view_is
    (elim c.match-commit.branch [
      | in-Ok-commit w ↦
          subst (λ (v : BoundStoreView). IsBeginning pass.seen v.seen) (sym w.self-is)
          (commit_goes_on c.args.sid c.args.txn stop pass.seen w.add_commit.new.pass.seen
          (w.add_commit.ensures.seen ∙ ap (λ (s : Seen). with_event (event.Commit c.args.sid c.args.txn) s) w.hear.ensures.seen))
      | in-Err-commit w ↦
          subst (λ (v : BoundStoreView). IsBeginning pass.seen v.seen) (sym w.self-is)
          (call_goes_on w.has_failed.result stop pass.seen w.hear-in-Err-commit.new.pass.seen w.hear-in-Err-commit.ensures.seen)
    ])
