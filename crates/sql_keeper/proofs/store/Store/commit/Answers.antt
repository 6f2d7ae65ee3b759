use Rattle.std.proofs.Common.{◌≡◌, refl, Ok, length, ap, subst, sym, ◌∙◌}
use Rattle.rows_model.specs.Rows.{Tables}
use Rattle.rows_model.specs.Changes.{apply_all}
use Rattle.sql_keeper.specs.Log.{rows_after}
use Rattle.sql_keeper.specs.Sessions.{is_open}
use Rattle.sql_keeper.specs.Stores.{Ledger, IsLedger, with_commit}
use Rattle.sql_keeper.proofs.StoreLemmas.{known-at, rows-committed, ledger-committed, admitted, failed-same}
use Rattle.sql_keeper.proofs.store.Store.commit.Goals as goal

pub returns-in-Err-clause-rejected : goal.returns-in-Err-clause-rejected
returns-in-Err-clause-rejected g c = λ _. c.in-Err.ensures.any_rows _

pub invariant_of-self-2 : goal.invariant_of-self-2
invariant_of-self-2 g c =
    let inside = c.self.inside in
    let ledger : Ledger = record { opening = inside.opening; log = inside.log.items; sessions = inside.sessions; cap = inside.cap; failed = inside.failed } in
    let first =
    admitted (is_open c.args.sid inside.sessions) c.args.sid c.args.grants.now c.args.txn (length inside.log.items) inside.cap c.in_default.ensures.ok in
    let same : record { opening = inside.opening; log = c.push.new.self.items; sessions = c.close.new.self; cap = inside.cap; failed = inside.failed }
    ≡ with_commit c.args.sid c.args.txn ledger =
    rw (c.push.ensures.items, c.admit.ensures.items, c.close.ensures) refl in (
      c.commit.ensures.started,
      subst IsLedger (sym same) (ledger-committed ledger c.args.sid c.args.txn c.self.invariant.1 first.0 first.1),
      λ known_rows is_told.
          let before = c.in_default-commit.ensures.tells known_rows is_told in
          let log_is = c.self.invariant.2 before.0 before.1 in
          rows-committed inside.opening inside.log.items c.args.sid c.args.txn known_rows
          (subst (λ (rows : Tables). apply_all c.args.txn rows ≡ Ok known_rows) log_is before.2)
          ∙ sym (ap (λ l. rows_after inside.opening l.log) same),
      failed-same _ _ _ _ c.self.invariant.3 c.in_default-commit.ensures.counts,
      c.push.ensures.keeps ∙ c.admit.ensures.keeps ∙ c.self.invariant.4,
    )

pub returns-clause-applied : goal.returns-clause-applied
returns-clause-applied g c =
    rw (← c.self.view_is)
    (λ some.
    let known = known-at _ some in
    let before = c.in_default-commit.ensures.tells known.0 known.1 in
    let log_is = c.self.invariant.2 before.0 before.1 in
    (known.0, subst (λ (rows : Tables). apply_all c.args.txn rows ≡ Ok known.0) log_is before.2))
