-- What each call inside a transaction leaves, whatever it answers.
use Rattle.std.proofs.Common.{◌≡◌, ◌⊎◌, inl, inr, ◌≤◌, ℕ, false, List, Option, None, Some, Result, IsTrue, sym, ap, subst, ◌∙◌, append-nil}
use Rattle.std.proofs.lemmas.Bool.{cases_Bool}
use Rattle.sqlite_trees.specs.View.{doubt}
use Rattle.sqlite_trees.specs.declared.store.Store.{Ghosts}
use Rattle.sqlite_schema.specs.declared.command.Returning.{Returning}
use Rattle.sqlite.specs.declared.error.Error.{Error}
use Rattle.sqlite.specs.Order.{Row}
use Rattle.sqlite.specs.Schema.{Schema}
use Rattle.sqlite.specs.State.{State, HasCleanDisk, IsUnchanged, IsRolledBack, KeepsCommit, ShowsRows, Shown, FailsToShow, FailsToQuery, IsTooLate, IsNotRun, ExecutesInside}
use Rattle.sqlite.specs.Held.{Held, state}
use Rattle.sqlite.specs.Listing.{understood}
use Rattle.sqlite.proofs.Callers.{IsPlain}
use Rattle.sqlite.proofs.InsideLemmas.{unchanged_keeps, inside_keeps}
use Rattle.sqlite_tables.specs.Schema.{store_schema}
use Rattle.sqlite_tables.specs.Calls.{Leaves}

module _ (sql : List ℕ) (params : Row) (old new : State) where
  shows_open : (c : _) (full : Row) (rows : List Row) (returning : Option Returning) → ShowsRows old new sql c full rows returning → IsTrue old.is_open
  shows_open c full rows None h = h.3.0.was_open
  shows_open c full rows (Some what) h = h.1.shown.was_open

  -- a connection that answered was open
  pub shown_open : (rows : List Row) → Shown sql params old new rows → IsTrue old.is_open
  unfolding Shown
  shown_open rows h = shows_open h.0 _ rows h.0.returning h.2

  -- a query leaves the connection as it was
  pub shown_as : (schema : Schema) (rows : List Row) → old.now.schema ≡ schema → IsPlain (understood schema sql) → Shown sql params old new rows → IsUnchanged old new
  unfolding Shown
  shown_as schema rows has plain h =
      let known = sym h.1.is ∙ ap (λ s. understood s sql) has in
      let bare = subst IsPlain (sym known) plain in
      let it = rw (bare.0, bare.1, append-nil params) at h.2 in it.3

  pub shown_same : (rows : List Row) → old.now.schema ≡ store_schema → IsPlain (understood store_schema sql) → Shown sql params old new rows → IsUnchanged old new
  shown_same = shown_as store_schema

  fails_to_show : (c : _) (full : Row) (e : Error) (returning : Option Returning) → FailsToShow old new sql c full e returning → IsUnchanged old new ⊎ IsRolledBack old new
  fails_to_show c full e None h = inl h.3
  fails_to_show c full e (Some what) (inl refused) = inl refused.1
  fails_to_show c full e (Some what) (inr failed) = inr failed.3

  -- a query that fails leaves the connection as it was, or ends the transaction
  pub query_fails : (e : Error) → FailsToQuery sql params old new e ⊎ IsTooLate sql params old new e → IsUnchanged old new ⊎ IsRolledBack old new
  unfolding FailsToQuery IsNotRun
  query_fails e (inl (inl (inl refused))) = inl refused.1
  query_fails e (inl (inl (inr failed))) = inr failed.3
  query_fails e (inl (inr ran)) = fails_to_show ran.0 _ e ran.0.returning ran.2
  query_fails e (inr late) = inl late.5

module _ {S : Type 0} (g : Ghosts S) (old new : Held S) (sql : List ℕ) (params : Row) (clean : doubt (state g old).is_clean ≤ doubt (state g new).is_clean) where
  pub leaves_shown : (rows : List Row) → IsPlain (understood store_schema sql) → (HasCleanDisk (state g new) → Shown sql params (state g old) (state g new) rows) → Leaves g old new
  leaves_shown rows plain shown = record {
    clean = clean;
    was_open = λ honest opened. shown_open sql params (state g old) (state g new) rows (shown honest);
    committed = λ honest lists are opened. (shown_same sql params (state g old) (state g new) rows are.tables plain (shown honest)).0.committed_is;
  }

  kept_leaves : (HasCleanDisk (state g new) → KeepsCommit (state g old) (state g new)) → Leaves g old new
  kept_leaves kept = record {
    clean = clean;
    was_open = λ honest. (kept honest).was_open;
    committed = λ honest lists are. (kept honest).committed;
  }

  pub leaves_failed : (e : Error) → (HasCleanDisk (state g new) → FailsToQuery sql params (state g old) (state g new) e ⊎ IsTooLate sql params (state g old) (state g new) e) → Leaves g old new
  leaves_failed e failed = kept_leaves (λ honest. unchanged_keeps (state g old) (state g new) (query_fails sql params (state g old) (state g new) e (failed honest)))

  same_keeps : new ≡ old → IsTrue (state g new).is_open → IsTrue (state g old).is_open
  same_keeps same opened = subst (λ (h : Held S). IsTrue (state g h).is_open) same opened

  -- a statement that ran, or was refused since a failure had ended the transaction, commits nothing
  pub ran_keeps : (r : Result ℕ Error) → ((state g old).in_transaction ≡ false → new ≡ old)
      → (IsTrue (state g old).in_transaction → ExecutesInside 0 sql params (state g old) (state g new) r) → KeepsCommit (state g old) (state g new)
  ran_keeps r ended runs = elim (cases_Bool (state g old).in_transaction) [
    | inl inside ↦ inside_keeps (state g old) (state g new) 0 false sql params r (runs inside)
    | inr outside ↦ record { was_open = same_keeps (ended outside); committed = λ _. ap (λ (h : Held S). (state g h).committed) (ended outside) }
  ]

  pub leaves_ran : (r : Result ℕ Error) → ((state g old).in_transaction ≡ false → new ≡ old)
      → (HasCleanDisk (state g new) → IsTrue (state g old).in_transaction → ExecutesInside 0 sql params (state g old) (state g new) r) → Leaves g old new
  leaves_ran r ended runs = kept_leaves (λ honest. ran_keeps r ended (runs honest))
