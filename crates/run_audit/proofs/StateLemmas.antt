-- The rows after so many commits of a log that grows.
use Rattle.std.proofs.Common.{◌≡◌, ℕ, ◌≤◌, List, [], ◌∷◌, ◌++◌, length, ap}
use Rattle.std.proofs.lemmas.List.{take-append-le, take_all}
use Rattle.std.proofs.lemmas.List.Sums.{fold-append}
use Rattle.rows_model.specs.Rows.{Tables}
use Rattle.sql_keeper.specs.declared.stores.Commit.{Commit}
use Rattle.sql_keeper.specs.Log.{after_commit, rows_after, state}

pub state-front : (opening : Tables) (log more : List Commit) (n : ℕ) → n ≤ length log → state opening (log ++ more) n ≡ state opening log n
state-front opening log more n le = ap (rows_after opening) (take-append-le n log more le)

pub state-all : (opening : Tables) (log : List Commit) (n : ℕ) → length log ≤ n → state opening log n ≡ rows_after opening log
state-all opening log n le = ap (rows_after opening) (take_all n log le)

pub rows-push : (opening : Tables) (log : List Commit) (commit : Commit)
    → rows_after opening (log ++ commit ∷ []) ≡ after_commit (rows_after opening log) commit
rows-push opening log commit = fold-append after_commit opening log (commit ∷ [])
