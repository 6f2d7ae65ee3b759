-- What a keeper answers where it tells its rows.
use Rattle.std.specs.Prelude.{ℕ, ◌≡◌, List, Option, Some, IsSome, Result, Ok, Err, MatchResult}
use Rattle.std.specs.Option.{ForSome}
use Rattle.rows_model.specs.declared.keys.QKey.{QKey}
use Rattle.rows_model.specs.declared.changes.Change.{Change}
use Rattle.rows_model.specs.Rows.{Tables, start_tables}
use Rattle.rows_model.specs.Query.{answer}
use Rattle.rows_model.specs.Changes.{apply_all}
use Rattle.sql_keeper.specs.declared.keepers.Place.{Place}
use Rattle.sql_keeper.specs.declared.keepers.Place.TheVariants.{Fresh}
use Rattle.sql_keeper.specs.declared.faults.AfterFault.{AfterFault}
use Rattle.sql_keeper.specs.declared.faults.AfterFault.TheVariants.{Rejected, Failed, Memory}

-- where a keeper tells its rows after a start, and the place tells those that it holds, the opening rows are these
abbrev pub AreHeld : Option Tables → Option Tables → Tables → Type 0
AreHeld known_rows held opening = IsSome known_rows → ForSome held (λ rows. opening ≡ rows)

-- a fresh place holds so many members, and no links; of a file nothing is said
abbrev pub HoldsFresh : Place → ℕ → Option Tables → Type 0
HoldsFresh place members held = place ≡ Fresh → held ≡ Some (start_tables members)

-- a fault that names a place names that of the first change that doesn't apply
abbrev pub IsRejectedAt : List Change → Tables → AfterFault → Type 0
IsRejectedAt changes rows (Rejected index) = apply_all changes rows ≡ Err index
IsRejectedAt changes rows Failed = Unit {0}
IsRejectedAt changes rows Memory = Unit {0}

-- the transaction led from these rows to those, or it was refused and left them
abbrev pub Commits : List Change → Tables → Tables → Result (Unit {0}) AfterFault → Type 0
Commits changes before after result =
    MatchResult result (λ _. apply_all changes before ≡ Ok after) (λ fault. (after ≡ before) × IsRejectedAt changes before fault)

-- the answer is the key's on the rows after the transaction
abbrev pub AnswersAfter : List Change → QKey → Tables → Result (List ℕ) AfterFault → Type 0
AnswersAfter changes key rows result =
    MatchResult result (λ value. (after : Tables) × (apply_all changes rows ≡ Ok after) × (value ≡ answer key after)) (λ fault. IsRejectedAt changes rows fault)
