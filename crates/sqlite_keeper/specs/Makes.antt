-- What the changes of a transaction make of a database, and of the counts of links and blocks.
use Rattle.std.specs.Prelude.{ℕ, ◌+◌, ◌-◌, ◌^◌, min, ◌≡◌, true, false, cond, List, Option, Some, None, Result, Ok, Err}
use Rattle.rows_model.specs.declared.changes.Change.{Change}
use Rattle.rows_model.specs.Rows.{Tables}
use Rattle.rows_model.specs.Changes.{applies, changed, apply_from}
use Rattle.rows_model.specs.Judge.{adds, ends, adds_block}
use Rattle.sql_keeper.specs.declared.faults.KeepFault.{KeepFault}
use Rattle.sql_keeper.specs.declared.faults.KeepFault.TheVariants as keep
use Rattle.sql_keeper.specs.declared.faults.AfterFault.{AfterFault}
use Rattle.sql_keeper.specs.declared.faults.AfterFault.TheVariants.{Rejected, Failed, Memory}
use Rattle.sqlite.specs.Effect.{Database}
use Rattle.sqlite_keeper.specs.declared.bonds.Tally.{Tally}
use Rattle.sqlite_keeper.specs.Bases.{rows_in, IsCounted}

-- the counts after a change that applies
abbrev pub tally_after : Change → Tally → Tally
tally_after change tally = record {
  links = min (tally.links + cond (adds change) 1 0) (2 ^ 64 - 1) - cond (ends change) 1 0;
  blocks = min (tally.blocks + cond (adds_block change) 1 0) (2 ^ 64 - 1);
}

-- a change applied to these rows, and the database holds the rows after it; or it doesn't apply
abbrev pub MakesOne : Change → Tables → Database → Result (Option Tally) KeepFault → Type 0
MakesOne change rows db (Ok (Some tally)) = (applies change rows ≡ true) × IsCounted tally db × (rows_in db ≡ changed change rows)
MakesOne change rows db (Ok None) = applies change rows ≡ false
MakesOne change rows db (Err fault) = Unit {0}

-- the changes led from these rows to those that the database holds, or the first that doesn't apply is named
abbrev pub MakesFrom : ℕ → List Change → Tables → Database → Result Tally AfterFault → Type 0
MakesFrom place changes rows db (Ok tally) = IsCounted tally db × (apply_from place changes rows ≡ Ok (rows_in db))
MakesFrom place changes rows db (Err (Rejected index)) = apply_from place changes rows ≡ Err index
MakesFrom place changes rows db (Err Failed) = Unit {0}
MakesFrom place changes rows db (Err Memory) = Unit {0}

-- the same fault, of a transaction
abbrev pub as_staged : KeepFault → AfterFault
as_staged keep.Failed = Failed
as_staged keep.Memory = Memory

-- the answer is this text, unless the database failed or memory ran out
abbrev pub StagedAnswer : List ℕ → Result (List ℕ) AfterFault → Type 0
StagedAnswer text (Ok value) = value ≡ text
StagedAnswer text (Err (Rejected index)) = ⊥
StagedAnswer text (Err Failed) = Unit {0}
StagedAnswer text (Err Memory) = Unit {0}
