-- What the places of a keeper over a database hold.
use Rattle.std.specs.Prelude.{ℕ, Option, Some, None}
use Rattle.rows_model.specs.Rows.{Tables, start_tables}
use Rattle.sql_keeper.specs.declared.keepers.Place.{Place}
use Rattle.sql_keeper.specs.declared.keepers.Place.TheVariants.{Fresh, File}

-- a fresh place holds so many members, and no links; what a file holds isn't known before it is read
abbrev pub held_at : Place → ℕ → Option Tables
held_at Fresh members = Some (start_tables members)
held_at (File path) members = None
