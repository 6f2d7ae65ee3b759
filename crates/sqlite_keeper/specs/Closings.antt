-- What a close leaves in the two files of a database.
use Rattle.std.specs.Prelude.{Option, Some, None}
use Rattle.rows_model.specs.Rows.{Tables}
use Rattle.sqlite_disk.specs.declared.Disk.{Ghosts}
use Rattle.sqlite_disk.specs.declared.Files.{Files}
use Rattle.sqlite_wal.specs.Recovery.{Image}
use Rattle.sqlite_wal.specs.Files.{outcomes}
use Rattle.sqlite.specs.Effect.{Database}
use Rattle.sqlite.specs.Files.{image_of}
use Rattle.sqlite.specs.Closing.{HoldsAlone}
use Rattle.sqlite_keeper.specs.Openings.{HoldsRows}

-- two files hold a database with these rows, and so does the database file with no log
pub record IsWhole (image : Image) (rows : Tables) : Type 0 where
  pub db : Database
  pub rows_are : HoldsRows rows db
  pub alone : HoldsAlone image db.trees

module _ {D : Type 0} (g : Ghosts D) where
  -- so they do as they read now, and after a crash
  pub record AreWhole (rows : Tables) (files : Files D) : Type 0 where
    pub seen : IsWhole (image_of g files) rows
    pub left : (image : Image) → outcomes g files.log files.db image → IsWhole image rows

  -- where there were rows the files are left with them, and else there are none
  abbrev pub IsLeft : Option Tables → Option (Files D) → Type 0
  IsLeft (Some rows) (Some files) = AreWhole rows files
  IsLeft (Some rows) None = ⊥
  IsLeft None (Some files) = ⊥
  IsLeft None None = Unit {0}
