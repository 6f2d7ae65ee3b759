-- What the lists of a database have to do with the store's rows.
use Rattle.std.specs.Prelude.{◌≡◌}
use Rattle.sqlite.specs.Effect.{Database}
use Rattle.sqlite_tables.specs.Lists.{Lists, AreLists, lists_of}

-- a database holds no other lists than these
abbrev pub ListsAreOne : Type 0
ListsAreOne = (db : Database) (lists : Lists) → AreLists db lists → lists_of db ≡ lists
