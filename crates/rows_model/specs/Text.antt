-- Where the bytes of a value stand. No public contract names it.
use Rattle.std.specs.Prelude.{ℕ, List}
use Rattle.std.specs.Arc.{arc_slice_items}
use Rattle.rows_model.specs.declared.values.Text.{Text}
use Rattle.rows_model.specs.declared.values.Text.TheVariants.{Own, Shared}

-- the bytes
unfoldable pub bytes_of : Text → List ℕ
bytes_of (Own text) = text.items
bytes_of (Shared text) = arc_slice_items text
