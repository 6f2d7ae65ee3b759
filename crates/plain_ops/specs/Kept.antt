-- Where the bytes of a kept value stand. No public contract names it.
use Rattle.std.specs.Prelude.{ℕ, List}
use Rattle.plain_ops.specs.declared.kept.Text.{Text}
use Rattle.plain_ops.specs.declared.kept.Text.TheVariants.{Short, Long}

-- the bytes
unfoldable pub bytes_of : Text → List ℕ
bytes_of (Short text) = text.items
bytes_of (Long value) = value
