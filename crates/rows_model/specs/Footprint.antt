use Rattle.std.specs.Prelude.{◌≡◌, true, List, AllPairs}
use Rattle.rows_model.specs.declared.keys.QKey.{QKey}
use Rattle.rows_model.specs.declared.changes.Change.{Change}
use Rattle.rows_model.specs.Changes.{touches, footprint, has_key, is_key_before}

-- the keys ascend, and they are those that the changes touch
pub record IsFootprint (changes : List Change) (keys : List QKey) : Type 0 where
  pub ascends : AllPairs (λ key later. is_key_before later key ≡ true) keys
  pub exact : (key : QKey) → has_key key keys ≡ touches changes key

-- each footprint ascends, and has just the keys that are touched
abbrev pub FootprintsAreExact : Type 0
FootprintsAreExact = (changes : List Change) → IsFootprint changes (footprint changes)
