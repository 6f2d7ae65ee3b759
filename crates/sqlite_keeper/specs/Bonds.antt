-- How two members are paired, by the pairs of both.
use Rattle.std.specs.Prelude.{ℕ, ◌≡◌, Bool, ◌==◌, ◌&&◌, not, List, length}
use Rattle.std.specs.List.{list_any}
use Rattle.rows_model.specs.Rows.{Tables}
use Rattle.rows_model.specs.Changes.{is_member}
use Rattle.sqlite_tables.specs.declared.pairs.Pair.{Pair}
use Rattle.sqlite_tables.specs.declared.pairs.PairState.{PairState}
use Rattle.sqlite_tables.specs.declared.pairs.PairState.TheVariants.{Block}
use Rattle.sqlite_keeper.specs.Texts.{has_state}
use Rattle.sqlite_keeper.specs.declared.bonds.Tally.{Tally}

-- whether one of these pairs names this id second
abbrev pub reaches : ℕ → List Pair → Bool
reaches b pairs = list_any (λ pair. pair.b == b) pairs

-- whether one of these pairs names this id second and has this state
abbrev pub reaches_as : PairState → ℕ → List Pair → Bool
reaches_as state b pairs = list_any (λ pair. has_state state pair && (pair.b == b)) pairs

-- whether one of these pairs names this id second and is a link
abbrev pub reaches_linked : ℕ → List Pair → Bool
reaches_linked b pairs = list_any (λ pair. not (has_state Block pair) && (pair.b == b)) pairs

-- whether some pair of the two ids, in this order, has a state
abbrev pub paired_as : PairState → ℕ → ℕ → List Pair → Bool
paired_as state a b pairs = list_any (λ pair. (pair.a == a) && (has_state state pair && (pair.b == b))) pairs

-- whether these are two different members
abbrev pub are_two : ℕ → ℕ → Tables → Bool
are_two a b rows = not (a == b) && is_member a rows && is_member b rows

-- the counts of links and blocks are those of the rows
pub record IsTallied (tally : Tally) (rows : Tables) : Type 0 where
  pub links : tally.links ≡ length rows.links
  pub blocks : tally.blocks ≡ length rows.blocks
