-- What the pairs around a member tell.
use Rattle.std.specs.Prelude.{ℕ, ◌+◌, Bool, ◌==◌, List, map, filter, count_by}
use Rattle.sqlite_tables.specs.declared.pairs.Pair.{Pair}
use Rattle.sqlite_tables.specs.declared.pairs.PairState.{PairState}
use Rattle.sqlite_tables.specs.declared.pairs.PairState.TheVariants.{Friend}
use Rattle.sqlite_tables.specs.Lists.{state_number}

-- whether a pair has this state
abbrev pub has_state : PairState → Pair → Bool
has_state state pair = state_number pair.state == state_number state

-- the first ids of the pairs that have a state
abbrev pub firsts : PairState → List Pair → List ℕ
firsts state pairs = map (λ pair. pair.a) (filter (has_state state) pairs)

-- the second ids of the pairs that have a state
abbrev pub seconds : PairState → List Pair → List ℕ
seconds state pairs = map (λ pair. pair.b) (filter (has_state state) pairs)

-- how many friends the pairs from and to a member tell
abbrev pub friends_told : List Pair → List Pair → ℕ
friends_told from to = count_by (has_state Friend) to + count_by (has_state Friend) from
