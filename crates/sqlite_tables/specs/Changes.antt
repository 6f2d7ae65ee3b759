-- What a change makes of the lists.
use Rattle.std.specs.Prelude.{ℕ, ◌≡◌, true, false, min, max, AllPairs}
use Rattle.rows_model.specs.declared.changes.Change.{Change}
use Rattle.rows_model.specs.declared.changes.Change.TheVariants as change
use Rattle.rows_model.specs.Rows.{Fit}
use Rattle.rows_model.specs.Changes.{applies, changed}
use Rattle.sqlite_tables.specs.declared.pairs.Pair.{Pair}
use Rattle.sqlite_tables.specs.declared.pairs.PairState.{PairState}
use Rattle.sqlite_tables.specs.declared.pairs.PairState.TheVariants.{Pending, Friend, Block}
use Rattle.sqlite_tables.specs.Lists.{Lists, IsPairBefore, has_pair, with_pair, without_pair, with_name, tables_of}

-- two ids that are paired so
abbrev pub paired : ℕ → ℕ → PairState → Pair
paired a b state = record { a = a; b = b; state = state }

-- the pair of two friends, which names the smaller id first
abbrev pub friends : ℕ → ℕ → Pair
friends a b = paired (min a b) (max a b) Friend

-- the lists after a change that applies: what the statements that make it leave
abbrev pub lists_after : Change → Lists → Lists
lists_after (change.Invite a b) lists = with_pair (paired a b Pending) lists
lists_after (change.Accept a b) lists = with_pair (friends a b) (without_pair a b lists)
lists_after (change.Reject a b) lists = without_pair a b lists
lists_after (change.Thaw a b) lists = without_pair (min a b) (max a b) lists
lists_after (change.Rename a name) lists = with_name a name lists
lists_after (change.Block a b) lists = with_pair (paired a b Block) lists

-- the pair that a change puts isn't there before
abbrev pub IsFree : Change → Lists → Type 0
IsFree (change.Invite a b) lists = has_pair a b lists ≡ false
IsFree (change.Accept a b) lists = has_pair (min a b) (max a b) (without_pair a b lists) ≡ false
IsFree (change.Reject a b) lists = Unit {0}
IsFree (change.Thaw a b) lists = Unit {0}
IsFree (change.Rename a name) lists = Unit {0}
IsFree (change.Block a b) lists = has_pair a b lists ≡ false

-- A change that applies to fit rows makes of their lists those of the rows after it, and what it puts isn't there before.
abbrev pub ChangesAreMade : Type 0
ChangesAreMade =
    (change : Change) (lists : Lists) → AllPairs IsPairBefore lists.pairs → Fit (tables_of lists) → applies change (tables_of lists) ≡ true
    → IsFree change lists × (tables_of (lists_after change lists) ≡ changed change (tables_of lists))
