-- The rows of the two tables as two lists: the members by id, and the pairs of ids by both.
use Rattle.std.specs.Prelude.{ℕ, pos, Bool, ◌==◌, ◌&&◌, ◌||◌, ◌≡◌, ◌<◌, ◌≤◌, not, nat_lt, if◌then◌else◌, List, [], ◌∷◌, ◌++◌}
use Rattle.std.specs.Prelude.{map, filter, find, fold, count_by, AllPairs, IsPermutation, Option, Some, None, option_map, ℤ, length, IsTrue, ◌⊎◌, ◌<ℤ◌}
use Rattle.std.specs.List.{list_any, flat_map, insert, AllByRecursion}
use Rattle.rows_model.specs.declared.rows.Link.{Link}
use Rattle.rows_model.specs.declared.rows.LinkState.TheVariants as link
use Rattle.rows_model.specs.declared.rows.Member.{Member}
use Rattle.rows_model.specs.Rows.{Tables, BlockRow}
use Rattle.rows_model.specs.Changes.{renamed}
use Rattle.sqlite.specs.declared.types.Value.{Value}
use Rattle.sqlite.specs.declared.types.Value.TheVariants.{Int, Text}
use Rattle.sqlite.specs.Order.{Row, column}
use Rattle.sqlite_trees.specs.Tree.{Trees, rowid, has_rowid}
use Rattle.sqlite_trees.specs.View.{is_int}
use Rattle.sqlite.specs.Effect.{Database}
use Rattle.sqlite.specs.Schema.{Schema}
use Rattle.sqlite_tables.specs.declared.pairs.Pair.{Pair}
use Rattle.sqlite_tables.specs.declared.pairs.PairState.{PairState}
use Rattle.sqlite_tables.specs.declared.pairs.PairState.TheVariants.{Pending, Friend, Block}
use Rattle.sqlite_tables.specs.Schema.{store_schema, unindexed_schema}

-- who is a member, and which ids are paired: by a link or by a block
pub record Lists : Type 0 where
  pub members : List Member
  pub pairs : List Pair

-- the number that stands for the state of a pair
abbrev pub state_number : PairState → ℕ
state_number Pending = 0
state_number Friend = 1
state_number Block = 2

-- the values of a pair: its two ids, and the number of its state
abbrev pub pair_values : Pair → Row
pair_values pair = Int (pos pair.a) ∷ Int (pos pair.b) ∷ Int (pos (state_number pair.state)) ∷ []

-- the values of a member: its id, and its name
abbrev pub member_values : Member → Row
member_values member = Int (pos member.id) ∷ Text member.name ∷ []

-- the id and the name in a row of the members
abbrev pub shown_member : Row → Row
shown_member row = column row 0 ∷ column row 2 ∷ []

-- the two ids and the number of the state in a row of the links, behind its rowid
abbrev pub shown_pair : Row → Row
shown_pair row = column row 1 ∷ column row 2 ∷ column row 3 ∷ []

-- each row has a rowid, and no two have the same
pub record HaveRowids (rows : List Row) : Type 0 where
  pub numbers : AllByRecursion (λ row. IsTrue (is_int (rowid row))) rows
  pub apart : (id : ℤ) → length (filter (has_rowid id) rows) ≤ 1

-- one pair stands before another: by its first id, and then by its second
abbrev pub IsPairBefore : Pair → Pair → Type 0
IsPairBefore pair later = (pair.a ≤ later.a) × (pair.a ≡ later.a → pair.b < later.b)

-- A database holds these lists: it has the store's tables, and their rows, in whatever order, show the members and the
-- pairs, of which no two have the same id or ids.
pub record AreLists (db : Database) (lists : Lists) : Type 0 where
  pub tables : db.schema ≡ store_schema
  pub members : IsPermutation (map member_values lists.members) (map shown_member (db.trees 0))
  pub members_ascend : AllPairs (λ member later. member.id < later.id) lists.members
  pub rowids : HaveRowids (db.trees 1)
  pub pairs : IsPermutation (map pair_values lists.pairs) (map shown_pair (db.trees 1))
  pub pairs_ascend : AllPairs IsPairBefore lists.pairs

-- the same of the rows alone, whatever tables these are
pub record HoldLists (trees : Trees) (lists : Lists) : Type 0 where
  pub members : IsPermutation (map member_values lists.members) (map shown_member (trees 0))
  pub members_ascend : AllPairs (λ member later. member.id < later.id) lists.members
  pub rowids : HaveRowids (trees 1)
  pub pairs : IsPermutation (map pair_values lists.pairs) (map shown_pair (trees 1))
  pub pairs_ascend : AllPairs IsPairBefore lists.pairs

-- rows are numbers that ascend
abbrev pub AscendAsRows : List Row → Type 0
AscendAsRows rows = (numbers : List ℤ) × (rows ≡ map (λ n. Int n ∷ []) numbers) × AllPairs (λ m n. m <ℤ n) numbers

-- a schema has the two tables of the store, with or without the index by the second id
abbrev pub HasTables : Schema → Type 0
HasTables schema = (schema ≡ unindexed_schema) ⊎ (schema ≡ store_schema)

-- whether a pair has these two ids, in this order
abbrev pub is_pair : ℕ → ℕ → Pair → Bool
is_pair a b pair = (pair.a == a) && (pair.b == b)

-- whether some pair has these two ids, in this order
abbrev pub has_pair : ℕ → ℕ → Lists → Bool
has_pair a b lists = list_any (is_pair a b) lists.pairs

-- the name of the member with this id, if there is one
abbrev pub name_in : ℕ → Lists → Option (List ℕ)
name_in id lists = option_map (λ member. member.name) (find (λ member. member.id == id) lists.members)

-- the rows that show a name, if there is one
abbrev pub name_rows : Option (List ℕ) → List Row
name_rows None = []
name_rows (Some name) = (Text name ∷ []) ∷ []

-- the pairs whose first id is this one
abbrev pub pairs_from : ℕ → Lists → List Pair
pairs_from id lists = filter (λ pair. pair.a == id) lists.pairs

-- the pair with these two ids, in this order, or none
abbrev pub pairs_between : ℕ → ℕ → Lists → List Pair
pairs_between a b lists = filter (is_pair a b) lists.pairs

-- the pairs whose second id is this one
abbrev pub pairs_to : ℕ → Lists → List Pair
pairs_to id lists = filter (λ pair. pair.b == id) lists.pairs

-- whether a pair stands before another: by its first id, and then by its second
abbrev pub is_pair_before : Pair → Pair → Bool
is_pair_before later pair = nat_lt pair.a later.a || ((pair.a == later.a) && nat_lt pair.b later.b)

-- the pairs and one more, behind those that stand before it
abbrev pub put_pair : List Pair → Pair → List Pair
put_pair pairs new = insert pairs (count_by (is_pair_before new) pairs) new

-- the lists with one pair more
abbrev pub with_pair : Pair → Lists → Lists
with_pair new lists = record { members = lists.members; pairs = put_pair lists.pairs new }

-- the lists without the pair of these two ids, in this order
abbrev pub without_pair : ℕ → ℕ → Lists → Lists
without_pair a b lists = record { members = lists.members; pairs = filter (λ pair. not (is_pair a b pair)) lists.pairs }

-- the lists, where the member with this id has this name
abbrev pub with_name : ℕ → List ℕ → Lists → Lists
with_name id name lists = record { members = map (renamed id name) lists.members; pairs = lists.pairs }

-- the lists with one member more, behind the others
abbrev pub with_member : Member → Lists → Lists
with_member new lists = record { members = lists.members ++ new ∷ []; pairs = lists.pairs }

-- no members and no pairs
abbrev pub no_lists : Lists
no_lists = record { members = []; pairs = [] }

-- a database has these tables, and no row in them
pub record IsBare (schema : Schema) (db : Database) : Type 0 where
  pub tables : db.schema ≡ schema
  pub rows : AllByRecursion (λ t. db.trees t.tree ≡ []) schema.tables

-- the link that a pair is, unless it is a block
abbrev pub link_in : ℕ → ℕ → PairState → List Link
link_in a b Pending = (record { a = a; b = b; state = link.Pending }) ∷ []
link_in a b Friend = (record { a = a; b = b; state = link.Friend }) ∷ []
link_in a b Block = []

-- the block that a pair is, unless it is a link
abbrev pub block_in : ℕ → ℕ → PairState → List BlockRow
block_in a b Pending = []
block_in a b Friend = []
block_in a b Block = (record { blocker = a; blocked = b }) ∷ []

-- the rows of the store that the lists tell
abbrev pub tables_of : Lists → Tables
tables_of lists = record {
  members = lists.members;
  links = flat_map (λ pair. link_in pair.a pair.b pair.state) lists.pairs;
  blocks = flat_map (λ pair. block_in pair.a pair.b pair.state) lists.pairs;
}

-- the number that a value is
abbrev pub number_of : Value → ℕ
number_of (Int (pos n)) = n
number_of other = 0

-- the text that a value is
abbrev pub text_of : Value → List ℕ
text_of (Text text) = text
text_of other = []

-- the state that a number stands for
abbrev pub state_of : ℕ → PairState
state_of number = if number == 0 then Pending else if number == 1 then Friend else Block

-- the pair that values tell of
abbrev pub pair_of : Row → Pair
pair_of values = record { a = number_of (column values 0); b = number_of (column values 1); state = state_of (number_of (column values 2)) }

-- the member that values tell of
abbrev pub member_of : Row → Member
member_of values = record { id = number_of (column values 0); name = text_of (column values 1) }

-- whether a member stands before another, by id
abbrev pub is_member_before : Member → Member → Bool
is_member_before later member = nat_lt member.id later.id

-- the members and one more, behind those that stand before it
abbrev pub put_in_place : List Member → Member → List Member
put_in_place members new = insert members (count_by (is_member_before new) members) new

-- the lists that a database holds, if it holds lists
unfoldable pub lists_of : Database → Lists
lists_of db = record {
  members = fold put_in_place [] (map member_of (map shown_member (db.trees 0)));
  pairs = fold put_pair [] (map pair_of (map shown_pair (db.trees 1)));
}
