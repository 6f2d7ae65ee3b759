-- What a stream says doesn't depend on the pieces in which it comes.
use Rattle.std.specs.Prelude.{ℕ, ◌+◌, ◌≡◌, ◌≤◌, List, ◌++◌, length, drop}
use Rattle.mixed_lines.specs.Items.{Item, IsFirst, IsOpen, AreFirst}

-- a stream's items, lease commands and plain ones, are told by its bytes alone, however it is cut
pub record StreamsTellItems : Type 0 where
  -- what stands first takes no more bytes than there are
  pub fits : (stream : List ℕ) (item : Item) (taken : ℕ) → IsFirst stream item taken → taken ≤ length stream
  -- one item stands first at most
  pub one : (stream : List ℕ) (a b : Item) (m n : ℕ) → IsFirst stream a m → IsFirst stream b n → (a ≡ b) × (m ≡ n)
  -- and it stays first whatever bytes come behind
  pub stays : (stream more : List ℕ) (item : Item) (taken : ℕ) → IsFirst stream item taken → IsFirst (stream ++ more) item taken
  -- the items of a front, and those of what it leaves with more bytes behind, are those of the whole
  pub pieces : (front more : List ℕ) (items others : List Item) (m n : ℕ)
      → AreFirst front items m → AreFirst (drop m front ++ more) others n → AreFirst (front ++ more) (items ++ others) (m + n)
  -- items behind which nothing stands are all: any items that stand first are their beginning
  pub all : (stream : List ℕ) (items others : List Item) (m n : ℕ)
      → AreFirst stream items m → IsOpen (drop m stream) → AreFirst stream others n → (rest : List Item) × (items ≡ others ++ rest)
