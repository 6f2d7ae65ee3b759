-- What the locks of a hub keep of what was handed in.
use Rattle.std.specs.Prelude.{ℕ, ◌≡◌, ◌+◌, ◌^◌, ◌<◌, ◌≤◌, List, length, Option, Some, IsSome, slice_get, All, Bool}
use Rattle.std.specs.Option.{ForSome}
use Rattle.rows_model.specs.Rows.{Tables}
use Rattle.key_shard.specs.Answers.{Legal}
use Rattle.key_shard.specs.Past.{Terms}
use Rattle.key_shard.specs.Shards.{ShardView}
use Rattle.sql_keeper.specs.Stores.{StoreView}

-- A shard with the terms that are named for its number.
abbrev pub IsNamed : (ℕ → Terms) → ShardView → Type 0
IsNamed terms shard = shard.terms ≡ terms shard.terms.no

-- The token of the shard of this number: one part of the hub's ledger, with this power of two for its amount.
pub record IsTokenOf (no parts amount : ℕ) : Type 0 where
  pub one_part : parts ≡ 1
  pub amount_is : amount ≡ 2 ^ no

-- The tokens of the shards of all numbers below this one, together.
pub record AreTokens (count parts amount : ℕ) : Type 0 where
  pub one_each : parts ≡ count
  pub amount_is : amount + 1 ≡ 2 ^ count

-- Whoever is named for a number below this one is one of so many.
abbrev pub HaveCount : (ℕ → Terms) → ℕ → Type 0
HaveCount terms count = (no : ℕ) → no < count → (terms no).count ≡ count

-- Each shard has its place for its number.
abbrev pub ArePlaced : List ShardView → Type 0
ArePlaced shards = (place : ℕ) (shard : ShardView) → slice_get shards place ≡ Some shard → shard.terms.no ≡ place

-- Each shard's history is legal.
abbrev pub AreLegal : List ShardView → Type 0
AreLegal shards = All (λ shard. Legal shard.terms shard.history) shards

-- A store with the opening rows and the cap that are named. Its keeper tells its rows only
-- if it is named as having told some, and its count of faults hasn't fallen since it was named.
pub record IsNamedStore (opening : Tables) (cap : ℕ) (known_rows : Option Tables) (start : Option ℕ) (store : StoreView) : Type 0 where
  pub opening_is : store.ledger.opening ≡ opening
  pub cap_is : store.ledger.cap ≡ cap
  pub known_before : IsSome store.known_rows → IsSome known_rows
  pub never_fell : ForSome start (λ first. first ≤ store.faults)

-- At least one shard: each has its place for its number, their number for its count, and the terms that are named for it.
pub record AreAll (terms : ℕ → Terms) (shards : List ShardView) : Type 0 where
  pub some : 1 ≤ length shards
  pub named : All (IsNamed terms) shards
  pub counted : All (λ shard. shard.terms.count ≡ length shards) shards
  pub placed : ArePlaced shards

-- What the shard of this number is made with, one of so many with this room, whose leases live so long, and that is whole or
-- rolls. The first token is 1.
abbrev pub terms_at : ℕ → ℕ → ℕ → Bool → ℕ → Terms
terms_at count room life rolls place = record {
  no = place;
  count = count;
  room = room;
  life = life;
  first = 1;
  rolls = rolls;
}
