use Rattle.std.specs.Prelude.{ℕ, ◌≡◌, ◌≤◌, ◌<◌, ◌^◌, List, decimal}

-- the digits are those of the id, which is from 1 and below 2 ^ 32
pub record IsIdText (digits : List ℕ) (id : ℕ) : Type 0 where
  pub id_from : 1 ≤ id
  pub id_below : id < 2 ^ 32
  pub written : digits ≡ decimal id

-- these are the digits of no id
abbrev pub IsNoIdText : List ℕ → Type 0
IsNoIdText digits = (id : ℕ) → IsIdText digits id → ⊥
