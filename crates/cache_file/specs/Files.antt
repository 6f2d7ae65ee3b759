use Rattle.std.specs.Prelude.{ℕ, ◌≡◌, ◌≢◌, List, Option, None, Some, bytes_eq, if◌then◌else◌}
use Rattle.std.specs.Option.{ForSome}

-- what is told of a file: nothing, or that there is none, or its text
abbrev pub Told : Type 0
Told = Option (Option (List ℕ))

-- a file has this text, where anything is told
abbrev pub IsTold : Told → List ℕ → Type 0
IsTold told text = ForSome told (λ known. known ≡ Some text)

-- there is no file, where anything is told
abbrev pub IsAbsent : Told → Type 0
IsAbsent told = ForSome told (λ known. known ≡ None)

-- of each path the same is told
abbrev pub SameTexts : (List ℕ → Told) → (List ℕ → Told) → Type 0
SameTexts old new = (path : List ℕ) → new path ≡ old path

-- of each path but this one the same is told
abbrev pub SameElsewhere : List ℕ → (List ℕ → Told) → (List ℕ → Told) → Type 0
SameElsewhere here old new = (path : List ℕ) → path ≢ here → new path ≡ old path

-- of no path anything is told
abbrev pub untold : ℕ → List ℕ → Told
untold faults path = None

-- one file in memory: its path, its text if it is there, the numbers of the calls that fail, and how many calls and
-- faults there were
pub record MemView : Type 0 where
  pub path : List ℕ
  pub text : Option (List ℕ)
  pub fails : List ℕ
  pub calls : ℕ
  pub faults : ℕ

-- what it tells of a path: at its own its text, or that there is none, and of others nothing
abbrev pub mem_text_at : MemView → List ℕ → Told
mem_text_at file path = if bytes_eq file.path path then Some file.text else None

-- what a read of a path finds there: its text at its own, and at others none
abbrev pub mem_found : MemView → List ℕ → Option (List ℕ)
mem_found file path = if bytes_eq file.path path then file.text else None
