use Rattle.std.specs.Prelude.{ℕ, ◌-◌, ◌≤◌, ◌≡◌, List, ◌++◌, length, take, drop, replicate, All}
use Rattle.std.proofs.Common.{ap, sym, subst, ◌∙◌, length-take-le, take-append-drop}

-- the byte is printable ASCII, and no space
abbrev pub IsNameByte : ℕ → Type 0
IsNameByte byte = (0x21 ≤ byte) × (byte ≤ 0x7e)

-- the text is a member's name: 1 to 40 printable bytes
pub record IsName (text : List ℕ) : Type 0 where
  pub some : 1 ≤ length text
  pub short : length text ≤ 40
  pub printable : All IsNameByte text

-- a buffer of 40 bytes holds a name of this length, and zeros behind it
pub record IsPaddedName (len : ℕ) (bytes : List ℕ) : Type 0 where
  pub full : length bytes ≡ 40
  pub fits : len ≤ 40
  pub zeros : drop len bytes ≡ replicate (40 - len) 0
  pub name : IsName (take len bytes)

-- how long the name in front of such a buffer is
pub front_len : (len : ℕ) (bytes : List ℕ) → IsPaddedName len bytes → length (take len bytes) ≡ len
front_len len bytes h =
    let P : ℕ → Type 0 = λ n. len ≤ n in length-take-le len bytes (subst P (sym h.full) h.fits)

-- the name taken out of such a buffer, with zeros put behind it, is the buffer
pub padded_back : (len : ℕ) (bytes : List ℕ) → IsPaddedName len bytes → take len bytes ++ replicate (40 - length (take len bytes)) 0 ≡ bytes
padded_back len bytes h =
    ap (λ (n : ℕ). take len bytes ++ replicate (40 - n) 0) (front_len len bytes h)
    ∙ (ap (λ (rest : List ℕ). take len bytes ++ rest) (sym h.zeros) ∙ take-append-drop len bytes)
