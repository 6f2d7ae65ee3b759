-- What a source in memory has left and has given after a piece of its text was copied.
use Rattle.std.proofs.Common.{◌≡◌, ℕ, ◌+◌, ◌-◌, ◌≤◌, List, ◌++◌, length, take, drop, sym, ◌∙◌, ap}
use Rattle.std.proofs.Math.Seq.{take-add}
use Rattle.std.proofs.lemmas.List.{take_at, take_rest, drop-drop, take-append-drop, length-take-le}

-- what is left of the text, and what was given of it, after so many bytes came to the front of a room
pub record IsCopied (left gone text room piece : List ℕ) (given count : ℕ) : Type 0 where
  pub left_is : left ≡ take count (piece ++ drop count room) ++ drop (given + count) text
  pub gone_is : take (given + count) text ≡ gone ++ take count (piece ++ drop count room)

-- the next piece of a text is copied to the front of a room
pub copied : (left gone text room piece : List ℕ) (given count : ℕ)
    → drop given text ≡ left
    → take given text ≡ gone
    → piece ≡ take count (take (length text - given) (drop given text))
    → count ≤ length (take (length text - given) (drop given text))
    → IsCopied left gone text room piece given count
copied left gone text room piece given count is_left is_gone taken fits =
    let is_piece : piece ≡ take count (drop given text) = rw take_rest at taken in
    let fits' : count ≤ length (drop given text) = rw take_rest at fits in
    let len : length piece ≡ count = ap length is_piece ∙ length-take-le count (drop given text) fits' in
    record {
      left_is = rw (take_at piece (drop count room) count len, is_piece, ← drop-drop count given text)
          (sym is_left ∙ sym (take-append-drop count (drop given text)));
      gone_is = rw (take_at piece (drop count room) count len)
          (take-add given count text ∙ ap (λ xs. xs ++ take count (drop given text)) is_gone ∙ ap (λ xs. gone ++ xs) (sym is_piece));
    }
