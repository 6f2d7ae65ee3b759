-- A text says one dump at most, or is wrong first at one place.
use Rattle.std.proofs.Common.{ℕ, ◌≡◌, ◌≢◌, ◌<◌, ◌≤◌, ◌+◌, ◌⊎◌, inl, inr, List, [], ◌∷◌, ◌++◌, length, get_or, Result, Ok, Err, IfOk, IfErr}
use Rattle.std.proofs.Common.{arith, refl, sym, ap, subst, ◌∙◌, append_assoc, append-nil, length-append}
use Rattle.std.specs.Prelude.{All}
use Rattle.std.proofs.Math.ListN.{get_or-append}
use Rattle.std.proofs.Math.Seq.{get_or-append_seam}
use Rattle.std.proofs.lemmas.List.{append_cancel_left}
use Rattle.std.proofs.lemmas.List.Concat.{flat_map-cons}
use Rattle.std.proofs.lemmas.List.Elements.{All-head, All-tail}
use Rattle.shard_dump.specs.declared.heads.Head.{Head}
use Rattle.shard_dump.specs.declared.rows.DumpRow.{DumpRow}
use Rattle.shard_dump.specs.declared.rows.Dump.{Dump}
use Rattle.shard_dump.specs.declared.faults.DumpFault.{DumpFault}
use Rattle.shard_dump.specs.declared.faults.DumpFault.TheVariants.{Bad, Memory}
use Rattle.shard_dump.specs.Texts.{head_text, row_text, rows_text, end_text, head_of, IsRow, AreRows, IsDumpText, HasNoHead}
use Rattle.shard_dump.specs.Faults.{IsNext, BeginsWith, HasNoNext, IsBadRow, IsBadEnd, HasMore, IsBadAt, IsDumpFault, Gives, TextsTellDumps}
use Rattle.shard_dump.proofs.TextLemmas.{head_once, row_once}

-- rows in front of a text, and other rows in front of it: the one are a beginning of the other
rows_once : (head : Head) (rows others : List DumpRow) (x y : List ℕ) → All (IsRow head) rows → All (IsRow head) others → rows_text rows ++ x ≡ rows_text others ++ y
    → ((more : List DumpRow) × (others ≡ rows ++ more) × (x ≡ rows_text more ++ y)) ⊎ ((more : List DumpRow) × (rows ≡ others ++ more) × (y ≡ rows_text more ++ x))
rows_once head [] others x y h k e = inl (others, refl, e)
rows_once head (a ∷ rows) [] x y h k e = inr (a ∷ rows, refl, sym e)
rows_once head (a ∷ rows) (b ∷ others) x y h k e =
    let left : rows_text (a ∷ rows) ++ x ≡ row_text a ++ (rows_text rows ++ x) =
    ap (λ (t : List ℕ). t ++ x) (flat_map-cons row_text a rows) ∙ append_assoc (row_text a) (rows_text rows) x in
    let right : rows_text (b ∷ others) ++ y ≡ row_text b ++ (rows_text others ++ y) =
    ap (λ (t : List ℕ). t ++ y) (flat_map-cons row_text b others) ∙ append_assoc (row_text b) (rows_text others) y in
    let row = row_once head a b (rows_text rows ++ x) (rows_text others ++ y) (All-head (IsRow head) a rows h) (All-head (IsRow head) b others k) (sym left ∙ (e ∙ right)) in
    elim (rows_once head rows others x y (All-tail (IsRow head) a rows h) (All-tail (IsRow head) b others k) row.1) [
      | inl m ↦ inl (m.0, ap (λ (r : DumpRow). r ∷ others) (sym row.0) ∙ ap (λ (rs : List DumpRow). a ∷ rs) m.1, m.2)
      | inr m ↦ inr (m.0, ap (λ (r : DumpRow). r ∷ rows) row.0 ∙ ap (λ (rs : List DumpRow). b ∷ rs) m.1, m.2)
    ]

-- behind rows that are right together with one more, that one may stand
pub next_of : (head : Head) (rows : List DumpRow) (row : DumpRow) (more : List DumpRow) → AreRows head (rows ++ row ∷ more) → IsNext head rows row
next_of head rows row more h =
    let longer : length rows < length (rows ++ row ∷ more) = rw length-append (omega arith) in
    record {
      right = subst (IsRow head) (get_or-append_seam rows row more row) (h.each (length rows) row longer);
      other = λ i d low.
          let apart = h.differ i (length rows) d low longer in
          λ e. apart (ap (λ (r : DumpRow). r.key) (get_or-append rows (row ∷ more) d i low) ∙ e ∙ ap (λ (r : DumpRow). r.key) (sym (get_or-append_seam rows row more d)));
    }

-- nothing more is right behind these rows: there are all, or no next one stands there
abbrev IsStop : Head → List DumpRow → List ℕ → Type 0
IsStop head rows rest = ((length rows < head.rows) × HasNoNext head rows rest) ⊎ (length rows ≡ head.rows)

-- so no more rows stand in front
no_longer : (head : Head) (rows others : List DumpRow) (row : DumpRow) (more : List DumpRow) (x y : List ℕ) → IsStop head rows x → AreRows head others
    → length others ≤ head.rows → others ≡ rows ++ row ∷ more → x ≡ rows_text (row ∷ more) ++ y → ⊥
no_longer head rows others row more x y (inl stop) right few e f =
    stop.1 row (rows_text more ++ y) (next_of head rows row more (subst (AreRows head) e right))
    (f ∙ ap (λ (t : List ℕ). t ++ y) (flat_map-cons row_text row more) ∙ append_assoc (row_text row) (rows_text more) y)
no_longer head rows others row more x y (inr all) right few e f =
    let lengths : length others ≡ length (rows ++ row ∷ more) = ap length e in
    let sum = length-append rows (row ∷ more) in
    omega (arith, lengths, sum)

same_rows : (head : Head) (rows others : List DumpRow) (x y : List ℕ) → IsStop head rows x → IsStop head others y → AreRows head rows → AreRows head others
    → length rows ≤ head.rows → length others ≤ head.rows → rows_text rows ++ x ≡ rows_text others ++ y → (rows ≡ others) × (x ≡ y)
same_rows head rows others x y s t h k few less e = by (rows_once head rows others x y h.each k.each e)
  where
    by : ((more : List DumpRow) × (others ≡ rows ++ more) × (x ≡ rows_text more ++ y)) ⊎ ((more : List DumpRow) × (rows ≡ others ++ more) × (y ≡ rows_text more ++ x))
        → (rows ≡ others) × (x ≡ y)
    by (inl ([], f, g)) = (sym (f ∙ append-nil rows), g)
    by (inl (row ∷ more, f, g)) = absurd (no_longer head rows others row more x y s k less f g)
    by (inr ([], f, g)) = (f ∙ append-nil others, sym g)
    by (inr (row ∷ more, f, g)) = absurd (no_longer head others rows row more y x t h few f g)

-- a text stops once
record IsSameStop (h k : Head) (rows others : List DumpRow) (x y : List ℕ) : Type 0 where
  heads : h ≡ k
  same : rows ≡ others
  rest : x ≡ y

stop_once : (text : List ℕ) (h k : Head) (rows others : List DumpRow) (x y : List ℕ) → BeginsWith text h rows x → BeginsWith text k others y
    → IsStop h rows x → IsStop k others y → IsSameStop h k rows others x y
stop_once text h k rows others x y a b s t =
    let e : head_text h ++ (rows_text rows ++ x) ≡ head_text k ++ (rows_text others ++ y) =
    sym (append_assoc (head_text h) (rows_text rows) x) ∙ (sym a.written ∙ (b.written ∙ append_assoc (head_text k) (rows_text others) y)) in
    let heads = head_once h k (rows_text rows ++ x) (rows_text others ++ y) a.right b.right e in
    let c : BeginsWith text h others y = subst (λ (head : Head). BeginsWith text head others y) (sym heads.0) b in
    let u : IsStop h others y = subst (λ (head : Head). IsStop head others y) (sym heads.0) t in
    let rows_are = same_rows h rows others x y s u a.rows_right c.rows_right a.few c.few heads.1 in
    record { heads = heads.0; same = rows_are.0; rest = rows_are.1 }

-- what begins with a head has one in front
no_begin : (text : List ℕ) (head : Head) (rows : List DumpRow) (rest : List ℕ) → HasNoHead text → BeginsWith text head rows rest → ⊥
no_begin text head rows rest none h = none head (rows_text rows ++ rest) h.right (h.written ∙ append_assoc (head_text head) (rows_text rows) rest)

-- the text of a dump begins with all of its rows, and then the end
begins_whole : (text : List ℕ) (dump : Dump) → IsDumpText text dump → BeginsWith text (head_of dump) dump.rows end_text
begins_whole text dump h = record { right = h.right; few = omega arith; rows_right = h.rows; written = h.written }

one_dump : (text : List ℕ) (a b : Dump) → IsDumpText text a → IsDumpText text b → a ≡ b
one_dump text a b h k =
    let s = stop_once text (head_of a) (head_of b) a.rows b.rows end_text end_text (begins_whole text a h) (begins_whole text b k) (inr refl) (inr refl) in
    λ i. record { shard = (s.heads i).shard; count = (s.heads i).count; rows = s.same i }

one_text : (a b : List ℕ) (dump : Dump) → IsDumpText a dump → IsDumpText b dump → a ≡ b
one_text a b dump h k = h.written ∙ sym k.written

-- where a text is wrong: at its beginning, in front of a row or the end, or behind the end
places : (text x y : List ℕ) (m n : ℕ) → m + length x ≡ length text → n + length y ≡ length text → x ≡ y → m ≡ n
places text x y m n a b e = let lengths : length x ≡ length y = ap length e in omega (arith, lengths)

-- of two texts of which all rows were read
row_or_end : (text : List ℕ) (m n : ℕ) → IsBadRow text m → IsBadEnd text n → ⊥
row_or_end text m n a b =
    let s = stop_once text a.head b.head a.rows b.rows a.rest b.rest a.begins b.begins (inl (a.fewer, a.wrong)) (inr b.all) in
    let rows : length a.rows ≡ length b.rows = ap length s.same in
    let heads : a.head.rows ≡ b.head.rows = ap (λ (h : Head). h.rows) s.heads in
    omega (arith, rows, heads, a.fewer, b.all)

row_or_more : (text : List ℕ) (m n : ℕ) → IsBadRow text m → HasMore text n → ⊥
row_or_more text m n a b =
    let s = stop_once text a.head b.head a.rows b.rows a.rest (end_text ++ b.rest) a.begins b.begins (inl (a.fewer, a.wrong)) (inr b.all) in
    let rows : length a.rows ≡ length b.rows = ap length s.same in
    let heads : a.head.rows ≡ b.head.rows = ap (λ (h : Head). h.rows) s.heads in
    omega (arith, rows, heads, a.fewer, b.all)

end_or_more : (text : List ℕ) (m n : ℕ) → IsBadEnd text m → HasMore text n → ⊥
end_or_more text m n a b =
    let s = stop_once text a.head b.head a.rows b.rows a.rest (end_text ++ b.rest) a.begins b.begins (inr a.all) (inr b.all) in
    a.wrong b.rest s.rest

one_place : (text : List ℕ) (m n : ℕ) → IsBadAt text m → IsBadAt text n → m ≡ n
one_place text m n (inl a) (inl b) = a.0 ∙ sym b.0
one_place text m n (inl a) (inr (inl b)) = absurd (no_begin text b.head b.rows b.rest a.1 b.begins)
one_place text m n (inl a) (inr (inr (inl b))) = absurd (no_begin text b.head b.rows b.rest a.1 b.begins)
one_place text m n (inl a) (inr (inr (inr b))) = absurd (no_begin text b.head b.rows (end_text ++ b.rest) a.1 b.begins)
one_place text m n (inr (inl a)) (inl b) = absurd (no_begin text a.head a.rows a.rest b.1 a.begins)
one_place text m n (inr (inr (inl a))) (inl b) = absurd (no_begin text a.head a.rows a.rest b.1 a.begins)
one_place text m n (inr (inr (inr a))) (inl b) = absurd (no_begin text a.head a.rows (end_text ++ a.rest) b.1 a.begins)
one_place text m n (inr (inl a)) (inr (inl b)) =
    let s = stop_once text a.head b.head a.rows b.rows a.rest b.rest a.begins b.begins (inl (a.fewer, a.wrong)) (inl (b.fewer, b.wrong)) in
    places text a.rest b.rest m n a.place_is b.place_is s.rest
one_place text m n (inr (inl a)) (inr (inr (inl b))) = absurd (row_or_end text m n a b)
one_place text m n (inr (inl a)) (inr (inr (inr b))) = absurd (row_or_more text m n a b)
one_place text m n (inr (inr (inl a))) (inr (inl b)) = absurd (row_or_end text n m b a)
one_place text m n (inr (inr (inr a))) (inr (inl b)) = absurd (row_or_more text n m b a)
one_place text m n (inr (inr (inl a))) (inr (inr (inl b))) =
    let s = stop_once text a.head b.head a.rows b.rows a.rest b.rest a.begins b.begins (inr a.all) (inr b.all) in
    places text a.rest b.rest m n a.place_is b.place_is s.rest
one_place text m n (inr (inr (inl a))) (inr (inr (inr b))) = absurd (end_or_more text m n a b)
one_place text m n (inr (inr (inr a))) (inr (inr (inl b))) = absurd (end_or_more text n m b a)
one_place text m n (inr (inr (inr a))) (inr (inr (inr b))) =
    let s = stop_once text a.head b.head a.rows b.rows (end_text ++ a.rest) (end_text ++ b.rest) a.begins b.begins (inr a.all) (inr b.all) in
    places text a.rest b.rest m n a.place_is b.place_is (append_cancel_left end_text a.rest b.rest s.rest)

never_both : (text : List ℕ) (dump : Dump) (place : ℕ) → IsDumpText text dump → IsBadAt text place → ⊥
never_both text dump place h (inl a) = no_begin text (head_of dump) dump.rows end_text a.1 (begins_whole text dump h)
never_both text dump place h (inr (inl a)) =
    let s = stop_once text a.head (head_of dump) a.rows dump.rows a.rest end_text a.begins (begins_whole text dump h) (inl (a.fewer, a.wrong)) (inr refl) in
    let rows : length a.rows ≡ length dump.rows = ap length s.same in
    let heads : a.head.rows ≡ length dump.rows = ap (λ (head : Head). head.rows) s.heads in
    omega (arith, rows, heads, a.fewer)
never_both text dump place h (inr (inr (inl a))) =
    let s = stop_once text a.head (head_of dump) a.rows dump.rows a.rest end_text a.begins (begins_whole text dump h) (inr a.all) (inr refl) in
    a.wrong [] (s.rest ∙ sym (append-nil end_text))
never_both text dump place h (inr (inr (inr a))) =
    let s = stop_once text a.head (head_of dump) a.rows dump.rows (end_text ++ a.rest) end_text a.begins (begins_whole text dump h) (inr a.all) (inr refl) in
    let none : a.rest ≡ [] = append_cancel_left end_text a.rest [] (s.rest ∙ sym (append-nil end_text)) in
    let lengths : length a.rest ≡ 0 = ap length none in
    omega (arith, lengths, a.some)

pub texts_tell : TextsTellDumps
texts_tell = record { one_dump = one_dump; one_text = one_text; one_place = one_place; never_both = never_both }

-- so of a text of a dump nothing else is told
pub gives_by : (text : List ℕ) (dump : Dump) (result : Result Dump DumpFault) → IfOk result (IsDumpText text) → IfErr result (IsDumpFault text)
    → IsDumpText text dump → Gives result dump
gives_by text dump (Ok read) found bad says = one_dump text read dump found says
gives_by text dump (Err (Bad place)) found bad says = never_both text dump place says bad
gives_by text dump (Err Memory) found bad says = tt
