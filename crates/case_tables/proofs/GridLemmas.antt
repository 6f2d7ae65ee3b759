-- Reading a cell of a grid whose rows are all of one length.
use Rattle.std.proofs.Common.{◌≡◌, ℕ, ◌<◌, ◌==◌, List, [], Some, length, get_or, IsTrue, arith}
use Rattle.std.specs.List.{list_all}
use Rattle.std.proofs.lemmas.List.Folds.{list_all_at}
use Rattle.std.proofs.lemmas.Option.{slice_get-get_or}
use Rattle.std.proofs.lemmas.Bool.Decides.{nat_tests}
use Rattle.case_tables.specs.declared.grids.Verdict.{Verdict}
use Rattle.case_tables.specs.Compatibility.{cell}

-- each row has the length that all rows have
length-row : (grid : List (List Verdict)) (n r : ℕ) → IsTrue (list_all (λ row. length row == n) grid) → r < length grid → length (get_or grid r []) ≡ n
length-row grid n r all within =
    grind (arith, nat_tests, list_all_at (λ row. length row == n) grid r [] within, all)

-- the cell in range
pub cell-within : (grid : List (List Verdict)) (n r c : ℕ) (d : Verdict)
    → IsTrue (list_all (λ row. length row == n) grid) → r < length grid → c < n → cell grid r c ≡ Some (get_or (get_or grid r []) c d)
cell-within grid n r c d all within inside =
    let long = length-row grid n r all within in
    rw (slice_get-get_or grid r [] within) (slice_get-get_or (get_or grid r []) c d (omega arith))
