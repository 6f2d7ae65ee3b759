-- The grid that the rules make, and that it gives the rules' verdict in each cell.
use Rattle.std.proofs.Common.{◌≡◌, Bool, true, false, Option, Some, None, List, [], ◌∷◌, map, refl}
use Rattle.std.specs.List.{list_all, list_any, slice_get}
use Rattle.case_tables.specs.declared.grids.Verdict.{Verdict}
use Rattle.case_tables.specs.Compatibility.{Way, invalidate, refresh, delta, Request, read, quarantine, raise, Holding, is_invalidate, is_refresh}
use Rattle.case_tables.specs.Compatibility.{verdict, row_of, column_of, cell}

-- each request once, in the order of the columns
abbrev pub requests : List Request
requests = read ∷ quarantine invalidate ∷ quarantine refresh ∷ quarantine delta ∷ raise ∷ []

-- what the rules answer to each request
abbrev pub verdicts : Holding → List Verdict
verdicts h = map (verdict h) requests

-- what stands on a key, by its parts
abbrev pub holding : Option Way → List Way → Bool → Holding
holding own others reading = record { own = own; others = others; reading = reading }

-- one holding for each row, in the order of the rows
abbrev pub holdings : List Holding
holdings =
    holding None [] false ∷ holding None [] true ∷ holding None (invalidate ∷ []) false ∷ holding None (refresh ∷ []) false
    ∷ holding None (delta ∷ []) false ∷ holding (Some invalidate) [] false ∷ holding (Some refresh) [] false ∷ holding (Some delta) [] false
    ∷ holding (Some invalidate) (invalidate ∷ []) false ∷ []

-- the grid that the rules make
abbrev pub rules_grid : List (List Verdict)
rules_grid = map verdicts holdings

-- beside others, a row is known by whether all invalidate, and else whether one refreshes
row-beside : (w : Way) (ws : List Way) (reading all any : Bool) → list_all is_invalidate (w ∷ ws) ≡ all
    → list_any is_refresh (w ∷ ws) ≡ any → slice_get rules_grid (row_of (holding None (w ∷ ws) reading)) ≡ Some (verdicts (holding None (w ∷ ws) reading))
row-beside w ws reading true any a b = rw a refl
row-beside w ws reading false true a b = rw (a, b) refl
row-beside w ws reading false false a b = rw (a, b) refl

-- the row of what stands has the rules' verdicts on it
row-verdicts : (own : Option Way) (others : List Way) (reading : Bool)
    → slice_get rules_grid (row_of (holding own others reading)) ≡ Some (verdicts (holding own others reading))
row-verdicts (Some invalidate) [] reading = refl
row-verdicts (Some invalidate) (w ∷ ws) reading = refl
row-verdicts (Some refresh) others reading = refl
row-verdicts (Some delta) others reading = refl
row-verdicts None [] true = refl
row-verdicts None [] false = refl
row-verdicts None (w ∷ ws) reading = row-beside w ws reading _ _ refl refl

-- each request is found in its column
column-request : (f : Request → Verdict) (request : Request) → slice_get (map f requests) (column_of request) ≡ Some (f request)
column-request f read = refl
column-request f (quarantine invalidate) = refl
column-request f (quarantine refresh) = refl
column-request f (quarantine delta) = refl
column-request f raise = refl

-- each cell is the rules' verdict
pub cell-rules : (h : Holding) (request : Request) → cell rules_grid (row_of h) (column_of request) ≡ Some (verdict h request)
cell-rules h request =
    rw (row-verdicts h.own h.others h.reading) (column-request (verdict h) request)
