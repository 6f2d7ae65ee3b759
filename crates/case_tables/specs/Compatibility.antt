use Rattle.std.specs.Prelude.{ℕ, ◌+◌, Bool, true, false, ◌&&◌, ◌||◌, if◌then◌else◌, Option, Some, None, is_some, option_and_then, List, [], ◌∷◌, slice_get}
use Rattle.std.specs.List.{list_all, list_any}
use Rattle.case_tables.specs.declared.grids.Verdict.{Verdict}
use Rattle.case_tables.specs.declared.grids.Verdict.TheVariants.{Give, Wait, Void, Join, Same, Own, Refuse, Raise, Gone}

-- why a session quarantines a key: to invalidate its value, to refresh it, or to shift it by a delta
pub data Way : Type 0 where
  invalidate : Way
  refresh : Way
  delta : Way

-- what a session asks for on a key: a lease to read, a quarantine, or that its quarantine to invalidate becomes one to refresh
pub data Request : Type 0 where
  read : Request
  quarantine : Way → Request
  raise : Request

-- what stands on a key, as the asker sees it
pub record Holding : Type 0 where
  -- the way of the asker's own quarantine
  pub own : Option Way
  -- the ways of the other sessions' quarantines
  pub others : List Way
  -- whether an unexpired lease to read stands
  pub reading : Bool

-- whether a quarantine is to invalidate
abbrev pub is_invalidate : Way → Bool
is_invalidate invalidate = true
is_invalidate refresh = false
is_invalidate delta = false

-- whether a quarantine is to refresh
abbrev pub is_refresh : Way → Bool
is_refresh invalidate = false
is_refresh refresh = true
is_refresh delta = false

-- whether a quarantine is to shift by a delta
abbrev pub is_delta : Way → Bool
is_delta invalidate = false
is_delta refresh = false
is_delta delta = true

-- whether two quarantines are of one way
abbrev pub same_way : Way → Way → Bool
same_way invalidate w = is_invalidate w
same_way refresh w = is_refresh w
same_way delta w = is_delta w

-- whether any quarantine stands
abbrev pub is_any : List Way → Bool
is_any [] = false
is_any (w ∷ ws) = true

-- to read: Own where the asker holds a quarantine, else Wait where anything stands, else Give
abbrev pub read_verdict : Holding → Verdict
read_verdict h =
    if is_some h.own then Own else if is_any h.others || h.reading then Wait else Give

-- to quarantine beside others: Join where all are to invalidate, else Refuse
abbrev pub beside_verdict : Way → List Way → Verdict
beside_verdict w others = if is_invalidate w && list_all is_invalidate others then Join else Refuse

-- to quarantine a key on which the asker holds none: beside the others where there are any, else
-- Void where a lease to read stands, else Give
abbrev pub new_verdict : Way → List Way → Bool → Verdict
new_verdict w others reading =
    if is_any others then beside_verdict w others else if reading then Void else Give

-- to quarantine: where the asker holds one, Same if it is of this way, else Refuse
abbrev pub quarantine_verdict : Way → Option Way → List Way → Bool → Verdict
quarantine_verdict w (Some own) others reading = if same_way own w then Same else Refuse
quarantine_verdict w None others reading = new_verdict w others reading

-- to raise: Gone where the asker holds no quarantine to invalidate, else Refuse beside others, else Raise
abbrev pub raise_verdict : Option Way → List Way → Verdict
raise_verdict (Some own) others = if is_invalidate own then (if is_any others then Refuse else Raise) else Gone
raise_verdict None others = Gone

-- the verdict on a request
abbrev pub verdict : Holding → Request → Verdict
verdict h read = read_verdict h
verdict h (quarantine w) = quarantine_verdict w h.own h.others h.reading
verdict h raise = raise_verdict h.own h.others

-- whether a verdict gives the lease that was asked for
abbrev pub is_given : Verdict → Bool
is_given Give = true
is_given Void = true
is_given Join = true
is_given Wait = false
is_given Same = false
is_given Own = false
is_given Refuse = false
is_given Raise = false
is_given Gone = false

-- whether a verdict raises the quarantine
abbrev pub is_raised : Verdict → Bool
is_raised Raise = true
is_raised Give = false
is_raised Void = false
is_raised Join = false
is_raised Wait = false
is_raised Same = false
is_raised Own = false
is_raised Refuse = false
is_raised Gone = false

-- the place of a way among the ways
abbrev pub way_number : Way → ℕ
way_number invalidate = 0
way_number refresh = 1
way_number delta = 2

-- the row of a key on which the asker holds no quarantine: 0 where nothing stands, 1 a lease to read,
-- 2 quarantines to invalidate alone, 3 one to refresh, 4 one to shift
abbrev pub others_row : List Way → Bool → ℕ
others_row others reading =
    if is_any others then (if list_all is_invalidate others then 2 else if list_any is_refresh others then 3 else 4) else if reading then 1 else 0

-- the row of the grid: 5 to 7 where the asker holds a quarantine, by its way, and 8 where others invalidate beside its own
abbrev pub row_from : Option Way → List Way → Bool → ℕ
row_from (Some own) others reading = if is_invalidate own && is_any others then 8 else 5 + way_number own
row_from None others reading = others_row others reading

abbrev pub row_of : Holding → ℕ
row_of h = row_from h.own h.others h.reading

-- the column of the grid: 0 to read, 1 to 3 a quarantine by its way, 4 to raise
abbrev pub column_of : Request → ℕ
column_of read = 0
column_of (quarantine w) = 1 + way_number w
column_of raise = 4

-- the verdict in a row and a column, if the grid has them
abbrev pub cell : List (List Verdict) → ℕ → ℕ → Option Verdict
cell grid r c = option_and_then (λ row. slice_get row c) (slice_get grid r)
