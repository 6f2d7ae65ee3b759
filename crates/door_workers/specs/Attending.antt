-- How far workers have come at their door.
use Rattle.std.specs.Prelude.{ℕ, zero, suc, ◌≡◌, ◌+◌, ◌-◌, ◌^◌, ◌≤◌, ◌⊎◌, ◌||◌, min, nat_le, Bool, true, false, List, [], ◌∷◌, ◌++◌, length, Option, Some, None, Vec, IfSome, MatchBool, vec_capacity}
use Rattle.std.specs.Global.{Global}
use Rattle.std.specs.Option.{option_map}
use Rattle.iq_outside.specs.Outside.{Rose, count_up}
use Rattle.door_workers.specs.declared.progress.Progress.{Progress}
use Rattle.conn_server.specs.declared.ends.LineEnd.{LineEnd}
use Rattle.door_workers.specs.DoorSeen.{DoorSeen}

-- The number that is reached by counting up so many times: it stands still at the end of its type.
abbrev pub count_up_by : ℕ → ℕ → ℕ
count_up_by zero n = n
count_up_by (suc times) n = count_up (count_up_by times n)

-- So many lines were handed back: the door tells the lines handed back no longer, or they are so many more.
abbrev pub GivesBack : ℕ → Option ℕ → Option ℕ → Type 0
GivesBack count before after = (after ≡ None) ⊎ (after ≡ option_map (λ closed. closed + count) before)

-- What a door tells of itself.
abbrev pub seen_at : {D L : Type 0} → (D → Option (List ℕ)) → (D → ℕ) → (D → ℕ) → (D → Bool) → (D → Option (List L)) → D → DoorSeen
seen_at bound lines faults ended closed door = record {
  bound = bound door;
  lines = lines door;
  faults = faults door;
  ended = ended door;
  closed = option_map length (closed door);
}

-- There is an end for each of so many lines, where a number of lines is enough. Where none is, no end is kept.
abbrev pub HaveEnds : Option ℕ → ℕ → List LineEnd → Type 0
HaveEnds (Some most) lines ends = length ends ≡ lines
HaveEnds None lines ends = ends ≡ []

-- So many lines are enough, or the door said that no more come: which it did where no number of lines is enough.
abbrev pub IsEnough : Option ℕ → ℕ → Bool → Type 0
IsEnough (Some most) lines ended = (lines ≡ most) ⊎ (ended ≡ true)
IsEnough None lines ended = ended ≡ true

-- Workers who may accept so many lines, or any number, attended a door that told this before and tells this after. They accepted
-- some lines and handed each back, and counted them. It is open where it was.
pub record WasAttended (most : Option ℕ) (before after : DoorSeen) (ends : List LineEnd) (served : ℕ) (failed : Bool) : Type 0 where
  pub lines : ℕ
  pub few : IfSome most (λ most. lines ≤ most)
  pub have_ends : HaveEnds most lines ends
  pub served_is : served ≡ min lines (2 ^ 64 - 1)
  pub bound : after.bound ≡ before.bound
  pub counted : after.lines ≡ count_up_by lines before.lines
  pub given_back : GivesBack lines before.closed after.closed
  pub all : failed ≡ false → IsEnough most lines after.ended

-- Nothing is done yet.
abbrev pub at_start : Option ℕ → Vec LineEnd Global → Progress
at_start most ends = record { most = most; accepted = 0; ends = ends; ended = false; failed = false }

-- As many lines were accepted as may be.
abbrev pub is_full : Option ℕ → ℕ → Bool
is_full (Some most) accepted = nat_le most accepted
is_full None accepted = false

-- No line is to be accepted any more.
abbrev pub is_over : Progress → Bool
is_over so_far = is_full so_far.most so_far.accepted || so_far.ended || so_far.failed

-- The ends that are kept, with one more behind them where ends are kept.
abbrev pub one_more : Option ℕ → List LineEnd → LineEnd → List LineEnd
one_more (Some most) ends end = ends ++ end ∷ []
one_more None ends end = ends

-- Workers who may accept so many lines, or any number, have come so far at a door that told this first and tells this now. They
-- handed so many lines back, and are serving so many.
pub record HaveCome (first : DoorSeen) (most : Option ℕ) (now : DoorSeen) (so_far : Progress) (back out : ℕ) : Type 0 where
  pub most_is : so_far.most ≡ most
  pub few : IfSome most (λ most. back + out ≤ most)
  pub room : IfSome most (λ most. most ≤ vec_capacity so_far.ends)
  pub have_ends : HaveEnds most back so_far.ends.items
  pub accepted : so_far.accepted ≡ min (back + out) (2 ^ 64 - 1)
  pub bound : now.bound ≡ first.bound
  pub counted : now.lines ≡ count_up_by (back + out) first.lines
  pub failed : MatchBool so_far.failed (Rose first.faults now.faults) (now.faults ≡ first.faults)
  pub never_falls : first.faults ≤ now.faults
  pub ended : so_far.ended ≡ true → now.ended ≡ true
  pub given_back : GivesBack back first.closed now.closed

-- They have handed some lines back, and are serving so many.
abbrev pub HaveComeWith : DoorSeen → Option ℕ → DoorSeen → Progress → ℕ → Type 0
HaveComeWith first most now so_far out = (back : ℕ) × HaveCome first most now so_far back out
