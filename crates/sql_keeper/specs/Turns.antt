-- What became of sessions so far, and what of it is in memory.
use Rattle.std.specs.Prelude.{ℕ, ◌≡◌, Bool, false, List, [], length, map, fold, Some}
use Rattle.std.specs.Option.{unwrap_or}
use Rattle.std.specs.Ordering.{nat_cmp}
use Rattle.std.specs.BTreeMap.{BTreeMap, get}
use Rattle.sql_keeper.specs.declared.sessions.Turn.{Turn}
use Rattle.sql_keeper.specs.declared.sessions.Turn.TheVariants.{Begun, Becomes, AllEnd}
use Rattle.sql_keeper.specs.declared.stores.Phase.{Phase}
use Rattle.sql_keeper.specs.declared.stores.Phase.TheVariants.{Ended}
use Rattle.sql_keeper.specs.Sessions.{phase_of, is_open, with_begun, with_phase, closed}

-- the sessions after one more turn
abbrev pub after_turn : List Phase → Turn → List Phase
after_turn sessions (Begun writes) = with_begun writes sessions
after_turn sessions (Becomes who phase) = with_phase who phase sessions
after_turn sessions AllEnd = map closed sessions

-- the sessions after all these turns
abbrev pub after_turns : List (Turn × Unit {0}) → List Phase
after_turns turns = fold (λ sessions turn. after_turn sessions turn.0) [] turns

-- So many sessions have begun. In memory each that is open is said to be so, and one that is said not to be so was ended before it committed.
pub record AreLive (begun : ℕ) (live : BTreeMap ℕ Bool) (sessions : List Phase) : Type 0 where
  pub counted : begun ≡ length sessions
  pub opens : (who : ℕ) → is_open (record { number = who }) sessions ≡ unwrap_or (get nat_cmp live who) false
  pub cut : (who : ℕ) → get nat_cmp live who ≡ Some false → phase_of (record { number = who }) sessions ≡ Some Ended
