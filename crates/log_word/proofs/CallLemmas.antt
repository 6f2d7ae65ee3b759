-- What each kind of step on the word asks of the table of the word, and what a join then gives.
use Rattle.std.proofs.Common.{◌≡◌, ℕ, Bool, ◌+◌, ◌%◌, ◌^◌, List, [], refl, sym, ap, ◌∙◌, subst}
use Rattle.std.specs.Prelude.{slice_index, slice_set}
use Rattle.atomic_table.specs.Table.{Me, State, keeps, Allows, Splits, Joins}
use Rattle.log_word.specs.declared.events.StoreEvent.{StoreEvent}
use Rattle.log_word.specs.declared.events.Short.{Short}
use Rattle.log_word.specs.declared.seen.Seen.{Seen}
use Rattle.log_word.specs.declared.seen.View.{View}
use Rattle.log_word.specs.declared.seen.Part.{Part}
use Rattle.log_word.specs.declared.seen.Part.TheVariants.{Caller, Store, Shard}
use Rattle.log_word.specs.Events.{MayFollow}
use Rattle.log_word.specs.Steps.{IsBorneOut, IsGranted, IsSound, IsBeginning}
use Rattle.log_word.specs.Rule.{IsShard, HasBegun, Kept}
use Rattle.log_word.specs.Views.{joined, view_with_event, view_with_failure, view_with_stop, view_with_step, shard_number, noted, with_shard, shard_view, view_joined, settled, spent_view}
use Rattle.atomic_table.specs.declared.shared.Seat.{Seat}
use Rattle.log_word.specs.Lists.{steps_of}
use Rattle.log_word.specs.Passes.{IsTogether, IsSeat, Becomes}
use Rattle.log_word.proofs.SoundLemmas.{sound_together}
use Rattle.log_word.proofs.OwnLemmas.{joined_is_together, begun_has_no_more, shard_keeps_steps}
use Rattle.log_word.proofs.EventMoves.{kept_after_load, kept_with_event, kept_with_failure, kept_with_stop}
use Rattle.log_word.proofs.StepMoves.{kept_with_own_step}
use Rattle.log_word.proofs.SeatMoves.{kept_with_note, kept_with_told, kept_with_shard}
use Rattle.log_word.proofs.JoinMoves.{kept_joined, kept_settled}

abbrev Holds : ℕ → State (Unit {0}) View → Type 0
Holds shards s = Kept shards s.words s.views

module _ (shards slots id : ℕ) (v : View) (c : List (ℕ × Unit {0})) where
  pub allows_event : (event : StoreEvent) → v.part ≡ Store → MayFollow v.seen.events event → IsGranted shards v.seen.steps event
      → Allows (Holds shards) slots id (v, c) 0 (λ n. (n + 1) % 2 ^ 64) (λ n after. (after.0 ≡ view_with_event event v) × (after.1 ≡ c))
  allows_event event store follows granted s kept len at_id small =
      (view_with_event event v, keeps, tt, kept_with_event shards s.words s.views id v event kept at_id store follows granted, (refl, refl))

  -- a load that gives the seat a new view
  loads : (s : State (Unit {0}) View) (new : View) → Kept shards s.words (slice_set s.views id new) → Kept shards (slice_set s.words 0 (slice_index s.words 0)) (slice_set s.views id new)
  loads s new kept = kept_after_load shards s.words (slice_set s.views id new) kept

  pub allows_failure : v.part ≡ Store → Allows (Holds shards) slots id (v, c) 0 (λ n. n) (λ n after. (after.0 ≡ view_with_failure v) × (after.1 ≡ c))
  allows_failure store s kept len at_id small =
      let new = view_with_failure v in (new, keeps, tt, loads s new (kept_with_failure shards s.words s.views id v kept at_id store), (refl, refl))

  pub allows_stop : (stopped : Bool) → v.part ≡ Store → Allows (Holds shards) slots id (v, c) 0 (λ n. n) (λ n after. (after.0 ≡ view_with_stop stopped v) × (after.1 ≡ c))
  allows_stop stopped store s kept len at_id small =
      let new = view_with_stop stopped v in (new, keeps, tt, loads s new (kept_with_stop shards s.words s.views id v stopped kept at_id store), (refl, refl))

  pub allows_step : (step : Short) → IsShard v.part → IsBorneOut v.seen.events step
      → Allows (Holds shards) slots id (v, c) 0 (λ n. n) (λ n after. (after.0 ≡ view_with_step step v) × (after.1 ≡ c))
  allows_step step shard borne_out s kept len at_id small =
      let new = view_with_step step v in (new, keeps, tt, loads s new (kept_with_own_step shards s.words s.views id v step kept at_id shard borne_out), (refl, refl))

  pub allows_settling : Allows (Holds shards) slots id (v, c) 0 (λ n. n) (λ n after. (after.0 ≡ settled v) × (after.1 ≡ c) × HasBegun v)
  allows_settling s kept len at_id small =
      let k = kept_settled shards s.words s.views id v kept at_id in (settled v, keeps, tt, loads s (settled v) k.0, (refl, refl, k.1))

  pub splits_note : Splits (Holds shards) id v v (noted v)
  splits_note s kept at_id = kept_with_note shards s.words s.views id v kept at_id

  pub splits_told : (step : Short) → IsShard v.part → IsBorneOut v.seen.events step → Splits (Holds shards) id v (view_with_step step v) (noted (view_with_step step v))
  splits_told step shard borne_out s kept at_id =
      let new = view_with_step step v in
      kept_with_told shards s.words s.views id v new (kept_with_own_step shards s.words s.views id v step kept at_id shard borne_out) at_id

  pub splits_shard : v.part ≡ Store → Splits (Holds shards) id v (with_shard v) (shard_view v)
  splits_shard store s kept at_id = kept_with_shard shards s.words s.views id v kept at_id store

  pub joins_seats : (from : ℕ) (other : View) → Joins (Holds shards) id v from other (view_joined v other) spent_view
  joins_seats from other s kept at_id apart at_from = kept_joined shards s.words s.views id v from other kept at_id apart at_from

-- what a join gives, once the word was looked at
pub record Gathers (shards : ℕ) (mine other new : Seen) : Type 0 where
  pub mine_begins : IsBeginning mine new
  pub theirs_begins : IsBeginning other new
  pub together : IsTogether mine other new
  pub sound : IsSound shards new

pub gathers : (shards : ℕ) (mine other : View) → HasBegun (view_joined mine other) → IsSound shards mine.seen → IsSound shards other.seen
    → Gathers shards mine.seen other.seen (joined mine.part mine.seen other.seen)
gathers shards mine other begun h k =
    let new = joined mine.part mine.seen other.seen in
    let together = joined_is_together mine.part mine.seen other.seen (begun_has_no_more mine.part mine.seen other.seen begun.1.0) in
    record {
      mine_begins = begun.0;
      theirs_begins = begun.1.0;
      together = together;
      sound = sound_together shards mine.seen other.seen new new together h k begun.0 begun.1.0;
    }

-- the seat of a pass after a step
pub seat_after : (view : View) (old new : Seat (Unit {0}) View) → Becomes view old new → old.me.1 ≡ [] → view.olds ≡ [] → IsSound view.shards view.seen → IsSeat new.me
seat_after view old new becomes empty settled sound = record {
  empty = becomes.holds ∙ empty;
  settled = ap (λ (u : View). u.olds) becomes.view_is ∙ settled;
  sound = subst (λ (u : View). IsSound u.shards u.seen) (sym becomes.view_is) sound;
}

-- the seat of a pass after a join
module _ (mine other new : Seat (Unit {0}) View) (becomes : Becomes (settled (view_joined mine.me.0 other.me.0)) mine new) where
  pub gathered_seat : HasBegun (view_joined mine.me.0 other.me.0) → other.me.0.shards ≡ mine.me.0.shards → IsSeat mine.me → IsSeat other.me → IsSeat new.me
  gathered_seat begun same h k =
      seat_after (settled (view_joined mine.me.0 other.me.0)) mine new becomes h.empty refl
      (gathers mine.me.0.shards mine.me.0 other.me.0 begun h.sound (subst (λ n. IsSound n other.me.0.seen) same k.sound)).sound

  pub gathered_together : HasBegun (view_joined mine.me.0 other.me.0) → IsTogether mine.me.0.seen other.me.0.seen new.me.0.seen
  gathered_together begun =
      subst (λ (u : View). IsTogether mine.me.0.seen other.me.0.seen u.seen) (sym becomes.view_is)
      (joined_is_together mine.me.0.part mine.me.0.seen other.me.0.seen (begun_has_no_more mine.me.0.part mine.me.0.seen other.me.0.seen begun.1.0))

  pub gathered_keeps_steps : IsShard mine.me.0.part → steps_of (shard_number mine.me.0.part) new.me.0.seen.steps ≡ steps_of (shard_number mine.me.0.part) mine.me.0.seen.steps
  gathered_keeps_steps shard =
      subst (λ (u : View). steps_of (shard_number mine.me.0.part) u.seen.steps ≡ steps_of (shard_number mine.me.0.part) mine.me.0.seen.steps) (sym becomes.view_is) (by mine.me.0.part shard)
    where
      by : (p : Part) → IsShard p → steps_of (shard_number p) (joined p mine.me.0.seen other.me.0.seen).steps ≡ steps_of (shard_number p) mine.me.0.seen.steps
      by Caller h = absurd h
      by Store h = absurd h
      by (Shard n) h = shard_keeps_steps n mine.me.0.seen other.me.0.seen

-- the seat of a note
pub seat_noted : (view : View) (new : Seat (Unit {0}) View) → new.me ≡ (noted view, []) → IsSound view.shards view.seen → (new.me.0.part ≡ Caller) × IsSeat new.me
seat_noted view new is sound = (
  ap (λ (m : Me (Unit {0}) View). m.0.part) is,
  record {
    empty = ap (λ (m : Me (Unit {0}) View). m.1) is;
    settled = ap (λ (m : Me (Unit {0}) View). m.0.olds) is;
    sound = subst (λ (m : Me (Unit {0}) View). IsSound m.0.shards m.0.seen) (sym is) sound;
  },
)
