-- The ends of a run.
use Rattle.std.proofs.Common.{get_or, ℕ, ◌≡◌, ◌+◌, ◌-◌, ◌^◌, ◌<◌, ◌≤◌, List, [], ◌∷◌, ◌++◌, length, map, arith, refl, sym, ap, ◌∙◌, subst}
use Rattle.std.proofs.Common.{inl, inr, append_assoc, append-nil}
use Rattle.std.specs.Prelude.{Bool, true, false, Option, Some, Result, OnErr, OnOk, Ok, Err, sum_by}
use Rattle.iq_outside.specs.Outside.{Rose}
use Rattle.iq_outside.proofs.OutsideLemmas.{Gains-none}
use Rattle.session_client.specs.declared.plans.Shape.{Shape}
use Rattle.run_inputs.specs.declared.scripts.Act.{Act}
use Rattle.run_inputs.specs.Fit.{IsPlayable, turns_of}
use Rattle.core_history.specs.Lines.{lines_of, end_line, fault_turns}
use Rattle.core_history.specs.Cores.{CoreView, Origin, origin_of, IsAt, HasKept, IsSound, histories_in}
use Rattle.core_history.specs.Machine.{Move}
use Rattle.top_run.specs.declared.plays.Stop.{Stop}
use Rattle.top_run.specs.declared.plays.Stop.TheVariants as stop
use Rattle.top_run.specs.declared.plays.Tally.{Tally}
use Rattle.top_run.specs.declared.runs.Status.{Status}
use Rattle.top_run.specs.declared.runs.Status.TheVariants as status
use Rattle.core_history.specs.Determined.{Cue}
use Rattle.top_run.specs.Runs.{calls_of, past_of, faults_in, earlier, Held, Prints, IsRead, Tells, Left, IsOpened, AreCounted, IsBegun, IsWhole}
use Rattle.top_run.specs.Runs.{IsCutOff, Keeps, Ended, is_read_fault, is_write_fault}
use Rattle.top_run.specs.Plays.{CanPlay, IsPlayed, Stops, IsNoted, IsNew, IsFinished, IsStopped, status_of, at_write}
use Rattle.top_run.proofs.PrintLemmas.{lines_none}
use Rattle.top_run.proofs.KeepLemmas.{end_line_of, keeps, opened_still, the_text_is, no_turns, some_turns, none_told, rose_since, rose_of, never_fell}
use Rattle.top_run.proofs.PlayLemmas.{lines_split}

-- a new core stands at the start
pub stands_new : (core : CoreView) (shape : Shape) (taken : Option (List ℕ)) (tally : Tally)
    → IsNew core shape → tally ≡ record { written = 0; faulted = false } → IsPlayed core (origin_of shape core) [] taken taken tally
stands_new core shape taken tally h none =
    subst (λ (t : Tally). IsPlayed core (origin_of shape core) [] taken taken t) (sym none) (record {
      moves = [];
      at = h;
      made = refl;
      prints = record { gains = rw lines_none (Gains-none taken); counted = rw lines_none refl };
      noted = refl;
    })

pub can_start : (core : CoreView) (shape : Shape) (acts : List Act) (taken : Option (List ℕ)) (tally : Tally)
    → IsPlayable shape acts → IsNew core shape → tally ≡ record { written = 0; faulted = false } → CanPlay core acts taken tally
can_start core shape acts taken tally playable h none =
    let few = playable.short in
    record {
      origin = origin_of shape core;
      calls = [];
      taken_old = taken;
      stands = stands_new core shape taken tally h none;
      fit = playable.fit;
      few = few_turns (sum_by turns_of acts) few;
    }
  where
    few_turns : (n : ℕ) → n ≤ 1000000 → 0 + n < 2 ^ 32
    few_turns n h = omega arith

-- where a script's acts were played on a new core, it stands after what they say
pub stands_played : (core new : CoreView) (shape : Shape) (acts played : List Act) (taken taken_new : Option (List ℕ)) (tally tally_new : Tally)
    → IsNew core shape → tally ≡ record { written = 0; faulted = false } → played ≡ acts
    → ((origin : Origin) (calls : List Cue) (taken_old : Option (List ℕ))
    → IsPlayed core origin calls taken_old taken tally → IsPlayed new origin (calls ++ calls_of played) taken_old taken_new tally_new)
    → IsPlayed new (origin_of shape core) ([] ++ calls_of acts) taken taken_new tally_new
stands_played core new shape acts played taken taken_new tally tally_new is_new none same on =
    subst (λ (xs : List Act). IsPlayed new (origin_of shape core) ([] ++ calls_of xs) taken taken_new tally_new) same
    (on (origin_of shape core) [] taken (stands_new core shape taken tally is_new none))

-- a stop among the turns
pub stopped_at_act : (core : CoreView) (origin : Origin) (acts : List Act) (taken_old taken_new : Option (List ℕ)) (tally : Tally)
    → Stops core origin ([] ++ calls_of acts) taken_old taken_new tally → IsStopped core origin acts taken_old taken_new tally
stopped_at_act core origin acts taken_old taken_new tally h =
    record {
      moves = h.moves;
      made = (h.others, h.made);
      kept = h.kept;
      printed = h.printed;
      part = record { more = h.more; first = inl h.parts; last = h.last; prompt = h.prompt };
      prints = h.prints;
    }

-- a stop at the last line
pub stopped_at_end : (core : CoreView) (origin : Origin) (acts : List Act)
    (taken_old taken_was taken_new : Option (List ℕ)) (was tally : Tally) (front rest : List ℕ)
    → (h : IsPlayed core origin ([] ++ calls_of acts) taken_old taken_was was)
    → front ++ rest ≡ end_line core.store.ledger.log (histories_in core)
    → Prints taken_old taken_new (lines_of (past_of origin.shape h.moves) ++ front) tally.written
    → IsStopped core origin acts taken_old taken_new tally
stopped_at_end core origin acts taken_old taken_was taken_new was tally front rest h parts prints =
    let past = past_of origin.shape h.moves in
    record {
      moves = h.moves;
      made = ([], append-nil _ ∙ h.made);
      kept = h.at.kept;
      printed = lines_of past ++ front;
      part = record {
        more = rest;
        first = inr (
          h.made,
          append_assoc (lines_of past) front rest
              ∙ ap (λ (bytes : List ℕ). lines_of past ++ bytes) (parts ∙ end_line_of core origin h.moves h.at.kept),
        );
        last = (lines_split past).0 ++ front;
        prompt = ap (λ (bytes : List ℕ). bytes ++ front) (lines_split past).1 ∙ append_assoc (lines_of (earlier past)) (lines_split past).0 front;
      };
      prints = prints;
    }

pub stopped_before_end : (core : CoreView) (origin : Origin) (acts : List Act) (taken_old taken_new : Option (List ℕ)) (tally : Tally)
    → IsPlayed core origin ([] ++ calls_of acts) taken_old taken_new tally → IsStopped core origin acts taken_old taken_new tally
stopped_before_end core origin acts taken_old taken_new tally h = record {
  moves = h.moves;
  made = ([], append-nil _ ∙ h.made);
  kept = h.at.kept;
  printed = lines_of (past_of origin.shape h.moves);
  part = record {
    more = [];
    first = inl (append-nil (lines_of (past_of origin.shape h.moves)));
    last = (lines_split (past_of origin.shape h.moves)).0;
    prompt = (lines_split (past_of origin.shape h.moves)).1;
  };
  prints = h.prints;
}

-- all was printed
pub finished : (core : CoreView) (origin : Origin) (acts : List Act) (taken_old taken_was taken_new : Option (List ℕ)) (was tally : Tally) (line : List ℕ)
    → (h : IsPlayed core origin ([] ++ calls_of acts) taken_old taken_was was)
    → line ≡ end_line core.store.ledger.log (histories_in core)
    → Prints taken_old taken_new (lines_of (past_of origin.shape h.moves) ++ line) tally.written
    → tally.faulted ≡ was.faulted
    → IsFinished core origin acts taken_old taken_new tally
finished core origin acts taken_old taken_was taken_new was tally line h is prints flag =
    let past = past_of origin.shape h.moves in
    record {
      moves = h.moves;
      made = h.made;
      kept = h.at.kept;
      prints =
          subst (λ (bytes : List ℕ). Prints taken_old taken_new bytes tally.written)
          (ap (λ (bytes : List ℕ). lines_of past ++ bytes) (is ∙ end_line_of core origin h.moves h.at.kept)) prints;
      noted = subst (λ (b : Bool). IsNoted b (faults_in origin.shape h.moves)) (sym flag) h.noted;
    }

-- what a core leaves
abbrev pub left_by : CoreView → Left
left_by core = record { opening = Some core.store.ledger.opening; log = core.store.ledger.log; histories = histories_in core }

-- what is known of a run that began
pub record HasBegunRun (held : Held) (core new : CoreView) (shape : Shape) (acts : List Act) (before after : Tells) : Type 0 where
  pub is_new : IsNew core shape
  pub sound : (origin : Origin) (moves : List Move) → HasKept new origin moves → IsSound new origin moves
  pub read : IsRead before.left after.left shape acts
  pub opened : IsOpened held shape core.store.ledger.opening core.store.known_rows
  pub start : before.keeps_failed ≡ core.store.faults
  pub rows : after.rows ≡ new.store.known_rows
  pub count : after.keeps_failed ≡ new.store.faults

module _ (held : Held) (core new : CoreView) (shape : Shape)
    (acts : List Act) (before after : Tells) (h : HasBegunRun held core new shape acts before after) where
  kept_of : (moves : List Move) → HasKept new (origin_of shape core) moves
      → Keeps shape core.store.ledger.opening moves after.rows new.store.ledger.log (histories_in new)
  kept_of moves kept = keeps new (origin_of shape core) moves after.rows kept (h.sound (origin_of shape core) moves kept) h.rows

  told_of : (moves : List Move) → HasKept new (origin_of shape core) moves → AreCounted shape moves before.keeps_failed after.keeps_failed
  told_of moves kept =
      let P : ℕ → ℕ → Type 0 = λ one two. AreCounted shape moves one two in
      subst (λ (n : ℕ). P n after.keeps_failed) (sym h.start) (subst (P core.store.faults) (sym h.count)
      (record {
        few = rose_since (faults_in shape moves) core.store.faults core.store.faults new.store.faults (omega arith) kept.store.faults;
        none = kept.store.quiet;
      }))

  abbrev begun : (moves : List Move) → HasKept new (origin_of shape core) moves → IsBegun held before after (left_by new)
  begun moves kept = record {
    shape = shape;
    acts = acts;
    read = h.read;
    opening = core.store.ledger.opening;
    opening_is = ap (λ rows. Some rows) kept.store.opening;
    opened = opened_still held new (origin_of shape core) moves after.rows kept h.rows h.opened;
    moves = moves;
    keeps = kept_of moves kept;
    failures_are = told_of moves kept;
  }

  whole : (tally : Tally) (turns : List ℕ) → (done : IsFinished new (origin_of shape core) acts before.taken after.taken tally)
      → turns ≡ fault_turns (past_of shape done.moves)
      → IsWhole held before after (left_by new) tally.written turns
  whole tally turns done are = record {
    begun = begun done.moves done.kept;
    made = done.made;
    turns_are = are;
    prints = done.prints;
    the_text = λ tables is.
        the_text_is shape acts core.store.ledger.opening turns done.moves done.made ((kept_of done.moves done.kept).truth tables is) are;
  }

  cut_off : (tally : Tally) → IsStopped new (origin_of shape core) acts before.taken after.taken tally → IsCutOff held before after (left_by new) tally.written
  cut_off tally stopped = record {
    begun = begun stopped.moves stopped.kept;
    made = stopped.made;
    printed = stopped.printed;
    part = stopped.part;
    prints = stopped.prints;
  }

  done_is : (faulted : Bool) (tally : Tally) → (done : IsFinished new (origin_of shape core) acts before.taken after.taken tally)
      → IsNoted faulted (faults_in shape done.moves)
      → Ended (status_of (Ok tt) faulted) held before after (left_by new) tally.written
  done_is false tally done noted = whole tally [] done (no_turns (past_of shape done.moves) noted)
  done_is true tally done noted =
      let past = past_of shape done.moves in (
        rose_of (faults_in shape done.moves) before.keeps_failed after.keeps_failed noted (told_of done.moves done.kept).few,
        inr (fault_turns past, some_turns past noted, whole tally (fault_turns past) done refl),
      )

  -- the end of a run that began
  pub ended_is : (ended : Result (Unit {0}) Stop) (tally : Tally)
      → OnOk ended (IsFinished new (origin_of shape core) acts before.taken after.taken tally)
      → OnErr ended (IsStopped new (origin_of shape core) acts before.taken after.taken tally)
      → Ended (status_of ended tally.faulted) held before after (left_by new) tally.written
  ended_is (Ok done) tally all some = done_is tally.faulted tally all all.noted
  ended_is (Err stop.WriteFault) tally all some = cut_off tally some
  ended_is (Err stop.Memory) tally all some = inr (cut_off tally some)

-- however a run ended, its core has kept what it did
pub kept_at_end : (ended : Result (Unit {0}) Stop) (core : CoreView) (origin : Origin) (acts : List Act) (taken_old taken_new : Option (List ℕ)) (tally : Tally)
    → OnOk ended (IsFinished core origin acts taken_old taken_new tally)
    → OnErr ended (IsStopped core origin acts taken_old taken_new tally)
    → (moves : List Move) × HasKept core origin moves
kept_at_end (Ok done) core origin acts taken_old taken_new tally all some = (all.moves, all.kept)
kept_at_end (Err stop) core origin acts taken_old taken_new tally all some = (some.moves, some.kept)

-- a list of one element
pub one_alone : {A B : Type 0} (f : A → B) (xs : List A) (x : A) → length xs ≡ 1 → x ≡ get_or xs 0 x → map f xs ≡ f x ∷ []
one_alone f [] x one e = absurd (omega arith)
one_alone f (y ∷ []) x one e = ap (λ z. f z ∷ []) (sym e)
one_alone f (y ∷ z ∷ xs) x one e = absurd (omega arith)

-- a core that stands somewhere has as many shards as its shape says
pub few_shards : (core : CoreView) (origin : Origin) (calls : List Cue) (acts : List Act) (taken_old taken_new : Option (List ℕ)) (tally : Tally)
    → IsPlayed core origin calls taken_old taken_new tally → IsPlayable origin.shape acts → length core.shards ≤ 64
few_shards core origin calls acts taken_old taken_new tally h playable =
    subst (λ (n : ℕ). n ≤ 64) (sym h.at.kept.shards.count) playable.shape_fits.few_shards

-- a keeper whose count of faults stands didn't fail, unless the count stands at the end of its type
not_rose : (before after : ℕ) → Rose before after → after ≡ before → before < 2 ^ 64 - 1 → ⊥
not_rose before after (inl up) same below = omega (arith, up, same)
not_rose before after (inr end) same below = omega (arith, end, same, below)

pub not_failed : (ended : Status) (held : Held) (before after : Tells) (left : Left) (written : ℕ) → Ended ended held before after left written
    → after.keeps_failed ≡ before.keeps_failed → before.keeps_failed < 2 ^ 64 - 1 → ended ≡ status.KeepFault → ⊥
not_failed ended held before after left written h same below is =
    let failed = subst (λ (e : Status). Ended e held before after left written) is h in
    not_rose before.keeps_failed after.keeps_failed failed.0 same below

-- where no turn was answered FAULT the keeper's count is as before
pub done_quiet : (ended : Status) (held : Held) (before after : Tells) (left : Left) (written : ℕ) → Ended ended held before after left written
    → ended ≡ status.Done → after.keeps_failed ≡ before.keeps_failed
done_quiet ended held before after left written h is =
    let whole = subst (λ (e : Status). Ended e held before after left written) is h in
    whole.failures_are.none (none_told (past_of whole.shape whole.moves) whole.turns_are)

-- however a run ended, there is room for its histories
pub room_at_end : (ended : Result (Unit {0}) Stop) (core : CoreView)
    (origin : Origin) (acts : List Act) (taken_old taken_new : Option (List ℕ)) (tally : Tally) (room : ℕ)
    → OnOk ended (IsFinished core origin acts taken_old taken_new tally)
    → OnErr ended (IsStopped core origin acts taken_old taken_new tally)
    → origin.shape.shards ≤ room → length core.shards ≤ room
room_at_end ended core origin acts taken_old taken_new tally room all some fits =
    let kept = kept_at_end ended core origin acts taken_old taken_new tally all some in
    subst (λ (n : ℕ). n ≤ room) (sym kept.1.shards.count) fits

-- the end of a run that began is none for want of a command
pub other_end : (ended : Result (Unit {0}) Stop) (faulted : Bool) → status_of ended faulted ≡ status.Usage → ⊥
other_end (Ok done) true is = cc
other_end (Ok done) false is = cc
other_end (Err stop.WriteFault) faulted is = cc
other_end (Err stop.Memory) faulted is = cc

-- nor at a read
pub no_read_end : (ended : Result (Unit {0}) Stop) (faulted : Bool) → is_read_fault (status_of ended faulted) ≡ false
no_read_end (Ok done) true = refl
no_read_end (Ok done) false = refl
no_read_end (Err stop.WriteFault) faulted = refl
no_read_end (Err stop.Memory) faulted = refl

-- it ended at a write where it stopped at one
pub write_end : (ended : Result (Unit {0}) Stop) (faulted : Bool) → is_write_fault (status_of ended faulted) ≡ at_write ended
write_end (Ok done) true = refl
write_end (Ok done) false = refl
write_end (Err stop.WriteFault) faulted = refl
write_end (Err stop.Memory) faulted = refl

-- a keeper's count doesn't fall in a run
pub faults_at_end : (ended : Result (Unit {0}) Stop) (core : CoreView)
    (origin : Origin) (acts : List Act) (taken_old taken_new : Option (List ℕ)) (tally : Tally)
    → OnOk ended (IsFinished core origin acts taken_old taken_new tally)
    → OnErr ended (IsStopped core origin acts taken_old taken_new tally)
    → origin.faults ≤ core.store.faults
faults_at_end ended core origin acts taken_old taken_new tally all some =
    let kept = kept_at_end ended core origin acts taken_old taken_new tally all some in
    never_fell (faults_in origin.shape kept.0) origin.faults origin.faults core.store.faults (omega arith) kept.1.store.faults

-- a core that was just made is new
pub new_core : (core : CoreView) (made shape : Shape) → made ≡ shape → IsAt core (origin_of made core) [] → IsNew core shape
new_core core made shape is at = subst (IsNew core) is at
