-- A core after acts and turns that were played.
use Rattle.std.proofs.Common.{take, drop, get_or, take-append-drop, ℕ, zero, suc, ◌≡◌, ◌+◌, ◌-◌, ◌^◌, ◌<◌, List, [], ◌∷◌, ◌++◌, length, map}
use Rattle.std.proofs.Common.{reverse, arith, refl, sym, ap, ◌∙◌, subst, inl, inr, append_assoc, append-nil}
use Rattle.std.specs.Prelude.{Bool, true, false, ◌||◌, cond, ◌⊎◌, Option, Result, OnErr, Ok, Err, replicate, sum_by, count_by}
use Rattle.std.proofs.lemmas.List.{take_more, drop_more, length-append, length-map, map-append, reverse-append, replicate-append-replicate}
use Rattle.std.proofs.lemmas.List.Concat.{flat_map-append}
use Rattle.std.proofs.lemmas.List.Sums.{sum_by-cons, sum_by-append}
use Rattle.session_client.specs.declared.plans.Shape.{Shape}
use Rattle.session_client.specs.declared.plans.Turn.{Turn}
use Rattle.session_client.specs.declared.plans.Turn.TheVariants.{Session, Tick, Sweep}
use Rattle.session_client.specs.declared.plans.Plan.{Plan}
use Rattle.run_inputs.specs.declared.scripts.Act.{Act}
use Rattle.run_inputs.specs.declared.scripts.Act.TheVariants as act
use Rattle.run_inputs.specs.Fit.{IsTurnOf, AreFit, sessions_of, turns_of}
use Rattle.core_history.specs.Events.{Event}
use Rattle.core_history.specs.Lines.{line_of, lines_of, is_fault}
use Rattle.core_history.specs.Cores.{CoreView, Origin, IsAt, HasKept, IsRunning, HasBegun}
use Rattle.core_history.specs.Machine.{Said, Move, Begin, Take, turn_event, world_of}
use Rattle.top_run.specs.declared.plays.Tally.{Tally}
use Rattle.core_history.specs.Determined.{Cue, Adds, Turns, cue_of}
use Rattle.top_run.specs.Runs.{calls_in, calls_of, past_of, earlier, Prints}
use Rattle.top_run.specs.Plays.{begun_in, taken_in, is_add, is_turn, IsNoted, CanPlay, IsPlayed, Stops}
use Rattle.top_run.proofs.PrintLemmas.{lines_more}

-- what holds anyway holds at an error
pub on_err : {T E P : Type 0} (r : Result T E) → P → OnErr r P
on_err (Ok x) p = tt
on_err (Err e) p = p

-- what some moves do
pub calls_after : List Move → List Cue
calls_after moves = map cue_of (reverse moves)

-- a move more does one call more
pub calls_more : (move : Move) (moves : List Move) → map cue_of (reverse (move ∷ moves)) ≡ map cue_of (reverse moves) ++ cue_of move ∷ []
calls_more move moves = ap (map cue_of) (reverse-append (move ∷ []) moves) ∙ map-append cue_of (reverse moves) (move ∷ [])

made_more : (move : Move) (moves : List Move) (calls : List Cue)
    → map cue_of (reverse moves) ≡ calls → map cue_of (reverse (move ∷ moves)) ≡ calls ++ cue_of move ∷ []
made_more move moves calls e = calls_more move moves ∙ ap (λ (xs : List Cue). xs ++ cue_of move ∷ []) e

-- counts of calls
count_push : (test : Cue → Bool) (calls : List Cue) (call : Cue) → count_by test (calls ++ call ∷ []) ≡ count_by test calls + cond (test call) 1 0
count_push test calls call = sum_by-append (λ c. cond (test c) 1 0) calls (call ∷ [])
    ∙ ap (λ n. count_by test calls + n) (sum_by-cons (λ c. cond (test c) 1 0) call [] ∙ omega arith)

count_append : (test : Cue → Bool) (xs ys : List Cue) → count_by test (xs ++ ys) ≡ count_by test xs + count_by test ys
count_append test xs ys = sum_by-append (λ c. cond (test c) 1 0) xs ys

-- as many sessions began and as many turns were taken as the calls say
pub begun_are : (shape : Shape) (moves : List Move) → length (world_of shape moves).plans ≡ begun_in (map cue_of (reverse moves))
begun_are shape [] = refl
begun_are shape (Begin plan ∷ moves) =
    length-append (world_of shape moves).plans (plan ∷ [])
    ∙ ap (λ n. n + 1) (begun_are shape moves)
    ∙ sym (ap begun_in (calls_more (Begin plan) moves) ∙ count_push is_add (map cue_of (reverse moves)) (Adds plan))
begun_are shape (Take turn said ∷ moves) =
    begun_are shape moves
    ∙ omega arith
    ∙ sym (ap begun_in (calls_more (Take turn said) moves) ∙ count_push is_add (map cue_of (reverse moves)) (Turns turn))

pub taken_are : (shape : Shape) (moves : List Move) → length (world_of shape moves).past ≡ taken_in (map cue_of (reverse moves))
taken_are shape [] = refl
taken_are shape (Begin plan ∷ moves) =
    taken_are shape moves
    ∙ omega arith
    ∙ sym (ap taken_in (calls_more (Begin plan) moves) ∙ count_push is_turn (map cue_of (reverse moves)) (Adds plan))
taken_are shape (Take turn said ∷ moves) =
    ap suc (taken_are shape moves)
    ∙ omega arith
    ∙ sym (ap taken_in (calls_more (Take turn said) moves) ∙ count_push is_turn (map cue_of (reverse moves)) (Turns turn))

-- it is noted whether one line more said FAULT
count_fault : (event : Event) (past : List Event) → count_by is_fault (event ∷ past) ≡ cond (is_fault event) 1 0 + count_by is_fault past
count_fault event past = sum_by-cons (λ e. cond (is_fault e) 1 0) event past

noted : (was now : Bool) (n : ℕ) → IsNoted was n → IsNoted (was || now) (cond now 1 0 + n)
noted true now n h = omega (arith, h)
noted false true n h = omega arith
noted false false n h = omega (arith, h)

pub noted_more : (was fault : Bool) (event : Event) (past : List Event)
    → fault ≡ is_fault event → IsNoted was (count_by is_fault past) → IsNoted (was || fault) (count_by is_fault (event ∷ past))
noted_more was fault event past is h =
    subst (λ (n : ℕ). IsNoted (was || fault) n) (ap (λ (b : Bool). cond b 1 0 + count_by is_fault past) is
    ∙ sym (count_fault event past)) (noted was fault (count_by is_fault past) h)

-- the lines of some events begin with those of all but the latest
pub lines_split : (past : List Event) → (last : List ℕ) × (lines_of past ≡ lines_of (earlier past) ++ last)
lines_split [] = ([], sym (append-nil (lines_of [])))
lines_split (event ∷ past) = (line_of event, lines_more event past)

-- what stops where it stood
stops_kept : (core new : CoreView) (origin : Origin) (calls others : List Cue) (taken_old taken_new : Option (List ℕ)) (tally : Tally)
    → (h : IsPlayed core origin calls taken_old taken_new tally) → HasKept new origin h.moves → Stops new origin (calls ++ others) taken_old taken_new tally
stops_kept core new origin calls others taken_old taken_new tally h kept = record {
  moves = h.moves;
  others = others;
  made = ap (λ (xs : List Cue). xs ++ others) h.made;
  kept = kept;
  printed = lines_of (past_of origin.shape h.moves);
  more = [];
  parts = append-nil (lines_of (past_of origin.shape h.moves));
  last = (lines_split (past_of origin.shape h.moves)).0;
  prompt = (lines_split (past_of origin.shape h.moves)).1;
  prints = h.prints;
}

-- a turn that wasn't told
pub stopped_at_turn : (core new : CoreView) (origin : Origin) (calls : List Cue) (turn : Turn) (taken_old taken_new : Option (List ℕ)) (tally : Tally)
    → (h : IsPlayed core origin calls taken_old taken_new tally)
    → HasKept new origin h.moves ⊎ ((said : Said) × HasKept new origin (Take turn said ∷ h.moves))
    → Stops new origin (calls ++ Turns turn ∷ []) taken_old taken_new tally
stopped_at_turn core new origin calls turn taken_old taken_new tally h (inl kept) =
    stops_kept core new origin calls (Turns turn ∷ []) taken_old taken_new tally h kept
stopped_at_turn core new origin calls turn taken_old taken_new tally h (inr kept) =
    let event = turn_event origin.shape (world_of origin.shape h.moves) turn kept.0 in
    record {
      moves = Take turn kept.0 ∷ h.moves;
      others = [];
      made = append-nil (map cue_of (reverse (Take turn kept.0 ∷ h.moves))) ∙ made_more (Take turn kept.0) h.moves calls h.made;
      kept = kept.1;
      printed = lines_of (past_of origin.shape h.moves);
      more = line_of event;
      parts = sym (lines_more event (past_of origin.shape h.moves));
      last = [];
      prompt = sym (append-nil (lines_of (past_of origin.shape h.moves)));
      prints = h.prints;
    }

-- a turn whose line wasn't taken whole
pub stopped_at_line : (core new : CoreView) (origin : Origin)
    (calls : List Cue) (turn : Turn) (said : Said) (taken_old taken_was taken_new : Option (List ℕ)) (was tally : Tally) (line : List ℕ)
    → (h : IsPlayed core origin calls taken_old taken_was was)
    → line ≡ line_of (turn_event origin.shape (world_of origin.shape h.moves) turn said) → IsAt new origin (Take turn said ∷ h.moves)
    → (front : List ℕ) × (rest : List ℕ) × (front ++ rest ≡ line) × Prints taken_old taken_new (lines_of (past_of origin.shape h.moves) ++ front) tally.written
    → Stops new origin (calls ++ Turns turn ∷ []) taken_old taken_new tally
stopped_at_line core new origin calls turn said taken_old taken_was taken_new was tally line h is at cut =
    let past = past_of origin.shape h.moves in
    record {
      moves = Take turn said ∷ h.moves;
      others = [];
      made = append-nil (map cue_of (reverse (Take turn said ∷ h.moves))) ∙ made_more (Take turn said) h.moves calls h.made;
      kept = at.kept;
      printed = lines_of past ++ cut.0;
      more = cut.1;
      parts = append_assoc (lines_of past) cut.0 cut.1
          ∙ ap (λ (bytes : List ℕ). lines_of past ++ bytes) (cut.2 ∙ is)
          ∙ sym (lines_more (turn_event origin.shape (world_of origin.shape h.moves) turn said) past);
      last = cut.0;
      prompt = refl;
      prints = cut.3;
    }

-- a turn whose line was taken
pub stands_after_turn : (core new : CoreView) (origin : Origin)
    (calls : List Cue) (turn : Turn) (said : Said) (taken_old taken_was taken_new : Option (List ℕ)) (was tally : Tally) (line : List ℕ) (fault : Bool)
    → (h : IsPlayed core origin calls taken_old taken_was was)
    → line ≡ line_of (turn_event origin.shape (world_of origin.shape h.moves) turn said)
    → fault ≡ is_fault (turn_event origin.shape (world_of origin.shape h.moves) turn said)
    → IsAt new origin (Take turn said ∷ h.moves)
    → Prints taken_old taken_new (lines_of (past_of origin.shape h.moves) ++ line) tally.written
    → tally.faulted ≡ (was.faulted || fault)
    → IsPlayed new origin (calls ++ Turns turn ∷ []) taken_old taken_new tally
stands_after_turn core new origin calls turn said taken_old taken_was taken_new was tally line fault h is fails at prints flag =
    let event = turn_event origin.shape (world_of origin.shape h.moves) turn said in
    let past = past_of origin.shape h.moves in
    record {
      moves = Take turn said ∷ h.moves;
      at = at;
      made = made_more (Take turn said) h.moves calls h.made;
      prints =
          subst (λ (bytes : List ℕ). Prints taken_old taken_new bytes tally.written)
          (ap (λ (bytes : List ℕ). lines_of past ++ bytes) is ∙ sym (lines_more event past)) prints;
      noted = subst (λ (b : Bool). IsNoted b (count_by is_fault (event ∷ past))) (sym flag) (noted_more was.faulted fault event past fails h.noted);
    }

-- what stops in the midst of some calls stops in the midst of more
pub stops_within : (core : CoreView) (origin : Origin) (calls after : List Cue) (taken_old taken_new : Option (List ℕ)) (tally : Tally)
    → Stops core origin calls taken_old taken_new tally → Stops core origin (calls ++ after) taken_old taken_new tally
stops_within core origin calls after taken_old taken_new tally h = record {
  moves = h.moves;
  others = h.others ++ after;
  made = sym (append_assoc (map cue_of (reverse h.moves)) h.others after) ∙ ap (λ (xs : List Cue). xs ++ after) h.made;
  kept = h.kept;
  printed = h.printed;
  more = h.more;
  parts = h.parts;
  last = h.last;
  prompt = h.prompt;
  prints = h.prints;
}

-- a session begins
pub stands_begun : (core new : CoreView) (origin : Origin) (calls : List Cue) (plan : Plan) (taken_old taken_new : Option (List ℕ)) (tally : Tally)
    → (h : IsPlayed core origin calls taken_old taken_new tally) → IsAt new origin (Begin plan ∷ h.moves)
    → IsPlayed new origin (calls ++ Adds plan ∷ []) taken_old taken_new tally
stands_begun core new origin calls plan taken_old taken_new tally h at =
    record { moves = Begin plan ∷ h.moves; at = at; made = made_more (Begin plan) h.moves calls h.made; prints = h.prints; noted = h.noted }

-- an act begins a session
pub act_begun : (core new : CoreView) (origin : Origin) (calls : List Cue) (a : Act) (plan : Plan) (taken_old taken_new : Option (List ℕ)) (tally : Tally)
    → a ≡ act.Add plan → ((moves : List Move) → IsAt core origin moves → IsAt new origin (Begin plan ∷ moves))
    → IsPlayed core origin calls taken_old taken_new tally → IsPlayed new origin (calls ++ calls_in a) taken_old taken_new tally
act_begun core new origin calls a plan taken_old taken_new tally is begins h =
    let P : Act → Type 0 = λ b. IsPlayed new origin (calls ++ calls_in b) taken_old taken_new tally in
    subst P (sym is) (stands_begun core new origin calls plan taken_old taken_new tally h (begins h.moves h.at))

-- what stops where it stands
pub stops_here : (core : CoreView) (origin : Origin) (calls others : List Cue) (taken_old taken_new : Option (List ℕ)) (tally : Tally)
    → IsPlayed core origin calls taken_old taken_new tally → Stops core origin (calls ++ others) taken_old taken_new tally
stops_here core origin calls others taken_old taken_new tally h = stops_kept core core origin calls others taken_old taken_new tally h h.at.kept

-- a core that stands somewhere has as many sessions as began there
sessions_at : (core : CoreView) (origin : Origin) (moves : List Move)
    → IsAt core origin moves → length core.sessions ≡ length (world_of origin.shape moves).plans
sessions_at core origin moves h = sym (length-map core.sessions _) ∙ ap length h.sessions.plans

-- a turn of a session that began there, or another turn
has_begun : (core : CoreView) (origin : Origin) (moves : List Move) (turn : Turn)
    → IsAt core origin moves → IsTurnOf (begun_in (map cue_of (reverse moves))) turn → HasBegun core turn
has_begun core origin moves (Session who) at of =
    let same = sessions_at core origin moves at in
    let count = begun_are origin.shape moves in
    let low = of.0 in
    let high = of.1 in
    (omega arith, omega arith)
has_begun core origin moves (Tick by) at of = tt
has_begun core origin moves Sweep at of = tt

-- a core that can play a turn can take it
pub can_take : (core : CoreView) (turn : Turn) (count : ℕ) (taken_new : Option (List ℕ)) (tally : Tally)
    → CanPlay core (act.Run turn count ∷ []) taken_new tally → IsRunning core × HasBegun core turn
can_take core turn count taken_new tally h =
    let few = h.few in
    let moves = h.stands.moves in
    let past = taken_are h.origin.shape moves ∙ ap taken_in h.stands.made in
    let fit = subst (λ (calls : List Cue). IsTurnOf (begun_in calls) turn) (sym h.stands.made) h.fit.0 in
    ((h.origin, moves, h.stands.at, omega arith), has_begun core h.origin moves turn h.stands.at fit)

-- counts of the calls of an act
count_replicate : (turn : Turn) (count : ℕ) → (begun_in (replicate count (Turns turn)) ≡ 0) × (taken_in (replicate count (Turns turn)) ≡ count)
count_replicate turn zero = (refl, refl)
count_replicate turn (suc count) =
    let rest = count_replicate turn count in
    let a = sum_by-cons (λ c. cond (is_add c) 1 0) (Turns turn) (replicate count (Turns turn)) in
    let t = sum_by-cons (λ c. cond (is_turn c) 1 0) (Turns turn) (replicate count (Turns turn)) in
    (a ∙ ap (λ n. 0 + n) rest.0, t ∙ ap (λ n. 1 + n) rest.1 ∙ omega arith)

pub act_adds : (calls : List Cue) (a : Act) → (begun_in (calls ++ calls_in a) ≡ begun_in calls + sessions_of a)
    × (taken_in (calls ++ calls_in a) ≡ taken_in calls + turns_of a)
act_adds calls (act.Add plan) = (count_push is_add calls (Adds plan), count_push is_turn calls (Adds plan))
act_adds calls (act.Run turn count) =
    let rest = count_replicate turn count in (
      count_append is_add calls (replicate count (Turns turn)) ∙ ap (λ n. begun_in calls + n) rest.0,
      count_append is_turn calls (replicate count (Turns turn))
          ∙ ap (λ n. taken_in calls + n) rest.1,
    )

-- what a core can play after an act
pub can_rest : (core new : CoreView) (a : Act) (acts : List Act) (taken_new taken_new' : Option (List ℕ)) (tally tally' : Tally)
    → CanPlay core (a ∷ acts) taken_new tally
    → ((origin : Origin) (calls : List Cue) (taken : Option (List ℕ))
    → IsPlayed core origin calls taken taken_new tally → IsPlayed new origin (calls ++ calls_in a) taken taken_new' tally')
    → CanPlay new acts taken_new' tally'
can_rest core new a acts taken_new taken_new' tally tally' h on =
    let few : taken_in h.calls + sum_by turns_of (a ∷ acts) < 2 ^ 32 = h.few in
    let all = sum_by-cons turns_of a acts in
    let adds = act_adds h.calls a in
    let grown = adds.1 in
    record {
      origin = h.origin;
      calls = h.calls ++ calls_in a;
      taken_old = h.taken_old;
      stands = on h.origin h.calls h.taken_old h.stands;
      fit = subst (λ (n : ℕ). AreFit n acts) (sym adds.0) h.fit.1;
      few = omega arith;
    }

-- the first of some acts can be played
pub can_first : (core : CoreView) (a : Act) (acts : List Act) (taken_new : Option (List ℕ)) (tally : Tally)
    → CanPlay core (a ∷ acts) taken_new tally → CanPlay core (a ∷ []) taken_new tally
can_first core a acts taken_new tally h =
    let few : taken_in h.calls + sum_by turns_of (a ∷ acts) < 2 ^ 32 = h.few in
    let all = sum_by-cons turns_of a acts in
    let one = sum_by-cons turns_of a [] in
    record { origin = h.origin; calls = h.calls; taken_old = h.taken_old; stands = h.stands; fit = (h.fit.0, tt); few = omega arith }

-- and so for turns
pub can_turn : (core new : CoreView) (turn : Turn) (count rest : ℕ) (taken_new taken_new' : Option (List ℕ)) (tally tally' : Tally)
    → count ≡ rest + 1 → CanPlay core (act.Run turn count ∷ []) taken_new tally
    → ((origin : Origin) (calls : List Cue) (taken : Option (List ℕ))
    → IsPlayed core origin calls taken taken_new tally → IsPlayed new origin (calls ++ Turns turn ∷ []) taken taken_new' tally')
    → CanPlay new (act.Run turn rest ∷ []) taken_new' tally'
can_turn core new turn count rest taken_new taken_new' tally tally' one h on =
    let few : taken_in h.calls + sum_by turns_of (act.Run turn count ∷ []) < 2 ^ 32 = h.few in
    let whole = sum_by-cons turns_of (act.Run turn count) [] in
    let less = sum_by-cons turns_of (act.Run turn rest) [] in
    let begun = count_push is_add h.calls (Turns turn) in
    let taken = count_push is_turn h.calls (Turns turn) in
    record {
      origin = h.origin;
      calls = h.calls ++ Turns turn ∷ [];
      taken_old = h.taken_old;
      stands = on h.origin h.calls h.taken_old h.stands;
      fit = subst (λ (n : ℕ). AreFit n (act.Run turn rest ∷ [])) (sym (begun ∙ omega arith)) h.fit;
      few = omega arith;
    }

-- one turn more
turns_push : (calls : List Cue) (turn : Turn) (done : ℕ)
    → (calls ++ replicate done (Turns turn)) ++ Turns turn ∷ [] ≡ calls ++ replicate (done + 1) (Turns turn)
turns_push calls turn done = append_assoc calls (replicate done (Turns turn)) (Turns turn ∷ [])
    ∙ ap (λ (xs : List Cue). calls ++ xs) (replicate-append-replicate done 1 (Turns turn))

pub stands_turn : (core new : CoreView) (turn : Turn) (done : ℕ)
    (origin : Origin) (calls : List Cue) (taken_old taken_new taken_new' : Option (List ℕ)) (tally tally' : Tally)
    → IsPlayed core origin (calls ++ replicate done (Turns turn)) taken_old taken_new tally
    → ((o : Origin) (cs : List Cue) (t : Option (List ℕ)) → IsPlayed core o cs t taken_new tally → IsPlayed new o (cs ++ Turns turn ∷ []) t taken_new' tally')
    → IsPlayed new origin (calls ++ replicate (done + 1) (Turns turn)) taken_old taken_new' tally'
stands_turn core new turn done origin calls taken_old taken_new taken_new' tally tally' h on =
    subst (λ (cs : List Cue). IsPlayed new origin cs taken_old taken_new' tally')
    (turns_push calls turn done) (on origin (calls ++ replicate done (Turns turn)) taken_old h)

-- a stop at one of the turns
pub stops_turn : (core : CoreView) (turn : Turn) (count done : ℕ) (origin : Origin) (calls : List Cue) (taken_old taken_new : Option (List ℕ)) (tally : Tally)
    → done < count
    → Stops core origin ((calls ++ replicate done (Turns turn)) ++ Turns turn ∷ []) taken_old taken_new tally
    → Stops core origin (calls ++ replicate count (Turns turn)) taken_old taken_new tally
stops_turn core turn count done origin calls taken_old taken_new tally below h =
    let rest : ℕ = count - (done + 1) in
    let parts : (calls ++ replicate (done + 1) (Turns turn)) ++ replicate rest (Turns turn) ≡ calls ++ replicate count (Turns turn) =
    append_assoc calls (replicate (done + 1) (Turns turn)) (replicate rest (Turns turn))
    ∙ ap (λ (xs : List Cue). calls ++ xs) (replicate-append-replicate (done + 1) rest (Turns turn) ∙ ap (λ (n : ℕ). replicate n (Turns turn)) (omega arith)) in
    subst (λ (cs : List Cue). Stops core origin cs taken_old taken_new tally) parts
    (stops_within core origin (calls ++ replicate (done + 1) (Turns turn)) (replicate rest (Turns turn)) taken_old taken_new tally
    (subst (λ (cs : List Cue). Stops core origin cs taken_old taken_new tally) (turns_push calls turn done) h))

-- an act more
calls_push : (calls : List Cue) (done : List Act) (a : Act) → (calls ++ calls_of done) ++ calls_in a ≡ calls ++ calls_of (done ++ a ∷ [])
calls_push calls done a =
    append_assoc calls (calls_of done) (calls_in a)
    ∙ ap (λ (xs : List Cue). calls ++ xs)
    (sym (flat_map-append calls_in done (a ∷ []) ∙ ap (λ (xs : List Cue). calls_of done ++ xs) (append-nil (calls_in a))))

-- the act at a place, behind those before it and before those after it
dropped : (acts : List Act) (i : ℕ) (a : Act) → i < length acts → a ≡ get_or acts i a → drop i acts ≡ a ∷ drop (i + 1) acts
dropped acts i a below is = drop_more acts i a below ∙ ap (λ (x : Act). x ∷ drop (i + 1) acts) (sym is)

took : (acts : List Act) (i : ℕ) (a : Act) → i < length acts → a ≡ get_or acts i a → take (i + 1) acts ≡ take i acts ++ a ∷ []
took acts i a below is = take_more acts i a below ∙ ap (λ (x : Act). take i acts ++ x ∷ []) (sym is)

pub can_act : (core : CoreView) (acts : List Act) (i : ℕ) (a : Act) (taken_new : Option (List ℕ)) (tally : Tally)
    → i < length acts → a ≡ get_or acts i a → CanPlay core (drop i acts) taken_new tally
    → CanPlay core (a ∷ drop (i + 1) acts) taken_new tally
can_act core acts i a taken_new tally below is h = subst (λ (xs : List Act). CanPlay core xs taken_new tally) (dropped acts i a below is) h

pub stands_at : (core new : CoreView) (acts : List Act) (i : ℕ) (a : Act)
    (origin : Origin) (calls : List Cue) (taken_old taken_new taken_new' : Option (List ℕ)) (tally tally' : Tally) → i < length acts → a ≡ get_or acts i a
    → IsPlayed core origin (calls ++ calls_of (take i acts)) taken_old taken_new tally
    → ((o : Origin) (cs : List Cue) (t : Option (List ℕ)) → IsPlayed core o cs t taken_new tally → IsPlayed new o (cs ++ calls_in a) t taken_new' tally')
    → IsPlayed new origin (calls ++ calls_of (take (i + 1) acts)) taken_old taken_new' tally'
stands_at core new acts i a origin calls taken_old taken_new taken_new' tally tally' below is h on =
    subst (λ (cs : List Cue). IsPlayed new origin cs taken_old taken_new' tally')
    (calls_push calls (take i acts) a ∙ ap (λ (xs : List Act). calls ++ calls_of xs) (sym (took acts i a below is)))
    (on origin (calls ++ calls_of (take i acts)) taken_old h)

pub stops_at : (core : CoreView) (acts : List Act) (i : ℕ) (a : Act)
    (origin : Origin) (calls : List Cue) (taken_old taken_new : Option (List ℕ)) (tally : Tally) → i < length acts → a ≡ get_or acts i a
    → Stops core origin ((calls ++ calls_of (take i acts)) ++ calls_in a) taken_old taken_new tally
    → Stops core origin (calls ++ calls_of acts) taken_old taken_new tally
stops_at core acts i a origin calls taken_old taken_new tally below is h =
    let rest = drop (i + 1) acts in
    let parts : (calls ++ calls_of (take i acts ++ a ∷ [])) ++ calls_of rest ≡ calls ++ calls_of acts =
    append_assoc calls (calls_of (take i acts ++ a ∷ [])) (calls_of rest)
    ∙ ap (λ (xs : List Cue). calls ++ xs)
    (sym (flat_map-append calls_in (take i acts ++ a ∷ []) rest)
    ∙ ap calls_of (ap (λ (xs : List Act). xs ++ rest) (sym (took acts i a below is)) ∙ take-append-drop (i + 1) acts)) in
    subst (λ (cs : List Cue). Stops core origin cs taken_old taken_new tally) parts
    (stops_within core origin (calls ++ calls_of (take i acts ++ a ∷ [])) (calls_of rest) taken_old taken_new tally
    (subst (λ (cs : List Cue). Stops core origin cs taken_old taken_new tally) (calls_push calls (take i acts) a) h))
