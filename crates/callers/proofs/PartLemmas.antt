-- What a run printed that stopped begins what a whole one printed.
use Rattle.std.proofs.Common.{◌≡◌, ℕ, ◌-◌, ◌^◌, ◌<◌, ◌⊎◌, inl, inr, List, [], ◌∷◌, ◌++◌, length, map, reverse, flat_map}
use Rattle.std.proofs.Common.{Option, Some, IsSome, refl, sym, ap, subst, ◌∙◌, append_assoc, append-nil, arith}
use Rattle.std.proofs.lemmas.List.{reverse-append, map-append}
use Rattle.std.proofs.lemmas.Grind.{flat_map-append}
use Rattle.rows_model.specs.Rows.{Tables}
use Rattle.session_client.specs.declared.plans.Shape.{Shape}
use Rattle.sql_keeper.specs.declared.keepers.Place.TheVariants as place
use Rattle.run_inputs.specs.Script.{TextsTellScripts}
use Rattle.run_inputs.specs.declared.scripts.Act.{Act}
use Rattle.core_history.specs.Determined.{Cue, cue_of, RunsAreDetermined, RunsGoOn}
use Rattle.core_history.specs.Events.{Event, log_of}
use Rattle.core_history.specs.Freshness.{histories_of}
use Rattle.core_history.specs.Lines.{line_of, lines_of, end_line, fault_turns}
use Rattle.core_history.specs.Machine.{Move, Begin, Take, turn_event, world_of}
use Rattle.core_history.specs.Truth.{IsTruePast}
use Rattle.core_history.proofs.DeterminedLemmas.{turns_count}
use Rattle.top_run.specs.declared.runs.Status.{Status}
use Rattle.top_run.specs.declared.runs.Status.TheVariants as status
use Rattle.top_run.specs.Runs.{calls_of, AreMoves, past_of, out, FewFaults, faults_in, Held, Tells, Left, IsWhole, IsCutOff}
use Rattle.top_run.specs.Runs.{IsNotStarted, Ended}
use Rattle.callers.specs.Runs.{IsBeginning}
use Rattle.callers.proofs.RunLemmas.{AreOfOne, some-at, gained, of-one, two-alike}

-- more moves make more events behind those before
past-more : (shape : Shape) (more moves : List Move) → (events : List Event) × (past_of shape (more ++ moves) ≡ events ++ past_of shape moves)
past-more shape [] moves = ([], refl)
past-more shape (Begin plan ∷ more) moves = past-more shape more moves
past-more shape (Take turn said ∷ more) moves =
    let rest = past-more shape more moves in
    let event = turn_event shape (world_of shape (more ++ moves)) turn said in
    (event ∷ rest.0, ap (λ (l : List Event). event ∷ l) rest.1)

-- and so more lines
lines-more : (events past : List Event) → lines_of (events ++ past) ≡ lines_of past ++ flat_map line_of (reverse events)
unfolding lines_of
lines-more events past = ap (flat_map line_of) (reverse-append events past) ∙ flat_map-append line_of (reverse past) (reverse events)

-- moves that do the first part of a script, and more that do the rest
made-whole : (acts : List Act) (moves more : List Move) (others : List Cue) → map cue_of (reverse moves) ++ others ≡ calls_of acts
    → map cue_of (reverse more) ≡ others → AreMoves acts (more ++ moves)
made-whole acts moves more others first rest =
    ap (map cue_of) (reverse-append more moves) ∙ map-append cue_of (reverse moves) (reverse more)
    ∙ ap (λ (l : List Cue). map cue_of (reverse moves) ++ l) rest ∙ first

-- no turn was answered FAULT where the keeper's count of faults didn't rise
none-failed : (shape : Shape) (moves : List Move) (old new : ℕ) → FewFaults (faults_in shape moves) old new → new ≡ old → old < 2 ^ 64 - 1
    → fault_turns (past_of shape moves) ≡ []
none-failed shape moves old new (inl few) same below =
    empty (fault_turns (past_of shape moves)) (turns_count (past_of shape moves) ∙ omega (arith, few, same))
  where
    empty : (xs : List ℕ) → length xs ≡ 0 → xs ≡ []
    empty [] e = refl
    empty (x ∷ xs) e = absurd (omega (arith, e))
none-failed shape moves old new (inr last) same below = absurd (omega (arith, last.1, same, below))

-- what is printed of a part begins what is printed of the whole
begins : (printed more lines rest all : List ℕ) → printed ++ more ≡ lines → lines ++ rest ≡ all → all ≡ printed ++ (more ++ rest)
begins printed more lines rest all part whole =
    sym whole ∙ ap (λ (l : List ℕ). l ++ rest) (sym part) ∙ append_assoc printed more rest

part-begins : TextsTellScripts → RunsGoOn → (held held' : Held) (before after before' after' : Tells) (left left' : Left) (written written' : ℕ)
    → IsWhole held before after left written [] → IsCutOff held' before' after' left' written'
    → held.place ≡ place.Fresh → held'.place ≡ place.Fresh → IsSome after.rows → IsSome after'.rows → IsSome before.left → before'.left ≡ before.left
    → before.taken ≡ Some [] → before'.taken ≡ Some [] → before'.keeps_failed < 2 ^ 64 - 1 → after'.keeps_failed ≡ before'.keeps_failed
    → IsBeginning after'.taken after.taken
part-begins texts law held held' before after before' after' left left' written written' h h' new new' some some' known same none none' below kept =
    by h'.part.first
  where
    rows : (r : Tables) × (after.rows ≡ Some r)
    rows = some-at after.rows some

    rows' : (r : Tables) × (after'.rows ≡ Some r)
    rows' = some-at after'.rows some'

    one : AreOfOne h.shape h'.shape h.acts h'.acts h.opening h'.opening
    one = of-one texts held held' before after before' after' left left' h.begun h'.begun rows.0 rows'.0 new new' rows.1 rows'.1 known same

    at : past_of h'.shape h'.moves ≡ past_of h.shape h'.moves
    at = ap (λ (s : Shape). past_of s h'.moves) (sym one.shapes)

    truth : IsTruePast h.opening (past_of h.shape h'.moves)
    truth =
        subst (λ (o : Tables). IsTruePast o (past_of h.shape h'.moves)) one.openings (subst (IsTruePast h'.opening) at (h'.keeps.truth rows'.0 rows'.1))

    turns : fault_turns (past_of h.shape h'.moves) ≡ []
    turns = ap fault_turns (sym at) ∙ none-failed h'.shape h'.moves before'.keeps_failed after'.keeps_failed h'.failures_are.few kept below

    begun : (rest : List ℕ) → out h.shape h.moves ≡ h'.printed ++ rest → IsBeginning after'.taken after.taken
    begun rest is = record {
      printed = h'.printed;
      more = rest;
      part_is = gained before'.taken after'.taken h'.printed none' h'.prints.gains;
      whole_is = gained before.taken after.taken (out h.shape h.moves) none h.prints.gains ∙ ap Some is;
    }

    by : (h'.printed ++ h'.part.more ≡ lines_of (past_of h'.shape h'.moves))
        ⊎ (AreMoves h'.acts h'.moves × (h'.printed ++ h'.part.more ≡ out h'.shape h'.moves)) → IsBeginning after'.taken after.taken
    by (inl lines) =
        let goes = law h.shape h.opening h'.moves h'.made.0 truth in
        let whole = goes.0 ++ h'.moves in
        let made = made-whole h.acts h'.moves goes.0 h'.made.0 (h'.made.1 ∙ ap calls_of (sym one.scripts)) goes.1.makes in
        let bytes : out h.shape whole ≡ out h.shape h.moves = h.the_text rows.0 rows.1 whole made goes.1.truth (goes.1.quiet ∙ turns) in
        let pasts = past-more h.shape goes.0 h'.moves in
        let more = flat_map line_of (reverse pasts.0) in
        let last = end_line (log_of (past_of h.shape whole)) (histories_of h.shape (past_of h.shape whole)) in
        let all : lines_of (past_of h.shape h'.moves) ++ (more ++ last) ≡ out h.shape h.moves =
        sym (append_assoc (lines_of (past_of h.shape h'.moves)) more last)
        ∙ ap (λ (l : List ℕ). l ++ last) (sym (ap lines_of pasts.1 ∙ lines-more pasts.0 (past_of h.shape h'.moves))) ∙ bytes in
        begun (h'.part.more ++ (more ++ last))
        (begins h'.printed h'.part.more (lines_of (past_of h.shape h'.moves)) (more ++ last) (out h.shape h.moves) (lines ∙ ap lines_of at) all)
    by (inr (made, lines)) =
        let bytes : out h.shape h'.moves ≡ out h.shape h.moves =
        h.the_text rows.0 rows.1 h'.moves (made ∙ ap calls_of (sym one.scripts)) truth turns in
        begun h'.part.more (sym bytes ∙ ap (λ (s : Shape). out s h'.moves) one.shapes ∙ sym lines)

-- however the second ended
pub beginning : TextsTellScripts → RunsAreDetermined → RunsGoOn
    → (one two : Status) (held held' : Held) (before after before' after' : Tells) (left left' : Left) (written written' : ℕ)
    → Ended one held before after left written → Ended two held' before' after' left' written'
    → held.place ≡ place.Fresh → held'.place ≡ place.Fresh → (IsSome left.opening → IsSome after.rows) → (IsSome left'.opening → IsSome after'.rows)
    → IsSome before.left → before'.left ≡ before.left → before.taken ≡ Some [] → before'.taken ≡ Some [] → one ≡ status.Done
    → before'.keeps_failed < 2 ^ 64 - 1 → after'.keeps_failed ≡ before'.keeps_failed → IsBeginning after'.taken after.taken
beginning texts law going one two held held' before after before' after' left left' written written' h h' new new' starts starts' known same none none'
    done below kept =
    by two h'
  where
    whole : IsWhole held before after left written []
    whole = subst (λ (s : Status). Ended s held before after left written) done h

    began : (o : Option Tables) (opening : Tables) → o ≡ Some opening → IsSome o
    began o opening is = subst (λ (o : Option Tables). IsSome o) (sym is) refl

    all : List ℕ
    all = out whole.shape whole.moves

    nothing : IsNotStarted before' after' left' written' → IsBeginning after'.taken after.taken
    nothing k = record {
      printed = [];
      more = all;
      part_is = gained before'.taken after'.taken [] none' k.prints.gains;
      whole_is = gained before.taken after.taken all none whole.prints.gains;
    }

    part : IsCutOff held' before' after' left' written' → IsBeginning after'.taken after.taken
    part k = part-begins texts going held held' before after before' after' left left' written written' whole k new new'
        (starts (began left.opening whole.opening whole.opening_is)) (starts' (began left'.opening k.opening k.opening_is)) known same none none' below kept

    by : (s : Status) → Ended s held' before' after' left' written' → IsBeginning after'.taken after.taken
    by status.Done k =
        let alike = two-alike texts law one status.Done held held' before after before' after' left left' written written' h k new new' starts starts'
        known same none none' done refl in
        let bytes = gained before.taken after.taken all none whole.prints.gains in
        record { printed = all; more = []; part_is = alike.bytes ∙ bytes; whole_is = bytes ∙ ap Some (sym (append-nil all)) }
    by status.Usage k = nothing k.1
    by (status.Script line kind) k = nothing k.2
    by status.ReadFault k = nothing k.2
    by status.WriteFault k = part k
    by status.KeepFault (inl rose, k) = absurd (omega (arith, rose, kept))
    by status.KeepFault (inr last, k) = absurd (omega (arith, last, kept, below))
    by status.Memory (inl k) = nothing k.2
    by status.Memory (inr k) = part k
    by other k = absurd k
