-- What follows from how a run ended.
use Rattle.std.proofs.Common.{◌≡◌, ℕ, ◌-◌, ◌^◌, ◌<◌, ◌⊎◌, ◌||◌, Bool, true, false, inl, inr, List, [], ◌∷◌, ◌++◌, length, map, reverse}
use Rattle.std.proofs.Common.{Option, Some, None, IsSome, slice_get, refl, sym, ap, subst, ◌∙◌, append_assoc, append-nil, arith}
use Rattle.std.specs.Prelude.{All, IfSome, Result, Ok, Err, min}
use Rattle.std.specs.Option.{ForSome, option_map}
use Rattle.std.specs.List.{list_any}
use Rattle.std.proofs.lemmas.Bool.{and_from, eq-eqb}
use Rattle.std.proofs.lemmas.List.{reverse-append}
use Rattle.std.proofs.lemmas.List.Elements.{All-nil}
use Rattle.std.proofs.lemmas.List.Folds.{list_any-append}
use Rattle.std.proofs.lemmas.Option.{get_or_from_slice_get, slice_get_within, slice_get-get_or}
use Rattle.iq_outside.specs.Outside.{Takes, AtEnd, Gains}
use Rattle.rows_model.specs.declared.keys.QKey.{QKey}
use Rattle.rows_model.specs.declared.keys.Sid.{Sid}
use Rattle.rows_model.specs.Key.{kind_number}
use Rattle.rows_model.specs.Rows.{Tables, start_tables}
use Rattle.key_shard.specs.declared.steps.Ended as ends
use Rattle.key_shard.specs.declared.steps.Step.{Step}
use Rattle.key_shard.specs.declared.steps.Step.TheVariants.{Hit, Released}
use Rattle.sql_keeper.specs.declared.stores.Commit.{Commit}
use Rattle.sql_keeper.specs.Fresh.{Fresh, Covered, IsFreshPast, releases}
use Rattle.sql_keeper.specs.Log.{rows_after}
use Rattle.session_client.specs.declared.plans.Shape.{Shape}
use Rattle.run_inputs.specs.declared.scripts.Act.{Act}
use Rattle.sql_keeper.specs.declared.keepers.Place.{Place}
use Rattle.sql_keeper.specs.declared.keepers.Place.TheVariants as place
use Rattle.run_inputs.specs.Script.{IsScript, TextsTellScripts}
use Rattle.core_history.specs.Determined.{cue_of, RunsAreDetermined}
use Rattle.core_history.specs.Events.{log_of}
use Rattle.core_history.specs.Freshness.{histories_of}
use Rattle.core_history.specs.Lines.{fault_turns}
use Rattle.run_audit.proofs.StaleLemmas.{found-clean}
use Rattle.run_inputs.specs.declared.loads.WorkSpec.{WorkSpec}
use Rattle.top_run.specs.Commands.{IsTextPart, EndedAs}
use Rattle.top_run.specs.Serves.{Course, ServeEnded}
use Rattle.run_words.specs.declared.words.ServeSpec.{ServeSpec}
use Rattle.run_words.specs.declared.words.Words.{Words}
use Rattle.run_words.specs.declared.words.Words.TheVariants as words
use Rattle.run_words.specs.declared.words.WordsFault.{WordsFault}
use Rattle.run_words.specs.declared.words.WordsFault.TheVariants as fault
use Rattle.run_audit.specs.declared.findings.Finding.{Finding}
use Rattle.top_run.specs.Works.{IsSummed, IsSummarized, WorkEnded}
use Rattle.top_run.specs.Warms.{WarmEnded}
use Rattle.core_history.specs.Machine.{terms_of}
use Rattle.core_history.specs.Truth.{IsTruePast}
use Rattle.top_run.specs.declared.runs.Status.{Status}
use Rattle.top_run.specs.declared.runs.Status.TheVariants as status
use Rattle.top_run.specs.Runs.{Prints, calls_of, AreMoves, AreFirstMoves, past_of, out, Held, Tells, Left, IsBegun, IsWhole}
use Rattle.top_run.specs.Runs.{IsCutOff, IsNotStarted, Ended}
use Rattle.top_run.proofs.KeepLemmas.{unreversed}
use Rattle.callers.specs.Shards.{MeetsItsFloor, HitsMeetTheirFloors}
use Rattle.callers.specs.Runs.{IsFreshRun, IsRunAt, IsCleanLoad, IsFreshLoad, HaveTakenOverRight, IsDoneServer, HitsHoldCommits, AreAlike}

-- a run that began, and did the first part of its script or all of it
pub record Began (held : Held) (before after : Tells) (left : Left) : Type 0 where
  pub begun : IsBegun held before after left
  pub open begun use *
  pub made : AreFirstMoves acts moves

began-whole : (held : Held) (before after : Tells) (left : Left) (written : ℕ) (turns : List ℕ)
    → IsWhole held before after left written turns → Began held before after left
began-whole held before after left written turns h =
    record { begun = h.begun; made = ([], append-nil (map cue_of (reverse h.moves)) ∙ h.made) }

began-cut-off : (held : Held) (before after : Tells) (left : Left) (written : ℕ) → IsCutOff held before after left written → Began held before after left
began-cut-off held before after left written h = record { begun = h.begun; made = h.made }

-- a run began or it didn't
pub began-or-not : (s : Status) (held : Held) (before after : Tells) (left : Left) (written : ℕ)
    → Ended s held before after left written → IsNotStarted before after left written ⊎ Began held before after left
began-or-not status.Done held before after left written h = inr (began-whole held before after left written [] h)
began-or-not status.Usage held before after left written h = inl h.1
began-or-not (status.Script line kind) held before after left written h = inl h.2
began-or-not status.ReadFault held before after left written h = inl h.2
began-or-not status.WriteFault held before after left written h = inr (began-cut-off held before after left written h)
began-or-not status.DoorFault held before after left written h = absurd h
began-or-not status.FileFault held before after left written h = absurd h
began-or-not status.KeepFault held before after left written (rose, inl h) = inl h.nothing
began-or-not status.KeepFault held before after left written (rose, inr (turns, some, h)) = inr (began-whole held before after left written turns h)
began-or-not (status.Spent shard) held before after left written h = absurd h
began-or-not status.Memory held before after left written (inl h) = inl h.2
began-or-not status.Memory held before after left written (inr h) = inr (began-cut-off held before after left written h)

-- a value that is there
pub some-at : {X : Type 0} (o : Option X) → IsSome o → (x : X) × (o ≡ Some x)
some-at (Some x) h = (x, refl)
some-at None h = absurd cc

-- a run that began over a keeper that tells its rows is fresh
fresh-began : (held : Held) (before after : Tells) (left : Left) (opening : Tables)
    → Began held before after left → held.place ≡ place.Fresh → IsSome after.rows → left.opening ≡ Some opening
    → IsFreshRun before.left after.left opening after.rows left.log left.histories
fresh-began held before after left opening b new some is =
    let known = some-at after.rows some in
    let same : b.opening ≡ opening = same-inside b.opening opening (sym b.opening_is ∙ is) in
    subst (λ (rows : Tables). IsFreshRun before.left after.left rows after.rows left.log left.histories) same (record {
      shape = b.shape;
      acts = b.acts;
      read = b.read;
      opened = b.opened.opened known.0 known.1 (start_tables b.shape.members) (b.opened.fresh new);
      fresh = b.keeps.fresh known.0 known.1;
      covered = b.keeps.covered;
      rows_are = known.1 ∙ ap Some (b.keeps.rows_are known.0 known.1);
    })
  where
    same-inside : (a b : Tables) → Some a ≡ Some b → a ≡ b
    same-inside a b e = cc

pub fresh-run : (s : Status) (held : Held) (before after : Tells) (left : Left) (written : ℕ)
    → Ended s held before after left written → held.place ≡ place.Fresh → (IsSome left.opening → IsSome after.rows)
    → IfSome left.opening (λ opening. IsFreshRun before.left after.left opening after.rows left.log left.histories)
fresh-run s held before after left written h new started = by left.opening refl (began-or-not s held before after left written h)
  where
    by : (o : Option Tables) → left.opening ≡ o → (IsNotStarted before after left written ⊎ Began held before after left)
        → IfSome o (λ opening. IsFreshRun before.left after.left opening after.rows left.log left.histories)
    by None is k = tt
    by (Some opening) is (inl k) = absurd (none-some opening (sym k.no_opening ∙ is))
      where
        none-some : (opening : Tables) → None ≡ Some opening → ⊥
        none-some opening e = absurd cc
    by (Some opening) is (inr b) =
        fresh-began held before after left opening b new (started (subst (λ (o : Option Tables). IsSome o) (sym is) refl)) is

-- so it is at any place, with what that held
pub run-at : (s : Status) (held : Held) (before after : Tells) (left : Left) (written : ℕ)
    → Ended s held before after left written
    → IfSome left.opening (λ opening. ForSome after.rows (IsRunAt held.place held.rows before.left after.left opening left.log left.histories))
run-at s held before after left written h = by left.opening refl (began-or-not s held before after left written h)
  where
    same-inside : (a b : Tables) → Some a ≡ Some b → a ≡ b
    same-inside a b e = cc

    by : (o : Option Tables) → left.opening ≡ o → (IsNotStarted before after left written ⊎ Began held before after left)
        → IfSome o (λ opening. ForSome after.rows (IsRunAt held.place held.rows before.left after.left opening left.log left.histories))
    by None is k = tt
    by (Some opening) is (inl k) = absurd (none-some opening (sym k.no_opening ∙ is))
      where
        none-some : (opening : Tables) → None ≡ Some opening → ⊥
        none-some opening e = absurd cc
    by (Some opening) is (inr b) = λ rows known.
        let same : b.opening ≡ opening = same-inside b.opening opening (sym b.opening_is ∙ is) in
        subst (λ (first : Tables). IsRunAt held.place held.rows before.left after.left first left.log left.histories rows) same (record {
          shape = b.shape;
          acts = b.acts;
          read = b.read;
          opened = b.opened.opened rows known;
          opened_fresh = λ new. b.opened.opened rows known (start_tables b.shape.members) (b.opened.fresh new);
          fresh = b.keeps.fresh rows known;
          covered = b.keeps.covered;
          rows_are = b.keeps.rows_are rows known;
        })

-- and where the keeper tells its rows for good, it tells them then
pub run-telling : (opening after : Option Tables) (P : Tables → Tables → Type 0) → IfSome opening (λ first. ForSome after (P first)) → (IsSome opening → IsSome after)
    → IfSome opening (λ first. (rows : Tables) × (after ≡ Some rows) × P first rows)
run-telling None after P h started = tt
run-telling (Some first) after P h started =
    let known = some-at after (started refl) in
    (known.0, known.1, h known.0 known.1)

-- each history of a run that is kept is legal, so that its hits meet their floors
pub above-floors : HitsMeetTheirFloors → (s : Status) (held : Held) (before after : Tells) (left : Left) (written : ℕ) → Ended s held before after left written
    → All (λ history. All MeetsItsFloor history) left.histories
above-floors law s held before after left written h = by (began-or-not s held before after left written h)
  where
    by : (IsNotStarted before after left written ⊎ Began held before after left) → All (λ history. All MeetsItsFloor history) left.histories
    by (inl k) = subst (All (λ history. All MeetsItsFloor history)) (sym k.no_histories) (All-nil (λ history. All MeetsItsFloor history))
    by (inr b) = λ place d below. law (terms_of b.shape place) _ (b.keeps.legal place _ (slice_get-get_or left.histories place d below))

-- each commit of a run is covered, whatever the keeper said
pub covered-run : (s : Status) (held : Held) (before after : Tells) (left : Left) (written : ℕ)
    → Ended s held before after left written → Covered left.log left.histories
covered-run s held before after left written h = by (began-or-not s held before after left written h)
  where
    none-at : (log : List Commit) (place : ℕ) (commit : Commit) → log ≡ [] → slice_get log place ≡ Some commit → ⊥
    none-at log place commit none at = absurd (below (subst (λ (l : List Commit). place < length l) none (slice_get_within log place commit at)))
      where
        below : place < 0 → ⊥
        below h = absurd (omega arith)

    by : (IsNotStarted before after left written ⊎ Began held before after left) → Covered left.log left.histories
    by (inl k) = λ place commit key at touched. absurd (none-at left.log place commit k.no_log at)
    by (inr b) = b.keeps.covered

-- two loads don't end as a faulty command line
no_usage_of_two : (spec : WorkSpec) (course : Course) → WarmEnded status.Usage spec course → ⊥
no_usage_of_two spec course (inl first) = absurd first.stopped
no_usage_of_two spec course (inr (inl between)) = absurd between.is_part
no_usage_of_two spec course (inr (inr second)) = absurd second

-- two loads that ended Done took over what was right
pub two_loads_done : (ended : Status) (spec : WorkSpec) (course : Course) → WarmEnded ended spec course → ended ≡ status.Done
    → HaveTakenOverRight spec course.after.rows course.earlier course.left
two_loads_done ended spec course h is = by (subst (λ (e : Status). WarmEnded e spec course) is h)
  where
    by : WarmEnded status.Done spec course → HaveTakenOverRight spec course.after.rows course.earlier course.left
    by (inl first) = absurd first.stopped
    by (inr (inl between)) = absurd between.is_part
    by (inr (inr second)) =
        let on = second.begun in
        record {
          first = on.first;
          only = on.is_first.only;
          opening = on.opening;
          opening_is = on.is_first.left.opening_is;
          opening_anew = on.left.opening_is;
          taken_over = on.taken_over;
          covered_first = on.is_first.left.covered;
          covered = on.left.covered;
          fresh_first = on.is_first.left.fresh;
          fresh = on.left.fresh;
          hits = on.hits;
        }

-- words that are refused change nothing
pub same_of_usage : (read : Result Words WordsFault) (ended : Status) (courses : Place → Course) → EndedAs read ended courses
    → ended ≡ status.Usage → (at : Place) × ((courses at).after ≡ (courses at).before)
same_of_usage (Ok (words.Replay at)) ended courses h is =
    let course = courses at in
    (at, (subst (λ (e : Status). Ended e course.held course.before course.after course.left course.written) is h.0).0)
same_of_usage (Ok (words.Work at spec)) ended courses h is =
    let course = courses at in
    absurd (subst (λ (e : Status). WorkEnded e spec course.held course.before course.after course.left course.written) is h.1)
same_of_usage (Ok (words.Warm at spec)) ended courses h is = absurd (no_usage_of_two spec (courses at) (subst (λ (e : Status). WarmEnded e spec (courses at)) is h.1))
same_of_usage (Ok (words.Serve at spec)) ended courses h is = absurd (subst (λ (e : Status). ServeEnded e spec (courses at)) is h.1)
same_of_usage (Ok (words.Page text)) ended courses h is =
    absurd (subst (λ (e : Status). IsTextPart e text.items (h place.Fresh).1.printed) is (h place.Fresh).1.is_part)
same_of_usage (Err fault.Usage) ended courses h is = (place.Fresh, (h.1 place.Fresh).same)
same_of_usage (Err fault.Memory) ended courses h is = (place.Fresh, (h.1 place.Fresh).same)

-- a server that ended Done
pub server_done : (ended : Status) (spec : ServeSpec) (course : Course) → ServeEnded ended spec course → ended ≡ status.Done
    → IsDoneServer spec course.before.taken course.after.taken course.files_before course.files_after course.before.keeps_failed course.after.keeps_failed
    course.after.rows course.left course.door_after.ended course.ends course.written
server_done ended spec course h is =
    let served = subst (λ (e : Status). ServeEnded e spec course) is h in
    record {
      lines = served.attended.lines;
      few = served.attended.few;
      have_ends = served.attended.have_ends;
      served = served.attended.all refl;
      opening = served.opening;
      opening_is = served.kept.opening_is;
      failed = served.failed;
      since = served.kept.since;
      begun = served.begun;
      begins_as = served.begins_as;
      prints = subst (λ (bytes : List ℕ). Prints course.before.taken course.after.taken bytes course.written) served.attended.is_text served.attended.prints;
      as_many = served.kept.as_many;
      legal = served.kept.legal;
    }

-- what holds of all elements holds of the one at a place
pub at-place : {X : Type 0} (P : X → Type 0) (xs : List X) (i : ℕ) (x : X) → All P xs → slice_get xs i ≡ Some x → P x
at-place P xs i x h is = subst P (get_or_from_slice_get xs i x x is) (h i x (slice_get_within xs i x is))

-- a list with an element in the middle, and one with two, turned round
pub reverse-middle : {X : Type 0} (xs : List X) (x : X) (ys : List X) → reverse (xs ++ x ∷ ys) ≡ reverse ys ++ x ∷ reverse xs
reverse-middle {X} xs x ys =
    reverse-append xs (x ∷ ys)
    ∙ ap (λ (l : List X). l ++ reverse xs) (reverse-append (x ∷ []) ys)
    ∙ append_assoc (reverse ys) (x ∷ []) (reverse xs)

pub turned : {X : Type 0} (before between after : List X) (r h : X)
    → reverse (before ++ r ∷ (between ++ h ∷ after)) ≡ reverse after ++ h ∷ (reverse between ++ r ∷ reverse before)
turned {X} before between after r h =
    reverse-middle before r (between ++ h ∷ after)
    ∙ ap (λ (l : List X). l ++ r ∷ reverse before) (reverse-middle between h after)
    ∙ append_assoc (reverse after) (h ∷ reverse between) (r ∷ reverse before)

-- the earlier steps of a fresh past are fresh
pub fresh-later : (opening : Tables) (log : List Commit) (later past : List Step) → IsFreshPast opening log (later ++ past) → IsFreshPast opening log past
fresh-later opening log [] past h = h
fresh-later opening log (step ∷ later) past h = fresh-later opening log later past h.1

releases-own : (key : QKey) (who : Sid) (token : ℕ) (how : ends.Ended) → releases key who (Released key who token how) ≡ true
releases-own key who token how =
    and_from _ _ (and_from _ _ (eq-eqb (kind_number key.kind) (kind_number key.kind) refl) (eq-eqb key.id key.id refl)) (eq-eqb who.number who.number refl)

any-behind : {X : Type 0} (p : X → Bool) (xs : List X) (x : X) (ys : List X) → p x ≡ true → list_any p (xs ++ x ∷ ys) ≡ true
any-behind p xs x ys h =
    list_any-append p xs (x ∷ ys) ∙ ap (λ (b : Bool). list_any p xs || (b || list_any p ys)) h ∙ either (list_any p xs)
  where
    either : (a : Bool) → (a || true) ≡ true
    either true = refl
    either false = refl

-- where each hit is fresh, those behind a release hold the commit
pub hold-commits : (opening : Tables) (log : List Commit) (histories : List (List Step)) → Fresh opening log histories → HitsHoldCommits opening log histories
hold-commits opening log histories fresh shard place history commit key value stamp there at touched b =
    let hit = Hit key b.reader b.floor value stamp in
    let release = Released key commit.sid b.token b.how in
    let past = reverse b.between ++ release ∷ reverse b.before in
    let whole : IsFreshPast opening log (reverse history) =
    at-place (λ history. IsFreshPast opening log (reverse history)) histories shard history fresh there in
    let order : reverse history ≡ reverse b.after ++ hit ∷ past = ap reverse b.steps ∙ turned b.before b.between b.after release hit in
    let found = fresh-later opening log (reverse b.after) (hit ∷ past) (subst (IsFreshPast opening log) order whole) in
    let ended = any-behind (releases key commit.sid) (reverse b.between) release (reverse b.before) (releases-own key commit.sid b.token b.how) in
    (found.0.current place commit at touched ended, found.0.right)

pub hold-run : (left_old left_new : Option (List ℕ)) (opening rows : Option Tables) (log : List Commit) (histories : List (List Step))
    → IfSome opening (λ opening. IsFreshRun left_old left_new opening rows log histories) → IfSome opening (λ opening. HitsHoldCommits opening log histories)
hold-run left_old left_new None rows log histories h = tt
hold-run left_old left_new (Some opening) rows log histories h = hold-commits opening log histories h.fresh

-- what a source gives up to its end is all that was left
all-read : (rest : List ℕ) (left : Option (List ℕ)) (bytes : List ℕ) → Takes (Some rest) left bytes → AtEnd left → bytes ≡ rest
all-read rest None bytes e h = absurd cc
all-read rest (Some more) bytes e h =
    let done : more ≡ [] = h more refl in
    let all : rest ≡ bytes ++ more = cc in
    sym (append-nil bytes) ∙ ap (λ (m : List ℕ). bytes ++ m) (sym done) ∙ sym all

-- two sources that tell the same bytes are read to the same text
one-text : (old old' new new' : Option (List ℕ)) (text text' rest : List ℕ)
    → old ≡ Some rest → old' ≡ old → Takes old new text → AtEnd new → Takes old' new' text' → AtEnd new' → text' ≡ text
one-text old old' new new' text text' rest is same h k h' k' =
    all-read rest new' text' (sym (same ∙ is) ∙ h') k' ∙ sym (all-read rest new text (sym is ∙ h) k)

pub gained : (old new : Option (List ℕ)) (printed : List ℕ) → old ≡ Some [] → Gains old new printed → new ≡ Some printed
gained old new printed none h = h ∙ ap (option_map (λ taken. taken ++ printed)) none

-- Two runs of one text are runs of one script over the same rows.
pub record AreOfOne (shape shape' : Shape) (acts acts' : List Act) (opening opening' : Tables) : Type 0 where
  pub shapes : shape ≡ shape'
  pub scripts : acts ≡ acts'
  pub openings : opening' ≡ opening

pub of-one : TextsTellScripts → (held held' : Held) (before after before' after' : Tells) (left left' : Left) (b : IsBegun held before after left)
    (b' : IsBegun held' before' after' left') (rows rows' : Tables) → held.place ≡ place.Fresh → held'.place ≡ place.Fresh
    → after.rows ≡ Some rows → after'.rows ≡ Some rows' → IsSome before.left → before'.left ≡ before.left
    → AreOfOne b.shape b'.shape b.acts b'.acts b.opening b'.opening
of-one texts held held' before after before' after' left left' b b' rows rows' new new' is is' known same =
    let rest = some-at before.left known in
    let text = one-text before.left before'.left after.left after'.left
    b.read.text b'.read.text rest.0 rest.1 same b.read.takes b.read.at_end b'.read.takes b'.read.at_end in
    let script = texts.one_script b.read.text b.shape b'.shape b.acts b'.acts b.read.is_script
    (subst (λ (t : List ℕ). IsScript t b'.shape b'.acts) text b'.read.is_script) in
    let opening = b.opened.opened rows is (start_tables b.shape.members) (b.opened.fresh new) in
    let opening' = b'.opened.opened rows' is' (start_tables b'.shape.members) (b'.opened.fresh new') in
    record {
      shapes = script.0;
      scripts = script.1;
      openings = opening' ∙ ap (λ (s : Shape). start_tables s.members) (sym script.0) ∙ sym opening;
    }

-- two runs of one text, both to the end and without a FAULT, came to the same
wholes-alike : TextsTellScripts → RunsAreDetermined → (held held' : Held) (before after before' after' : Tells) (left left' : Left) (written written' : ℕ)
    → IsWhole held before after left written [] → IsWhole held' before' after' left' written' []
    → held.place ≡ place.Fresh → held'.place ≡ place.Fresh → IsSome after.rows
    → IsSome after'.rows → IsSome before.left → before'.left ≡ before.left → before.taken ≡ Some [] → before'.taken ≡ Some []
    → AreAlike after after' left left' written written'
wholes-alike texts law held held' before after before' after' left left' written written' h h' new new' some some' known same none none' =
    let rows = some-at after.rows some in
    let rows' = some-at after'.rows some' in
    let one = of-one texts held held' before after before' after' left left' h.begun h'.begun rows.0 rows'.0 new new' rows.1 rows'.1 known same in
    let made : AreMoves h.acts h'.moves = h'.made ∙ ap calls_of (sym one.scripts) in
    let at' : past_of h'.shape h'.moves ≡ past_of h.shape h'.moves = ap (λ (s : Shape). past_of s h'.moves) (sym one.shapes) in
    let truth : IsTruePast h.opening (past_of h.shape h'.moves) =
    subst (λ (o : Tables). IsTruePast o (past_of h.shape h'.moves)) one.openings (subst (IsTruePast h'.opening) at' (h'.keeps.truth rows'.0 rows'.1)) in
    let turns : fault_turns (past_of h.shape h'.moves) ≡ [] = sym (h'.turns_are ∙ ap fault_turns at') in
    let bytes : out h.shape h'.moves ≡ out h.shape h.moves = h.the_text rows.0 rows.1 h'.moves made truth turns in
    let outs : out h'.shape h'.moves ≡ out h.shape h.moves = ap (λ (s : Shape). out s h'.moves) (sym one.shapes) ∙ bytes in
    let pasts : past_of h.shape h'.moves ≡ past_of h.shape h.moves =
    law h.shape h.opening h'.moves h.moves (unreversed h'.moves h.moves (made ∙ sym h.made)) truth (h.keeps.truth rows.0 rows.1) (turns ∙ h.turns_are) in
    let logs : left'.log ≡ left.log = h'.keeps.log_is ∙ ap log_of (at' ∙ pasts) ∙ sym h.keeps.log_is in
    record {
      bytes = gained before'.taken after'.taken (out h'.shape h'.moves) none' h'.prints.gains
          ∙ ap Some outs ∙ sym (gained before.taken after.taken (out h.shape h.moves) none h.prints.gains);
      counts = h'.prints.counted ∙ ap (λ (l : List ℕ). min (length l) (2 ^ 64 - 1)) outs ∙ sym h.prints.counted;
      openings = h'.opening_is ∙ ap Some one.openings ∙ sym h.opening_is;
      logs = logs;
      histories =
          h'.keeps.histories_are
          ∙ ap (λ (s : Shape). histories_of s (past_of h'.shape h'.moves)) (sym one.shapes)
          ∙ ap (histories_of h.shape) (at' ∙ pasts)
          ∙ sym h.keeps.histories_are;
      rows =
          rows'.1 ∙ ap Some (h'.keeps.rows_are rows'.0 rows'.1 ∙ ap (λ (o : Tables). rows_after o left'.log) one.openings
          ∙ ap (rows_after h.opening) logs ∙ sym (h.keeps.rows_are rows.0 rows.1))
          ∙ sym rows.1;
    }

pub two-alike : TextsTellScripts → RunsAreDetermined
    → (one two : Status) (held held' : Held) (before after before' after' : Tells) (left left' : Left) (written written' : ℕ)
    → Ended one held before after left written → Ended two held' before' after' left' written'
    → held.place ≡ place.Fresh → held'.place ≡ place.Fresh → (IsSome left.opening → IsSome after.rows) → (IsSome left'.opening → IsSome after'.rows)
    → IsSome before.left → before'.left ≡ before.left → before.taken ≡ Some [] → before'.taken ≡ Some []
    → one ≡ status.Done → two ≡ status.Done → AreAlike after after' left left' written written'
two-alike texts law one two held held' before after before' after' left left' written written' h h' new new' started started' known same none none' done done' =
    let whole = subst (λ (s : Status). Ended s held before after left written) done h in
    let whole' = subst (λ (s : Status). Ended s held' before' after' left' written') done' h' in
    wholes-alike texts law held held' before after before' after' left left' written written' whole whole' new new'
    (started (began left.opening whole.opening whole.opening_is)) (started' (began left'.opening whole'.opening whole'.opening_is)) known same none none'
  where
    began : (o : Option Tables) (opening : Tables) → o ≡ Some opening → IsSome o
    began o opening is = subst (λ (o : Option Tables). IsSome o) (sym is) refl

clean_summed : (spec : WorkSpec) (held : Held) (before after : Tells) (left : Left) (written : ℕ)
    → IsSummed spec held before after left written status.Done
    → IsCleanLoad held.place spec before after left written
clean_summed spec held before after left written h = record {
  opening = h.opening;
  opening_is = h.kept.opening_is;
  opened = λ new rows is. h.kept.opened.opened rows is (start_tables spec.members) (h.kept.opened.fresh new);
  covered = h.kept.covered refl;
  fresh = h.kept.fresh refl;
  found = h.found;
  summary_is = h.summary_is;
  clean = λ some. (found-clean h.opening left.log left.histories h.found h.summary_is.is_summary.is_finding).1 (h.kept.covered refl, h.kept.fresh refl some);
}

-- a load that ended Done is clean
pub load_done : (s : Status) (spec : WorkSpec) (held : Held) (before after : Tells) (left : Left) (written : ℕ)
    → WorkEnded s spec held before after left written → s ≡ status.Done → IsCleanLoad held.place spec before after left written
load_done s spec held before after left written h done =
    clean_summed spec held before after left written (subst (λ (t : Status). WorkEnded t spec held before after left written) done h)

-- and over a keeper that tells its rows for good nothing is left open
pub load_fresh : (place : Place) (spec : WorkSpec) (before after : Tells) (left : Left) (written : ℕ) → IsCleanLoad place spec before after left written
    → (IsSome left.opening → IsSome after.rows) → IsFreshLoad place spec before.taken after.taken left written
load_fresh place spec before after left written h started =
    let some : IsSome after.rows = started (subst (λ (o : Option Tables). IsSome o) (sym h.opening_is) refl) in
    let known = some-at after.rows some in
    record {
      opening = h.opening;
      opening_is = h.opening_is;
      opened = λ new. h.opened new known.0 known.1;
      covered = h.covered;
      fresh = h.fresh some;
      summary_is = subst (λ (f : Finding). IsSummarized spec h.opening left.log left.histories before.taken after.taken written f) (h.clean some) h.summary_is;
    }
