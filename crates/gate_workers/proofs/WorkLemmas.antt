-- The rows of a worker's plans, as they come, and the transcripts of all workers.
use Rattle.std.proofs.Common.{All, Vec, Global, Result, Ok, Err, IfOk, map, set, get_or, take, drop, arith, ℕ, ◌+◌, ◌≡◌, ◌≢◌, ◌<◌, inl, inr}
use Rattle.std.proofs.Common.{Bool, true, false, if◌then◌else◌, List, [], ◌∷◌, ◌++◌, Option, Some, None, length, refl, sym, ap, subst, ◌∙◌, append_assoc}
use Rattle.std.proofs.Common.{append-nil, length-append, MatchResult, OnErr}
use Rattle.std.proofs.lemmas.List.{map-append, take_more, take-append-drop}
use Rattle.std.proofs.lemmas.List.Elements.{All-head, All-tail, All-nil, All-cons, All-same}
use Rattle.std.proofs.lemmas.Bool.{false≢true}
use Rattle.std.specs.Option.{option_map}
use Rattle.rows_model.specs.declared.refusals.Memory.{Memory}
use Rattle.rows_model.specs.declared.keys.Sid.{Sid}
use Rattle.session_client.specs.Belongs.{Belongs}
use Rattle.session_client.specs.Desks.{Exchange, Began, Asked, with_member, one_more}
use Rattle.session_client.specs.Follows.{Follows, plan_of, sid_of}
use Rattle.session_client.specs.Plans.{writes, IsPlan}
use Rattle.session_client.specs.declared.plans.Plan.{Plan}
use Rattle.session_client.specs.declared.replies.Fault.TheVariants as causes
use Rattle.session_client.specs.declared.replies.Outcome.{Outcome}
use Rattle.session_client.specs.declared.replies.Outcome.TheVariants as outcome
use Rattle.session_client.specs.declared.replies.Reply.{Reply}
use Rattle.session_client.specs.declared.replies.Wanted.TheVariants as wanted
use Rattle.session_client.specs.declared.sessions.Session.{Session}
use Rattle.gate_workers.specs.declared.marks.Mark.{Mark}
use Rattle.gate_workers.specs.Marks.{marks_of}
use Rattle.gate_workers.specs.Rows.{RowView, IsRow, AreRows, IsWork, AllWork, AreJoined, short_of_memory, MayLackRow, HasStopped, HaveGone, HasWorked}
use Rattle.gate_workers.specs.Rows.{AllWorked, DeskView, is_short, row_of, row_with, with_calls, with_steps, with_work}
use Rattle.gate_workers.specs.Notes.{AreNoted, IsUnderWay, HasEnded, AddsRow, AddsStop}
use Rattle.gate_workers.proofs.SessionLemmas.{with_more}

-- no calls more leave a record
no_more : (now : Option (List Exchange)) → now ≡ with_calls [] now
no_more (Some recorded) = refl
no_more None = refl

-- a session that has begun is under way
pub begins : (who : Sid) (plan : Plan) (session : Session) (now after : Option (List Exchange)) → plan_of session ≡ plan
    → sid_of session ≡ who → Follows session false [] → after ≡ with_member (Began (writes plan) who) now → IsUnderWay who plan session now after (Some [])
begins who plan session now after of_plan of_number follows recorded =
    record {
      short = false;
      heard = [];
      calls = Began (writes plan) who ∷ [];
      of_plan = of_plan;
      of_number = of_number;
      follows = follows;
      went = (refl, refl);
      recorded = with_more (Began (writes plan) who) [] now now after (no_more now) recorded;
      noted = refl;
    }

-- a session that has begun is driven to its end
pub runs_to_end : (who : Sid) (plan copy : Plan) (writing : Bool) (session : Session) (before now after : Option (List Exchange))
    (notes notes' : Option (List Mark)) (ended : Outcome) → plan_of session ≡ copy → copy ≡ plan → sid_of session ≡ who → Follows session false []
    → now ≡ with_member (Began writing who) before → writing ≡ writes plan → notes ≡ Some []
    → ((who : Sid) (plan : Plan) (before : Option (List Exchange)) → IsUnderWay who plan session before now notes → HasEnded who plan ended before after notes')
    → HasEnded who plan ended before after notes'
runs_to_end who plan copy writing session before now after notes notes' ended of_copy of_plan of_number follows begun is none drives =
    let began : now ≡ with_member (Began (writes plan) who) before = subst (λ (w : Bool). now ≡ with_member (Began w who) before) is begun in
    let fresh : IsUnderWay who plan session before now (Some []) = begins who plan session before now (of_copy ∙ of_plan) of_number follows began in
    drives who plan before (subst (λ (n : Option (List Mark)). IsUnderWay who plan session before now n) (sym none) fresh)

-- calls and steps that a desk tells of are its work
told_by : (calls : List Exchange) (steps : ℕ) (before after : Option (List Exchange)) (count now : Option ℕ) (at at' : Option ℕ)
    → after ≡ with_calls calls before → now ≡ with_steps steps count → at' ≡ at
    → record { calls = after; steps = now; worker = at' } ≡ with_work calls steps (record { calls = before; steps = count; worker = at })
told_by calls steps before after count now at at' e f same = λ i. record { calls = e i; steps = f i; worker = same i }

no_step : (count : Option ℕ) → count ≡ with_steps 0 count
no_step (Some n) = ap (λ (m : ℕ). Some m) (omega arith)
no_step None = refl

one_step : (count : Option ℕ) → one_more count ≡ with_steps 1 count
one_step (Some n) = refl
one_step None = refl

nothing_done : (now : DeskView) → now ≡ with_work [] 0 now
nothing_done now = λ i. record { calls = no_more now.calls i; steps = no_step now.steps i; worker = now.worker }

-- a row is left where memory didn't run out for the session, and its marks are kept
record IsLeft (who : Sid) (ended : Outcome) (notes : Option (List Mark)) (row : RowView) : Type 0 where
  pub had : ended ≢ short_of_memory
  pub marks : List Mark
  pub kept : notes ≡ Some marks
  pub is : row ≡ record { sid = who; outcome = ended; marks = marks }

some_same : {X : Type 0} {a b : X} → Some a ≡ Some b → a ≡ b
some_same e = cc

none_some : {X : Type 0} {a : X} → None ≡ Some a → ⊥
none_some e = cc

left_where : (who : Sid) (ended : Outcome) (short : Bool) (notes : Option (List Mark)) (row : RowView)
    → is_short ended ≡ short → (if short then None else option_map (row_with who ended) notes) ≡ Some row → IsLeft who ended notes row
left_where who ended true notes row s e = absurd (none_some e)
left_where who ended false None row s e = absurd (none_some e)
left_where who ended false (Some marks) row s e = record {
  had = λ same. false≢true (sym s ∙ ap is_short same);
  marks = marks;
  kept = refl;
  is = sym (some_same e);
}

left_by : (who : Sid) (ended : Outcome) (notes : Option (List Mark)) (row : RowView)
    → row_of who ended notes ≡ Some row → IsLeft who ended notes row
left_by who ended notes row e = left_where who ended (is_short ended) notes row refl e

some_none : {X : Type 0} {a : X} → Some a ≡ None → ⊥
some_none e = cc

short_from : (ended : Outcome) → is_short ended ≡ true → ended ≡ short_of_memory
short_from (outcome.Failed causes.Memory) e = refl
short_from ended e = cc

lacks_where : (who : Sid) (ended : Outcome) (short : Bool) (notes : Option (List Mark)) (calls : List Exchange)
    → is_short ended ≡ short → (if short then None else option_map (row_with who ended) notes) ≡ None → AreNoted notes calls → MayLackRow ended calls
lacks_where who ended true notes calls s e h = inl (short_from ended s)
lacks_where who ended false None calls s e h = inr h
lacks_where who ended false (Some marks) calls s e h = absurd (some_none e)

-- else there is none
lacks_by : (who : Sid) (ended : Outcome) (notes : Option (List Mark)) (calls : List Exchange)
    → row_of who ended notes ≡ None → AreNoted notes calls → MayLackRow ended calls
lacks_by who ended notes calls e h = lacks_where who ended (is_short ended) notes calls refl e h

-- a session that has ended leaves its row, where memory didn't run out for it
row_from : (who : Sid) (plan : Plan) (ended : Outcome) (before after later : Option (List Exchange)) (count now : Option ℕ) (at at' : Option ℕ)
    (notes : Option (List Mark)) (row : RowView) → HasEnded who plan ended before after notes → row_of who ended notes ≡ Some row
    → later ≡ after → now ≡ one_more count → at' ≡ at
    → AddsRow plan (record { calls = before; steps = count; worker = at }) (record { calls = later; steps = now; worker = at' }) row
row_from who plan ended before after later count now at at' notes row e left same tended stays =
    let l : IsLeft who ended notes row = left_by who ended notes row left in
    let noted : l.marks ≡ marks_of e.calls = subst (λ (n : Option (List Mark)). AreNoted n e.calls) l.kept e.noted in
    let view : RowView = record { sid = who; outcome = ended; marks = l.marks } in
    let made : IsRow plan e.calls view = record { has_run = e.has_run; had_memory = l.had; marks = noted } in (
      e.calls,
      subst (λ (r : RowView). IsRow plan e.calls r) (sym l.is) made,
      told_by e.calls 1 before later count now at at' (same ∙ e.recorded) (tended ∙ one_step count) stays,
    )

-- what holds anyway holds where there was an error
pub on_err_by : {T E : Type 0} (result : Result T E) (P : Type 0) → P → OnErr result P
on_err_by (Ok x) P p = tt
on_err_by (Err x) P p = p

-- a worker stops where no session begins
pub stops_before : (plan : Plan) (now : DeskView) → AddsStop plan now now
stops_before plan now = ([], 0, inl (refl, refl), nothing_done now)

-- it stops where none can begin
pub stops_unbegun : (plan : Plan) (before now : Option (List Exchange)) (count count' at at' : Option ℕ) → now ≡ before → count' ≡ count → at' ≡ at
    → AddsStop plan (record { calls = before; steps = count; worker = at }) (record { calls = now; steps = count'; worker = at' })
stops_unbegun plan before now count count' at at' same idle stays =
    ([], 0, inl (refl, refl), told_by [] 0 before now count count' at at' (same ∙ no_more before) (idle ∙ no_step count) stays)

-- it stops where a session that has begun is ended at once
pub stops_at_once : (plan : Plan) (who : Sid) (reply : Reply) (before now after : Option (List Exchange)) (count count' at at' : Option ℕ)
    → now ≡ with_member (Began (writes plan) who) before → after ≡ with_member (Asked who wanted.End reply) now
    → Belongs who wanted.End reply → count' ≡ count → at' ≡ at
    → AddsStop plan (record { calls = before; steps = count; worker = at }) (record { calls = after; steps = count'; worker = at' })
stops_at_once plan who reply before now after count count' at at' begun asked belongs idle stays =
    let calls : List Exchange = Asked who wanted.End reply ∷ Began (writes plan) who ∷ [] in
    let recorded : after ≡ with_calls calls before =
    with_more (Asked who wanted.End reply) (Began (writes plan) who ∷ []) before now after
    (with_more (Began (writes plan) who) [] before before now (no_more before) begun) asked in
    (calls, 0, inr (inl (who, reply, belongs, refl, refl)), told_by calls 0 before after count count' at at' recorded (idle ∙ no_step count) stays)

-- it stops where a session has run and leaves no row
stops_after : (who : Sid) (plan : Plan) (ended : Outcome) (before after later : Option (List Exchange)) (count now at at' : Option ℕ)
    (notes : Option (List Mark)) → HasEnded who plan ended before after notes → row_of who ended notes ≡ None
    → later ≡ after → now ≡ one_more count → at' ≡ at
    → AddsStop plan (record { calls = before; steps = count; worker = at }) (record { calls = later; steps = now; worker = at' })
stops_after who plan ended before after later count now at at' notes e none same tended stays = (
  e.calls,
  1,
  inr (inr (who, ended, e.has_run, lacks_by who ended notes e.calls none e.noted, refl)),
  told_by e.calls 1 before later count now at at' (same ∙ e.recorded) (tended ∙ one_step count) stays,
)

-- what a session leaves that has ended: its row, or the worker's stop
pub record Leaves (plan : Plan) (before after : DeskView) (result : Result RowView Memory) : Type 0 where
  pub row : IfOk result (λ row. AddsRow plan before after row)
  pub stop : OnErr result (AddsStop plan before after)

pub leaves : (who : Sid) (plan : Plan) (ended : Outcome) (before after later : Option (List Exchange)) (count now at at' : Option ℕ)
    (notes : Option (List Mark)) (result : Result RowView Memory) → HasEnded who plan ended before after notes
    → MatchResult result (λ row. row_of who ended notes ≡ Some row) (λ _. row_of who ended notes ≡ None)
    → later ≡ after → now ≡ one_more count → at' ≡ at
    → Leaves plan (record { calls = before; steps = count; worker = at }) (record { calls = later; steps = now; worker = at' }) result
leaves who plan ended before after later count now at at' notes (Ok row) e left same tended stays =
    record { row = row_from who plan ended before after later count now at at' notes row e left same tended stays; stop = tt }
leaves who plan ended before after later count now at at' notes (Err x) e none same tended stays =
    record { row = tt; stop = stops_after who plan ended before after later count now at at' notes e none same tended stays }

calls_twice : (first later : List Exchange) (recorded : Option (List Exchange)) → with_calls later (with_calls first recorded) ≡ with_calls (later ++ first) recorded
calls_twice first later (Some recorded) = ap (λ (calls : List Exchange). Some calls) (sym (append_assoc later first recorded))
calls_twice first later None = refl

steps_twice : (some more : ℕ) (count : Option ℕ) → with_steps more (with_steps some count) ≡ with_steps (some + more) count
steps_twice some more (Some n) = ap (λ (m : ℕ). Some m) (omega arith)
steps_twice some more None = refl

-- work that is done later
with_later : (first later : List Exchange) (some more : ℕ) (before now after : DeskView)
    → now ≡ with_work first some before → after ≡ with_work later more now → after ≡ with_work (later ++ first) (some + more) before
with_later first later some more before now after e f =
    f ∙ (ap (with_work later more) e
    ∙ λ i. record { calls = calls_twice first later before.calls i; steps = steps_twice some more before.steps i; worker = before.worker })

-- one row more
more_rows : (plans : List Plan) (calls : List Exchange) (rows : List RowView) (plan : Plan) (last : List Exchange) (row : RowView)
    → AreRows plans calls rows → IsRow plan last row → AreRows (plans ++ plan ∷ []) (last ++ calls) (rows ++ row ∷ [])
more_rows [] calls [] plan last row h r = (last, [], r, refl, ap (λ (before : List Exchange). last ++ before) h ∙ append-nil last)
more_rows [] calls (other ∷ rows) plan last row h r = absurd h
more_rows (first ∷ plans) calls [] plan last row h r = absurd h
more_rows (first ∷ plans) calls (other ∷ rows) plan last row h r =
    (h.0, last ++ h.1, h.2, more_rows plans h.1 rows plan last row h.3 r, ap (λ (before : List Exchange). last ++ before) h.4 ∙ sym (append_assoc last h.1 h.0))

one_longer : (plans : List Plan) (plan : Plan) → length (plans ++ plan ∷ []) ≡ length plans + 1
one_longer plans plan = length-append plans (plan ∷ [])

-- one plan more
pub more_work : (plans : List Plan) (plan : Plan) (before now after : DeskView) (rows : List RowView) (row : RowView)
    → IsWork plans before now rows → AddsRow plan now after row → IsWork (plans ++ plan ∷ []) before after (rows ++ row ∷ [])
more_work plans plan before now after rows row w d =
    record {
      calls = d.0 ++ w.calls;
      rows_of = more_rows plans w.calls rows plan d.0 row w.rows_of d.1;
      works = with_later w.calls d.0 (length plans) 1 before now after w.works d.2
          ∙ ap (λ (n : ℕ). with_work (d.0 ++ w.calls) n before) (sym (one_longer plans plan));
    }

-- no plans are worked by no calls
pub no_work : (now : DeskView) → IsWork [] now now []
no_work now = record { calls = []; rows_of = refl; works = nothing_done now }

-- the calls of rows are those of sessions that have run
gone_by : (plans : List Plan) (calls : List Exchange) (rows : List RowView) → AreRows plans calls rows → HaveGone plans calls (length plans)
gone_by [] calls [] h = (h, refl)
gone_by [] calls (row ∷ rows) h = absurd h
gone_by (plan ∷ plans) calls [] h = absurd h
gone_by (plan ∷ plans) calls (row ∷ rows) h =
    inr (
      h.0,
      h.1,
      length plans,
      (row.sid, row.outcome, h.2.has_run, h.2.had_memory),
      gone_by plans h.1 rows h.3,
      h.4,
      omega arith,
    )

-- so they are up to the plan at which a worker stops
gone_to : (done : List Plan) (plan : Plan) (left : List Plan) (calls last : List Exchange) (steps : ℕ) (rows : List RowView)
    → AreRows done calls rows → HasStopped plan last steps → HaveGone (done ++ plan ∷ left) (last ++ calls) (length done + steps)
gone_to [] plan left calls last steps [] h s =
    let same : last ++ calls ≡ last = ap (λ (before : List Exchange). last ++ before) h ∙ append-nil last in
    let none : 0 + steps ≡ steps = omega arith in
    inl (subst (λ (n : ℕ). HasStopped plan (last ++ calls) n) (sym none) (subst (λ (all : List Exchange). HasStopped plan all steps) (sym same) s))
gone_to [] plan left calls last steps (row ∷ rows) h s = absurd h
gone_to (first ∷ done) plan left calls last steps [] h s = absurd h
gone_to (first ∷ done) plan left calls last steps (row ∷ rows) h s =
    inr (
      h.0,
      last ++ h.1,
      length done + steps,
      (row.sid, row.outcome, h.2.has_run, h.2.had_memory),
      gone_to done plan left h.1 last steps rows h.3 s,
      ap (λ (before : List Exchange). last ++ before) h.4 ∙ sym (append_assoc last h.1 h.0),
      omega arith,
    )

-- a worker that has a row for each plan has ended
pub has_worked : (plans : List Plan) (before after : DeskView) (rows : List RowView) → IsWork plans before after rows → HasWorked plans before after
has_worked plans before after rows w =
    record { calls = w.calls; steps = length plans; gone = gone_by plans w.calls rows w.rows_of; works = w.works }

-- so has one for which there was no memory to begin with
pub idle : (plans : List Plan) (now : DeskView) → HasWorked plans now now
idle [] now = record { calls = []; steps = 0; gone = (refl, refl); works = nothing_done now }
idle (plan ∷ plans) now = record { calls = []; steps = 0; gone = inl (inl (refl, refl)); works = nothing_done now }

-- the plans before a plan, that plan and those behind it
pub split_at_plan : (plans : List Plan) (i : ℕ) (plan : Plan)
    → i < length plans → plan ≡ get_or plans i plan → plans ≡ take i plans ++ plan ∷ drop (i + 1) plans
split_at_plan plans i plan within is =
    let more : take (i + 1) plans ≡ take i plans ++ plan ∷ [] = take_more plans i plan within ∙ ap (λ (last : Plan). take i plans ++ last ∷ []) (sym is) in
    sym (take-append-drop (i + 1) plans)
    ∙ (ap (λ (front : List Plan). front ++ drop (i + 1) plans) more ∙ append_assoc (take i plans) (plan ∷ []) (drop (i + 1) plans))

-- so has one that stopped at a plan
pub has_stopped : (plans done left : List Plan) (plan : Plan) (before now after : DeskView) (rows : List RowView)
    → plans ≡ done ++ plan ∷ left → IsWork done before now rows → AddsStop plan now after → HasWorked plans before after
has_stopped plans done left plan before now after rows is w s =
    record {
      calls = s.0 ++ w.calls;
      steps = length done + s.1;
      gone =
          subst (λ (all : List Plan). HaveGone all (s.0 ++ w.calls) (length done + s.1)) (sym is)
          (gone_to done plan left w.calls s.0 s.1 rows w.rows_of s.2);
      works = with_later w.calls s.0 (length done) s.1 before now after w.works s.3;
    }

-- what holds of all holds of those in front
All-front : {X : Type 0} (P : X → Type 0) (xs ys : List X) → All P (xs ++ ys) → All P xs
All-front P [] ys h = All-nil P
All-front P (x ∷ xs) ys h = All-cons P x xs (All-head P x (xs ++ ys) h) (All-front P xs ys (All-tail P x (xs ++ ys) h))

-- and of those behind
All-back : {X : Type 0} (P : X → Type 0) (xs ys : List X) → All P (xs ++ ys) → All P ys
All-back P [] ys h = h
All-back P (x ∷ xs) ys h = All-back P xs ys (All-tail P x (xs ++ ys) h)

-- the plans of the first lists
pub front_plans : (lists first rest : List (Vec Plan Global))
    → lists ≡ first ++ rest → All (λ (list : Vec Plan Global). All IsPlan list.items) lists → All (λ (list : Vec Plan Global). All IsPlan list.items) first
front_plans lists first rest e h = All-front (λ (list : Vec Plan Global). All IsPlan list.items) first rest
    (All-same (λ (list : Vec Plan Global). All IsPlan list.items) (first ++ rest) lists (sym e) h)

-- the plans of the other lists
pub back_plans : (lists first rest : List (Vec Plan Global))
    → lists ≡ first ++ rest → All (λ (list : Vec Plan Global). All IsPlan list.items) lists → All (λ (list : Vec Plan Global). All IsPlan list.items) rest
back_plans lists first rest e h = All-back (λ (list : Vec Plan Global). All IsPlan list.items) first rest
    (All-same (λ (list : Vec Plan Global). All IsPlan list.items) (first ++ rest) lists (sym e) h)

-- the workers of two halves
all_of_both : (plans more : List (List Plan)) (olds olds' news news' : List DeskView) (rows rows' : List (List RowView))
    → AllWork plans olds news rows → AllWork more olds' news' rows' → AllWork (plans ++ more) (olds ++ olds') (news ++ news') (rows ++ rows')
all_of_both [] more [] olds' [] news' [] rows' h k = k
all_of_both (p ∷ plans) more (o ∷ olds) olds' (n ∷ news) news' (r ∷ rows) rows' h k = (h.0, all_of_both plans more olds olds' news news' rows rows' h.1 k)
all_of_both [] more (o ∷ olds) olds' news news' rows rows' h k = absurd h
all_of_both [] more [] olds' (n ∷ news) news' rows rows' h k = absurd h
all_of_both [] more [] olds' [] news' (r ∷ rows) rows' h k = absurd h
all_of_both (p ∷ plans) more [] olds' news news' rows rows' h k = absurd h
all_of_both (p ∷ plans) more (o ∷ olds) olds' [] news' rows rows' h k = absurd h
all_of_both (p ∷ plans) more (o ∷ olds) olds' (n ∷ news) news' [] rows' h k = absurd h

-- the transcripts of two halves are those of all
pub both_worked : {X : Type 0} (view : X → DeskView) (lists first rest : List (Vec Plan Global)) (desks front back desks' front' back' : List X)
    (some others result : Result (Vec (List RowView) Global) Memory) → lists ≡ first ++ rest → desks ≡ front ++ back → desks' ≡ front' ++ back'
    → IfOk result (λ all. AreJoined all.items some others)
    → IfOk some (λ rows. AllWork (map (λ (list : Vec Plan Global). list.items) first) (map view front) (map view front') rows.items)
    → IfOk others (λ rows. AllWork (map (λ (list : Vec Plan Global). list.items) rest) (map view back) (map view back') rows.items)
    → IfOk result (λ rows. AllWork (map (λ (list : Vec Plan Global). list.items) lists) (map view desks) (map view desks') rows.items)
both_worked view lists first rest desks front back desks' front' back' (Ok some) (Ok others) (Ok all) e f e' j s o =
    let h = all_of_both (map (λ (list : Vec Plan Global). list.items) first) (map (λ (list : Vec Plan Global). list.items) rest)
    (map view front) (map view back) (map view front') (map view back') some.items others.items s o in
    let plans : map (λ (list : Vec Plan Global). list.items) lists ≡ map (λ (list : Vec Plan Global). list.items) first
    ++ map (λ (list : Vec Plan Global). list.items) rest =
    ap (map (λ (list : Vec Plan Global). list.items)) e ∙ map-append (λ (list : Vec Plan Global). list.items) first rest in
    let olds : map view desks ≡ map view front ++ map view back = ap (map view) f ∙ map-append view front back in
    let news : map view desks' ≡ map view front' ++ map view back' = ap (map view) e' ∙ map-append view front' back' in
    subst (λ (rows : List (List RowView)). AllWork (map (λ (list : Vec Plan Global). list.items) lists) (map view desks) (map view desks') rows)
    (sym j)
    (subst (λ (ps : List (List Plan)). AllWork ps (map view desks) (map view desks') (some.items ++ others.items)) (sym plans)
    (subst (λ (os : List DeskView). AllWork (map (λ (list : Vec Plan Global). list.items) first
    ++ map (λ (list : Vec Plan Global). list.items) rest) os (map view desks') (some.items ++ others.items)) (sym olds)
    (subst (λ (ns : List DeskView). AllWork (map (λ (list : Vec Plan Global). list.items) first
    ++ map (λ (list : Vec Plan Global). list.items) rest) (map view front ++ map view back) ns (some.items ++ others.items)) (sym news) h)))
both_worked view lists first rest desks front back desks' front' back' some others (Err x) e f e' j s o = tt
both_worked view lists first rest desks front back desks' front' back' (Err y) others (Ok all) e f e' j s o = absurd j
both_worked view lists first rest desks front back desks' front' back' (Ok some) (Err y) (Ok all) e f e' j s o = absurd j

-- a worker alone
pub one_worked : {X : Type 0} (view : X → DeskView) (lists : List (Vec Plan Global)) (desks : List X) (list : Vec Plan Global) (desk desk' : X)
    (rows : List RowView) → length lists ≡ length desks → length desks < 2 → 0 < length desks → list ≡ get_or lists 0 list → desk ≡ get_or desks 0 desk
    → IsWork list.items (view desk) (view desk') rows
    → AllWork (map (λ (list : Vec Plan Global). list.items) lists) (map view desks) (map view (set desks 0 desk')) (rows ∷ [])
one_worked {X} view (one ∷ []) (d ∷ []) list desk desk' rows e few some is is' w = (
  subst (λ (x : X). IsWork one.items (view x) (view desk') rows) is'
      (subst (λ (x : Vec Plan Global). IsWork x.items (view desk) (view desk') rows) is w),
  tt,
)
one_worked view [] (d ∷ desks) list desk desk' rows e few some is is' w = absurd (omega arith)
one_worked view lists [] list desk desk' rows e few some is is' w = absurd (omega arith)
one_worked view (one ∷ lists) (d ∷ (d' ∷ desks)) list desk desk' rows e few some is is' w = absurd (omega arith)
one_worked view (one ∷ (two ∷ lists)) (d ∷ []) list desk desk' rows e few some is is' w = absurd (omega arith)

-- the workers of two halves have ended
all_worked_both : (plans more : List (List Plan)) (olds olds' news news' : List DeskView)
    → AllWorked plans olds news → AllWorked more olds' news' → AllWorked (plans ++ more) (olds ++ olds') (news ++ news')
all_worked_both [] more [] olds' [] news' h k = k
all_worked_both (p ∷ plans) more (o ∷ olds) olds' (n ∷ news) news' h k = (h.0, all_worked_both plans more olds olds' news news' h.1 k)
all_worked_both [] more (o ∷ olds) olds' news news' h k = absurd h
all_worked_both [] more [] olds' (n ∷ news) news' h k = absurd h
all_worked_both (p ∷ plans) more [] olds' news news' h k = absurd h
all_worked_both (p ∷ plans) more (o ∷ olds) olds' [] news' h k = absurd h

-- the workers of the first lists and of the others are all
pub both_ended : {X : Type 0} (view : X → DeskView) (lists first rest : List (Vec Plan Global)) (desks front back desks' front' back' : List X)
    → lists ≡ first ++ rest → desks ≡ front ++ back → desks' ≡ front' ++ back'
    → AllWorked (map (λ (list : Vec Plan Global). list.items) first) (map view front) (map view front')
    → AllWorked (map (λ (list : Vec Plan Global). list.items) rest) (map view back) (map view back')
    → AllWorked (map (λ (list : Vec Plan Global). list.items) lists) (map view desks) (map view desks')
both_ended view lists first rest desks front back desks' front' back' e f e' s o =
    let h = all_worked_both (map (λ (list : Vec Plan Global). list.items) first)
    (map (λ (list : Vec Plan Global). list.items) rest) (map view front) (map view back) (map view front') (map view back') s o in
    let plans : map (λ (list : Vec Plan Global). list.items) lists ≡ map (λ (list : Vec Plan Global). list.items) first
    ++ map (λ (list : Vec Plan Global). list.items) rest =
    ap (map (λ (list : Vec Plan Global). list.items)) e ∙ map-append (λ (list : Vec Plan Global). list.items) first rest in
    let olds : map view desks ≡ map view front ++ map view back = ap (map view) f ∙ map-append view front back in
    let news : map view desks' ≡ map view front' ++ map view back' = ap (map view) e' ∙ map-append view front' back' in
    subst (λ (ps : List (List Plan)). AllWorked ps (map view desks) (map view desks')) (sym plans)
    (subst (λ (os : List DeskView). AllWorked (map (λ (list : Vec Plan Global). list.items) first
    ++ map (λ (list : Vec Plan Global). list.items) rest) os (map view desks')) (sym olds)
    (subst (λ (ns : List DeskView). AllWorked (map (λ (list : Vec Plan Global). list.items) first
    ++ map (λ (list : Vec Plan Global). list.items) rest) (map view front ++ map view back) ns) (sym news) h))

-- a worker alone has ended
pub one_ended : {X : Type 0} (view : X → DeskView) (lists : List (Vec Plan Global)) (desks : List X) (list : Vec Plan Global) (desk desk' : X)
    → length lists ≡ length desks → length desks < 2 → 0 < length desks → list ≡ get_or lists 0 list → desk ≡ get_or desks 0 desk
    → HasWorked list.items (view desk) (view desk')
    → AllWorked (map (λ (list : Vec Plan Global). list.items) lists) (map view desks) (map view (set desks 0 desk'))
one_ended {X} view (one ∷ []) (d ∷ []) list desk desk' e few some is is' w = (
  subst (λ (x : X). HasWorked one.items (view x) (view desk')) is'
      (subst (λ (x : Vec Plan Global). HasWorked x.items (view desk) (view desk')) is w),
  tt,
)
one_ended view [] (d ∷ desks) list desk desk' e few some is is' w = absurd (omega arith)
one_ended view lists [] list desk desk' e few some is is' w = absurd (omega arith)
one_ended view (one ∷ lists) (d ∷ (d' ∷ desks)) list desk desk' e few some is is' w = absurd (omega arith)
one_ended view (one ∷ (two ∷ lists)) (d ∷ []) list desk desk' e few some is is' w = absurd (omega arith)
