-- Two runs of one script take the same turns: move by move, the latest first.
use Rattle.std.proofs.Common.{◌≡◌, ℕ, suc, ◌+◌, ◌<◌, ◌==◌, ◌||◌, Bool, true, false, cond, List, [], ◌∷◌, ◌++◌, length, map, count_by}
use Rattle.std.proofs.Common.{Option, Some, None, Result, Ok, refl, sym, ap, subst, ◌∙◌, append-nil, length-append, eq-eqb, arith, rules}
use Rattle.std.specs.List.{list_any}
use Rattle.std.proofs.lemmas.Bool.{false≢true}
use Rattle.std.proofs.lemmas.List.{append_cancel_right}
use Rattle.std.proofs.lemmas.List.Folds.{list_any-append}
use Rattle.rows_model.specs.declared.keys.QKey.{QKey}
use Rattle.rows_model.specs.declared.keys.Sid.{Sid}
use Rattle.rows_model.specs.declared.changes.Change.{Change}
use Rattle.rows_model.specs.Rows.{Tables}
use Rattle.rows_model.specs.Query.{answer}
use Rattle.sql_keeper.specs.declared.faults.CommitFault.{CommitFault}
use Rattle.sql_keeper.specs.Commits.{commit_fault}
use Rattle.sql_keeper.specs.Log.{rows_after}
use Rattle.session_client.specs.Grants.{GrantsView}
use Rattle.session_client.specs.declared.plans.Shape.{Shape}
use Rattle.session_client.specs.declared.plans.Turn.{Turn}
use Rattle.session_client.specs.declared.plans.Turn.TheVariants as turn
use Rattle.session_client.specs.declared.replies.Wanted.{Wanted}
use Rattle.session_client.specs.declared.replies.Wanted.TheVariants as wanted
use Rattle.core_history.specs.Events.{Event, Called, log_of}
use Rattle.core_history.specs.Machine.{World, Move, Begin, Take, Said, Value, Made, Rejected, is_open, log_cap, with_plan, taken, turn_event}
use Rattle.core_history.specs.Machine.{event_of, wanted_of, ask_reply, staged_reply, commit_said, commit_by, world_of}
use Rattle.core_history.specs.Truth.{IsTrueReply, IsTrueEvent, IsTruePast}
use Rattle.core_history.specs.Lines.{tells_fault, is_fault, fault_turns}
use Rattle.core_history.specs.Determined.{cue_of, Turns, Adds, RunsAreDetermined}
use Rattle.core_history.proofs.ListLemmas.{count-cons, tick}

module _ {A : Type 0} where
  heads : (x y : A) (xs ys : List A) → x ∷ xs ≡ y ∷ ys → x ≡ y
  heads x y xs ys e = cc

  tails : (x y : A) (xs ys : List A) → x ∷ xs ≡ y ∷ ys → xs ≡ ys
  tails x y xs ys e = cc

-- two values that are both a key's answer on the same rows
ask_same : (past : List Event) (rows : Tables) (key : QKey) (one two : Said) → IsTrueReply rows (wanted.Ask key) (ask_reply past key one)
    → IsTrueReply rows (wanted.Ask key) (ask_reply past key two) → tells_fault (ask_reply past key one) ≡ tells_fault (ask_reply past key two)
    → ask_reply past key one ≡ ask_reply past key two
ask_same past rows key (Value value) (Value other) one two same = ap (λ v. ask_reply past key (Value v)) (one ∙ sym two)
ask_same past rows key (Value value) other one two same = absurd cc
ask_same past rows key other (Value value) one two same = absurd cc
ask_same past rows key other another one two same = refl

-- the rows after a transaction are one
ok_same : {a b : Tables} {found : Result Tables ℕ} → found ≡ Ok a → found ≡ Ok b → a ≡ b
ok_same e f = cc

-- two values that are both the answer after the transaction, which applies on rows or fails at one change of it
staged_same : (rows : Tables) (key : QKey) (txn : List Change) (one two : Said) → IsTrueReply rows (wanted.Staged key txn) (staged_reply txn one)
    → IsTrueReply rows (wanted.Staged key txn) (staged_reply txn two) → tells_fault (staged_reply txn one) ≡ tells_fault (staged_reply txn two)
    → staged_reply txn one ≡ staged_reply txn two
staged_same rows key txn (Value value) (Value other) one two same =
    ap (λ v. staged_reply txn (Value v)) (one.2 ∙ ap (answer key) (ok_same one.1 two.1) ∙ sym two.2)
staged_same rows key txn (Value value) (Rejected index) (after, one, is) two same = absurd cc
staged_same rows key txn (Value value) other one two same = absurd cc
staged_same rows key txn (Rejected index) (Value value) one (after, two, is) same = absurd cc
staged_same rows key txn (Rejected index) (Rejected other) one two same =
    let is : index ≡ other = cc in ap (λ n. staged_reply txn (Rejected n)) is
staged_same rows key txn (Rejected index) other one two same = absurd cc
staged_same rows key txn other (Value value) one two same = absurd cc
staged_same rows key txn other (Rejected index) one two same = absurd cc
staged_same rows key txn other another one two same = refl

-- a transaction applies on rows or fails at one change of it
said_same : (rows : Tables) (request : Wanted) (count : ℕ) (txn : List Change) (grants : GrantsView) (one two : Said)
    → IsTrueReply rows request (commit_said count txn grants one) → IsTrueReply rows request (commit_said count txn grants two)
    → tells_fault (commit_said count txn grants one) ≡ tells_fault (commit_said count txn grants two)
    → commit_said count txn grants one ≡ commit_said count txn grants two
said_same rows request count txn grants Made Made one two same = refl
said_same rows request count txn grants Made (Rejected index) (after, one) two same = absurd cc
said_same rows request count txn grants Made other one two same = absurd cc
said_same rows request count txn grants (Rejected index) Made one (after, two) same = absurd cc
said_same rows request count txn grants (Rejected index) (Rejected other) one two same =
    let is : index ≡ other = cc in ap (λ n. commit_said count txn grants (Rejected n)) is
said_same rows request count txn grants (Rejected index) other one two same = absurd cc
said_same rows request count txn grants other Made one two same = absurd cc
said_same rows request count txn grants other (Rejected index) one two same = absurd cc
said_same rows request count txn grants other another one two same = refl

by_same : (rows : Tables) (request : Wanted) (count : ℕ) (txn : List Change) (grants : GrantsView) (one two : Said) (fault : Option CommitFault)
    → IsTrueReply rows request (commit_by count txn grants one fault) → IsTrueReply rows request (commit_by count txn grants two fault)
    → tells_fault (commit_by count txn grants one fault) ≡ tells_fault (commit_by count txn grants two fault)
    → commit_by count txn grants one fault ≡ commit_by count txn grants two fault
by_same rows request count txn grants one two (Some fault) true_one true_two same = refl
by_same rows request count txn grants one two None true_one true_two same =
    said_same rows request count txn grants one two true_one true_two same

-- whatever a session wants, only the store's answers tell what the keeper said
event_same : (shape : Shape) (rows : Tables) (world : World) (who : Sid) (one two : Said) (request : Wanted)
    → IsTrueEvent rows (event_of shape world who request one) → IsTrueEvent rows (event_of shape world who request two)
    → is_fault (event_of shape world who request one) ≡ is_fault (event_of shape world who request two)
    → event_of shape world who request one ≡ event_of shape world who request two
event_same shape rows world who one two (wanted.Ask key) true_one true_two same =
    ap (λ reply. Called who (wanted.Ask key) reply) (ask_same world.past rows key one two true_one true_two same)
event_same shape rows world who one two (wanted.Staged key txn) true_one true_two same =
    ap (λ reply. Called who (wanted.Staged key txn) reply) (staged_same rows key txn one two true_one true_two same)
event_same shape rows world who one two (wanted.Commit txn grants) true_one true_two same =
    let count = length (log_of world.past) in
    let fault = commit_fault (is_open world who) who grants.items txn count log_cap in
    ap (λ reply. Called who (wanted.Commit txn grants) reply) (by_same rows (wanted.Commit txn grants) count txn grants one two fault true_one true_two same)
event_same shape rows world who one two other true_one true_two same = refl

-- so it is of each turn: ticks and sweeps are told by the events before
turn_event_same : (shape : Shape) (rows : Tables) (world : World) (turn : Turn) (one two : Said) → IsTrueEvent rows (turn_event shape world turn one)
    → IsTrueEvent rows (turn_event shape world turn two) → is_fault (turn_event shape world turn one) ≡ is_fault (turn_event shape world turn two)
    → turn_event shape world turn one ≡ turn_event shape world turn two
turn_event_same shape rows world (turn.Session who) one two true_one true_two same =
    event_same shape rows world who one two (wanted_of world who) true_one true_two same
turn_event_same shape rows world (turn.Tick by) one two true_one true_two same = refl
turn_event_same shape rows world turn.Sweep one two true_one true_two same = refl

module _ (shape : Shape) (opening : Tables) where
  -- what is so of a turn that was taken
  abbrev turned : World → Turn → Said → Event
  turned world turn said = turn_event shape world turn said

  abbrev IsTrueTurn : World → Turn → Said → Type 0
  IsTrueTurn world turn said = IsTrueEvent (rows_after opening (log_of world.past)) (turned world turn said)

  -- one turn in one world
  turn_same : (world other : World) (turn : Turn) (one two : Said) → world ≡ other → IsTrueTurn world turn one → IsTrueTurn other turn two
      → is_fault (turned world turn one) ≡ is_fault (turned other turn two) → taken shape world turn one ≡ taken shape other turn two
  turn_same world other turn one two is true_one =
      let P : World → Type 0 =
      λ w. IsTrueTurn w turn two → is_fault (turned world turn one) ≡ is_fault (turned w turn two) → taken shape world turn one ≡ taken shape w turn two in
      let event : Event → World = λ e. record { plans = world.plans; past = e ∷ world.past } in
      subst P is (λ true_two same. ap event (turn_event_same shape (rows_after opening (log_of world.past)) world turn one two true_one true_two same))

  worlds_same : (moves others : List Move) → map cue_of moves ≡ map cue_of others → IsTruePast opening (world_of shape moves).past
      → IsTruePast opening (world_of shape others).past → map is_fault (world_of shape moves).past ≡ map is_fault (world_of shape others).past
      → world_of shape moves ≡ world_of shape others
  worlds_same [] [] calls one two faults = refl
  worlds_same [] (move ∷ others) calls one two faults = absurd cc
  worlds_same (move ∷ moves) [] calls one two faults = absurd cc
  worlds_same (Begin plan ∷ moves) (Begin again ∷ others) calls one two faults =
      let head = heads (Adds plan) (Adds again) _ _ calls in
      let rest = worlds_same moves others (tails (Adds plan) (Adds again) _ _ calls) one two faults in
      let same : plan ≡ again = cc in
      ap (λ w. with_plan w plan) rest ∙ ap (λ p. with_plan (world_of shape others) p) same
  worlds_same (Begin plan ∷ moves) (Take turn said ∷ others) calls one two faults =
      absurd (let head = heads (Adds plan) (Turns turn) _ _ calls in cc)
  worlds_same (Take turn said ∷ moves) (Begin plan ∷ others) calls one two faults =
      absurd (let head = heads (Turns turn) (Adds plan) _ _ calls in cc)
  worlds_same (Take turn said ∷ moves) (Take again word ∷ others) calls one two faults =
      let world = world_of shape moves in
      let other = world_of shape others in
      let head = heads (Turns turn) (Turns again) _ _ calls in
      let same : turn ≡ again = cc in
      let rest = worlds_same moves others (tails (Turns turn) (Turns again) _ _ calls) one.1 two.1 (tails _ _ _ _ faults) in
      let P : Turn → Type 0 =
      λ t. IsTrueTurn other t word → is_fault (turned world turn said) ≡ is_fault (turned other t word)
      → taken shape world turn said ≡ taken shape other t word in
      subst P same (turn_same world other turn said word rest one.0) two.0 (heads _ _ _ _ faults)

-- two runs of one script take as many turns
turns_same : (shape : Shape) (moves others : List Move) → map cue_of moves ≡ map cue_of others
    → length (world_of shape moves).past ≡ length (world_of shape others).past
turns_same shape [] [] calls = refl
turns_same shape [] (move ∷ others) calls = absurd cc
turns_same shape (move ∷ moves) [] calls = absurd cc
turns_same shape (Begin plan ∷ moves) (Begin again ∷ others) calls = turns_same shape moves others (tails (Adds plan) (Adds again) _ _ calls)
turns_same shape (Begin plan ∷ moves) (Take turn said ∷ others) calls = absurd (let head = heads (Adds plan) (Turns turn) _ _ calls in cc)
turns_same shape (Take turn said ∷ moves) (Begin plan ∷ others) calls = absurd (let head = heads (Turns turn) (Adds plan) _ _ calls in cc)
turns_same shape (Take turn said ∷ moves) (Take again word ∷ others) calls =
    ap suc (turns_same shape moves others (tails (Turns turn) (Turns again) _ _ calls))

-- the turns that were answered FAULT are among those that were taken
turns_within : (past : List Event) → list_any (λ k. k == length past + 1) (fault_turns past) ≡ false
turns_within past = beyond past (length past + 1) (omega arith)
  where
    beyond : (past : List Event) (number : ℕ) → length past < number → list_any (λ k. k == number) (fault_turns past) ≡ false
    beyond [] number above = refl
    beyond (event ∷ past) number above =
        list_any-append (λ k. k == number) (fault_turns past) (cond (is_fault event) ((length past + 1) ∷ []) [])
        ∙ ap (λ b. b || list_any (λ k. k == number) (cond (is_fault event) ((length past + 1) ∷ []) [])) (beyond past number (omega (arith, above)))
        ∙ last (is_fault event)
      where
        last : (b : Bool) → list_any (λ k. k == number) (cond b ((length past + 1) ∷ []) []) ≡ false
        last true = let apart : (length past + 1 == number) ≡ false = grind (arith, rules) in ap (λ b. b || false) apart
        last false = refl

-- whether a turn was answered FAULT is told by the list
pub marks_same : (one two : List Event) → length one ≡ length two → fault_turns one ≡ fault_turns two → map is_fault one ≡ map is_fault two
marks_same [] [] count same = refl
marks_same [] (event ∷ two) count same = absurd cc
marks_same (event ∷ one) [] count same = absurd cc
marks_same (event ∷ one) (other ∷ two) count same =
    let shorter : length one ≡ length two = omega (arith, count) in
    let both =
    by (is_fault event) (is_fault other) (length one) (length two) (fault_turns one) (fault_turns two) shorter (turns_within one) (turns_within two) same in
    ap (λ b. b ∷ map is_fault one) both.1 ∙ ap (λ l. is_fault other ∷ l) (marks_same one two shorter both.0)
  where
    last_of : (n : ℕ) (xs : List ℕ) → list_any (λ k. k == n + 1) (xs ++ (n + 1) ∷ []) ≡ true
    last_of n xs =
        list_any-append (λ k. k == n + 1) xs ((n + 1) ∷ []) ∙ ap (λ b. list_any (λ k. k == n + 1) xs || (b || false)) (eq-eqb (n + 1) (n + 1) refl)
        ∙ or_true (list_any (λ k. k == n + 1) xs)
      where
        or_true : (b : Bool) → (b || (true || false)) ≡ true
        or_true true = refl
        or_true false = refl

    by : (b c : Bool) (n m : ℕ) (xs ys : List ℕ) → n ≡ m → list_any (λ k. k == n + 1) xs ≡ false → list_any (λ k. k == m + 1) ys ≡ false
        → xs ++ cond b ((n + 1) ∷ []) [] ≡ ys ++ cond c ((m + 1) ∷ []) [] → (xs ≡ ys) × (b ≡ c)
    by true true n m xs ys e low high same = (append_cancel_right xs ys ((n + 1) ∷ []) (same ∙ ap (λ k. ys ++ (k + 1) ∷ []) (sym e)), refl)
    by false false n m xs ys e low high same = (append_cancel_right xs ys [] same, refl)
    by true false n m xs ys e low high same =
        absurd (false≢true (sym high ∙ ap (λ l. list_any (λ k. k == m + 1) l) (sym (append-nil ys) ∙ sym same)
        ∙ ap (λ k. list_any (λ j. j == k + 1) (xs ++ (n + 1) ∷ [])) (sym e) ∙ last_of n xs))
    by false true n m xs ys e low high same =
        absurd (false≢true (sym low ∙ ap (λ l. list_any (λ k. k == n + 1) l) (sym (append-nil xs) ∙ same)
        ∙ ap (λ k. list_any (λ j. j == k + 1) (ys ++ (m + 1) ∷ [])) e ∙ last_of m ys))

-- as many turns were answered FAULT as there are FAULT lines
pub turns_count : (past : List Event) → length (fault_turns past) ≡ count_by is_fault past
turns_count [] = refl
turns_count (event ∷ past) =
    length-append (fault_turns past) (cond (is_fault event) ((length past + 1) ∷ []) []) ∙ by (is_fault event) (turns_count past)
    ∙ sym (count-cons is_fault event past)
  where
    by : (b : Bool) → length (fault_turns past) ≡ count_by is_fault past
        → length (fault_turns past) + length (cond b ((length past + 1) ∷ []) []) ≡ tick b + count_by is_fault past
    by true e = omega (arith, e)
    by false e = omega (arith, e)

pub runs_determined : RunsAreDetermined
runs_determined shape opening moves others calls one two turns =
    ap (λ w. w.past) (worlds_same shape opening moves others calls one two
    (marks_same (world_of shape moves).past (world_of shape others).past (turns_same shape moves others calls) turns))
