-- Sessions that aren't open stay so, and commits that are admitted are covered.
use Rattle.std.proofs.Common.{◌≡◌, ℕ, ◌≤◌, ◌-◌, ◌==◌, ◌||◌, Bool, true, false, if◌then◌else◌, List, [], ◌∷◌, length, Option, Some, None}
use Rattle.std.proofs.Common.{refl, sym, ap, ◌∙◌, arith, subst}
use Rattle.std.specs.Prelude.{Result, Ok, Err, IfErr, OnOk, OnErr, not, find}
use Rattle.std.proofs.lemmas.Bool.{false≢true, and_parts, and_from, eqb-true, eq-eqb}
use Rattle.std.proofs.lemmas.List.{length_push, length-set}
use Rattle.rows_model.specs.declared.keys.QKey.{QKey}
use Rattle.rows_model.specs.declared.keys.Sid.{Sid}
use Rattle.rows_model.specs.declared.changes.Change.{Change}
use Rattle.rows_model.specs.declared.refusals.Memory.{Memory}
use Rattle.rows_model.specs.Key.{same_key, kind_number}
use Rattle.rows_model.specs.Changes.{has_key, footprint}
use Rattle.rows_model.specs.Footprint.{FootprintsAreExact}
use Rattle.key_shard.specs.Permit.{Permit}
use Rattle.sql_keeper.specs.declared.faults.CommitFault.{CommitFault}
use Rattle.sql_keeper.specs.declared.faults.CommitFault.TheVariants as faults
use Rattle.sql_keeper.specs.declared.stores.Phase.TheVariants.{Committed, Ended}
use Rattle.sql_keeper.specs.Commits.{covers, is_covered, uncovered, covered_fault, commit_fault}
use Rattle.sql_keeper.specs.Sessions.{is_open, first_phase, with_phase}
use Rattle.sql_keeper.specs.Stores.{Ledger, IsRefusal, with_call, with_end, with_session}
use Rattle.sql_keeper.specs.Faults.{is_failure}
use Rattle.sql_keeper.specs.Moves.{Move, Begin, End, Commit, Call, moved, ClosedStaysClosed}
use Rattle.callers.specs.Stores.{NeverOpensAgain, AreCovered}

length-ended : (b : Bool) (who : Sid) (ledger : Ledger)
    → length (if b then with_phase who Ended ledger.sessions else ledger.sessions) ≡ length ledger.sessions
length-ended true who ledger = length-set ledger.sessions _ Ended
length-ended false who ledger = refl

-- as many sessions have begun after a call as before, or more
more-begun : (move : Move) (ledger : Ledger) → length ledger.sessions ≤ length (moved move ledger).sessions
more-begun (Begin writes) ledger =
    let longer = length_push ledger.sessions (first_phase writes) in omega (arith, longer)
more-begun (End who) ledger =
    let same = length-ended (is_open who ledger.sessions) who ledger in omega (arith, same)
more-begun (Commit who txn) ledger =
    let same = length-set ledger.sessions (who.number - 1) Committed in omega (arith, same)
more-begun (Call true) ledger = omega arith
more-begun (Call false) ledger = omega arith

pub never-opens-again : ClosedStaysClosed → NeverOpensAgain
never-opens-again law ledger [] who few h = h
never-opens-again law ledger (move ∷ moves) who few h =
    let more = more-begun move ledger in
    never-opens-again law (moved move ledger) moves who (omega (arith, few, more)) (law ledger move who few h)

-- a commit of a session that isn't open is refused as one that has ended
ended-fault : (fault : CommitFault) → IsRefusal (Some faults.Ended) fault → fault ≡ faults.Ended
ended-fault faults.Memory h = absurd (h refl)
ended-fault faults.Ended h = h
ended-fault (faults.Uncovered key) h = h
ended-fault (faults.LogFull count) h = h
ended-fault (faults.Rejected index) h = h
ended-fault faults.KeepFault h = h

pub closed-fault : (is_it : Bool) (who : Sid) (grants : List Permit) (txn : List Change) (count cap : ℕ) (fault : CommitFault)
    → is_it ≡ false → IsRefusal (commit_fault is_it who grants txn count cap) fault → fault ≡ faults.Ended
closed-fault true who grants txn count cap fault closed h = absurd (false≢true (sym closed))
closed-fault false who grants txn count cap fault closed h = ended-fault fault h

-- a call that commits nothing leaves the log
pub log-called : (failed : Bool) (ledger : Ledger) → (with_call failed ledger).log ≡ ledger.log
log-called true ledger = refl
log-called false ledger = refl

same-across : (a b c : QKey) → same_key a b ≡ true → same_key b c ≡ true → same_key a c ≡ true
same-across a b c ab bc =
    let one = and_parts (kind_number a.kind == kind_number b.kind) (a.id == b.id) ab in
    let two = and_parts (kind_number b.kind == kind_number c.kind) (b.id == c.id) bc in
    and_from _ _ (eq-eqb _ _ (eqb-true _ _ one.0 ∙ eqb-true _ _ two.0)) (eq-eqb _ _ (eqb-true _ _ one.1 ∙ eqb-true _ _ two.1))

either-way : (a b : Bool) → b ≡ true → (a || b) ≡ true
either-way true b h = refl
either-way false b h = h

-- what covers a key covers a key that is the same
covered-same : (who : Sid) (grants : List Permit) (key other : QKey)
    → same_key key other ≡ true → is_covered who grants other ≡ true → is_covered who grants key ≡ true
covered-same who [] key other same h = h
covered-same who (grant ∷ grants) key other same h =
    by (covers who other grant) refl (covered-same who grants key other same)
  where
    by : (b : Bool) → covers who other grant ≡ b → (is_covered who grants other ≡ true → is_covered who grants key ≡ true)
        → is_covered who (grant ∷ grants) key ≡ true
    by true e rest =
        let parts = and_parts (same_key other grant.key) (grant.sid.number == who.number) e in
        let here : covers who key grant ≡ true = and_from _ _ (same-across key other grant.key same parts.0) parts.1 in
        ap (λ (b : Bool). b || is_covered who grants key) here
    by false e rest =
        let there : is_covered who grants other ≡ true = sym (ap (λ (b : Bool). b || is_covered who grants other) e) ∙ h in
        either-way (covers who key grant) (is_covered who grants key) (rest there)

left-out : (b : Bool) (k : QKey) (found : Option QKey) → (if not b then Some k else found) ≡ None → (b ≡ true) × (found ≡ None)
left-out true k found h = (refl, h)
left-out false k found h = absurd cc

-- where no key is left uncovered each is covered
covered-each : (who : Sid) (grants : List Permit) (keys : List QKey) (key : QKey)
    → find (λ k. not (is_covered who grants k)) keys ≡ None → has_key key keys ≡ true → is_covered who grants key ≡ true
covered-each who grants [] key none has = absurd (false≢true has)
covered-each who grants (k ∷ keys) key none has =
    let parts = left-out (is_covered who grants k) k (find (λ k. not (is_covered who grants k)) keys) none in
    by (same_key key k) refl parts.0 (covered-each who grants keys key parts.1)
  where
    by : (b : Bool) → same_key key k ≡ b → is_covered who grants k ≡ true
        → (has_key key keys ≡ true → is_covered who grants key ≡ true) → is_covered who grants key ≡ true
    by true e here rest = covered-same who grants key k e here
    by false e here rest = rest (sym (ap (λ (b : Bool). b || has_key key keys) e) ∙ has)

admitted-covered : (found : Option QKey) (count cap : ℕ) → covered_fault found count cap ≡ None → found ≡ None
admitted-covered None count cap h = refl
admitted-covered (Some key) count cap h = absurd cc

-- a commit that isn't refused before the keeper is asked is of an open session, and covered
pub are-covered : FootprintsAreExact → (is_it : Bool) (who : Sid) (grants : List Permit) (txn : List Change) (count cap : ℕ)
    → commit_fault is_it who grants txn count cap ≡ None → AreCovered who grants txn
are-covered exact false who grants txn count cap h key touched = absurd cc
are-covered exact true who grants txn count cap h key touched =
    covered-each who grants (footprint txn) key (admitted-covered (uncovered who grants txn) count cap h) ((exact txn).exact key ∙ touched)

-- a session that was ended isn't open after another has begun, or none for want of memory
pub closed-later : ClosedStaysClosed → (old over next : Ledger) (who : Sid) (begun : Result Sid Memory) → who.number ≤ length old.sessions
    → over ≡ with_end who old → is_open who over.sessions ≡ false → OnOk begun (next ≡ with_session true over) → OnErr begun (next ≡ over)
    → is_open who next.sessions ≡ false
closed-later law old over next who (Ok sid) few over_is closed ok err =
    let more = more-begun (End who) old in
    let as_many : length old.sessions ≤ length over.sessions = subst (λ (l : Ledger). length old.sessions ≤ length l.sessions) (sym over_is) more in
    ap (λ (l : Ledger). is_open who l.sessions) ok ∙ law over (Begin true) who (omega (arith, few, as_many)) closed
closed-later law old over next who (Err memory) few over_is closed ok err =
    ap (λ (l : Ledger). is_open who l.sessions) err ∙ closed

-- the log is as before when a session was ended, another began, and the commit of the first was refused
pub log-kept : (old over next last : Ledger) (who : Sid) (grants : List Permit)
    (txn : List Change) (begun : Result Sid Memory) (made : Result ℕ (CommitFault × List Change))
    → over ≡ with_end who old → OnOk begun (next ≡ with_session true over) → OnErr begun (next ≡ over) → is_open who next.sessions ≡ false
    → OnOk made (commit_fault (is_open who next.sessions) who grants txn (length next.log) next.cap ≡ None)
    → IfErr made (λ back. last ≡ with_call (is_failure back.0) next)
    → last.log ≡ old.log
log-kept old over next last who grants txn begun (Ok number) over_is ok err closed admitted h =
    absurd (not-admitted (is_open who next.sessions) who grants txn (length next.log) next.cap closed admitted)
  where
    not-admitted : (b : Bool) (who : Sid) (grants : List Permit) (txn : List Change) (count cap : ℕ)
        → b ≡ false → commit_fault b who grants txn count cap ≡ None → ⊥
    not-admitted true who grants txn count cap e h = false≢true (sym e)
    not-admitted false who grants txn count cap e h = absurd cc
log-kept old over next last who grants txn begun (Err back) over_is ok err closed admitted h =
    ap (λ (l : Ledger). l.log) h ∙ log-called (is_failure back.0) next ∙ log-begun begun ok err ∙ ap (λ (l : Ledger). l.log) over_is
  where
    log-begun : (begun : Result Sid Memory) → OnOk begun (next ≡ with_session true over) → OnErr begun (next ≡ over) → next.log ≡ over.log
    log-begun (Ok sid) ok err = ap (λ (l : Ledger). l.log) ok
    log-begun (Err memory) ok err = ap (λ (l : Ledger). l.log) err
