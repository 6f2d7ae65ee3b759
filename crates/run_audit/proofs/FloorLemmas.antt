-- The floors of keys, after one step more, and what makes a hit fresh.
use Rattle.std.proofs.Common.{◌≡◌, ℕ, ◌<◌, ◌≤◌, ◌||◌, ◌&&◌, ◌==◌, ◌↔◌, max, Bool, true, false, cond, List, [], ◌∷◌, length, slice_get}
use Rattle.std.proofs.Common.{Option, Some, None, is_some, IfSome, IsTrue, refl, sym, ap, ◌∙◌, arith}
use Rattle.std.specs.List.{list_any}
use Rattle.std.specs.Option.{unwrap_or}
use Rattle.std.specs.BTreeMap.{BTreeMap, get, is_at}
use Rattle.std.proofs.lemmas.Bool.Decides.{nat_tests}
use Rattle.rows_model.specs.declared.keys.QKey.{QKey}
use Rattle.rows_model.specs.declared.keys.Sid.{Sid}
use Rattle.rows_model.specs.Key.{same_key}
use Rattle.rows_model.specs.Rows.{Tables}
use Rattle.rows_model.specs.Query.{answer}
use Rattle.rows_model.specs.Changes.{touches}
use Rattle.rows_model.proofs.SameKey.{same_key-true, same_key-swap}
use Rattle.lease_table.specs.Standing.{key_cmp}
use Rattle.lease_table.proofs.KeyLemmas.{is_at-key}
use Rattle.key_shard.specs.declared.steps.Ended.{Ended}
use Rattle.key_shard.specs.declared.steps.Step.{Step}
use Rattle.key_shard.specs.declared.steps.Step.TheVariants as step
use Rattle.sql_keeper.specs.declared.stores.Commit.{Commit}
use Rattle.sql_keeper.specs.Log.{state}
use Rattle.sql_keeper.specs.Fresh.{releases, IsFreshHit}
use Rattle.run_audit.specs.declared.holds.Hold.{Hold}
use Rattle.run_audit.specs.declared.answers.Version.{Version}
use Rattle.run_audit.specs.declared.notes.Notes.{Notes}
use Rattle.run_audit.specs.Answers.{noted, value_at, InTurn, AreVersions}
use Rattle.run_audit.specs.Numbers.{last_number, is_on, is_released, number_of, AreNumbers, floor_of, released_number, AreFloors}
use Rattle.run_audit.specs.Notes.{AreNotes}
use Rattle.run_audit.proofs.ListLemmas.{and_none, and_or, and_elim}
use Rattle.run_audit.proofs.NumberLemmas.{last-none, last-agree, last-or, last-above, last-below}

-- ---- the floor of a key whose quarantine ends

-- where the session's last commit on the key is above its floor, it is noted
pub floor-raised : (floors new : BTreeMap QKey ℕ) (numbers : BTreeMap Hold ℕ) (on : QKey) (sid : Sid) (token : ℕ) (how : Ended) (number : ℕ)
    → ((other : QKey) → get key_cmp new other ≡ cond (is_at (key_cmp on) other) (Some number) (get key_cmp floors other))
    → number ≡ number_of (record { sid = sid; key = on }) numbers → floor_of on floors < number
    → (key : QKey) → floor_of key new ≡ max (floor_of key floors) (released_number numbers key (step.Released on sid token how))
floor-raised floors new numbers on sid token how number put number_is above key = by (same_key key on) refl
  where
    at : is_at (key_cmp on) key ≡ same_key key on
    at = is_at-key on key ∙ same_key-swap on key

    by : (b : Bool) → same_key key on ≡ b → floor_of key new ≡ max (floor_of key floors) (released_number numbers key (step.Released on sid token how))
    by true same =
        let one : key ≡ on = same_key-true key on same in
        let got : get key_cmp new key ≡ Some number = put key ∙ rw (at, same) refl in
        let noted : floor_of key new ≡ number = ap (λ o. unwrap_or o 0) got in
        let found : released_number numbers key (step.Released on sid token how) ≡ number =
        rw same (ap (λ k. number_of (record { sid = sid; key = k }) numbers) one ∙ sym number_is) in
        let old : floor_of key floors ≡ floor_of on floors = ap (λ k. floor_of k floors) one in
        omega (arith, noted, found, old)
    by false apart =
        let got : get key_cmp new key ≡ get key_cmp floors key = put key ∙ rw (at, apart) refl in
        let noted : floor_of key new ≡ floor_of key floors = ap (λ o. unwrap_or o 0) got in
        let none : released_number numbers key (step.Released on sid token how) ≡ 0 = rw apart refl in
        omega (arith, noted, none)

-- where it isn't, the floor stays
pub floor-stays : (floors : BTreeMap QKey ℕ) (numbers : BTreeMap Hold ℕ) (on : QKey) (sid : Sid) (token : ℕ) (how : Ended)
    → number_of (record { sid = sid; key = on }) numbers ≤ floor_of on floors
    → (key : QKey) → floor_of key floors ≡ max (floor_of key floors) (released_number numbers key (step.Released on sid token how))
floor-stays floors numbers on sid token how below key = by (same_key key on) refl
  where
    by : (b : Bool) → same_key key on ≡ b → floor_of key floors ≡ max (floor_of key floors) (released_number numbers key (step.Released on sid token how))
    by true same =
        let one : key ≡ on = same_key-true key on same in
        let found : released_number numbers key (step.Released on sid token how) ≡ number_of (record { sid = sid; key = on }) numbers =
        rw same (ap (λ k. number_of (record { sid = sid; key = k }) numbers) one) in
        let old : floor_of key floors ≡ floor_of on floors = ap (λ k. floor_of k floors) one in
        omega (arith, found, old)
    by false apart =
        let none : released_number numbers key (step.Released on sid token how) ≡ 0 = rw apart refl in
        omega (arith, none)

-- ---- floors follow the steps

-- before any step there is none
pub floors-none : (log : List Commit) (floors : BTreeMap QKey ℕ) → ((key : QKey) → floor_of key floors ≡ 0) → AreFloors log [] floors
floors-none log floors none key = none key ∙ sym (last-none (is_released key []) log (λ commit. and_none (touches commit.txn key)))

-- the commits on a key whose quarantine there this step ends
abbrev is_ended : QKey → Step → Commit → Bool
is_ended key made commit = touches commit.txn key && releases key commit.sid made

eqb-swap : (m n : ℕ) → (m == n) ≡ (n == m)
eqb-swap m n = grind (arith, nat_tests)

none-ended : (log : List Commit) (key : QKey) (made : Step) → ((who : Sid) → releases key who made ≡ false) → 0 ≡ last_number (is_ended key made) log
none-ended log key made none =
    sym (last-none (is_ended key made) log (λ commit. ap (λ b. touches commit.txn key && b) (none commit.sid) ∙ and_none (touches commit.txn key)))

ended-number : (log : List Commit) (numbers : BTreeMap Hold ℕ) (key : QKey)
    → AreNumbers log numbers → (made : Step) → released_number numbers key made ≡ last_number (is_ended key made) log
ended-number log numbers key are (step.Released on sid token how) = by (same_key key on) refl
  where
    by : (b : Bool) → same_key key on ≡ b
        → released_number numbers key (step.Released on sid token how) ≡ last_number (is_ended key (step.Released on sid token how)) log
    by true same =
        let found : released_number numbers key (step.Released on sid token how) ≡ number_of (record { sid = sid; key = key }) numbers = rw same refl in
        found ∙ are (record { sid = sid; key = key })
        ∙ last-agree (is_on (record { sid = sid; key = key })) (is_ended key (step.Released on sid token how)) log
        (λ commit. ap (λ b. touches commit.txn key && b) (eqb-swap commit.sid.number sid.number ∙ rw same refl))
    by false apart =
        let none : released_number numbers key (step.Released on sid token how) ≡ 0 = rw apart refl in
        none ∙ none-ended log key (step.Released on sid token how) (λ who. rw apart refl)
ended-number log numbers key are (step.Hit on sid floor value stamp) = none-ended log key (step.Hit on sid floor value stamp) (λ who. refl)
ended-number log numbers key are (step.Lease on sid floor now token deadline) = none-ended log key (step.Lease on sid floor now token deadline) (λ who. refl)
ended-number log numbers key are (step.Again on sid floor now stands) = none-ended log key (step.Again on sid floor now stands) (λ who. refl)
ended-number log numbers key are (step.Own on sid) = none-ended log key (step.Own on sid) (λ who. refl)
ended-number log numbers key are (step.Stored on token now value stamp evicted) =
    none-ended log key (step.Stored on token now value stamp evicted) (λ who. refl)
ended-number log numbers key are (step.Void on token now) = none-ended log key (step.Void on token now) (λ who. refl)
ended-number log numbers key are (step.Granted on sid mode shift now token deadline) =
    none-ended log key (step.Granted on sid mode shift now token deadline) (λ who. refl)
ended-number log numbers key are (step.Held on sid mode) = none-ended log key (step.Held on sid mode) (λ who. refl)
ended-number log numbers key are (step.Refused on sid mode holder held) = none-ended log key (step.Refused on sid mode holder held) (λ who. refl)
ended-number log numbers key are (step.Gone on sid token) = none-ended log key (step.Gone on sid token) (λ who. refl)
ended-number log numbers key are (step.Raised on sid token) = none-ended log key (step.Raised on sid token) (λ who. refl)
ended-number log numbers key are (step.Shared on sid token holder) = none-ended log key (step.Shared on sid token holder) (λ who. refl)
ended-number log numbers key are (step.Renewed on sid token now deadline) = none-ended log key (step.Renewed on sid token now deadline) (λ who. refl)

-- one step more
pub floors-more : (log : List Commit) (past : List Step) (made : Step) (numbers : BTreeMap Hold ℕ) (old new : BTreeMap QKey ℕ)
    → AreNumbers log numbers → AreFloors log past old
    → ((key : QKey) → floor_of key new ≡ max (floor_of key old) (released_number numbers key made)) → AreFloors log (made ∷ past) new
floors-more log past made numbers old new are were raised key =
    let both = last-agree (is_released key (made ∷ past)) (λ commit. is_ended key made commit || is_released key past commit) log
    (λ commit. and_or (touches commit.txn key) (releases key commit.sid made) (list_any (releases key commit.sid) past)) in
    let greater = last-or (is_ended key made) (is_released key past) log in
    let here = ended-number log numbers key are made in
    let before = were key in
    let now = raised key in
    omega (arith, both, greater, here, before, now)

-- ---- hits

-- a hit within the log and not below the floor is fresh exactly where it has the key's value
pub hit-fresh : (opening : Tables) (log : List Commit) (past : List Step)
    (notes : Notes) (floors : BTreeMap QKey ℕ) (key : QKey) (value : List ℕ) (stamp : ℕ) (says : Bool)
    → AreNotes opening log notes → AreFloors log past floors → IsTrue (is_some (noted key notes.answers))
    → stamp ≤ notes.count → floor_of key floors ≤ stamp
    → IfSome (noted key notes.answers) (λ versions. InTurn versions → IsTrue says ↔ value_at stamp versions ≡ Some value)
    → IsTrue says ↔ IsFreshHit opening log past key value stamp
hit-fresh opening log past notes floors key value stamp says are floor_is known within above is_so =
    by (noted key notes.answers) known (are.answers key) is_so
  where
    in_log : stamp ≤ length log
    in_log = let count = are.count in omega (arith, count)

    current : (place : ℕ) (commit : Commit) → slice_get log place ≡ Some commit
        → touches commit.txn key ≡ true → list_any (releases key commit.sid) past ≡ true → place < stamp
    current place commit there touched ended =
        let passes : is_released key past commit ≡ true = rw (touched, ended) refl in
        let below = last-above (is_released key past) log place commit there passes in
        let floor = floor_is key in
        omega (arith, below, floor)

    by : (found : Option (List Version)) → IsTrue (is_some found) → IfSome found (AreVersions (λ n. answer key (state opening log n)) (length log))
        → IfSome found (λ versions. InTurn versions → IsTrue says ↔ value_at stamp versions ≡ Some value)
        → IsTrue says ↔ IsFreshHit opening log past key value stamp
    by None some were so = cc
    by (Some versions) some were so =
        let right = were.right stamp in_log in
        let both = so were.in_turn in (
          λ yes. (let there = both.0 yes in let same : Some value ≡ Some (answer key (state opening log stamp)) = sym there ∙ right in
              record { known = in_log; right = cc; current = current }),
          λ fresh. both.1 (right ∙ ap (λ v. Some v) (sym fresh.right)),
        )

-- a hit past the log or below the floor isn't
pub hit-within : (opening : Tables) (log : List Commit) (past : List Step) (notes : Notes) (floors : BTreeMap QKey ℕ) (key : QKey) (value : List ℕ) (stamp : ℕ)
    → AreNotes opening log notes → AreFloors log past floors → IsFreshHit opening log past key value stamp
    → (stamp ≤ notes.count) × (floor_of key floors ≤ stamp)
hit-within opening log past notes floors key value stamp are floor_is fresh =
    let count = are.count in
    let known = fresh.known in
    let below = last-below (is_released key past) log stamp (λ place commit there passes.
    (let parts = and_elim (touches commit.txn key) (list_any (releases key commit.sid) past) passes in fresh.current place commit there parts.0 parts.1)) in
    let floor = floor_is key in
    (omega (arith, count, known), omega (arith, below, floor))
