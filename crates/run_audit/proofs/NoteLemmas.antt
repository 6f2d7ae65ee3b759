-- What is noted of a log, with one commit more.
use Rattle.std.proofs.Common.{◌≡◌, ℕ, ◌+◌, ◌-◌, ◌<◌, ◌≤◌, ◌||◌, ◌&&◌, ◌==◌, Bool, true, false, cond, List, [], ◌∷◌, ◌++◌, length, take}
use Rattle.std.proofs.Common.{get_or, Option, Some, None, option_map, option_and_then, IfSome, refl, sym, ap, ◌∙◌, arith}
use Rattle.std.specs.BTreeMap.{BTreeMap}
use Rattle.std.specs.Global.{Vec}
use Rattle.std.specs.Option.{unwrap_or}
use Rattle.std.proofs.lemmas.List.{length_push}
use Rattle.std.proofs.lemmas.List.Elements.{All-get_or}
use Rattle.std.proofs.lemmas.Option.{slice_get-get_or}
use Rattle.rows_model.specs.declared.keys.QKey.{QKey}
use Rattle.rows_model.specs.Key.{same_key}
use Rattle.rows_model.specs.Rows.{Tables}
use Rattle.rows_model.specs.Query.{answer}
use Rattle.rows_model.specs.Refresh.{refreshed}
use Rattle.rows_model.specs.Changes.{touches, footprint, has_key}
use Rattle.rows_model.proofs.UntouchedLemmas.{untouched_keeps}
use Rattle.rows_model.proofs.RefreshLawLemmas.{refreshed_is}
use Rattle.rows_model.proofs.SameKey.{same_key-true}
use Rattle.sql_keeper.specs.declared.stores.Commit.{Commit}
use Rattle.sql_keeper.specs.Log.{rows_after, state}
use Rattle.run_audit.specs.declared.answers.Version.{Version}
use Rattle.run_audit.specs.declared.holds.Hold.{Hold}
use Rattle.run_audit.specs.Answers.{noted, pushed, last_value, renewed, InOrder, AreVersions, AreAnswers}
use Rattle.run_audit.specs.Numbers.{number_of, is_on, AreNumbers}
use Rattle.run_audit.specs.Notes.{IsLed}
use Rattle.run_audit.proofs.ListLemmas.{and_comm}
use Rattle.run_audit.proofs.NumberLemmas.{last-push}
use Rattle.run_audit.proofs.VersionLemmas.{value_at-some, versions-push, versions-stay}
use Rattle.run_audit.proofs.StateLemmas.{state-front, state-all, rows-push}
use Rattle.run_audit.proofs.FootLemmas.{foot-exact, has_key-more, none-twice}

-- what a key answers after so many commits
abbrev answer_after : Tables → List Commit → QKey → ℕ → List ℕ
answer_after opening log key n = answer key (state opening log n)

-- the last value is that after all the commits
last-is : (value : ℕ → List ℕ) (count : ℕ) (versions : List Version) → AreVersions value count versions → last_value versions ≡ Some (value count)
last-is value count [] are = let none : None ≡ Some (value count) = are.right count (omega arith) in cc
last-is value count (one ∷ later) are =
    let versions = one ∷ later in
    let last = value_at-some count (length versions - 1) versions one (omega arith)
    (λ k le. All-get_or (λ (v : Version). v.from ≤ count) versions k one (omega arith) are.few) (λ k low high. absurd (omega arith)) in
    ap (option_map (λ (v : Version). v.value)) (slice_get-get_or versions (length versions - 1) one (omega arith)) ∙ sym last ∙ are.right count (omega arith)

-- a value that was refreshed by a transaction that was made is the answer after it
renewed-is : (opening : Tables) (log : List Commit) (commit : Commit) (rows : Tables) (key : QKey) (versions : List Version)
    → IsLed true commit (rows_after opening log) rows → AreVersions (answer_after opening log key) (length log) versions
    → renewed key commit.txn rows versions ≡ answer key rows
renewed-is opening log commit rows key versions is_led are =
    let last : last_value versions ≡ Some (answer key (rows_after opening log)) =
    last-is (answer_after opening log key) (length log) versions are ∙ ap (λ r. Some (answer key r)) (state-all opening log (length log) (omega arith)) in
    let law : refreshed key (answer key (rows_after opening log)) commit.txn ≡ Some (answer key rows) =
    refreshed_is key commit.txn (rows_after opening log) rows is_led.fit is_led.ids (is_led.made refl) in
    ap (λ o. unwrap_or (option_and_then (λ value. refreshed key value commit.txn) o) (answer key rows)) last
    ∙ ap (λ o. unwrap_or o (answer key rows)) law

-- the answers, where each key that the commit touches has one version more
pub answers-more : (opening : Tables) (log : List Commit) (commit : Commit) (rows : Tables) (old new : BTreeMap QKey (Vec Version))
    → IsLed true commit (rows_after opening log) rows → AreAnswers opening log old
    → ((key : QKey)
    → noted key new ≡ cond (has_key key (footprint commit.txn)) (pushed (length log + 1) (renewed key commit.txn rows) (noted key old)) (noted key old))
    → AreAnswers opening (log ++ commit ∷ []) new
answers-more opening log commit rows old new is_led are notes key =
    rw (notes key) (by (has_key key (footprint commit.txn)) (noted key old) (foot-exact commit.txn key) (are key))
  where
    same : (n : ℕ) → n ≤ length log → answer_after opening (log ++ commit ∷ []) key n ≡ answer_after opening log key n
    same n le = ap (answer key) (state-front opening log (commit ∷ []) n le)

    now : answer key rows ≡ answer_after opening (log ++ commit ∷ []) key (length log + 1)
    now = ap (answer key) (is_led.led ∙ sym (rows-push opening log commit)
        ∙ sym (state-all opening (log ++ commit ∷ []) (length log + 1) (omega (arith, length_push log commit))))

    then' : answer key (rows_after opening log) ≡ answer_after opening log key (length log)
    then' = ap (answer key) (sym (state-all opening log (length log) (omega arith)))

    by : (b : Bool) (found : Option (List Version)) → b ≡ touches commit.txn key → IfSome found (AreVersions (answer_after opening log key) (length log))
        → IfSome (cond b (pushed (length log + 1) (renewed key commit.txn rows) found) found)
        (AreVersions (answer_after opening (log ++ commit ∷ []) key) (length (log ++ commit ∷ [])))
    by true None touched were = tt
    by false None touched were = tt
    by true (Some versions) touched were =
        rw (length_push log commit, renewed-is opening log commit rows key versions is_led were, now)
        (versions-push (answer_after opening log key) (answer_after opening (log ++ commit ∷ []) key) (length log) versions same were)
    by false (Some versions) touched were =
        let leaves : answer key rows ≡ answer key (rows_after opening log) =
        untouched_keeps commit.txn key (rows_after opening log) rows is_led.fit (is_led.made refl) (sym touched) in
        rw (length_push log commit) (versions-stay (answer_after opening log key)
        (answer_after opening (log ++ commit ∷ []) key) (length log) versions same (sym now ∙ leaves ∙ then') were)

-- the same answers, where the commit doesn't apply
pub answers-stay : (opening : Tables) (log : List Commit) (commit : Commit) (rows : Tables) (answers : BTreeMap QKey (Vec Version))
    → IsLed false commit (rows_after opening log) rows → AreAnswers opening log answers → AreAnswers opening (log ++ commit ∷ []) answers
answers-stay opening log commit rows answers is_led are key = by (noted key answers) (are key)
  where
    same : (n : ℕ) → n ≤ length log → answer_after opening (log ++ commit ∷ []) key n ≡ answer_after opening log key n
    same n le = ap (answer key) (state-front opening log (commit ∷ []) n le)

    last : answer_after opening (log ++ commit ∷ []) key (length log + 1) ≡ answer_after opening log key (length log)
    last = ap (answer key) (
        state-all opening (log ++ commit ∷ []) (length log + 1) (omega (arith, length_push log commit))
        ∙ rows-push opening log commit ∙ sym is_led.led ∙ is_led.same refl
        ∙ sym (state-all opening log (length log) (omega arith))
        )

    by : (found : Option (List Version)) → IfSome found (AreVersions (answer_after opening log key) (length log))
        → IfSome found (AreVersions (answer_after opening (log ++ commit ∷ []) key) (length (log ++ commit ∷ [])))
    by None were = tt
    by (Some versions) were =
        rw (length_push log commit)
        (versions-stay (answer_after opening log key) (answer_after opening (log ++ commit ∷ []) key) (length log) versions same last were)

-- the numbers, where the session has this commit as its last on each key that it touches
pub numbers-more : (log : List Commit) (commit : Commit) (old new : BTreeMap Hold ℕ) → AreNumbers log old
    → ((hold : Hold)
    → number_of hold new ≡ cond ((commit.sid.number == hold.sid.number) && has_key hold.key (footprint commit.txn)) (length log + 1) (number_of hold old))
    → AreNumbers (log ++ commit ∷ []) new
numbers-more log commit old new are notes hold =
    let touched = foot-exact commit.txn hold.key in
    let test : ((commit.sid.number == hold.sid.number) && has_key hold.key (footprint commit.txn)) ≡ is_on hold commit =
    ap (λ b. (commit.sid.number == hold.sid.number) && b) touched ∙ and_comm (commit.sid.number == hold.sid.number) (touches commit.txn hold.key) in
    notes hold ∙ (λ i. cond (test i) (length log + 1) (are hold i)) ∙ sym (last-push (is_on hold) log commit)

-- the versions of each key, where one key of some in order is noted more
pub versions-more : (value : QKey → List Version → List ℕ) (from : ℕ) (keys : List QKey) (i : ℕ) (d : QKey) (old now new : QKey → Option (List Version))
    → i < length keys → InOrder keys
    → ((key : QKey) → now key ≡ cond (has_key key (take i keys)) (pushed from (value key) (old key)) (old key))
    → ((key : QKey) → new key ≡ cond (same_key key (get_or keys i d)) (pushed from (value key) (now key)) (now key))
    → (key : QKey) → new key ≡ cond (has_key key (take (i + 1) keys)) (pushed from (value key) (old key)) (old key)
versions-more value from keys i d old now new in' order so_far here key =
    rw (here key, has_key-more keys i d key in') (by (same_key key (get_or keys i d)) refl)
  where
    by : (b : Bool) → same_key key (get_or keys i d) ≡ b
        → cond b (pushed from (value key) (now key)) (now key) ≡ cond (b || has_key key (take i keys)) (pushed from (value key) (old key)) (old key)
    by true same =
        let one : key ≡ get_or keys i d = same_key-true key (get_or keys i d) same in
        let none : has_key key (take i keys) ≡ false = ap (λ k. has_key k (take i keys)) one ∙ none-twice keys i d in' order in
        ap (pushed from (value key)) (so_far key ∙ rw none refl)
    by false apart = so_far key
