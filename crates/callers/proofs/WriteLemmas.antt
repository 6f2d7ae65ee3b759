-- A get behind a writer's release hits what that left.
use Rattle.std.proofs.Common.{◌≡◌, ℕ, ◌≤◌, ◌⊎◌, ◌||◌, Bool, true, false, inl, inr, List, [], ◌∷◌, ◌++◌, reverse, Option, Some, None, IsSome}
use Rattle.std.proofs.Common.{option_map, refl, sym, ap, subst, ◌∙◌}
use Rattle.std.specs.Prelude.{ℤ, nat_le, not, ◌&&◌, if◌then◌else◌, is_some, All, IfSome}
use Rattle.std.specs.List.{AllByRecursion}
use Rattle.std.proofs.lemmas.Bool.{le-leb}
use Rattle.std.proofs.lemmas.List.Elements.{All-head, All-tail}
use Rattle.std.proofs.lemmas.List.Sorted.{All-permutation, IsPermutation-reverse}
use Rattle.rows_model.specs.declared.keys.QKey.{QKey}
use Rattle.rows_model.specs.declared.keys.Sid.{Sid}
use Rattle.rows_model.specs.Key.{same_key}
use Rattle.rows_model.specs.Rows.{Tables}
use Rattle.rows_model.proofs.SameKey.{same_key-refl}
use Rattle.case_tables.specs.Compatibility.{Way, verdict, read, quarantine, is_any}
use Rattle.case_tables.specs.declared.grids.Verdict.{Verdict}
use Rattle.case_tables.specs.declared.grids.Verdict.TheVariants as verdicts
use Rattle.lease_table.specs.declared.records.Mode.{Mode}
use Rattle.lease_table.specs.declared.records.Quar.{Quar}
use Rattle.lease_table.specs.Leases.{way_of, is_current, is_unexpired, first, others_in, raise_in}
use Rattle.key_shard.specs.declared.replies.How.{How}
use Rattle.key_shard.specs.declared.steps.Ended as ends
use Rattle.key_shard.specs.declared.steps.Ended.TheVariants.{Keep, Drop, Put, Shift}
use Rattle.key_shard.specs.declared.steps.Step.{Step}
use Rattle.key_shard.specs.declared.steps.Step.TheVariants as step
use Rattle.key_shard.specs.Permit.{Permit}
use Rattle.key_shard.specs.Past.{Terms, own_of, seen_by, holder_of, quar_of, standing, recorded, entry, entry_ended, evicted_by, evicts, is_evicted}
use Rattle.key_shard.specs.Answers.{Request, Get, Set, Quarantine, Release, Replace, Raise, Renew, IsLegalPast, found_step, get_by, get_step, miss_by}
use Rattle.key_shard.specs.Answers.{miss_step, quarantine_by, refused_step, release_by, replace_by, raise_by, renew_by, step_of}
use Rattle.sql_keeper.specs.declared.stores.Commit.{Commit}
use Rattle.sql_keeper.specs.Fresh.{Fresh, IsFreshPast, IsFreshStep}
use Rattle.session_client.specs.declared.plans.Shape.{Shape}
use Rattle.core_history.specs.Freshness.{IsCommitOf, IsNumbered}
use Rattle.core_history.specs.Machine.{Move, terms_of}
use Rattle.top_run.specs.declared.runs.Status.{Status}
use Rattle.top_run.specs.Runs.{Held, Tells, Left, Keeps, IsNotStarted, Ended}
use Rattle.callers.specs.Writes.{LeavesValue, is_keep, leaves_entry, IsGetOf, HitsAfterWrites}
use Rattle.callers.proofs.RunLemmas.{Began, began-or-not, some-at, at-place, reverse-middle, turned, fresh-later}

-- ---- an entry that each of some steps leaves is the one before them

kept : {X : Type 0} (on off : Bool) (x y z : X) → (not on && not off) ≡ true → (if on then x else (if off then y else z)) ≡ z
kept true off x y z h = absurd cc
kept false true x y z h = absurd cc
kept false false x y z h = refl

unmissed : {X : Type 0} (on : Bool) (x z : X) → not on ≡ true → (if on then x else z) ≡ z
unmissed true x z h = absurd cc
unmissed false x z h = refl

kept-released : (on off : Bool) (how : ends.Ended) (found : Option (List ℕ × ℕ)) → (if on then is_keep how else not off) ≡ true
    → (if on then entry_ended how found else (if off then None else found)) ≡ found
kept-released true off Keep found h = refl
kept-released true off Drop found h = absurd cc
kept-released true off (Put value stamp evicted) found h = absurd cc
kept-released true off (Shift by stamp) found h = absurd cc
kept-released false true how found h = absurd cc
kept-released false false how found h = refl

left-step : (key : QKey) (s : Step) (past : List Step) → leaves_entry key s ≡ true → entry key (s ∷ past) ≡ entry key past
left-step key (step.Hit on sid floor value stamp) past h = refl
left-step key (step.Lease on sid floor now token deadline) past h = unmissed (same_key key on) None (entry key past) h
left-step key (step.Again on sid floor now standing) past h = unmissed (same_key key on) None (entry key past) h
left-step key (step.Own on sid) past h = refl
left-step key (step.Stored on token now value stamp evicted) past h =
    kept (same_key key on) (is_evicted key evicted) (Some (value, stamp)) None (entry key past) h
left-step key (step.Void on token now) past h = refl
left-step key (step.Granted on sid mode shift now token deadline) past h = refl
left-step key (step.Held on sid mode) past h = refl
left-step key (step.Refused on sid mode holder held) past h = refl
left-step key (step.Released on sid token how) past h =
    kept-released (same_key key on) (is_evicted key (evicted_by how)) how (entry key past) h
left-step key (step.Gone on sid token) past h = refl
left-step key (step.Raised on sid token) past h = refl
left-step key (step.Shared on sid token holder) past h = refl
left-step key (step.Renewed on sid token now deadline) past h = refl

left-steps : (key : QKey) (steps past : List Step) → All (λ s. leaves_entry key s ≡ true) steps → entry key (steps ++ past) ≡ entry key past
left-steps key [] past h = refl
left-steps key (s ∷ steps) past h =
    left-step key s (steps ++ past) (All-head (λ s. leaves_entry key s ≡ true) s steps h)
    ∙ left-steps key steps past (All-tail (λ s. leaves_entry key s ≡ true) s steps h)

-- ---- what a release wrote is the entry

wrote-ended : (how : ends.Ended) (found : Option (List ℕ × ℕ)) (value : List ℕ) (stamp : ℕ)
    → LeavesValue how found value stamp → entry_ended how found ≡ Some (value, stamp)
wrote-ended Keep found value stamp h = absurd h
wrote-ended Drop found value stamp h = absurd h
wrote-ended (Put put stamped evicted) found value stamp h = let a = h.0 in let b = h.1 in cc
wrote-ended (Shift by stamped) found value stamp h = h.1

wrote-entry : (key : QKey) (writer : Sid) (token : ℕ) (how : ends.Ended) (past : List Step) (value : List ℕ) (stamp : ℕ)
    → LeavesValue how (entry key past) value stamp
    → entry key (step.Released key writer token how ∷ past) ≡ Some (value, stamp)
wrote-entry key writer token how past value stamp h =
    ap (λ (b : Bool). if b then entry_ended how (entry key past) else (if is_evicted key (evicted_by how) then None else entry key past)) (same_key-refl key)
    ∙ wrote-ended how (entry key past) value stamp h

wrote-number : (log : List Commit) (key : QKey) (writer : Sid) (token : ℕ) (how : ends.Ended) (found : Option (List ℕ × ℕ)) (value : List ℕ) (stamp : ℕ)
    → LeavesValue how found value stamp
    → IsNumbered log (step.Released key writer token how) → IsCommitOf log writer stamp
wrote-number log key writer token Keep found value stamp h is = absurd h
wrote-number log key writer token Drop found value stamp h is = absurd h
wrote-number log key writer token (Put put stamped evicted) found value stamp h is = subst (IsCommitOf log writer) h.1 is
wrote-number log key writer token (Shift by stamped) found value stamp h is = subst (IsCommitOf log writer) h.0 is

-- ---- the answer to a get is one on its key, by its session and with its floor

missed-get : (terms : Terms) (past : List Step) (on : QKey) (sid : Sid) (least now : ℕ) (key : QKey) (who : Sid) (floor : ℕ) (v : Verdict)
    → IsGetOf key who floor (miss_by terms past on sid least now v) → (on ≡ key) × (sid ≡ who)
missed-get terms past on sid least now key who floor verdicts.Give h = (h.0, h.1)
missed-get terms past on sid least now key who floor verdicts.Wait h = (h.0, h.1)
missed-get terms past on sid least now key who floor verdicts.Own h = h
missed-get terms past on sid least now key who floor verdicts.Void h = h
missed-get terms past on sid least now key who floor verdicts.Join h = h
missed-get terms past on sid least now key who floor verdicts.Same h = h
missed-get terms past on sid least now key who floor verdicts.Refuse h = h
missed-get terms past on sid least now key who floor verdicts.Raise h = h
missed-get terms past on sid least now key who floor verdicts.Gone h = h

found-get : (terms : Terms) (past : List Step) (on : QKey) (sid : Sid) (least now : ℕ) (key : QKey) (who : Sid) (floor : ℕ) (o : Option (List ℕ × ℕ))
    → IsGetOf key who floor (found_step terms past on sid least now o) → (on ≡ key) × (sid ≡ who)
found-get terms past on sid least now key who floor None h =
    missed-get terms past on sid least now key who floor (verdict (seen_by on sid now past) read) h
found-get terms past on sid least now key who floor (Some f) h = by (nat_le least f.1) h
  where
    by : (b : Bool) → IsGetOf key who floor (if b then step.Hit on sid least f.0 f.1 else miss_step terms past on sid least now) → (on ≡ key) × (sid ≡ who)
    by true h = (h.0, h.1)
    by false h = missed-get terms past on sid least now key who floor (verdict (seen_by on sid now past) read) h

got-get : (terms : Terms) (past : List Step) (on : QKey) (sid : Sid) (least now : ℕ) (key : QKey) (who : Sid) (floor : ℕ) (o : Option Quar)
    → IsGetOf key who floor (get_by terms past on sid least now o) → (on ≡ key) × (sid ≡ who)
got-get terms past on sid least now key who floor (Some q) h = h
got-get terms past on sid least now key who floor None h = found-get terms past on sid least now key who floor (entry on past) h

-- a miss of a session that holds no quarantine of the key tells its floor
missed-floor : (terms : Terms) (past : List Step) (key : QKey) (who : Sid) (floor least now : ℕ) → own_of key who past ≡ None
    → IsGetOf key who floor (miss_step terms past key who least now) → least ≡ floor
missed-floor terms past key who floor least now none h =
    by (own_of key who past) none (is_any (others_ways) || is_unexpired now (recorded key past)) h
  where
    others_ways : List Way
    others_ways = (seen_by key who now past).others

    by : (o : Option Quar) → o ≡ None → (b : Bool)
        → IsGetOf key who floor (miss_by terms past key who least now
        (if is_some (option_map (λ quar. way_of quar.mode) o) then verdicts.Own else if b then verdicts.Wait else verdicts.Give)) → least ≡ floor
    by (Some q) e b h = absurd cc
    by None e true h = h.2
    by None e false h = h.2

-- where an entry with a stamp of at least its floor stands, a get of a session that holds no quarantine of the key hits it
hit-get : (terms : Terms) (past : List Step) (key : QKey) (who : Sid) (floor least now : ℕ) (value : List ℕ) (stamp : ℕ)
    → own_of key who past ≡ None → entry key past ≡ Some (value, stamp) → floor ≤ stamp
    → IsGetOf key who floor (get_step terms past key who least now) → get_step terms past key who least now ≡ step.Hit key who floor value stamp
hit-get terms past key who floor least now value stamp none stands low =
    let Q : Option Quar → Type 0 = λ o. IsGetOf key who floor (get_by terms past key who least now o)
    → get_by terms past key who least now o ≡ step.Hit key who floor value stamp in
    let F : Option (List ℕ × ℕ) → Type 0 = λ o. IsGetOf key who floor (found_step terms past key who least now o)
    → found_step terms past key who least now o ≡ step.Hit key who floor value stamp in
    subst Q (sym none) (subst F (sym stands) (by (nat_le least stamp) refl))
  where
    by : (b : Bool) → nat_le least stamp ≡ b
        → IsGetOf key who floor (if b then step.Hit key who least value stamp else miss_step terms past key who least now)
        → (if b then step.Hit key who least value stamp else miss_step terms past key who least now) ≡ step.Hit key who floor value stamp
    by true e h = ap (λ (l : ℕ). step.Hit key who l value stamp) h.2
    by false e h =
        let same = missed-floor terms past key who floor least now none h in
        let fits : nat_le least stamp ≡ true = le-leb least stamp (subst (λ (l : ℕ). l ≤ stamp) (sym same) low) in
        absurd cc

-- ---- no other request is answered as a get is

no-set : (b : Bool) (key on : QKey) (who : Sid) (floor token now : ℕ) (value : List ℕ) (stamp : ℕ) (evicted : Option QKey)
    → IsGetOf key who floor (if b then step.Stored on token now value stamp evicted else step.Void on token now) → ⊥
no-set true key on who floor token now value stamp evicted h = h
no-set false key on who floor token now value stamp evicted h = h

no-refused : (key on : QKey) (who sid : Sid) (floor : ℕ) (mode : Mode) (o : Option Quar) → IsGetOf key who floor (refused_step on sid mode o) → ⊥
no-refused key on who sid floor mode None h = h
no-refused key on who sid floor mode (Some q) h = h

no-quarantine : (terms : Terms) (past : List Step) (key on : QKey) (who sid : Sid) (floor : ℕ) (mode : Mode) (shift : ℤ) (now : ℕ) (v : Verdict)
    → IsGetOf key who floor (quarantine_by terms past on sid mode shift now v) → ⊥
no-quarantine terms past key on who sid floor mode shift now verdicts.Give h = h
no-quarantine terms past key on who sid floor mode shift now verdicts.Void h = h
no-quarantine terms past key on who sid floor mode shift now verdicts.Join h = h
no-quarantine terms past key on who sid floor mode shift now verdicts.Same h = h
no-quarantine terms past key on who sid floor mode shift now verdicts.Refuse h = no-refused key on who sid floor mode (holder_of on sid past) h
no-quarantine terms past key on who sid floor mode shift now verdicts.Wait h = h
no-quarantine terms past key on who sid floor mode shift now verdicts.Own h = h
no-quarantine terms past key on who sid floor mode shift now verdicts.Raise h = h
no-quarantine terms past key on who sid floor mode shift now verdicts.Gone h = h

no-release : (key : QKey) (who : Sid) (floor : ℕ) (permit : Permit) (how : How) (o : Option Quar) → IsGetOf key who floor (release_by permit how o) → ⊥
no-release key who floor permit how None h = h
no-release key who floor permit how (Some q) h = h

no-replace : (terms : Terms) (past : List Step) (key : QKey) (who : Sid) (floor : ℕ) (permit : Permit) (value : List ℕ) (stamp : ℕ) (o : Option Quar)
    → IsGetOf key who floor (replace_by terms past permit value stamp o) → ⊥
no-replace terms past key who floor permit value stamp None h = h
no-replace terms past key who floor permit value stamp (Some q) h = h

no-raise : (key : QKey) (who : Sid) (floor : ℕ) (permit : Permit) (other : Option Quar) (v : Verdict)
    → IsGetOf key who floor (raise_by permit other v) → ⊥
no-raise key who floor permit other verdicts.Raise h = h
no-raise key who floor permit (Some other) verdicts.Refuse h = h
no-raise key who floor permit None verdicts.Refuse h = h
no-raise key who floor permit other verdicts.Gone h = h
no-raise key who floor permit other verdicts.Give h = h
no-raise key who floor permit other verdicts.Void h = h
no-raise key who floor permit other verdicts.Join h = h
no-raise key who floor permit other verdicts.Wait h = h
no-raise key who floor permit other verdicts.Same h = h
no-raise key who floor permit other verdicts.Own h = h

no-renewal : (key : QKey) (who : Sid) (floor : ℕ) (terms : Terms) (permit : Permit) (now : ℕ) (o : Option Quar)
    → IsGetOf key who floor (renew_by terms permit now o) → ⊥
no-renewal key who floor terms permit now None h = h
no-renewal key who floor terms permit now (Some q) h = h

hit-step : (terms : Terms) (past : List Step) (request : Request) (key : QKey) (who : Sid) (floor : ℕ) (value : List ℕ) (stamp : ℕ)
    → own_of key who past ≡ None → entry key past ≡ Some (value, stamp) → floor ≤ stamp
    → IsGetOf key who floor (step_of terms past request) → step_of terms past request ≡ step.Hit key who floor value stamp
hit-step terms past (Get on sid least now) key who floor value stamp none stands low h =
    let same = got-get terms past on sid least now key who floor (own_of on sid past) h in
    let P : QKey → Type 0 = λ k. IsGetOf key who floor (get_step terms past k sid least now)
    → get_step terms past k sid least now ≡ step.Hit key who floor value stamp in
    let S : Sid → Type 0 = λ s. IsGetOf key who floor (get_step terms past key s least now)
    → get_step terms past key s least now ≡ step.Hit key who floor value stamp in
    subst P (sym same.0) (subst S (sym same.1) (hit-get terms past key who floor least now value stamp none stands low)) h
hit-step terms past (Set on token put stamped now) key who floor value stamp none stands low h =
    absurd (no-set (is_current token now (recorded on past)) key on who floor token now put stamped (evicts terms on past) h)
hit-step terms past (Quarantine on sid mode shift now) key who floor value stamp none stands low h =
    absurd (no-quarantine terms past key on who sid floor mode shift now (verdict (seen_by on sid now past) (quarantine (way_of mode))) h)
hit-step terms past (Release permit how) key who floor value stamp none stands low h =
    absurd (no-release key who floor permit how (quar_of permit.key permit.token past) h)
hit-step terms past (Replace permit put stamped) key who floor value stamp none stands low h =
    absurd (no-replace terms past key who floor permit put stamped (quar_of permit.key permit.token past) h)
hit-step terms past (Raise permit) key who floor value stamp none stands low h =
    let quars = standing permit.key past in
    absurd (no-raise key who floor permit (first (others_in permit.sid quars)) (raise_in permit.sid permit.token quars) h)
hit-step terms past (Renew permit now) key who floor value stamp none stands low h =
    absurd (no-renewal key who floor terms permit now (quar_of permit.key permit.token past) h)

-- ---- the whole history

legal-later : (terms : Terms) (later past : List Step) → IsLegalPast terms (later ++ past) → IsLegalPast terms past
legal-later terms [] past h = h
legal-later terms (s ∷ later) past h = legal-later terms later past h.1

every-later : {X : Type 0} (P : X → Type 0) (later past : List X) → AllByRecursion P (later ++ past) → AllByRecursion P past
every-later P [] past h = h
every-later P (x ∷ later) past h = every-later P later past h.1

-- what holds of all elements holds of them turned round
pub all-turned : {X : Type 0} (P : X → Type 0) (xs : List X) → All P xs → All P (reverse xs)
all-turned P xs h =
    All-permutation P xs (reverse xs) (IsPermutation-reverse xs) h

-- each get behind a writer's release in what a run keeps hits what that left
pub served : (shape : Shape) (opening : Tables) (moves : List Move) (rows : Option Tables) (log : List Commit) (histories : List (List Step))
    → Keeps shape opening moves rows log histories
    → Fresh opening log histories → HitsAfterWrites opening log histories
served shape opening moves rows log histories keeps fresh shard history key writer value stamp reader floor s there b =
    let terms = terms_of shape shard in
    let write = step.Released key writer b.token b.how in
    let earlier = write ∷ reverse b.before in
    let past = reverse b.between ++ earlier in
    let order : reverse history ≡ reverse b.after ++ s ∷ past = ap reverse b.steps ∙ turned b.before b.between b.after write s in
    let legal = legal-later terms (reverse b.after) (s ∷ past) (subst (IsLegalPast terms) order (keeps.legal shard history there)) in
    let stands : entry key past ≡ Some (value, stamp) =
    left-steps key (reverse b.between) earlier (all-turned (λ s. leaves_entry key s ≡ true) b.between b.untouched)
    ∙ wrote-entry key writer b.token b.how (reverse b.before) value stamp b.wrote in
    let unheld : own_of key reader past ≡ None =
    ap (own_of key reader) (sym (reverse-middle b.before write b.between)) ∙ b.unheld in
    let hit : s ≡ step.Hit key reader floor value stamp =
    legal.0.answer
    ∙ hit-step terms past legal.0.request key reader floor value stamp unheld stands b.low (subst (IsGetOf key reader floor) legal.0.answer b.asked) in
    let numbers =
    every-later (IsNumbered log) (reverse b.after) (s ∷ past) (subst (AllByRecursion (IsNumbered log)) order (keeps.numbered shard history there)) in
    let number = every-later (IsNumbered log) (reverse b.between) earlier numbers.1 in
    let whole : IsFreshPast opening log (reverse history) =
    at-place (λ history. IsFreshPast opening log (reverse history)) histories shard history fresh there in
    let now = fresh-later opening log (reverse b.after) (s ∷ past) (subst (IsFreshPast opening log) order whole) in
    let right = subst (IsFreshStep opening log past) hit now.0 in
    record {
      hit = hit;
      number = wrote-number log key writer b.token b.how (entry key (reverse b.before)) value stamp b.wrote number.0;
      right = right.right;
    }

pub serve-run : (s : Status) (held : Held) (before after : Tells) (left : Left) (written : ℕ)
    → Ended s held before after left written → (IsSome left.opening → IsSome after.rows)
    → IfSome left.opening (λ opening. HitsAfterWrites opening left.log left.histories)
serve-run s held before after left written h started = by left.opening refl (began-or-not s held before after left written h)
  where
    by : (o : Option Tables) → left.opening ≡ o → (IsNotStarted before after left written ⊎ Began held before after left)
        → IfSome o (λ opening. HitsAfterWrites opening left.log left.histories)
    by None is k = tt
    by (Some opening) is (inl k) = absurd (none-some opening (sym k.no_opening ∙ is))
      where
        none-some : (opening : Tables) → None ≡ Some opening → ⊥
        none-some opening e = cc
    by (Some opening) is (inr b) =
        let known = some-at after.rows (started (subst (λ (o : Option Tables). IsSome o) (sym is) refl)) in
        let same : b.opening ≡ opening = same-inside b.opening opening (sym b.opening_is ∙ is) in
        subst (λ (rows : Tables). HitsAfterWrites rows left.log left.histories) same
        (served b.shape b.opening b.moves after.rows left.log left.histories b.keeps (b.keeps.fresh known.0 known.1))
      where
        same-inside : (a b : Tables) → Some a ≡ Some b → a ≡ b
        same-inside a b e = cc
