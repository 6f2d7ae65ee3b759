-- What was granted in the histories of the shards, and what that covers.
use Rattle.std.proofs.Common.{◌≡◌, ℕ, ◌+◌, ◌<◌, ◌||◌, ◌==◌, Bool, true, false, List, [], ◌∷◌, ◌++◌, length, take, get_or, slice_get, Option}
use Rattle.std.proofs.Common.{Some, None, option_map, reverse, All, refl, sym, ap, subst, ◌∙◌}
use Rattle.std.specs.List.{list_any}
use Rattle.std.specs.BTreeSet.{BTreeSet}
use Rattle.std.proofs.lemmas.Bool.{false≢true}
use Rattle.std.proofs.lemmas.List.{take_more, map_push, length-map}
use Rattle.std.proofs.lemmas.List.Elements.{All-get_or, All-more}
use Rattle.std.proofs.lemmas.List.Sorted.{list_any-IsPermutation, IsPermutation-reverse}
use Rattle.std.proofs.lemmas.Option.{slice_get-map, slice_get_within, get_or_from_slice_get}
use Rattle.rows_model.specs.declared.keys.QKey.{QKey}
use Rattle.rows_model.specs.declared.keys.Sid.{Sid}
use Rattle.rows_model.specs.Key.{same_key}
use Rattle.rows_model.specs.Placement.{shard_of}
use Rattle.rows_model.proofs.SameKey.{same_key-true}
use Rattle.case_tables.specs.declared.grids.Verdict.{Verdict}
use Rattle.case_tables.specs.declared.grids.Verdict.TheVariants as verdicts
use Rattle.lease_table.specs.declared.records.Quar.{Quar}
use Rattle.lease_table.specs.Leases.{first, others_in, raise_in}
use Rattle.key_shard.specs.declared.steps.Step.{Step}
use Rattle.key_shard.specs.Permit.{Permit}
use Rattle.key_shard.specs.Past.{Terms, standing, quar_of}
use Rattle.key_shard.specs.Shards.{ShardView}
use Rattle.key_shard.specs.Answers.{Request, Get, Set, Quarantine, Release, Replace, Raise, Renew, Answers, IsAtHome, IsLegalPast, Legal, step_of, key_of}
use Rattle.key_shard.specs.Answers.{raise_by, renew_by}
use Rattle.key_shard.proofs.CaseLemmas.{got_cases, set_cases, quarantine_cases, release_cases, replace_cases}
use Rattle.sql_keeper.specs.declared.stores.Commit.{Commit}
use Rattle.sql_keeper.specs.Fresh.{quarantines, Covered}
use Rattle.run_audit.specs.declared.holds.Hold.{Hold}
use Rattle.run_audit.specs.Findings.{histories_in, AreNumbered, AreWhole, IsGranted, IsFirstUncovered}
use Rattle.run_audit.specs.Grants.{holds, grants_it, AddsGrants, HasGrants, AreCovered, IsFirstGap}
use Rattle.run_audit.proofs.ListLemmas.{clash, or_comm, and_elim, place-of, any-at, any-push}

-- ---- which shards are whole

pub whole-at : (shards : List ShardView) (i : ℕ) (shard : ShardView) → i < length shards → shard ≡ get_or shards i shard
    → AreWhole shards → shard.terms.rolls ≡ false
whole-at shards i shard in' is whole =
    subst (λ (one : ShardView). one.terms.rolls ≡ false) (sym is)
    (All-get_or (λ (one : ShardView). one.terms.rolls ≡ false) shards i shard in' whole)

-- ---- what is granted, with one history more

pub histories-push : (shards : List ShardView) (i : ℕ) (shard : ShardView) → i < length shards → shard ≡ get_or shards i shard
    → histories_in (take (i + 1) shards) ≡ histories_in (take i shards) ++ shard.history ∷ []
histories-push shards i shard in' is =
    ap histories_in (take_more shards i shard in' ∙ ap (λ (x : ShardView). take i shards ++ x ∷ []) (sym is))
    ∙ map_push (λ (one : ShardView). one.history) (take i shards) shard

pub grants-more : (shards : List ShardView) (i : ℕ) (shard : ShardView) (old new : BTreeSet Hold) → i < length shards → shard ≡ get_or shards i shard
    → HasGrants (histories_in (take i shards)) old → AddsGrants shard.history old new → HasGrants (histories_in (take (i + 1) shards)) new
grants-more shards i shard old new in' is has adds hold =
    adds hold
    ∙ ap (λ b. b || grants_it hold shard.history) (has hold)
    ∙ or_comm (list_any (grants_it hold) (histories_in (take i shards))) (grants_it hold shard.history)
    ∙ sym (any-push (grants_it hold) (histories_in (take i shards)) shard.history)
    ∙ ap (list_any (grants_it hold)) (sym (histories-push shards i shard in' is))

pub legal-more : (shards : List ShardView) (i : ℕ) (shard : ShardView) → i < length shards → shard ≡ get_or shards i shard
    → All (λ one. Legal one.terms one.history) (take i shards) → Legal shard.terms shard.history
    → All (λ one. Legal one.terms one.history) (take (i + 1) shards)
legal-more shards i shard in' is before here =
    All-more (λ (one : ShardView). Legal one.terms one.history) shards i shard in' before (subst (λ (one : ShardView). Legal one.terms one.history) is here)

-- ---- what is granted in a legal history is of the shard's own keys

-- a step that grants this session a quarantine of this key is on a key of the shard
abbrev GrantsAtHome : Terms → QKey → Sid → Step → Type 0
GrantsAtHome terms key who made = quarantines key who made ≡ true → IsAtHome terms key

-- neither a raise nor a renewal grants
raised-grants : (key : QKey) (who : Sid) (permit : Permit) (other : Option Quar) (v : Verdict) → quarantines key who (raise_by permit other v) ≡ false
raised-grants key who permit other verdicts.Raise = refl
raised-grants key who permit (Some other) verdicts.Refuse = refl
raised-grants key who permit None verdicts.Refuse = refl
raised-grants key who permit other verdicts.Gone = refl
raised-grants key who permit other verdicts.Give = refl
raised-grants key who permit other verdicts.Void = refl
raised-grants key who permit other verdicts.Join = refl
raised-grants key who permit other verdicts.Wait = refl
raised-grants key who permit other verdicts.Same = refl
raised-grants key who permit other verdicts.Own = refl

renewed-grants : (key : QKey) (who : Sid) (terms : Terms) (permit : Permit) (now : ℕ) (o : Option Quar)
    → quarantines key who (renew_by terms permit now o) ≡ false
renewed-grants key who terms permit now (Some quar) = refl
renewed-grants key who terms permit now None = refl

granted-at_home : (terms : Terms) (past : List Step) (key : QKey) (who : Sid) (made : Step) → Answers terms past made → GrantsAtHome terms key who made
granted-at_home terms past key who made answers = subst (GrantsAtHome terms key who) (sym answers.answer) (by answers.request answers.at_home)
  where
    by : (request : Request) → IsAtHome terms (key_of request) → GrantsAtHome terms key who (step_of terms past request)
    by (Get on sid floor now) home =
        got_cases (GrantsAtHome terms key who) terms past on sid floor now (λ value stamp _ grants. cc) (λ grants. cc) (λ stands grants. cc) (λ none grants. cc)
    by (Set on token value stamp now) home = set_cases (GrantsAtHome terms key who) terms past on token value stamp now (λ _ grants. cc) (λ _ grants. cc)
    by (Quarantine on sid mode shift now) home = quarantine_cases (GrantsAtHome terms key who) terms past on sid mode shift now
        (λ none grants. (let parts = and_elim (same_key key on) (sid.number == who.number) grants in
        subst (IsAtHome terms) (sym (same_key-true key on parts.0)) home))
        (λ grants. cc) (λ quar _ grants. cc)
    by (Release permit how) home = release_cases (GrantsAtHome terms key who) past permit how (λ quar _ grants. cc) (λ _ grants. cc)
    by (Replace permit value stamp) home = replace_cases (GrantsAtHome terms key who) terms past permit value stamp (λ quar _ grants. cc) (λ _ grants. cc)
    by (Raise permit) home = λ grants.
        let none =
        raised-grants key who permit (first (others_in permit.sid (standing permit.key past)))
        (raise_in permit.sid permit.token (standing permit.key past)) in
        absurd (false≢true (sym none ∙ grants))
    by (Renew permit now) home = λ grants.
        absurd (false≢true (sym (renewed-grants key who terms permit now (quar_of permit.key permit.token past)) ∙ grants))

past-at_home : (terms : Terms) (key : QKey) (who : Sid) (past : List Step)
    → IsLegalPast terms past → list_any (quarantines key who) past ≡ true → IsAtHome terms key
past-at_home terms key who [] legal some = cc
past-at_home terms key who (made ∷ past) legal some = by (quarantines key who made) refl (past-at_home terms key who past legal.1)
  where
    by : (b : Bool) → quarantines key who made ≡ b → (list_any (quarantines key who) past ≡ true → IsAtHome terms key) → IsAtHome terms key
    by true grants later = granted-at_home terms past key who made legal.0 grants
    by false none later = later (rw none at some)

legal-at_home : (terms : Terms) (key : QKey) (who : Sid) (history : List Step)
    → Legal terms history → list_any (quarantines key who) history ≡ true → IsAtHome terms key
legal-at_home terms key who history legal some =
    past-at_home terms key who (reverse history) legal
    (sym (list_any-IsPermutation (quarantines key who) history (reverse history) (IsPermutation-reverse history)) ∙ some)

-- ---- what is granted anywhere is granted in the history of the key's shard

-- shards in order, each with a legal history
pub record AreShards (shards : List ShardView) (grants : BTreeSet Hold) : Type 0 where
  pub numbered : AreNumbered shards
  pub legal : All (λ shard. Legal shard.terms shard.history) shards
  pub has : HasGrants (histories_in shards) grants

-- the shard whose history stands at a place
shard-at : (shards : List ShardView) (i : ℕ) (history : List Step)
    → slice_get (histories_in shards) i ≡ Some history → (shard : ShardView) × (slice_get shards i ≡ Some shard) × (shard.history ≡ history)
shard-at shards i history there = by (slice_get shards i) refl
  where
    by : (found : Option ShardView) → slice_get shards i ≡ found → (shard : ShardView) × (slice_get shards i ≡ Some shard) × (shard.history ≡ history)
    by None none = let clash' : None ≡ Some history =
        sym (slice_get-map (λ (one : ShardView). one.history) shards i ∙ ap (option_map (λ (one : ShardView). one.history)) none) ∙ there in cc
    by (Some shard) at =
        let same : Some shard.history ≡ Some history =
        sym (slice_get-map (λ (one : ShardView). one.history) shards i ∙ ap (option_map (λ (one : ShardView). one.history)) at) ∙ there in
        (shard, at, cc)

pub granted-there : (shards : List ShardView) (grants : BTreeSet Hold)
    → AreShards shards grants → (who : Sid) (key : QKey) → holds grants who key ≡ true → IsGranted (histories_in shards) key who
granted-there shards grants are who key held =
    let hold : Hold = record { sid = who; key = key } in
    let found = place-of (grants_it hold) (histories_in shards) (sym (are.has hold) ∙ held) in
    let at = shard-at shards found.0 found.1 found.2 in
    let numbered = are.numbered.each found.0 at.0 at.1 in
    let in' = slice_get_within shards found.0 at.0 at.1 in
    let is : get_or shards found.0 at.0 ≡ at.0 = get_or_from_slice_get shards found.0 at.0 at.0 at.1 in
    let legal : Legal at.0.terms at.0.history =
    subst (λ (one : ShardView). Legal one.terms one.history) is
    (All-get_or (λ (one : ShardView). Legal one.terms one.history) shards found.0 at.0 in' are.legal) in
    let some : list_any (quarantines key who) at.0.history ≡ true = ap (list_any (quarantines key who)) at.2 ∙ found.3 in
    let home : shard_of key at.0.terms.count ≡ at.0.terms.no = legal-at_home at.0.terms key who at.0.history legal some in
    let number : shard_of key (length (histories_in shards)) ≡ found.0 =
    ap (shard_of key) (length-map shards (λ (one : ShardView). one.history) ∙ sym numbered.count) ∙ home ∙ numbered.no in
    (found.1, ap (slice_get (histories_in shards)) number ∙ found.2, found.3)

pub there-granted : (shards : List ShardView) (grants : BTreeSet Hold)
    → AreShards shards grants → (who : Sid) (key : QKey) → IsGranted (histories_in shards) key who → holds grants who key ≡ true
there-granted shards grants are who key granted =
    are.has (record { sid = who; key = key })
    ∙ any-at (grants_it (record { sid = who; key = key })) (histories_in shards) (shard_of key (length (histories_in shards))) granted.0 granted.1 granted.2

-- ---- what is covered

pub covered-there : (shards : List ShardView) (grants : BTreeSet Hold)
    → AreShards shards grants → (log : List Commit) → AreCovered (holds grants) log → Covered log (histories_in shards)
covered-there shards grants are log covered place commit key there touched =
    granted-there shards grants are commit.sid key (covered place commit key there touched)

pub gap-there : (shards : List ShardView) (grants : BTreeSet Hold) → AreShards shards grants → (log : List Commit) (number : ℕ) (key : QKey)
    → IsFirstGap (holds grants) log number key → IsFirstUncovered log (histories_in shards) number key
gap-there shards grants are log number key gap = record {
  place = gap.place;
  commit = gap.commit;
  number_is = gap.number_is;
  there = gap.there;
  touched = gap.touched;
  not_granted = λ granted. clash (there-granted shards grants are gap.commit.sid key granted) gap.fails;
  covered_before = covered-there shards grants are (take gap.place log) gap.covered_before;
  least = λ other before touched. granted-there shards grants are gap.commit.sid other (gap.least other before touched);
}
