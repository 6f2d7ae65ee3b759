-- What a request comes to: a motive that holds of each step that the request may give holds of its step.
use Rattle.std.proofs.Common.{ℕ, ◌≡◌, Bool, true, false, cond, ◌&&◌, ◌||◌, nat_le, List, [], ◌∷◌, map, is_some, option_map, Option, Some}
use Rattle.std.proofs.Common.{None, inl, inr, ◌⊎◌, refl, sym, ap, subst, ◌∙◌}
use Rattle.std.specs.Prelude.{ℤ}
use Rattle.std.specs.List.{list_all}
use Rattle.std.specs.Option.{option_or}
use Rattle.std.proofs.lemmas.Bool.{cond_both}
use Rattle.rows_model.specs.declared.keys.QKey.{QKey}
use Rattle.rows_model.specs.declared.keys.Sid.{Sid}
use Rattle.case_tables.specs.Compatibility.{Way, is_invalidate, is_any, same_way, quarantine_verdict}
use Rattle.case_tables.specs.declared.grids.Verdict.{Verdict}
use Rattle.case_tables.specs.declared.grids.Verdict.TheVariants as verdicts
use Rattle.lease_table.specs.declared.records.Mode.{Mode}
use Rattle.lease_table.specs.declared.records.Quar.{Quar}
use Rattle.lease_table.specs.Leases.{way_of, is_of, is_current, is_unexpired, first, own_in, others_in, raise_in}
use Rattle.lease_table.proofs.ListLemmas.{find-none, filter-not-all}
use Rattle.key_shard.specs.Permit.{Permit}
use Rattle.key_shard.specs.declared.replies.How.{How}
use Rattle.key_shard.specs.declared.steps.Ended.TheVariants as ended
use Rattle.key_shard.specs.declared.steps.Blocker.{Blocker}
use Rattle.key_shard.specs.declared.steps.Step.{Step}
use Rattle.key_shard.specs.declared.steps.Step.TheVariants as step
use Rattle.key_shard.specs.Past.{Terms, standing, recorded, entry, evicts, own_of, others_of, holder_of, quar_of, next_token, deadline_at}
use Rattle.key_shard.specs.Answers.{get_step, get_by, found_step, miss_by, miss_step, set_step, granted_step, refused_step, quarantine_by, quarantine_step}
use Rattle.key_shard.specs.Answers.{ended_as, release_step, release_by, replace_step, replace_by, raise_step, raise_by, shared_step, renew_step, renew_by}

-- where none of the quarantines is one's own, the others' are all of them
pub others_all : (who : Sid) (quars : List Quar) → own_in who quars ≡ None → others_in who quars ≡ quars
others_all who quars none = filter-not-all (is_of who) quars (find-none (is_of who) quars none)

-- quarantines of which none has a way are none
pub map_none : (quars : List Quar) → map (λ quar. way_of quar.mode) quars ≡ [] → quars ≡ []
map_none [] e = refl
map_none (quar ∷ quars) e = cc

-- a get that misses is answered Again, or has a lease where no quarantine stands
missed : (P : Step → Type 0) (terms : Terms) (past : List Step) (key : QKey) (who : Sid) (floor now : ℕ) → own_of key who past ≡ None →
    ((stands : Blocker) → P (step.Again key who floor now stands)) →
    (standing key past ≡ [] → P (step.Lease key who floor now (next_token terms past) (deadline_at terms now))) → P (miss_step terms past key who floor now)
missed P terms past key who floor now none again lease =
    by (own_of key who past) (map (λ quar. way_of quar.mode) (others_of key who past)) (is_unexpired now (recorded key past)) none
    (λ e. lease (sym (others_all who (standing key past) none) ∙ map_none (others_of key who past) e))
  where
    by : (own : Option Quar) (ways : List Way) (reading : Bool) → own ≡ None →
        (ways ≡ [] → P (step.Lease key who floor now (next_token terms past) (deadline_at terms now))) →
        P (miss_by terms past key who floor now
        (cond (is_some (option_map (λ quar. way_of quar.mode) own)) verdicts.Own (cond (is_any ways || reading) verdicts.Wait verdicts.Give)))
    by (Some own) ways reading e lease = cc
    by None [] true e lease = again _
    by None [] false e lease = lease refl
    by None (way ∷ ways) reading e lease = again _

-- a get is one of four: a hit of the entry, an Own, an Again, or a lease where no quarantine stands
pub got_cases : (P : Step → Type 0) (terms : Terms) (past : List Step) (key : QKey) (who : Sid) (floor now : ℕ) →
    ((value : List ℕ) (stamp : ℕ) → entry key past ≡ Some (value, stamp) → P (step.Hit key who floor value stamp)) → P (step.Own key who) →
    ((stands : Blocker) → P (step.Again key who floor now stands)) →
    (standing key past ≡ [] → P (step.Lease key who floor now (next_token terms past) (deadline_at terms now))) → P (get_step terms past key who floor now)
got_cases P terms past key who floor now hit own again lease = by_own (own_of key who past) refl
  where
    by_entry : own_of key who past ≡ None → (found : Option (List ℕ × ℕ)) → entry key past ≡ found → P (found_step terms past key who floor now found)
    by_entry none None e = missed P terms past key who floor now none again lease
    by_entry none (Some found) e =
        cond_both (nat_le floor found.1) (step.Hit key who floor found.0 found.1) (miss_step terms past key who floor now) P
        (λ _. hit found.0 found.1 e)
        (λ _. missed P terms past key who floor now none again lease)

    by_own : (o : Option Quar) → own_of key who past ≡ o → P (get_by terms past key who floor now o)
    by_own (Some quar) e = own
    by_own None e = by_entry e (entry key past) refl

-- a set stores its value where its token's lease is recorded and not past its deadline, and else it is void
pub set_cases : (P : Step → Type 0) (terms : Terms) (past : List Step) (key : QKey) (token : ℕ) (value : List ℕ) (stamp now : ℕ) →
    (is_current token now (recorded key past) ≡ true → P (step.Stored key token now value stamp (evicts terms key past))) →
    (is_current token now (recorded key past) ≡ false → P (step.Void key token now)) → P (set_step terms past key token value stamp now)
set_cases P terms past key token value stamp now stored void =
    cond_both (is_current token now (recorded key past)) (step.Stored key token now value stamp (evicts terms key past)) (step.Void key token now) P stored void

-- what a quarantine may be granted beside: nothing, or quarantines to invalidate where it is one itself
abbrev pub MayJoin : Mode → List Quar → Type 0
MayJoin mode quars =
    (quars ≡ []) ⊎ ((is_invalidate (way_of mode) && list_all is_invalidate (map (λ quar. way_of quar.mode) quars)) ≡ true)

-- a quarantine is granted to a session that has none on the key, beside what it may join; or the session holds one; or who holds the key is named
pub verdict_cases : (P : Step → Type 0) (terms : Terms) (past : List Step) (key : QKey) (who : Sid) (mode : Mode) (shift : ℤ) (now : ℕ) →
    (own_of key who past ≡ None → MayJoin mode (standing key past) → P (granted_step terms past key who mode shift now)) →
    ((quar : Quar) → own_of key who past ≡ Some quar → P (step.Held key who mode)) →
    ((quar : Quar) → holder_of key who past ≡ Some quar → P (step.Refused key who mode quar.sid quar.mode)) →
    P (quarantine_step terms past key who mode shift now)
verdict_cases P terms past key who mode shift now granted held refused =
    by (own_of key who past) (others_of key who past) (is_unexpired now (recorded key past)) refl refl
  where
    named : (quar : Quar) → holder_of key who past ≡ Some quar → P (refused_step key who mode (holder_of key who past))
    named quar e = subst (λ o. P (refused_step key who mode o)) (sym e) (refused quar e)

    by : (own : Option Quar) (others : List Quar) (reading : Bool) → own_of key who past ≡ own → others_of key who past ≡ others →
        P (quarantine_by terms past key who mode shift now
        (quarantine_verdict (way_of mode) (option_map (λ quar. way_of quar.mode) own) (map (λ quar. way_of quar.mode) others) reading))
    by (Some own) others reading e f =
        cond_both (same_way (way_of own.mode) (way_of mode)) verdicts.Same verdicts.Refuse (λ v. P (quarantine_by terms past key who mode shift now v))
        (λ _. held own e)
        (λ _. named own (ap (λ o. option_or o (first (standing key past))) e))
    by None [] true e f = granted e (inl (sym (others_all who (standing key past) e) ∙ f))
    by None [] false e f = granted e (inl (sym (others_all who (standing key past) e) ∙ f))
    by None (quar ∷ quars) reading e f =
        let all : standing key past ≡ quar ∷ quars = sym (others_all who (standing key past) e) ∙ f in
        let joins : Bool = is_invalidate (way_of mode) && list_all is_invalidate (map (λ q. way_of q.mode) (quar ∷ quars)) in
        cond_both joins verdicts.Join verdicts.Refuse (λ v. P (quarantine_by terms past key who mode shift now v))
        (λ join. granted e (subst (MayJoin mode) (sym all) (inr join)))
        (λ _. named quar (ap (λ o. option_or o (first (standing key past))) e ∙ ap first all))

-- a quarantine is granted to a session that has none on the key, or is held, or is refused and who holds the key is named
pub quarantine_cases : (P : Step → Type 0) (terms : Terms) (past : List Step) (key : QKey) (who : Sid) (mode : Mode) (shift : ℤ) (now : ℕ) →
    (own_of key who past ≡ None → P (granted_step terms past key who mode shift now)) → P (step.Held key who mode) →
    ((quar : Quar) → holder_of key who past ≡ Some quar → P (step.Refused key who mode quar.sid quar.mode)) →
    P (quarantine_step terms past key who mode shift now)
quarantine_cases P terms past key who mode shift now granted held refused =
    verdict_cases P terms past key who mode shift now (λ none _. granted none) (λ _ _. held) refused

some_none : {quar : Quar} {o : Option Quar} → o ≡ Some quar → o ≡ None → ⊥
some_none e none = let same : Some _ ≡ None = sym e ∙ none in cc

-- a session that has no quarantine on the key is granted it, or refused it
pub asked_cases : (P : Step → Type 0) (terms : Terms) (past : List Step) (key : QKey) (who : Sid) (mode : Mode) (shift : ℤ) (now : ℕ) →
    own_of key who past ≡ None → P (granted_step terms past key who mode shift now) →
    ((quar : Quar) → holder_of key who past ≡ Some quar → P (step.Refused key who mode quar.sid quar.mode)) →
    P (quarantine_step terms past key who mode shift now)
asked_cases P terms past key who mode shift now none granted refused =
    verdict_cases P terms past key who mode shift now (λ _ _. granted) (λ quar e. absurd (some_none e none)) refused

-- a release ends the quarantine of its token where one stands, and else that is gone
pub release_cases : (P : Step → Type 0) (past : List Step) (permit : Permit) (how : How) →
    ((quar : Quar) → quar_of permit.key permit.token past ≡ Some quar → P (step.Released permit.key quar.sid permit.token (ended_as quar how))) →
    (quar_of permit.key permit.token past ≡ None → P (step.Gone permit.key permit.sid permit.token)) → P (release_step past permit how)
release_cases P past permit how ends gone = by (quar_of permit.key permit.token past) refl
  where
    by : (o : Option Quar) → quar_of permit.key permit.token past ≡ o → P (release_by permit how o)
    by (Some quar) e = ends quar e
    by None e = gone e

-- a replace likewise, with its value
pub replace_cases : (P : Step → Type 0) (terms : Terms) (past : List Step) (permit : Permit) (value : List ℕ) (stamp : ℕ) →
    ((quar : Quar) → quar_of permit.key permit.token past ≡ Some quar
    → P (step.Released permit.key quar.sid permit.token (ended.Put value stamp (evicts terms permit.key past)))) →
    (quar_of permit.key permit.token past ≡ None → P (step.Gone permit.key permit.sid permit.token)) → P (replace_step terms past permit value stamp)
replace_cases P terms past permit value stamp ends gone = by (quar_of permit.key permit.token past) refl
  where
    by : (o : Option Quar) → quar_of permit.key permit.token past ≡ o → P (replace_by terms past permit value stamp o)
    by (Some quar) e = ends quar e
    by None e = gone e

-- a raise raises a quarantine that may be raised, or names the session of another's, or is gone
pub raise_cases : (P : Step → Type 0) (past : List Step) (permit : Permit) →
    (raise_in permit.sid permit.token (standing permit.key past) ≡ verdicts.Raise → P (step.Raised permit.key permit.sid permit.token)) →
    ((other : Quar) → first (others_in permit.sid (standing permit.key past)) ≡ Some other
    → P (step.Shared permit.key permit.sid permit.token other.sid)) →
    P (step.Gone permit.key permit.sid permit.token) → P (raise_step past permit)
raise_cases P past permit raises shared gone =
    by (raise_in permit.sid permit.token (standing permit.key past)) refl
  where
    named : (o : Option Quar) → first (others_in permit.sid (standing permit.key past)) ≡ o → P (shared_step permit o)
    named (Some other) e = shared other e
    named None e = gone

    by : (v : Verdict) → raise_in permit.sid permit.token (standing permit.key past) ≡ v
        → P (raise_by permit (first (others_in permit.sid (standing permit.key past))) v)
    by verdicts.Raise e = raises e
    by verdicts.Refuse e = named (first (others_in permit.sid (standing permit.key past))) refl
    by verdicts.Gone e = gone
    by verdicts.Give e = gone
    by verdicts.Void e = gone
    by verdicts.Join e = gone
    by verdicts.Wait e = gone
    by verdicts.Same e = gone
    by verdicts.Own e = gone

-- a renewal gives the quarantine of its token a new deadline, where one stands, and else that is gone
pub renew_cases : (P : Step → Type 0) (terms : Terms) (past : List Step) (permit : Permit) (now : ℕ) →
    ((quar : Quar) → quar_of permit.key permit.token past ≡ Some quar
    → P (step.Renewed permit.key permit.sid permit.token now (deadline_at terms now))) →
    (quar_of permit.key permit.token past ≡ None → P (step.Gone permit.key permit.sid permit.token)) → P (renew_step terms past permit now)
renew_cases P terms past permit now renews gone = by (quar_of permit.key permit.token past) refl
  where
    by : (o : Option Quar) → quar_of permit.key permit.token past ≡ o → P (renew_by terms permit now o)
    by (Some quar) e = renews quar e
    by None e = gone e
