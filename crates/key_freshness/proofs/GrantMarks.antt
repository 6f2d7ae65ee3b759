-- Granted marks and the steps that granted.
use Rattle.std.proofs.Common.{ℕ, ◌≡◌, ◌==◌, ◌&&◌, Bool, true, false, cond, List, [], ◌∷◌, ◌++◌, ap, subst, sym, inl, ⊎_elim, eq-eqb}
use Rattle.std.specs.List.{list_any}
use Rattle.std.proofs.lemmas.Bool.{false≢true, eqb-true, or_cases, or_left, or_right, and_parts}
use Rattle.rows_model.specs.declared.keys.QKey.{QKey}
use Rattle.rows_model.specs.declared.keys.Sid.{Sid}
use Rattle.rows_model.specs.Key.{same_key}
use Rattle.key_shard.specs.declared.steps.Ended.{Ended as How}
use Rattle.key_shard.specs.declared.steps.Ended.TheVariants as ended
use Rattle.key_shard.specs.declared.steps.Step.{Step}
use Rattle.key_shard.specs.declared.steps.Step.TheVariants as step
use Rattle.sql_keeper.specs.Fresh.{quarantines}
use Rattle.key_freshness.specs.Marks.{Mark, Granted, Ended, Leased, Wrote, Has, writes_by, marks_in, marks_of}
use Rattle.key_freshness.specs.Known.{WasGranted}
use Rattle.key_freshness.proofs.MarkLemmas.{by_test, has-front, has-back, has-split}

granted_by : (key : QKey) (who : Sid) (s : Step) → quarantines key who s ≡ true → WasGranted (marks_in key s) who.number
granted_by key who (step.Granted on sid mode shift now token deadline) e =
    let parts = and_parts (same_key key on) (sid.number == who.number) e in
    record {
      token = token;
      mark = subst (λ b. Has (Granted who.number token) (cond b (Granted sid.number token ∷ []) []))
          (sym parts.0) (inl (ap (λ n. Granted n token) (eqb-true _ _ parts.1)));
    }
granted_by key who other e = absurd (false≢true e)

-- a quarantine on a key leaves the mark of its session
pub quarantined-granted : (key : QKey) (who : Sid) (past : List Step) → list_any (quarantines key who) past ≡ true → WasGranted (marks_of key past) who.number
quarantined-granted key who [] e = absurd (false≢true e)
quarantined-granted key who (s ∷ past) e =
    ⊎_elim
    (λ here. let found = granted_by key who s here in
    record { token = found.token; mark = has-front (Granted who.number found.token) (marks_in key s) (marks_of key past) found.mark })
    (λ there. let found = quarantined-granted key who past there in
    record { token = found.token; mark = has-back (Granted who.number found.token) (marks_in key s) (marks_of key past) found.mark })
    (or_cases (quarantines key who s) (list_any (quarantines key who) past) e)

-- no mark is among none
pub none_in : (mark : Mark) (b : Bool) → Has mark (cond b [] []) → ⊥
none_in mark true h = h
none_in mark false h = h

-- a mark is not among those of another alone
pub one_in : (mark other : Mark) (b : Bool) → (other ≡ mark → ⊥) → Has mark (cond b (other ∷ []) []) → ⊥
one_in mark other true apart h = ⊎_elim apart (λ f. f) h
one_in mark other false apart h = h

-- the end of a quarantine grants none
pub no_grant : (who token sid its : ℕ) (how : How) → Has (Granted who token) (writes_by how ++ Ended sid its ∷ []) → ⊥
no_grant who token sid its ended.Keep h = ⊎_elim (λ e. absurd cc) (λ f. f) h
no_grant who token sid its ended.Drop h = ⊎_elim (λ e. absurd cc) (λ f. f) h
no_grant who token sid its (ended.Put value stamp evicted) h = ⊎_elim (λ e. absurd cc) (λ k. ⊎_elim (λ e. absurd cc) (λ f. f) k) h
no_grant who token sid its (ended.Shift by stamp) h = ⊎_elim (λ e. absurd cc) (λ k. ⊎_elim (λ e. absurd cc) (λ f. f) k) h

-- a granted mark that a step leaves on a key is of a session that it granted a quarantine there
pub step-granted : (key : QKey) (who : Sid) (token : ℕ) (s : Step) → Has (Granted who.number token) (marks_in key s) → quarantines key who s ≡ true
step-granted key who token (step.Granted on sid mode shift now its deadline) h =
    by_test (λ b. Has (Granted who.number token) (cond b (Granted sid.number its ∷ []) []) → (b && (sid.number == who.number)) ≡ true) (same_key key on)
    (λ _. ⊎_elim (λ e. eq-eqb sid.number who.number (same_who e)) (λ f. absurd f))
    (λ _ f. absurd f)
    h
  where
    same_who : {a c s t : ℕ} → Granted a s ≡ Granted c t → a ≡ c
    same_who e = cc
step-granted key who token (step.Released on sid its how) h =
    by_test (λ b. Has (Granted who.number token) (cond b (writes_by how ++ Ended sid.number its ∷ []) []) → false ≡ true) (same_key key on)
    (λ _ k. absurd (no_grant who.number token sid.number its how k))
    (λ _ f. absurd f)
    h
step-granted key who token (step.Lease on sid floor now its deadline) h =
    absurd (one_in (Granted who.number token) (Leased its) (same_key key on) (λ e. absurd cc) h)
step-granted key who token (step.Stored on its now value stamp evicted) h =
    absurd (one_in (Granted who.number token) (Wrote stamp) (same_key key on) (λ e. absurd cc) h)
step-granted key who token (step.Hit on sid floor value stamp) h = absurd (none_in (Granted who.number token) (same_key key on) h)
step-granted key who token (step.Again on sid floor now stands) h = absurd (none_in (Granted who.number token) (same_key key on) h)
step-granted key who token (step.Own on sid) h = absurd (none_in (Granted who.number token) (same_key key on) h)
step-granted key who token (step.Void on its now) h = absurd (none_in (Granted who.number token) (same_key key on) h)
step-granted key who token (step.Held on sid mode) h = absurd (none_in (Granted who.number token) (same_key key on) h)
step-granted key who token (step.Refused on sid mode holder its) h = absurd (none_in (Granted who.number token) (same_key key on) h)
step-granted key who token (step.Gone on sid its) h = absurd (none_in (Granted who.number token) (same_key key on) h)
step-granted key who token (step.Raised on sid its) h = absurd (none_in (Granted who.number token) (same_key key on) h)
step-granted key who token (step.Shared on sid its holder) h = absurd (none_in (Granted who.number token) (same_key key on) h)
step-granted key who token (step.Renewed on sid its now deadline) h = absurd (none_in (Granted who.number token) (same_key key on) h)

-- a session with a granted mark was granted a quarantine by one of the steps
pub granted-quarantined : (key : QKey) (who : Sid) (past : List Step) → WasGranted (marks_of key past) who.number → list_any (quarantines key who) past ≡ true
granted-quarantined key who [] granted = absurd granted.mark
granted-quarantined key who (s ∷ past) granted =
    ⊎_elim
    (λ here. or_left (quarantines key who s) (list_any (quarantines key who) past) (step-granted key who granted.token s here))
    (λ there. or_right (quarantines key who s) (list_any (quarantines key who) past)
    (granted-quarantined key who past (record { token = granted.token; mark = there })))
    (has-split (Granted who.number granted.token) (marks_in key s) (marks_of key past) granted.mark)
