-- Which marks stand in lists put together, which stamp was written last, and what a release marks.
use Rattle.std.proofs.Common.{ℕ, ◌≡◌, ◌==◌, Bool, true, false, cond, List, [], ◌∷◌, ◌++◌, Option, Some, refl, ap, subst, sym, ◌⊎◌, inl, inr, ⊎_elim}
use Rattle.std.specs.List.{list_any}
use Rattle.std.proofs.lemmas.Bool.{false≢true, eqb-true, or_cases, and_parts}
use Rattle.rows_model.specs.declared.keys.QKey.{QKey}
use Rattle.rows_model.specs.declared.keys.Sid.{Sid}
use Rattle.rows_model.specs.Key.{same_key}
use Rattle.key_shard.specs.declared.steps.Step.{Step}
use Rattle.key_shard.specs.declared.steps.Step.TheVariants as step
use Rattle.sql_keeper.specs.Fresh.{releases}
use Rattle.key_freshness.specs.Marks.{Mark, Granted, Ended, Leased, Wrote, Has, HasEnded, writes_by, marks_in, marks_of, last_wrote}

-- by whether a test holds
pub by_test : (P : Bool → Type 0) (b : Bool) → (b ≡ true → P true) → (b ≡ false → P false) → P b
by_test P true holds fails = holds refl
by_test P false holds fails = fails refl

pub has-front : (mark : Mark) (xs ys : List Mark) → Has mark xs → Has mark (xs ++ ys)
has-front mark [] ys h = absurd h
has-front mark (x ∷ xs) ys (inl e) = inl e
has-front mark (x ∷ xs) ys (inr h) = inr (has-front mark xs ys h)

pub has-back : (mark : Mark) (xs ys : List Mark) → Has mark ys → Has mark (xs ++ ys)
has-back mark [] ys h = h
has-back mark (x ∷ xs) ys h = inr (has-back mark xs ys h)

pub has-split : (mark : Mark) (xs ys : List Mark) → Has mark (xs ++ ys) → Has mark xs ⊎ Has mark ys
has-split mark [] ys h = inr h
has-split mark (x ∷ xs) ys (inl e) = inl (inl e)
has-split mark (x ∷ xs) ys (inr h) = ⊎_elim (λ l. inl (inr l)) (λ r. inr r) (has-split mark xs ys h)

-- what was written last is what was written last before marks that write nothing
pub last_wrote-append : (more old : List Mark) (start : Option ℕ) → ((n : ℕ) → Has (Wrote n) more → ⊥) → last_wrote (more ++ old) start ≡ last_wrote old start
last_wrote-append [] old start none = refl
last_wrote-append (Granted who token ∷ more) old start none = last_wrote-append more old start (λ n h. none n (inr h))
last_wrote-append (Ended who token ∷ more) old start none = last_wrote-append more old start (λ n h. none n (inr h))
last_wrote-append (Leased token ∷ more) old start none = last_wrote-append more old start (λ n h. none n (inr h))
last_wrote-append (Wrote stamp ∷ more) old start none = absurd (none stamp (inl refl))

-- what was written last has its mark, or stood at the start
pub last_wrote-has : (marks : List Mark) (start : Option ℕ) (stamp : ℕ) → last_wrote marks start ≡ Some stamp → Has (Wrote stamp) marks ⊎ (start ≡ Some stamp)
last_wrote-has [] start stamp e = inr e
last_wrote-has (Granted who token ∷ marks) start stamp e = ⊎_elim (λ h. inl (inr h)) (λ s. inr s) (last_wrote-has marks start stamp e)
last_wrote-has (Ended who token ∷ marks) start stamp e = ⊎_elim (λ h. inl (inr h)) (λ s. inr s) (last_wrote-has marks start stamp e)
last_wrote-has (Leased token ∷ marks) start stamp e = ⊎_elim (λ h. inl (inr h)) (λ s. inr s) (last_wrote-has marks start stamp e)
last_wrote-has (Wrote n ∷ marks) start stamp e = inl (inl (ap Wrote cc))

-- a quarantine that ended has, with more marks
pub ended-back : (who : ℕ) (more marks : List Mark) → HasEnded marks who → HasEnded (more ++ marks) who
ended-back who more marks ended = record { token = ended.token; mark = has-back (Ended who ended.token) more marks ended.mark }

ended_by : (key : QKey) (who : Sid) (s : Step) → releases key who s ≡ true → HasEnded (marks_in key s) who.number
ended_by key who (step.Released on sid token how) e =
    let parts = and_parts (same_key key on) (sid.number == who.number) e in
    let ms = writes_by how ++ Ended sid.number token ∷ [] in
    record {
      token = token;
      mark = subst (λ b. Has (Ended who.number token) (cond b ms [])) (sym parts.0)
          (has-back (Ended who.number token) (writes_by how) (Ended sid.number token ∷ []) (inl (ap (λ n. Ended n token) (eqb-true _ _ parts.1))));
    }
ended_by key who other e = absurd (false≢true e)

-- a release on a key leaves the mark of its session
pub released-ended : (key : QKey) (who : Sid) (past : List Step) → list_any (releases key who) past ≡ true → HasEnded (marks_of key past) who.number
released-ended key who [] e = absurd (false≢true e)
released-ended key who (s ∷ past) e =
    ⊎_elim
    (λ here. let found = ended_by key who s here in
    record { token = found.token; mark = has-front (Ended who.number found.token) (marks_in key s) (marks_of key past) found.mark })
    (λ there. let found = released-ended key who past there in
    record { token = found.token; mark = has-back (Ended who.number found.token) (marks_in key s) (marks_of key past) found.mark })
    (or_cases (releases key who s) (list_any (releases key who) past) e)
