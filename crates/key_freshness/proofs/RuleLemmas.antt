-- More marks keep the rule and each held entry.
use Rattle.std.proofs.Common.{ℕ, ◌≡◌, ◌≤◌, List, [], ◌∷◌, ◌++◌, length, true, subst, ⊎_elim}
use Rattle.rows_model.specs.declared.keys.QKey.{QKey}
use Rattle.rows_model.specs.Changes.{touches}
use Rattle.sql_keeper.specs.declared.stores.Commit.{Commit}
use Rattle.key_freshness.specs.Marks.{Mark, Granted, Ended, Wrote, Has}
use Rattle.key_freshness.specs.Known.{Known, StandsAt, IsOver, IsRuled}
use Rattle.key_freshness.specs.Held.{IsHeld}
use Rattle.key_freshness.proofs.MarkLemmas.{ended-back, has-back, has-split}

wrote-same : {a b : ℕ} → Wrote a ≡ Wrote b → a ≡ b
wrote-same e = cc

pub ended-same : {a b s t : ℕ} → Ended a s ≡ Ended b t → a ≡ b
ended-same e = cc

-- more marks keep the rule where whoever ended is over, and nothing is stamped above the log
pub ruled-append : (key : QKey) (more marks : List Mark) (known : Known) → ((who token : ℕ) → Has (Ended who token) more → IsOver known who)
    → ((stamp : ℕ) → Has (Wrote stamp) more → stamp ≤ length known.log) → IsRuled key marks known → IsRuled key (more ++ marks) known
ruled-append key more marks known over wrote ruled = record {
  over = λ who token h. ⊎_elim (over who token) (ruled.over who token) (has-split (Ended who token) more marks h);
  once = ruled.once;
  apart = ruled.apart;
  covered = λ place commit at touched.
      let granted = ruled.covered place commit at touched in
      record { token = granted.token; mark = has-back (Granted commit.sid.number granted.token) more marks granted.mark };
  wrote = λ stamp h. ⊎_elim (wrote stamp) (ruled.wrote stamp) (has-split (Wrote stamp) more marks h);
}

-- the rule after a value was written
pub ruled-wrote : (key : QKey) (known : Known) (marks : List Mark) (stamp : ℕ)
    → stamp ≤ length known.log → IsRuled key marks known → IsRuled key (Wrote stamp ∷ marks) known
ruled-wrote key known marks stamp within ruled =
    ruled-append key (Wrote stamp ∷ []) marks known
    (λ who token. ⊎_elim (λ e. absurd cc) (λ h. absurd h))
    (λ n. ⊎_elim (λ e. subst (λ (k : ℕ). k ≤ length known.log) (wrote-same e) within) (λ h. absurd h))
    ruled

-- the rule after a quarantine of a session that is over ended
pub ruled-ended : (key : QKey) (known : Known) (marks : List Mark) (who token : ℕ)
    → IsOver known who → IsRuled key marks known → IsRuled key (Ended who token ∷ marks) known
ruled-ended key known marks who token over ruled =
    ruled-append key (Ended who token ∷ []) marks known
    (λ other its. ⊎_elim (λ e. subst (λ n. IsOver known n) (ended-same e) over) (λ h. absurd h))
    (λ n. ⊎_elim (λ e. absurd cc) (λ h. absurd h))
    ruled

-- more marks keep an entry held where whoever ended has no commit on the key that it lacks
pub held-append : (key : QKey) (more marks : List Mark) (known : Known) (stamp : ℕ)
    → ((place : ℕ) (commit : Commit) (token : ℕ) → StandsAt known.log place commit
    → stamp ≤ place → touches commit.txn key ≡ true → Has (Ended commit.sid.number token) more → ⊥)
    → IsHeld key marks known stamp → IsHeld key (more ++ marks) known stamp
held-append key more marks known stamp none held = record {
  within = held.within;
  pending = λ place commit token at from touched h.
      ⊎_elim (none place commit token at from touched) (held.pending place commit token at from touched)
      (has-split (Ended commit.sid.number token) more marks h);
  settled = λ place commit at before touched. ended-back commit.sid.number more marks (held.settled place commit at before touched);
}
