-- A commit that was quarantined, and an end without a commit, keep the rule.
use Rattle.std.proofs.Common.{ℕ, ◌≡◌, true, [], ◌∷◌, ◌++◌, length-append, sym, ap, subst, ◌∙◌, inl, inr, ⊎_elim, append-nil, arith}
use Rattle.rows_model.specs.Changes.{touches}
use Rattle.sql_keeper.specs.declared.stores.Commit.{Commit}
use Rattle.key_freshness.specs.Known.{Known, IsAmong, IsMore, WasGranted}
use Rattle.key_freshness.specs.Laws.{with_commit, with_end, CommitsKeep, EndsKeep}
use Rattle.key_freshness.proofs.KnownLemmas.{stands-pushed, over-more}

-- one more commit is more
pub more-commit : (known : Known) (commit : Commit) → IsMore known (with_commit known commit)
more-commit known commit = record { more = commit ∷ []; goes_on = λ i. known.log ++ commit ∷ []; kept = λ who h. h }

-- one more end is more
pub more-end : (known : Known) (who : ℕ) → IsMore known (with_end known who)
more-end known who = record { more = []; goes_on = sym (append-nil known.log); kept = λ other h. inr h }

pub commits_keep : CommitsKeep
commits_keep key marks known commit ongoing granted ruled = record {
  over = λ who token h. over-more (more-commit known commit) who (ruled.over who token h);
  once = λ i j a b at bt same. ⊎_elim
      (λ old. ⊎_elim
      (λ its. ruled.once i j a b old its same)
      (λ last. absurd (ongoing (inl (record { place = i; commit = a; at = old; own = same ∙ sym (ap (λ c. c.sid.number) last.1) }))))
      (stands-pushed known.log commit b j bt))
      (λ last. ⊎_elim
      (λ its. absurd (ongoing (inl (record { place = j; commit = b; at = its; own = sym same ∙ sym (ap (λ c. c.sid.number) last.1) }))))
      (λ its. last.0 ∙ sym its.0)
      (stands-pushed known.log commit b j bt))
      (stands-pushed known.log commit a i at);
  apart = λ place c at h. ⊎_elim
      (λ old. ruled.apart place c old h)
      (λ last. ongoing (inr (subst (λ d. IsAmong d.sid.number known.ended) (sym last.1) h)))
      (stands-pushed known.log commit c place at);
  covered = λ place c at touched. ⊎_elim
      (λ old. ruled.covered place c old touched)
      (λ last. let P : Commit → Type 0 = λ d. touches d.txn key ≡ true → WasGranted marks d.sid.number in subst P last.1 granted touched)
      (stands-pushed known.log commit c place at);
  wrote = λ stamp h. let k = ruled.wrote stamp h in let e = length-append known.log (commit ∷ []) in omega (arith, k, e);
}

pub ends_keep : EndsKeep
ends_keep key marks known who ongoing ruled = record {
  over = λ other token h. over-more (more-end known who) other (ruled.over other token h);
  once = ruled.once;
  apart = λ place commit at. ⊎_elim
      (λ e. ongoing (record { place = place; commit = commit; at = at; own = sym e }))
      (λ h. ruled.apart place commit at h);
  covered = ruled.covered;
  wrote = ruled.wrote;
}
