-- How a moment begins, and how marks since it go on.
use Rattle.std.proofs.Common.{ℕ, ◌≡◌, true, List, [], ◌∷◌, ◌++◌, Option, None, refl, ap, ◌∙◌, sym, inl, inr, ⊎_elim, append_assoc}
use Rattle.std.proofs.lemmas.Bool.{false≢true}
use Rattle.rows_model.specs.declared.keys.QKey.{QKey}
use Rattle.lease_table.specs.declared.records.Quar.{Quar}
use Rattle.key_shard.specs.declared.steps.Step.{Step}
use Rattle.key_freshness.specs.Marks.{Mark, Granted, Has, marks_in, marks_of}
use Rattle.key_freshness.specs.Known.{Known, IsRuled}
use Rattle.key_freshness.specs.Moments.{IsMine, IsMoment, IsSince}
use Rattle.key_freshness.specs.Held.{IsTied, stands_as}
use Rattle.key_freshness.proofs.MarkLemmas.{has-split}

-- it is a moment of whoever alone has quarantines that stand
pub moment-of : (key : QKey) (mine : Option ℕ) (marks : List Mark) (known : Known) (start : Option ℕ) (quars : List Quar) (found : Option (List ℕ × ℕ))
    → IsRuled key marks known → IsTied marks start quars found
    → ((who token : ℕ) → stands_as who token quars ≡ true → IsMine mine who) → IsMoment key mine marks known
moment-of key mine marks known start quars found ruled tied alone = record {
  ruled = ruled;
  settled = λ who token h. ⊎_elim (λ stands. inl (alone who token stands)) (λ ended. inr ended) (tied.granted who token h);
}

-- where none stands it is a moment of nobody
pub moment-of-none : (key : QKey) (marks : List Mark) (known : Known) (start : Option ℕ) (found : Option (List ℕ × ℕ))
    → IsRuled key marks known → IsTied marks start [] found
    → IsMoment key None marks known
moment-of-none key marks known start found ruled tied = moment-of key None marks known start [] found ruled tied (λ who token h. false≢true h)

pub since-refl : (mine : Option ℕ) (marks : List Mark) → IsSince mine marks marks
since-refl mine marks = record { more = []; goes_on = refl; only = λ who token h. absurd h }

-- marks that grant nobody else go on since the moment
pub since-append : (mine : Option ℕ) (old new more : List Mark)
    → ((who token : ℕ) → Has (Granted who token) more → IsMine mine who) → IsSince mine old new → IsSince mine old (more ++ new)
since-append mine old new more only since = record {
  more = more ++ since.more;
  goes_on = ap (λ ms. more ++ ms) since.goes_on ∙ sym (append_assoc more since.more old);
  only = λ who token h. ⊎_elim (only who token) (since.only who token) (has-split (Granted who token) more since.more h);
}

-- so does a step that grants nobody else
pub since-step : (key : QKey) (mine : Option ℕ) (old : List Mark) (past : List Step) (s : Step)
    → ((who token : ℕ) → Has (Granted who token) (marks_in key s) → IsMine mine who)
    → IsSince mine old (marks_of key past) → IsSince mine old (marks_of key (s ∷ past))
since-step key mine old past s only since = since-append mine old (marks_of key past) (marks_in key s) only since
