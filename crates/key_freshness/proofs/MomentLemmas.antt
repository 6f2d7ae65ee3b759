-- What stays held and right where more is known, what was known at a moment, and what is stored under a lease.
use Rattle.std.proofs.Common.{ℕ, ◌≡◌, ◌⊎◌, true, List, [], ◌∷◌, ◌++◌, length, Option, None, sym, ap, subst, ◌∙◌, inl, inr, ⊎_elim, arith}
use Rattle.rows_model.specs.declared.keys.QKey.{QKey}
use Rattle.rows_model.specs.Changes.{touches}
use Rattle.sql_keeper.specs.declared.stores.Commit.{Commit}
use Rattle.key_freshness.specs.Marks.{Mark, Granted, Ended, Wrote, Has, HasEnded}
use Rattle.key_freshness.specs.Known.{Known, StandsAt, IsAmong, IsMore, IsRuled}
use Rattle.key_freshness.specs.Moments.{IsMine, IsMoment, IsSince}
use Rattle.key_freshness.specs.Held.{IsHeld}
use Rattle.key_freshness.specs.Laws.{MoreIsHeld, MoreIsRight, KnownThen, StoredIsHeld, StoredIsLatest, StoredIsRight}
use Rattle.key_freshness.proofs.MarkLemmas.{ended-back, has-back, has-split}
use Rattle.key_freshness.proofs.KnownLemmas.{take-whole, more-refl, more-trans, more-length, more-stood, more-take, over-then}

-- a held entry stays held where more is known, and whoever ended since was ended without a commit
pub held_later : (key : QKey) (more marks : List Mark) (old new : Known) (stamp : ℕ) → IsMore old new → IsRuled key marks old → IsRuled key (more ++ marks) new
    → ((who token : ℕ) → Has (Ended who token) more → IsAmong who new.ended) → IsHeld key marks old stamp → IsHeld key (more ++ marks) new stamp
held_later key more marks old new stamp grown ruled_old ruled_new ends held = record {
  within = let k = more-length grown in let h = held.within in omega (arith, k, h);
  pending = λ place commit token at from touched ended.
      ⊎_elim
      (λ since. ruled_new.apart place commit at (ends commit.sid.number token since))
      (λ was.
      let lt = over-then key (more ++ marks) grown ruled_new place commit at (ruled_old.over commit.sid.number token was) in
      held.pending place commit token (more-stood grown place commit at lt) from touched was)
      (has-split (Ended commit.sid.number token) more marks ended);
  settled = λ place commit at before touched.
      let within = held.within in
      ended-back commit.sid.number more marks
      (held.settled place commit (more-stood grown place commit at (omega (arith, before, within))) before touched);
}

pub more_is_held : MoreIsHeld
more_is_held key marks old new stamp more ruled_old ruled_new held =
    held_later key [] marks old new stamp more ruled_old ruled_new (λ who token h. absurd h) held

pub more_is_right : MoreIsRight
more_is_right answer old new value stamp more within right = right ∙ ap answer (sym (more-take more stamp within))

pub known_then : KnownThen
known_then key mine then_marks marks then_known known moment since more ruled place commit at touched =
    let who = commit.sid.number in
    let granted = ruled.covered place commit at touched in
    ⊎_elim
    (λ new. inl (since.only who granted.token new))
    (λ old. ⊎_elim
    (λ m. inl m)
    (λ ended. inr (over-then key marks more ruled place commit at (moment.ruled.over who granted.token ended)))
    (moment.settled who granted.token old))
    (has-split (Granted who granted.token) since.more then_marks (subst (λ ms. Has (Granted who granted.token) ms) since.goes_on granted.mark))

-- since a moment, each commit on the key is of the moment's session, or a quarantine of its own has ended
pub ended_since : (key : QKey) (mine : Option ℕ) (then_marks marks : List Mark) (then_known known : Known) → IsMoment key mine then_marks then_known
    → IsSince mine then_marks marks → IsRuled key marks known → (place : ℕ) (commit : Commit) → StandsAt known.log place commit
    → touches commit.txn key ≡ true → IsMine mine commit.sid.number ⊎ HasEnded marks commit.sid.number
ended_since key mine then_marks marks then_known known moment since ruled place commit at touched =
    let who = commit.sid.number in
    let granted = ruled.covered place commit at touched in
    ⊎_elim
    (λ new. inl (since.only who granted.token new))
    (λ old. ⊎_elim
    (λ m. inl m)
    (λ ended. inr (record {
      token = granted.token;
      mark = subst (λ ms. Has (Ended who granted.token) ms) (sym since.goes_on) (has-back (Ended who granted.token) since.more then_marks ended);
    }))
    (moment.settled who granted.token old))
    (has-split (Granted who granted.token) since.more then_marks (subst (λ ms. Has (Granted who granted.token) ms) since.goes_on granted.mark))

-- so under a lease, each commit on the key has ended one
pub stored_is_settled : (key : QKey) (then_marks marks : List Mark) (then_known known : Known) (stamp : ℕ) → IsMoment key None then_marks then_known
    → IsSince None then_marks marks → IsRuled key marks known → (place : ℕ) (commit : Commit) → StandsAt known.log place commit
    → touches commit.txn key ≡ true → HasEnded (Wrote stamp ∷ marks) commit.sid.number
stored_is_settled key then_marks marks then_known known stamp moment since ruled place commit at touched =
    ended-back commit.sid.number (Wrote stamp ∷ []) marks
    (⊎_elim (λ m. absurd m) (λ ended. ended) (ended_since key None then_marks marks then_known known moment since ruled place commit at touched))

pub stored_is_latest : StoredIsLatest
stored_is_latest key then_marks marks then_known known stamp moment since more ruled asked place commit at from touched =
    ⊎_elim
    (λ m. m)
    (λ lt. absurd (omega (arith, asked, from, lt)))
    (known_then key None then_marks marks then_known known moment since more ruled place commit at touched)

pub stored_is_held : StoredIsHeld
stored_is_held key then_marks marks then_known asked known moment since before after ruled = record {
  within = more-length after;
  pending = λ place commit token at from touched ended.
      stored_is_latest key then_marks marks then_known known (length asked.log) moment since
      (more-trans before after) ruled (more-length before) place commit at from touched;
  settled = λ place commit at low touched.
      stored_is_settled key then_marks marks then_known known (length asked.log) moment since ruled place commit at touched;
}

pub stored_is_right : StoredIsRight
stored_is_right answer asked known value more right =
    more_is_right answer asked known value (length asked.log) more (more-length (more-refl asked)) (right ∙ ap answer (sym (take-whole asked.log)))
