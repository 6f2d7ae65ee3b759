-- What calls show says what a caller concludes of their hits: that each is fresh, holds the caller's own writes, and is no older
-- than an earlier one.
use Rattle.std.proofs.Common.{ℕ, ◌≡◌, List, [], ◌∷◌, ◌++◌, sym, ap, subst, ◌∙◌, lt_of_not-le, arith}
use Rattle.std.proofs.lemmas.Grind.{flat_map-append}
use Rattle.rows_model.specs.declared.keys.QKey.{QKey}
use Rattle.rows_model.specs.declared.keys.Sid.{Sid}
use Rattle.rows_model.specs.Placement.{shard_of}
use Rattle.rows_model.specs.Rows.{Tables}
use Rattle.key_shard.specs.declared.replies.Got.TheVariants as got
use Rattle.key_shard.specs.declared.steps.Step.{Step}
use Rattle.key_shard.specs.Past.{Terms}
use Rattle.session_client.specs.Desks.{Exchange, Asked, Began}
use Rattle.session_client.specs.declared.replies.Reply.TheVariants as Reply
use Rattle.session_client.specs.declared.replies.Wanted.TheVariants as wanted
use Rattle.log_word.specs.declared.seen.Seen.{Seen}
use Rattle.log_word.specs.Lists.{IsStart, steps_of}
use Rattle.log_word.specs.Steps.{IsBeginning}
use Rattle.log_word.proofs.ViewLemmas.{beginning_trans}
use Rattle.key_freshness.specs.Marks.{Ended, Has, HasEnded, marks_in, marks_of}
use Rattle.key_freshness.proofs.KnownLemmas.{more-stood}
use Rattle.key_freshness.proofs.MarkLemmas.{has-back}
use Rattle.bound_hub.specs.Gets.{IsSeenHeld}
use Rattle.bound_hub.specs.Knowns.{commits_of}
use Rattle.bound_hub.specs.Shorts.{shorts_of}
use Rattle.bound_hub.proofs.MarkShorts.{same_marks}
use Rattle.bound_hub.proofs.PastLemmas.{stands_in}
use Rattle.bound_hub.proofs.RuledLemmas.{more_is_known}
use Rattle.desk_book.specs.Books.{Book}
use Rattle.bound_desk.specs.Told.{AreShown}
use Rattle.callers.specs.Desks.{AreServed, IsNoOlder, IsNoOlderThan, IsRunning}
use Rattle.callers.proofs.DeskLemmas.{get_shown, served_fresh}
use Rattle.callers.proofs.OwnLemmas.{holds_own}

-- a quarantine that ended by some steps has, by more
ended_goes_on : (key : QKey) (before one two : List Step) (who : ℕ) → IsStart (shorts_of before one) (shorts_of before two)
    → HasEnded (marks_of key one) who → HasEnded (marks_of key two) who
ended_goes_on key before [] two who start ended = absurd ended.mark
ended_goes_on key before (s ∷ one) two who start ended =
    let at = stands_in before two _ (shorts_of before one) start in
    let same = same_marks key before (at.step ∷ at.rest) (s ∷ one) at.shorts in
    let is : marks_of key two ≡ marks_of key at.later ++ marks_of key (s ∷ one) =
    ap (marks_of key) at.goes_on ∙ flat_map-append (marks_in key) at.later (at.step ∷ at.rest) ∙ ap (λ ms. marks_of key at.later ++ ms) same in
    record {
      token = ended.token;
      mark = subst (λ ms. Has (Ended who ended.token) ms) (sym is) (has-back (Ended who ended.token) (marks_of key at.later) (marks_of key (s ∷ one)) ended.mark);
    }

module _ (opening : Tables) (cap : ℕ) (terms : ℕ → Terms) (before : ℕ → List Step) (shards : ℕ) where
  -- what is held later holds each commit on the key that what was held before does
  later_is_no_older : (key : QKey) (earlier value : List ℕ) (first stamp : ℕ) (old new : Seen) → IsBeginning old new
      → IsSeenHeld opening (before (shard_of key shards)) (shard_of key shards) old key earlier first
      → IsSeenHeld opening (before (shard_of key shards)) (shard_of key shards) new key value stamp → IsNoOlder (commits_of new.events) key first stamp
  later_is_no_older key earlier value first stamp old new begins one two = λ place commit at touched lt.
      let n = shard_of key shards in
      let within = one.held.within in
      let stood = more-stood (more_is_known old new begins) place commit at (omega (arith, lt, within)) in
      let goes : IsStart (shorts_of (before n) one.more) (shorts_of (before n) two.more) =
      subst (λ l. IsStart l (shorts_of (before n) two.more)) one.shorts_are (subst (λ l. IsStart (steps_of n old.steps) l) two.shorts_are (begins.steps n)) in
      let ended = ended_goes_on key (before n) one.more two.more commit.sid.number goes (one.held.settled place commit stood lt touched) in
      lt_of_not-le (λ from. two.held.pending place commit ended.token at from touched ended.mark)

  no_older_than : (calls : List Exchange) (book : Book) (seen after : Seen) (key : QKey) (value : List ℕ) (stamp : ℕ)
      → AreShown opening cap terms before shards calls book seen → IsBeginning seen after
      → IsSeenHeld opening (before (shard_of key shards)) (shard_of key shards) after key value stamp → IsNoOlderThan calls (commits_of after.events) key stamp
  no_older_than [] book seen after key value stamp h begins held = tt
  no_older_than (Asked who (wanted.Get on floor) (Reply.Got (got.Hit earlier first)) ∷ calls) book seen after key value stamp h begins held =
      let goes = beginning_trans h.2 seen after h.3 begins in
      let shows = get_shown opening cap terms before shards who on floor (Reply.Got (got.Hit earlier first)) h.0 book h.1 h.2 h.4.way h.4.by_book h.4.shown in (
        λ same. later_is_no_older key earlier value first stamp h.2 after goes
            (subst (λ k. IsSeenHeld opening (before (shard_of k shards)) (shard_of k shards) h.2 k earlier first) same shows.1) held,
        no_older_than calls h.0 h.1 after key value stamp h.5 (beginning_trans h.1 h.2 after h.4.begins goes) held,
      )
  no_older_than (Began writes who ∷ calls) book seen after key value stamp h begins held =
      no_older_than calls h.1 h.2 after key value stamp h.4 (beginning_trans h.2 seen after h.3 begins) held
  no_older_than (Asked who request reply ∷ calls) book seen after key value stamp h begins held =
      no_older_than calls h.0 h.1 after key value stamp h.5 (beginning_trans h.1 h.2 after h.4.begins (beginning_trans h.2 seen after h.3 begins)) held

  pub served_calls : (calls : List Exchange) (book : Book) (seen : Seen) → AreShown opening cap terms before shards calls book seen
      → AreServed IsRunning opening shards calls seen
  served_calls [] book seen h = tt
  served_calls (Asked who (wanted.Get key floor) (Reply.Got (got.Hit value stamp)) ∷ calls) book seen h =
      let answered = h.4 in
      let shows = get_shown opening cap terms before shards who key floor (Reply.Got (got.Hit value stamp)) h.0 book h.1 h.2 answered.way answered.by_book answered.shown in
      let fresh = served_fresh opening before shards who key floor h.1 h.2 value stamp answered.belongs answered.begins shows in (
        h.1,
        h.2,
        answered.begins,
        h.3,
        record {
          fresh = fresh;
          own = holds_own opening cap terms before shards calls h.0 h.1 h.2 key floor value stamp h.5 answered.begins fresh;
          no_older = λ running. no_older_than calls h.0 h.1 h.2 key value stamp h.5 answered.begins shows.1;
        },
        served_calls calls h.0 h.1 h.5,
      )
  served_calls (Began writes who ∷ calls) book seen h = (h.2, h.3, served_calls calls h.1 h.2 h.4)
  served_calls (Asked who request reply ∷ calls) book seen h =
      (h.1, beginning_trans h.1 h.2 seen h.4.begins h.3, served_calls calls h.0 h.1 h.5)
