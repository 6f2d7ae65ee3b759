-- A release's step: it is honest where its session is over, and its answer tells it in short.
use Rattle.std.proofs.Common.{ℕ, ◌≡◌, ◌≤◌, ◌==◌, ◌++◌, Bool, true, false, List, [], ◌∷◌, length, take, slice_get, Some, refl, sym, ap, subst, ◌∙◌, ⊎_elim, arith}
use Rattle.std.proofs.lemmas.Bool.{false≢true, eq-eqb, or_left, or_right}
use Rattle.std.proofs.lemmas.Option.{slice_get_within}
use Rattle.rows_model.specs.declared.keys.QKey.{QKey}
use Rattle.rows_model.specs.declared.keys.Sid.{Sid}
use Rattle.rows_model.specs.Placement.{shard_of}
use Rattle.rows_model.specs.Rows.{Tables}
use Rattle.lease_table.specs.declared.records.Quar.{Quar}
use Rattle.key_shard.specs.declared.replies.How.{How}
use Rattle.key_shard.specs.declared.replies.How.TheVariants as hows
use Rattle.key_shard.specs.declared.replies.Rel.{Rel}
use Rattle.key_shard.specs.declared.replies.Rel.TheVariants as rel
use Rattle.key_shard.specs.declared.steps.Ended.{Ended}
use Rattle.key_shard.specs.declared.steps.Ended.TheVariants as ended
use Rattle.key_shard.specs.declared.steps.Step.{Step}
use Rattle.key_shard.specs.declared.steps.Step.TheVariants as step
use Rattle.key_shard.specs.Past.{quar_of, standing, evicts}
use Rattle.key_shard.specs.Permit.{Permit}
use Rattle.key_shard.specs.Answers.{IsLegalPast, ended_as, release_step, replace_step}
use Rattle.key_shard.specs.Replies.{ShowsRelease}
use Rattle.key_shard.specs.Shards.{ShardView, past_of, is_out}
use Rattle.key_shard.proofs.CaseLemmas.{release_cases, replace_cases}
use Rattle.key_shard.proofs.LegalLemmas.{legal_stands_well, own_token}
use Rattle.sql_keeper.specs.declared.stores.Commit.{Commit}
use Rattle.log_word.specs.declared.events.ShortKind.TheVariants as kinds
use Rattle.log_word.specs.declared.events.StoreEvent.{StoreEvent}
use Rattle.log_word.specs.declared.events.StoreEvent.TheVariants as event
use Rattle.log_word.specs.declared.seen.Seen.{Seen}
use Rattle.log_word.specs.Events.{commit_count, is_over}
use Rattle.log_word.specs.Steps.{IsSound, IsBeginning, IsBorneOut}
use Rattle.log_word.specs.Passes.{WordView, ShardPassView}
use Rattle.log_word.proofs.ViewLemmas.{beginning_trans}
use Rattle.key_freshness.specs.Marks.{Ended as EndedMark, Wrote, key_of, marks_of}
use Rattle.key_freshness.specs.Known.{IsAmong, IsOver}
use Rattle.key_freshness.specs.Held.{IsHeld, stands_as}
use Rattle.key_freshness.specs.Laws.{IsHonest, EndsItsOwn}
use Rattle.key_freshness.proofs.KnownLemmas.{stands-pushed, more-stands, more-take}
use Rattle.bound_hub.specs.Knowns.{commits_of, ended_of, known_of}
use Rattle.bound_hub.specs.Releases.{MayRelease}
use Rattle.bound_hub.specs.Writes.{WasAlone, IsLawful, MayPut, MayShift, refreshed_by, shifted_by}
use Rattle.bound_hub.specs.Facts.{answer_after}
use Rattle.bound_hub.specs.Shorts.{kind_of_end, stamp_of_end, short, short_of}
use Rattle.bound_hub.specs.Ties.{IsBoundShard}
use Rattle.bound_hub.specs.StepShorts.{kind_of_how, stamp_of_how, release_short, replace_short}
use Rattle.bound_hub.proofs.EventLemmas.{commits_counted, over_is_known, known_goes_on}
use Rattle.bound_hub.proofs.FactLemmas.{was_not}
use Rattle.bound_hub.proofs.StandingGrants.{own_quar}
use Rattle.bound_hub.proofs.QuarantineLemmas.{still_over}
use Rattle.bound_hub.proofs.RuledLemmas.{more_is_known}
use Rattle.bound_hub.proofs.StepFacts.{IsTrueStep, IsHonestStep}
use Rattle.bound_hub.proofs.WriteTies.{written_held, put_is_right, shift_is_right}

-- what was seen of a writer's commit is seen later, too
abbrev alone_goes_on : (shards number : ℕ) (key : QKey) (who token stamp : ℕ) (old new : Seen) → IsBeginning old new → WasAlone shards number key who token stamp old
    → WasAlone shards number key who token stamp new
alone_goes_on shards number key who token stamp old new begins was = record {
  earlier = was.earlier;
  sound = was.sound;
  begins = beginning_trans was.earlier old new was.begins begins;
  step = was.step;
  last = was.last;
  alone = was.alone;
  own = was.own;
  place = was.place;
  at = more-stands (more_is_known old new begins) was.place was.own was.at;
  its_own = was.its_own;
  stamp_is = was.stamp_is;
  late = was.late;
}

-- the log up to the own commit is the same
same_early : (shards number : ℕ) (key : QKey) (who token stamp : ℕ) (old new : Seen) → IsBeginning old new → WasAlone shards number key who token stamp old
    → take stamp (commits_of old.events) ≡ take stamp (commits_of new.events)
same_early shards number key who token stamp old new begins was =
    let within = slice_get_within (commits_of old.events) was.place was.own was.at in
    let is = was.stamp_is in
    sym (more-take (more_is_known old new begins) stamp (omega (arith, within, is)))

shift_goes_on : (opening : Tables) (shards number : ℕ) (key : QKey) (who token stamp : ℕ) (old new : Seen) → IsBeginning old new → MayShift opening shards number key who token stamp old
    → MayShift opening shards number key who token stamp new
shift_goes_on opening shards number key who token stamp old new begins may = record {
  alone = alone_goes_on shards number key who token stamp old new begins may.alone;
  granted = may.granted;
  by_so_much = may.by_so_much;
  lawful = λ telling.
      subst (IsLawful key (answer_after opening key) (shifted_by key)) (same_early shards number key who token stamp old new begins may.alone)
      (may.lawful (was_not old.stopped new.stopped begins.stopped telling));
}

pub put_goes_on : (opening : Tables) (before : List Step) (shards number : ℕ) (key : QKey) (who token : ℕ) (value : List ℕ) (stamp : ℕ) (old new : Seen) → IsBeginning old new
    → MayPut opening before shards number key who token value stamp old → MayPut opening before shards number key who token value stamp new
put_goes_on opening before shards number key who token value stamp old new begins may = record {
  alone = alone_goes_on shards number key who token stamp old new begins may.alone;
  old = may.old;
  old_stamp = may.old_stamp;
  held = may.held;
  lawful = λ telling.
      subst (IsLawful key (answer_after opening key) (refreshed_by key)) (same_early shards number key who token stamp old new begins may.alone)
      (may.lawful (was_not old.stopped new.stopped begins.stopped telling));
  made = may.made;
}

-- what was seen of a session that is over is seen later, too
pub may_goes_on : (opening : Tables) (shards number : ℕ) (grant : Permit) (how : How) (old new : Seen) → IsBeginning old new → MayRelease opening shards number grant how old
    → MayRelease opening shards number grant how new
may_goes_on opening shards number grant hows.Keep old new begins may = (known_goes_on old.events new.events begins.events).kept grant.sid.number may
may_goes_on opening shards number grant hows.Drop old new begins may = still_over grant.sid.number old.events new.events begins.events may
may_goes_on opening shards number grant (hows.Shift stamp) old new begins may =
    shift_goes_on opening shards number grant.key grant.sid.number grant.token stamp old new begins may

-- a session that was ended is over
ended_is_over : (events : List StoreEvent) (who : ℕ) → IsAmong who (ended_of events) → is_over who events ≡ true
ended_is_over [] who h = absurd h
ended_is_over (event.Begin sid worker writes ∷ events) who h = ended_is_over events who h
ended_is_over (event.Commit sid txn ∷ events) who h = or_right (sid.number == who) (is_over who events) (ended_is_over events who h)
ended_is_over (event.End sid ∷ events) who h =
    ⊎_elim (λ e. or_left (sid.number == who) (is_over who events) (eq-eqb sid.number who e)) (λ among. or_right (sid.number == who) (is_over who events) (ended_is_over events who among)) h

-- and so is one that has committed
logged_is_over : (events : List StoreEvent) (place : ℕ) (commit : Commit) → slice_get (commits_of events) place ≡ Some commit → is_over commit.sid.number events ≡ true
logged_is_over [] place commit at = absurd cc
logged_is_over (event.Begin sid worker writes ∷ events) place commit at = logged_is_over events place commit at
logged_is_over (event.Commit sid txn ∷ events) place commit at =
    ⊎_elim
    (λ was. or_right (sid.number == commit.sid.number) (is_over commit.sid.number events) (logged_is_over events place commit was))
    (λ last. or_left (sid.number == commit.sid.number) (is_over commit.sid.number events) (eq-eqb sid.number commit.sid.number (ap (λ (c : Commit). c.sid.number) last.1)))
    (stands-pushed (commits_of events) (record { sid = sid; txn = txn }) commit place at)
logged_is_over (event.End sid ∷ events) place commit at = or_right (sid.number == commit.sid.number) (is_over commit.sid.number events) (logged_is_over events place commit at)

same_sid : (a b : Sid) → a.number ≡ b.number → a ≡ b
same_sid a b e = λ i. record { number = e i }

same_kind : (quar : Quar) (how : How) → kind_of_end (ended_as quar how) ≡ kind_of_how how
same_kind quar hows.Keep = refl
same_kind quar hows.Drop = refl
same_kind quar (hows.Shift stamp) = refl

same_stamp : (quar : Quar) (how : How) → stamp_of_end (ended_as quar how) ≡ stamp_of_how how
same_stamp quar hows.Keep = refl
same_stamp quar hows.Drop = refl
same_stamp quar (hows.Shift stamp) = refl

-- who wrote under its own commit is over, and its stamp is a number of commits
over_by_commit : (shards number : ℕ) (key : QKey) (who token stamp : ℕ) (seen : Seen) → WasAlone shards number key who token stamp seen → is_over who seen.events ≡ true
over_by_commit shards number key who token stamp seen was = subst (λ w. is_over w seen.events ≡ true) was.its_own (logged_is_over seen.events was.place was.own was.at)

within_commits : (shards number : ℕ) (key : QKey) (who token stamp : ℕ) (seen : Seen) → WasAlone shards number key who token stamp seen → stamp ≤ commit_count seen.events
within_commits shards number key who token stamp seen was =
    let within = slice_get_within (commits_of seen.events) was.place was.own was.at in
    let is = was.stamp_is in
    let e : length (commits_of seen.events) ≡ commit_count seen.events = commits_counted seen.events in
    omega (arith, within, is, e)

module _ (word : WordView) (opening : Tables) (before : ℕ → List Step) (old : ShardView) (pass : ShardPassView) (bound : IsBoundShard word opening before old pass)
    (legal : IsLegalPast old.terms (past_of old)) (sound : IsSound pass.word.shards pass.seen) (grant : Permit) (out : is_out old grant ≡ true) where
  abbrev number : ℕ
  number = old.terms.no

  -- the quarantine that ends is the grant's own
  same : (quar : Quar) → quar_of grant.key grant.token (past_of old) ≡ Some quar → quar.sid.number ≡ grant.sid.number
  same quar stands = own_quar before old bound.more bound.quiet bound.goes_on legal grant (bound.outs grant out) quar stands

  own_end : (quar : Quar) → quar_of grant.key grant.token (past_of old) ≡ Some quar → (how_ended : Ended)
      → EndsItsOwn (bound.more ++ before number) (step.Released grant.key quar.sid grant.token how_ended)
  own_end quar stands how_ended = λ who its.
      sym (own_token old.terms (past_of old) grant.key who grant.token quar (legal_stands_well old.terms (past_of old) legal grant.key)
      (subst (λ past. stands_as who grant.token (standing grant.key past) ≡ true) (sym bound.goes_on) its) stands)

  over_known : (who : ℕ) → is_over who pass.seen.events ≡ true → IsOver (known_of pass.seen.events) who
  over_known who over = over_is_known pass.seen.events who over

  -- what is written with the number of the own commit is held
  held_end : (home : shard_of grant.key word.shards ≡ number) (stamp : ℕ) (was : WasAlone word.shards number grant.key grant.sid.number grant.token stamp pass.seen)
      (quar : Quar) (stands : quar_of grant.key grant.token (past_of old) ≡ Some quar)
      → IsOver (known_of pass.seen.events) quar.sid.number × IsHeld grant.key (Wrote stamp ∷ EndedMark quar.sid.number grant.token ∷ marks_of grant.key bound.more) (known_of pass.seen.events) stamp
  held_end home stamp was quar stands =
      subst (λ w. IsOver (known_of pass.seen.events) w × IsHeld grant.key (Wrote stamp ∷ EndedMark w grant.token ∷ marks_of grant.key bound.more) (known_of pass.seen.events) stamp)
      (sym (same quar stands)) (
        over_known grant.sid.number (over_by_commit word.shards number grant.key grant.sid.number grant.token stamp pass.seen was),
        written_held word opening before old pass bound legal sound grant.key grant.sid.number grant.token stamp home was quar stands,
      )

  module _ (how : How) where
    abbrev s : Step
    s = release_step (past_of old) grant how

    pub release_on : key_of s ≡ grant.key
    release_on = release_cases (λ x. key_of x ≡ grant.key) (past_of old) grant how (λ _ _. refl) (λ _. refl)

    module _ (home : shard_of grant.key word.shards ≡ number) where
      honest_end : (quar : Quar) → quar_of grant.key grant.token (past_of old) ≡ Some quar → (h : How) → MayRelease opening word.shards number grant h pass.seen
          → IsHonest (known_of pass.seen.events) bound.more (step.Released grant.key quar.sid grant.token (ended_as quar h))
      honest_end quar stands hows.Keep may = subst (λ w. IsAmong w (ended_of pass.seen.events)) (sym (same quar stands)) may
      honest_end quar stands hows.Drop may = subst (IsOver (known_of pass.seen.events)) (sym (same quar stands)) (over_known grant.sid.number may)
      honest_end quar stands (hows.Shift stamp) may = held_end home stamp may.alone quar stands

      true_end : (quar : Quar) → quar_of grant.key grant.token (past_of old) ≡ Some quar → (h : How) → MayRelease opening word.shards number grant h pass.seen → pass.seen.stopped ≡ false
          → IsTrueStep opening (commits_of pass.seen.events) (bound.more ++ before number) (step.Released grant.key quar.sid grant.token (ended_as quar h))
      true_end quar stands hows.Keep may telling = tt
      true_end quar stands hows.Drop may telling = tt
      true_end quar stands (hows.Shift stamp) may telling =
          shift_is_right word opening before old pass bound legal sound grant.key grant.sid.number grant.token stamp home quar stands may telling

      pub release_is_honest : MayRelease opening word.shards number grant how pass.seen → IsHonestStep opening (before number) bound.more pass.seen s
      release_is_honest may =
          release_cases (IsHonestStep opening (before number) bound.more pass.seen) (past_of old) grant how
          (λ quar stands. record {
            own = own_end quar stands (ended_as quar how);
            honest = honest_end quar stands how may;
            true_step = true_end quar stands how may;
            fresh_step = λ _. tt;
          })
          (λ _. record { own = tt; honest = tt; true_step = λ _. tt; fresh_step = λ _. tt })

    pub release_tells : (answer : Rel) (has : Bool) → ShowsRelease s answer → release_short grant.key grant.sid grant.token how answer has ≡ short_of s has
    release_tells answer has =
        release_cases (λ x. ShowsRelease x answer → release_short grant.key grant.sid grant.token how answer has ≡ short_of x has) (past_of old) grant how
        (λ quar stands shows.
        ap (λ a. release_short grant.key grant.sid grant.token how a has) shows
        ∙ (λ i. short (sym (same_kind quar how) i) grant.key (same_sid grant.sid quar.sid (sym (same quar stands)) i) grant.token (sym (same_stamp quar how) i) has))
        (λ _ shows. ap (λ a. release_short grant.key grant.sid grant.token how a has) shows)

    pub release_borne_out : MayRelease opening word.shards number grant how pass.seen → (answer : Rel) (has : Bool)
        → IsBorneOut pass.seen.events (release_short grant.key grant.sid grant.token how answer has)
    release_borne_out may answer has = by how may answer
      where
        by : (h : How) → MayRelease opening word.shards number grant h pass.seen → (a : Rel) → IsBorneOut pass.seen.events (release_short grant.key grant.sid grant.token h a has)
        by hows.Keep may (rel.Released evicted) = record { begun = λ e. absurd (false≢true e); over = λ _. ended_is_over pass.seen.events grant.sid.number may; stamped = omega arith }
        by hows.Drop may (rel.Released evicted) = record { begun = λ e. absurd (false≢true e); over = λ _. may; stamped = omega arith }
        by (hows.Shift stamp) may (rel.Released evicted) = record {
          begun = λ e. absurd (false≢true e);
          over = λ _. over_by_commit word.shards number grant.key grant.sid.number grant.token stamp pass.seen may.alone;
          stamped = within_commits word.shards number grant.key grant.sid.number grant.token stamp pass.seen may.alone;
        }
        by h may rel.Gone = record { begun = λ e. absurd (false≢true e); over = λ e. absurd (false≢true e); stamped = omega arith }

  module _ (value : List ℕ) (stamp : ℕ) where
    abbrev r : Step
    r = replace_step old.terms (past_of old) grant value stamp

    pub replace_on : key_of r ≡ grant.key
    replace_on = replace_cases (λ x. key_of x ≡ grant.key) old.terms (past_of old) grant value stamp (λ _ _. refl) (λ _. refl)

    pub replace_is_honest : shard_of grant.key word.shards ≡ number → MayPut opening (before number) word.shards number grant.key grant.sid.number grant.token value stamp pass.seen
        → IsHonestStep opening (before number) bound.more pass.seen r
    replace_is_honest home may =
        replace_cases (IsHonestStep opening (before number) bound.more pass.seen) old.terms (past_of old) grant value stamp
        (λ quar stands. record {
          own = own_end quar stands (ended.Put value stamp (evicts old.terms grant.key (past_of old)));
          honest = held_end home stamp may.alone quar stands;
          true_step = λ telling. put_is_right word opening before old pass bound legal sound grant.key grant.sid.number grant.token stamp home quar stands value may telling;
          fresh_step = λ _. tt;
        })
        (λ _. record { own = tt; honest = tt; true_step = λ _. tt; fresh_step = λ _. tt })

    pub replace_tells : (answer : Rel) (has : Bool) → ShowsRelease r answer → replace_short grant.key grant.sid grant.token stamp answer has ≡ short_of r has
    replace_tells answer has =
        replace_cases (λ x. ShowsRelease x answer → replace_short grant.key grant.sid grant.token stamp answer has ≡ short_of x has) old.terms (past_of old) grant value stamp
        (λ quar stands shows.
        ap (λ a. replace_short grant.key grant.sid grant.token stamp a has) shows
        ∙ (λ i. short kinds.Put grant.key (same_sid grant.sid quar.sid (sym (same quar stands)) i) grant.token stamp has))
        (λ _ shows. ap (λ a. replace_short grant.key grant.sid grant.token stamp a has) shows)

    pub replace_borne_out : MayPut opening (before number) word.shards number grant.key grant.sid.number grant.token value stamp pass.seen → (answer : Rel) (has : Bool)
        → IsBorneOut pass.seen.events (replace_short grant.key grant.sid grant.token stamp answer has)
    replace_borne_out may (rel.Released evicted) has = record {
      begun = λ e. absurd (false≢true e);
      over = λ _. over_by_commit word.shards number grant.key grant.sid.number grant.token stamp pass.seen may.alone;
      stamped = within_commits word.shards number grant.key grant.sid.number grant.token stamp pass.seen may.alone;
    }
    replace_borne_out may rel.Gone has = record { begun = λ e. absurd (false≢true e); over = λ e. absurd (false≢true e); stamped = omega arith }
