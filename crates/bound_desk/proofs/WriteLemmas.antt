-- What the book bears out may be written: a new value, a shift. And a value may stay.
use Rattle.std.proofs.Common.{ℕ, ◌≡◌, ◌&&◌, ◌||◌, Bool, true, false, cond, not, List, take, Option, Some, None, IsSomeAnd, refl, sym, ap, subst, ◌∙◌, inl, ⊎_elim, arith}
use Rattle.std.specs.Option.{ForSome}
use Rattle.std.proofs.lemmas.Bool.{false≢true, eqb-true}
use Rattle.std.proofs.lemmas.Option.{none-some, same_Some}
use Rattle.rows_model.specs.declared.changes.Change.{Change}
use Rattle.rows_model.specs.declared.keys.Sid.{Sid}
use Rattle.rows_model.specs.Delta.{delta_of, is_count}
use Rattle.rows_model.specs.Placement.{shard_of}
use Rattle.rows_model.specs.Rows.{Tables}
use Rattle.lease_table.specs.declared.records.Mode.TheVariants as mode
use Rattle.key_shard.specs.declared.steps.Step.{Step}
use Rattle.key_shard.specs.Permit.{Permit}
use Rattle.session_client.specs.Wants.{new_value}
use Rattle.session_client.specs.declared.replies.Wanted.TheVariants as wanted
use Rattle.log_word.specs.declared.seen.Seen.{Seen}
use Rattle.log_word.specs.Events.{is_over}
use Rattle.log_word.specs.Steps.{IsBeginning, IsSound}
use Rattle.log_word.proofs.ViewLemmas.{beginning_same}
use Rattle.key_freshness.specs.Known.{IsAmong, IsLogged}
use Rattle.key_freshness.proofs.KnownLemmas.{more-stands}
use Rattle.key_freshness.proofs.MarkLemmas.{by_test}
use Rattle.bound_hub.specs.Knowns.{commits_of, ended_of}
use Rattle.bound_hub.specs.Olds.{IsOldHeld}
use Rattle.bound_hub.specs.Shorts.{is_alone}
use Rattle.bound_hub.specs.Stores.{ShowsEnd}
use Rattle.bound_hub.specs.TrueLogs.{IsTrueLog}
use Rattle.bound_hub.specs.Writes.{refreshed_by, MayPut, MayShift, WasAlone}
use Rattle.bound_hub.proofs.EventLemmas.{over_is_known}
use Rattle.bound_hub.proofs.QuarantineLemmas.{still_over}
use Rattle.bound_hub.proofs.RuledLemmas.{more_is_known}
use Rattle.bound_hub.proofs.SessionLemmas.{closed_is_over}
use Rattle.bound_hub.proofs.TrueLogLemmas.{lawful_to_refresh, lawful_to_shift}
use Rattle.desk_book.specs.Books.{Book, Held, is_of}
use Rattle.desk_book.specs.Books as books
use Rattle.desk_book.specs.Borne.{IsBorne, Refreshes, Shifts}
use Rattle.desk_book.specs.declared.facts.Committed.{Committed}
use Rattle.desk_book.specs.declared.facts.Present.{Present}
use Rattle.bound_desk.specs.Bound.{quit_after, IsPresentSeen, IsQuitSeen}
use Rattle.bound_desk.specs.Writing.{IsAloneSeen, IsHeldSeen, IsPlaced, IsReadyToWrite}
use Rattle.bound_desk.proofs.BoundLemmas.{at_any}
use Rattle.bound_desk.proofs.GrantNotes.{present_writes}

present_is : (present : Option Present) (who : Sid) → is_of present who ≡ true → (one : Present) × (present ≡ Some one) × (one.sid.number ≡ who.number)
present_is (Some one) who is = (one, refl, eqb-true one.sid.number who.number is)
present_is None who is = absurd (false≢true is)

commit_is : (commit : Option Committed) (P : Committed → Type 0) → IsSomeAnd commit P → (done : Committed) × (commit ≡ Some done) × P done
commit_is (Some done) P h = (done, refl, h)
commit_is None P h = absurd h

module _ (opening : Tables) (before : ℕ → List Step) (shards : ℕ) (seen : Seen) (commit : Option Committed) (who : Sid) (done : Committed) (one : Held)
    (alone : IsAloneSeen opening before shards commit seen one) (is : commit ≡ Some done) (placed : IsPlaced opening seen who done)
    (mine : who.number ≡ one.permit.sid.number) (stamp : ℕ) (numbered : done.number ≡ stamp) where
  -- the quarantine stood alone when the pass had seen less, and its session has committed since
  abbrev was_alone : WasAlone shards (shard_of one.permit.key shards) one.permit.key one.permit.sid.number one.permit.token stamp seen
  was_alone = record {
    earlier = alone.earlier;
    sound = alone.sound;
    begins = alone.begins;
    step = alone.stood.step;
    last = alone.stood.last;
    alone = alone.stood.alone;
    own = placed.own;
    place = placed.place;
    at = placed.at;
    its_own = placed.its_own ∙ mine;
    stamp_is = sym numbered ∙ placed.number_is;
    late = let lt = alone.late done is in let e = placed.number_is in omega (arith, lt, e);
  }

  true_log : seen.stopped ≡ false → IsTrueLog opening (take stamp (commits_of seen.events))
  true_log telling = subst (λ n. IsTrueLog opening (take n (commits_of seen.events))) numbered (placed.applied telling)

  put_with : (value : List ℕ) (old : Option (List ℕ × ℕ)) → new_value one.permit.key done.txn old ≡ Some value
      → IsOldHeld opening (before (shard_of one.permit.key shards)) (shard_of one.permit.key shards) alone.earlier one.permit.key old
      → MayPut opening (before (shard_of one.permit.key shards)) shards (shard_of one.permit.key shards) one.permit.key one.permit.sid.number one.permit.token value stamp seen
  put_with value (Some old) made held = record {
    alone = was_alone;
    old = old.0;
    old_stamp = old.1;
    held = held;
    lawful = λ telling. lawful_to_refresh opening (take stamp (commits_of seen.events)) (true_log telling) one.permit.key;
    made = subst (λ (txn : List Change). refreshed_by one.permit.key txn old.0 ≡ Some value) (sym placed.txn_is) made;
  }
  put_with value None made held = absurd (none-some value made)

  shift_with : one.permit.mode ≡ mode.Delta → is_count one.permit.key ≡ true → one.by ≡ delta_of one.permit.key done.txn
      → MayShift opening shards (shard_of one.permit.key shards) one.permit.key one.permit.sid.number one.permit.token stamp seen
  shift_with delta counts by_is = record {
    alone = was_alone;
    granted = (alone.stood.shifts delta).0;
    by_so_much = (alone.stood.shifts delta).1 ∙ by_is ∙ ap (λ (txn : List Change). delta_of one.permit.key txn) (sym placed.txn_is);
    lawful = λ telling. lawful_to_shift opening (take stamp (commits_of seen.events)) (true_log telling) one.permit.key counts;
  }

-- a new value that the book bears out may be put
pub borne_may_put : (opening : Tables) (before : ℕ → List Step) (shards : ℕ) (book : Book) (seen : Seen) (who : Sid) (grant : Permit) (value : List ℕ) (stamp : ℕ)
    → IsReadyToWrite opening before shards book seen → grant.mode ≡ mode.Refresh → IsBorne book who (wanted.Sar grant (Some value) stamp)
    → MayPut opening (before (shard_of grant.key shards)) shards (shard_of grant.key shards) grant.key grant.sid.number grant.token value stamp seen
borne_may_put opening before shards book seen who grant value stamp h refreshes borne =
    let present = present_is book.present who borne.0.0 in
    let did = commit_is book.commit (λ done. (done.number ≡ stamp) × Refreshes book grant value done.txn) borne.1 in
    let done = did.0 in
    let found = at_any (λ (one : Held). (one.permit ≡ grant) × (new_value grant.key done.txn one.old ≡ Some value)) (IsHeldSeen opening before shards book.commit seen) book.held h.held did.2.1 in
    let one = found.0 in
    let same = found.1.0 in
    let alone = found.2 (ap (λ (p : Permit). is_alone p.mode) same ∙ ap (λ m. is_alone m) refreshes) in
    let mine : who.number ≡ one.permit.sid.number = sym (ap (λ (s : Sid). s.number) (ap (λ (p : Permit). p.sid) same ∙ borne.0.1)) in
    let placed = h.commit present.0 present.1 done did.1 in
    subst (λ (g : Permit). MayPut opening (before (shard_of g.key shards)) shards (shard_of g.key shards) g.key g.sid.number g.token value stamp seen) same
    (put_with opening before shards seen book.commit present.0.sid done one alone did.1 placed (present.2 ∙ mine) stamp did.2.0 value one.old
    (subst (λ (g : Permit). new_value g.key done.txn one.old ≡ Some value) (sym same) found.1.1) alone.stood.old)

-- a shift that the book bears out may be made
pub borne_may_shift : (opening : Tables) (before : ℕ → List Step) (shards : ℕ) (book : Book) (seen : Seen) (who : Sid) (grant : Permit) (stamp : ℕ)
    → IsReadyToWrite opening before shards book seen → grant.mode ≡ mode.Delta → is_count grant.key ≡ true → IsBorne book who (wanted.Apply grant stamp)
    → MayShift opening shards (shard_of grant.key shards) grant.key grant.sid.number grant.token stamp seen
borne_may_shift opening before shards book seen who grant stamp h delta counts borne =
    let present = present_is book.present who borne.0.0 in
    let did = commit_is book.commit (λ done. (done.number ≡ stamp) × Shifts book grant done.txn) borne.1 in
    let done = did.0 in
    let found = at_any (λ (one : Held). (one.permit ≡ grant) × (one.by ≡ delta_of grant.key done.txn)) (IsHeldSeen opening before shards book.commit seen) book.held h.held did.2.1 in
    let one = found.0 in
    let same = found.1.0 in
    let alone = found.2 (ap (λ (p : Permit). is_alone p.mode) same ∙ ap (λ m. is_alone m) delta) in
    let mine : who.number ≡ one.permit.sid.number = sym (ap (λ (s : Sid). s.number) (ap (λ (p : Permit). p.sid) same ∙ borne.0.1)) in
    let placed = h.commit present.0 present.1 done did.1 in
    subst (λ (g : Permit). MayShift opening shards (shard_of g.key shards) g.key g.sid.number g.token stamp seen) same
    (shift_with opening before shards seen book.commit present.0.sid done one alone did.1 placed (present.2 ∙ mine) stamp did.2.0
    (ap (λ (p : Permit). p.mode) same ∙ delta)
    (subst (λ (g : Permit). is_count g.key ≡ true) (sym same) counts)
    (subst (λ (g : Permit). one.by ≡ delta_of g.key done.txn) (sym same) found.1.1))

-- a session that is over and hasn't committed was ended without a commit
pub over_was_ended : (seen : Seen) (who : ℕ) → is_over who seen.events ≡ true → (IsLogged (commits_of seen.events) who → ⊥) → IsAmong who (ended_of seen.events)
over_was_ended seen who over never = ⊎_elim (λ logged. absurd (never logged)) (λ among. among) (over_is_known seen.events who over)

-- a session that was open when it was ended was ended without a commit
pub end_is_among : (seen : Seen) (who : Sid) → ShowsEnd who seen true → IsAmong who.number (ended_of seen.events)
end_is_among seen who shows = subst (λ l. IsAmong who.number (ended_of l)) (sym shows.1) (inl refl)

-- so was the present one, begun for writing, that wasn't open and hasn't committed
pub quit_is_among : (shards : ℕ) (early late : Seen) (who : Sid) (present : Option Present) → IsSound shards early → ShowsEnd who early false → ForSome present (IsPresentSeen early)
    → is_of present who ≡ true → books.may_write present ≡ true → IsBeginning early late → (IsLogged (commits_of late.events) who.number → ⊥)
    → IsAmong who.number (ended_of late.events)
quit_is_among shards early late who present sound shows h is writes begins never =
    over_was_ended late who.number
    (still_over who.number early.events late.events begins.events
    (closed_is_over who.number early.events sound.in_order (present_writes early present who h is writes) shows))
    never

-- what an end tells of it
pub quit_shows : (shards : ℕ) (early late : Seen) (who : Sid) (present : Option Present) (was writes did_commit : Bool) → IsSound shards early → ShowsEnd who early was
    → ForSome present (IsPresentSeen early) → (writes ≡ true → (is_of present who ≡ true) × (books.may_write present ≡ true)) → IsBeginning early late
    → (did_commit ≡ false → IsLogged (commits_of late.events) who.number → ⊥) → (was || (writes && not did_commit)) ≡ true → IsAmong who.number (ended_of late.events)
quit_shows shards early late who present true writes did_commit sound shows h is begins never e =
    (more_is_known early late begins).kept who.number (end_is_among early who shows)
quit_shows shards early late who present false true false sound shows h is begins never e =
    quit_is_among shards early late who present sound shows h (is refl).0 (is refl).1 begins (never refl)
quit_shows shards early late who present false true true sound shows h is begins never e = absurd (false≢true e)
quit_shows shards early late who present false false did_commit sound shows h is begins never e = absurd (false≢true e)

-- a session that was ended without a commit is still seen to be so where more is seen
pub quit_goes_on : (quit : Option Sid) (old new : Seen) → IsBeginning old new → IsQuitSeen quit old → IsQuitSeen quit new
quit_goes_on quit old new begins h = λ who is. (more_is_known old new begins).kept who.number (h who is)

-- none has quit yet
pub none_quit : (quit : Option Sid) (seen : Seen) → quit ≡ None → IsQuitSeen quit seen
none_quit quit seen none = λ who is. absurd (none-some who (sym none ∙ is))

-- what is seen of the session that has quit after an end
pub end_quits : (shards : ℕ) (seen : Seen) (who : Sid) (present : Option Present) (quit : Option Sid) (was writes did_commit : Bool) → IsSound shards seen → ShowsEnd who seen was
    → ForSome present (IsPresentSeen seen) → (writes ≡ true → (is_of present who ≡ true) × (books.may_write present ≡ true))
    → (did_commit ≡ false → IsLogged (commits_of seen.events) who.number → ⊥) → IsQuitSeen quit seen → IsQuitSeen (quit_after quit who was writes did_commit) seen
end_quits shards seen who present quit was writes did_commit sound shows h is never old =
    by_test (λ b. IsQuitSeen (cond b (Some who) quit) seen) (was || (writes && not did_commit))
    (λ e one at.
    subst (λ (s : Sid). IsAmong s.number (ended_of seen.events)) (same_Some who one at)
    (quit_shows shards seen seen who present was writes did_commit sound shows h is (beginning_same seen) never e))
    (λ _. old)

-- no commit of a session is seen where none is when more is seen
pub not_logged_yet : (old new : Seen) (who : ℕ) → IsBeginning old new → (IsLogged (commits_of new.events) who → ⊥) → IsLogged (commits_of old.events) who → ⊥
not_logged_yet old new who begins never h =
    never (record { place = h.place; commit = h.commit; at = more-stands (more_is_known old new begins) h.place h.commit h.at; own = h.own })
