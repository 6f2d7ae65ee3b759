-- The pass has still seen what the book says when it sees more, and when something is noted.
use Rattle.std.proofs.Common.{ℕ, ◌≡◌, ◌⊎◌, ◌==◌, ◌&&◌, Bool, true, cond, nat_lt, List, [], ◌∷◌, ◌++◌, length, drop, All, refl, sym, ap, subst, ◌∙◌, inl, inr, ⊎_elim, arith}
use Rattle.std.specs.List.{Any, list_any}
use Rattle.std.proofs.lemmas.Bool.{and_from, eq-eqb, or_left}
use Rattle.std.proofs.lemmas.List.Elements.{All-nil, All-push, All-drop, All-weaker}
use Rattle.std.proofs.lemmas.Option.{same_Some, none-some}
use Rattle.rows_model.specs.declared.keys.QKey.{QKey}
use Rattle.rows_model.specs.declared.keys.Sid.{Sid}
use Rattle.rows_model.specs.Rows.{Tables}
use Rattle.rows_model.specs.Placement.{shard_of}
use Rattle.rows_model.proofs.SameKey.{same_key-true}
use Rattle.key_shard.specs.declared.replies.Got.{Got}
use Rattle.key_shard.specs.declared.replies.Got.TheVariants as got
use Rattle.sql_keeper.specs.declared.stores.Answer.{Answer}
use Rattle.session_client.specs.declared.replies.Wanted.TheVariants as wanted
use Rattle.log_word.specs.declared.events.Short.{Short}
use Rattle.log_word.specs.declared.seen.Seen.{Seen}
use Rattle.log_word.specs.Events.{begins_to_write, may_write}
use Rattle.log_word.specs.Steps.{IsSound, IsBeginning}
use Rattle.log_word.proofs.ViewLemmas.{beginning_same, beginning_trans}
use Rattle.key_freshness.specs.Held.{IsRight}
use Rattle.key_freshness.proofs.KnownLemmas.{more-length}
use Rattle.key_freshness.proofs.MarkLemmas.{by_test}
use Rattle.key_freshness.proofs.MomentLemmas.{more_is_right}
use Rattle.bound_hub.specs.Asked.{IsLeaseOn, MaySet}
use Rattle.bound_hub.specs.Facts.{answer_after}
use Rattle.bound_hub.specs.Gets.{got_short, IsLastStep}
use Rattle.bound_hub.specs.Knowns.{commits_of, known_of}
use Rattle.bound_hub.specs.Stores.{IsGrantSeen, ShowsAnswer, ShowsBegin}
use Rattle.bound_hub.proofs.FactLemmas.{was_not}
use Rattle.bound_hub.proofs.GrantLemmas.{grant_goes_on}
use Rattle.bound_hub.proofs.QuarantineLemmas.{still_may_write, still_over}
use Rattle.bound_hub.proofs.RuledLemmas.{more_is_known}
use Rattle.desk_book.specs.Books.{Book, Held, empty_book, is_on, is_present, first_book, most_answers, noted_for, with_place, with_answer, with_lease}
use Rattle.desk_book.specs.Borne.{IsBorne}
use Rattle.desk_book.specs.declared.facts.Leased.{Leased}
use Rattle.bound_desk.specs.Bound.{IsGivenSince, IsLeaseSeen, IsPresentSeen, IsBoundBook, with_got}

-- an answer that was given since then was so where more is seen
given_goes_on : (opening : Tables) (key : QKey) (earlier old new : Seen) → IsBeginning old new → (given : Answer)
    → IsGivenSince opening key earlier old given → IsGivenSince opening key earlier new given
given_goes_on opening key earlier old new begins given h = record {
  late = h.late;
  within = let k = more-length (more_is_known old new begins) in let w = h.within in omega (arith, k, w);
  right = λ telling.
      more_is_right (answer_after opening key) (known_of old.events) (known_of new.events) given.value given.stamp (more_is_known old new begins) h.within
      (h.right (was_not old.stopped new.stopped begins.stopped telling));
}

lease_goes_on : (opening : Tables) (shards : ℕ) (answers : List Answer) (old new : Seen) → IsBeginning old new → (lease : Leased)
    → IsLeaseSeen opening shards answers old lease → IsLeaseSeen opening shards answers new lease
lease_goes_on opening shards answers old new begins lease h = record {
  earlier = h.earlier;
  sound = h.sound;
  begins = beginning_trans h.earlier old new h.begins begins;
  step = h.step;
  last = h.last;
  on = h.on;
  given =
      All-weaker (IsGivenSince opening lease.key h.earlier old) (IsGivenSince opening lease.key h.earlier new)
      (given_goes_on opening lease.key h.earlier old new begins) answers h.given;
}

-- the pass has still seen what the book says where more is seen
pub book_goes_on : (opening : Tables) (shards : ℕ) (book : Book) (old new : Seen) → IsBeginning old new → IsBoundBook opening shards book old → IsBoundBook opening shards book new
book_goes_on opening shards book old new begins h = record {
  present = λ present is writes. still_may_write present.sid.number old.events new.events begins.events (h.present present is writes);
  lease = λ lease is. lease_goes_on opening shards book.answers old new begins lease (h.lease lease is);
  held =
      All-weaker (λ (one : Held). IsGrantSeen shards old one.permit) (λ (one : Held). IsGrantSeen shards new one.permit)
      (λ one. grant_goes_on shards old new begins one.permit) book.held h.held;
  commit = λ present is done did. still_over present.sid.number old.events new.events begins.events (h.commit present is done did);
}

-- the same, where the book stays and the pass sees this
pub bound_goes_on : (opening : Tables) (shards : ℕ) (old_book new_book : Book) (old new : Seen) → new_book ≡ old_book → IsBeginning old new
    → IsBoundBook opening shards old_book old → IsBoundBook opening shards new_book new
bound_goes_on opening shards old_book new_book old new same begins h =
    subst (λ book. IsBoundBook opening shards book new) (sym same) (book_goes_on opening shards old_book old new begins h)

-- what is noted for a session that isn't present is nothing
pub noted_is_bound : (opening : Tables) (shards : ℕ) (who : Sid) (note : Book → Book) (book : Book) (seen : Seen) → IsBoundBook opening shards book seen
    → (is_present book who ≡ true → IsBoundBook opening shards (note book) seen) → IsBoundBook opening shards (noted_for who note book) seen
noted_is_bound opening shards who note book seen old new =
    by_test (λ b. IsBoundBook opening shards (cond b (note book) book) seen) (is_present book who) new (λ _. old)

-- a book in which nothing was told
pub empty_is_bound : (opening : Tables) (shards : ℕ) (book : Book) (seen : Seen) → book ≡ empty_book → IsBoundBook opening shards book seen
empty_is_bound opening shards book seen is =
    subst (λ b. IsBoundBook opening shards b seen) (sym is)
    (record {
      present = λ present at. absurd (none-some present at);
      lease = λ lease at. absurd (none-some lease at);
      held = All-nil (λ (one : Held). IsGrantSeen shards seen one.permit);
      commit = λ present at done did. absurd (none-some done did);
    })

-- a session began
pub begun_is_bound : (opening : Tables) (shards : ℕ) (seen : Seen) (from worker : ℕ) (writes : Bool) (who : Sid) → ShowsBegin from worker writes seen who
    → IsBoundBook opening shards (first_book who writes) seen
begun_is_bound opening shards seen from worker writes who shows = record {
  present = λ present is.
      subst (IsPresentSeen seen) (same_Some (record { sid = who; writes = writes }) present is)
      (λ w. subst (λ e. may_write who.number e ≡ true) (sym shows.last)
      (or_left ((who.number == who.number) && writes) (list_any (begins_to_write who.number) shows.earlier)
      (and_from (who.number == who.number) writes (eq-eqb who.number who.number refl) w)));
  lease = λ lease is. absurd (none-some lease is);
  held = All-nil (λ (one : Held). IsGrantSeen shards seen one.permit);
  commit = λ present is done did. absurd (none-some done did);
}

-- a lease was given by the last step that is seen
pub leased_is_bound : (opening : Tables) (shards : ℕ) (book : Book) (seen : Seen) (key : QKey) (token : ℕ) (step : Short) → IsSound shards seen
    → IsLastStep (shard_of key shards) step seen → IsLeaseOn key token step → IsBoundBook opening shards book seen → IsBoundBook opening shards (with_lease key token book) seen
leased_is_bound opening shards book seen key token step sound last on h = record {
  present = h.present;
  lease = λ lease is.
      subst (IsLeaseSeen opening shards [] seen) (same_Some (record { key = key; token = token }) lease is)
      (record {
        earlier = seen;
        sound = sound;
        begins = beginning_same seen;
        step = step;
        last = last;
        on = on;
        given = All-nil (IsGivenSince opening key seen seen);
      });
  held = h.held;
  commit = h.commit;
}

-- so it is with what a get was answered by its step
pub got_is_bound : (opening : Tables) (shards : ℕ) (book : Book) (seen : Seen) (key : QKey) (who : Sid) (answer : Got) (has : Bool) → IsSound shards seen
    → IsLastStep (shard_of key shards) (got_short key who answer has) seen → IsBoundBook opening shards book seen → IsBoundBook opening shards (with_got key answer book) seen
got_is_bound opening shards book seen key who (got.Hit value stamp) has sound last h = h
got_is_bound opening shards book seen key who (got.Lease token) has sound last h =
    leased_is_bound opening shards book seen key token (got_short key who (got.Lease token) has) sound last (record { kind = refl; on = refl; under = refl }) h
got_is_bound opening shards book seen key who (got.Again stands) has sound last h = h
got_is_bound opening shards book seen key who got.Own has sound last h = h

-- the answers that stay when one more comes
placed : (P : Answer → Type 0) (answers : List Answer) → All P answers → All P (with_place answers)
placed P answers all = by_test (λ b. All P (cond b answers (drop 1 answers))) (nat_lt (length answers) most_answers) (λ _. all) (λ _. All-drop P 1 answers all)

-- the store has answered
pub answered_is_bound : (opening : Tables) (shards : ℕ) (book : Book) (seen : Seen) (given : Answer) → ShowsAnswer opening given.key seen given
    → IsBoundBook opening shards book seen → IsBoundBook opening shards (with_answer given book) seen
answered_is_bound opening shards book seen given shows h =
    by_test (λ b. IsBoundBook opening shards (cond b (record book { answers = with_place book.answers ++ given ∷ [] }) book) seen) (is_on book.lease given.key)
    (λ is. record {
      present = h.present;
      lease = λ lease at.
          let old = h.lease lease at in
          let same : lease.key ≡ given.key = same_key-true lease.key given.key (sym (ap (λ o. is_on o given.key) at) ∙ is) in
          record {
            earlier = old.earlier;
            sound = old.sound;
            begins = old.begins;
            step = old.step;
            last = old.last;
            on = old.on;
            given =
                All-push (IsGivenSince opening lease.key old.earlier seen) (with_place book.answers) given (placed (IsGivenSince opening lease.key old.earlier seen) book.answers old.given)
                (record {
                  late = let k = more-length (more_is_known old.earlier seen old.begins) in let s = shows.stamped in omega (arith, k, s);
                  within = let s = shows.stamped in omega (arith, s);
                  right = λ telling. subst (λ k. IsRight (answer_after opening k) (commits_of seen.events) given.value given.stamp) (sym same) (shows.right telling);
                });
          };
      held = h.held;
      commit = h.commit;
    })
    (λ _. h)

-- what holds of each holds of one that there is
pub at_any : {X : Type 0} (P Q : X → Type 0) (xs : List X) → All Q xs → Any P xs → (x : X) × P x × Q x
at_any P Q xs all any = (any.1, any.4, subst Q any.3 (all any.0 any.1 any.2))

-- what the book bears out may be set
pub borne_may_set : (opening : Tables) (shards : ℕ) (book : Book) (seen : Seen) (who : Sid) (key : QKey) (token : ℕ) (value : List ℕ) (stamp : ℕ) → IsBoundBook opening shards book seen
    → (token ≡ 0) ⊎ IsBorne book who (wanted.Set key token value stamp) → MaySet opening shards (shard_of key shards) key token value stamp seen
borne_may_set opening shards book seen who key token value stamp h may =
    ⊎_elim (λ zero. inl zero)
    (λ (borne : IsBorne book who (wanted.Set key token value stamp)).
    let lease = h.lease (record { key = key; token = token }) borne.1 in
    let found = at_any (λ (given : Answer). given ≡ record { key = key; value = value; stamp = stamp }) (IsGivenSince opening key lease.earlier seen) book.answers lease.given borne.2 in
    let given = subst (IsGivenSince opening key lease.earlier seen) found.1 found.2 in
    inr (record {
      earlier = lease.earlier;
      sound = lease.sound;
      begins = lease.begins;
      step = lease.step;
      last = lease.last;
      lease = lease.on;
      late = given.late;
      within = given.within;
      right = given.right;
    }))
    may
