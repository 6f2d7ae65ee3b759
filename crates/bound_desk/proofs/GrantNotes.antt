-- The pass has seen what the book says of grants, of a commit and of an end.
use Rattle.std.proofs.Common.{ℕ, ℤ, ◌≡◌, ◌⊎◌, ◌==◌, ◌||◌, Bool, true, false, cond, List, [], ◌∷◌, filter, All, get_or, Option, Some, None, Result, Ok, Err, IfOk, is_some, refl, sym, ap, subst, ◌∙◌, ⊎_elim}
use Rattle.std.specs.List.{list_all, list_any}
use Rattle.std.specs.Option.{ForSome}
use Rattle.std.proofs.lemmas.Bool.{false≢true, and_from, eq-eqb, eqb-true, or_left}
use Rattle.std.proofs.lemmas.List.Elements.{All-head, All-tail, All-cons, All-push}
use Rattle.rows_model.specs.declared.keys.QKey.{QKey}
use Rattle.rows_model.specs.declared.keys.Sid.{Sid}
use Rattle.rows_model.specs.declared.changes.Change.{Change}
use Rattle.rows_model.specs.Key.{same_key}
use Rattle.rows_model.specs.Rows.{Tables}
use Rattle.rows_model.specs.Placement.{shard_of}
use Rattle.rows_model.proofs.SameKey.{same_key-refl}
use Rattle.lease_table.specs.declared.records.Mode.{Mode}
use Rattle.key_shard.specs.declared.replies.QAnswer.{QAnswer}
use Rattle.key_shard.specs.declared.steps.Step.{Step}
use Rattle.key_shard.specs.Past.{Terms, entry}
use Rattle.key_shard.specs.Answers.{quarantine_step}
use Rattle.key_shard.specs.Permit.{Permit, same_permit}
use Rattle.key_shard.specs.Replies.{old_value, ShowsQuarantine}
use Rattle.key_shard.proofs.CaseLemmas.{quarantine_cases}
use Rattle.log_word.specs.declared.seen.Seen.{Seen}
use Rattle.log_word.specs.Events.{may_write, is_over}
use Rattle.log_word.specs.Lists.{steps_of}
use Rattle.log_word.specs.Steps.{grants, IsSound}
use Rattle.key_freshness.proofs.MarkLemmas.{by_test}
use Rattle.bound_hub.specs.Gets.{IsLastStep}
use Rattle.bound_hub.specs.Shorts.{granted_short}
use Rattle.bound_hub.specs.Stores.{IsGrantSeen, ShowsCommit, ShowsEnd}
use Rattle.bound_hub.specs.StepShorts.{quarantine_short}
use Rattle.bound_hub.proofs.SessionLemmas.{closed_is_over}
use Rattle.desk_book.specs.Books.{Book, Held, is_of, is_present, all_but, with_commit, with_end, with_grant, without_grant}
use Rattle.desk_book.specs.Apart.{is_held}
use Rattle.desk_book.specs.Books as books
use Rattle.desk_book.specs.Borne.{Holds}
use Rattle.desk_book.specs.declared.facts.Committed.{Committed}
use Rattle.desk_book.specs.declared.facts.Present.{Present}
use Rattle.desk_book.proofs.HeldLemmas.{all_tested}
use Rattle.bound_desk.specs.Bound.{HasCommitted, IsPresentSeen, IsBoundBook}
use Rattle.bound_desk.specs.Grants.{IsGrantFor}
use Rattle.bound_desk.proofs.BoundLemmas.{at_any}

-- the present session, which was begun for writing, is seen to be so
pub present_writes : (seen : Seen) (present : Option Present) (who : Sid) → ForSome present (IsPresentSeen seen) → is_of present who ≡ true → books.may_write present ≡ true
    → may_write who.number seen.events ≡ true
present_writes seen (Some one) who h is writes = subst (λ n. may_write n seen.events ≡ true) (eqb-true one.sid.number who.number is) (h one refl writes)
present_writes seen None who h is writes = absurd (false≢true is)

-- a grant whose step is the last that is seen is seen
last_is_grant : (shards : ℕ) (seen : Seen) (key : QKey) (who : Sid) (mode : Mode) (shift : ℤ) (token : ℕ) (has : Bool)
    → IsLastStep (shard_of key shards) (granted_short key who mode shift token has) seen
    → list_any (grants key who.number) (steps_of (shard_of key shards) seen.steps) ≡ true
last_is_grant shards seen key who mode shift token has last =
    let step = granted_short key who mode shift token has in
    subst (λ l. list_any (grants key who.number) l ≡ true) (sym last.1)
    (or_left (grants key who.number step) (list_any (grants key who.number) last.0)
    (and_from (same_key key key) (who.number == who.number) (same_key-refl key) (eq-eqb who.number who.number refl)))

-- what a quarantine brings, by its step
pub quarantine_brings : (terms : Terms) (past : List Step) (key : QKey) (who : Sid) (mode : Mode) (shift : ℤ) (now : ℕ) (shards : ℕ) (seen : Seen) (answer : QAnswer) (has : Bool)
    → ShowsQuarantine terms past (quarantine_step terms past key who mode shift now) answer
    → IsLastStep (shard_of key shards) (quarantine_short key who mode shift answer has) seen
    → IsGrantFor shards seen (old_value mode (entry key past)) answer
quarantine_brings terms past key who mode shift now shards seen answer has =
    let F : QAnswer → Type 0 = λ a. IsLastStep (shard_of key shards) (quarantine_short key who mode shift a has) seen → IsGrantFor shards seen (old_value mode (entry key past)) a in
    quarantine_cases (λ s. ShowsQuarantine terms past s answer → F answer) terms past key who mode shift now
    (λ none shows. subst F (sym shows) (λ last. (last_is_grant shards seen key who mode shift _ has last, refl)))
    (λ shows. subst F (sym shows) (λ last. tt))
    (λ quar at shows. subst F (sym shows) (λ last. tt))

-- a quarantine was granted
pub granted_is_bound : (opening : Tables) (shards : ℕ) (book : Book) (seen : Seen) (permit : Permit) (old : Option (List ℕ × ℕ)) (by : ℤ) → IsGrantSeen shards seen permit
    → IsBoundBook opening shards book seen → IsBoundBook opening shards (with_grant permit old by book) seen
granted_is_bound opening shards book seen permit old by granted h = record {
  present = h.present;
  lease = h.lease;
  held = All-push (λ (one : Held). IsGrantSeen shards seen one.permit) book.held (record { permit = permit; old = old; by = by }) h.held granted;
  commit = h.commit;
}

-- the session that committed is over
committed_over : (seen : Seen) (present : Option Present) (commit : Option Committed) (who : Sid)
    → ForSome present (λ one. ForSome commit (λ done. is_over one.sid.number seen.events ≡ true)) → is_of present who ≡ true → is_some commit ≡ true
    → is_over who.number seen.events ≡ true
committed_over seen (Some one) (Some done) who h is did = subst (λ n. is_over n seen.events ≡ true) (eqb-true one.sid.number who.number is) (h one refl done refl)
committed_over seen None commit who h is did = absurd (false≢true is)
committed_over seen (Some one) None who h is did = absurd (false≢true did)

-- and so is that of a grant that may be dropped
pub may_be_dropped : (opening : Tables) (shards : ℕ) (book : Book) (seen : Seen) (who : Sid) → IsBoundBook opening shards book seen
    → HasCommitted book who ⊎ (is_over who.number seen.events ≡ true) → is_over who.number seen.events ≡ true
may_be_dropped opening shards book seen who h may =
    ⊎_elim
    (λ (done : HasCommitted book who). committed_over seen book.present book.commit who h.commit done.0 done.1)
    (λ over. over)
    may

-- all of the grants but one are seen
pub each_but : (P : Held → Type 0) (permit : Permit) (held : List Held) → All P held → All P (all_but permit held)
each_but P permit [] all = all
each_but P permit (one ∷ held) all =
    by_test (λ b. All P (cond b held (one ∷ all_but permit held))) (same_permit one.permit permit)
    (λ _. All-tail P one held all)
    (λ _. All-cons P one (all_but permit held) (All-head P one held all) (each_but P permit held (All-tail P one held all)))

-- a grant is spent
pub spent_is_bound : (opening : Tables) (shards : ℕ) (book : Book) (seen : Seen) (permit : Permit) → IsBoundBook opening shards book seen
    → IsBoundBook opening shards (without_grant permit book) seen
spent_is_bound opening shards book seen permit h = record {
  present = h.present;
  lease = h.lease;
  held = each_but (λ (one : Held). IsGrantSeen shards seen one.permit) permit book.held h.held;
  commit = h.commit;
}

-- the present session's Commit is seen
pub committed_is_bound : (opening : Tables) (shards : ℕ) (book : Book) (seen : Seen) (who : Sid) (number : ℕ) (txn : List Change) → is_over who.number seen.events ≡ true
    → is_present book who ≡ true → IsBoundBook opening shards book seen → IsBoundBook opening shards (with_commit number txn book) seen
committed_is_bound opening shards book seen who number txn over is h = record {
  present = h.present;
  lease = h.lease;
  held = h.held;
  commit = λ present at done did.
      subst (λ n. is_over n seen.events ≡ true) (sym (eqb-true present.sid.number who.number (sym (ap (λ o. is_of o who) at) ∙ is))) over;
}

-- a session whose Commit is the last event is over
pub commit_is_over : (opening : Tables) (cap : ℕ) (who : Sid) (txn : List Change) (permits : List Permit) (seen : Seen) (number : ℕ) → ShowsCommit opening cap who txn permits seen number
    → is_over who.number seen.events ≡ true
commit_is_over opening cap who txn permits seen number shows =
    subst (λ e. is_over who.number e ≡ true) (sym shows.last)
    (or_left (who.number == who.number) (is_over who.number shows.earlier) (eq-eqb who.number who.number refl))

-- the session's end was answered
pub ended_is_bound : (opening : Tables) (shards : ℕ) (book : Book) (seen : Seen) → IsBoundBook opening shards book seen → IsBoundBook opening shards (with_end book) seen
ended_is_bound opening shards book seen h = record { present = h.present; lease = h.lease; held = h.held; commit = h.commit }

-- the step of each grant that the book holds is seen
pub held_are_seen : (opening : Tables) (shards : ℕ) (book : Book) (seen : Seen) (permits : List Permit) → IsBoundBook opening shards book seen → All (Holds book) permits
    → All (IsGrantSeen shards seen) permits
held_are_seen opening shards book seen permits h all = λ k d less.
    let found = at_any (λ (one : Held). one.permit ≡ get_or permits k d) (λ (one : Held). IsGrantSeen shards seen one.permit) book.held h.held (all k d less) in
    subst (IsGrantSeen shards seen) found.1 found.2

-- a session whose end was answered is over: it was open, or it is the present one, which was begun for writing
pub close_is_over : (shards : ℕ) (seen : Seen) (who : Sid) (present : Option Present) (was writing : Bool) → IsSound shards seen → ShowsEnd who seen was → ForSome present (IsPresentSeen seen)
    → (writing ≡ true → (is_of present who ≡ true) × (books.may_write present ≡ true)) → (was || writing) ≡ true → is_over who.number seen.events ≡ true
close_is_over shards seen who present true writing sound shows h is e =
    subst (λ l. is_over who.number l ≡ true) (sym shows.1) (or_left (who.number == who.number) (is_over who.number shows.0) (eq-eqb who.number who.number refl))
close_is_over shards seen who present false writing sound shows h is e =
    let both = is e in
    closed_is_over who.number seen.events sound.in_order (present_writes seen present who h both.0 both.1) shows

filter_all : {X : Type 0} (p : X → Bool) (xs : List X) → list_all p (filter p xs) ≡ true
filter_all p [] = refl
filter_all p (x ∷ xs) =
    by_test (λ b. (p x ≡ b) → list_all p (cond b (x ∷ filter p xs) (filter p xs)) ≡ true) (p x)
    (λ is e. and_from (p x) (list_all p (filter p xs)) e (filter_all p xs)) (λ _ _. filter_all p xs) refl

-- what is left of a commit's grants once the others are set apart is held
pub left_are_held : (book : Book) (grants : List Permit) → All (Holds book) (filter (is_held book) grants)
left_are_held book grants = (all_tested book.held (filter (is_held book) grants)).0 (filter_all (is_held book) grants)

-- what is known of an answer in two ways, where there is one, gives more
pub both_give : {T E : Type 0} (P Q R : T → Type 0) (r : Result T E) → ((x : T) → P x → Q x → R x) → IfOk r P → IfOk r Q → IfOk r R
both_give P Q R (Ok x) f p q = f x p q
both_give P Q R (Err e) f p q = tt

-- so it is with what an answer to a quarantine brings, if there is one
pub answer_brings : {E : Type 0} (terms : Terms) (past : List Step) (key : QKey) (who : Sid) (mode : Mode) (shift : ℤ) (now : ℕ) (shards place : ℕ) (seen : Seen) (has : Bool) (result : Result QAnswer E)
    → place ≡ shard_of key shards → IfOk result (ShowsQuarantine terms past (quarantine_step terms past key who mode shift now))
    → IfOk result (λ answer. IsLastStep place (quarantine_short key who mode shift answer has) seen)
    → IfOk result (IsGrantFor shards seen (old_value mode (entry key past)))
answer_brings terms past key who mode shift now shards place seen has result at =
    both_give (ShowsQuarantine terms past (quarantine_step terms past key who mode shift now)) (λ answer. IsLastStep place (quarantine_short key who mode shift answer has) seen)
    (IsGrantFor shards seen (old_value mode (entry key past))) result
    (λ answer shows last. quarantine_brings terms past key who mode shift now shards seen answer has shows
    (subst (λ n. IsLastStep n (quarantine_short key who mode shift answer has) seen) at last))
