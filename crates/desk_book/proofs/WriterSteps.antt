-- Each reply that a session that writes is told leaves the book as it has to be.
use Rattle.std.proofs.Common.{ℕ, ℤ, pos, suc, ◌≡◌, ◌<◌, Bool, true, false, List, [], ◌∷◌, ◌++◌, length, map, drop, set, count_by, Option, Some, None, slice_get}
use Rattle.std.proofs.Common.{append-nil, refl, sym, ap, subst, ◌∙◌, arith}
use Rattle.std.specs.List.{AllByRecursion, remove}
use Rattle.std.proofs.lemmas.Bool.{false≢true}
use Rattle.std.proofs.lemmas.List.{map-append}
use Rattle.rows_model.specs.declared.keys.QKey.{QKey}
use Rattle.rows_model.specs.declared.keys.Sid.{Sid}
use Rattle.rows_model.specs.declared.changes.Change.{Change}
use Rattle.rows_model.specs.Delta.{delta_of}
use Rattle.lease_table.specs.declared.records.Mode.{Mode}
use Rattle.lease_table.specs.declared.records.Mode.TheVariants.{Invalidate, Refresh, Delta}
use Rattle.key_shard.specs.Permit.{Permit}
use Rattle.key_shard.specs.declared.replies.Got.{Got}
use Rattle.key_shard.specs.declared.replies.Got.TheVariants as got
use Rattle.key_shard.specs.declared.replies.QAnswer.TheVariants as quarantine
use Rattle.key_shard.specs.declared.replies.Raising.TheVariants as raising
use Rattle.key_shard.specs.declared.replies.Rel.{Rel}
use Rattle.session_client.specs.Plans.{mode_on, shift_in}
use Rattle.session_client.specs.Belongs.{Belongs, IsRaised, IsGrantOf}
use Rattle.session_client.specs.Grants.{GrantsView}
use Rattle.session_client.specs.declared.replies.Fault.{Fault}
use Rattle.session_client.specs.declared.replies.Reply.{Reply}
use Rattle.session_client.specs.declared.replies.Reply.TheVariants as Reply
use Rattle.session_client.specs.declared.replies.Wanted.{Wanted}
use Rattle.session_client.specs.declared.replies.Wanted.TheVariants as wanted
use Rattle.session_client.specs.Wants.{Given, given, granted, is_had, is_release, number_of, released, turned, write_wants, Writing, quarantine_as, commit_with, new_value}
use Rattle.session_client.proofs.WantCases.{AreOnce, is_ending, asking-goes, write_cases, granted-given}
use Rattle.desk_book.specs.Books.{Book, Held, all_raised, all_but, with_grant, without_grant, with_commit, with_end}
use Rattle.desk_book.specs.Heard.{note_of}
use Rattle.desk_book.proofs.ListLemmas.{each-push, each-set, each-remove, each-at, each-weaker}
use Rattle.desk_book.proofs.GivenLemmas.{held_of, Apart, apart-push, apart-set, apart-remove, given-at, raised-at, spent-at, released-at}
use Rattle.desk_book.proofs.WriterLemmas.{IsBooked, WasAsked, IsMild, alike, mild, stays, count-more, same-count, asked-more, goes-on}

-- nothing is committed and nothing released
abbrev pub IsUnended : List Reply → Type 0
IsUnended heard = (number_of heard ≡ None) × (released heard ≡ 0)

-- a quarantine of the next key was granted
granted-step : (who : Sid) (writing : Writing) (heard : List Reply) (book : Book) (key : QKey) (mode : Mode) (grant : Permit)
    (old : Option (List ℕ × ℕ)) (by : ℤ) → AreOnce writing.keys → slice_get writing.keys (count_by is_had heard) ≡ Some key
    → IsUnended heard → IsGrantOf who key mode grant → by ≡ shift_in grant.mode grant.key writing.txn
    → IsBooked who writing heard book → IsBooked who writing (Reply.Quar (quarantine.Granted grant old) ∷ heard) (with_grant grant old by book)
granted-step who writing heard book key mode grant old by once at none is shift s =
    let reply = Reply.Quar (quarantine.Granted grant old) in
    let one : Given = record { permit = grant; old = old } in
    let more = count-more is_had reply heard true refl in
    let count : released (reply ∷ heard) ≡ 0 = same-count is_release reply heard refl ∙ none.1 in
    let before : book.held ≡ map (held_of writing.txn) (given heard) =
    s.held ∙ ap (λ n. map (held_of writing.txn) (drop n (given heard))) none.1 in
    let news : AllByRecursion (λ (other : Given). grant.key ≡ other.permit.key → ⊥) (given heard) =
    each-weaker (λ (other : Given). WasAsked writing.keys (count_by is_had heard) other.permit.key)
    (λ (other : Given). grant.key ≡ other.permit.key → ⊥) (given heard)
    (λ other asked same.
    let placed = once asked.place (count_by is_had heard) key
    (asked.at ∙ ap (λ k. Some k) (sym same ∙ is.of_key)) at in
    let less = asked.before in omega (arith, placed, less)) s.asked in
    record {
      present = s.present;
      commit = s.commit;
      held = ap (λ l. l ++ record { permit = grant; old = old; by = by } ∷ []) before
          ∙ ap (λ n. map (held_of writing.txn) (given heard) ++ record { permit = grant; old = old; by = n } ∷ []) shift
          ∙ sym (map-append (held_of writing.txn) (given heard) (one ∷ []))
          ∙ ap (λ n. map (held_of writing.txn) (drop n (given heard ++ one ∷ []))) (sym count);
      own = each-push (λ (other : Given). other.permit.sid ≡ who) (given heard) one s.own is.of_session;
      apart = apart-push (given heard) one s.apart news;
      asked = each-push (λ (other : Given). WasAsked writing.keys (count_by is_had (reply ∷ heard)) other.permit.key) (given heard) one
          (asked-more writing.keys reply heard (given heard) s.asked)
          (record { place = count_by is_had heard; before = omega (arith, more); at = at ∙ ap (λ k. Some k) (sym is.of_key) });
      going = λ still on. (none.0, count);
      ended = λ ends. absurd (false≢true ends);
      back = λ came. absurd (false≢true came);
    }

held-mild : IsMild (Reply.Quar quarantine.Held)
held-mild = record { left = λ p o. refl; none = refl; release = refl; number = λ h. refl; ending = λ h. refl; back = λ h. refl }

fault-mild : (fault : Fault) → IsMild (Reply.Fault fault)
fault-mild fault = record { left = λ p o. refl; none = refl; release = refl; number = λ h. refl; ending = λ h. refl; back = λ h. refl }

-- what a session that hasn't ended is told of a quarantine of the next key
reg-step : (who : Sid) (writing : Writing) (heard : List Reply) (book : Book) (key : QKey) (reply : Reply) → AreOnce writing.keys
    → slice_get writing.keys (count_by is_had heard) ≡ Some key → IsUnended heard → Belongs who (wanted.QaReg key) reply
    → IsBooked who writing heard book → IsBooked who writing (reply ∷ heard) (note_of (wanted.QaReg key) reply book)
reg-step who writing heard book key (Reply.Quar (quarantine.Granted grant old)) once at none belongs s =
    granted-step who writing heard book key Invalidate grant old (pos 0) once at none belongs.0
    (ap (λ m. shift_in m grant.key writing.txn) (sym belongs.0.in_mode)) s
reg-step who writing heard book key (Reply.Quar quarantine.Held) once at none belongs s =
    mild who writing (Reply.Quar quarantine.Held) heard book book held-mild (alike book) (λ on. none) s
reg-step who writing heard book key (Reply.Quar (quarantine.Refused holder held)) once at none belongs s =
    mild who writing (Reply.Quar (quarantine.Refused holder held)) heard book book
    (record { left = λ p o. refl; none = refl; release = refl; number = λ h. refl; ending = λ h. refl; back = λ h. refl }) (alike book) (λ on. none) s
reg-step who writing heard book key (Reply.Fault fault) once at none belongs s =
    mild who writing (Reply.Fault fault) heard book book (fault-mild fault) (alike book) (λ on. none) s
reg-step who writing heard book key other once at none belongs s = elim belongs [ ]

read-step : (who : Sid) (writing : Writing) (heard : List Reply) (book : Book) (key : QKey) (reply : Reply) → AreOnce writing.keys
    → slice_get writing.keys (count_by is_had heard) ≡ Some key → IsUnended heard → Belongs who (wanted.QaRead key) reply
    → IsBooked who writing heard book → IsBooked who writing (reply ∷ heard) (note_of (wanted.QaRead key) reply book)
read-step who writing heard book key (Reply.Quar (quarantine.Granted grant old)) once at none belongs s =
    granted-step who writing heard book key Refresh grant old (pos 0) once at none belongs.0
    (ap (λ m. shift_in m grant.key writing.txn) (sym belongs.0.in_mode)) s
read-step who writing heard book key (Reply.Quar quarantine.Held) once at none belongs s =
    mild who writing (Reply.Quar quarantine.Held) heard book book held-mild (alike book) (λ on. none) s
read-step who writing heard book key (Reply.Quar (quarantine.Refused holder held)) once at none belongs s =
    mild who writing (Reply.Quar (quarantine.Refused holder held)) heard book book
    (record { left = λ p o. refl; none = refl; release = refl; number = λ h. refl; ending = λ h. refl; back = λ h. refl }) (alike book) (λ on. none) s
read-step who writing heard book key (Reply.Fault fault) once at none belongs s =
    mild who writing (Reply.Fault fault) heard book book (fault-mild fault) (alike book) (λ on. none) s
read-step who writing heard book key other once at none belongs s = elim belongs [ ]

delta-step : (who : Sid) (writing : Writing) (heard : List Reply) (book : Book) (key : QKey) (reply : Reply) → AreOnce writing.keys
    → slice_get writing.keys (count_by is_had heard) ≡ Some key → IsUnended heard → Belongs who (wanted.Delta key (delta_of key writing.txn)) reply
    → IsBooked who writing heard book → IsBooked who writing (reply ∷ heard) (note_of (wanted.Delta key (delta_of key writing.txn)) reply book)
delta-step who writing heard book key (Reply.Quar (quarantine.Granted grant old)) once at none belongs s =
    granted-step who writing heard book key Delta grant old (delta_of key writing.txn) once at none belongs.0
    (ap (λ k. delta_of k writing.txn) (sym belongs.0.of_key) ∙ ap (λ m. shift_in m grant.key writing.txn) (sym belongs.0.in_mode)) s
delta-step who writing heard book key (Reply.Quar quarantine.Held) once at none belongs s =
    mild who writing (Reply.Quar quarantine.Held) heard book book held-mild (alike book) (λ on. none) s
delta-step who writing heard book key (Reply.Quar (quarantine.Refused holder held)) once at none belongs s =
    mild who writing (Reply.Quar (quarantine.Refused holder held)) heard book book
    (record { left = λ p o. refl; none = refl; release = refl; number = λ h. refl; ending = λ h. refl; back = λ h. refl }) (alike book) (λ on. none) s
delta-step who writing heard book key (Reply.Fault fault) once at none belongs s =
    mild who writing (Reply.Fault fault) heard book book (fault-mild fault) (alike book) (λ on. none) s
delta-step who writing heard book key other once at none belongs s = elim belongs [ ]

-- what such a session is told of a raise of the next grant
raise-step : (who : Sid) (writing : Writing) (heard : List Reply) (book : Book) (grant : Permit) (reply : Reply)
    → slice_get (granted heard) (turned heard) ≡ Some grant → IsUnended heard → Belongs who (wanted.Raise grant) reply
    → IsBooked who writing heard book → IsBooked who writing (reply ∷ heard) (note_of (wanted.Raise grant) reply book)
raise-step who writing heard book grant (Reply.Raise (raising.Raised back old)) at none belongs s =
    let reply = Reply.Raise (raising.Raised back old) in
    let found = given-at (given heard) (turned heard) grant (ap (λ l. slice_get l (turned heard)) (sym (granted-given heard)) ∙ at) in
    let one : Given = record { permit = back; old = old } in
    let lent : IsRaised found.one.permit back = subst (λ p. IsRaised p back) (sym found.permit) belongs in
    let same : given (reply ∷ heard) ≡ set (given heard) (turned heard) one = append-nil (set (given heard) (turned heard) one) in
    let count : released (reply ∷ heard) ≡ 0 = same-count is_release reply heard refl ∙ none.1 in
    let before : book.held ≡ map (held_of writing.txn) (given heard) =
    s.held ∙ ap (λ n. map (held_of writing.txn) (drop n (given heard))) none.1 in
    let Asked : Given → Type 0 = λ other. WasAsked writing.keys (count_by is_had (reply ∷ heard)) other.permit.key in
    let asked : AllByRecursion Asked (given heard) = asked-more writing.keys reply heard (given heard) s.asked in
    record {
      present = s.present;
      commit = s.commit;
      held = ap (all_raised back old) before ∙ raised-at writing.txn (given heard) (turned heard) found.one back old found.at lent s.apart
          ∙ ap (map (held_of writing.txn)) (sym same) ∙ ap (λ n. map (held_of writing.txn) (drop n (given (reply ∷ heard)))) (sym count);
      own = subst (AllByRecursion (λ (other : Given). other.permit.sid ≡ who)) (sym same)
          (each-set (λ (other : Given). other.permit.sid ≡ who) (given heard) (turned heard) one s.own
          (lent.same_session ∙ each-at (λ (other : Given). other.permit.sid ≡ who) (given heard) (turned heard) found.one found.at s.own));
      apart = subst Apart (sym same) (apart-set (given heard) (turned heard) found.one one found.at lent.same_key s.apart);
      asked = subst (AllByRecursion Asked) (sym same) (each-set Asked (given heard) (turned heard) one asked
          (subst (λ k. WasAsked writing.keys (count_by is_had (reply ∷ heard)) k) (sym lent.same_key)
          (each-at Asked (given heard) (turned heard) found.one found.at asked)));
      going = λ still on. (none.0, count);
      ended = λ ends. absurd (false≢true ends);
      back = λ came. absurd (false≢true came);
    }
raise-step who writing heard book grant (Reply.Raise raising.Gone) at none belongs s =
    let reply = Reply.Raise raising.Gone in
    let found = given-at (given heard) (turned heard) grant (ap (λ l. slice_get l (turned heard)) (sym (granted-given heard)) ∙ at) in
    let same : given (reply ∷ heard) ≡ remove (given heard) (turned heard) = append-nil (remove (given heard) (turned heard)) in
    let count : released (reply ∷ heard) ≡ 0 = same-count is_release reply heard refl ∙ none.1 in
    let before : book.held ≡ map (held_of writing.txn) (given heard) =
    s.held ∙ ap (λ n. map (held_of writing.txn) (drop n (given heard))) none.1 in
    let Asked : Given → Type 0 = λ other. WasAsked writing.keys (count_by is_had (reply ∷ heard)) other.permit.key in
    record {
      present = s.present;
      commit = s.commit;
      held = ap (all_but grant) before ∙ ap (λ p. all_but p (map (held_of writing.txn) (given heard))) (sym found.permit)
          ∙ spent-at writing.txn (given heard) (turned heard) found.one found.at s.apart
          ∙ ap (map (held_of writing.txn)) (sym same) ∙ ap (λ n. map (held_of writing.txn) (drop n (given (reply ∷ heard)))) (sym count);
      own = subst (AllByRecursion (λ (other : Given). other.permit.sid ≡ who)) (sym same)
          (each-remove (λ (other : Given). other.permit.sid ≡ who) (given heard) (turned heard) s.own);
      apart = subst Apart (sym same) (apart-remove (given heard) (turned heard) s.apart);
      asked = subst (AllByRecursion Asked) (sym same)
          (each-remove Asked (given heard) (turned heard) (asked-more writing.keys reply heard (given heard) s.asked));
      going = λ still on. (none.0, count);
      ended = λ ends. absurd (false≢true ends);
      back = λ came. absurd (false≢true came);
    }
raise-step who writing heard book grant (Reply.Raise (raising.Shared back holder)) at none belongs s =
    mild who writing (Reply.Raise (raising.Shared back holder)) heard book book
    (record { left = λ p o. refl; none = refl; release = refl; number = λ h. refl; ending = λ h. refl; back = λ h. refl }) (alike book) (λ on. none) s
raise-step who writing heard book grant (Reply.RaiseBack back) at none belongs s =
    mild who writing (Reply.RaiseBack back) heard book book
    (record { left = λ p o. refl; none = refl; release = refl; number = λ h. refl; ending = λ h. refl; back = λ h. refl }) (alike book) (λ on. none) s
raise-step who writing heard book grant other at none belongs s = elim belongs [ ]

-- what it is told of a renewal
renew-step : (who : Sid) (writing : Writing) (heard : List Reply) (book : Book) (grant : Permit) (reply : Reply)
    → IsUnended heard → Belongs who (wanted.Renew grant) reply
    → IsBooked who writing heard book → IsBooked who writing (reply ∷ heard) (note_of (wanted.Renew grant) reply book)
renew-step who writing heard book grant (Reply.Renew back renewal) none belongs s =
    mild who writing (Reply.Renew back renewal) heard book book
    (record { left = λ p o. refl; none = refl; release = refl; number = λ h. refl; ending = λ h. refl; back = λ h. refl }) (alike book) (λ on. none) s
renew-step who writing heard book grant other none belongs s = elim belongs [ ]

got-mild : (found : Got) → IsMild (Reply.Got found)
got-mild found = record { left = λ p o. refl; none = refl; release = refl; number = λ h. refl; ending = λ h. refl; back = λ h. refl }

-- what it is told of a key of its own
get-step : (who : Sid) (writing : Writing) (heard : List Reply) (book : Book) (key : QKey) (reply : Reply)
    → IsUnended heard → Belongs who (wanted.Get key 0) reply
    → IsBooked who writing heard book → IsBooked who writing (reply ∷ heard) (note_of (wanted.Get key 0) reply book)
get-step who writing heard book key (Reply.Got (got.Lease token)) none belongs s =
    mild who writing (Reply.Got (got.Lease token)) heard book (note_of (wanted.Get key 0) (Reply.Got (got.Lease token)) book)
    (got-mild (got.Lease token)) (record { present = refl; commit = refl; held = refl }) (λ on. none) s
get-step who writing heard book key (Reply.Got (got.Hit value stamp)) none belongs s =
    mild who writing (Reply.Got (got.Hit value stamp)) heard book book (got-mild (got.Hit value stamp)) (alike book) (λ on. none) s
get-step who writing heard book key (Reply.Got (got.Again standing)) none belongs s =
    mild who writing (Reply.Got (got.Again standing)) heard book book (got-mild (got.Again standing)) (alike book) (λ on. none) s
get-step who writing heard book key (Reply.Got got.Own) none belongs s =
    mild who writing (Reply.Got got.Own) heard book book (got-mild got.Own) (alike book) (λ on. none) s
get-step who writing heard book key (Reply.Fault fault) none belongs s =
    mild who writing (Reply.Fault fault) heard book book (fault-mild fault) (alike book) (λ on. none) s
get-step who writing heard book key other none belongs s = elim belongs [ ]

-- what it is told of the answer that its transaction would leave
staged-step : (who : Sid) (writing : Writing) (heard : List Reply) (book : Book) (key : QKey) (txn : List Change) (reply : Reply)
    → IsUnended heard → Belongs who (wanted.Staged key txn) reply
    → IsBooked who writing heard book → IsBooked who writing (reply ∷ heard) (note_of (wanted.Staged key txn) reply book)
staged-step who writing heard book key txn (Reply.Staged value changes) none belongs s =
    mild who writing (Reply.Staged value changes) heard book book
    (record { left = λ p o. refl; none = refl; release = refl; number = λ h. refl; ending = λ h. refl; back = λ h. refl }) (alike book) (λ on. none) s
staged-step who writing heard book key txn (Reply.NotStaged fault changes) none belongs s =
    mild who writing (Reply.NotStaged fault changes) heard book book
    (record { left = λ p o. refl; none = refl; release = refl; number = λ h. refl; ending = λ h. refl; back = λ h. refl }) (alike book) (λ on. none) s
staged-step who writing heard book key txn other none belongs s = elim belongs [ ]

some-none : {X : Type 0} {x : X} → Some x ≡ None → ⊥
some-none e = cc

-- what it is told of its commit
commit-step : (who : Sid) (writing : Writing) (heard : List Reply) (book : Book) (grants : GrantsView) (reply : Reply)
    → IsUnended heard → Belongs who (wanted.Commit writing.txn grants) reply
    → IsBooked who writing heard book → IsBooked who writing (reply ∷ heard) (note_of (wanted.Commit writing.txn grants) reply book)
commit-step who writing heard book grants (Reply.Committed number txn back) none belongs s =
    let reply = Reply.Committed number txn back in
    stays who writing reply heard book (with_commit number txn book) (append-nil (given heard)) (same-count is_release reply heard refl) refl refl
    (ap (λ c. Some (record { number = number; txn = c })) belongs.0)
    (λ still. absurd (false≢true (sym still)))
    (λ ends no. absurd (some-none no))
    (λ came. absurd (false≢true came)) s
commit-step who writing heard book grants (Reply.NotCommitted fault txn back) none belongs s =
    mild who writing (Reply.NotCommitted fault txn back) heard book book
    (record { left = λ p o. refl; none = refl; release = refl; number = λ h. refl; ending = λ h. refl; back = λ h. refl }) (alike book) (λ on. none) s
commit-step who writing heard book grants other none belongs s = elim belongs [ ]

-- what it is told of its end
end-step : (who : Sid) (writing : Writing) (heard : List Reply) (book : Book) (reply : Reply)
    → Belongs who wanted.End reply → IsBooked who writing heard book → IsBooked who writing (reply ∷ heard) (note_of wanted.End reply book)
end-step who writing heard book (Reply.End was) belongs s =
    let reply = Reply.End was in
    stays who writing reply heard book (with_end book) (append-nil (given heard)) (same-count is_release reply heard refl) refl refl
    s.commit (λ still. absurd (false≢true (sym still))) (λ ends no. refl) (λ came. absurd (false≢true came)) s
end-step who writing heard book other belongs s = elim belongs [ ]

-- the next grant was released
released-step : (who : Sid) (writing : Writing) (heard : List Reply) (book : Book) (one : Given) (rel : Rel)
    → slice_get (given heard) (released heard) ≡ Some one → is_ending heard ≡ true
    → IsBooked who writing heard book → IsBooked who writing (Reply.Rel rel ∷ heard) (without_grant one.permit book)
released-step who writing heard book one rel at ending s =
    let reply = Reply.Rel rel in
    let same : given (reply ∷ heard) ≡ given heard = append-nil (given heard) in
    let more = count-more is_release reply heard true refl in
    let count : released (reply ∷ heard) ≡ suc (released heard) = omega (arith, more) in
    record {
      present = s.present;
      commit = s.commit;
      held = ap (all_but one.permit) s.held ∙ released-at writing.txn (given heard) (released heard) one at
          ∙ ap (λ n. map (held_of writing.txn) (drop n (given heard))) (sym count)
          ∙ ap (λ l. map (held_of writing.txn) (drop (released (reply ∷ heard)) l)) (sym same);
      own = subst (AllByRecursion (λ (other : Given). other.permit.sid ≡ who)) (sym same) s.own;
      apart = subst Apart (sym same) s.apart;
      asked = subst (AllByRecursion (λ (other : Given). WasAsked writing.keys (count_by is_had (reply ∷ heard)) other.permit.key)) (sym same)
          (asked-more writing.keys reply heard (given heard) s.asked);
      going = λ still. absurd (false≢true (sym still));
      ended = λ ends no. s.ended ending no;
      back = λ came. absurd (false≢true came);
    }

-- what it is told of each of the four releases of the next grant
abort-step : (who : Sid) (writing : Writing) (heard : List Reply) (book : Book) (one : Given) (reply : Reply)
    → slice_get (given heard) (released heard) ≡ Some one → is_ending heard ≡ true → Belongs who (wanted.Abort one.permit) reply
    → IsBooked who writing heard book → IsBooked who writing (reply ∷ heard) (note_of (wanted.Abort one.permit) reply book)
abort-step who writing heard book one (Reply.Rel rel) at ending belongs s = released-step who writing heard book one rel at ending s
abort-step who writing heard book one other at ending belongs s = elim belongs [ ]

dar-step : (who : Sid) (writing : Writing) (heard : List Reply) (book : Book) (one : Given) (reply : Reply)
    → slice_get (given heard) (released heard) ≡ Some one → is_ending heard ≡ true → Belongs who (wanted.Dar one.permit) reply
    → IsBooked who writing heard book → IsBooked who writing (reply ∷ heard) (note_of (wanted.Dar one.permit) reply book)
dar-step who writing heard book one (Reply.Rel rel) at ending belongs s = released-step who writing heard book one rel at ending s
dar-step who writing heard book one other at ending belongs s = elim belongs [ ]

apply-step : (who : Sid) (writing : Writing) (heard : List Reply) (book : Book) (one : Given) (stamp : ℕ) (reply : Reply)
    → slice_get (given heard) (released heard) ≡ Some one → is_ending heard ≡ true → Belongs who (wanted.Apply one.permit stamp) reply
    → IsBooked who writing heard book → IsBooked who writing (reply ∷ heard) (note_of (wanted.Apply one.permit stamp) reply book)
apply-step who writing heard book one stamp (Reply.Rel rel) at ending belongs s = released-step who writing heard book one rel at ending s
apply-step who writing heard book one stamp other at ending belongs s = elim belongs [ ]

-- the next grant came back, from a session that has committed
back-step : (who : Sid) (writing : Writing) (heard : List Reply) (book : Book) (back : Permit) (number : ℕ) → number_of heard ≡ Some number
    → is_ending heard ≡ true → IsBooked who writing heard book → IsBooked who writing (Reply.SarBack back ∷ heard) book
back-step who writing heard book back number same ending s =
    stays who writing (Reply.SarBack back) heard book book (append-nil (given heard)) (same-count is_release (Reply.SarBack back) heard refl) refl refl
    s.commit (λ still. absurd (false≢true (sym still))) (λ ends no. s.ended ending no) (λ came. record { number = number; is = same }) s

sar-step : (who : Sid) (writing : Writing) (heard : List Reply) (book : Book) (one : Given) (value : Option (List ℕ)) (stamp : ℕ) (reply : Reply)
    → slice_get (given heard) (released heard) ≡ Some one → is_ending heard ≡ true → (number : ℕ) → number_of heard ≡ Some number
    → Belongs who (wanted.Sar one.permit value stamp) reply
    → IsBooked who writing heard book → IsBooked who writing (reply ∷ heard) (note_of (wanted.Sar one.permit value stamp) reply book)
sar-step who writing heard book one value stamp (Reply.Rel rel) at ending number same belongs s = released-step who writing heard book one rel at ending s
sar-step who writing heard book one (Some value) stamp (Reply.SarBack back) at ending number same belongs s =
    back-step who writing heard book back number same ending s
sar-step who writing heard book one value stamp other at ending number same belongs s = elim belongs [ ]

-- a session that wants nothing is told so
nothing-step : (who : Sid) (writing : Writing) (heard : List Reply) (book : Book) (reply : Reply)
    → Belongs who wanted.Nothing reply → IsBooked who writing heard book → IsBooked who writing (reply ∷ heard) (note_of wanted.Nothing reply book)
nothing-step who writing heard book Reply.Nothing belongs s =
    mild who writing Reply.Nothing heard book book
    (record { left = λ p o. refl; none = refl; release = refl; number = λ h. refl; ending = λ h. refl; back = λ h. refl }) (alike book)
    (λ on. absurd (false≢true (sym on))) s
nothing-step who writing heard book other belongs s = elim belongs [ ]

-- whatever a session that writes is told, its book stands afterwards
pub write-step : (who : Sid) (writing : Writing) (short : Bool) (heard : List Reply) (book : Book) (reply : Reply) → AreOnce writing.keys
    → Belongs who (write_wants writing short heard) reply → IsBooked who writing heard book
    → IsBooked who writing (reply ∷ heard) (note_of (write_wants writing short heard) reply book)
write-step who writing short heard book reply once belongs s =
    write_cases (λ request. write_wants writing short heard ≡ request → Belongs who request reply
    → IsBooked who writing (reply ∷ heard) (note_of request reply book)) writing short heard
    (λ key at asks e b. next key (mode_on writing.mode key) at (unended (quarantine_as (mode_on writing.mode key) key writing.txn) e
    (not-nothing (mode_on writing.mode key) key) (asking-goes heard asks)) b)
    (λ going e b. commit-step who writing heard book (record { items = granted heard; room = length writing.keys }) reply
    (unended (commit_with writing heard) e (λ no. cc) going) b s)
    (λ key looks asks no_more e b. get-step who writing heard book key reply (unended (wanted.Get key 0) e (λ no. cc) (asking-goes heard asks)) b s)
    (λ key looks going e b. staged-step who writing heard book key writing.txn reply (unended (wanted.Staged key writing.txn) e (λ no. cc) going) b s)
    (λ going e b. end-step who writing heard book reply b s)
    (λ grant at going e b. raise-step who writing heard book grant reply at (unended (wanted.Raise grant) e (λ no. cc) going) b s)
    (λ grant at going e b. renew-step who writing heard book grant reply (unended (wanted.Renew grant) e (λ no. cc) going) b s)
    (λ one at ending none e b. abort-step who writing heard book one reply at ending b s)
    (λ one at ending e b. dar-step who writing heard book one reply at ending b s)
    (λ one number at ending is refresh e b. sar-step who writing heard book one (new_value one.permit.key writing.txn one.old) number reply at ending number is b s)
    (λ one number at ending is delta e b. apply-step who writing heard book one number reply at ending b s)
    (λ e b. nothing-step who writing heard book reply b s) refl belongs
  where
    unended : (request : Wanted) → write_wants writing short heard ≡ request → (request ≡ wanted.Nothing → ⊥) → is_ending heard ≡ false → IsUnended heard
    unended request e some going = s.going going (goes-on writing short heard request e some)

    not-nothing : (mode : Mode) (key : QKey) → quarantine_as mode key writing.txn ≡ wanted.Nothing → ⊥
    not-nothing Invalidate key e = cc
    not-nothing Refresh key e = cc
    not-nothing Delta key e = cc

    next : (key : QKey) (mode : Mode) → slice_get writing.keys (count_by is_had heard) ≡ Some key → IsUnended heard
        → Belongs who (quarantine_as mode key writing.txn) reply
        → IsBooked who writing (reply ∷ heard) (note_of (quarantine_as mode key writing.txn) reply book)
    next key Invalidate at none b = reg-step who writing heard book key reply once at none b s
    next key Refresh at none b = read-step who writing heard book key reply once at none b s
    next key Delta at none b = delta-step who writing heard book key reply once at none b s
