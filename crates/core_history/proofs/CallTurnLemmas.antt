-- A turn in which a writer asks the store keeps the facts: for its commit, for an answer, or to be ended.
use Rattle.std.proofs.Common.{ℕ, ◌≡◌, ◌+◌, ◌==◌, Bool, true, false, not, cond, List, [], ◌∷◌, length, find, Option, Some, None, refl, ap}
use Rattle.std.proofs.Common.{subst, ◌∙◌, inl, inr, ◌⊎◌}
use Rattle.std.proofs.lemmas.Bool.{false≢true, eqb-true, eq-eqb}
use Rattle.rows_model.specs.declared.keys.QKey.{QKey}
use Rattle.rows_model.specs.declared.keys.Sid.{Sid}
use Rattle.rows_model.specs.declared.changes.Change.{Change}
use Rattle.rows_model.specs.Key.{same_key}
use Rattle.rows_model.specs.Changes.{footprint, touches, has_key}
use Rattle.rows_model.proofs.SameKey.{same_key-true}
use Rattle.rows_model.proofs.FootprintLemmas.{footprints_are_exact_is}
use Rattle.rows_model.specs.Placement.{shard_of}
use Rattle.key_shard.specs.Permit.{Permit}
use Rattle.key_shard.specs.Past.{standing}
use Rattle.sql_keeper.specs.declared.faults.AfterFault.TheVariants as after
use Rattle.sql_keeper.specs.declared.faults.CommitFault.{CommitFault}
use Rattle.sql_keeper.specs.declared.faults.CommitFault.TheVariants as faults
use Rattle.sql_keeper.specs.Commits.{is_covered, uncovered, covered_fault, commit_fault}
use Rattle.key_freshness.proofs.GrantMarks.{quarantined-granted}
use Rattle.session_client.specs.Grants.{GrantsView}
use Rattle.session_client.specs.declared.plans.Plan.{Plan}
use Rattle.session_client.specs.declared.plans.Shape.{Shape}
use Rattle.session_client.specs.declared.replies.Reply.{Reply}
use Rattle.session_client.specs.declared.replies.Reply.TheVariants as Reply
use Rattle.session_client.specs.declared.replies.Wanted.{Wanted}
use Rattle.session_client.specs.declared.replies.Wanted.TheVariants as wanted
use Rattle.session_client.specs.Plans.{keys_of, changes_of}
use Rattle.session_client.specs.Wants.{granted, was_committed, writing_of, commit_with}
use Rattle.session_client.proofs.WantCases.{is_ending}
use Rattle.core_history.specs.Events.{Event, Called, steps_of, heard_by, log_of, has_committed, was_ended}
use Rattle.core_history.specs.Machine.{World, Said, Value, Made, Rejected, Failed, is_open, commit_said, commit_by, log_cap, staged_reply}
use Rattle.core_history.specs.Facts.{stands_for}
use Rattle.core_history.proofs.ListLemmas.{choose, or_inl, or_inr, or_elim, not_both}
use Rattle.core_history.proofs.GoodEvents.{IsGoodEvent}
use Rattle.core_history.proofs.KeyLemmas.{granted_standing}
use Rattle.core_history.proofs.EventLemmas.{closed, closed-more, over-closed, logged-committed}
use Rattle.core_history.proofs.SessionLemmas.{stood-called, finds-called, is_going, Mild, writer-mild}
use Rattle.core_history.proofs.WriterLemmas.{writer-committed}
use Rattle.core_history.proofs.InnerLemmas.{Inner, with_event, called-inner, mild-inner}
use Rattle.core_history.proofs.ReadTurnLemmas.{After}
use Rattle.core_history.proofs.WritingLemmas.{IsWriter, open-uncommitted, open-closed, shut-closed, granted-stands}

-- a call of a writer's that brings it no grant and no commit
call-turn : (shape : Shape) (world : World) (who : Sid) (plan : Plan) (request : Wanted) (reply : Reply)
    → Inner shape world → IsWriter shape world who.number plan → Mild reply
    → (is_ending (reply ∷ heard_by who.number world.past) ≡ true → closed who.number (Called who request reply ∷ world.past) ≡ true)
    → (is_going (reply ∷ heard_by who.number world.past) ≡ true → is_going (heard_by who.number world.past) ≡ true)
    → Inner shape (with_event world (Called who request reply))
call-turn shape world who plan request reply inner w mild ending goes =
    let event = Called who request reply in
    mild-inner shape world who request reply inner mild.brings.none mild.commit
    (w.stays event reply (writer-mild shape event world.past who.number reply
    (heard_by who.number world.past) (writing_of plan) mild (finds-called shape who request reply world.past who.number)
    (λ grant own. stood-called shape who request reply world.past who.number grant) ending goes w.writer))

-- it is ended at the store, whether or not it was open: it is closed then
pub end-turn : (shape : Shape) (world : World) (who : Sid) (said : Said) (plan : Plan)
    → Inner shape world → IsWriter shape world who.number plan → After shape world who said wanted.End
end-turn shape world who said plan inner w = by (is_open world who) refl
  where
    ended : (b : Bool) → closed who.number (Called who wanted.End (Reply.End b) ∷ world.past) ≡ true
        → Inner shape (with_event world (Called who wanted.End (Reply.End b)))
    ended b shut =
        call-turn shape world who plan wanted.End (Reply.End b) inner w (record {
          brings = record { none = refl; kept = λ p g. refl; left = λ p g. refl };
          calm = refl;
          had = refl;
          release = refl;
          commit = refl;
        }) (λ _. shut)
        (λ on. absurd (false≢true on))

    by : (b : Bool) → is_open world who ≡ b → Inner shape (with_event world (Called who wanted.End (Reply.End b)))
        × IsGoodEvent shape world.past (Called who wanted.End (Reply.End b))
    by true is =
        let event = Called who wanted.End (Reply.End true) in
        let mine : was_ended who.number (event ∷ world.past) ≡ true =
        or_inl (who.number == who.number) (was_ended who.number world.past) (eq-eqb who.number who.number refl) in (
          ended true (or_inr (has_committed who.number (event ∷ world.past)) (was_ended who.number (event ∷ world.past)) mine),
          λ logged. not_both (logged-committed who.number world.past logged) (open-uncommitted world who is),
        )
    by false is =
        (ended false (closed-more who.number (Called who wanted.End (Reply.End false)) world.past (shut-closed world who plan w.at w.may is)), tt)

-- it wants nothing
pub nothing-turn : (shape : Shape) (world : World) (who : Sid) (said : Said) (plan : Plan)
    → Inner shape world → IsWriter shape world who.number plan → After shape world who said wanted.Nothing
nothing-turn shape world who said plan inner w = (
  call-turn shape world who plan wanted.Nothing Reply.Nothing inner w
      (record {
        brings = record { none = refl; kept = λ p g. refl; left = λ p g. refl };
        calm = refl;
        had = refl;
        release = refl;
        commit = refl;
      }) (λ e. absurd (false≢true e))
      (λ on. absurd (false≢true on)),
  tt,
)

-- it asks for the answer that its transaction would leave
pub staged-turn : (shape : Shape) (world : World) (who : Sid) (said : Said) (plan : Plan) (key : QKey) (txn : List Change)
    → Inner shape world → IsWriter shape world who.number plan
    → is_going (heard_by who.number world.past) ≡ true → After shape world who said (wanted.Staged key txn)
staged-turn shape world who said plan key txn inner w going = by said
  where
    request : Wanted
    request = wanted.Staged key txn

    by : (s : Said) → Inner shape (with_event world (Called who request (staged_reply txn s)))
        × IsGoodEvent shape world.past (Called who request (staged_reply txn s))
    by (Value value) = (
      call-turn shape world who plan request (Reply.Staged value txn) inner w
          (record {
            brings = record { none = refl; kept = λ p g. refl; left = λ p g. refl };
            calm = refl;
            had = refl;
            release = refl;
            commit = refl;
          }) (λ e. absurd (false≢true e)) (λ _. going),
      tt,
    )
    by (Rejected index) = (
      call-turn shape world who plan request (Reply.NotStaged (after.Rejected index) txn) inner w
          (record {
            brings = record { none = refl; kept = λ p g. refl; left = λ p g. refl };
            calm = refl;
            had = refl;
            release = refl;
            commit = refl;
          }) (λ e. absurd (false≢true e)) (λ _. going),
      tt,
    )
    by Made = (
      call-turn shape world who plan request (Reply.NotStaged after.Failed txn) inner w
          (record {
            brings = record { none = refl; kept = λ p g. refl; left = λ p g. refl };
            calm = refl;
            had = refl;
            release = refl;
            commit = refl;
          }) (λ e. absurd (false≢true e)) (λ _. going),
      tt,
    )
    by Failed = (
      call-turn shape world who plan request (Reply.NotStaged after.Failed txn) inner w
          (record {
            brings = record { none = refl; kept = λ p g. refl; left = λ p g. refl };
            calm = refl;
            had = refl;
            release = refl;
            commit = refl;
          }) (λ e. absurd (false≢true e)) (λ _. going),
      tt,
    )

-- no first fault: the session is open and each key that is touched is covered
found_none : (p : QKey → Bool) (key : QKey) (keys : List QKey) → find (λ k. not (p k)) keys ≡ None → has_key key keys ≡ true → p key ≡ true
found_none p key [] none has = absurd (false≢true has)
found_none p key (k ∷ keys) none has = by (p k) refl none (or_elim (same_key key k) (has_key key keys) has) (found_none p key keys)
  where
    by : (b : Bool) → p k ≡ b → cond (not b) (Some k) (find (λ x. not (p x)) keys) ≡ None → (same_key key k ≡ true) ⊎ (has_key key keys ≡ true)
        → (find (λ x. not (p x)) keys ≡ None → has_key key keys ≡ true → p key ≡ true) → p key ≡ true
    by false e none has rest = cc
    by true e none (inl same) rest = ap p (same_key-true key k same) ∙ e
    by true e none (inr more) rest = rest none more

no_fault : (is_so : Bool) (who : Sid) (grants : List Permit) (txn : List Change) (count cap : ℕ) → commit_fault is_so who grants txn count cap ≡ None
    → (is_so ≡ true) × (uncovered who grants txn ≡ None)
no_fault false who grants txn count cap h = cc
no_fault true who grants txn count cap h = (refl, by (uncovered who grants txn) h)
  where
    by : (o : Option QKey) → covered_fault o count cap ≡ None → o ≡ None
    by None h = refl
    by (Some key) h = cc

-- a quarantine of an open session stands on each key that its transaction touches, where each is covered
covered-stands : (shape : Shape) (world : World) (who : Sid) (plan : Plan) (txn : List Change) → IsWriter shape world who.number plan
    → closed who.number world.past ≡ false → uncovered who (granted (heard_by who.number world.past)) txn ≡ None → (key : QKey) → touches txn key ≡ true
    → stands_for who (standing key (steps_of (shard_of key shape.shards) world.past)) ≡ true
covered-stands shape world who plan txn w still none key touched =
    let heard = heard_by who.number world.past in
    granted-stands shape world.past who heard (writing_of plan) w.writer still key
    (found_none (is_covered who (granted heard)) key (footprint txn) none ((footprints_are_exact_is txn).exact key ∙ touched))

-- it is committed, or the commit is refused
pub commit-turn : (shape : Shape) (world : World) (who : Sid) (said : Said) (plan : Plan) → Inner shape world → IsWriter shape world who.number plan
    → is_going (heard_by who.number world.past) ≡ true → After shape world who said (commit_with (writing_of plan) (heard_by who.number world.past))
commit-turn shape world who said plan inner w going = by (commit_fault (is_open world who) who (granted heard) txn count log_cap) refl
  where
    past : List Event
    past = world.past

    heard : List Reply
    heard = heard_by who.number past

    txn : List Change
    txn = changes_of plan

    count : ℕ
    count = length (log_of past)

    lent : GrantsView
    lent = record { items = granted heard; room = length (keys_of plan) }

    request : Wanted
    request = wanted.Commit txn lent

    refused : (fault : CommitFault)
        → Inner shape (with_event world (Called who request (Reply.NotCommitted fault txn lent)))
        × IsGoodEvent shape past (Called who request (Reply.NotCommitted fault txn lent))
    refused fault = (
      call-turn shape world who plan request (Reply.NotCommitted fault txn lent) inner w
          (record {
            brings = record { none = refl; kept = λ p g. refl; left = λ p g. refl };
            calm = refl;
            had = refl;
            release = refl;
            commit = refl;
          }) (λ e. absurd (false≢true e)) (λ _. going),
      tt,
    )

    made : commit_fault (is_open world who) who (granted heard) txn count log_cap ≡ None
        → Inner shape (with_event world (Called who request (Reply.Committed (count + 1) txn lent)))
        × IsGoodEvent shape past (Called who request (Reply.Committed (count + 1) txn lent))
    made none =
        let reply = Reply.Committed (count + 1) txn lent in
        let event = Called who request reply in
        let parts = no_fault (is_open world who) who (granted heard) txn count log_cap none in
        let still = open-closed world who parts.0 in
        let stands = covered-stands shape world who plan txn w still parts.1 in (
          called-inner shape world who request reply inner refl
              (λ n shut. choose (λ l. was_committed l ≡ false) (who.number == n)
              (reply ∷ []) [] (λ same. absurd (not_both shut (subst (λ m. closed m past ≡ false) (eqb-true who.number n same) still))) (λ _. refl))
              stands (record { plan = plan; at = w.at; changes = refl })
              (w.stays event reply (writer-committed shape past who request txn lent heard (writing_of plan) w.writer)),
          record {
            opened = λ over. not_both (over-closed who.number past over) still;
            granted = λ key touched. quarantined-granted key who (steps_of (shard_of key shape.shards) past)
                (granted_standing key who (steps_of (shard_of key shape.shards) past) (stands key touched));
          },
        )

    answered : (s : Said) → commit_fault (is_open world who) who (granted heard) txn count log_cap ≡ None
        → Inner shape (with_event world (Called who request (commit_said count txn lent s)))
        × IsGoodEvent shape past (Called who request (commit_said count txn lent s))
    answered Made none = made none
    answered (Rejected index) none = refused (faults.Rejected index)
    answered (Value value) none = refused faults.KeepFault
    answered Failed none = refused faults.KeepFault

    by : (o : Option CommitFault) → commit_fault (is_open world who) who (granted heard) txn count log_cap ≡ o
        → Inner shape (with_event world (Called who request (commit_by count txn lent said o)))
        × IsGoodEvent shape past (Called who request (commit_by count txn lent said o))
    by (Some fault) e = refused fault
    by None e = answered said e
