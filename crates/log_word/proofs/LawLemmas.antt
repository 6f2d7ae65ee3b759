-- What follows from what is seen: the course of a session, and that steps and commits are borne out.
use Rattle.std.proofs.Common.{◌≡◌, ℕ, List, [], ◌∷◌, ◌++◌, Bool, true, false, ◌||◌, true≢false, refl, sym, ◌∙◌, subst, eqb-true}
use Rattle.std.specs.List.{list_any}
use Rattle.log_word.specs.declared.events.StoreEvent.{StoreEvent}
use Rattle.log_word.specs.declared.events.StoreEvent.TheVariants.{Begin, Commit, End}
use Rattle.log_word.specs.Events.{begins, closes, has_begun, may_write, is_over, MayFollow, AreInOrder}
use Rattle.log_word.specs.Lists.{steps_of}
use Rattle.log_word.specs.Steps.{IsBorneOut, IsGranted}
use Rattle.log_word.specs.Laws.{SessionsBeginOnce, SessionsCloseOnce, GrantsHaveBegun, ReleasesAreOver, StampsAreCommitted, CommitsWereGranted}
use Rattle.log_word.proofs.StartLemmas.{all_among, any_among}

-- what comes first is in order too
in_order_before : (later earlier : List StoreEvent) → AreInOrder (later ++ earlier) → AreInOrder earlier
in_order_before [] earlier h = h
in_order_before (event ∷ later) earlier h = in_order_before later earlier h.1

-- a test that passes at a member passes
any_here : (p : StoreEvent → Bool) (later earlier : List StoreEvent) (event : StoreEvent) → p event ≡ true → list_any p (later ++ event ∷ earlier) ≡ true
any_here p [] earlier event h = by (p event) h
  where
    by : (b : Bool) → b ≡ true → (b || list_any p earlier) ≡ true
    by true e = refl
    by false e = absurd (true≢false (sym e))
any_here p (first ∷ later) earlier event h = by (p first) (any_here p later earlier event h)
  where
    by : (b : Bool) → list_any p (later ++ event ∷ earlier) ≡ true → (b || list_any p (later ++ event ∷ earlier)) ≡ true
    by true e = refl
    by false e = e

-- an event that passes may follow only where none before it passes
begins_first : (who : ℕ) (event : StoreEvent) (events : List StoreEvent) → MayFollow events event → begins who event ≡ true → has_begun who events ≡ false
begins_first who (Begin sid worker writes) events h e = subst (λ n. has_begun n events ≡ false) (eqb-true sid.number who e) h
begins_first who (Commit sid txn) events h e = absurd (true≢false (sym e))
begins_first who (End sid) events h e = absurd (true≢false (sym e))

closes_first : (who : ℕ) (event : StoreEvent) (events : List StoreEvent) → MayFollow events event → closes who event ≡ true → (may_write who events ≡ true) × (is_over who events ≡ false)
closes_first who (Begin sid worker writes) events h e = absurd (true≢false (sym e))
closes_first who (Commit sid txn) events h e = subst (λ n. (may_write n events ≡ true) × (is_over n events ≡ false)) (eqb-true sid.number who e) h
closes_first who (End sid) events h e = subst (λ n. (may_write n events ≡ true) × (is_over n events ≡ false)) (eqb-true sid.number who e) h

-- where each event that passes has none before it that does, none passes behind one that does
none_behind : (p : StoreEvent → Bool) → ((event : StoreEvent) (events : List StoreEvent) → MayFollow events event → p event ≡ true → list_any p events ≡ false)
    → (event : StoreEvent) (earlier later : List StoreEvent) → AreInOrder (later ++ event ∷ earlier) → p event ≡ true → list_any p later ≡ false
none_behind p alone event earlier [] h e = refl
none_behind p alone event earlier (first ∷ later) h e = by (p first) refl (none_behind p alone event earlier later h.1 e)
  where
    by : (b : Bool) → p first ≡ b → list_any p later ≡ false → (b || list_any p later) ≡ false
    by true is none = absurd (true≢false (sym (any_here p later earlier event e) ∙ alone first (later ++ event ∷ earlier) h.0 is))
    by false is none = none

pub begin_once : SessionsBeginOnce
begin_once who event earlier later h e = (
  begins_first who event earlier (in_order_before later (event ∷ earlier) h).0 e,
  none_behind (begins who) (begins_first who) event earlier later h e,
)

pub close_once : SessionsCloseOnce
close_once who event earlier later h e = (
  closes_first who event earlier (in_order_before later (event ∷ earlier) h).0 e,
  none_behind (closes who) (λ other events may is. (closes_first who other events may is).1) event earlier later h e,
)

pub grants_begun : GrantsHaveBegun
grants_begun shards shard seen step h among is = (all_among (IsBorneOut seen.events) (steps_of shard seen.steps) step (h.borne_out shard) among).begun is

pub releases_over : ReleasesAreOver
releases_over shards shard seen step h among is = (all_among (IsBorneOut seen.events) (steps_of shard seen.steps) step (h.borne_out shard) among).over is

pub stamps_committed : StampsAreCommitted
stamps_committed shards shard seen step h among = (all_among (IsBorneOut seen.events) (steps_of shard seen.steps) step (h.borne_out shard) among).stamped

pub commits_granted : CommitsWereGranted
commits_granted shards seen sid txn key h among touched =
    let granted : IsGranted shards seen.steps (Commit sid txn) = all_among (IsGranted shards seen.steps) seen.events (Commit sid txn) h.granted among in
    any_among _ _ (granted key touched)
