-- What the sweeper drops is final in every run: by its moves, the latest first.
use Rattle.std.proofs.Common.{ℕ, ◌≡◌, ◌≤◌, ◌<◌, ◌==◌, Bool, true, false, not, cond, List, [], ◌∷◌, ◌++◌, length, length-append, filter, find}
use Rattle.std.proofs.Common.{Option, Some, None, option_map, refl, sym, ap, subst, ◌∙◌, inl, inr, ⊎_elim, eq-eqb, eqb-true, arith}
use Rattle.rows_model.specs.declared.keys.QKey.{QKey}
use Rattle.rows_model.specs.declared.keys.Sid.{Sid}
use Rattle.rows_model.proofs.SameKey.{same_key-refl}
use Rattle.rows_model.specs.Placement.{shard_of}
use Rattle.lease_table.specs.declared.records.Due.{Due}
use Rattle.lease_table.specs.declared.records.Mode.TheVariants.{Invalidate}
use Rattle.lease_table.specs.declared.records.Quar.{Quar}
use Rattle.lease_table.specs.declared.records.ReadLease.{ReadLease}
use Rattle.lease_table.specs.Leases.{has_token}
use Rattle.key_shard.specs.declared.steps.Ended.TheVariants.{Drop}
use Rattle.key_shard.specs.declared.steps.Step.{Step}
use Rattle.key_shard.specs.declared.steps.Step.TheVariants.{Hit, Released}
use Rattle.key_shard.specs.Past.{standing, recorded, entry, quar_of, next_token}
use Rattle.key_shard.specs.Answers.{Answers, IsLegalPast, sweep_step}
use Rattle.key_shard.proofs.PlaceLemmas.{ended-gone}
use Rattle.expiry_sweeper.specs.declared.replies.SweepReply.{SweepReply}
use Rattle.expiry_sweeper.specs.declared.replies.SweepReply.TheVariants as sweeps
use Rattle.expiry_sweeper.specs.declared.replies.SweepWanted.{SweepWanted}
use Rattle.expiry_sweeper.specs.declared.replies.SweepWanted.TheVariants as sweep
use Rattle.sql_keeper.specs.declared.stores.Closed.{Closed}
use Rattle.expiry_sweeper.specs.Sweeps.{sweep_wants, scan_reply}
use Rattle.key_freshness.specs.Known.{IsAmong, IsOver, IsMore}
use Rattle.key_freshness.specs.Marks.{marks_of}
use Rattle.key_freshness.proofs.KnownLemmas.{more-trans, more-length, over-then}
use Rattle.session_client.specs.declared.plans.Shape.{Shape}
use Rattle.session_client.specs.declared.plans.Turn.{Turn}
use Rattle.session_client.specs.declared.plans.Turn.TheVariants as turn
use Rattle.session_client.specs.declared.replies.Wanted.{Wanted}
use Rattle.session_client.specs.declared.replies.Wanted.TheVariants as wanted
use Rattle.core_history.specs.Events.{Event, Stepped, Called, Ticked, Swept, steps_in, steps_of, swept_in, sweeps_of, commits_in, log_of}
use Rattle.core_history.specs.Events.{ends_in, ended_of, known_of}
use Rattle.core_history.specs.Machine.{World, Move, Begin, Take, Said, terms_of, is_open, event_of, wanted_of, sweep_of, ended_as}
use Rattle.core_history.specs.Machine.{swept_next, turn_event, world_of}
use Rattle.core_history.specs.Freshness.{IsCommitOf}
use Rattle.core_history.specs.Sweeps.{IsHitSince, AreHitsSince, WasEnded, SweepsAreFinal}
use Rattle.core_history.proofs.EventLemmas.{unmade-steps}
use Rattle.core_history.proofs.ExclusiveLemmas.{AreAlone}
use Rattle.core_history.proofs.FreshRuns.{run_holds}
use Rattle.core_history.proofs.GoodEvents.{IsGoodEvent}
use Rattle.core_history.proofs.HeldEvents.{steps_at, Holds}
use Rattle.core_history.proofs.InnerLemmas.{Inner, stands_well, draws-late}
use Rattle.core_history.proofs.KeyLemmas.{StandsAs, quar-old, quar-was, next-append}
use Rattle.core_history.proofs.ListLemmas.{every-append, every-found, every-weaker}
use Rattle.core_history.proofs.SessionLemmas.{maybe-step}
use Rattle.core_history.proofs.SinceLemmas.{IsEntrySince, Since, event_since, event_hits}
use Rattle.core_history.proofs.SweepingLemmas.{IsSweeping}
use Rattle.core_history.proofs.SweepTurnLemmas.{sweep_cases}
use Rattle.core_history.proofs.WorldLemmas.{taken-inner, inner_of}

none_some : {X : Type 0} (x : X) → None ≡ Some x → ⊥
none_some x e = cc

first_same : {X : Type 0} {x y : X} {xs ys : List X} → x ∷ xs ≡ y ∷ ys → x ≡ y
first_same e = cc

rest_same : {X : Type 0} {x y : X} {xs ys : List X} → x ∷ xs ≡ y ∷ ys → xs ≡ ys
rest_same e = cc

-- no session's turn is a sweep, and it tells the sweeper nothing
session_turn : (shape : Shape) (world : World) (who : Sid) (said : Said) (request : Wanted) → swept_in (event_of shape world who request said) ≡ []
session_turn shape world who said (wanted.Get key floor) = refl
session_turn shape world who said (wanted.Ask key) = refl
session_turn shape world who said (wanted.Staged key txn) = refl
session_turn shape world who said (wanted.Set key token value stamp) = refl
session_turn shape world who said (wanted.QaReg key) = refl
session_turn shape world who said (wanted.QaRead key) = refl
session_turn shape world who said (wanted.Delta key by) = refl
session_turn shape world who said (wanted.Commit txn grants) = refl
session_turn shape world who said wanted.End = refl
session_turn shape world who said (wanted.Dar grant) = refl
session_turn shape world who said (wanted.Sar grant value stamp) = refl
session_turn shape world who said (wanted.Apply grant stamp) = refl
session_turn shape world who said (wanted.Abort grant) = refl
session_turn shape world who said (wanted.Raise grant) = refl
session_turn shape world who said (wanted.Renew grant) = refl
session_turn shape world who said wanted.Nothing = refl

-- a sweep that makes a step ends the quarantine of the token that it wanted to drop, where that stood, on the key's shard
record IsDrop (shape : Shape) (world : World) (home : ℕ) (key : QKey) (token : ℕ) (s : Step) : Type 0 where
  pub wants : swept_next shape world ≡ sweep.Drop key token
  pub quar : Quar
  pub stands : quar_of key token (steps_at shape world.past key) ≡ Some quar
  pub at : shard_of key shape.shards ≡ home
  pub ends : Released key quar.sid token Drop ≡ s

made_drop : (shape : Shape) (world : World) (home : ℕ) (key : QKey) (token : ℕ) (s : Step) (found : Option Quar) → swept_next shape world ≡ sweep.Drop key token
    → quar_of key token (steps_at shape world.past key) ≡ found → shard_of key shape.shards ≡ home
    → option_map (λ quar. Released key quar.sid token Drop) found ≡ Some s
    → IsDrop shape world home key token s
made_drop shape world home key token s None wants stands at made = absurd (none_some s made)
made_drop shape world home key token s (Some quar) wants stands at made = record { wants = wants; quar = quar; stands = stands; at = at; ends = cc }

sweep_drop : (shape : Shape) (world : World) (request : SweepWanted) (home : ℕ) (key : QKey) (token : ℕ) (s : Step) (reply : SweepReply)
    → swept_next shape world ≡ request → sweep_of shape world request ≡ Swept home (sweep.Drop key token) (Some s) reply → IsDrop shape world home key token s
sweep_drop shape world (sweep.Scan place) home key token s reply wants e = absurd cc
sweep_drop shape world (sweep.End who) home key token s reply wants e = absurd cc
sweep_drop shape world (sweep.Drop on gone) home key token s reply wants e =
    let same : sweep.Drop on gone ≡ sweep.Drop key token = cc in
    let k : on ≡ key = cc in
    let t : gone ≡ token = cc in
    let at : shard_of on shape.shards ≡ home = cc in
    let made : sweep_step (steps_at shape world.past on) on gone ≡ Some s = cc in
    made_drop shape world home key token s (quar_of key token (steps_at shape world.past key)) (wants
    ∙ same) refl (subst (λ k. shard_of k shape.shards ≡ home) k at)
    (subst (λ k. sweep_step (steps_at shape world.past k) k token
    ≡ Some s) k (subst (λ (t : ℕ). sweep_step (steps_at shape world.past on) on t ≡ Some s) t made))

turn_drop : (shape : Shape) (world : World) (turn : Turn) (said : Said) (home : ℕ) (key : QKey) (token : ℕ) (s : Step) (reply : SweepReply)
    → turn_event shape world turn said ≡ Swept home (sweep.Drop key token) (Some s) reply → IsDrop shape world home key token s
turn_drop shape world (turn.Session who) said home key token s reply e =
    absurd (no_reply_there reply (sym (session_turn shape world who said (wanted_of world who)) ∙ ap swept_in e))
  where
    no_reply_there : (x : SweepReply) → [] ≡ x ∷ [] → ⊥
    no_reply_there x e = cc
turn_drop shape world (turn.Tick by) said home key token s reply e = absurd cc
turn_drop shape world turn.Sweep said home key token s reply e = sweep_drop shape world (swept_next shape world) home key token s reply refl e

-- a drop is wanted of what a scan found, once that session was ended
record IsFound (replies : List SweepReply) (key : QKey) (token : ℕ) : Type 0 where
  pub at : ℕ
  pub due : Due
  pub closing : Closed
  pub rest : List SweepReply
  pub last : replies ≡ sweeps.Ended closing ∷ sweeps.Found at due ∷ rest
  pub of_key : due.key ≡ key
  pub of_token : due.token ≡ token

found_first : (shards : ℕ) (replies : List SweepReply) (key : QKey) (token : ℕ) → sweep_wants shards replies ≡ sweep.Drop key token → IsFound replies key token
found_first shards replies key token =
    sweep_cases (λ request. request ≡ sweep.Drop key token → IsFound replies key token) shards replies (λ place e. absurd cc) (λ at due rest last e. absurd cc)
    (λ at due closing rest last e. record { at = at; due = due; closing = closing; rest = rest; last = last; of_key = cc; of_token = cc })

-- where the sweeper was told last that a session was ended, after it was found, it ended that session
abbrev IsEndHeard : List Event → Closed → ℕ → Due → List SweepReply → Type 0
IsEndHeard past closing at due rest = sweeps_of past ≡ sweeps.Ended closing ∷ sweeps.Found at due ∷ rest

ended_longer : (event : Event) (past : List Event) (sid : Sid) → WasEnded sid past → WasEnded sid (event ∷ past)
ended_longer event past sid end = record { was = end.was; between = event ∷ end.between; earlier = end.earlier; is = ap (λ l. event ∷ l) end.is }

not_scanned : (place : ℕ) (found : Option Due) (closing : Closed) → scan_reply place found ≡ sweeps.Ended closing → ⊥
not_scanned place None closing e = cc
not_scanned place (Some other) closing e = cc

ended_swept : (shape : Shape) (world : World) (request : SweepWanted) (closing : Closed) (at : ℕ) (due : Due) (rest : List SweepReply)
    → swept_next shape world ≡ request → IsEndHeard (sweep_of shape world request ∷ world.past) closing at due rest → WasEnded due.sid (sweep_of shape world request ∷ world.past)
ended_swept shape world (sweep.Scan place) closing at due rest wants same = absurd (not_scanned place _ closing (first_same same))
ended_swept shape world (sweep.End who) closing at due rest wants is_so =
    let found : sweeps_of world.past ≡ sweeps.Found at due ∷ rest = rest_same is_so in
    let same : sweep.End who ≡ sweep.End due.sid = sym wants ∙ ap (sweep_wants shape.shards) found in
    let is : who ≡ due.sid = cc in
    subst (λ w. WasEnded w (sweep_of shape world (sweep.End who) ∷ world.past)) is
    (record { was = is_open world who; between = []; earlier = world.past; is = refl })
ended_swept shape world (sweep.Drop key token) closing at due rest wants same = absurd cc

ended_turn : (shape : Shape) (world : World) (turn : Turn) (said : Said) (closing : Closed) (at : ℕ) (due : Due) (rest : List SweepReply)
    → (IsEndHeard world.past closing at due rest → WasEnded due.sid world.past)
    → IsEndHeard (turn_event shape world turn said ∷ world.past) closing at due rest → WasEnded due.sid (turn_event shape world turn said ∷ world.past)
ended_turn shape world (turn.Session who) said closing at due rest before same =
    let none = session_turn shape world who said (wanted_of world who) in
    ended_longer (turn_event shape world (turn.Session who) said) world.past due.sid (before (sym (ap (λ l. l ++ sweeps_of world.past) none) ∙ same))
ended_turn shape world (turn.Tick by) said closing at due rest before same = ended_longer (turn_event shape world (turn.Tick by) said) world.past due.sid (before same)
ended_turn shape world turn.Sweep said closing at due rest before same = ended_swept shape world (swept_next shape world) closing at due rest refl same

ended_run : (shape : Shape) (moves : List Move) (closing : Closed) (at : ℕ) (due : Due) (rest : List SweepReply)
    → IsEndHeard (world_of shape moves).past closing at due rest
    → WasEnded due.sid (world_of shape moves).past
ended_run shape [] closing at due rest same = absurd cc
ended_run shape (Begin plan ∷ moves) closing at due rest same = ended_run shape moves closing at due rest same
ended_run shape (Take turn said ∷ moves) closing at due rest same =
    ended_turn shape (world_of shape moves) turn said closing at due rest (λ before. ended_run shape moves closing at due rest before) same

-- where one quarantine stands, and one is found, it passes the test
only_has : (p : Quar → Bool) (x y : Quar) → find p (x ∷ []) ≡ Some y → p x ≡ true
only_has p x y e = by (p x) refl e
  where
    by : (b : Bool) → p x ≡ b → cond b (Some x) None ≡ Some y → p x ≡ true
    by true is found = is
    by false is found = absurd (none_some y found)

-- what is known grows by each event
ended_back : (who : ℕ) (new old : List ℕ) → IsAmong who old → IsAmong who (new ++ old)
ended_back who [] old h = h
ended_back who (first ∷ new) old h = inr (ended_back who new old h)

event_more : (event : Event) (past : List Event) → IsMore (known_of past) (known_of (event ∷ past))
event_more event past = record { more = commits_in event; goes_on = refl; kept = λ who h. ended_back who (ends_in event) (ended_of past) h }

log_longer : (new past : List Event) → length (log_of past) ≤ length (log_of (new ++ past))
log_longer [] past = omega arith
log_longer (event ∷ new) past =
    let old = log_longer new past in
    let sum = length-append (log_of (new ++ past)) (commits_in event) in
    omega (arith, old, sum)

-- what is so of a stamp is so of a lower one
hit_weaker : (key : QKey) (low high : ℕ) → low ≤ high → (s : Step) → IsHitSince key high s → IsHitSince key low s
hit_weaker key low high le (Hit on sid floor value stamp) h = λ is. let k = h is in omega (arith, le, k)
hit_weaker key low high le other h = tt

-- where no quarantine of the token stood, and each that stands now stood, none stands
none_from : (key : QKey) (token : ℕ) (past : List Step) (now : Option Quar) → quar_of key token past ≡ None
    → ((quar : Quar) → now ≡ Some quar → StandsAs key token past quar) → now ≡ None
none_from key token past None none old = refl
none_from key token past (Some quar) none old = let was = old quar refl in absurd (none_some was.0 (sym none ∙ was.1))

module _ (shape : Shape) (key : QKey) (token : ℕ) where
  abbrev place : ℕ
  place = shard_of key shape.shards

  abbrev on : List Event → List Step
  on past = steps_at shape past key

  -- no quarantine of the token stands on the key
  abbrev IsGone : List Step → Type 0
  IsGone steps = quar_of key token steps ≡ None

  -- the sweeper made this step to drop the quarantine
  abbrev sweeping : SweepReply → ℕ → Step → Event
  sweeping reply home s = Swept home (sweep.Drop key token) (Some s) reply

  -- all that is kept since the drop
  record IsDone (s : Step) (before after past : List Event) : Type 0 where
    pub sid : Sid
    pub ends : s ≡ Released key sid token Drop
    pub ended : WasEnded sid before
    pub over : IsOver (known_of before) sid.number
    pub drawn : token < next_token (terms_of shape place) (on past)
    pub gone : IsGone (on past)
    pub since : Since shape key (length (log_of before)) past
    pub more : IsMore (known_of before) (known_of past)
    pub hits : AreHitsSince shape key (length (log_of before)) after

  -- at the drop nothing is left that the key's value could be made from
  module _ (world : World) (inner : Inner shape world) (holds : Holds shape world.past (known_of world.past))
      (quar : Quar) (stands : quar_of key token (on world.past) ≡ Some quar) where
    abbrev steps : List Step
    steps = on world.past

    abbrev dropped : Step
    dropped = Released key quar.sid token Drop

    no_entry : entry key (dropped ∷ steps) ≡ None
    no_entry = ap (λ b. cond b None (entry key steps)) (same_key-refl key)

    no_lease : (lease : ReadLease) → recorded key steps ≡ Some lease → ⊥
    no_lease lease is =
        ⊎_elim (λ none. none_some quar (sym (ap (find (has_token token)) none) ∙ stands)) (λ none. none_some lease (sym none ∙ is)) (holds.apart key)

    all_invalidate : (t : ℕ) (other : Quar) → AreAlone key (standing key steps) world.past (marks_of key steps) (known_of world.past) (entry key steps)
        → quar_of key t (dropped ∷ steps) ≡ Some other → other.mode ≡ Invalidate
    all_invalidate t other (inl all) is =
        (every-found (λ q. q.mode ≡ Invalidate) (has_token t) (standing key steps) other all (quar-old dropped key t steps other tt refl is)).0
    all_invalidate t other (inr one) is =
        let stays : Quar → Bool = λ q. not (has_token token q) in
        let has = only_has (has_token token) one.quar quar (ap (find (has_token token)) (sym one.only) ∙ stands) in
        let left : standing key (dropped ∷ steps) ≡ [] =
        ap (λ b. cond b (filter stays (standing key steps)) (standing key steps)) (same_key-refl key)
        ∙ ap (filter stays) one.only ∙ ap (λ b. cond (not b) (one.quar ∷ []) []) has in
        absurd (none_some other (sym (ap (find (has_token t)) left) ∙ is))

    drop_here : (reply : SweepReply) → on (sweeping reply place dropped ∷ world.past) ≡ dropped ∷ steps
    drop_here reply = ap (λ b. cond b (dropped ∷ []) [] ++ steps) (eq-eqb place place refl)

    drop_since : (least : ℕ) (reply : SweepReply) → Since shape key least (sweeping reply place dropped ∷ world.past)
    drop_since least reply =
        let here = drop_here reply in
        record {
          held = subst (λ l. IsEntrySince least (entry key l)) (sym here) (subst (IsEntrySince least) (sym no_entry) tt);
          leased = λ lease commits is at. absurd (no_lease lease (subst (λ l. recorded key l ≡ Some lease) here is));
          granted = λ t other found is apart at. absurd (apart (all_invalidate t other (holds.alone key) (subst (λ l. quar_of key t l ≡ Some other) here is)));
        }

    drop_done : (reply : SweepReply) → IsGoodEvent shape world.past (sweeping reply place dropped) → WasEnded quar.sid world.past
        → IsDone dropped world.past [] (sweeping reply place dropped ∷ world.past)
    drop_done reply good ended =
        let next = next_token (terms_of shape place) steps in
        let found = every-found (λ q. q.token < next) (has_token token) (standing key steps) quar (stands_well shape world inner key).below stands in
        let below = found.0 in
        let is : quar.token ≡ token = eqb-true quar.token token found.1 in
        let later = next-append (terms_of shape place) (steps_in place (sweeping reply place dropped)) steps in
        record {
          sid = quar.sid;
          ends = refl;
          ended = ended;
          over = good.0.over;
          drawn = omega (arith, is, below, later);
          gone = subst IsGone (sym (drop_here reply)) (ended-gone steps key quar.sid token Drop);
          since = drop_since (length (log_of world.past)) reply;
          more = event_more (sweeping reply place dropped) world.past;
          hits = tt;
        }

  -- the turn that drops it
  drop_turn : (moves : List Move) (turn : Turn) (said : Said) (home : ℕ) (s : Step) (reply : SweepReply)
      → turn_event shape (world_of shape moves) turn said ≡ sweeping reply home s
      → IsDone s (world_of shape moves).past [] (turn_event shape (world_of shape moves) turn said ∷ (world_of shape moves).past)
  drop_turn moves turn said home s reply is =
      let world = world_of shape moves in
      let past = world.past in
      let inner = inner_of shape moves in
      let drop = turn_drop shape world turn said home key token s reply is in
      let found = found_first shape.shards (sweeps_of past) key token drop.wants in
      let due = found.due in
      let theirs = (subst (IsSweeping shape world.plans past) found.last inner.sweeping).0 in
      let on_it = subst (λ k. quar_of k token (on_key k) ≡ Some drop.quar) (sym found.of_key) drop.stands in
      let stands = subst (λ (t : ℕ). quar_of due.key t (on_key due.key) ≡ Some drop.quar) (sym found.of_token) on_it in
      let mine : due.sid ≡ drop.quar.sid = sym (theirs.mine drop.quar stands) in
      let ended = subst (λ w. WasEnded w past) mine (ended_run shape moves found.closing found.at due found.rest found.last) in
      let good = subst (IsGoodEvent shape past) is (taken-inner shape world turn said inner).1 in
      let D : ℕ → Step → Type 0 = λ h x. IsGoodEvent shape past (sweeping reply h x) → IsDone x past [] (sweeping reply h x ∷ past) in
      let here : D place (Released key drop.quar.sid token Drop) = λ g. drop_done world inner (run_holds shape moves) drop.quar drop.stands reply g ended in
      subst (λ e. IsDone s past [] (e ∷ past)) (sym is) (subst (λ h. D h s) drop.at (subst (D place) drop.ends here) good)
    where
      on_key : QKey → List Step
      on_key k = steps_at shape (world_of shape moves).past k

  -- no quarantine of the token is granted again
  gone_more : (event : Event) (past : List Event)
      → ((home : ℕ) → IsLegalPast (terms_of shape home) (steps_of home (event ∷ past))) → IsGoodEvent shape past event
      → token < next_token (terms_of shape place) (on past) → IsGone (on past) → IsGone (on (event ∷ past))
  gone_more (Stepped home who request s reply) past legal good low none =
      let answers : Answers (terms_of shape home) (steps_of home past) s =
      (subst (λ b. IsLegalPast (terms_of shape home) (cond b (s ∷ []) [] ++ steps_of home past)) (eq-eqb home home refl) (legal home)).0 in
      let late = (draws-late shape past home s answers key token low).1 in
      maybe-step IsGone (home == place) s (on past)
      (λ _. none_from key token (on past) (quar_of key token (s ∷ on past)) none (λ quar is. quar-was s key token (on past) quar late is)) (λ _. none)
  gone_more (Called who request reply) past legal good low none = none
  gone_more (Ticked now) past legal good low none = none
  gone_more (Swept home request None reply) past legal good low none = subst IsGone (sym (unmade-steps place home request reply past)) none
  gone_more (Swept home request (Some (Released on_key sid gone Drop)) reply) past legal good low none =
      let s = Released on_key sid gone Drop in
      maybe-step IsGone (home == place) s (on past)
      (λ _. none_from key token (on past) (quar_of key token (s ∷ on past)) none (λ quar is. quar-was s key token (on past) quar refl is)) (λ _. none)
  gone_more (Swept home request (Some other) reply) past legal good low none = absurd good.0

  -- after one more event
  more_done : (event : Event) (past : List Event) (s : Step) (before after : List Event)
      → ((home : ℕ) → IsLegalPast (terms_of shape home) (steps_of home (event ∷ past)))
      → Holds shape past (known_of past) → IsGoodEvent shape past event → IsDone s before after past → IsDone s before (event ∷ after) (event ∷ past)
  more_done event past s before after legal holds good done =
      let least = length (log_of before) in
      let longer : least ≤ length (log_of past) = more-length done.more in
      let low = done.drawn in
      let later = next-append (terms_of shape place) (steps_in place event) (on past) in
      record {
        sid = done.sid;
        ends = done.ends;
        ended = done.ended;
        over = done.over;
        drawn = omega (arith, low, later);
        gone = gone_more event past legal good done.drawn done.gone;
        since = event_since shape key least past holds done.since longer event good;
        more = more-trans done.more (event_more event past);
        hits = every-append (IsHitSince key least) (steps_in place event) (steps_of place after)
            (event_hits shape key least past holds done.since longer event good) done.hits;
      }

  -- in each run
  run_done : (before : List Event) (home : ℕ) (s : Step) (reply : SweepReply) (moves : List Move) (after : List Event)
      → (world_of shape moves).past ≡ after ++ sweeping reply home s ∷ before → IsDone s before after (world_of shape moves).past
  run_done before home s reply [] [] e = absurd cc
  run_done before home s reply [] (event ∷ after) e = absurd cc
  run_done before home s reply (Begin plan ∷ moves) after e = run_done before home s reply moves after e
  run_done before home s reply (Take turn said ∷ moves) [] e =
      subst (λ l. IsDone s l [] (turn_event shape (world_of shape moves) turn said ∷ (world_of shape moves).past)) (rest_same e)
      (drop_turn moves turn said home s reply (first_same e))
  run_done before home s reply (Take turn said ∷ moves) (first ∷ after) e =
      let world = world_of shape moves in
      let event = turn_event shape world turn said in
      let next = taken-inner shape world turn said (inner_of shape moves) in
      subst (λ x. IsDone s before (x ∷ after) (event ∷ world.past)) (first_same e)
      (more_done event world.past s before after next.0.legal (run_holds shape moves) next.1 (run_done before home s reply moves after (rest_same e)))

  weaker : (low high : ℕ) (events : List Event) → low ≤ high → AreHitsSince shape key high events → AreHitsSince shape key low events
  weaker low high events le hits = every-weaker (IsHitSince key high) (IsHitSince key low) (steps_of place events) (hit_weaker key low high le) hits

  -- the session's end came before the drop, and so did its commit, if there is one
  ended_before : (sid : Sid) (before : List Event) (end : WasEnded sid before) → length (log_of end.earlier) ≤ length (log_of before)
  ended_before sid before end =
      let event = Swept 0 (sweep.End sid) None (ended_as sid end.was) in
      let one = log_longer (event ∷ []) end.earlier in
      let more = log_longer end.between (event ∷ end.earlier) in
      let same = ap (λ l. length (log_of l)) end.is in
      omega (arith, one, more, same)

  committed_before : (moves : List Move) (s : Step) (before after : List Event) (done : IsDone s before after (world_of shape moves).past) (number : ℕ)
      → IsCommitOf (log_of (world_of shape moves).past) done.sid number → number ≤ length (log_of before)
  committed_before moves s before after done number commit =
      let past = (world_of shape moves).past in
      let over = subst (λ (w : Sid). IsOver (known_of before) w.number) (sym commit.own) done.over in
      let within = over-then key (marks_of key (on past)) done.more ((run_holds shape moves).ruled key) commit.place commit.commit commit.at over in
      let is = commit.is in
      omega (arith, is, within)

pub sweeps_final : SweepsAreFinal
sweeps_final shape moves before after home key token s reply e =
    let past = (world_of shape moves).past in
    let done = run_done shape key token before home s reply moves after e in
    let all = length (log_of before) in
    record {
      sid = done.sid;
      ends = done.ends;
      ended = done.ended;
      over = done.over;
      gone = done.gone;
      since_drop = done.hits;
      since_end = λ end. weaker shape key token (length (log_of end.earlier)) all after (ended_before shape key token done.sid before end) done.hits;
      since_commit =
          λ number commit. weaker shape key token number all after (committed_before shape key token moves s before after done number commit) done.hits;
    }
