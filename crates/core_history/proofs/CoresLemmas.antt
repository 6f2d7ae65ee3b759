-- How a core follows a session that begins, and each turn.
use Rattle.std.proofs.Common.{ℕ, min, ◌+◌, ◌-◌, ◌^◌, ◌≡◌, ◌≢◌, ◌<◌, ◌≤◌, ◌==◌, Bool, true, false, cond, List, [], ◌∷◌, ◌++◌, length, map}
use Rattle.std.proofs.Common.{Option, Some, option_map, IsTrue, Result, Ok, Err, MatchResult, IfOk, OnOk, OnErr, ◌⊎◌, inl, inr, zero, suc}
use Rattle.std.proofs.Common.{eq-eqb, rules, slice_get, set, refl, sym, ap, subst, ⊎_elim, ◌∙◌, length-append, arith}
use Rattle.std.specs.List.{list_any}
use Rattle.std.proofs.lemmas.Bool.{eqb-true, cases_Bool, cases_lt, false≢true}
use Rattle.std.proofs.lemmas.List.{map-append}
use Rattle.std.proofs.lemmas.Option.{slice_get-map, slice_get_within}
use Rattle.std.proofs.Math.ListN.{length-set}
use Rattle.rows_model.specs.declared.keys.Sid.{Sid}
use Rattle.rows_model.specs.Placement.{shard_of}
use Rattle.key_shard.specs.Permit.{Permit, same_permit}
use Rattle.key_shard.specs.Shards.{ShardView}
use Rattle.session_client.specs.declared.plans.Plan.{Plan}
use Rattle.session_client.specs.declared.plans.Shape.{Shape}
use Rattle.session_client.specs.declared.replies.Reply.{Reply}
use Rattle.session_client.specs.declared.replies.Wanted.{Wanted}
use Rattle.session_client.specs.declared.replies.Wanted.TheVariants as wanted
use Rattle.session_client.specs.declared.sessions.Session.{Session}
use Rattle.session_client.specs.Follows.{plan_of, sid_of, IsReady, Follows}
use Rattle.session_client.specs.Wants.{wants}
use Rattle.rows_model.specs.declared.refusals.Memory.{Memory}
use Rattle.session_client.specs.declared.plans.Turn.{Turn}
use Rattle.session_client.specs.declared.plans.Turn.TheVariants as turn
use Rattle.expiry_sweeper.specs.Follows.{shards_of, wanted_of as wanted_by_stage, Follows as HasHeard}
use Rattle.expiry_sweeper.specs.Sweeps.{sweep_wants}
use Rattle.expiry_sweeper.specs.declared.replies.SweepReply.{SweepReply}
use Rattle.expiry_sweeper.specs.declared.replies.SweepWanted.{SweepWanted}
use Rattle.expiry_sweeper.specs.declared.replies.SweepWanted.TheVariants as sweep
use Rattle.expiry_sweeper.specs.declared.sweepers.Sweeper.{Sweeper}
use Rattle.sql_keeper.specs.Stores.{StoreView}
use Rattle.core_history.specs.declared.turn_lines.TurnLine.{TurnLine}
use Rattle.core_history.specs.Cores.{Origin, CoreView, HasShards, HasHomes, KeepAll, AreFollowing, HasKept, HasSessions, HasSweeper, IsAt, IsRunning, HasBegun}
use Rattle.core_history.specs.Events.{Event, Ticked, heard_in, heard_by, swept_in, sweeps_of, now_of, reply_in}
use Rattle.core_history.specs.Machine.{World, wanted_by, wanted_of, event_of, sweep_of, swept_next, later, turn_event, out_of, Said, Failed}
use Rattle.core_history.specs.Machine.{Move, Take, world_of}
use Rattle.core_history.specs.Requests.{IsGrantOut, IsOutWhereReleased, IsWaiting, AreAfter, TakesTurn, TakesOne, after}
use Rattle.core_history.specs.Sweeping.{IsNumbered, TakesSweep}
use Rattle.core_history.specs.TurnLines.{IsLineOf}
use Rattle.core_history.proofs.FoundLemmas.{ends_numbered}
use Rattle.core_history.proofs.GrantLemmas.{grant_facts}
use Rattle.core_history.proofs.GrantFacts.{GrantFacts, IsReleaseOf}
use Rattle.core_history.proofs.OpenLemmas.{phases_same}
use Rattle.core_history.proofs.ShardsLemmas.{slice_get_push, slice_get_pushed, slice_get-set_same, slice_get-set_other}
use Rattle.core_history.proofs.ShardsLemmas.{homes_of, whole_shards, shard_found, shards_ticked}
use Rattle.core_history.proofs.StoreEvents.{store_quiet, quiet_tick}
use Rattle.core_history.proofs.TellLemmas.{event_turn}

some_same : {X : Type 0} (a b : X) → Some a ≡ Some b → a ≡ b
some_same a b e = cc

pub sid_is : (a b : Sid) → a.number ≡ b.number → a ≡ b
sid_is a b e = ap (λ (n : ℕ). record { number = n }) e

-- no session that hasn't begun was told anything
abbrev pub NoneUnbegun : List Session → List Event → Type 0
NoneUnbegun sessions past = (number : ℕ) → length sessions < number → heard_by number past ≡ []

pub follow_begun : (sessions : List Session) (new : Session) (past : List Event) → AreFollowing sessions past → NoneUnbegun sessions past → IsReady new
    → (sid_of new).number ≡ length sessions + 1 → Follows new false [] → AreFollowing (sessions ++ new ∷ []) past
follow_begun sessions new past all none ready number follows place session found =
    ⊎_elim (λ h. all place session (sym (slice_get_push sessions new place h) ∙ found))
    (λ h.
    let inside : place < length (sessions ++ new ∷ []) = slice_get_within (sessions ++ new ∷ []) place session found in
    let last : place ≡ length sessions = omega (arith, length-append sessions (new ∷ [])) in
    let is : new ≡ session = some_same new session (sym (slice_get_pushed sessions new) ∙ ap (slice_get (sessions ++ new ∷ [])) (sym last) ∙ found) in
    let P : Session → Type 0 = λ s. IsReady s × ((sid_of s).number ≡ place + 1) × Follows s false (heard_by (place + 1) past) in
    let Q : List Reply → Type 0 = λ heard. Follows new false heard in
    subst P is (ready, omega (arith, number, last), subst Q (sym (none (place + 1) (omega arith))) follows))
    (cases_lt place (length sessions))

pub none_begun : (sessions : List Session) (new : Session) (past : List Event) → NoneUnbegun sessions past → NoneUnbegun (sessions ++ new ∷ []) past
none_begun sessions new past none number above = none number (omega (arith, length-append sessions (new ∷ [])))

pub plans_begun : (sessions : List Session) (new : Session) (plans : List Plan) (plan : Plan) → map plan_of sessions ≡ plans → plan_of new ≡ plan
    → map plan_of (sessions ++ new ∷ []) ≡ plans ++ plan ∷ []
plans_begun sessions new plans plan all is =
    map-append plan_of sessions (new ∷ []) ∙ ap (λ (ps : List Plan). ps ++ plan_of new ∷ []) all ∙ ap (λ (p : Plan). plans ++ p ∷ []) is

-- what each session was told with one reply more, to the session of this number
abbrev pub TellsOne : ℕ → Reply → List Event → Event → Type 0
TellsOne who reply past event =
    (number : ℕ) → heard_by number (event ∷ past) ≡ cond (who == number) (reply ∷ []) [] ++ heard_by number past

-- the sessions after a turn of one
pub follow_turn : (sessions : List Session) (who : ℕ) (after : Session) (reply : Reply) (past : List Event) (event : Event) → AreFollowing sessions past
    → 1 ≤ who → who ≤ length sessions → TellsOne who reply past event →
    IsReady after → (sid_of after).number ≡ who → Follows after false (reply ∷ heard_by who past) → AreFollowing (set sessions (who - 1) after) (event ∷ past)
follow_turn sessions who after reply past event all some begun tells ready number follows place session found =
    ⊎_elim mine others (cases_Bool (who == place + 1))
  where
    mine : (who == place + 1) ≡ true → IsReady session × ((sid_of session).number ≡ place + 1) × Follows session false (heard_by (place + 1) (event ∷ past))
    mine here =
        let is : who ≡ place + 1 = eqb-true who (place + 1) here in
        let at : who - 1 ≡ place = omega arith in
        let same : after ≡ session =
        some_same after session (sym (slice_get-set_same sessions (who - 1) after (omega arith)) ∙ ap (slice_get (set sessions (who - 1) after)) at ∙ found) in
        let heard : reply ∷ heard_by who past ≡ heard_by (place + 1) (event ∷ past) =
        ap (λ (n : ℕ). reply ∷ heard_by n past) is ∙ ap (λ (b : Bool). cond b (reply ∷ []) [] ++ heard_by (place + 1) past) (sym here) ∙ sym (tells (place + 1)) in
        let P : Session → Type 0 = λ s. IsReady s × ((sid_of s).number ≡ place + 1) × Follows s false (heard_by (place + 1) (event ∷ past)) in
        let Q : List Reply → Type 0 = λ heard. Follows after false heard in
        subst P same (ready, number ∙ is, subst Q heard follows)

    others : (who == place + 1) ≡ false → IsReady session × ((sid_of session).number ≡ place + 1) × Follows session false (heard_by (place + 1) (event ∷ past))
    others there =
        let differ : who - 1 ≢ place = λ e. false≢true (sym there ∙ eq-eqb who (place + 1) (omega arith)) in
        let old = all place session (sym (slice_get-set_other sessions (who - 1) place after differ) ∙ found) in
        let heard : heard_by (place + 1) past ≡ heard_by (place + 1) (event ∷ past) =
        ap (λ (b : Bool). cond b (reply ∷ []) [] ++ heard_by (place + 1) past) (sym there) ∙ sym (tells (place + 1)) in
        let Q : List Reply → Type 0 = λ heard. Follows session false heard in
        (old.0, old.1, subst Q heard old.2)

-- who isn't told is told as much as before
pub still_tells : (who number : ℕ) (reply : Reply) (past : List Event) (event : Event) → TellsOne who reply past event → who ≢ number
    → heard_by number (event ∷ past) ≡ heard_by number past
still_tells who number reply past event tells other =
    let apart : (who == number) ≡ false = grind (arith, rules) in
    tells number ∙ ap (λ (b : Bool). cond b (reply ∷ []) [] ++ heard_by number past) apart

pub none_turn : (sessions : List Session) (who : ℕ) (after : Session) (reply : Reply) (past : List Event) (event : Event) → NoneUnbegun sessions past
    → who ≤ length sessions → TellsOne who reply past event → NoneUnbegun (set sessions (who - 1) after) (event ∷ past)
none_turn sessions who after reply past event none begun tells number above =
    let far : length sessions < number = omega (arith, length-set sessions (who - 1) after) in
    still_tells who number reply past event tells (omega (arith, far, begun)) ∙ none number far

-- writing a session with the same plan leaves the plans
pub plans_turn : (sessions : List Session) (place : ℕ) (after session : Session) → slice_get sessions place ≡ Some session → plan_of after ≡ plan_of session
    → map plan_of (set sessions place after) ≡ map plan_of sessions
plans_turn [] place after session found same = refl
plans_turn (first ∷ sessions) zero after session found same =
    let is : first ≡ session = some_same first session found in
    ap (λ (p : Plan). p ∷ map plan_of sessions) (same ∙ ap plan_of (sym is))
plans_turn (first ∷ sessions) (suc place) after session found same =
    ap (λ (ps : List Plan). plan_of first ∷ ps) (plans_turn sessions place after session found same)

-- the plan of a session, by its place
plan_there : (sessions : List Session) (plans : List Plan) (place : ℕ) (session : Session) → map plan_of sessions ≡ plans
    → slice_get sessions place ≡ Some session → slice_get plans place ≡ Some (plan_of session)
plan_there sessions plans place session all found =
    ap (λ (ps : List Plan). slice_get ps place) (sym all) ∙ slice_get-map plan_of sessions place ∙ ap (option_map plan_of) found

-- there is an element at a place below the length
pub there : {X : Type 0} (xs : List X) (place : ℕ) → place < length xs → (x : X) × (slice_get xs place ≡ Some x)
there [] place h = absurd (omega arith)
there (y ∷ xs) zero h = (y, refl)
there (y ∷ xs) (suc place) h = there xs place (omega arith)

-- what a session wants is what its own plan wants
pub wants_is : (world : World) (who : Sid) (sessions : List Session) (session : Session) → map plan_of sessions ≡ world.plans
    → slice_get sessions (who.number - 1) ≡ Some session →
    wants (plan_of session) false (heard_by who.number world.past) ≡ wanted_of world who
wants_is world who sessions session plans found =
    ap (λ (o : Option Plan). wanted_by o (heard_by who.number world.past)) (sym (plan_there sessions world.plans (who.number - 1) session plans found))

-- what a turn tells, by session
pub heard_after : (shape : Shape) (world : World) (who : Sid) (request : Wanted) (said : Said) →
    TellsOne who.number (reply_in (event_of shape world who request said)) world.past (event_of shape world who request said)
heard_after shape world who request said number =
    ap (λ (l : List Reply). l ++ heard_by number world.past) ((event_turn shape world who request said).replies_are number)

is_true : (b : Bool) → b ≡ true → IsTrue b
is_true true e = refl
is_true false e = absurd (false≢true e)

-- a grant that a session wants to release, raise or renew is out at its shard
pub out_there : (shards : List ShardView) (shape : Shape) (world : World) (who : Sid) (request : Wanted) → HasShards shards shape world.past
    → GrantFacts shape world → request ≡ wanted_of world who → IsOutWhereReleased shards request
out_there shards shape world who request has facts is = by request (λ grant h. here grant (release grant h))
  where
    release : (grant : Permit) → IsReleaseOf grant request → list_any (same_permit grant) (out_of shape (shard_of grant.key shape.shards) world.past) ≡ true
    release grant h = facts.out who grant (subst (λ (w : Wanted). IsReleaseOf grant w) is h)

    here : (grant : Permit) → list_any (same_permit grant) (out_of shape (shard_of grant.key shape.shards) world.past) ≡ true → IsGrantOut shards grant
    here grant out shard found =
        let place = shard_found shape world.past grant.key shards (shard_of grant.key (length shards)) shard has refl found in
        let P : ShardView → Type 0 = λ v. IsTrue (list_any (same_permit grant) v.out) in
        subst P (sym place.same) (is_true (list_any (same_permit grant) (out_of shape (shard_of grant.key shape.shards) world.past)) out)

    by : (w : Wanted) → ((grant : Permit) → IsReleaseOf grant w → IsGrantOut shards grant) → IsOutWhereReleased shards w
    by (wanted.Dar grant) f = f grant refl
    by (wanted.Sar grant value stamp) f = f grant refl
    by (wanted.Apply grant stamp) f = f grant refl
    by (wanted.Abort grant) f = f grant refl
    by (wanted.Raise grant) f = f grant refl
    by (wanted.Renew grant) f = f grant refl
    by (wanted.Get key floor) f = tt
    by (wanted.Ask key) f = tt
    by (wanted.Staged key txn) f = tt
    by (wanted.Set key token value stamp) f = tt
    by (wanted.QaReg key) f = tt
    by (wanted.QaRead key) f = tt
    by (wanted.Delta key shift) f = tt
    by (wanted.Commit txn grants) f = tt
    by wanted.End f = tt
    by wanted.Nothing f = tt

-- a core that runs has each key's shard
pub homes_there : (core : CoreView) → IsRunning core → HasHomes core.shards
homes_there core running =
    let origin = running.0 in
    homes_of core.shards origin.shape (world_of origin.shape running.1).past running.2.kept.shards running.3

-- and the session of a turn waits for it
pub waits_there : (core : CoreView) (who : Sid) (session : Session) → IsRunning core → 1 ≤ who.number
    → slice_get core.sessions (who.number - 1) ≡ Some session → IsWaiting core.shards who session
waits_there core who session running some found =
    let origin = running.0 in
    let moves = running.1 in
    let at = running.2 in
    let world = world_of origin.shape moves in
    let following = at.sessions.following (who.number - 1) session found in
    let number : who.number - 1 + 1 ≡ who.number = omega arith in
    let F : ℕ → Type 0 = λ n. Follows session false (heard_by n world.past) in
    let shards : origin.shape.shards ≢ 0 = λ e. absurd (omega (arith, at.kept.shards.fit.some_shards, e)) in
    record {
      ready = following.0;
      sid = sid_is (sid_of session) who (following.1 ∙ number);
      heard = heard_by who.number world.past;
      follows = subst F number following.2;
      released = out_there core.shards origin.shape world who _ at.kept.shards
          (grant_facts origin.shape moves shards at.kept.plans) (wants_is world who core.sessions session at.sessions.plans found);
    }

-- what is so after a turn
abbrev pub TakesStep : Origin → List Move → Turn → CoreView → Result TurnLine Memory → Type 0
TakesStep origin moves turn new result =
    MatchResult result (λ printed. (said : Said) × IsAt new origin (Take turn said ∷ moves)
    × IsLineOf (turn_event origin.shape (world_of origin.shape moves) turn said) printed)
    (λ _. HasKept new origin moves ⊎ ((said : Said) × HasKept new origin (Take turn said ∷ moves)))

-- a turn whose event was made, and its line told unless memory ran out
pub event_taken : (new : CoreView) (origin : Origin) (moves : List Move) (turn : Turn) (said : Said) (result : Result TurnLine Memory)
    → IsAt new origin (Take turn said ∷ moves) → IfOk result (IsLineOf (turn_event origin.shape (world_of origin.shape moves) turn said))
    → TakesStep origin moves turn new result
event_taken new origin moves turn said (Ok printed) at line = (said, at, line)
event_taken new origin moves turn said (Err memory) at line = inr (said, at.kept)

-- and whose shards are whole, though memory ran out
pub whole_taken : (new : CoreView) (origin : Origin) (moves : List Move) (turn : Turn) (result : Result TurnLine Memory)
    → TakesStep origin moves turn new result → KeepAll new.shards
whole_taken new origin moves turn (Ok printed) taken = whole_shards new.shards origin.shape _ taken.1.kept.shards
whole_taken new origin moves turn (Err memory) (inl kept) = whole_shards new.shards origin.shape _ kept.shards
whole_taken new origin moves turn (Err memory) (inr made) = whole_shards new.shards origin.shape _ made.1.shards

-- the sweeper and the clock after an event that is none of theirs
sweeper_same : (sweeper : Sweeper) (shape : Shape) (past : List Event) (event : Event) → swept_in event ≡ [] → HasSweeper sweeper shape past
    → HasSweeper sweeper shape (event ∷ past)
sweeper_same sweeper shape past event none has =
    record { shards = has.shards; following = subst (HasHeard sweeper) (ap (λ (l : List SweepReply). l ++ sweeps_of past) (sym none)) has.following }

-- the sessions after an event that is no session's
pub sessions_same : (sessions : List Session) (world : World) (event : Event) → ((number : ℕ) → heard_in number event ≡ []) → HasSessions sessions world
    → HasSessions sessions (after world event)
sessions_same sessions world event none has = record {
  plans = has.plans;
  following = λ place session found.
      let old = has.following place session found in
      (old.0, old.1, subst (λ (heard : List Reply). Follows session false heard) (sym (same (place + 1))) old.2);
  unbegun = λ number above. same number ∙ has.unbegun number above;
  nobody = same 0 ∙ has.nobody;
}
  where
    same : (number : ℕ) → heard_by number (event ∷ world.past) ≡ heard_by number world.past
    same number = ap (λ (l : List Reply). l ++ heard_by number world.past) (none number)

-- a turn of a session, which leaves the sweeper and the clock
pub turn_taken : (old : CoreView) (shards : List ShardView) (store : StoreView) (sessions : List Session)
    (origin : Origin) (moves : List Move) (who : Sid) (result : Result TurnLine Memory) → IsAt old origin moves → HasBegun old (turn.Session who) →
    TakesOne old.shards old.store old.sessions who old.clock shards store sessions result → TakesStep origin moves (turn.Session who)
    (record { store = store; shards = shards; sessions = sessions; sweeper = old.sweeper; clock = old.clock }) result
turn_taken old shards store sessions origin moves who result at has_begun takes = by result one.4 taken
  where
    new : CoreView
    new = record { store = store; shards = shards; sessions = sessions; sweeper = old.sweeper; clock = old.clock }

    some : 1 ≤ who.number
    some = has_begun.0

    begun : who.number ≤ length old.sessions
    begun = has_begun.1

    world : World
    world = world_of origin.shape moves

    found : (session : Session) × (slice_get old.sessions (who.number - 1) ≡ Some session)
    found = there old.sessions (who.number - 1) (omega (arith, some, begun))

    one : (after : Session) × (sessions ≡ set old.sessions (who.number - 1) after)
        × (plan_of after ≡ plan_of found.0) × (sid_of after ≡ sid_of found.0) × OnOk result (IsReady after)
        × ((origin : Origin) (world : World) (heard : List Reply) → AreAfter old.shards old.store origin world → old.clock ≡ now_of world.past
        → Follows found.0 false heard → TakesTurn origin world who (wants (plan_of found.0) false heard) heard shards store after result)
    one = takes found.0 found.1

    number : who.number - 1 + 1 ≡ who.number
    number = omega (arith, some)

    heard : List Reply
    heard = heard_by who.number world.past

    follows : Follows found.0 false heard
    follows = subst (λ (n : ℕ). Follows found.0 false (heard_by n world.past)) number (at.sessions.following (who.number - 1) found.0 found.1).2

    taken : TakesTurn origin world who (wanted_of world who) heard shards store one.0 result
    taken =
        subst (λ (w : Wanted). TakesTurn origin world who w heard shards store one.0 result)
        (wants_is world who old.sessions found.0 at.sessions.plans found.1)
        (one.5 origin world heard (at.kept.shards, (at.kept.store, at.phases)) at.clock follows)

    kept : (said : Said) → AreAfter shards store origin (after world (event_of origin.shape world who (wanted_of world who) said))
        → HasKept new origin (Take (turn.Session who) said ∷ moves)
    kept said stands = record { plans = at.kept.plans; fit = at.kept.fit; shards = stands.0; store = stands.1.0 }

    sid : (sid_of one.0).number ≡ who.number
    sid = ap (λ (s : Sid). s.number) one.3 ∙ (at.sessions.following (who.number - 1) found.0 found.1).1 ∙ number

    by : (r : Result TurnLine Memory) → OnOk r (IsReady one.0) → TakesTurn origin world who (wanted_of world who) heard shards store one.0 r
        → TakesStep origin moves (turn.Session who) new r
    by (Ok printed) ready t =
        let event = event_of origin.shape world who (wanted_of world who) t.0 in
        let answer = reply_in event in
        let is = event_turn origin.shape world who (wanted_of world who) t.0 in
        let tells = heard_after origin.shape world who (wanted_of world who) t.0 in
        let S : List Session → Type 0 = λ xs. AreFollowing xs (event ∷ world.past) in
        let N : List Session → Type 0 = λ xs. NoneUnbegun xs (event ∷ world.past) in (
          t.0,
          record {
            kept = kept t.0 t.2;
            clock = at.clock ∙ sym (is.clock world.past);
            sweeper = sweeper_same old.sweeper origin.shape world.past event is.swept at.sweeper;
            phases = t.2.1.1;
            sessions = record {
              plans = ap (map plan_of) one.1 ∙ plans_turn old.sessions (who.number - 1) one.0 found.0 found.1 one.2 ∙ at.sessions.plans;
              following =
                  subst S (sym one.1) (follow_turn old.sessions who.number one.0 answer world.past event at.sessions.following some begun tells ready sid t.3);
              unbegun = subst N (sym one.1) (none_turn old.sessions who.number one.0 answer world.past event at.sessions.unbegun begun tells);
              nobody = still_tells who.number 0 answer world.past event tells (omega (arith, some)) ∙ at.sessions.nobody;
            };
          },
          t.1,
        )
    by (Err memory) ready (inl stands) = inl (record { plans = at.kept.plans; fit = at.kept.fit; shards = stands.0; store = stands.1.0 })
    by (Err memory) ready (inr made) = inr (made.0, kept made.0 made.1)

-- a tick of the clock, which leaves the rest
pub tick_taken : (old : CoreView) (now : ℕ) (origin : Origin) (moves : List Move) (by : ℕ) (result : Result TurnLine Memory) → IsAt old origin moves
    → now ≡ min (old.clock + by) (2 ^ 64 - 1) → IfOk result (IsLineOf (Ticked now)) → TakesStep origin moves (turn.Tick by)
    (record { store = old.store; shards = old.shards; sessions = old.sessions; sweeper = old.sweeper; clock = now }) result
tick_taken old now origin moves by result at ticks line =
    event_taken new origin moves (turn.Tick by) Failed result ticked (subst (λ (n : ℕ). IfOk result (IsLineOf (Ticked n))) clock line)
  where
    new : CoreView
    new = record { store = old.store; shards = old.shards; sessions = old.sessions; sweeper = old.sweeper; clock = now }

    world : World
    world = world_of origin.shape moves

    clock : now ≡ later by world.past
    clock = ticks ∙ ap (λ (n : ℕ). min (n + by) (2 ^ 64 - 1)) at.clock

    event : Event
    event = Ticked (later by world.past)

    kept : HasKept new origin (Take (turn.Tick by) Failed ∷ moves)
    kept = record {
      plans = at.kept.plans;
      fit = at.kept.fit;
      shards = shards_ticked old.shards origin.shape world.past (later by world.past) at.kept.shards;
      store = store_quiet old.store origin world.past event at.kept.store (quiet_tick (later by world.past));
    }

    ticked : IsAt new origin (Take (turn.Tick by) Failed ∷ moves)
    ticked = record {
      kept = kept;
      clock = clock;
      sweeper = sweeper_same old.sweeper origin.shape world.past event refl at.sweeper;
      phases = phases_same old.store.ledger.sessions world event at.phases refl refl;
      sessions = sessions_same old.sessions world event (λ number. refl) at.sessions;
    }

-- no session is told anything of a step of the sweeper's
hears_none : (shape : Shape) (world : World) (request : SweepWanted) (number : ℕ) → heard_in number (sweep_of shape world request) ≡ []
hears_none shape world (sweep.Scan place) number = refl
hears_none shape world (sweep.End who) number = refl
hears_none shape world (sweep.Drop key token) number = refl

-- and the clock doesn't move
unmoved : (shape : Shape) (world : World) (request : SweepWanted) → now_of (sweep_of shape world request ∷ world.past) ≡ now_of world.past
unmoved shape world (sweep.Scan place) = refl
unmoved shape world (sweep.End who) = refl
unmoved shape world (sweep.Drop key token) = refl

-- the sweeper of a core that runs sweeps all shards
pub sweeper_all : (core : CoreView) → IsRunning core → shards_of core.sweeper ≡ length core.shards
sweeper_all core running = running.2.sweeper.shards ∙ sym running.2.kept.shards.count

-- and whom it wants to end has a number
pub sweeper_numbered : (core : CoreView) → IsRunning core → IsNumbered (wanted_by_stage core.sweeper)
sweeper_numbered core running =
    let origin = running.0 in
    let moves = running.1 in
    let at = running.2 in
    let heard = sweeps_of (world_of origin.shape moves).past in
    let wants : wanted_by_stage core.sweeper ≡ swept_next origin.shape (world_of origin.shape moves) =
    at.sweeper.following.wants ∙ ap (λ (n : ℕ). sweep_wants n heard) at.sweeper.shards in
    subst IsNumbered (sym wants) (ends_numbered origin.shape moves at.sessions.nobody)

-- a step of the sweeper's, which leaves the sessions and the clock
pub sweep_taken : (old : CoreView) (shards : List ShardView) (store : StoreView) (sweeper : Sweeper)
    (origin : Origin) (moves : List Move) (result : Result TurnLine Memory) → IsAt old origin moves →
    ((origin : Origin) (world : World) → AreAfter old.shards old.store origin world → old.clock ≡ now_of world.past
    → HasSweeper old.sweeper origin.shape world.past → TakesSweep origin world shards store sweeper result) → TakesStep origin moves turn.Sweep
    (record { store = store; shards = shards; sessions = old.sessions; sweeper = sweeper; clock = old.clock }) result
sweep_taken old shards store sweeper origin moves result at sweeps =
    event_taken new origin moves turn.Sweep Failed result swept takes.2
  where
    new : CoreView
    new = record { store = store; shards = shards; sessions = old.sessions; sweeper = sweeper; clock = old.clock }

    world : World
    world = world_of origin.shape moves

    takes : TakesSweep origin world shards store sweeper result
    takes = sweeps origin world (at.kept.shards, (at.kept.store, at.phases)) at.clock at.sweeper

    request : SweepWanted
    request = swept_next origin.shape world

    swept : IsAt new origin (Take turn.Sweep Failed ∷ moves)
    swept = record {
      kept = record { plans = at.kept.plans; fit = at.kept.fit; shards = takes.0.0; store = takes.0.1.0 };
      clock = at.clock ∙ sym (unmoved origin.shape world request);
      sweeper = takes.1;
      phases = takes.0.1.1;
      sessions = sessions_same old.sessions world (sweep_of origin.shape world request) (hears_none origin.shape world request) at.sessions;
    }

-- a claim by cases gives each of its cases
pub ok_of : {X E : Type 0} (r : Result X E) (P : X → Type 0) (Q : Type 0) → MatchResult r P (λ _. Q) → IfOk r P
ok_of (Ok x) P Q h = h
ok_of (Err e) P Q h = tt

pub err_of : {X E : Type 0} (r : Result X E) (P : X → Type 0) (Q : Type 0) → MatchResult r P (λ _. Q) → OnErr r Q
err_of (Ok x) P Q h = tt
err_of (Err e) P Q h = h
