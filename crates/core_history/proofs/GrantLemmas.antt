-- The facts of grants hold of every world, and so every run is lawful.
use Rattle.std.proofs.Common.{ℕ, ◌≡◌, ◌≢◌, ◌<◌, ◌≤◌, ◌==◌, true, false, List, [], ◌∷◌, length, reverse, count_by, Option, Some, None}
use Rattle.std.proofs.Common.{slice_get, pos_of_ne-zero, refl, sym, ap, subst, ◌∙◌, inl, inr, ◌⊎◌, arith}
use Rattle.std.specs.List.{list_any}
use Rattle.std.proofs.lemmas.Bool.{false≢true}
use Rattle.std.proofs.lemmas.Option.{slice_get-get_or}
use Rattle.std.proofs.lemmas.List.Elements.{All-from_recursion}
use Rattle.std.proofs.lemmas.List.FromFn.{get_or-map-range_with_len, length-map-range_with_len}
use Rattle.rows_model.specs.declared.keys.QKey.{QKey}
use Rattle.rows_model.specs.declared.keys.Sid.{Sid}
use Rattle.rows_model.specs.declared.changes.Change.{Change}
use Rattle.rows_model.specs.Key.{same_key}
use Rattle.rows_model.proofs.SameKey.{same_key-true}
use Rattle.rows_model.specs.Placement.{shard_of}
use Rattle.rows_model.proofs.PlacementLemmas.{shard_below}
use Rattle.lease_table.specs.declared.records.Mode.{Mode}
use Rattle.lease_table.specs.declared.records.Mode.TheVariants.{Invalidate, Refresh, Delta}
use Rattle.lease_table.specs.declared.records.Quar.{Quar}
use Rattle.key_shard.specs.Permit.{Permit, same_permit}
use Rattle.key_shard.specs.declared.steps.Step.{Step}
use Rattle.key_shard.specs.declared.steps.Step.TheVariants as step
use Rattle.key_shard.specs.Past.{standing, recorded, quar_of}
use Rattle.key_shard.specs.LegalStands.{StandsWell}
use Rattle.key_shard.proofs.LegalLemmas.{alone}
use Rattle.expiry_sweeper.specs.declared.replies.SweepWanted.TheVariants as sweep
use Rattle.sql_keeper.specs.Commits.{covers, is_covered}
use Rattle.sql_keeper.specs.Fresh.{quarantines, Covered}
use Rattle.session_client.specs.declared.plans.Plan.{Plan}
use Rattle.session_client.specs.declared.plans.Plan.TheVariants.{Read, Write, Look, Quit, Skip, Raise, Renew}
use Rattle.session_client.specs.declared.plans.Shape.{Shape}
use Rattle.session_client.specs.declared.replies.Reply.{Reply}
use Rattle.session_client.specs.declared.replies.Wanted.{Wanted}
use Rattle.session_client.specs.Plans.{mode_on}
use Rattle.session_client.specs.declared.replies.Wanted.TheVariants as wanted
use Rattle.session_client.specs.Wants.{Given, given, granted, turned, released, Writing, writing_of, quarantine_as, write_wants}
use Rattle.session_client.proofs.WantCases.{write_cases, read_cases, given-granted}
use Rattle.core_history.specs.Events.{Event, steps_of, heard_by, log_of, sweeps_of}
use Rattle.core_history.specs.Machine.{World, Move, world_of, HasPlans, terms_of, plan_at, wanted_by, swept_next, is_open, out_of}
use Rattle.core_history.specs.Facts.{Found, found_at, steps_on, stands_for, AreApart, IsOrdered}
use Rattle.core_history.specs.Freshness.{histories_of, RunsAreLawful}
use Rattle.core_history.proofs.GrantFacts.{GrantFacts, IsReleaseOf}
use Rattle.core_history.proofs.ListLemmas.{and_elim, any-reverse, count-once, every-weaker}
use Rattle.core_history.proofs.EventLemmas.{closed, IsKnown, ever}
use Rattle.core_history.proofs.SessionLemmas.{Writer, is_going, going-on}
use Rattle.core_history.proofs.SweepingLemmas.{IsSweeping}
use Rattle.core_history.proofs.InnerLemmas.{Inner, IsSession, IsCovered, stands_well}
use Rattle.core_history.proofs.WritingLemmas.{open-closed, closed-shut, granted-stands}
use Rattle.core_history.proofs.SweepTurnLemmas.{sweep_cases}
use Rattle.core_history.proofs.NumberedLemmas.{runs_numbered}
use Rattle.core_history.proofs.FirstLemmas.{runs_raised}
use Rattle.core_history.proofs.WorldLemmas.{idle-grants, idle-ever, inner_of}

-- quarantines stand apart from readers
apart-key : (shape : Shape) (world : World) (key : QKey) → StandsWell (terms_of shape (shard_of key shape.shards)) (steps_on shape world key) key
    → AreApart (steps_on shape world key) key
apart-key shape world key well = record {
  no_reader = λ quar quars e. by quar quars e well.apart;
  alone = alone (terms_of shape (shard_of key shape.shards)) (steps_on shape world key) key well;
}
  where
    by : (quar : Quar) (quars : List Quar) → standing key (steps_on shape world key) ≡ quar ∷ quars
        → (recorded key (steps_on shape world key) ≡ None) ⊎ (standing key (steps_on shape world key) ≡ []) → recorded key (steps_on shape world key) ≡ None
    by quar quars e (inl none) = none
    by quar quars e (inr none) = let clash : quar ∷ quars ≡ [] = sym e ∙ none in cc

-- a session has one grant on a key at most
writer-once : (shape : Shape) (past : List Event) (who : Sid) (heard : List Reply) (writing : Writing) (key : QKey) → Writer shape past who.number heard writing
    → count_by (covers who key) (ever heard) ≤ 1
writer-once shape past who heard writing key w =
    count-once (covers who key) (ever heard) (λ i j a b at_i at_j on_a on_b.
    let one = same_key-true key a.key (and_elim (same_key key a.key) (a.sid.number == who.number) on_a).0 in
    let other = same_key-true key b.key (and_elim (same_key key b.key) (b.sid.number == who.number) on_b).0 in
    w.once i j key ((w.placed i a at_i).at_key ∙ ap (λ k. Some k) (sym one)) ((w.placed j b at_j).at_key ∙ ap (λ k. Some k) (sym other)))

none-once : (who : Sid) (key : QKey) (grants : List Permit) → grants ≡ [] → count_by (covers who key) grants ≤ 1
none-once who key grants e = let z : count_by (covers who key) grants ≡ 0 = ap (count_by (covers who key)) e in omega (arith, z)

-- a session has no grants, or is a writer of its plan
session-cases : (shape : Shape) (past : List Event) (n : ℕ) (heard : List Reply) (P : Type 0) (found : Option Plan) → IsSession shape past n heard found
    → (granted heard ≡ [] → ever heard ≡ [] → P) → ((plan : Plan) → found ≡ Some plan → Writer shape past n heard (writing_of plan) → P) → P
session-cases shape past n heard P None h none some = none (idle-grants heard h) (idle-ever heard h)
session-cases shape past n heard P (Some (Read on floor)) h none some = none h.1 h.2
session-cases shape past n heard P (Some (Write mode txn)) h none some = some (Write mode txn) refl h
session-cases shape past n heard P (Some (Look mode key txn)) h none some = some (Look mode key txn) refl h
session-cases shape past n heard P (Some (Quit mode txn)) h none some = some (Quit mode txn) refl h
session-cases shape past n heard P (Some (Skip key txn)) h none some = some (Skip key txn) refl h
session-cases shape past n heard P (Some (Raise txn)) h none some = some (Raise txn) refl h
session-cases shape past n heard P (Some (Renew mode txn)) h none some = some (Renew mode txn) refl h

once-key : (shape : Shape) (world : World) → Inner shape world → (key : QKey) (who : Sid) → count_by (quarantines key who) (steps_on shape world key) ≤ 1
once-key shape world inner key who =
    let heard = heard_by who.number world.past in
    let a = inner.counts key who in
    let b : count_by (covers who key) (ever heard) ≤ 1 =
    session-cases shape world.past who.number heard (count_by (covers who key) (ever heard) ≤ 1) (plan_at who.number world.plans) (inner.sessions who.number)
    (λ none nothing. none-once who key (ever heard) nothing) (λ plan is w. writer-once shape world.past who heard (writing_of plan) key w) in
    omega (arith, a, b)

-- an open session has each quarantine standing that it was granted
none-covered : (who : Sid) (key : QKey) (grants : List Permit) → grants ≡ [] → is_covered who grants key ≡ true → ⊥
none-covered who key grants e h = false≢true (sym (ap (λ l. is_covered who l key) e) ∙ h)

open-stands : (shape : Shape) (world : World) (who : Sid) (key : QKey) → Inner shape world
    → is_covered who (ever (heard_by who.number world.past)) key ≡ true
    → is_open world who ≡ true → stands_for who (standing key (steps_on shape world key)) ≡ true
open-stands shape world who key inner covered is_so =
    let heard = heard_by who.number world.past in
    session-cases shape world.past who.number heard (stands_for who (standing key (steps_on shape world key))
    ≡ true) (plan_at who.number world.plans) (inner.sessions who.number)
    (λ none nothing. absurd (none-covered who key (ever heard) nothing covered))
    (λ plan is w. granted-stands shape world.past who heard (writing_of plan) w (open-closed world who is_so) key
    (w.unspent (open-closed world who is_so) key who refl covered))

known-ordered : (shape : Shape) (world : World) → Inner shape world → (s : Step) → IsKnown world.past s → IsOrdered shape world s
known-ordered shape world inner (step.Granted key sid mode shift now token deadline) h =
    λ is_so. open-stands shape world sid key inner h is_so
known-ordered shape world inner (step.Released key sid token how) h = (closed-shut world sid h.0, h.1)
known-ordered shape world inner (step.Hit key sid floor value stamp) h = tt
known-ordered shape world inner (step.Lease key sid floor now token deadline) h = tt
known-ordered shape world inner (step.Again key sid floor now stands) h = tt
known-ordered shape world inner (step.Own key sid) h = tt
known-ordered shape world inner (step.Stored key token now value stamp evicted) h = tt
known-ordered shape world inner (step.Void key token now) h = tt
known-ordered shape world inner (step.Held key sid mode) h = tt
known-ordered shape world inner (step.Refused key sid mode holder held) h = tt
known-ordered shape world inner (step.Gone key sid token) h = tt
known-ordered shape world inner (step.Raised key sid token) h = tt
known-ordered shape world inner (step.Shared key sid token holder) h = tt
known-ordered shape world inner (step.Renewed key sid token now deadline) h = tt

-- a grant that is to be released is out
abbrev IsOutFor : Shape → World → Permit → Wanted → Type 0
IsOutFor shape world grant request =
    IsReleaseOf grant request → list_any (same_permit grant) (out_of shape (shard_of grant.key shape.shards) world.past) ≡ true

-- the grant that a session is to release next is out
given-out : (shape : Shape) (world : World) (n : ℕ) (grant : Permit) (writing : Writing) (one : Given)
    → Writer shape world.past n (heard_by n world.past) writing
    → slice_get (given (heard_by n world.past)) (released (heard_by n world.past)) ≡ Some one → one.permit ≡ grant
    → list_any (same_permit grant) (out_of shape (shard_of grant.key shape.shards) world.past) ≡ true
given-out shape world n grant writing one w at same =
    let heard = heard_by n world.past in
    let O : Permit → Type 0 = λ g. list_any (same_permit g) (out_of shape (shard_of g.key shape.shards) world.past) ≡ true in
    subst O same (w.stood (released heard) one.permit (given-granted heard (released heard) one at) (omega arith)).out

-- the grant that a session is to raise or renew next is out
turn-out : (shape : Shape) (world : World) (n : ℕ) (grant : Permit) (writing : Writing) (one : Permit)
    → Writer shape world.past n (heard_by n world.past) writing
    → slice_get (granted (heard_by n world.past)) (turned (heard_by n world.past)) ≡ Some one → is_going (heard_by n world.past) ≡ true → one ≡ grant
    → list_any (same_permit grant) (out_of shape (shard_of grant.key shape.shards) world.past) ≡ true
turn-out shape world n grant writing one w at going same =
    let heard = heard_by n world.past in
    let none = (w.going going).1 in
    let O : Permit → Type 0 = λ g. list_any (same_permit g) (out_of shape (shard_of g.key shape.shards) world.past) ≡ true in
    subst O same (w.stood (turned heard) one at (omega (arith, none))).out

-- a quarantine is no release
asks-none : (mode : Mode) (key : QKey) (txn : List Change) (grant : Permit) → IsReleaseOf grant (quarantine_as mode key txn) → ⊥
asks-none Invalidate key txn grant h = h
asks-none Refresh key txn grant h = h
asks-none Delta key txn grant h = h

writer-out : (shape : Shape) (world : World) (n : ℕ) (grant : Permit) (writing : Writing) → Writer shape world.past n (heard_by n world.past) writing
    → IsOutFor shape world grant (write_wants writing false (heard_by n world.past))
writer-out shape world n grant writing w =
    write_cases (λ request. write_wants writing false (heard_by n world.past) ≡ request → IsOutFor shape world grant request) writing false
    (heard_by n world.past)
    (λ key at asks e h. absurd (asks-none (mode_on writing.mode key) key writing.txn grant h))
    (λ going e h. absurd h) (λ key looks asks none e h. absurd h) (λ key looks going e h. absurd h) (λ going e h. absurd h)
    (λ one at going e same. turn-out shape world n grant writing one w at (going-on writing (heard_by n world.past) (wanted.Raise one) e (λ no. cc) going) same)
    (λ one at going e same. turn-out shape world n grant writing one w at (going-on writing (heard_by n world.past) (wanted.Renew one) e (λ no. cc) going) same)
    (λ one at ending none e same. given-out shape world n grant writing one w at same)
    (λ one at ending e same. given-out shape world n grant writing one w at same)
    (λ one number at ending numbered fits e same. given-out shape world n grant writing one w at same)
    (λ one number at ending numbered fits e same. given-out shape world n grant writing one w at same)
    (λ e h. absurd h) refl

session-out : (shape : Shape) (world : World) (n : ℕ) (grant : Permit) (plan : Option Plan) → IsSession shape world.past n (heard_by n world.past) plan
    → IsOutFor shape world grant (wanted_by plan (heard_by n world.past))
session-out shape world n grant None h = λ e. absurd e
session-out shape world n grant (Some (Read key floor)) h =
    read_cases (IsOutFor shape world grant) key floor (heard_by n world.past) (λ e. absurd e) (λ e. absurd e) (λ token answer rest e r. absurd r) (λ e. absurd e)
session-out shape world n grant (Some (Write mode txn)) h = writer-out shape world n grant (writing_of (Write mode txn)) h
session-out shape world n grant (Some (Look mode key txn)) h = writer-out shape world n grant (writing_of (Look mode key txn)) h
session-out shape world n grant (Some (Quit mode txn)) h = writer-out shape world n grant (writing_of (Quit mode txn)) h
session-out shape world n grant (Some (Skip key txn)) h = writer-out shape world n grant (writing_of (Skip key txn)) h
session-out shape world n grant (Some (Raise txn)) h = writer-out shape world n grant (writing_of (Raise txn)) h
session-out shape world n grant (Some (Renew mode txn)) h = writer-out shape world n grant (writing_of (Renew mode txn)) h

-- the old value that a session keeps is what its quarantine found
no_grant : (i : ℕ) (grant : Permit) → slice_get [] i ≡ Some grant → ⊥
no_grant i grant e = cc

some_found : {a b : Found} → Some a ≡ Some b → a ≡ b
some_found e = cc

kept-found : (shape : Shape) (world : World) → Inner shape world
    → (key : QKey) (quar : Quar) (found : Found) → quar_of key quar.token (steps_on shape world key) ≡ Some quar
    → found_at key quar.token world.past ≡ Some found → (place : ℕ) (one : Given) → slice_get (given (heard_by quar.sid.number world.past)) place ≡ Some one
    → one.permit.key ≡ key → one.permit.token ≡ quar.token → quar.mode ≡ Refresh → one.old ≡ found.entry
kept-found shape world inner key quar found stands at_grant place one at on_key of_token refresh =
    let n = quar.sid.number in
    let heard = heard_by n world.past in
    let here = given-granted heard place one at in
    session-cases shape world.past n heard (one.old ≡ found.entry) (plan_at n world.plans) (inner.sessions n)
    (λ none nothing. absurd (no_grant place one.permit (sym (ap (λ l. slice_get l place) none) ∙ here)))
    (λ plan is w.
    let Q : QKey → ℕ → Type 0 = λ k t. quar_of k t (steps_of (shard_of k shape.shards) world.past) ≡ Some quar in
    let its_own : Q one.permit.key one.permit.token = subst (λ k. Q k one.permit.token) (sym on_key) (subst (Q key) (sym of_token) stands) in
    let mode : one.permit.mode ≡ Refresh = sym (w.suits place one.permit here quar its_own) ∙ refresh in
    let old = w.olds place one at in
    let its : old.found ≡ found =
    some_found (sym old.at ∙ ap (λ k. found_at k one.permit.token world.past) on_key ∙ ap (λ t. found_at key t world.past) of_token ∙ at_grant) in
    old.old mode ∙ ap (λ (f : Found). f.entry) its)

-- whose quarantine the sweeper is to drop is closed
drop_same : {key on : QKey} {token its : ℕ} → sweep.Drop key token ≡ sweep.Drop on its → (key ≡ on) × (token ≡ its)
drop_same e = (cc, cc)

swept-shut : (shape : Shape) (world : World) → Inner shape world → (key : QKey) (token : ℕ) (quar : Quar) → swept_next shape world ≡ sweep.Drop key token
    → quar_of key token (steps_on shape world key) ≡ Some quar → is_open world quar.sid ≡ false
swept-shut shape world inner key token quar wanted stands =
    sweep_cases (λ request. request ≡ sweep.Drop key token → is_open world quar.sid ≡ false) shape.shards (sweeps_of world.past)
    (λ place e. cc) (λ at due before heard_so e. cc)
    (λ at due closing before heard_so e.
    let is = subst (IsSweeping shape world.plans world.past) heard_so inner.sweeping in
    let same = drop_same e in
    let Q : QKey → ℕ → Type 0 = λ k t. quar_of k t (steps_on shape world k) ≡ Some quar in
    let its : Q due.key due.token = subst (λ k. Q k due.token) (sym same.0) (subst (Q key) (sym same.1) stands) in
    closed-shut world quar.sid (subst (λ (s : Sid). closed s.number world.past ≡ true) (sym (is.0.mine quar its)) is.1))
    wanted

pub facts_of : (shape : Shape) (world : World) → Inner shape world → GrantFacts shape world
facts_of shape world inner = record {
  legal = inner.legal;
  apart = λ key. apart-key shape world key (stands_well shape world inner key);
  once = once-key shape world inner;
  order = λ place within. All-from_recursion (IsOrdered shape world) (steps_of place world.past)
      (every-weaker (IsKnown world.past) (IsOrdered shape world) (steps_of place world.past) (known-ordered shape world inner) (inner.known place));
  quarantined = inner.quarantined;
  out = λ who grant release. session-out shape world who.number grant (plan_at who.number world.plans) (inner.sessions who.number) release;
  kept = kept-found shape world inner;
  swept = swept-shut shape world inner;
}

-- what holds of leases, quarantines and grants after any moves
pub grant_facts : (shape : Shape) (moves : List Move) → shape.shards ≢ 0 → HasPlans moves → GrantFacts shape (world_of shape moves)
grant_facts shape moves some plans = facts_of shape (world_of shape moves) (inner_of shape moves)

-- the history of a shard, among those of all
pub history-at : (shape : Shape) (past : List Event) (place : ℕ)
    → place < shape.shards → slice_get (histories_of shape past) place ≡ Some (reverse (steps_of place past))
history-at shape past place within =
    let f : ℕ → List Step = λ p. reverse (steps_of p past) in
    let len = length-map-range_with_len f 0 shape.shards in
    slice_get-get_or (histories_of shape past) place [] (omega (arith, len, within))
    ∙ ap (λ h. Some h) (get_or-map-range_with_len f 0 shape.shards place place [] within (omega arith))

covered_is : (shape : Shape) (past : List Event) → shape.shards ≢ 0 → IsCovered shape past → Covered (log_of past) (histories_of shape past)
covered_is shape past some covered place commit key at touched =
    let home = shard_of key shape.shards in
    let f : ℕ → List Step = λ p. reverse (steps_of p past) in
    let len : length (histories_of shape past) ≡ shape.shards = length-map-range_with_len f 0 shape.shards in (
      reverse (steps_of home past),
      ap (λ count. slice_get (histories_of shape past) (shard_of key count)) len
          ∙ history-at shape past home (shard_below key shape.shards (pos_of_ne-zero some)),
      any-reverse (quarantines key commit.sid) (steps_of home past) (covered place commit key at touched),
    )

pub runs_are_lawful_is : RunsAreLawful
runs_are_lawful_is shape moves some plans =
    let inner = inner_of shape moves in
    record {
      legal = inner.legal;
      covered = covered_is shape (world_of shape moves).past some inner.covered;
      quarantined = inner.quarantined;
      numbered = runs_numbered shape moves;
      raised = runs_raised shape moves;
    }
