-- A session whose quarantine a scan found was told something before, and so has a number.
use Rattle.std.proofs.Common.{ℕ, ◌≡◌, ◌≢◌, ◌≤◌, List, [], ◌∷◌, ◌++◌, Option, Some, None, refl, sym, ap, subst, ◌∙◌, arith}
use Rattle.std.specs.List.{AllByRecursion}
use Rattle.std.proofs.lemmas.Bool.{false≢true}
use Rattle.rows_model.specs.declared.keys.QKey.{QKey}
use Rattle.rows_model.specs.declared.keys.Sid.{Sid}
use Rattle.lease_table.specs.declared.records.Due.{Due}
use Rattle.lease_table.specs.declared.records.Quar.{Quar}
use Rattle.key_shard.specs.declared.steps.Step.{Step}
use Rattle.key_shard.specs.declared.steps.Step.TheVariants as step
use Rattle.key_shard.specs.Dues.{first_due}
use Rattle.expiry_sweeper.specs.declared.replies.SweepReply.{SweepReply}
use Rattle.expiry_sweeper.specs.declared.replies.SweepReply.TheVariants as sweeps
use Rattle.expiry_sweeper.specs.declared.replies.SweepWanted.{SweepWanted}
use Rattle.expiry_sweeper.specs.declared.replies.SweepWanted.TheVariants as sweep
use Rattle.sql_keeper.specs.Commits.{is_covered}
use Rattle.session_client.specs.declared.plans.Shape.{Shape}
use Rattle.session_client.specs.declared.plans.Turn.{Turn}
use Rattle.session_client.specs.declared.plans.Turn.TheVariants as turn
use Rattle.session_client.specs.declared.replies.Reply.{Reply}
use Rattle.core_history.specs.Events.{Event, steps_of, heard_in, heard_by, swept_in, sweeps_of, now_of}
use Rattle.expiry_sweeper.specs.Sweeps.{scan_reply}
use Rattle.core_history.specs.Machine.{World, Move, Begin, Take, Said, terms_of, wanted_of, sweep_of, swept_next, turn_event, world_of}
use Rattle.core_history.specs.Sweeping.{IsNumbered}
use Rattle.core_history.proofs.EventLemmas.{IsKnown, ever}
use Rattle.core_history.proofs.InnerLemmas.{Inner}
use Rattle.core_history.proofs.KeyLemmas.{GrantsSo, quar-every, IsOfOwner, raised-so, renewed-so}
use Rattle.core_history.proofs.ListLemmas.{every-append, every-weaker}
use Rattle.core_history.proofs.SweepTurnLemmas.{first-stands, sweep_cases}
use Rattle.core_history.proofs.TellLemmas.{event_turn}
use Rattle.core_history.proofs.WorldLemmas.{inner_of}

-- the session of this number was told something
abbrev pub IsHeard : List Event → ℕ → Type 0
IsHeard past number = heard_by number past ≢ []

pub none-behind : {X : Type 0} (xs ys : List X) → xs ++ ys ≡ [] → ys ≡ []
none-behind [] ys e = e
none-behind (x ∷ xs) ys e = absurd cc

heard-more : (event : Event) (past : List Event) (number : ℕ) → IsHeard past number → IsHeard (event ∷ past) number
heard-more event past number heard none = heard (none-behind (heard_in number event) (heard_by number past) none)

-- where a reply tells of what a scan found, its session was told something
abbrev IsOfHeard : List Event → SweepReply → Type 0
IsOfHeard past (sweeps.Found at due) = IsHeard past due.sid.number
IsOfHeard past other = Unit {0}

of_heard-more : (event : Event) (past : List Event) (reply : SweepReply) → IsOfHeard past reply → IsOfHeard (event ∷ past) reply
of_heard-more event past (sweeps.Found at due) h = heard-more event past due.sid.number h
of_heard-more event past (sweeps.NoneFound at) h = tt
of_heard-more event past (sweeps.Ended closing) h = tt
of_heard-more event past (sweeps.Dropped rel) h = tt

-- so it is of all that the sweeper was told
abbrev AreOfHeard : List Event → Type 0
AreOfHeard past = AllByRecursion (IsOfHeard past) (sweeps_of past)

-- of whose quarantine it is alone
of-sid : (past : List Event) → IsOfOwner (λ key quar. IsHeard past quar.sid.number)
of-sid past key old new token own heard = subst (λ (who : Sid). IsHeard past who.number) (sym own) heard

-- who was granted a quarantine was told so
granted-heard : (past : List Event) (s : Step) → IsKnown past s → GrantsSo (λ key quar. IsHeard past quar.sid.number) s
granted-heard past (step.Granted key sid mode shift now token deadline) known = λ none.
    false≢true (ap (λ (heard : List Reply). is_covered sid (ever heard) key) (sym none) ∙ known)
granted-heard past (step.Hit key sid floor value stamp) known = tt
granted-heard past (step.Lease key sid floor now token deadline) known = tt
granted-heard past (step.Again key sid floor now stands) known = tt
granted-heard past (step.Own key sid) known = tt
granted-heard past (step.Stored key token now value stamp evicted) known = tt
granted-heard past (step.Void key token now) known = tt
granted-heard past (step.Held key sid mode) known = tt
granted-heard past (step.Refused key sid mode holder held) known = tt
granted-heard past (step.Released key sid token how) known = tt
granted-heard past (step.Gone key sid token) known = tt
granted-heard past (step.Raised key sid token) known = raised-so (λ k q. IsHeard past q.sid.number) (of-sid past) key token
granted-heard past (step.Shared key sid token holder) known = tt
granted-heard past (step.Renewed key sid token now deadline) known = renewed-so (λ k q. IsHeard past q.sid.number) (of-sid past) key token deadline

-- whose quarantine a scan finds was told something
scan-heard : (shape : Shape) (world : World) (place : ℕ) (due : Due) → Inner shape world
    → first_due (now_of world.past) (steps_of place world.past) ≡ Some due → IsHeard world.past due.sid.number
scan-heard shape world place due inner e =
    let steps = steps_of place world.past in
    let found = first-stands (terms_of shape place) steps (now_of world.past) due (inner.legal place) e in
    let P : QKey → Quar → Type 0 = λ key quar. IsHeard world.past quar.sid.number in
    let each : AllByRecursion (GrantsSo P) steps = every-weaker (IsKnown world.past) (GrantsSo P) steps (granted-heard world.past) (inner.known place) in
    let own : P due.key found.quar = (quar-every P due.key due.token steps found.quar each found.stands).0 in
    subst (λ (who : Sid). IsHeard world.past who.number) found.own own

-- what the sweeper is told in its own step
sweep-heard : (shape : Shape) (world : World) (request : SweepWanted) → Inner shape world
    → AllByRecursion (IsOfHeard (sweep_of shape world request ∷ world.past)) (swept_in (sweep_of shape world request))
sweep-heard shape world (sweep.Scan place) inner = (by (first_due (now_of world.past) (steps_of place world.past)) refl, tt)
  where
    event : Event
    event = sweep_of shape world (sweep.Scan place)

    by : (found : Option Due) → first_due (now_of world.past) (steps_of place world.past) ≡ found → IsOfHeard (event ∷ world.past) (scan_reply place found)
    by None e = tt
    by (Some due) e = heard-more event world.past due.sid.number (scan-heard shape world place due inner e)
sweep-heard shape world (sweep.End who) inner = (tt, tt)
sweep-heard shape world (sweep.Drop key token) inner = (tt, tt)

turn-heard : (shape : Shape) (world : World) (turn : Turn) (said : Said) → Inner shape world
    → AllByRecursion (IsOfHeard (turn_event shape world turn said ∷ world.past)) (swept_in (turn_event shape world turn said))
turn-heard shape world (turn.Session who) said inner =
    let event = turn_event shape world (turn.Session who) said in
    subst (AllByRecursion (IsOfHeard (event ∷ world.past))) (sym (event_turn shape world who (wanted_of world who) said).swept) tt
turn-heard shape world (turn.Tick by) said inner = tt
turn-heard shape world turn.Sweep said inner = sweep-heard shape world (swept_next shape world) inner

all-heard : (shape : Shape) (moves : List Move) → AreOfHeard (world_of shape moves).past
all-heard shape [] = tt
all-heard shape (Begin plan ∷ moves) = all-heard shape moves
all-heard shape (Take turn said ∷ moves) =
    let world = world_of shape moves in
    let event = turn_event shape world turn said in
    every-append (IsOfHeard (event ∷ world.past)) (swept_in event) (sweeps_of world.past) (turn-heard shape world turn said (inner_of shape moves))
    (every-weaker (IsOfHeard world.past) (IsOfHeard (event ∷ world.past)) (sweeps_of world.past) (of_heard-more event world.past) (all-heard shape moves))

-- whom the sweeper wants to end was told something
abbrev pub EndsHeard : List Event → SweepWanted → Type 0
EndsHeard past (sweep.Scan place) = Unit {0}
EndsHeard past (sweep.End who) = IsHeard past who.number
EndsHeard past (sweep.Drop key token) = Unit {0}

pub ends_heard : (shape : Shape) (moves : List Move) → EndsHeard (world_of shape moves).past (swept_next shape (world_of shape moves))
ends_heard shape moves =
    let past = (world_of shape moves).past in
    sweep_cases (EndsHeard past) shape.shards (sweeps_of past) (λ place. tt)
    (λ at due before heard_so. let heard = subst (AllByRecursion (IsOfHeard past)) heard_so (all-heard shape moves) in heard.0)
    (λ at due closing before heard_so. tt)

-- where no session of the number 0 was told anything, whom the sweeper wants to end has a number
pub ends_numbered : (shape : Shape) (moves : List Move) → heard_by 0 (world_of shape moves).past ≡ [] → IsNumbered (swept_next shape (world_of shape moves))
ends_numbered shape moves nobody = by (swept_next shape (world_of shape moves)) (ends_heard shape moves)
  where
    past : List Event
    past = (world_of shape moves).past

    some : (number : ℕ) → number ≢ 0 → 1 ≤ number
    some number apart = omega arith

    by : (request : SweepWanted) → EndsHeard past request → IsNumbered request
    by (sweep.Scan place) heard = tt
    by (sweep.End who) heard = some who.number (λ zero. heard (ap (λ n. heard_by n past) zero ∙ nobody))
    by (sweep.Drop key token) heard = tt
