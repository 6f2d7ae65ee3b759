-- How shards, store and sweeper follow a step of the sweeper's.
use Rattle.std.proofs.Common.{ℕ, ◌≡◌, ◌<◌, ◌≤◌, Bool, List, [], ◌∷◌, ◌++◌, length, Option, Some, None, Result, IfOk, slice_get, set, refl}
use Rattle.std.proofs.Common.{IsSome, sym, ap, subst, ◌∙◌, arith}
use Rattle.std.proofs.lemmas.List.{reverse-reverse}
use Rattle.rows_model.specs.declared.keys.QKey.{QKey}
use Rattle.rows_model.specs.declared.keys.Sid.{Sid}
use Rattle.rows_model.specs.declared.refusals.Memory.{Memory}
use Rattle.rows_model.specs.Placement.{shard_of}
use Rattle.rows_model.specs.Rows.{Tables}
use Rattle.lease_table.specs.declared.records.Due.{Due}
use Rattle.key_shard.specs.declared.steps.Step.{Step}
use Rattle.key_shard.specs.declared.replies.Rel.{Rel}
use Rattle.key_shard.specs.Dues.{first_due}
use Rattle.key_shard.specs.Answers.{sweep_step}
use Rattle.key_shard.specs.Replies.{sweep_answer}
use Rattle.key_shard.specs.Shards.{ShardView, past_of, swept}
use Rattle.expiry_sweeper.specs.declared.replies.SweepReply.{SweepReply}
use Rattle.expiry_sweeper.specs.declared.replies.SweepReply.TheVariants as sweeps
use Rattle.expiry_sweeper.specs.declared.replies.SweepWanted.{SweepWanted}
use Rattle.expiry_sweeper.specs.declared.replies.SweepWanted.TheVariants as sweep
use Rattle.expiry_sweeper.specs.declared.sweepers.Sweeper.{Sweeper}
use Rattle.expiry_sweeper.specs.Follows.{shards_of, Follows}
use Rattle.sql_keeper.specs.declared.stores.Closed.{Closed}
use Rattle.expiry_sweeper.specs.Sweeps.{sweep_wants, scan_reply}
use Rattle.sql_keeper.specs.declared.stores.Phase.{Phase}
use Rattle.sql_keeper.specs.Sessions.{is_open as may_commit, ended}
use Rattle.sql_keeper.specs.Stores.{Ledger, StoreView, with_end}
use Rattle.session_client.specs.declared.plans.Shape.{Shape}
use Rattle.core_history.specs.declared.turn_lines.TurnLine.{TurnLine}
use Rattle.core_history.specs.Cores.{Origin, HasShards, HasPhases, HasSweeper, shard_after}
use Rattle.core_history.specs.Events.{Event, Swept, steps_of, sweeps_of, now_of}
use Rattle.core_history.specs.Machine.{World, sweep_of, is_open}
use Rattle.core_history.specs.Requests.{AreAfter, IsStoreAfter, after}
use Rattle.core_history.specs.Sweeping.{IsSweepReply, SweepsShards, SweepsStore, Sweeps, TakesSweep}
use Rattle.core_history.specs.TurnLines.{IsLineOf}
use Rattle.core_history.proofs.OpenLemmas.{phases_same, phases_swept}
use Rattle.core_history.proofs.ShardsLemmas.{IsShardOf, shards_looked, shards_swept}
use Rattle.core_history.proofs.StoreEvents.{IsQuiet, store_quiet, store_ended, quiet_scan, quiet_drop}

some_is : (a b : ShardView) → Some a ≡ Some b → a ≡ b
some_is a b e = cc

-- the past of a shard is that of its number
past_is : (shape : Shape) (past : List Event) (place : ℕ) (shard : ShardView) → shard ≡ shard_after shape past place → past_of shard ≡ steps_of place past
past_is shape past place shard same = ap past_of same ∙ reverse-reverse (steps_of place past)

-- what a scan finds is told
pub scan_reply_is : (shape : Shape) (world : World) (place now : ℕ) (shards : List ShardView) (shard : ShardView) (found : Option Due)
    → HasShards shards shape world.past → place < length shards → slice_get shards place ≡ Some shard → now ≡ now_of world.past
    → found ≡ first_due now (past_of shard) → IsSweepReply shape world (sweep.Scan place) (scan_reply place found)
scan_reply_is shape world place now shards shard found has within there time is =
    let same : shard ≡ shard_after shape world.past place =
    some_is shard (shard_after shape world.past place) (sym there ∙ has.each place (omega (arith, within, has.count))) in
    let found_is : first_due (now_of world.past) (steps_of place world.past) ≡ found =
    ap (first_due (now_of world.past)) (sym (past_is shape world.past place shard same)) ∙ ap (λ (n : ℕ). first_due n (past_of shard)) (sym time) ∙ sym is in
    ap (λ (o : Option Due). scan_reply place o ∷ []) found_is

closed_is : (closing : Closed) (who : Sid) (was : Bool) → closing.sid ≡ who → closing.was ≡ was → closing ≡ record { sid = who; was = was }
closed_is closing who was e f = λ i. record { sid = e i; was = f i }

-- a session that was ended
pub end_reply_is : (old new : StoreView) (origin : Origin) (world : World) (who : Sid) (closing : Closed) → IsStoreAfter old origin world → 1 ≤ who.number
    → closing.sid ≡ who → closing.was ≡ may_commit who old.ledger.sessions → new.ledger ≡ with_end who old.ledger → new.known_rows ≡ old.known_rows → new.faults ≡ old.faults
    → SweepsStore origin world (sweep.End who) new (sweeps.Ended closing)
end_reply_is old new origin world who closing stands some sid_is was_is ledger same faults =
    let event = sweep_of origin.shape world (sweep.End who) in
    let sessions : new.ledger.sessions ≡ ended who old.ledger.sessions = ap (λ (l : Ledger). l.sessions) ledger in
    let P : List Phase → Type 0 = λ xs. HasPhases xs (after world event) in (
      sym (ap (λ (c : Closed). sweeps.Ended c ∷ []) (closed_is closing who (is_open world who) sid_is (was_is ∙ stands.1.opens who some))),
      (
        store_ended old new origin world.past who event stands.0 ledger (subst (λ (o : Option Tables). IsSome o) same) faults refl refl (λ rows. tt),
        subst P (sym sessions) (phases_swept old.ledger.sessions world who stands.1 some),
      ),
    )

-- a key that was dropped on its shard
pub drop_reply_is : (shape : Shape) (world : World) (key : QKey) (token : ℕ) (shards : List ShardView) (place : ℕ) (shard new : ShardView) (answer : Rel)
    → HasShards shards shape world.past → IsShardOf shape world.past key place shard
    → new ≡ swept shard (sweep_step (past_of shard) key token) → answer ≡ sweep_answer (sweep_step (past_of shard) key token)
    → SweepsShards shape world (sweep.Drop key token) (set shards place new) (sweeps.Dropped answer)
drop_reply_is shape world key token shards place shard new its_answer has is made answer = (
  ap (λ (t : Rel). sweeps.Dropped t ∷ []) (sym (answer ∙ ap sweep_answer step_is)),
  subst P (sym is.here) (subst Q (sym after_is) (shards_swept shape world.past (sweep.Drop key token) key token _ home shards has is.within)),
)
  where
    home : ℕ
    home = shard_of key shape.shards

    step : Option Step
    step = sweep_step (steps_of home world.past) key token

    step_is : sweep_step (past_of shard) key token ≡ step
    step_is = ap (λ (steps : List Step). sweep_step steps key token) (past_is shape world.past home shard is.same)

    after_is : new ≡ swept (shard_after shape world.past home) step
    after_is = made ∙ ap (swept shard) step_is ∙ ap (λ (s : ShardView). swept s step) is.same

    P : ℕ → Type 0
    P n = HasShards (set shards n new) shape (sweep_of shape world (sweep.Drop key token) ∷ world.past)

    Q : ShardView → Type 0
    Q s = HasShards (set shards home s) shape (sweep_of shape world (sweep.Drop key token) ∷ world.past)

-- the store stands after an event that asks nothing of it
stands_quiet : (store : StoreView) (origin : Origin) (world : World) (event : Event) → IsStoreAfter store origin world → IsQuiet event
    → IsStoreAfter store origin (after world event)
stands_quiet store origin world event stands quiet =
    (store_quiet store origin world.past event stands.0 quiet, phases_same store.ledger.sessions world event stands.1 quiet.commits quiet.ends)

pub scan_sweeps : (origin : Origin) (world : World) (place : ℕ) (shards : List ShardView) (store : StoreView) (reply : SweepReply)
    → AreAfter shards store origin world → IsSweepReply origin.shape world (sweep.Scan place) reply → Sweeps origin world (sweep.Scan place) shards store reply
scan_sweeps origin world place shards store reply stands is = (
  is,
  (
    shards_looked shards origin.shape world.past place (sweep.Scan place) _ stands.0,
    stands_quiet store origin world (sweep_of origin.shape world (sweep.Scan place)) stands.1 (quiet_scan place place None _),
  ),
)

pub end_sweeps : (origin : Origin) (world : World) (who : Sid) (shards : List ShardView) (store : StoreView) (reply : SweepReply)
    → HasShards shards origin.shape world.past → SweepsStore origin world (sweep.End who) store reply → Sweeps origin world (sweep.End who) shards store reply
end_sweeps origin world who shards store reply has made =
    (made.0, (shards_looked shards origin.shape world.past 0 (sweep.End who) _ has, made.1))

pub drop_sweeps : (origin : Origin) (world : World) (key : QKey) (token : ℕ) (shards : List ShardView) (store : StoreView) (reply : SweepReply)
    → IsStoreAfter store origin world → SweepsShards origin.shape world (sweep.Drop key token) shards reply
    → Sweeps origin world (sweep.Drop key token) shards store reply
drop_sweeps origin world key token shards store reply stands made =
    (made.0, (made.1, stands_quiet store origin world (sweep_of origin.shape world (sweep.Drop key token)) stands (quiet_drop _ key token _ _)))

same_reply : (a b : SweepReply) → a ∷ [] ≡ b ∷ [] → a ≡ b
same_reply a b e = cc

-- the line of what was wanted and told is the event's
sweep_reply_of : (shape : Shape) (world : World) (request : SweepWanted) (reply : SweepReply) (result : Result TurnLine Memory)
    → IsSweepReply shape world request reply → ((shard : ℕ) (made : Option Step) → IfOk result (IsLineOf (Swept shard request made reply)))
    → IfOk result (IsLineOf (sweep_of shape world request))
sweep_reply_of shape world (sweep.Scan place) reply result is line =
    subst (λ (t : SweepReply). IfOk result (IsLineOf (Swept place (sweep.Scan place) None t))) (sym (same_reply _ reply is)) (line place None)
sweep_reply_of shape world (sweep.End who) reply result is line =
    subst (λ (t : SweepReply). IfOk result (IsLineOf (Swept 0 (sweep.End who) None t))) (sym (same_reply _ reply is)) (line 0 None)
sweep_reply_of shape world (sweep.Drop key token) reply result is line =
    let place = shard_of key shape.shards in
    let made = sweep_step (steps_of place world.past) key token in
    subst (λ (t : SweepReply). IfOk result (IsLineOf (Swept place (sweep.Drop key token) made t))) (sym (same_reply _ reply is)) (line place made)

-- what a sweeper wanted was made and told, and its line written
pub sweep_takes : (origin : Origin) (world : World) (request : SweepWanted)
    (shards : List ShardView) (store : StoreView) (old new : Sweeper) (reply : SweepReply) (result : Result TurnLine Memory)
    → HasSweeper old origin.shape world.past
    → request ≡ sweep_wants (shards_of old) (sweeps_of world.past)
    → Sweeps origin world request shards store reply → shards_of new ≡ shards_of old → Follows new (reply ∷ sweeps_of world.past)
    → ((shard : ℕ) (made : Option Step) → IfOk result (IsLineOf (Swept shard request made reply))) → TakesSweep origin world shards store new result
sweep_takes origin world request shards store old new reply result has wants made same follows line =
    subst T (wants ∙ ap (λ (n : ℕ). sweep_wants n (sweeps_of world.past)) has.shards) (
      made.1,
      record {
        shards = same ∙ has.shards;
        following = subst (Follows new) (ap (λ (l : List SweepReply). l ++ sweeps_of world.past) (sym made.0)) follows;
      },
      sweep_reply_of origin.shape world request reply result made.0 line,
    )
  where
    T : SweepWanted → Type 0
    T w =
        AreAfter shards store origin (after world (sweep_of origin.shape world w))
        × HasSweeper new origin.shape (sweep_of origin.shape world w ∷ world.past) × IfOk result (IsLineOf (sweep_of origin.shape world w))
