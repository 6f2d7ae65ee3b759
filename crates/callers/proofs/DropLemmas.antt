-- The sweeper's drops in a run are final.
use Rattle.std.proofs.Common.{◌≡◌, ℕ, ◌<◌, ◌⊎◌, Bool, inl, inr, List, [], ◌∷◌, ◌++◌, length, reverse, Option, Some, None, IsSome, slice_get}
use Rattle.std.proofs.Common.{eq-eqb, refl, sym, ap, subst, ◌∙◌, arith}
use Rattle.std.specs.Prelude.{if◌then◌else◌, All}
use Rattle.std.specs.List.{AllByRecursion}
use Rattle.std.proofs.lemmas.List.{reverse-reverse}
use Rattle.std.proofs.lemmas.List.Concat.{flat_map-append}
use Rattle.std.proofs.lemmas.List.Elements.{All-from_recursion}
use Rattle.std.proofs.lemmas.List.FromFn.{length-map-range_with_len, get_or-map-range_with_len}
use Rattle.std.proofs.lemmas.Option.{get_or_from_slice_get, slice_get_within}
use Rattle.rows_model.specs.declared.keys.QKey.{QKey}
use Rattle.rows_model.specs.declared.keys.Sid.{Sid}
use Rattle.rows_model.specs.Rows.{Tables}
use Rattle.rows_model.specs.Placement.{shard_of}
use Rattle.key_shard.specs.declared.steps.Step.{Step}
use Rattle.key_shard.specs.Past.{quar_of}
use Rattle.sql_keeper.specs.declared.stores.Commit.{Commit}
use Rattle.expiry_sweeper.specs.declared.replies.SweepReply.{SweepReply}
use Rattle.expiry_sweeper.specs.declared.replies.SweepWanted.{SweepWanted}
use Rattle.expiry_sweeper.specs.declared.replies.SweepWanted.TheVariants as sweep
use Rattle.session_client.specs.declared.plans.Shape.{Shape}
use Rattle.session_client.specs.declared.plans.Turn.{Turn}
use Rattle.session_client.specs.declared.plans.Turn.TheVariants as turn
use Rattle.session_client.specs.declared.replies.Wanted.{Wanted}
use Rattle.session_client.specs.declared.replies.Wanted.TheVariants as wanted
use Rattle.core_history.specs.Events.{Event, Swept, steps_in, steps_of, swept_in, log_of}
use Rattle.core_history.specs.Freshness.{IsCommitOf, histories_of}
use Rattle.core_history.specs.Machine.{World, Move, Begin, Take, Said, event_of, wanted_of, sweep_of, swept_next, turn_event, world_of}
use Rattle.core_history.specs.Sweeps.{IsHitSince, SweepsAreFinal}
use Rattle.top_run.specs.declared.runs.Status.{Status}
use Rattle.top_run.specs.Runs.{past_of, Held, Tells, Left, IsNotStarted, Ended}
use Rattle.callers.specs.Drops.{DropsAreFinal, IsSweptRun}
use Rattle.callers.proofs.RunLemmas.{Began, began-or-not, reverse-middle}
use Rattle.callers.proofs.WriteLemmas.{all-turned}

-- ---- a drop is made on the shard of its key

-- no turn of a session is a sweep
session-turn : (shape : Shape) (world : World) (who : Sid) (said : Said) (request : Wanted) → swept_in (event_of shape world who request said) ≡ []
session-turn shape world who said (wanted.Get key floor) = refl
session-turn shape world who said (wanted.Ask key) = refl
session-turn shape world who said (wanted.Staged key txn) = refl
session-turn shape world who said (wanted.Set key token value stamp) = refl
session-turn shape world who said (wanted.QaReg key) = refl
session-turn shape world who said (wanted.QaRead key) = refl
session-turn shape world who said (wanted.Delta key by) = refl
session-turn shape world who said (wanted.Raise grant) = refl
session-turn shape world who said (wanted.Renew grant) = refl
session-turn shape world who said (wanted.Commit txn grants) = refl
session-turn shape world who said wanted.End = refl
session-turn shape world who said (wanted.Dar grant) = refl
session-turn shape world who said (wanted.Sar grant value stamp) = refl
session-turn shape world who said (wanted.Apply grant stamp) = refl
session-turn shape world who said (wanted.Abort grant) = refl
session-turn shape world who said wanted.Nothing = refl

sweep-home : (shape : Shape) (world : World) (request : SweepWanted) (home : ℕ) (key : QKey) (token : ℕ) (made : Option Step) (reply : SweepReply)
    → sweep_of shape world request ≡ Swept home (sweep.Drop key token) made reply → shard_of key shape.shards ≡ home
sweep-home shape world (sweep.Scan place) home key token made reply e = absurd cc
sweep-home shape world (sweep.End who) home key token made reply e = absurd cc
sweep-home shape world (sweep.Drop on gone) home key token made reply e =
    let same : on ≡ key = cc in
    let at : shard_of on shape.shards ≡ home = cc in
    subst (λ (k : QKey). shard_of k shape.shards ≡ home) same at

turn-home : (shape : Shape) (world : World) (t : Turn) (said : Said) (home : ℕ) (key : QKey) (token : ℕ) (made : Option Step) (reply : SweepReply)
    → turn_event shape world t said ≡ Swept home (sweep.Drop key token) made reply → shard_of key shape.shards ≡ home
turn-home shape world (turn.Session who) said home key token made reply e =
    absurd (no-reply (sym (session-turn shape world who said (wanted_of world who)) ∙ ap swept_in e))
  where
    no-reply : [] ≡ reply ∷ [] → ⊥
    no-reply e = cc
turn-home shape world (turn.Tick by) said home key token made reply e = absurd cc
turn-home shape world turn.Sweep said home key token made reply e = sweep-home shape world (swept_next shape world) home key token made reply e

drop-home : (shape : Shape) (moves : List Move) (before after : List Event) (home : ℕ) (key : QKey) (token : ℕ) (made : Option Step) (reply : SweepReply)
    → past_of shape moves ≡ after ++ Swept home (sweep.Drop key token) made reply ∷ before → shard_of key shape.shards ≡ home
drop-home shape [] before [] home key token made reply e = absurd cc
drop-home shape [] before (event ∷ after) home key token made reply e = absurd cc
drop-home shape (Begin plan ∷ moves) before after home key token made reply e = drop-home shape moves before after home key token made reply e
drop-home shape (Take t said ∷ moves) before [] home key token made reply e =
    let first : turn_event shape (world_of shape moves) t said ≡ Swept home (sweep.Drop key token) made reply = cc in
    turn-home shape (world_of shape moves) t said home key token made reply first
drop-home shape (Take t said ∷ moves) before (event ∷ after) home key token made reply e =
    let rest : past_of shape moves ≡ after ++ Swept home (sweep.Drop key token) made reply ∷ before = cc in
    drop-home shape moves before after home key token made reply rest

-- ---- the history around a drop

-- the history at a place
history-at : (shape : Shape) (past : List Event) (place : ℕ) (history : List Step)
    → slice_get (histories_of shape past) place ≡ Some history → history ≡ reverse (steps_of place past)
history-at shape past place history is =
    let made = length-map-range_with_len (λ place. reverse (steps_of place past)) 0 shape.shards in
    let within : place < shape.shards = subst (λ (n : ℕ). place < n) made (slice_get_within (histories_of shape past) place history is) in
    sym (get_or_from_slice_get (histories_of shape past) place history [] is)
    ∙ get_or-map-range_with_len (λ place. reverse (steps_of place past)) 0 shape.shards place place [] within (omega arith)

-- the steps of a shard around one of its own
steps-around : (home : ℕ) (before after : List Event) (request : SweepWanted) (s : Step) (reply : SweepReply)
    → steps_of home (after ++ Swept home request (Some s) reply ∷ before) ≡ steps_of home after ++ s ∷ steps_of home before
steps-around home before after request s reply =
    flat_map-append (steps_in home) after (Swept home request (Some s) reply ∷ before)
    ∙ ap (λ (b : Bool). steps_of home after ++ ((if b then s ∷ [] else []) ++ steps_of home before)) (eq-eqb home home refl)

-- the drops of a run are final
drops-final : SweepsAreFinal → (shape : Shape) (moves : List Move) (log : List Commit) (histories : List (List Step))
    → log ≡ log_of (past_of shape moves) → histories ≡ histories_of shape (past_of shape moves) → DropsAreFinal (past_of shape moves) log histories
drops-final law shape moves log histories log_is are before after home key token s reply history is at =
    let past = past_of shape moves in
    let final = law shape moves before after home key token s reply is in
    let here : shard_of key shape.shards ≡ home = drop-home shape moves before after home key token (Some s) reply is in
    let whole : history ≡ reverse (steps_of home past) =
    history-at shape past home history (subst (λ (hs : List (List Step)). slice_get hs home ≡ Some history) are at) in
    let around : steps_of home past ≡ steps_of home after ++ s ∷ steps_of home before =
    ap (steps_of home) is ∙ steps-around home before after (sweep.Drop key token) s reply in
    let back : reverse history ≡ steps_of home past = ap reverse whole ∙ reverse-reverse (steps_of home past) in
    record {
      sid = final.sid;
      earlier = reverse (steps_of home before);
      later = reverse (steps_of home after);
      steps =
          whole ∙ ap reverse around ∙ reverse-middle (steps_of home after) s (steps_of home before)
          ∙ ap (λ (s : Step). reverse (steps_of home before) ++ s ∷ reverse (steps_of home after)) final.ends;
      gone = ap (quar_of key token) (back ∙ ap (λ (place : ℕ). steps_of place past) (sym here)) ∙ final.gone;
      since_drop = since here (length (log_of before)) final.since_drop;
      since_commit = λ number of. since here number (final.since_commit number (subst (λ (log : List Commit). IsCommitOf log final.sid number) log_is of));
    }
  where
    since : shard_of key shape.shards ≡ home → (least : ℕ) → AllByRecursion (IsHitSince key least) (steps_of (shard_of key shape.shards) after)
        → All (IsHitSince key least) (reverse (steps_of home after))
    since here least h =
        all-turned (IsHitSince key least) (steps_of home after)
        (All-from_recursion (IsHitSince key least) (steps_of home after)
        (subst (λ (place : ℕ). AllByRecursion (IsHitSince key least) (steps_of place after)) here h))

pub swept-run : SweepsAreFinal → (s : Status) (held : Held) (before after : Tells) (left : Left) (written : ℕ)
    → Ended s held before after left written → IsSome left.opening
    → IsSweptRun before.left after.left left.log left.histories
swept-run law s held before after left written h some = by (began-or-not s held before after left written h)
  where
    none-some : (o : Option Tables) → o ≡ None → IsSome o → ⊥
    none-some None none some = cc
    none-some (Some opening) none some = cc

    by : (IsNotStarted before after left written ⊎ Began held before after left) → IsSweptRun before.left after.left left.log left.histories
    by (inl k) = absurd (none-some left.opening k.no_opening some)
    by (inr b) = record {
      shape = b.shape;
      acts = b.acts;
      read = b.read;
      moves = b.moves;
      made = b.made;
      log_is = b.keeps.log_is;
      histories_are = b.keeps.histories_are;
      final = drops-final law b.shape b.moves left.log left.histories b.keeps.log_is b.keeps.histories_are;
    }
