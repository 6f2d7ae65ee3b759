-- A run that is true so far can be gone on with, by whatever its script says next.
use Rattle.std.proofs.Common.{◌≡◌, ℕ, ◌+◌, Bool, true, false, cond, List, [], ◌∷◌, ◌++◌, map, length, reverse, Option, Some, None, Result, Ok, Err, refl, sym, ap, subst, ◌∙◌}
use Rattle.std.proofs.Common.{append_assoc, append-nil}
use Rattle.std.proofs.lemmas.List.{reverse-append}
use Rattle.std.specs.Prelude.{◌==◌}
use Rattle.rows_model.specs.declared.changes.Change.{Change}
use Rattle.rows_model.specs.declared.keys.QKey.{QKey}
use Rattle.rows_model.specs.declared.keys.Sid.{Sid}
use Rattle.rows_model.specs.Changes.{apply_all}
use Rattle.rows_model.specs.Query.{answer}
use Rattle.rows_model.specs.Rows.{Tables}
use Rattle.sql_keeper.specs.Commits.{commit_fault, covered_fault, uncovered}
use Rattle.sql_keeper.specs.Log.{rows_after}
use Rattle.sql_keeper.specs.declared.faults.CommitFault.{CommitFault}
use Rattle.sql_keeper.specs.declared.faults.CommitFault.TheVariants as faults
use Rattle.session_client.specs.Grants.{GrantsView}
use Rattle.session_client.specs.declared.plans.Shape.{Shape}
use Rattle.session_client.specs.declared.plans.Turn.{Turn}
use Rattle.session_client.specs.declared.plans.Turn.TheVariants as turn
use Rattle.session_client.specs.declared.replies.Wanted.{Wanted}
use Rattle.session_client.specs.declared.replies.Wanted.TheVariants as wanted
use Rattle.expiry_sweeper.specs.declared.replies.SweepWanted.{SweepWanted}
use Rattle.expiry_sweeper.specs.declared.replies.SweepWanted.TheVariants as sweep
use Rattle.executor.specs.Requests.{key_of}
use Rattle.core_history.specs.Determined.{Cue, Adds, Turns, cue_of, RunsGoOn, GoesOnBy}
use Rattle.core_history.specs.Events.{Event, Called, log_of}
use Rattle.core_history.specs.Lines.{is_fault, fault_turns}
use Rattle.core_history.specs.Machine.{World, Move, Begin, Take, Said, Value, Made, Rejected, Failed, is_open, log_cap, event_of, commit_by}
use Rattle.core_history.specs.Machine.{sweep_of, swept_next, wanted_of, turn_event, world_of}
use Rattle.core_history.specs.Truth.{IsTrueEvent, IsTruePast}
use Rattle.core_history.proofs.MakeLemmas.{quiet_request}

-- The keeper can say something in this turn that is true and no fault.
abbrev CanSay : Tables → (Said → Event) → Type 0
CanSay rows event = (said : Said) × IsTrueEvent rows (event said) × (is_fault (event said) ≡ false)

-- on a shard it says nothing
on_shard : (shape : Shape) (rows : Tables) (world : World) (who : Sid) (request : Wanted) (key : QKey) → key_of request ≡ Some key
    → CanSay rows (event_of shape world who request)
on_shard shape rows world who request key on =
    let quiet = quiet_request shape world who request key on in (Failed, quiet.truth rows, quiet.fault)

-- a transaction is one that the rows take, or fails at one of its changes
staged : (shape : Shape) (rows : Tables) (world : World) (who : Sid) (key : QKey) (txn : List Change) (found : Result Tables ℕ)
    → apply_all txn rows ≡ found → CanSay rows (event_of shape world who (wanted.Staged key txn))
staged shape rows world who key txn (Ok after) is = (Value (answer key after), (after, is, refl), refl)
staged shape rows world who key txn (Err index) is = (Rejected index, is, refl)

-- a commit is refused before the keeper is asked, or goes by whether the rows take its transaction
committed : (rows : Tables) (who : Sid) (txn : List Change) (grants : GrantsView) (count cap : ℕ) (may : Bool) (found : Result Tables ℕ)
    → apply_all txn rows ≡ found
    → CanSay rows (λ said. Called who (wanted.Commit txn grants) (commit_by count txn grants said (commit_fault may who grants.items txn count cap)))
committed rows who txn grants count cap false found is = (Failed, tt, refl)
committed rows who txn grants count cap true found is =
    by_key (uncovered who grants.items txn)
  where
    tells : Option CommitFault → Said → Event
    tells first said = Called who (wanted.Commit txn grants) (commit_by count txn grants said first)

    by_rows : (found : Result Tables ℕ) → apply_all txn rows ≡ found → CanSay rows (tells None)
    by_rows (Ok after) is = (Made, (after, is), refl)
    by_rows (Err index) is = (Rejected index, is, refl)

    by_room : (b : Bool) → CanSay rows (tells (cond b (Some (faults.LogFull count)) None))
    by_room true = (Failed, tt, refl)
    by_room false = by_rows found is

    by_key : (o : Option QKey) → CanSay rows (tells (covered_fault o count cap))
    by_key (Some key) = (Failed, tt, refl)
    by_key None = by_room (count == cap)

-- whatever a session wants
asked : (shape : Shape) (rows : Tables) (world : World) (who : Sid) (request : Wanted) → CanSay rows (event_of shape world who request)
asked shape rows world who (wanted.Get key floor) = on_shard shape rows world who (wanted.Get key floor) key refl
asked shape rows world who (wanted.Ask key) = (Value (answer key rows), refl, refl)
asked shape rows world who (wanted.Staged key txn) = staged shape rows world who key txn (apply_all txn rows) refl
asked shape rows world who (wanted.Set key token value stamp) = on_shard shape rows world who (wanted.Set key token value stamp) key refl
asked shape rows world who (wanted.QaReg key) = on_shard shape rows world who (wanted.QaReg key) key refl
asked shape rows world who (wanted.QaRead key) = on_shard shape rows world who (wanted.QaRead key) key refl
asked shape rows world who (wanted.Delta key by) = on_shard shape rows world who (wanted.Delta key by) key refl
asked shape rows world who (wanted.Commit txn grants) =
    committed rows who txn grants (length (log_of world.past)) log_cap (is_open world who) (apply_all txn rows) refl
asked shape rows world who wanted.End = (Failed, tt, refl)
asked shape rows world who (wanted.Dar grant) = on_shard shape rows world who (wanted.Dar grant) grant.key refl
asked shape rows world who (wanted.Sar grant value stamp) = on_shard shape rows world who (wanted.Sar grant value stamp) grant.key refl
asked shape rows world who (wanted.Apply grant stamp) = on_shard shape rows world who (wanted.Apply grant stamp) grant.key refl
asked shape rows world who (wanted.Abort grant) = on_shard shape rows world who (wanted.Abort grant) grant.key refl
asked shape rows world who (wanted.Raise grant) = on_shard shape rows world who (wanted.Raise grant) grant.key refl
asked shape rows world who (wanted.Renew grant) = on_shard shape rows world who (wanted.Renew grant) grant.key refl
asked shape rows world who wanted.Nothing = (Failed, tt, refl)

-- whatever the sweeper wants
swept : (shape : Shape) (rows : Tables) (world : World) (request : SweepWanted) → CanSay rows (λ said. sweep_of shape world request)
swept shape rows world (sweep.Scan place) = (Failed, tt, refl)
swept shape rows world (sweep.End who) = (Failed, tt, refl)
swept shape rows world (sweep.Drop key token) = (Failed, tt, refl)

-- so it is in each turn
turned : (shape : Shape) (rows : Tables) (world : World) (turn : Turn) → CanSay rows (turn_event shape world turn)
turned shape rows world (turn.Session who) = asked shape rows world who (wanted_of world who)
turned shape rows world (turn.Tick by) = (Failed, tt, refl)
turned shape rows world turn.Sweep = swept shape rows world (swept_next shape world)

module _ (shape : Shape) (opening : Tables) where
  -- The events after these moves.
  abbrev past_of : List Move → List Event
  past_of moves = (world_of shape moves).past

  -- one move more, in which the keeper's word is true and no fault, and then whatever goes on from there
  moved : (move : Move) (moves : List Move) (calls : List Cue) → fault_turns (past_of (move ∷ moves)) ≡ fault_turns (past_of moves)
      → (more : List Move) × GoesOnBy shape opening (move ∷ moves) calls more
      → (more : List Move) × GoesOnBy shape opening moves (cue_of move ∷ calls) more
  moved move moves calls quiet (more, goes) =
      let same : more ++ move ∷ moves ≡ (more ++ move ∷ []) ++ moves = sym (append_assoc more (move ∷ []) moves) in
      let T : List Move → Type 0 = λ all. IsTruePast opening (past_of all) in
      let F : List Move → Type 0 = λ all. fault_turns (past_of all) ≡ fault_turns (past_of (move ∷ moves)) in (
        more ++ move ∷ [],
        record {
          makes = ap (map cue_of) (reverse-append more (move ∷ [])) ∙ ap (λ (l : List Cue). cue_of move ∷ l) goes.makes;
          truth = subst T same goes.truth;
          quiet = subst F same goes.quiet ∙ quiet;
        },
      )

  goes_on : (calls : List Cue) (moves : List Move) → IsTruePast opening (past_of moves) → (more : List Move) × GoesOnBy shape opening moves calls more
  goes_on [] moves truth = ([], record { makes = refl; truth = truth; quiet = refl })
  goes_on (Adds plan ∷ calls) moves truth = moved (Begin plan) moves calls refl (goes_on calls (Begin plan ∷ moves) truth)
  goes_on (Turns turn ∷ calls) moves truth =
      let world = world_of shape moves in
      let said = turned shape (rows_after opening (log_of world.past)) world turn in
      let turns : Bool → List ℕ = λ b. fault_turns world.past ++ cond b ((length world.past + 1) ∷ []) [] in
      moved (Take turn said.0) moves calls (ap turns said.2 ∙ append-nil (fault_turns world.past)) (goes_on calls (Take turn said.0 ∷ moves) (said.1, truth))

pub runs_go_on : RunsGoOn
runs_go_on shape opening moves calls truth = goes_on shape opening calls moves truth
