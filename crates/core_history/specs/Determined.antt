-- What a script and a keeper whose word is true come to: one run for the turns that are answered FAULT, and one that can always be gone on with.
use Rattle.std.specs.Prelude.{◌≡◌, List, ◌++◌, map, reverse}
use Rattle.rows_model.specs.Rows.{Tables}
use Rattle.session_client.specs.declared.plans.Plan.{Plan}
use Rattle.session_client.specs.declared.plans.Shape.{Shape}
use Rattle.session_client.specs.declared.plans.Turn.{Turn}
use Rattle.core_history.specs.Machine.{Move, Begin, Take, world_of}
use Rattle.core_history.specs.Truth.{IsTruePast}
use Rattle.core_history.specs.Lines.{fault_turns}

-- What a script says of a move: a session begins, or a turn is taken. What the keeper says in it is no part of a script.
pub data Cue : Type 0 where
  Adds : (plan : Plan) → Cue
  Turns : (turn : Turn) → Cue

-- A move without what the keeper said in it.
abbrev pub cue_of : Move → Cue
cue_of (Begin plan) = Adds plan
cue_of (Take turn said) = Turns turn

-- Two runs of one script have the same events, each with the same reply, where the keeper's
-- word was true in both over the same opening rows and the same turns were answered FAULT.
abbrev pub RunsAreDetermined : Type 0
RunsAreDetermined =
    (shape : Shape) (opening : Tables) (moves others : List Move) → map cue_of moves ≡ map cue_of others
    → IsTruePast opening (world_of shape moves).past → IsTruePast opening (world_of shape others).past
    → fault_turns (world_of shape moves).past ≡ fault_turns (world_of shape others).past
    → (world_of shape moves).past ≡ (world_of shape others).past

-- More moves go on from these, each list the latest first: they make these calls, the keeper's word is true, and no turn more is answered FAULT.
pub record GoesOnBy (shape : Shape) (opening : Tables) (moves : List Move) (calls : List Cue) (more : List Move) : Type 0 where
  pub makes : map cue_of (reverse more) ≡ calls
  pub truth : IsTruePast opening (world_of shape (more ++ moves)).past
  pub quiet : fault_turns (world_of shape (more ++ moves)).past ≡ fault_turns (world_of shape moves).past

-- Moves that are true so far can be gone on with, whatever calls come next.
abbrev pub RunsGoOn : Type 0
RunsGoOn =
    (shape : Shape) (opening : Tables) (moves : List Move) (calls : List Cue) → IsTruePast opening (world_of shape moves).past
    → (more : List Move) × GoesOnBy shape opening moves calls more
