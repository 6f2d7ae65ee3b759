-- What is told of a turn is its event's.
use Rattle.std.proofs.Common.{ℕ, ◌≡◌, Bool, false, List, [], ◌∷◌, ◌++◌, decimal, Result, Ok, Err, IfOk, refl, sym, ap, subst, inr, ◌∙◌, Vec}
use Rattle.std.specs.Global.{Global}
use Rattle.rows_model.specs.declared.keys.Sid.{Sid}
use Rattle.rows_model.specs.declared.refusals.Memory.{Memory}
use Rattle.key_shard.specs.declared.steps.Step.{Step}
use Rattle.key_shard.specs.Shards.{ShardView}
use Rattle.sql_keeper.specs.Stores.{StoreView}
use Rattle.session_client.specs.declared.plans.Shape.{Shape}
use Rattle.session_client.specs.declared.replies.Reply.{Reply}
use Rattle.session_client.specs.declared.replies.Wanted.{Wanted}
use Rattle.session_client.specs.declared.replies.Wanted.TheVariants as wanted
use Rattle.session_client.specs.declared.sessions.Session.{Session}
use Rattle.session_client.specs.Follows.{Follows}
use Rattle.executor.specs.Requests.{request_of}
use Rattle.executor.specs.declared.requests.Request.{Request}
use Rattle.core_history.specs.declared.turn_lines.TurnLine.{TurnLine}
use Rattle.core_history.specs.Cores.{Origin}
use Rattle.core_history.specs.Events.{Event, Stepped, Called, reply_in, heard_from, heard_in, swept_in, now_of}
use Rattle.core_history.specs.Lines.{line, request_words, reply_words, turn_words, event_words, line_of, tells_fault, is_fault}
use Rattle.core_history.specs.Machine.{World, Said, event_of}
use Rattle.core_history.specs.Requests.{Makes, TakesTurn}

-- the event is a turn of this session, in which it made this request: it is told, and nobody else is, and neither clock nor sweeper moves
pub record IsTurn (who : Sid) (request : Wanted) (event : Event) : Type 0 where
  pub replies_are : (number : ℕ) → heard_in number event ≡ heard_from number who (reply_in event)
  pub words : event_words event ≡ turn_words who request (reply_in event)
  pub fault : is_fault event ≡ tells_fault (reply_in event)
  pub swept : swept_in event ≡ []
  pub clock : (past : List Event) → now_of (event ∷ past) ≡ now_of past

stepped_turn : (who : Sid) (request : Wanted) (place : ℕ) (made : Step) (reply : Reply) → IsTurn who request (Stepped place who request made reply)
stepped_turn who request place made reply = record { replies_are = λ number. refl; words = refl; fault = refl; swept = refl; clock = λ past. refl }

called_turn : (who : Sid) (request : Wanted) (reply : Reply) → IsTurn who request (Called who request reply)
called_turn who request reply = record { replies_are = λ number. refl; words = refl; fault = refl; swept = refl; clock = λ past. refl }

-- the event of a request is such a turn
pub event_turn : (shape : Shape) (world : World) (who : Sid) (request : Wanted) (said : Said) → IsTurn who request (event_of shape world who request said)
event_turn shape world who (wanted.Get key floor) said = stepped_turn who (wanted.Get key floor) _ _ _
event_turn shape world who (wanted.Ask key) said = called_turn who (wanted.Ask key) _
event_turn shape world who (wanted.Staged key txn) said = called_turn who (wanted.Staged key txn) _
event_turn shape world who (wanted.Set key token value stamp) said = stepped_turn who (wanted.Set key token value stamp) _ _ _
event_turn shape world who (wanted.QaReg key) said = stepped_turn who (wanted.QaReg key) _ _ _
event_turn shape world who (wanted.QaRead key) said = stepped_turn who (wanted.QaRead key) _ _ _
event_turn shape world who (wanted.Delta key by) said = stepped_turn who (wanted.Delta key by) _ _ _
event_turn shape world who (wanted.Commit txn grants) said = called_turn who (wanted.Commit txn grants) _
event_turn shape world who wanted.End said = called_turn who wanted.End _
event_turn shape world who (wanted.Dar grant) said = stepped_turn who (wanted.Dar grant) _ _ _
event_turn shape world who (wanted.Sar grant value stamp) said = stepped_turn who (wanted.Sar grant value stamp) _ _ _
event_turn shape world who (wanted.Apply grant stamp) said = stepped_turn who (wanted.Apply grant stamp) _ _ _
event_turn shape world who (wanted.Abort grant) said = stepped_turn who (wanted.Abort grant) _ _ _
event_turn shape world who (wanted.Raise grant) said = stepped_turn who (wanted.Raise grant) _ _ _
event_turn shape world who (wanted.Renew grant) said = stepped_turn who (wanted.Renew grant) _ _ _
event_turn shape world who wanted.Nothing said = called_turn who wanted.Nothing _

-- the line of what was asked and answered is the event's
line_is : (event : Event) (who : Sid) (request : Wanted) (reply : Reply) (asked : Request)
    → IsTurn who request event → reply ≡ reply_in event → asked ≡ request_of request →
    line (decimal who.number ∷ request_words asked ++ reply_words reply) ≡ line_of event
unfolding line_of
line_is event who request reply asked turn reply_is bare =
    ap (λ (r : Request). line (decimal who.number ∷ request_words r ++ reply_words reply)) bare
    ∙ ap (λ (r : Reply). line (turn_words who request r)) reply_is
    ∙ ap line (sym turn.words)

-- a request was made, its line written, and its session told
pub turn_printed : (origin : Origin) (world : World) (who : Sid) (request : Wanted) (asked : Request) (heard : List Reply) (shards : List ShardView)
    (store : StoreView) (session : Session) (reply : Reply) (text : Result (Vec ℕ Global) Memory) (fault : Bool) (printed : Result TurnLine Memory) →
    asked ≡ request_of request → IfOk text (λ t. t.items ≡ line (decimal who.number ∷ request_words asked ++ reply_words reply))
    → fault ≡ tells_fault reply → IfOk printed (λ t. (text ≡ Ok t.line) × (t.fault ≡ fault)) →
    Makes origin world who request shards store (Ok reply) → Follows session false (reply ∷ heard)
    → TakesTurn origin world who request heard shards store session printed
turn_printed origin world who request asked heard shards store session reply text fault (Ok turn_line) bare written faulty is made next =
    let event = event_of origin.shape world who request made.0 in
    let T : Result (Vec ℕ Global) Memory → Type 0 = λ r. IfOk r (λ t. t.items ≡ line (decimal who.number ∷ request_words asked ++ reply_words reply)) in
    let F : Reply → Type 0 = λ r. Follows session false (r ∷ heard) in
    let turn = event_turn origin.shape world who request made.0 in
    let printed : turn_line.line.items ≡ line_of event = subst T is.0 written ∙ line_is event who request reply asked turn made.1 bare in
    (made.0, (printed, is.1 ∙ faulty ∙ ap tells_fault made.1 ∙ sym turn.fault), made.2, subst F made.1 next)
turn_printed origin world who request asked heard shards store session reply text fault (Err memory) bare written faulty is made next =
    inr (made.0, made.2)
