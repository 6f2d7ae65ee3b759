-- How a command is answered: by a refusal, or by what it asks of the desk.
use Rattle.std.specs.Prelude.{ℕ, ◌≡◌, ◌⊎◌, Bool, true, false, List, [], ◌∷◌, ◌++◌, Option, Some, None}
use Rattle.std.specs.Option.{option_map}
use Rattle.rows_model.specs.declared.keys.QKey.{QKey}
use Rattle.rows_model.specs.declared.keys.Sid.{Sid}
use Rattle.lease_table.specs.declared.records.Mode.{Mode}
use Rattle.key_shard.specs.Permit.{Permit}
use Rattle.session_client.specs.Belongs.{Belongs}
use Rattle.session_client.specs.Desks.{Exchange, Began, Asked, with_member}
use Rattle.session_client.specs.declared.replies.Reply.{Reply}
use Rattle.session_client.specs.declared.replies.Wanted.{Wanted}
use Rattle.mc_text.specs.declared.commands.Role.{Role}
use Rattle.mc_text.specs.declared.commands.Role.TheVariants.{Read, Write}
use Rattle.mc_text.specs.declared.commands.Command.{Command}
use Rattle.mc_text.specs.declared.commands.Command.TheVariants.{Begin, IqAbort}
use Rattle.mc_text.specs.declared.replies.LineReply.{LineReply}
use Rattle.mc_text.specs.declared.replies.LineReply.TheVariants as LineReply
use Rattle.conn_server.specs.declared.clients.Client.{Client}
use Rattle.conn_server.specs.declared.clients.Stage.{Stage}
use Rattle.conn_server.specs.declared.clients.Stage.TheVariants as stages
use Rattle.conn_server.specs.declared.outgoing.Response.{Response}
use Rattle.conn_server.specs.declared.outgoing.Response.TheVariants as outgoing
use Rattle.mixed_lines.specs.Items.{Item, command, plain, bad_line}
use Rattle.conn_server.specs.Outgoing.{IsPlainResponse}
use Rattle.conn_server.specs.Clients.{asker, grant_on}
use Rattle.conn_server.specs.Refusals.{refused}
use Rattle.conn_server.specs.Requests.{request, told_of, client_after}
use Rattle.conn_server.specs.Closing.{Leaves, aborted}

-- whether a session of this role writes
abbrev pub is_writer : Role → Bool
is_writer Read = false
is_writer Write = true

-- where a session of this role begins
abbrev pub first_stage : Role → Stage
first_stage Read = stages.Reading
first_stage Write = stages.Open

-- a grant on the key is held
pub record HasFirst (key : QKey) (grants : List Permit) : Type 0 where
  pub grant : Permit
  pub is_first : grant_on key grants ≡ Some grant

-- a grant on the key is held, and the one that was given first is in this mode
pub record HasFirstIn (mode : Mode) (key : QKey) (grants : List Permit) : Type 0 where
  pub grant : Permit
  pub is_first : grant_on key grants ≡ Some grant
  pub in_mode : grant.mode ≡ mode

-- the client with this session, just begun
abbrev pub with_session : Client → Role → Sid → Client
with_session client role sid =
    record { present = Some (record { sid = sid; stage = first_stage role }); grants = client.grants }

-- a session begins, or memory runs out and none does
abbrev pub Begins : Client → Role → List Exchange → LineReply → Client → Type 0
Begins old role calls reply new =
    ((sid : Sid) × (calls ≡ Began (is_writer role) sid ∷ []) × (reply ≡ LineReply.Session sid) × (new ≡ with_session old role sid))
    ⊎ ((calls ≡ []) × (reply ≡ LineReply.Memory) × (new ≡ old))

-- the present session is given up, and holds no grant any more
pub record Aborts (old : Client) (calls : List Exchange) (reply : LineReply) (new : Client) : Type 0 where
  pub count : ℕ
  pub leaves : Leaves old.present old.grants.items calls count
  pub reply_is : reply ≡ LineReply.Released count
  pub new_is : new ≡ record { present = option_map aborted old.present; grants = record { items = []; room = old.grants.room } }

-- one request is made of the desk, whose reply belongs to it
pub record Requests (old : Client) (said : Command) (calls : List Exchange) (reply : LineReply) (new : Client) : Type 0 where
  pub wanted : Wanted
  pub heard : Reply
  pub wanted_is : request old said ≡ Some wanted
  pub belongs : Belongs (asker old.present) wanted heard
  pub calls_are : calls ≡ Asked (asker old.present) wanted heard ∷ []
  pub reply_is : reply ≡ told_of said heard
  pub new_is : new ≡ client_after old said heard

-- one request is made of a desk for the present session, and a command is told of the reply, which belongs to it
pub record Makes (before after : Option (List Exchange)) (old : Client) (wanted : Wanted) (said : Command) (reply : LineReply) (new : Client) : Type 0 where
  pub heard : Reply
  pub belongs : Belongs (asker old.present) wanted heard
  pub record_is : after ≡ with_member (Asked (asker old.present) wanted heard) before
  pub reply_is : reply ≡ told_of said heard
  pub new_is : new ≡ client_after old said heard

-- what a command that isn't refused asks, and how it is answered
abbrev pub Does : Client → Command → List Exchange → LineReply → Client → Type 0
Does old (Begin role) calls reply new = Begins old role calls reply new
Does old (IqAbort sid) calls reply new = Aborts old calls reply new
Does old said calls reply new = Requests old said calls reply new

-- a command that is told an error asks nothing of the desk and changes nothing
abbrev pub AnswersBy : Option LineReply → Client → Command → List Exchange → LineReply → Client → Type 0
AnswersBy (Some error) old said calls reply new = (calls ≡ []) × (reply ≡ error) × (new ≡ old)
AnswersBy None old said calls reply new = Does old said calls reply new

-- how a command is answered
abbrev pub Answers : Client → Command → List Exchange → LineReply → Client → Type 0
Answers old said calls reply new = AnswersBy (refused old said) old said calls reply new

-- how a lease command is told the reply to it
abbrev pub TellsAnswer : Client → Command → List Exchange → Response → Client → Type 0
TellsAnswer old said calls (outgoing.Lease reply) new = Answers old said calls reply new
TellsAnswer old said calls (outgoing.Plain reply noreply) new = ⊥

-- how what stands in a stream is answered: a command, or a line that isn't of its verb's form; a plain command asks nothing of the desk of sessions
abbrev pub ItemAnswers : Client → Item → List Exchange → Response → Client → Type 0
ItemAnswers old (command said) calls heard new = TellsAnswer old said calls heard new
ItemAnswers old (plain said noreply) calls heard new = (calls ≡ []) × IsPlainResponse said noreply heard × (new ≡ old)
ItemAnswers old bad_line calls heard new = (calls ≡ []) × (heard ≡ outgoing.Lease LineReply.BadLine) × (new ≡ old)
ItemAnswers old other calls heard new = ⊥

-- how items are answered, one behind the other
abbrev pub AllAnswer : Client → List Item → List Exchange → List Response → Client → Type 0
AllAnswer old [] calls heard new = (calls ≡ []) × (heard ≡ []) × (new ≡ old)
AllAnswer old (item ∷ items) calls heard new =
    (first : List Exchange) × (others : List Exchange) × (one : Response) × (more : List Response) × (next : Client)
    × ItemAnswers old item first one next × AllAnswer next items others more new
    × (calls ≡ first ++ others) × (heard ≡ one ∷ more)

-- a desk's record, where it is told, with these calls more, in the order in which they were made
abbrev pub with_calls : List Exchange → Option (List Exchange) → Option (List Exchange)
with_calls [] recorded = recorded
with_calls (call ∷ calls) recorded = with_calls calls (with_member call recorded)

-- a desk was asked these calls, by a command that was answered
pub record Asks (before after : Option (List Exchange)) (old : Client) (said : Command) (reply : LineReply) (new : Client) : Type 0 where
  pub calls : List Exchange
  pub record_is : after ≡ with_calls calls before
  pub answers : Answers old said calls reply new

-- a desk was asked these calls, by a client that was given up
pub record GivenUp (before after : Option (List Exchange)) (old : Client) : Type 0 where
  pub calls : List Exchange
  pub count : ℕ
  pub record_is : after ≡ with_calls calls before
  pub leaves : Leaves old.present old.grants.items calls count
