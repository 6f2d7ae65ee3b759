-- How a command is answered that isn't refused.
use Rattle.std.proofs.Common.{ℕ, ◌≡◌, ◌≢◌, List, [], ◌∷◌, Option, Some, None, Bool, true, false, refl, sym, ap, subst, ◌∙◌, inl}
use Rattle.rows_model.specs.declared.keys.QKey.{QKey}
use Rattle.rows_model.specs.declared.keys.Sid.{Sid}
use Rattle.rows_model.specs.declared.changes.Change.{Change}
use Rattle.std.specs.Prelude.{ℤ}
use Rattle.std.specs.List.{insert}
use Rattle.key_shard.specs.Permit.{Permit}
use Rattle.key_shard.specs.declared.replies.QAnswer.TheVariants as quarantine
use Rattle.key_shard.specs.declared.replies.Rel.TheVariants as rel
use Rattle.session_client.specs.Belongs.{Belongs}
use Rattle.session_client.specs.Desks.{Exchange, Asked, Began, with_member}
use Rattle.session_client.specs.Grants.{GrantsView}
use Rattle.session_client.specs.declared.replies.Reply.{Reply}
use Rattle.session_client.specs.declared.replies.Reply.TheVariants as desk
use Rattle.session_client.specs.declared.replies.Wanted.{Wanted}
use Rattle.session_client.specs.declared.replies.Wanted.TheVariants as wanted
use Rattle.mc_text.specs.declared.commands.Command.{Command}
use Rattle.mc_text.specs.declared.commands.Command.TheVariants as commands
use Rattle.mc_text.specs.declared.replies.LineReply.{LineReply}
use Rattle.mc_text.specs.declared.replies.LineReply.TheVariants as LineReply
use Rattle.mc_text.specs.declared.commands.Role.{Role}
use Rattle.conn_server.specs.declared.clients.Client.{Client}
use Rattle.conn_server.specs.declared.clients.Stage.{Stage}
use Rattle.conn_server.specs.Clients.{asker, grants_but}
use Rattle.conn_server.specs.Refusals.{refused}
use Rattle.conn_server.specs.Requests.{request, told_of, client_after, with_grants, grants_after, grants_heard}
use Rattle.conn_server.specs.Tellings.{quarantine_as, release_as}
use Rattle.conn_server.specs.Answers.{is_writer, first_stage, Begins, Makes, Requests, Does, AnswersBy, Asks, with_calls}

-- a command that isn't refused and makes one request is answered so
pub asks_by : (before after : Option (List Exchange)) (old new : Client) (wanted : Wanted) (said : Command) (reply : LineReply)
    → refused old said ≡ None → request old said ≡ Some wanted → Makes before after old wanted said reply new
    → ((calls : List Exchange) → Requests old said calls reply new → Does old said calls reply new)
    → Asks before after old said reply new
asks_by before after old new wanted said reply passes is makes does =
    let calls = Asked (asker old.present) wanted makes.heard ∷ [] in
    let made : Requests old said calls reply new = record {
      wanted = wanted;
      heard = makes.heard;
      wanted_is = is;
      belongs = makes.belongs;
      calls_are = refl;
      reply_is = makes.reply_is;
      new_is = makes.new_is;
    } in
    record {
      calls = calls;
      record_is = makes.record_is;
      answers = subst (λ (error : Option LineReply). AnswersBy error old said calls reply new) (sym passes) (does calls made);
    }

-- a command that isn't refused is this one, and is answered so
pub asks_calls : (before after : Option (List Exchange)) (old new : Client) (said known : Command) (reply : LineReply) (calls : List Exchange) → said ≡ known
    → refused old said ≡ None → after ≡ with_calls calls before → Does old known calls reply new → Asks before after old said reply new
asks_calls before after old new said known reply calls is passes record_is does =
    let does_so : Does old said calls reply new = subst (λ (s : Command). Does old s calls reply new) (sym is) does in
    record {
      calls = calls;
      record_is = record_is;
      answers = subst (λ (error : Option LineReply). AnswersBy error old said calls reply new) (sym passes) does_so;
    }

-- a command that isn't refused is this one, which makes one request
pub asks_known : (before after : Option (List Exchange)) (old new : Client) (wanted : Wanted) (said known : Command) (reply : LineReply) → said ≡ known
    → refused old said ≡ None → request old known ≡ Some wanted → Makes before after old wanted known reply new
    → ((calls : List Exchange) → Requests old known calls reply new → Does old known calls reply new)
    → Asks before after old said reply new
asks_known before after old new wanted said known reply same passes is makes does =
    let passes_so : refused old known ≡ None = subst (λ (s : Command). refused old s ≡ None) same passes in
    subst (λ (s : Command). Asks before after old s reply new) (sym same) (asks_by before after old new wanted known reply passes_so is makes does)

-- a request is made for the present session
pub made : (before after : Option (List Exchange)) (old new : Client) (who : Sid) (wanted : Wanted) (said : Command) (heard : Reply) (reply : LineReply)
    → who ≡ asker old.present → Belongs who wanted heard → after ≡ with_member (Asked who wanted heard) before → reply ≡ told_of said heard
    → new ≡ client_after old said heard → Makes before after old wanted said reply new
made before after old new who wanted said heard reply own belongs is reply_is new_is =
    record {
      heard = heard;
      belongs = subst (λ (s : Sid). Belongs s wanted heard) own belongs;
      record_is = is ∙ ap (λ (s : Sid). with_member (Asked s wanted heard) before) own;
      reply_is = reply_is;
      new_is = new_is;
    }

-- a reply to a lookup, a question or a set: the client has what it had
abbrev pub ChangesNothing : Reply → Type 0
ChangesNothing (desk.Got answer) = Unit {0}
ChangesNothing (desk.Answer answer) = Unit {0}
ChangesNothing (desk.Staged value changes) = Unit {0}
ChangesNothing (desk.NotStaged fault changes) = Unit {0}
ChangesNothing (desk.Set answer) = Unit {0}
ChangesNothing (desk.Fault fault) = Unit {0}
ChangesNothing other = ⊥

stays : (client : Client) (said : Command) (heard : Reply) → ChangesNothing heard → client ≡ client_after client said heard
stays client said (desk.Got answer) n = refl
stays client said (desk.Answer answer) n = refl
stays client said (desk.Staged value changes) n = refl
stays client said (desk.NotStaged fault changes) n = refl
stays client said (desk.Set answer) n = refl
stays client said (desk.Fault fault) n = refl
stays client said other n = absurd n

pub looks : (who : Sid) (key : QKey) (floor : ℕ) (heard : Reply) → Belongs who (wanted.Get key floor) heard → ChangesNothing heard
looks who key floor (desk.Got answer) b = tt
looks who key floor (desk.Fault fault) b = tt
looks who key floor other b = absurd b

pub questions : (who : Sid) (key : QKey) (heard : Reply) → Belongs who (wanted.Ask key) heard → ChangesNothing heard
questions who key (desk.Answer answer) b = tt
questions who key (desk.Fault fault) b = tt
questions who key other b = absurd b

pub stages : (who : Sid) (key : QKey) (txn : List Change) (heard : Reply) → Belongs who (wanted.Staged key txn) heard → ChangesNothing heard
stages who key txn (desk.Staged value changes) b = tt
stages who key txn (desk.NotStaged fault changes) b = tt
stages who key txn other b = absurd b

pub sets : (who : Sid) (key : QKey) (token stamp : ℕ) (block : List ℕ) (heard : Reply) → Belongs who (wanted.Set key token block stamp) heard
    → ChangesNothing heard
sets who key token stamp block (desk.Set answer) b = tt
sets who key token stamp block (desk.Fault fault) b = tt
sets who key token stamp block other b = absurd b

-- a request that changes nothing of the client
pub made_question : (before after : Option (List Exchange)) (client : Client) (who : Sid) (wanted : Wanted) (said : Command) (heard : Reply) (reply : LineReply)
    → who ≡ asker client.present → Belongs who wanted heard → after ≡ with_member (Asked who wanted heard) before → reply ≡ told_of said heard
    → ChangesNothing heard → Makes before after client wanted said reply client
made_question before after client who wanted said heard reply own belongs is reply_is nothing =
    made before after client client who wanted said heard reply own belongs is reply_is (stays client said heard nothing)

-- a reply to a quarantine
abbrev pub AnswersQuarantine : Reply → Type 0
AnswersQuarantine (desk.Quar answer) = Unit {0}
AnswersQuarantine (desk.Fault fault) = Unit {0}
AnswersQuarantine other = ⊥

pub invalidates : (who : Sid) (key : QKey) (heard : Reply) → Belongs who (wanted.QaReg key) heard → AnswersQuarantine heard
invalidates who key (desk.Quar answer) b = tt
invalidates who key (desk.Fault fault) b = tt
invalidates who key other b = b

pub refreshes : (who : Sid) (key : QKey) (heard : Reply) → Belongs who (wanted.QaRead key) heard → AnswersQuarantine heard
refreshes who key (desk.Quar answer) b = tt
refreshes who key (desk.Fault fault) b = tt
refreshes who key other b = b

pub shifts : (who : Sid) (key : QKey) (by : ℤ) (heard : Reply) → Belongs who (wanted.Delta key by) heard → AnswersQuarantine heard
shifts who key by (desk.Quar answer) b = tt
shifts who key by (desk.Fault fault) b = tt
shifts who key by other b = b

pub invalidate_reply : (key : QKey) (sid : Sid) (heard : Reply)
    → AnswersQuarantine heard → quarantine_as false heard ≡ told_of (commands.QaReg (Some key) sid) heard
invalidate_reply key sid (desk.Quar (quarantine.Granted grant old)) b = refl
invalidate_reply key sid (desk.Quar quarantine.Held) b = refl
invalidate_reply key sid (desk.Quar (quarantine.Refused holder mode)) b = refl
invalidate_reply key sid (desk.Fault fault) b = refl
invalidate_reply key sid other b = absurd b

pub shift_reply : (key : QKey) (sid : Sid) (by : ℤ) (heard : Reply)
    → AnswersQuarantine heard → quarantine_as false heard ≡ told_of (commands.IqDelta (Some key) sid by) heard
shift_reply key sid by (desk.Quar (quarantine.Granted grant old)) b = refl
shift_reply key sid by (desk.Quar quarantine.Held) b = refl
shift_reply key sid by (desk.Quar (quarantine.Refused holder mode)) b = refl
shift_reply key sid by (desk.Fault fault) b = refl
shift_reply key sid by other b = absurd b

pub refresh_reply : (key : QKey) (sid : Sid) (heard : Reply) → AnswersQuarantine heard
    → quarantine_as true heard ≡ told_of (commands.QaRead (Some key) sid) heard
refresh_reply key sid (desk.Quar (quarantine.Granted grant (Some old))) b = refl
refresh_reply key sid (desk.Quar (quarantine.Granted grant None)) b = refl
refresh_reply key sid (desk.Quar quarantine.Held) b = refl
refresh_reply key sid (desk.Quar (quarantine.Refused holder mode)) b = refl
refresh_reply key sid (desk.Fault fault) b = refl
refresh_reply key sid other b = absurd b

-- a client whose session stays, with other grants and as much room
pub same_parts : (client : Client) (grants : GrantsView) (items : List Permit) → grants.items ≡ items → grants.room ≡ client.grants.room
    → record { present = client.present; grants = grants } ≡ with_grants client items
same_parts client grants items is room = λ i. record { present = client.present; grants = record { items = is i; room = room i } }

-- the client after a reply to a quarantine
pub after_quarantine : (client : Client) (said : Command) (heard : Reply) (grants : GrantsView) → AnswersQuarantine heard
    → grants.items ≡ grants_heard client.grants.items heard → grants.room ≡ client.grants.room
    → record { present = client.present; grants = grants } ≡ client_after client said heard
after_quarantine client said (desk.Quar answer) grants b items room = same_parts client grants (grants_after client.grants.items answer) items room
after_quarantine client said (desk.Fault fault) grants b items room = same_parts client grants client.grants.items items room
after_quarantine client said other grants b items room = absurd b

-- a quarantine was asked of a desk, and the client is told so
pub made_quarantine : (before after : Option (List Exchange)) (old : Client) (who : Sid)
    (grants : GrantsView) (wanted : Wanted) (said : Command) (reads : Bool) (heard : Reply) (reply : LineReply)
    → who ≡ asker old.present → Belongs who wanted heard → after ≡ with_member (Asked who wanted heard) before
    → AnswersQuarantine heard → quarantine_as reads heard ≡ told_of said heard → reply ≡ quarantine_as reads heard
    → grants.items ≡ grants_heard old.grants.items heard → grants.room ≡ old.grants.room
    → Makes before after old wanted said reply (record { present = old.present; grants = grants })
made_quarantine before after old who grants wanted said reads heard reply own belongs is answers same reply_is items room =
    made before after old (record { present = old.present; grants = grants }) who wanted said heard reply own belongs is (reply_is ∙ same)
    (after_quarantine old said heard grants answers items room)

-- a value was dropped
pub made_drop : (before after : Option (List Exchange)) (old new : Client) (who : Sid) (key : QKey) (sid : Sid) (grant : Permit)
    (heard : Reply) (reply : LineReply)
    → who ≡ asker old.present → Belongs who (wanted.Dar grant) heard → after ≡ with_member (Asked who (wanted.Dar grant) heard) before
    → reply ≡ release_as LineReply.Deleted heard → new ≡ with_grants old (grants_but key old.grants.items)
    → Makes before after old (wanted.Dar grant) (commands.Dar (Some key) sid) reply new
made_drop before after old new who key sid grant (desk.Rel (rel.Released evicted)) reply own b is reply_is new_is =
    made before after old new who (wanted.Dar grant) (commands.Dar (Some key) sid) (desk.Rel (rel.Released evicted)) reply own b is reply_is new_is
made_drop before after old new who key sid grant (desk.Rel rel.Gone) reply own b is reply_is new_is =
    made before after old new who (wanted.Dar grant) (commands.Dar (Some key) sid) (desk.Rel rel.Gone) reply own b is reply_is new_is
made_drop before after old new who key sid grant other reply own b is reply_is new_is = absurd b

-- a count was added to
pub made_shift : (before after : Option (List Exchange)) (old new : Client) (who : Sid) (key : QKey) (sid : Sid) (grant : Permit) (stamp : ℕ)
    (heard : Reply) (reply : LineReply)
    → who ≡ asker old.present → Belongs who (wanted.Apply grant stamp) heard
    → after ≡ with_member (Asked who (wanted.Apply grant stamp) heard) before
    → reply ≡ release_as LineReply.Stored heard → new ≡ with_grants old (grants_but key old.grants.items)
    → Makes before after old (wanted.Apply grant stamp) (commands.IqCommit (Some key) sid) reply new
made_shift before after old new who key sid grant stamp (desk.Rel (rel.Released evicted)) reply own b is reply_is new_is =
    made before after old new who (wanted.Apply grant stamp) (commands.IqCommit (Some key) sid)
    (desk.Rel (rel.Released evicted)) reply own b is reply_is new_is
made_shift before after old new who key sid grant stamp (desk.Rel rel.Gone) reply own b is reply_is new_is =
    made before after old new who (wanted.Apply grant stamp) (commands.IqCommit (Some key) sid) (desk.Rel rel.Gone) reply own b is reply_is new_is
made_shift before after old new who key sid grant stamp other reply own b is reply_is new_is = absurd b

-- a value was put
pub made_put : (before after : Option (List Exchange)) (old new : Client) (who : Sid) (key : QKey) (flags exptime bytes : ℕ)
    (sid : Sid) (grant : Permit) (block : List ℕ) (stamp : ℕ) (heard : Reply) (reply : LineReply)
    → who ≡ asker old.present → Belongs who (wanted.Sar grant (Some block) stamp) heard
    → after ≡ with_member (Asked who (wanted.Sar grant (Some block) stamp) heard) before
    → ((back : Permit) → heard ≢ desk.SarBack back) → reply ≡ release_as LineReply.Stored heard
    → new ≡ with_grants old (grants_but key old.grants.items)
    → Makes before after old (wanted.Sar grant (Some block) stamp) (commands.Sar (Some key) flags exptime bytes sid block) reply new
made_put before after old new who key flags exptime bytes sid grant block stamp (desk.Rel (rel.Released evicted)) reply own b is not_back reply_is new_is =
    made before after old new who (wanted.Sar grant (Some block) stamp) (commands.Sar (Some key) flags exptime bytes sid block)
    (desk.Rel (rel.Released evicted)) reply own b is reply_is new_is
made_put before after old new who key flags exptime bytes sid grant block stamp (desk.Rel rel.Gone) reply own b is not_back reply_is new_is =
    made before after old new who (wanted.Sar grant (Some block) stamp) (commands.Sar (Some key) flags exptime bytes sid block)
    (desk.Rel rel.Gone) reply own b is reply_is new_is
made_put before after old new who key flags exptime bytes sid grant block stamp (desk.SarBack back) reply own b is not_back reply_is new_is =
    absurd (not_back back refl)
made_put before after old new who key flags exptime bytes sid grant block stamp other reply own b is not_back reply_is new_is = absurd b

-- a value wasn't put for want of memory, and its grant is held as before
pub back_from_put : (before after : Option (List Exchange)) (old new : Client) (who : Sid) (key : QKey) (flags exptime bytes : ℕ)
    (sid : Sid) (grant back : Permit) (block : List ℕ) (stamp : ℕ)
    → who ≡ asker old.present → back ≡ grant
    → after ≡ with_member (Asked who (wanted.Sar grant (Some block) stamp) (desk.SarBack back)) before
    → new ≡ old
    → Makes before after old (wanted.Sar grant (Some block) stamp) (commands.Sar (Some key) flags exptime bytes sid block) LineReply.Memory new
back_from_put before after old new who key flags exptime bytes sid grant back block stamp own b is new_is =
    made before after old new who (wanted.Sar grant (Some block) stamp) (commands.Sar (Some key) flags exptime bytes sid block)
    (desk.SarBack back) LineReply.Memory own b is refl new_is

-- a grant that is put back where it was taken out: the client is as before
pub put_in_place : (old taken : Client) (grants : GrantsView) (items : List Permit) (place : ℕ) (grant back : Permit)
    → taken ≡ with_grants old items → insert taken.grants.items place grant ≡ old.grants.items → back ≡ grant
    → grants.items ≡ insert taken.grants.items place back → grants.room ≡ taken.grants.room
    → record { present = taken.present; grants = grants } ≡ old
put_in_place old taken grants items place grant back is whole same put room =
    let present = ap (λ (client : Client). client.present) is in
    let items_so = put ∙ ap (λ (one : Permit). insert taken.grants.items place one) same ∙ whole in
    let room_so = room ∙ ap (λ (client : Client). client.grants.room) is in
    λ i. record { present = present i; grants = record { items = items_so i; room = room_so i } }

-- a session was begun
pub begun : (before after : Option (List Exchange)) (old : Client) (role : Role) (writes : Bool) (sid : Sid) (stage : Stage) (grants : GrantsView)
    → writes ≡ is_writer role → after ≡ with_member (Began writes sid) before → stage ≡ first_stage role → grants ≡ old.grants
    → (calls : List Exchange) × (after ≡ with_calls calls before)
    × Begins old role calls (LineReply.Session sid) (record { present = Some (record { sid = sid; stage = stage }); grants = grants })
begun before after old role writes sid stage grants writer is stands same = (
  Began (is_writer role) sid ∷ [],
  is ∙ ap (λ (w : Bool). with_member (Began w sid) before) writer,
  inl (sid, refl, refl, λ i. record { present = Some (record { sid = sid; stage = stands i }); grants = same i }),
)
