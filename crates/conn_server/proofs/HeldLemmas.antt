-- A client holds a grant only in a session that writes.
use Rattle.std.proofs.Common.{ℕ, ◌≡◌, ◌==◌, ◌||◌, inl, inr, Bool, true, false, not, List, [], ◌∷◌, length, arith, Option, Some, None, refl, sym, ap, subst, ◌∙◌}
use Rattle.std.proofs.lemmas.Bool.{eqb-true}
use Rattle.rows_model.specs.declared.keys.Sid.{Sid}
use Rattle.key_shard.specs.Permit.{Permit}
use Rattle.session_client.specs.Belongs.{Belongs}
use Rattle.session_client.specs.Desks.{Exchange}
use Rattle.session_client.specs.declared.replies.Reply.{Reply}
use Rattle.session_client.specs.declared.replies.Reply.TheVariants as desk
use Rattle.session_client.specs.declared.replies.Wanted.{Wanted}
use Rattle.session_client.specs.declared.replies.Wanted.TheVariants as wanted
use Rattle.key_shard.specs.declared.replies.QAnswer.{QAnswer}
use Rattle.mc_text.specs.declared.commands.Command.{Command}
use Rattle.mc_text.specs.declared.commands.Command.TheVariants as commands
use Rattle.mc_text.specs.declared.commands.Role.{Role}
use Rattle.mc_text.specs.declared.replies.LineReply.{LineReply}
use Rattle.conn_server.specs.declared.clients.Client.{Client}
use Rattle.conn_server.specs.declared.clients.Present.{Present}
use Rattle.conn_server.specs.declared.outgoing.Response.{Response}
use Rattle.conn_server.specs.declared.outgoing.Response.TheVariants as outgoing
use Rattle.mixed_lines.specs.Items.{Item, command, plain, bad_line}
use Rattle.conn_server.specs.Answers.{Answers, AnswersBy, Does, Requests, ItemAnswers, AllAnswer}
use Rattle.conn_server.specs.Clients.{asker, is_open}
use Rattle.conn_server.specs.Closing.{MayAbort, OnlyWritersHold}
use Rattle.conn_server.specs.Refusals.{refused}
use Rattle.conn_server.specs.Requests.{request, client_after, commits, grants_left}
use Rattle.conn_server.proofs.RefusalLemmas.{passes, abortable}

-- a client that isn't in the midst of a write holds nothing
no_grants : (busy : Bool) (grants : List Permit) (is_none : Bool) → (length grants == 0) ≡ is_none → (busy || not is_none) ≡ false → grants ≡ []
no_grants true grants is_none same e = absurd cc
no_grants false grants false same e = absurd cc
no_grants false [] true same e = refl
no_grants false (grant ∷ grants) true same e = let none = eqb-true (length (grant ∷ grants)) 0 same in absurd (omega (arith, none))

begins_free : (client : Client) (role : Role) → refused client (commands.Begin role) ≡ None → client.grants.items ≡ []
begins_free client role e = no_grants (is_open client.present) client.grants.items _ refl (passes client (commands.Begin role) e).free

-- a request that only a session which writes may make
abbrev AsksWrite : Option Wanted → Type 0
AsksWrite (Some (wanted.Get key floor)) = ⊥
AsksWrite (Some (wanted.Ask key)) = ⊥
AsksWrite (Some (wanted.Set key token value stamp)) = ⊥
AsksWrite (Some (wanted.Staged key txn)) = ⊥
AsksWrite (Some other) = Unit {0}
AsksWrite None = ⊥

may_write : (client : Client) (said : Command) → refused client said ≡ None → AsksWrite (request client said) → MayAbort client.present
may_write client (commands.IqGet (Some key) sid floor) e asks = absurd asks
may_write client (commands.Ask (Some key) sid) e asks = absurd asks
may_write client (commands.Stage (Some key) sid txn) e asks = absurd asks
may_write client (commands.IqSet (Some key) flags exptime bytes token stamp block) e asks = absurd asks
may_write client (commands.QaReg key sid) e asks = abortable client (commands.QaReg key sid) sid refl refl e
may_write client (commands.QaRead key sid) e asks = abortable client (commands.QaRead key sid) sid refl refl e
may_write client (commands.IqDelta key sid by) e asks = abortable client (commands.IqDelta key sid by) sid refl refl e
may_write client (commands.Sql sid txn) e asks = abortable client (commands.Sql sid txn) sid refl refl e
may_write client (commands.Dar key sid) e asks = abortable client (commands.Dar key sid) sid refl refl e
may_write client (commands.Sar key flags exptime bytes sid block) e asks =
    abortable client (commands.Sar key flags exptime bytes sid block) sid refl refl e
may_write client (commands.IqCommit key sid) e asks = abortable client (commands.IqCommit key sid) sid refl refl e
may_write client other e asks = absurd asks

-- what answers a quarantine or a commit answers such a request
quarantine_asks : (who : Sid) (asked : Wanted) (answer : QAnswer) → Belongs who asked (desk.Quar answer) → AsksWrite (Some asked)
quarantine_asks who (wanted.QaReg key) answer b = tt
quarantine_asks who (wanted.QaRead key) answer b = tt
quarantine_asks who (wanted.Delta key by) answer b = tt
quarantine_asks who other answer b = absurd b

-- a session that has committed may be aborted where it might before
commits_too : (number : ℕ) (present : Option Present) → MayAbort present → MayAbort (commits number present)
commits_too number (Some present) m = refl
commits_too number None m = m

none_more : (said : Command) → grants_left said [] ≡ []
none_more (commands.Dar (Some key) sid) = refl
none_more (commands.Sar (Some key) flags exptime bytes sid block) = refl
none_more (commands.IqCommit (Some key) sid) = refl
none_more other = refl

-- what a request leaves
after_request : (old : Client) (said : Command) (asked : Wanted) (heard : Reply) → refused old said ≡ None → request old said ≡ Some asked
    → Belongs (asker old.present) asked heard → OnlyWritersHold old → OnlyWritersHold (client_after old said heard)
after_request old said asked (desk.Quar answer) e is b h =
    λ none. absurd (none (may_write old said e (subst AsksWrite (sym is) (quarantine_asks (asker old.present) asked answer b))))
after_request old said asked (desk.Committed number txn grants) e is b h = by asked is b
  where
    by : (asked : Wanted) → request old said ≡ Some asked → Belongs (asker old.present) asked (desk.Committed number txn grants)
        → OnlyWritersHold (client_after old said (desk.Committed number txn grants))
    by (wanted.Commit changes held) is b = λ none. absurd (none (commits_too number old.present (may_write old said e (subst AsksWrite (sym is) tt))))
    by other is b = absurd b
after_request old said asked (desk.NotCommitted fault txn grants) e is b h = by asked is b
  where
    by : (asked : Wanted) → request old said ≡ Some asked → Belongs (asker old.present) asked (desk.NotCommitted fault txn grants)
        → OnlyWritersHold (client_after old said (desk.NotCommitted fault txn grants))
    by (wanted.Commit changes held) is b = λ none. absurd (none (may_write old said e (subst AsksWrite (sym is) tt)))
    by other is b = absurd b
after_request old said asked (desk.Rel answer) e is b h =
    λ none. ap (λ (grants : List Permit). grants_left said grants) (h none) ∙ none_more said
after_request old said asked other e is b h = h

after_requests : (old new : Client) (said : Command) (calls : List Exchange) (reply : LineReply) → refused old said ≡ None → Requests old said calls reply new
    → OnlyWritersHold old → OnlyWritersHold new
after_requests old new said calls reply e r h =
    subst OnlyWritersHold (sym r.new_is) (after_request old said r.wanted r.heard e r.wanted_is r.belongs h)

-- what a command leaves that isn't refused
after_does : (old new : Client) (said : Command) (calls : List Exchange) (reply : LineReply) → refused old said ≡ None → Does old said calls reply new
    → OnlyWritersHold old → OnlyWritersHold new
after_does old new (commands.Begin role) calls reply e (inl (sid, asked, says, is)) h =
    subst OnlyWritersHold (sym is) (λ none. begins_free old role e)
after_does old new (commands.Begin role) calls reply e (inr (asked, says, is)) h = subst OnlyWritersHold (sym is) h
after_does old new (commands.IqAbort sid) calls reply e d h = subst OnlyWritersHold (sym d.new_is) (λ none. refl)
after_does old new other calls reply e d h = after_requests old new other calls reply e d h

after_answer : (old new : Client) (said : Command) (calls : List Exchange) (reply : LineReply) → Answers old said calls reply new
    → OnlyWritersHold old → OnlyWritersHold new
after_answer old new said calls reply a h = by (refused old said) refl a
  where
    by : (error : Option LineReply) → refused old said ≡ error → AnswersBy error old said calls reply new → OnlyWritersHold new
    by (Some refusal) e (asked, says, is) = subst OnlyWritersHold (sym is) h
    by None e does = after_does old new said calls reply e does h

after_item : (old new : Client) (item : Item) (calls : List Exchange) (heard : Response) → ItemAnswers old item calls heard new
    → OnlyWritersHold old → OnlyWritersHold new
after_item old new (command said) calls (outgoing.Lease reply) a h = after_answer old new said calls reply a h
after_item old new (command said) calls (outgoing.Plain reply noreply) a h = absurd a
after_item old new (plain said noreply) calls heard (asked, says, is) h = subst OnlyWritersHold (sym is) h
after_item old new bad_line calls heard (asked, says, is) h = subst OnlyWritersHold (sym is) h
after_item old new other calls heard a h = absurd a

-- whatever was answered, a client without a session that writes holds no grant
pub only_writers_hold : (old new : Client) (items : List Item) (calls : List Exchange) (heard : List Response) → AllAnswer old items calls heard new
    → OnlyWritersHold old → OnlyWritersHold new
only_writers_hold old new [] calls heard (asked, says, is) h = subst OnlyWritersHold (sym is) h
only_writers_hold old new (item ∷ items) calls heard (first, others, one, more, next, step, rest, calls_are, heard_are) h =
    only_writers_hold next new items others more rest (after_item old next item first one step h)
