-- A session under way: how it begins, goes on and ends, with its calls and its marks.
use Rattle.std.proofs.Common.{◌≡◌, ◌≢◌, if◌then◌else◌, Bool, true, false, List, [], ◌∷◌, ◌++◌, Option, Some, None, Result, Ok, Err}
use Rattle.std.proofs.Common.{MatchResult, OnErr, refl, sym, ap, subst, ◌∙◌, inl, inr, ◌+◌, length, length-append, arith}
use Rattle.rows_model.specs.declared.keys.Sid.{Sid}
use Rattle.rows_model.specs.declared.refusals.Memory.{Memory}
use Rattle.session_client.specs.Belongs.{Belongs}
use Rattle.session_client.specs.Desks.{Exchange, Asked, with_member}
use Rattle.session_client.specs.Follows.{Follows, IsReady, IsRefreshing, plan_of, sid_of}
use Rattle.session_client.specs.Wants.{wants, outcome_of, done_by, is_nothing}
use Rattle.session_client.specs.declared.plans.Plan.{Plan}
use Rattle.session_client.specs.declared.replies.Reply.{Reply}
use Rattle.session_client.specs.declared.replies.Outcome.{Outcome}
use Rattle.session_client.specs.declared.replies.Wanted.{Wanted}
use Rattle.session_client.specs.declared.replies.Wanted.TheVariants as wanted
use Rattle.session_client.specs.declared.sessions.Session.{Session}
use Rattle.gate_workers.specs.declared.marks.Mark.{Mark}
use Rattle.gate_workers.specs.Marks.{mark_of, marks_of}
use Rattle.gate_workers.specs.Rows.{IsShort, with_calls}
use Rattle.std.proofs.lemmas.Bool.{false≢true}
use Rattle.gate_workers.specs.Notes.{IsGoing, IsWanting, IsNoted, AreNoted, IsUnderWay, HasEnded}

-- one call more in a record
pub with_more : (call : Exchange) (calls : List Exchange) (before now after : Option (List Exchange))
    → now ≡ with_calls calls before → after ≡ with_member call now → after ≡ with_calls (call ∷ calls) before
with_more call calls (Some recorded) now after e f = f ∙ ap (with_member call) e
with_more call calls None now after e f = f ∙ ap (with_member call) e

one_mark_more : (marks : List Mark) (mark : Mark) → length (marks ++ mark ∷ []) ≡ length marks + 1
one_mark_more marks mark = length-append marks (mark ∷ [])

-- one mark more among those that are kept
pub noted_more : (request : Wanted) (who : Sid) (reply : Reply) (calls : List Exchange) (before after : Option (List Mark))
    → IsNoted (mark_of request reply) before after → AreNoted before calls → AreNoted after (Asked who request reply ∷ calls)
noted_more request who reply calls (Some before) (Some after) n h = n ∙ ap (λ (marks : List Mark). marks ++ mark_of request reply ∷ []) h
noted_more request who reply calls (Some before) None n h =
    let more = one_mark_more (marks_of calls) (mark_of request reply) in
    let kept = ap (λ (marks : List Mark). length marks) h in
    omega (arith, n, more, kept)
noted_more request who reply calls None None n h =
    let more = one_mark_more (marks_of calls) (mark_of request reply) in
    omega (arith, h, more)
noted_more request who reply calls None (Some after) n h = absurd n

-- what a step does: the session wants something, the desk answers, the mark is noted and the session is told
pub record IsStep (session waits next : Session) (now after : Option (List Exchange))
    (notes notes' : Option (List Mark)) (asked : Wanted) (reply : Reply) (result : Result (Unit {0}) Memory) : Type 0 where
  pub plan_then : plan_of waits ≡ plan_of session
  pub sid_then : sid_of waits ≡ sid_of session
  pub wanted : (short : Bool) (heard : List Reply) → Follows session short heard → asked ≡ wants (plan_of session) short heard
  pub waits_for : (short : Bool) (heard : List Reply) → Follows session short heard → Follows waits short heard
  pub belongs : Belongs (sid_of session) asked reply
  pub recorded : after ≡ with_member (Asked (sid_of session) asked reply) now
  pub noted : IsNoted (mark_of asked reply) notes notes'
  pub plan_now : plan_of next ≡ plan_of waits
  pub sid_now : sid_of next ≡ sid_of waits
  pub has_heard : (short : Bool) (heard : List Reply) → Follows waits short heard
      → MatchResult result (λ _. Follows next short (reply ∷ heard)) (λ _. Follows next true (reply ∷ heard))
  pub memory : OnErr result (IsRefreshing reply)

-- the flag and what the session has heard then
record GoesOnAfter (next : Session) (before : Bool) (heard : List Reply) (reply : Reply) : Type 0 where
  short : Bool
  is_short : IsShort before reply short
  follows : Follows next short (reply ∷ heard)

told_so : (next : Session) (before : Bool) (heard : List Reply) (reply : Reply) (result : Result (Unit {0}) Memory)
    → MatchResult result (λ _. Follows next before (reply ∷ heard)) (λ _. Follows next true (reply ∷ heard))
    → OnErr result (IsRefreshing reply) → GoesOnAfter next before heard reply
told_so next before heard reply (Ok x) f m = record { short = before; is_short = inl refl; follows = f }
told_so next before heard reply (Err x) f m = record { short = true; is_short = inr (m, refl); follows = f }

-- a request that is asked isn't nothing
is_asked : (asked : Wanted) → is_nothing asked ≡ false → asked ≢ wanted.Nothing
is_asked asked some none = false≢true (sym some ∙ ap is_nothing none)

-- a step keeps a session under way
pub goes_on : (who : Sid) (plan : Plan) (session waits next : Session) (before now after : Option (List Exchange)) (notes notes' : Option (List Mark))
    (asked : Wanted) (reply : Reply) (result : Result (Unit {0}) Memory) → IsStep session waits next now after notes notes' asked reply result
    → IsWanting session → IsUnderWay who plan session before now notes → IsUnderWay who plan next before after notes'
goes_on who plan session waits next before now after notes notes' asked reply result s wanting u =
    let of_plan : plan_of session ≡ plan = u.of_plan in
    let of_number : sid_of session ≡ who = u.of_number in
    let w : asked ≡ wants plan u.short u.heard = subst (λ (p : Plan). asked ≡ wants p u.short u.heard) of_plan (s.wanted u.short u.heard u.follows) in
    let t : GoesOnAfter next u.short u.heard reply =
    told_so next u.short u.heard reply result (s.has_heard u.short u.heard (s.waits_for u.short u.heard u.follows)) s.memory in
    let some : is_nothing (wants plan u.short u.heard) ≡ false =
    subst (λ (p : Plan). is_nothing (wants p u.short u.heard) ≡ false) of_plan (wanting u.short u.heard u.follows) in
    let b : Belongs who (wants plan u.short u.heard) reply =
    subst (λ (r : Wanted). Belongs who r reply) w (subst (λ (s : Sid). Belongs s asked reply) of_number s.belongs) in
    let call : Exchange = Asked who (wants plan u.short u.heard) reply in
    let same : Asked (sid_of session) asked reply ≡ call = cc in
    record {
      short = t.short;
      heard = reply ∷ u.heard;
      calls = call ∷ u.calls;
      of_plan = s.plan_now ∙ (s.plan_then ∙ of_plan);
      of_number = s.sid_now ∙ (s.sid_then ∙ of_number);
      follows = t.follows;
      went = (u.short, u.calls, u.went, is_asked (wants plan u.short u.heard) some, b, t.is_short, refl);
      recorded = with_more call u.calls before now after u.recorded (subst (λ (c : Exchange). after ≡ with_member c now) same s.recorded);
      noted =
          noted_more (wants plan u.short u.heard) who reply u.calls notes notes'
          (subst (λ (r : Wanted). IsNoted (mark_of r reply) notes notes') w s.noted) u.noted;
    }

-- a session that is told something is still going
pub still_going : (next : Session) (before : Bool) (heard : List Reply) (reply : Reply) (result : Result (Unit {0}) Memory)
    → MatchResult result (λ _. Follows next before (reply ∷ heard)) (λ _. Follows next true (reply ∷ heard)) → IsGoing next
still_going next before heard reply (Ok x) f = (before, reply ∷ heard, f)
still_going next before heard reply (Err x) f = (true, reply ∷ heard, f)

-- what a session that is driven keeps from its first step on
pub record HasDriven (first session : Session) (now after : Option (List Exchange)) (notes notes' : Option (List Mark)) : Type 0 where
  pub ready : IsReady session
  pub going : IsGoing session
  pub so_far : (who : Sid) (plan : Plan) (before : Option (List Exchange))
      → IsUnderWay who plan first before now notes → IsUnderWay who plan session before after notes'

-- a request is nothing where it is said to be
nothing_from : (asked : Wanted) → is_nothing asked ≡ true → asked ≡ wanted.Nothing
nothing_from wanted.Nothing e = refl
nothing_from asked e = cc

-- a session that has told its outcome wants nothing more
over_from : (asked : Wanted) (plan : Plan) (short : Bool) (heard : List Reply) (outcome : Outcome)
    → (if is_nothing asked then outcome_of plan short heard else None) ≡ Some outcome → is_nothing asked ≡ true
over_from wanted.Nothing plan short heard outcome e = refl
over_from asked plan short heard outcome e = cc

-- a session that tells its outcome has run
pub has_ended : (who : Sid) (plan : Plan) (session : Session) (before after : Option (List Exchange)) (notes : Option (List Mark)) (outcome : Outcome)
    (its_outcome : Option Outcome) → IsReady session → ((short : Bool) (heard : List Reply) → IsReady session → Follows session short heard
    → its_outcome ≡ done_by (plan_of session) short heard) → its_outcome ≡ Some outcome
    → IsUnderWay who plan session before after notes → HasEnded who plan outcome before after notes
has_ended who plan session before after notes outcome its_outcome ready tells is u =
    let said : done_by plan u.short u.heard ≡ Some outcome =
    subst (λ (p : Plan). done_by p u.short u.heard ≡ Some outcome) u.of_plan (sym (tells u.short u.heard ready u.follows) ∙ is) in
    record {
      calls = u.calls;
      has_run = record {
        short = u.short;
        heard = u.heard;
        went = u.went;
        over = nothing_from (wants plan u.short u.heard) (over_from (wants plan u.short u.heard) plan u.short u.heard outcome said);
        ended = said;
      };
      recorded = u.recorded;
      noted = u.noted;
    }
