-- A turn of the sweeper keeps the facts.
use Rattle.std.proofs.Common.{ℕ, ◌≡◌, ◌<◌, ◌==◌, Bool, true, false, nat_le, List, [], ◌∷◌, flat_map, Option, Some, None, refl, sym, ap, subst, ◌∙◌, arith}
use Rattle.std.specs.List.{AllByRecursion}
use Rattle.std.proofs.lemmas.Bool.{eq-eqb, eqb-true}
use Rattle.rows_model.specs.declared.keys.QKey.{QKey}
use Rattle.rows_model.specs.declared.keys.Sid.{Sid}
use Rattle.rows_model.specs.Placement.{shard_of}
use Rattle.lease_table.specs.declared.records.Due.{Due}
use Rattle.lease_table.specs.declared.records.Quar.{Quar}
use Rattle.lease_table.specs.Expiry.{comes_before, due_as}
use Rattle.lease_table.specs.Leases.{has_token}
use Rattle.key_shard.specs.declared.steps.Step.{Step}
use Rattle.key_shard.specs.declared.steps.Step.TheVariants as step
use Rattle.key_shard.specs.Dues.{due_now, due_by, sooner, first_of, first_due}
use Rattle.key_shard.specs.Past.{Terms, standing, quar_of, next_token}
use Rattle.key_shard.specs.Answers.{IsAtHome, IsLegalPast}
use Rattle.key_shard.specs.Replies.{sweep_answer}
use Rattle.key_shard.proofs.LegalLemmas.{own_token}
use Rattle.key_shard.proofs.SweepLemmas.{sweep_by}
use Rattle.sql_keeper.specs.declared.stores.Closed.{Closed}
use Rattle.expiry_sweeper.specs.Sweeps.{sweep_wants, shard_at, scan_reply}
use Rattle.expiry_sweeper.specs.declared.replies.SweepReply.{SweepReply}
use Rattle.expiry_sweeper.specs.declared.replies.SweepReply.TheVariants as sweeps
use Rattle.expiry_sweeper.specs.declared.replies.SweepWanted.{SweepWanted}
use Rattle.expiry_sweeper.specs.declared.replies.SweepWanted.TheVariants as sweep
use Rattle.session_client.specs.declared.plans.Shape.{Shape}
use Rattle.core_history.specs.Events.{Event, Swept, steps_of, sweeps_of, now_of, has_committed, was_ended}
use Rattle.core_history.specs.Machine.{World, terms_of, plan_at, is_open, ended_as, sweep_of, swept_next}
use Rattle.core_history.proofs.ListLemmas.{choose, or_inl, or_inr, not_both, every-append, every-found}
use Rattle.core_history.proofs.GoodEvents.{IsGoodEvent}
use Rattle.core_history.proofs.KeyLemmas.{DrawsNext, answers-draw}
use Rattle.core_history.proofs.EventLemmas.{closed, closed-more, closed-over, logged-committed}
use Rattle.core_history.proofs.PlannedLemmas.{planned-quar}
use Rattle.core_history.proofs.SweepingLemmas.{IsDueOf, IsSweeping}
use Rattle.core_history.proofs.InnerLemmas.{Inner, with_event, scanned-inner, ended-inner, gone-inner, dropped-inner, stands_well}
use Rattle.core_history.proofs.WritingLemmas.{open-uncommitted, shut-closed}

-- what a sweeper wants: a scan, the end of the session of what was found, or the drop of what was found once its session was ended
pub sweep_cases : (P : SweepWanted → Type 0) (shards : ℕ) (replies : List SweepReply) → ((place : ℕ) → P (sweep.Scan place))
    → ((at : ℕ) (due : Due) (before : List SweepReply) → replies ≡ sweeps.Found at due ∷ before → P (sweep.End due.sid))
    → ((at : ℕ) (due : Due) (closing : Closed) (before : List SweepReply) → replies ≡ sweeps.Ended closing ∷ sweeps.Found at due ∷ before
    → P (sweep.Drop due.key due.token))
    → P (sweep_wants shards replies)
sweep_cases P shards [] scan end drop = scan 0
sweep_cases P shards (sweeps.Found at due ∷ replies) scan end drop = end at due replies refl
sweep_cases P shards (sweeps.Dropped rel ∷ replies) scan end drop = scan (shard_at shards replies)
sweep_cases P shards (sweeps.NoneFound at ∷ replies) scan end drop = scan (shard_at shards (sweeps.NoneFound at ∷ replies))
sweep_cases P shards (sweeps.Ended closing ∷ []) scan end drop = scan (shard_at shards [])
sweep_cases P shards (sweeps.Ended closing ∷ sweeps.Found at due ∷ replies) scan end drop = drop at due closing replies refl
sweep_cases P shards (sweeps.Ended closing ∷ sweeps.Ended before ∷ replies) scan end drop = scan (shard_at shards (sweeps.Ended before ∷ replies))
sweep_cases P shards (sweeps.Ended closing ∷ sweeps.Dropped rel ∷ replies) scan end drop = scan (shard_at shards (sweeps.Dropped rel ∷ replies))
sweep_cases P shards (sweeps.Ended closing ∷ sweeps.NoneFound at ∷ replies) scan end drop = scan (shard_at shards (sweeps.NoneFound at ∷ replies))

-- what is told as due is a quarantine that stands on a key of this shard, with its session
pub record StandsFor (terms : Terms) (past : List Step) (due : Due) : Type 0 where
  pub quar : Quar
  pub stands : quar_of due.key due.token past ≡ Some quar
  pub own : quar.sid ≡ due.sid
  pub home : IsAtHome terms due.key

-- a quarantine that is found has its token
found-token : (key : QKey) (token : ℕ) (past : List Step) (quar : Quar) → quar_of key token past ≡ Some quar → quar.token ≡ token
found-token key token past quar e =
    eqb-true quar.token token (every-found (λ q. Unit {0}) (has_token token) (standing key past) quar (each (standing key past)) e).1
  where
    each : (quars : List Quar) → AllByRecursion (λ q. Unit {0}) quars
    each [] = tt
    each (quar ∷ quars) = (tt, each quars)

due-now : (terms : Terms) (past : List Step) (now : ℕ) (key : QKey) (token : ℕ)
    → IsAtHome terms key → AllByRecursion (StandsFor terms past) (due_now now key (quar_of key token past))
due-now terms past now key token home = by (quar_of key token past) refl
  where
    by : (o : Option Quar) → quar_of key token past ≡ o → AllByRecursion (StandsFor terms past) (due_now now key o)
    by None e = tt
    by (Some quar) e =
        choose (AllByRecursion (StandsFor terms past)) (nat_le quar.deadline now) (due_as key quar ∷ []) []
        (λ _. (
          record {
            quar = quar;
            stands = subst (λ t. quar_of key t past ≡ Some quar) (sym (found-token key token past quar e)) e;
            own = refl;
            home = home;
          },
          tt,
        )) (λ _. tt)

due-by : (terms : Terms) (past : List Step) (now next : ℕ) (s : Step) → DrawsNext terms next s → AllByRecursion (StandsFor terms past) (due_by now past s)
due-by terms past now next (step.Granted on sid mode shift at token deadline) drawn = due-now terms past now on token drawn.1
due-by terms past now next other drawn = tt

dues-stand : (terms : Terms) (past : List Step) (now : ℕ) (steps : List Step)
    → IsLegalPast terms steps → AllByRecursion (StandsFor terms past) (flat_map (due_by now past) steps)
dues-stand terms past now [] legal = tt
dues-stand terms past now (s ∷ steps) legal =
    every-append (StandsFor terms past) (due_by now past s) (flat_map (due_by now past) steps)
    (due-by terms past now (next_token terms steps) s (answers-draw terms steps s legal.0)) (dues-stand terms past now steps legal.1)

some_due : {a b : Due} → Some a ≡ Some b → a ≡ b
some_due e = cc

-- the first of some is one of them
first-holds : (P : Due → Type 0) (dues : List Due) (due : Due) → AllByRecursion P dues → first_of dues ≡ Some due → P due
first-holds P [] due h e = cc
first-holds P (d ∷ dues) due h e = by (first_of dues) (first-holds P dues) e
  where
    by : (o : Option Due) → ((x : Due) → AllByRecursion P dues → o ≡ Some x → P x) → sooner d o ≡ Some due → P due
    by None rest e = subst P (some_due e) h.0
    by (Some other) rest e =
        choose (λ o. o ≡ Some due → P due) (comes_before other d) (Some other) (Some d)
        (λ _ f. subst P (some_due f) (rest other h.1 refl)) (λ _ f. subst P (some_due f) h.0) e

-- what a scan finds stands
pub first-stands : (terms : Terms) (past : List Step) (now : ℕ) (due : Due) → IsLegalPast terms past → first_due now past ≡ Some due → StandsFor terms past due
first-stands terms past now due legal e =
    first-holds (StandsFor terms past) (flat_map (due_by now past) past) due (dues-stand terms past now past legal) e

some_quar : {a b : Quar} → Some a ≡ Some b → a ≡ b
some_quar e = cc

-- so it is due, of a session that writes
due-of : (shape : Shape) (world : World) (place : ℕ) (due : Due)
    → Inner shape world → first_due (now_of world.past) (steps_of place world.past) ≡ Some due → IsDueOf shape world.plans world.past due
due-of shape world place due inner e =
    let found = first-stands (terms_of shape place) (steps_of place world.past) (now_of world.past) due (inner.legal place) e in
    let home = shard_of due.key shape.shards in
    let steps = steps_of home world.past in
    let next = next_token (terms_of shape home) steps in
    let S : ℕ → Type 0 = λ p. quar_of due.key due.token (steps_of p world.past) ≡ Some found.quar in
    let stands : quar_of due.key due.token steps ≡ Some found.quar = subst S (sym found.home) found.stands in
    let planned = planned-quar world.plans due.key due.token steps found.quar (inner.planned home) stands in
    let low = (every-found (λ quar. quar.token < next) (has_token due.token)
    (standing due.key steps) found.quar (stands_well shape world inner due.key).below stands).0 in
    let its = found-token due.key due.token steps found.quar stands in
    record {
      drawn = omega (arith, low, its);
      mine = λ quar other. ap (λ (q : Quar). q.sid) (some_quar (sym other ∙ stands)) ∙ found.own;
      plan = planned.plan;
      at = ap (λ (s : Sid). plan_at s.number world.plans) (sym found.own) ∙ planned.at;
      may = planned.may;
    }

-- the facts after what the sweeper wants, and its event is good
abbrev pub AfterSweep : Shape → World → SweepWanted → Type 0
AfterSweep shape world request =
    Inner shape (with_event world (sweep_of shape world request)) × IsGoodEvent shape world.past (sweep_of shape world request)

-- a scan finds what is due, or none
scan-turn : (shape : Shape) (world : World) (place : ℕ) → Inner shape world → AfterSweep shape world (sweep.Scan place)
scan-turn shape world place inner = by (first_due (now_of world.past) (steps_of place world.past)) refl
  where
    by : (o : Option Due) → first_due (now_of world.past) (steps_of place world.past) ≡ o
        → Inner shape (with_event world (Swept place (sweep.Scan place) None (scan_reply place o)))
        × IsGoodEvent shape world.past (Swept place (sweep.Scan place) None (scan_reply place o))
    by None e = (scanned-inner shape world place (sweeps.NoneFound place) inner tt, (tt, tt))
    by (Some due) e = (scanned-inner shape world place (sweeps.Found place due) inner (due-of shape world place due inner e), (tt, tt))

-- the session of what was found is ended: it is closed then
end-turn : (shape : Shape) (world : World) (at : ℕ) (due : Due) (before : List SweepReply)
    → Inner shape world → sweeps_of world.past ≡ sweeps.Found at due ∷ before → AfterSweep shape world (sweep.End due.sid)
end-turn shape world at due before inner same = by (is_open world who) refl
  where
    who : Sid
    who = due.sid

    is : IsDueOf shape world.plans world.past due
    is = subst (IsSweeping shape world.plans world.past) same inner.sweeping

    event : Bool → Event
    event b = Swept 0 (sweep.End who) None (ended_as who b)

    by : (b : Bool) → is_open world who ≡ b → Inner shape (with_event world (event b)) × IsGoodEvent shape world.past (event b)
    by true still = (
      ended-inner shape world who true at due before inner same
          (or_inr (has_committed who.number (event true ∷ world.past)) (was_ended who.number (event true ∷ world.past))
          (or_inl (who.number == who.number) (was_ended who.number world.past) (eq-eqb who.number who.number refl))),
      (tt, λ logged. not_both (logged-committed who.number world.past logged) (open-uncommitted world who still)),
    )
    by false shut = (
      ended-inner shape world who false at due before inner same
          (closed-more who.number (event false) world.past (shut-closed world who is.plan is.at is.may shut)),
      (tt, tt),
    )

-- the quarantine that was found is dropped, or stands no longer
drop-turn : (shape : Shape) (world : World) (at : ℕ) (due : Due) (closing : Closed) (before : List SweepReply)
    → Inner shape world → sweeps_of world.past ≡ sweeps.Ended closing ∷ sweeps.Found at due ∷ before
    → AfterSweep shape world (sweep.Drop due.key due.token)
drop-turn shape world at due closing before inner same = by (quar_of due.key due.token steps) refl
  where
    home : ℕ
    home = shard_of due.key shape.shards

    steps : List Step
    steps = steps_of home world.past

    is : IsDueOf shape world.plans world.past due × (closed due.sid.number world.past ≡ true)
    is = subst (IsSweeping shape world.plans world.past) same inner.sweeping

    event : Option Step → Event
    event made = Swept home (sweep.Drop due.key due.token) made (sweeps.Dropped (sweep_answer made))

    by : (o : Option Quar) → quar_of due.key due.token steps ≡ o
        → Inner shape (with_event world (event (sweep_by due.key due.token o))) × IsGoodEvent shape world.past (event (sweep_by due.key due.token o))
    by None e = (gone-inner shape world due.key due.token _ inner, (tt, tt))
    by (Some quar) e =
        let shut : closed quar.sid.number world.past ≡ true = subst (λ (s : Sid). closed s.number world.past ≡ true) (sym (is.0.mine quar e)) is.1 in (
          dropped-inner shape world due.key due.token quar _ inner e shut,
          (
            record {
              home = refl;
              over = closed-over quar.sid.number world.past shut;
              own = λ by stands. sym (own_token (terms_of shape home) steps due.key by due.token quar (stands_well shape world inner due.key) stands e);
            },
            tt,
          ),
        )

-- whatever the sweeper wants
pub sweep-turn : (shape : Shape) (world : World) → Inner shape world → AfterSweep shape world (swept_next shape world)
sweep-turn shape world inner =
    sweep_cases (AfterSweep shape world) shape.shards (sweeps_of world.past) (λ place. scan-turn shape world place inner)
    (λ at due before heard_so. end-turn shape world at due before inner heard_so)
    (λ at due closing before heard_so. drop-turn shape world at due closing before inner heard_so)
