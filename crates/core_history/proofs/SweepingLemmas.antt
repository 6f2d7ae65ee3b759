-- What the sweeper was told last, and what of an event keeps it.
use Rattle.std.proofs.Common.{ℕ, ◌≡◌, ◌<◌, ◌==◌, true, List, [], ◌∷◌, ◌++◌, Some, None, refl, sym, ap, ◌∙◌, arith}
use Rattle.rows_model.specs.declared.keys.QKey.{QKey}
use Rattle.rows_model.specs.Placement.{shard_of}
use Rattle.lease_table.specs.declared.records.Due.{Due}
use Rattle.lease_table.specs.declared.records.Quar.{Quar}
use Rattle.key_shard.specs.Past.{quar_of, next_token}
use Rattle.expiry_sweeper.specs.declared.replies.SweepReply.{SweepReply}
use Rattle.expiry_sweeper.specs.declared.replies.SweepReply.TheVariants as sweeps
use Rattle.session_client.specs.declared.plans.Plan.{Plan}
use Rattle.session_client.specs.declared.plans.Shape.{Shape}
use Rattle.session_client.specs.Plans.{writes}
use Rattle.core_history.specs.Events.{Event, Stepped, Called, Ticked, Swept, steps_in, steps_of}
use Rattle.core_history.specs.Machine.{terms_of, plan_at}
use Rattle.core_history.proofs.KeyLemmas.{StandsAs, quar-was, next-append}
use Rattle.core_history.proofs.EventLemmas.{closed, closed-more, unmade-steps}
use Rattle.core_history.proofs.SessionLemmas.{DrawsLate, maybe-step}
use Rattle.core_history.proofs.PlannedLemmas.{plan-stays}

-- what a scan found: its token was drawn, a quarantine of that token that stands on its key is its session's, and that session writes
pub record IsDueOf (shape : Shape) (plans : List Plan) (past : List Event) (due : Due) : Type 0 where
  pub drawn : due.token < next_token (terms_of shape (shard_of due.key shape.shards)) (steps_of (shard_of due.key shape.shards) past)
  pub mine : (quar : Quar) → quar_of due.key due.token (steps_of (shard_of due.key shape.shards) past) ≡ Some quar → quar.sid ≡ due.sid
  pub plan : Plan
  pub at : plan_at due.sid.number plans ≡ Some plan
  pub may : writes plan ≡ true

-- where the sweeper was told last of what a scan found, that is due, and is closed where the sweeper has ended it
abbrev pub IsSweeping : Shape → List Plan → List Event → List SweepReply → Type 0
IsSweeping shape plans past (sweeps.Found at due ∷ replies) = IsDueOf shape plans past due
IsSweeping shape plans past (sweeps.Ended closing ∷ sweeps.Found at due ∷ replies) = IsDueOf shape plans past due × (closed due.sid.number past ≡ true)
IsSweeping shape plans past replies = Unit {0}

-- a quarantine that stands after an event, of a token that was drawn before it, stood before it, and was the same session's
pub quar-before : (shape : Shape) (event : Event) (past : List Event) (key : QKey) (token : ℕ) (quar : Quar) → DrawsLate shape past event
    → token < next_token (terms_of shape (shard_of key shape.shards)) (steps_of (shard_of key shape.shards) past)
    → quar_of key token (steps_of (shard_of key shape.shards) (event ∷ past)) ≡ Some quar
    → StandsAs key token (steps_of (shard_of key shape.shards) past) quar
quar-before shape (Stepped place who request s reply) past key token quar late low =
    let home = shard_of key shape.shards in
    let steps = steps_of home past in
    maybe-step (λ l. quar_of key token l ≡ Some quar
    → StandsAs key token steps quar) (place == home) s steps (λ _. quar-was s key token steps quar (late key token low).1) (λ _ h. (quar, h, refl))
quar-before shape (Called who request reply) past key token quar late low = λ h. (quar, h, refl)
quar-before shape (Ticked now) past key token quar late low = λ h. (quar, h, refl)
quar-before shape (Swept place request None reply) past key token quar late low = λ h.
    (quar, sym (ap (quar_of key token) (unmade-steps (shard_of key shape.shards) place request reply past)) ∙ h, refl)
quar-before shape (Swept place request (Some s) reply) past key token quar late low =
    let home = shard_of key shape.shards in
    let steps = steps_of home past in
    maybe-step (λ l. quar_of key token l ≡ Some quar
    → StandsAs key token steps quar) (place == home) s steps (λ _. quar-was s key token steps quar (late key token low).1) (λ _ h. (quar, h, refl))

-- what is due stays so after an event
pub due-more : (shape : Shape) (plans : List Plan) (event : Event) (past : List Event) (due : Due)
    → DrawsLate shape past event → IsDueOf shape plans past due → IsDueOf shape plans (event ∷ past) due
due-more shape plans event past due late h =
    let home = shard_of due.key shape.shards in
    let more = next-append (terms_of shape home) (steps_in home event) (steps_of home past) in
    let low = h.drawn in
    record {
      drawn = omega (arith, low, more);
      mine = λ quar found. let was = quar-before shape event past due.key due.token quar late low found in sym was.2 ∙ h.mine was.0 was.1;
      plan = h.plan;
      at = h.at;
      may = h.may;
    }

pub sweeping-more : (shape : Shape) (plans : List Plan) (event : Event) (past : List Event) (replies : List SweepReply)
    → DrawsLate shape past event → IsSweeping shape plans past replies
    → IsSweeping shape plans (event ∷ past) replies
sweeping-more shape plans event past [] late h = tt
sweeping-more shape plans event past (sweeps.Found at due ∷ replies) late h = due-more shape plans event past due late h
sweeping-more shape plans event past (sweeps.Ended closing ∷ sweeps.Found at due ∷ replies) late h =
    (due-more shape plans event past due late h.0, closed-more due.sid.number event past h.1)
sweeping-more shape plans event past (sweeps.Ended closing ∷ other) late h = tt
sweeping-more shape plans event past (other ∷ replies) late h = tt

-- with one plan more
due-begun : (shape : Shape) (plans : List Plan) (more : Plan) (past : List Event) (due : Due)
    → IsDueOf shape plans past due → IsDueOf shape (plans ++ more ∷ []) past due
due-begun shape plans more past due h =
    record { drawn = h.drawn; mine = h.mine; plan = h.plan; at = plan-stays due.sid.number plans more h.plan h.at; may = h.may }

pub sweeping-begun : (shape : Shape) (plans : List Plan) (more : Plan) (past : List Event) (replies : List SweepReply) → IsSweeping shape plans past replies
    → IsSweeping shape (plans ++ more ∷ []) past replies
sweeping-begun shape plans more past [] h = tt
sweeping-begun shape plans more past (sweeps.Found at due ∷ replies) h = due-begun shape plans more past due h
sweeping-begun shape plans more past (sweeps.Ended closing ∷ sweeps.Found at due ∷ replies) h = (due-begun shape plans more past due h.0, h.1)
sweeping-begun shape plans more past (sweeps.Ended closing ∷ other) h = tt
sweeping-begun shape plans more past (other ∷ replies) h = tt
