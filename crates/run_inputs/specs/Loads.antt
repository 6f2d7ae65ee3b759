-- The load: the plans that are drawn from a seed, and who runs which.
use Rattle.std.specs.Prelude.{ℕ, ◌+◌, ◌*◌, ◌%◌, ◌≤◌, ◌==◌, nat_le, if◌then◌else◌, List, [], ◌∷◌, ◌++◌, map, filter, codes, decimal}
use Rattle.std.specs.List.{range_with_len}
use Rattle.rand_pcg.specs.Lcg.{Lcg, started, advance, increment_of}
use Rattle.rand_pcg.specs.Pcg.{multiplier_64, pcg32}
use Rattle.lease_table.specs.declared.records.Mode.{Mode}
use Rattle.lease_table.specs.declared.records.Mode.TheVariants.{Invalidate, Refresh, Delta}
use Rattle.rows_model.specs.declared.keys.Kind.{Kind}
use Rattle.rows_model.specs.declared.keys.Kind.TheVariants.{Profile, Friends, Pending, NFriends, NPending}
use Rattle.rows_model.specs.declared.changes.Change.{Change}
use Rattle.rows_model.specs.declared.changes.Change.TheVariants.{Invite, Accept, Reject, Thaw, Rename}
use Rattle.session_client.specs.declared.plans.Plan.{Plan}
use Rattle.session_client.specs.declared.plans.Plan.TheVariants.{Read, Write}
use Rattle.run_inputs.specs.declared.loads.WorkSpec.{WorkSpec}
use Rattle.run_inputs.specs.declared.draws.Draws.{Draws}

-- A load can be drawn from these numbers. The seed may be any below 2^64.
pub record IsWork (spec : WorkSpec) : Type 0 where
  pub some_members : 1 ≤ spec.members
  pub few_members : spec.members ≤ 100000
  pub few_sessions : spec.sessions ≤ 500000
  pub some_workers : 1 ≤ spec.workers
  pub few_workers : spec.workers ≤ 1024
  pub some_shards : 1 ≤ spec.shards
  pub few_shards : spec.shards ≤ 64

-- The generator before its first draw: PCG XSH RR 64/32 with the seed as its state, on stream 1.
unfoldable pub generator_of : ℕ → Lcg
generator_of seed = started 64 multiplier_64 seed (increment_of 64 1)

-- A generator after so many draws.
unfoldable pub after_draws : ℕ → Lcg → Lcg
after_draws count generator = advance 64 multiplier_64 count generator

-- What a generator draws next, after so many draws.
unfoldable pub draw_after : ℕ → Lcg → ℕ
draw_after count generator = (pcg32 (after_draws count generator)).0

-- The four draws that begin after so many.
abbrev pub draws_after : ℕ → Lcg → Draws
draws_after count generator = record {
  roll = draw_after count generator;
  first = draw_after (count + 1) generator;
  second = draw_after (count + 2) generator;
  manner = draw_after (count + 3) generator;
}

-- The kind of key that a draw picks.
abbrev pub kind_drawn : ℕ → Kind
kind_drawn draw =
    if draw % 5 == 0 then Profile else
    if draw % 5 == 1 then Friends else
    if draw % 5 == 2 then Pending else
    if draw % 5 == 3 then NFriends else NPending

-- The mode that a draw picks.
abbrev pub mode_drawn : ℕ → Mode
mode_drawn draw = if draw % 3 == 0 then Invalidate else if draw % 3 == 1 then Refresh else Delta

-- The first member of a session: any of so many.
abbrev pub member_drawn : ℕ → Draws → ℕ
member_drawn members draws = 1 + draws.first % members

-- The second member: one of the four that follow the first, with member 1 behind the last.
abbrev pub other_drawn : ℕ → Draws → ℕ
other_drawn members draws = 1 + (member_drawn members draws + draws.second % 4) % members

-- The change that a writer makes, by its share of a hundred: 80 to 87 an invitation, 88 to 93 an acceptance, 94
-- to 96 a rejection, 97 and 98 a thaw, and 99 a new name for the first member, which is `n` and the second one's id.
abbrev pub change_drawn : ℕ → ℕ → ℕ → Change
change_drawn share a b =
    if nat_le share 87 then Invite a b else
    if nat_le share 93 then Accept a b else
    if nat_le share 96 then Reject a b else
    if nat_le share 98 then Thaw a b else Rename a (codes "n" ++ decimal b)

-- The plan of a session by its share of a hundred, its two members and how it goes
-- about it: 0 to 79 reads a key of the first member, and the others write one change.
abbrev pub plan_drawn : ℕ → ℕ → ℕ → ℕ → Plan
plan_drawn share a b manner =
    if nat_le share 79
    then Read (record { kind = kind_drawn manner; id = a }) 0
    else Write (mode_drawn manner) (change_drawn share a b ∷ [])

-- The plan of a session by its four draws.
abbrev pub plan_of_draws : ℕ → Draws → Plan
plan_of_draws members draws =
    plan_drawn (draws.roll % 100) (member_drawn members draws) (other_drawn members draws) draws.manner

-- The plan of the session of this number, from 0: four draws a session, in order.
unfoldable pub plan_at : WorkSpec → ℕ → Plan
plan_at spec session = plan_of_draws spec.members (draws_after (4 * session) (generator_of spec.seed))

-- The sessions that a worker runs, in order: of the sessions from 0 on, those whose number modulo the number of workers is the worker's.
abbrev pub sessions_of : WorkSpec → ℕ → List ℕ
sessions_of spec worker = filter (λ session. session % spec.workers == worker) (range_with_len 0 spec.sessions)

-- The load: for each worker, from 0, the plans of its sessions.
unfoldable pub load : WorkSpec → List (List Plan)
load spec = map (λ worker. map (plan_at spec) (sessions_of spec worker)) (range_with_len 0 spec.workers)
