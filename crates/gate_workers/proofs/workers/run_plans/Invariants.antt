use Rattle.std.proofs.Common.{take, length, ◌≡◌, ◌≤◌, vec_capacity, vec_len}
use Rattle.gate_workers.specs.Rows.{IsWork, desk_view}
use Rattle.gate_workers.proofs.workers.run_plans.Given as goal

abbrev pub invariant-loop-plan : goal.invariant-loop-plan
invariant-loop-plan g l =
    let view = desk_view g.D.Desk.record_of g.D.Desk.tends g.D.Desk.worker in
    IsWork (take l.plan-index l.plans) (view l.initial.desk) (view l.desk) l.rows.items
    × (length l.plans ≤ vec_capacity l.rows) × (vec_len l.rows ≡ l.plan-index)
