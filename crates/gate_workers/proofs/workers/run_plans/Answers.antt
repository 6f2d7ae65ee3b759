use Rattle.std.proofs.Common.{arith, ◌≡◌, ◌∷◌, ◌++◌, ◌+◌, [], List, sym, subst, take, drop, get_or, ap, ◌∙◌}
use Rattle.std.proofs.lemmas.List.{take_more, take_all}
use Rattle.session_client.specs.declared.plans.Plan.{Plan}
use Rattle.gate_workers.specs.Rows.{RowView, IsWork, desk_view}
use Rattle.gate_workers.proofs.WorkLemmas.{idle, more_work, split_at_plan, has_worked, has_stopped}
use Rattle.gate_workers.proofs.workers.run_plans.Goals as goal

pub loop-plan-preserved : goal.loop-plan-preserved
loop-plan-preserved g c =
    let view = desk_view g.D.Desk.record_of g.D.Desk.tends g.D.Desk.worker in
    let plans = c.args.plans.now in
    let i = c.loop-plan.plan-index in
    let plan = c.plan-item.result in
    let before = view c.args.desk.now in
    let after = view c.run_session.new.desk in
    let more : take (i + 1) plans ≡ take i plans ++ get_or plans i plan ∷ [] = take_more plans i plan c.loop-plan-test.true in
    let grown : take (i + 1) plans ≡ take i plans ++ plan ∷ [] = more ∙ ap (λ (last : Plan). take i plans ++ last ∷ []) (sym c.plan-item.is) in
    let work : IsWork (take i plans ++ plan ∷ []) before after (c.loop-plan.rows.items ++ c.in_ok-row.row ∷ []) =
    more_work (take i plans) plan before (view c.loop-plan.desk)
    after c.loop-plan.rows.items c.in_ok-row.row c.loop-plan.invariant.0 c.in_ok-row.ensures.row in
    let same = c.push_reserved.ensures.capacity in
    let roomy = c.loop-plan.invariant.1 in
    let more_rows = c.push_reserved.ensures.len in
    let at = c.loop-plan.invariant.2 in (
      subst (λ (some : List Plan). IsWork some before after c.push_reserved.new.self.items) {x = take i plans ++ plan ∷ []} (sym grown)
          (subst (λ (rows : List RowView). IsWork (take i plans ++ plan ∷ []) before after rows) {x = c.loop-plan.rows.items
          ++ c.in_ok-row.row ∷ []} (sym c.push_reserved.ensures.items) work),
      omega (arith, same, roomy),
      omega (arith, more_rows, at),
    )

pub returns-in_err-row-clause-worked : goal.returns-in_err-row-clause-worked
returns-in_err-row-clause-worked g c =
    let view = desk_view g.D.Desk.record_of g.D.Desk.tends g.D.Desk.worker in
    let plans = c.args.plans.now in
    let i = c.loop-plan.plan-index in
    has_stopped plans (take i plans) (drop (i + 1) plans) c.plan-item.result (view c.args.desk.now) (view c.loop-plan.desk)
    (view c.run_session.new.desk) c.loop-plan.rows.items
    (split_at_plan plans i c.plan-item.result c.loop-plan-test.true c.plan-item.is) c.loop-plan.invariant.0 c.in_err-row.ensures.stop

pub returns-clause-worked : goal.returns-clause-worked
returns-clause-worked g c =
    let view = desk_view g.D.Desk.record_of g.D.Desk.tends g.D.Desk.worker in
    let plans = c.args.plans.now in
    let before = view c.args.desk.now in
    let after = view c.loop-plan.desk in
    let all : take c.loop-plan.plan-index plans ≡ plans = take_all c.loop-plan.plan-index plans c.loop-plan-test.false in
    has_worked plans before after c.loop-plan.rows.items
    (subst (λ (some : List Plan). IsWork some before after c.loop-plan.rows.items) all c.loop-plan.invariant.0)

pub returns-in_err-rows-clause-worked : goal.returns-in_err-rows-clause-worked
returns-in_err-rows-clause-worked g c = idle c.args.plans.now (desk_view g.D.Desk.record_of g.D.Desk.tends g.D.Desk.worker c.args.desk.now)
