use Rattle.std.proofs.Common.{rules, Vec, Global, IfOk, map, ◌++◌, refl}
use Rattle.session_client.specs.declared.plans.Plan.{Plan}
use Rattle.gate_workers.specs.Rows.{AllWork, AllWorked, AreJoined, desk_view}
use Rattle.gate_workers.proofs.WorkLemmas.{both_worked, both_ended}
use Rattle.gate_workers.proofs.workers.+fn-work_from-join_mut+arg3+work_from.Goals as goal

pub returns : goal.returns
returns g t c =
    let view = desk_view g.D.Desk.record_of g.D.Desk.tends g.D.Desk.worker in
    let first = c.split_at.result.0.now in
    let rest = c.split_at.result.1.now in
    let front = c.split_at_mut-front.result.0.now in
    let back = c.split_at_mut-front.result.1.now in
    let front' = c.front-1.given.0 in
    let back' = c.back-1.given.0 in
    let some = c.join_mut-first.result.0 in
    let others = c.join_mut-first.result.1 in
    let s : IfOk some (λ rows. AllWork (map (λ (list : Vec Plan Global). list.items) first)
    (map view front) (map view front') rows.items) = search rules in
    let o : IfOk others (λ rows. AllWork (map (λ (list : Vec Plan Global). list.items) rest)
    (map view back) (map view back') rows.items) = search rules in
    let j : IfOk c.joined.result (λ all. AreJoined all.items some others) = search rules in
    let s' : AllWorked (map (λ (list : Vec Plan Global). list.items) first) (map view front) (map view front') = search rules in
    let o' : AllWorked (map (λ (list : Vec Plan Global). list.items) rest) (map view back) (map view back') = search rules in
    record {
      work = both_worked view c.args.left.now first rest c.args.desks.now front back
          (front' ++ back') front' back' some others c.joined.result c.split_at.ensures.by_index.0 c.split_at_mut-front.ensures.value refl j s o;
      worked = both_ended view c.args.left.now first rest c.args.desks.now front back
          (front' ++ back') front' back' c.split_at.ensures.by_index.0 c.split_at_mut-front.ensures.value refl s' o';
    }
