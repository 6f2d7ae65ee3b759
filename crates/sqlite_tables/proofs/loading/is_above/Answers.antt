use Rattle.std.proofs.Common.{◌<◌, ltb-true}
use Rattle.rows_model.specs.declared.rows.Member.{Member}
use Rattle.sqlite_tables.proofs.ListLemmas.{all_to_last}
use Rattle.sqlite_tables.proofs.loading.is_above.Goals as goal
use native.Mathlib.Omega.{arith}

pub returns-in-Some : goal.returns-in-Some
returns-in-Some c low up k d within =
    let item = c.in-Some.ensures.item in
    let below : c.in-Some.last.now.id < c.args.id = ltb-true _ _ low in
    all_to_last (λ (x y : Member). x.id < y.id) (λ (x : Member). x.id < c.args.id) c.args.members.now c.in-Some.last.now up item.3.0 item.3.1 below (λ x h. omega (arith, h, below)) k d within
