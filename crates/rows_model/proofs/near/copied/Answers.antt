use Rattle.std.proofs.Common.{◌≡◌, refl, rules}
use Rattle.std.proofs.lemmas.List.Elements.{all_zip_more}
use Rattle.rows_model.specs.NearSteps.{IsSame}
use Rattle.rows_model.proofs.near.copied.Goals as goal

pub loop-one-preserved : goal.loop-one-preserved
loop-one-preserved c =
    let links : c.in_ok-from_slice.field-0.items ≡ c.one-item.result.links.items = search rules in
    let blocked : c.in_ok-from_slice-2.field-0.items ≡ c.one-item.result.blocked.items = search rules in
    rw c.in_ok-push.ensures.items (all_zip_more IsSame c.args.near.now c.loop-one.copy.items
    c.loop-one.one-index c.one-item.result _ c.loop-one-test.true c.one-item.is c.loop-one.invariant (record { id = refl; links = links; blocked = blocked }))
