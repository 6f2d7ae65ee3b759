use Rattle.std.proofs.Common.{refl}
use Rattle.rows_model.specs.NearSteps.{IsBarredAt}
use Rattle.rows_model.proofs.NearLemmas.{zip_at, zip_none}
use Rattle.rows_model.proofs.BlockLemmas.{barred_here, barred_elsewhere}
use Rattle.rows_model.proofs.near.bar_at.Goals as goal

pub returns-in-Some : goal.returns-in-Some
returns-in-Some c =
    let d = c.index-near-place.result in
    let at = c.in-Some.ensures.at in
    zip_at (IsBarredAt c.args.id c.args.new) c.args.near.now c.args.id c.in-Some.place d _ c.requires.ascend at.within (at.passes d)
    (barred_here c.args.id c.args.new _ _ (at.passes d) refl c.put_id.ensures.items c.put_id.ensures.room refl)
    (barred_elsewhere c.args.id c.args.new)

pub returns-in_default : goal.returns-in_default
returns-in_default c =
    zip_none (IsBarredAt c.args.id c.args.new) c.args.near.now c.args.id c.in_default.ensures.none (barred_elsewhere c.args.id c.args.new)
