use Rattle.std.proofs.Common.{refl}
use Rattle.rows_model.specs.NearSteps.{IsMadeAt}
use Rattle.rows_model.proofs.NearLemmas.{zip_at, zip_none, made_here, made_elsewhere}
use Rattle.rows_model.proofs.near.make_at.Goals as goal

pub returns-in-Some : goal.returns-in-Some
returns-in-Some c =
    let d = c.index-near-place.result in
    let at = c.in-Some.ensures.at in
    zip_at (IsMadeAt c.args.id c.args.change.now) c.args.near.now c.args.id c.in-Some.place d _ c.requires.ascend at.within (at.passes d)
    (made_here c.args.id c.args.change.now _ _ (at.passes d) refl c.make_in.ensures.items c.make_in.ensures.room refl)
    (made_elsewhere c.args.id c.args.change.now)

pub returns-in_default : goal.returns-in_default
returns-in_default c =
    zip_none (IsMadeAt c.args.id c.args.change.now) c.args.near.now c.args.id c.in_default.ensures.none (made_elsewhere c.args.id c.args.change.now)
