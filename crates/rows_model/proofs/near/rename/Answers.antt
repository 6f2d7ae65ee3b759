use Rattle.rows_model.proofs.NearLemmas.{renamed_is, renamed_none}
use Rattle.rows_model.proofs.near.rename.Goals as goal

pub returns-in-Some : goal.returns-in-Some
returns-in-Some c =
    let at = c.in-Some.ensures.at in
    renamed_is c.args.id c.args.name c.args.members.now c.in-Some.place c.index-members-place.result c.requires.ascend at.within
    (at.passes c.index-members-place.result)

pub returns-in_default : goal.returns-in_default
returns-in_default c = renamed_none c.args.id c.args.name c.args.members.now c.in_default.ensures.none
