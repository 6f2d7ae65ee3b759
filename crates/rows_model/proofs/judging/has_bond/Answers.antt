use Rattle.std.proofs.Common.{Bool, fold, ap, ◌∙◌}
use Rattle.std.specs.List.{list_any}
use Rattle.rows_model.specs.Judge.{bonds, still_bonds}
use Rattle.rows_model.proofs.IndexLemmas.{any_in_list, bond_is_end}
use Rattle.rows_model.proofs.judging.has_bond.Goals as goal

pub returns : goal.returns
returns c =
    let test = bonds c.args.bond c.args.a c.args.b in
    let step = still_bonds c.args.bond c.args.a c.args.b in
    c.holds_after.ensures ∙ ap (λ (b : Bool). fold step b c.args.earlier.now) (c.is_among-stood.ensures
    ∙ (ap (list_any test) c.links_of.ensures ∙ any_in_list test c.args.a c.args.rows.now.links (bond_is_end c.args.bond c.args.a c.args.b)))
