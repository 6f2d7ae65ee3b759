use Rattle.std.proofs.Common.{◌≡◌, true, None, ap, sym, refl, ◌∙◌}
use Rattle.std.specs.Prelude.{if◌then◌else◌}
use Rattle.std.specs.List.{list_any}
use Rattle.case_tables.specs.declared.grids.Verdict.TheVariants.{Gone}
use Rattle.case_tables.specs.Compatibility.{verdict, raise}
use Rattle.lease_table.specs.Leases.{holding_of, is_raisable}
use Rattle.lease_table.proofs.VerdictLemmas.{cell-verdict}
use Rattle.lease_table.proofs.lookups.OnKey.raise_verdict.Goals as goal

pub returns : goal.returns
returns c =
    let quars = c.args.self.now.quars.now in
    let can : list_any (is_raisable c.args.who c.args.token) quars ≡ true = sym c.can_raise.ensures ∙ c.if-not-can_raise.false in
    cell-verdict c.lease_grid.result c.lease_grid.ensures (holding_of c.args.who 0 c.args.self.now.reader quars) raise _ _ _ c.row.ensures.row refl c.at.ensures
    ∙ ap (λ b. if b then verdict (holding_of c.args.who 0 None quars) raise else Gone) (sym can)
